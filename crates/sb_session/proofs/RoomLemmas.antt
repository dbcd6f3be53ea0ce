-- Why room was wanting, by the numbers of a store.
use Rattle.std.proofs.Common.{◌≡◌, ℕ, zero, suc, ◌+◌, ◌<◌, ◌≤◌, false, List, [], ◌∷◌, length, sym, ap, subst, ◌∙◌, arith}
use Rattle.std.proofs.lemmas.List.{length-append}
use Rattle.sb_journal.specs.State.{sealed, used_of}
use Rattle.sb_log.specs.declared.geometry.Geometry.{Geometry}
use Rattle.sb_fold.specs.declared.refusal.Refusal.TheVariants as refusal
use Rattle.sb_fold.specs.declared.refusal.Room.{Room}
use Rattle.sb_fold.specs.declared.refusal.Room.TheVariants.{Data, Log, Gates}
use Rattle.sb_drive.specs.declared.space.SpaceFault.{SpaceFault}
use Rattle.sb_drive.specs.declared.space.SpaceFault.TheVariants as fault
use Rattle.sb_plain.specs.Licences.{IsForced, IsSpent}
use Rattle.sb_txn.specs.State.{State}
use Rattle.sb_transactions.specs.Commits.{FailsOn, Mounted}
use Rattle.sb_transactions.specs.Refusals.{HasRefusalCause, refusal_of}
use Rattle.sb_transactions.specs.Spent.{HasSpent, TakesNoMore}
use Rattle.sb_transactions.specs.Working.{IsPaid}
use Rattle.sb_session.specs.Sessions.{Lacks}

-- the store that lacked it is of these sizes
module _ {D : Type 0} (faults : D → ℕ) (g : Geometry) (there : Mounted D) (same : there.store.pool.geometry ≡ g) (room : Room) where
  by_fault : (f : SpaceFault) → refusal_of f ≡ refusal.Room room → (before : Mounted D) → FailsOn faults f before there → Lacks g room
  by_fault fault.Fault is before fails = absurd (let e : refusal.Fault ≡ refusal.Room room = is in cc)
  by_fault (fault.DataFull used total) is before fails =
      let e : refusal.Room (Data used total) ≡ refusal.Room room = is in
      let this : Data used total ≡ room = cc in
      subst (λ (r : Room). Lacks g r) this (fails.0, fails.1 ∙ ap (λ (a : Geometry). a.pages) same)
  by_fault (fault.TempFull used total) is before fails = absurd fails
  by_fault (fault.LogFull used more total) is before fails =
      let e : refusal.Room (Log used more total) ≡ refusal.Room room = is in
      let this : Log used more total ≡ room = cc in
      subst (λ (r : Room). Lacks g r) this (fails.1, fails.2 ∙ ap (λ (a : Geometry). a.log) same, fails.3)
  by_fault (fault.GatesFull used total) is before fails =
      let e : refusal.Room (Gates used total) ≡ refusal.Room room = is in
      let this : Gates used total ≡ room = cc in
      subst (λ (r : Room). Lacks g r) this (fails.2, fails.1)
  by_fault (fault.Damaged page) is before fails = absurd (let e : refusal.Damaged page ≡ refusal.Room room = is in cc)
  by_fault fault.Down is before fails = absurd (let e : refusal.Fault ≡ refusal.Room room = is in cc)
  by_fault fault.NoMemory is before fails = absurd (let e : refusal.NoMemory ≡ refusal.Room room = is in cc)

  pub Lacks-there : HasRefusalCause (FailsOn faults) (refusal.Room room) there → Lacks g room
  Lacks-there cause = by_fault cause.fault cause.is cause.before cause.fails

-- ---- the log
-- a change wants more bytes than it has left
record IsLogShort (used more total : ℕ) (s : State) : Type 0 where
  used_is : used ≡ used_of s.journal
  small : more ≤ 13424
  whole : total ≡ s.pool.geometry.log
  short : total < used + more

-- no gate is left but the last
record AreGatesShort (used : ℕ) (s : State) : Type 0 where
  used_is : used ≡ length s.journal.lens
  short : 65534 < used

module _ {D : Type 0} (faults : D → ℕ) (there : Mounted D) where
  log_by : (used more total : ℕ) (f : SpaceFault) → refusal_of f ≡ refusal.Room (Log used more total) → (before : Mounted D) → FailsOn faults f before there → IsLogShort used more total there.store
  log_by used more total fault.Fault is before fails = absurd (let e : refusal.Fault ≡ refusal.Room (Log used more total) = is in cc)
  log_by used more total (fault.DataFull u t) is before fails = absurd (let e : refusal.Room (Data u t) ≡ refusal.Room (Log used more total) = is in cc)
  log_by used more total (fault.TempFull u t) is before fails = absurd fails
  log_by used more total (fault.LogFull u n t) is before fails =
      let e : refusal.Room (Log u n t) ≡ refusal.Room (Log used more total) = is in
      let one : u ≡ used = cc in
      let two : n ≡ more = cc in
      let three : t ≡ total = cc in
      record { used_is = sym one ∙ fails.0; small = omega (arith, two, fails.1); whole = sym three ∙ fails.2; short = omega (arith, one, two, three, fails.3) }
  log_by used more total (fault.GatesFull u t) is before fails = absurd (let e : refusal.Room (Gates u t) ≡ refusal.Room (Log used more total) = is in cc)
  log_by used more total (fault.Damaged page) is before fails = absurd (let e : refusal.Damaged page ≡ refusal.Room (Log used more total) = is in cc)
  log_by used more total fault.Down is before fails = absurd (let e : refusal.Fault ≡ refusal.Room (Log used more total) = is in cc)
  log_by used more total fault.NoMemory is before fails = absurd (let e : refusal.NoMemory ≡ refusal.Room (Log used more total) = is in cc)

  gates_by : (used total : ℕ) (f : SpaceFault) → refusal_of f ≡ refusal.Room (Gates used total) → (before : Mounted D) → FailsOn faults f before there → AreGatesShort used there.store
  gates_by used total fault.Fault is before fails = absurd (let e : refusal.Fault ≡ refusal.Room (Gates used total) = is in cc)
  gates_by used total (fault.DataFull u t) is before fails = absurd (let e : refusal.Room (Data u t) ≡ refusal.Room (Gates used total) = is in cc)
  gates_by used total (fault.TempFull u t) is before fails = absurd fails
  gates_by used total (fault.LogFull u n t) is before fails = absurd (let e : refusal.Room (Log u n t) ≡ refusal.Room (Gates used total) = is in cc)
  gates_by used total (fault.GatesFull u t) is before fails =
      let e : refusal.Room (Gates u t) ≡ refusal.Room (Gates used total) = is in
      let one : u ≡ used = cc in
      record { used_is = sym one ∙ fails.0; short = omega (arith, one, fails.2) }
  gates_by used total (fault.Damaged page) is before fails = absurd (let e : refusal.Damaged page ≡ refusal.Room (Gates used total) = is in cc)
  gates_by used total fault.Down is before fails = absurd (let e : refusal.Fault ≡ refusal.Room (Gates used total) = is in cc)
  gates_by used total fault.NoMemory is before fails = absurd (let e : refusal.NoMemory ≡ refusal.Room (Gates used total) = is in cc)

  -- it is short only of what was spent: behind its first half no more is taken than the changes take, which are fewer than what was paid for
  pub log_spent : (used more total spent : ℕ) → HasRefusalCause (FailsOn faults) (refusal.Room (Log used more total)) there → there.store.book.down ≡ false → IsPaid HasSpent 0 spent there.store
      → IsSpent total spent
  log_spent used more total spent cause up paid =
      let short = log_by used more total cause.fault cause.is cause.before cause.fails in
      let takes : TakesNoMore paid.changes there.store = paid.spent up in
      omega (arith, short.used_is, short.small, short.whole, short.short, takes.bytes, paid.within)

  pub gates_spent : (used total spent : ℕ) → HasRefusalCause (FailsOn faults) (refusal.Room (Gates used total)) there → there.store.book.down ≡ false → IsPaid HasSpent 0 spent there.store → IsForced spent
  gates_spent used total spent cause up paid =
      let short = gates_by used total cause.fault cause.is cause.before cause.fails in
      let takes : TakesNoMore paid.changes there.store = paid.spent up in
      omega (arith, short.used_is, short.short, lens_sealed there.store.journal.pending there.store.journal.lens, takes.gates, paid.within)
    where
      lens_sealed : (pending : ℕ) (lens : List ℕ) → length lens ≤ length (sealed pending lens)
      lens_sealed zero lens = omega arith
      lens_sealed (suc n) lens = omega (arith, length-append lens (suc n ∷ []))

-- and of more
pub log_more : (total few many : ℕ) → few ≤ many → IsSpent total few → IsSpent total many
log_more total few many less is = omega (arith, less, is)

pub gates_more : (few many : ℕ) → few ≤ many → IsForced few → IsForced many
gates_more few many less is = omega (arith, less, is)
