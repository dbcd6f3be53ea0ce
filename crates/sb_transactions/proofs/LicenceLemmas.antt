-- Want of a page of a store: how what an engine says of its space comes to what is said of the store.
use Rattle.std.proofs.Common.{◌≡◌, ℕ, zero, suc, ◌+◌, ◌<◌, ◌≤◌, nat_lt, Bool, true, false, cond, not, List, [], ◌∷◌, length, filter, Option, refl, sym, ap, subst, ◌∙◌, arith}
use Rattle.std.proofs.lemmas.Bool.{false≢true, ne_eqb}
use Rattle.sb_disk.specs.Disk.{Story}
use Rattle.sb_relation.specs.Fits.{is_empty}
use Rattle.sb_fold.specs.declared.refusal.Refusal.{Refusal}
use Rattle.sb_fold.specs.declared.refusal.Refusal.TheVariants as refusal
use Rattle.sb_fold.specs.declared.refusal.Room.TheVariants.{Data, Temp, Log, Gates}
use Rattle.sb_fold.specs.Outcome.{Trail}
use Rattle.sb_registry.specs.Boxes.{Meanings}
use Rattle.sb_drive.specs.Pages.{Pages, page_count, page_numbers}
use Rattle.sb_drive.specs.Slots.{nobodys, bytes_for, owned}
use Rattle.sb_drive.specs.declared.space.SpaceFault.{SpaceFault}
use Rattle.sb_drive.specs.declared.space.SpaceFault.TheVariants as fault
use Rattle.sb_space.specs.declared.durable.Durable.{Durable}
use Rattle.sb_space.specs.Table.{owner_at, shown, slots_in, table_len}
use Rattle.sb_space.specs.Works.{Fails}
use Rattle.sb_tables.specs.Refusals.{HasRefusalCause, refusal_of}
use Rattle.sb_tables.specs.Working.{IsLicensed, IsShortAt, IsShortOf, extensions_of}
use Rattle.sb_transactions.specs.Calls.{IsOnlyFault}
use Rattle.sb_transactions.specs.Commits.{FailsOn, IsLicensedOn, IsStoppedOn, Mounted}
use Rattle.sb_transactions.specs.Driven.{HasLent, LeadsLent}
use Rattle.std.specs.List.{Any, range_with_len}

-- ---- the pages of the owner table show no bytes
not_table : (o : ℕ) (bytes : List ℕ) → bytes_for 1 (shown o bytes) ≡ []
not_table zero bytes = refl
not_table (suc zero) bytes = refl
not_table (suc (suc o)) bytes = ap (λ b. cond b bytes []) (ne_eqb (suc (suc o)) 1 (λ is. omega (arith, is)))

table_shows : (pages : ℕ) (now : ℕ → List ℕ) (n : ℕ) → owned (slots_in pages now) 1 n ≡ []
table_shows pages now n = by (nat_lt n pages)
  where
    by : (b : Bool) → bytes_for 1 (cond b (shown (owner_at now n) (now n)) nobodys) ≡ []
    by true = not_table (owner_at now n) (now n)
    by false = refl

none_left : (P : Pages) → ((n : ℕ) → P n ≡ []) → (ns : List ℕ) → length (filter (λ n. not (is_empty (P n))) ns) ≡ 0
none_left P none [] = refl
none_left P none (n ∷ ns) =
    ap (λ (bytes : List ℕ). length (cond (not (is_empty bytes)) (n ∷ filter (λ k. not (is_empty (P k))) ns) (filter (λ k. not (is_empty (P k))) ns))) (none n)
    ∙ none_left P none ns

table_counts : (pages : ℕ) (now : ℕ → List ℕ) → page_count (owned (slots_in pages now) 1) ≡ 0
unfolding page_numbers
table_counts pages now = none_left (owned (slots_in pages now) 1) (table_shows pages now) (range_with_len 0 65536)

-- ---- the whole that is named is that of the store
module _ {D : Type 0} (faults : D → ℕ) (b : Durable D) where
  abbrev FailsHere : SpaceFault → Durable D → Type 0
  FailsHere e a = Fails faults e a.disk.now b.disk.now a.store.now b.store.now

  total_of : (e : SpaceFault) (used total : ℕ) → refusal_of e ≡ refusal.Room (Data used total) → (a : Durable D) → FailsHere e a → total ≡ b.store.now.pool.geometry.pages
  total_of fault.Fault used total is a fails = absurd (let e : refusal.Fault ≡ refusal.Room (Data used total) = is in cc)
  total_of (fault.DataFull u t) used total is a fails =
      let e : refusal.Room (Data u t) ≡ refusal.Room (Data used total) = is in
      let this : t ≡ total = cc in
      sym this ∙ fails.1
  total_of (fault.TempFull u t) used total is a fails = absurd (let e : refusal.Room (Temp u t) ≡ refusal.Room (Data used total) = is in cc)
  total_of (fault.LogFull u n t) used total is a fails = absurd (let e : refusal.Room (Log u n t) ≡ refusal.Room (Data used total) = is in cc)
  total_of (fault.GatesFull u t) used total is a fails = absurd (let e : refusal.Room (Gates u t) ≡ refusal.Room (Data used total) = is in cc)
  total_of (fault.Damaged page) used total is a fails = absurd (let e : refusal.Damaged page ≡ refusal.Room (Data used total) = is in cc)
  total_of fault.Down used total is a fails = absurd (let e : refusal.Fault ≡ refusal.Room (Data used total) = is in cc)
  total_of fault.NoMemory used total is a fails = absurd (let e : refusal.NoMemory ≡ refusal.Room (Data used total) = is in cc)

-- ---- the licence
abbrev pub table_of : {D : Type 0} → Durable D → ℕ
table_of d = table_len d.store.now.pool.geometry.pages

module _ {D : Type 0} (told : D → Option Story) (len faults : D → ℕ) (m : Meanings) (b : Durable D) (trail : Trail) where
  shorter : (total : ℕ) → IsShortAt (HasLent told len) (LeadsLent told len faults) table_of (extensions_of m) trail total b
      → Any (IsShortOf total (table_len b.store.now.pool.geometry.pages) (extensions_of m)) trail.points
  shorter total at =
      let counts = ap (λ s. page_count (owned s 1)) at.has.slots ∙ table_counts at.space.store.now.pool.geometry.pages at.has.now in
      let pages = ap (λ g. table_len g.pages) (at.leads.1.works.geometry) in
      let same : table_of at.space + page_count (owned at.slots 1) ≡ table_len b.store.now.pool.geometry.pages = omega (arith, counts, pages) in
      subst (λ n. Any (IsShortOf total n (extensions_of m)) trail.points) same at.short

  pub licensed-lent : (r : Refusal) → b.store.now.pool.geometry.pages ≤ 65536 → HasRefusalCause (λ e a c. Fails faults e a.disk.now c.disk.now a.store.now c.store.now) r b
      → IsLicensed (HasLent told len) (LeadsLent told len faults) table_of m r trail b → IsLicensedOn m b.store.now.pool.geometry.pages r trail
  licensed-lent (refusal.Room (Data used total)) few cause licensed =
      let whole = total_of faults b cause.fault used total cause.is cause.before cause.fails in
      shorter total (licensed (omega (arith, whole, few)))
  licensed-lent r few cause licensed = tt

-- a fault wants no licence, and behind it the store is down, so that nothing is told of what was spent
pub fault_stops : {D : Type 0} (faults : D → ℕ) (m : Meanings) (r : Refusal) (trail : Trail) (x : Mounted D) → IsOnlyFault r x.store → 0 < trail.spent → HasRefusalCause (FailsOn faults) r x
    → IsStoppedOn faults m r trail x
fault_stops faults m r trail x only some cause = record {
  cause = cause;
  licensed = subst (λ q. IsLicensedOn m x.store.pool.geometry.pages q trail) (sym only.is) tt;
  paid = record { changes = 0; within = omega (arith, some); spent = λ up. absurd (false≢true (sym up ∙ only.down)) };
}
