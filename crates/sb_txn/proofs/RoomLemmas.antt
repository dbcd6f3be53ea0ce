-- The bytes and the gates that a journal's chunks take.
use Rattle.std.proofs.Common.{◌≡◌, inl, inr, ⊎_elim, ℕ, zero, suc, ◌+◌, ◌<◌, ◌≤◌, List, length, refl, sym, ◌∙◌, ap, subst, arith}
use Rattle.std.proofs.lemmas.List.{length_push}
use Rattle.sb_journal.specs.Chunks.{bytes_of}
use Rattle.sb_journal.specs.State.{State, room_of, used_of, need_of, sealed, after_append, after_force}
use Rattle.sb_journal.proofs.ChunkLemmas.{bytes_of_more}
use Rattle.sb_pool.specs.Calls.{IsSameOrForced}
use Rattle.sb_txn.specs.Clauses.{Grows, IsLogged}
use Rattle.sb_txn.specs.State as store
use Rattle.sb_txn.specs.Steps.{filled}
use Rattle.sb_txn.specs.Tied.{gates_used}

-- ---- a force
used_force : (lens : List ℕ) (pending : ℕ) → bytes_of (sealed pending lens) + 0 ≡ bytes_of lens + room_of pending
used_force lens zero = refl
used_force lens (suc n) = let e = bytes_of_more lens (suc n) in omega arith

-- the chunks and the pending one take as many bytes, and as many gates
pub record SameRoom (j k : State) : Type 0 where
  pub used : used_of k ≡ used_of j
  pub gates : gates_used k ≡ gates_used j
  pub gates_is : k.gates ≡ j.gates
  pub log_is : k.log ≡ j.log
  pub up : k.failed ≡ j.failed

pub SameRoom-none : (j : State) → SameRoom j j
SameRoom-none j = record { used = refl; gates = refl; gates_is = refl; log_is = refl; up = refl }

pub SameRoom-force : (j : State) → SameRoom j (after_force j)
SameRoom-force j = record { used = used_force j.lens j.pending; gates = refl; gates_is = refl; log_is = refl; up = refl }

pub SameRoom-forced : (j k : State) → IsSameOrForced j k → SameRoom j k
SameRoom-forced j k same = ⊎_elim
    (λ (e : k ≡ j). subst (λ (l : State). SameRoom j l) (sym e) (SameRoom-none j))
    (λ (e : k ≡ after_force j). subst (λ (l : State). SameRoom j l) (sym e) (SameRoom-force j))
    same

-- ---- gates
length-sealed : (pending : ℕ) (lens : List ℕ) → (length lens ≤ length (sealed pending lens)) × (length (sealed pending lens) ≤ length lens + 1)
length-sealed zero lens = (omega arith, omega arith)
length-sealed (suc n) lens = let e = length_push lens (suc n) in (omega arith, omega arith)

pub lens-gates : (j : State) → length j.lens ≤ gates_used j
lens-gates j = (length-sealed j.pending j.lens).0

pub gates-lens : (j : State) → gates_used j ≤ length j.lens + 1
gates-lens j = (length-sealed j.pending j.lens).1

-- where as many gates are used, one chunk more may be there
pub lens-same : (j k : State) → SameRoom j k → length k.lens ≤ length j.lens + 1
lens-same j k same = let a = lens-gates k in let b = gates-lens j in let e = same.gates in omega arith

-- ---- an append
need_more : (pending n : ℕ) → room_of pending + need_of pending n ≡ 4 + pending + n
need_more zero n = omega arith
need_more (suc p) n = omega arith

pub need_filled : (j : State) (n : ℕ) → used_of j + need_of j.pending n ≡ filled j + n
need_filled j n = let e = need_more j.pending n in omega arith

room_of-suc : (n : ℕ) → 0 < n → room_of n ≡ 4 + n
room_of-suc zero some = absurd (omega arith)
room_of-suc (suc n) some = refl

room_of-most : (n : ℕ) → (room_of n ≤ 4 + n) × (n ≤ room_of n)
room_of-most zero = (omega arith, omega arith)
room_of-most (suc n) = (omega arith, omega arith)

pub filled-used : (j : State) → (filled j ≤ used_of j + 4) × (used_of j ≤ filled j)
filled-used j = let e = room_of-most j.pending in (omega arith, omega arith)

-- so many bytes more, which are some
pub used-append : (j : State) (n : ℕ) → 0 < n → used_of (after_append n j) ≡ filled j + n
used-append j n some = let e = room_of-suc (j.pending + n) (omega arith) in omega arith

-- with something pending the chunks will be one more
pub gates-append : (j : State) (n : ℕ) → 0 < n → gates_used (after_append n j) ≡ length j.lens + 1
gates-append j n some = sealed_one (j.pending + n) j.lens (omega arith)
  where
    sealed_one : (p : ℕ) (lens : List ℕ) → 0 < p → length (sealed p lens) ≡ length lens + 1
    sealed_one zero lens more = absurd (omega arith)
    sealed_one (suc p) lens more = length_push lens (suc p)

-- ---- what calls add
forced_twice : (j : State) → after_force (after_force j) ≡ after_force j
forced_twice j = refl

pub IsSameOrForced-then : (j k l : State) → IsSameOrForced j k → IsSameOrForced k l → IsSameOrForced j l
IsSameOrForced-then j k l one two = ⊎_elim
    (λ (a : k ≡ j). ⊎_elim
    (λ (b : l ≡ k). inl (b ∙ a))
    (λ (b : l ≡ after_force k). inr (b ∙ ap after_force a))
    two)
    (λ (a : k ≡ after_force j). ⊎_elim
    (λ (b : l ≡ k). inr (b ∙ a))
    (λ (b : l ≡ after_force k). inr (b ∙ ap after_force a ∙ forced_twice j))
    two)
    one

pub IsLogged-of : (j from k : State) (n : ℕ) → 0 < n → IsSameOrForced j from → IsSameOrForced (after_append n from) k → IsLogged j k n
IsLogged-of j from k n some first then = record {
  from = from;
  first = first;
  then = then;
  bytes =
      let a = (SameRoom-forced j from first).used in
      let b = (SameRoom-forced (after_append n from) k then).used in
      let c = used-append from n some in
      let d = need_filled from n in
      omega arith;
}

-- a call before it that leaves the journal, or forces what was pending
pub IsLogged-behind : (j m k : State) (n : ℕ) → IsSameOrForced j m → IsLogged m k n → IsLogged j k n
IsLogged-behind j m k n before logged = record {
  from = logged.from;
  first = IsSameOrForced-then j m logged.from before logged.first;
  then = logged.then;
  bytes = let a = (SameRoom-forced j m before).used in let b = logged.bytes in omega arith;
}

need_most : (pending n : ℕ) → (need_of pending n ≤ 4 + n) × (n ≤ need_of pending n)
need_most zero n = (omega arith, omega arith)
need_most (suc p) n = (omega arith, omega arith)

pub Grows-rest : (s t : store.State) → IsSameOrForced s.journal t.journal → Grows s t 0 0
Grows-rest s t same =
    let room = SameRoom-forced s.journal t.journal same in
    let u = room.used in
    let g = room.gates in
    record { bytes = omega arith; least = omega arith; gates = omega arith }

pub Grows-sum : (s t u : store.State) (a b c d : ℕ) → Grows s t a b → Grows t u c d → Grows s u (a + c) (b + d)
Grows-sum s t u a b c d one two = record {
  bytes = let x = one.bytes in let y = two.bytes in omega arith;
  least = let x = one.least in let y = two.least in omega arith;
  gates = let x = one.gates in let y = two.gates in omega arith;
}

pub chunks-grow : (s t : store.State) (a b : ℕ) → Grows s t a b → length t.journal.lens ≤ length s.journal.lens + (b + 1)
chunks-grow s t a b grows = let x = grows.gates in let y = lens-gates t.journal in let z = gates-lens s.journal in omega arith

pub Grows-logged : (s t : store.State) (n : ℕ) → 0 < n → n ≤ 12396 → IsLogged s.journal t.journal n → Grows s t 12400 3
Grows-logged s t n some most logged =
    let e = logged.bytes in
    let m = need_most logged.from.pending n in
    let lo = m.0 in
    let hi = m.1 in
    let a = (SameRoom-forced s.journal logged.from logged.first).gates in
    let b = (SameRoom-forced (after_append n logged.from) t.journal logged.then).gates in
    let c = gates-append logged.from n some in
    let d = lens-gates logged.from in
    record { bytes = omega arith; least = omega arith; gates = omega arith }

pub least-logged : (j k : State) (n : ℕ) → IsLogged j k n → used_of j + n ≤ used_of k
least-logged j k n logged = let e = logged.bytes in let m = (need_most logged.from.pending n).1 in omega arith
