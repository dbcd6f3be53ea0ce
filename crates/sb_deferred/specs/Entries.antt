-- When two entries are one, as a test with its laws, and a hash that respects it.
use Rattle.std.specs.Prelude.{◌≡◌, Bool, true, false, cond, List, ℕ, ◌++◌, bytes_eq}
use Rattle.std.proofs.Common.{refl, sym, ap, ◌∙◌, true≢false}
use Rattle.std.specs.Bool.{Decides}
use Rattle.std.specs.Cmp.{IsEquivalence, IsPartialEquivalence, decided, partial_equiv_from_equiv}
use Rattle.std.specs.Hash as fed
use Rattle.sb_value.specs.Equal.{bytes_same}
use Rattle.sb_fold.specs.Outcome.{Entry, is_entry}

-- what a hasher is fed of an entry
abbrev pub written : Entry → List (List ℕ)
written e = fed.str e.relation ++ fed.str e.name ++ fed.slice fed.u8 e.entry

-- three tests in a row that decide three facts
three : (a b c : Bool) (A B C : Type 0) → Decides a A → Decides b B → Decides c C → cond a (cond b c false) false ≡ true → A × B × C
three true true c A B C p q r e = (p.0 refl, q.0 refl, r.0 e)
three true false c A B C p q r e = absurd (true≢false (sym e))
three false b c A B C p q r e = absurd (true≢false (sym e))

is_entry-same : (a b : Entry) → is_entry a b ≡ true → a ≡ b
is_entry-same a b e =
    let all = three (bytes_eq a.relation b.relation) (bytes_eq a.name b.name) (bytes_eq a.entry b.entry)
    (a.relation ≡ b.relation) (a.name ≡ b.name) (a.entry ≡ b.entry)
    (bytes_same a.relation b.relation) (bytes_same a.name b.name) (bytes_same a.entry b.entry) e in
    λ i. record { relation = all.0 i; name = all.1 i; entry = all.2 i }

is_entry-self : (a b : Entry) → a ≡ b → is_entry a b ≡ true
is_entry-self a b e =
    let same = (bytes_same a.relation b.relation).1 (ap (λ (e : Entry). e.relation) e) in
    ap (λ t. cond t (cond (bytes_eq a.name b.name) (bytes_eq a.entry b.entry) false) false) same
    ∙ ap (λ t. cond t (bytes_eq a.entry b.entry) false) ((bytes_same a.name b.name).1 (ap (λ (e : Entry). e.name) e))
    ∙ (bytes_same a.entry b.entry).1 (ap (λ (e : Entry). e.entry) e)

-- the test is true exactly where they are the same
pub entry_same : (a b : Entry) → Decides (is_entry a b) (a ≡ b)
entry_same a b = (is_entry-same a b, is_entry-self a b)

pub is_entry_equiv : IsEquivalence is_entry
is_entry_equiv = decided is_entry entry_same

pub is_entry_partial : IsPartialEquivalence is_entry
is_entry_partial = partial_equiv_from_equiv is_entry_equiv

-- entries that are the same are hashed alike
pub entries_alike : (a b : Entry) → is_entry a b ≡ true → written a ≡ written b
entries_alike a b e = ap written ((entry_same a b).0 e)
