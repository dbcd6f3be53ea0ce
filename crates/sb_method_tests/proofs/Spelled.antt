-- Entries in lists of borrowed ones, and inner pages by the tests of their heads.
use Rattle.std.proofs.Common.{◌≡◌, ℕ, ◌<◌, Bool, true, false, ◌&&◌, List, [], ◌∷◌, length, map, Some, refl, ap, sym, ◌∙◌, arith}
use Rattle.std.specs.Prelude.{nat_eq, nat_lt}
use Rattle.std.specs.Borrow.{Bor}
use Rattle.std.specs.List.{list_all}
use Rattle.std.proofs.lemmas.Bool.Decides.{nat_tests}
use Rattle.sb_node.specs.Entries.{Entry}
use Rattle.sb_node.specs.Page.{Node}
use Rattle.sb_node.specs.Walk.{entry_read}
use Rattle.sb_forms.specs.Read.{all_by, is_bound, is_inner}

pub all_read : (t : Entry → Bool) (xs : List (Bor (List ℕ) × Bor (List ℕ))) → list_all (λ x. t (entry_read x)) xs ≡ all_by t (map entry_read xs)
all_read t [] = refl
all_read t (x ∷ xs) = ap (λ b. t (entry_read x) && b) (all_read t xs)

-- ---- an inner page
not_all : (a b c d : Bool) → ((a && b) && c) ≡ false → ((a && (b && d)) && c) ≡ false
not_all true true c true e = e
not_all true true c false e = refl
not_all true false c d e = refl
not_all false b c d e = refl

pub not_inner : (l : ℕ) (n : Node) → n.head.count ≡ length n.entries → ((nat_eq n.head.kind 3 && nat_eq n.head.level l) && nat_lt 0 n.head.count) ≡ false → (is_inner l (Some n) && nat_lt 0 (length n.entries)) ≡ false
not_inner l n count e =
    not_all (nat_eq n.head.kind 3) (nat_eq n.head.level l) (nat_lt 0 (length n.entries)) (all_by is_bound n.entries)
    (ap (λ k. (nat_eq n.head.kind 3 && nat_eq n.head.level l) && nat_lt 0 k) (sym count) ∙ e)

inner_all : (a b c d : Bool) → ((a && b) && c) ≡ true → d ≡ true → ((a && (b && d)) ≡ true) × (c ≡ true)
inner_all true true true d e f = (f, refl)
inner_all true true false d e f = absurd (cc)
inner_all true false c d e f = absurd (cc)
inner_all false b c d e f = absurd (cc)

less_some : (n : ℕ) → nat_lt 0 n ≡ true → 0 < n
less_some n e = grind (arith, nat_tests)

pub inner_is : (l : ℕ) (n : Node) → n.head.count ≡ length n.entries → ((nat_eq n.head.kind 3 && nat_eq n.head.level l) && nat_lt 0 n.head.count) ≡ true → all_by is_bound n.entries ≡ true
    → (is_inner l (Some n) ≡ true) × (0 < length n.entries)
inner_is l n count e bounds =
    let both = inner_all (nat_eq n.head.kind 3) (nat_eq n.head.level l) (nat_lt 0 n.head.count) (all_by is_bound n.entries) e bounds in
    (both.0, less_some (length n.entries) (ap (λ k. nat_lt 0 k) (sym count) ∙ both.1))
