-- The first refusal, by groups.
use Rattle.std.proofs.Common.{◌≡◌, List, [], ◌∷◌, ◌++◌, Option, Some, None, refl, sym, ap, ◌∙◌}
use Rattle.std.specs.Option.{option_or}
use Rattle.sb_fold.specs.declared.refusal.Refusal.{Refusal}
use Rattle.sb_fold.specs.Extensions.{Extensions}
use Rattle.sb_plain.specs.declared.command.Command.{Command}
use Rattle.sb_plain.specs.Refusing.{first_of, refused}
use Rattle.sb_plain.specs.State.{State}
use Rattle.sb_refusals.specs.Refusing.{place_tests, name_tests, code_tests, kind_tests, seen_tests}

first_of-append : (xs ys : List (Option Refusal)) → first_of (xs ++ ys) ≡ option_or (first_of xs) (first_of ys)
first_of-append [] ys = refl
first_of-append (None ∷ xs) ys = first_of-append xs ys
first_of-append (Some r ∷ xs) ys = refl

-- one that comes in the first part, and none
comes : (xs ys : List (Option Refusal)) (r : Refusal) → Some r ≡ first_of xs → Some r ≡ first_of (xs ++ ys)
comes xs ys r e = ap (λ o. option_or o (first_of ys)) e ∙ sym (first_of-append xs ys)

passes : (xs ys : List (Option Refusal)) (r : Option Refusal) → None ≡ first_of xs → r ≡ first_of ys → r ≡ first_of (xs ++ ys)
passes xs ys r none e = e ∙ ap (λ o. option_or o (first_of ys)) none ∙ sym (first_of-append xs ys)

pub by_names : (ext : Extensions) (s : State) (c : Command) (o : Option Refusal) (r : Refusal) → o ≡ first_of (name_tests s c) → o ≡ Some r → Some r ≡ first_of (seen_tests ext s c)
by_names ext s c o r e is = comes (name_tests s c) (code_tests s c ++ kind_tests ext s c) r (sym is ∙ e)

pub by_codes : (ext : Extensions) (s : State) (c : Command) (o p : Option Refusal) (r : Refusal) → o ≡ first_of (name_tests s c) → o ≡ None
    → p ≡ first_of (code_tests s c) → p ≡ Some r → Some r ≡ first_of (seen_tests ext s c)
by_codes ext s c o p r e none f is =
    passes (name_tests s c) (code_tests s c ++ kind_tests ext s c) (Some r) (sym none ∙ e) (comes (code_tests s c) (kind_tests ext s c) r (sym is ∙ f))

pub by_kinds : (ext : Extensions) (s : State) (c : Command) (o p r : Option Refusal) → o ≡ first_of (name_tests s c) → o ≡ None → p ≡ first_of (code_tests s c) → p ≡ None
    → r ≡ first_of (kind_tests ext s c) → r ≡ first_of (seen_tests ext s c)
by_kinds ext s c o p r e none f no_code g =
    passes (name_tests s c) (code_tests s c ++ kind_tests ext s c) r (sym none ∙ e) (passes (code_tests s c) (kind_tests ext s c) r (sym no_code ∙ f) g)

pub behind_place : (ext : Extensions) (s : State) (c : Command) (r : Option Refusal) → None ≡ first_of (place_tests s c) → r ≡ first_of (seen_tests ext s c) → r ≡ refused ext s c
behind_place ext s c r none e = passes (place_tests s c) (seen_tests ext s c) r none e
