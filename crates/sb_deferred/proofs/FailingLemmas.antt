-- Where an entry fails, its rule doesn't hold, and a mirror holds where its main instance does.
use Rattle.std.proofs.Common.{◌≡◌, Bool, true, false, not, ◌&&◌, List, [], ◌∷◌, Some, None, sym, ap, inl, inr}
use Rattle.std.specs.List.{list_any, list_all}
use Rattle.std.proofs.lemmas.Bool.{true≢false, and_parts, and_left, and_right, or_cases, not-true}
use Rattle.std.proofs.lemmas.Option.{same_Some}
use Rattle.sb_pred.specs.Truth.{truth}
use Rattle.sb_rule.specs.declared.rule.Side.TheVariants.{Main, Mirror}
use Rattle.sb_rule.specs.declared.rule.Rule.{Rule}
use Rattle.sb_rule.specs.declared.rule.Rule.TheVariants.{TreeIndex, HashIndex, JoinIndex, Stats, Check, Refers, Trigger, Foreign}
use Rattle.sb_relation.specs.Db.{Name, Key, Row, rows_at, schema_at}
use Rattle.sb_relation.specs.Rules.{has_row_with, values_at, holds, spells}
use Rattle.sb_deferred.specs.CompleteLaws.{AnEntryThatFails, MirrorsHoldAlike}

-- where one fails, not all pass
one_fails : {A : Type 0} (is_meant test : A → Bool) (xs : List A) → list_any (λ x. is_meant x && not (test x)) xs ≡ true → list_all test xs ≡ false
one_fails is_meant test [] some = absurd (true≢false (sym some))
one_fails is_meant test (x ∷ xs) some = elim (or_cases (is_meant x && not (test x)) (list_any (λ y. is_meant y && not (test y)) xs) some) [
  | inl here ↦ and_left (test x) (list_all test xs) (not-true (test x) (and_parts (is_meant x) (not (test x)) here).1)
  | inr later ↦ and_right (test x) (list_all test xs) (one_fails is_meant test xs later)
]

pub entry-fails : AnEntryThatFails
entry-fails box db relation (Check pred deferred) entry fails =
    one_fails (λ (row : Key × Row). spells entry row.1) (λ (row : Key × Row). truth (schema_at db relation) None (Some row.1) pred) (rows_at db relation) fails
entry-fails box db relation (Refers Main columns other others mode deferred) entry fails =
    one_fails (λ (row : Key × Row). spells entry (values_at db relation columns row.1)) (λ (row : Key × Row). has_row_with db other others (values_at db relation columns row.1)) (rows_at db relation) fails
entry-fails box db relation (Refers Mirror columns other others mode deferred) entry fails =
    one_fails (λ (row : Key × Row). spells entry (values_at db other others row.1)) (λ (row : Key × Row). has_row_with db relation columns (values_at db other others row.1)) (rows_at db other) fails
entry-fails box db relation (TreeIndex columns unique) entry fails = absurd (true≢false (sym fails))
entry-fails box db relation (HashIndex columns) entry fails = absurd (true≢false (sym fails))
entry-fails box db relation (JoinIndex side columns other others) entry fails = absurd (true≢false (sym fails))
entry-fails box db relation (Stats column low width) entry fails = absurd (true≢false (sym fails))
entry-fails box db relation (Trigger on pred act deferred) entry fails = absurd (true≢false (sym fails))
entry-fails box db relation (Foreign code desc) entry fails = absurd (true≢false (sym fails))

pub mirrors-alike : MirrorsHoldAlike
mirrors-alike box db relation other (JoinIndex Main columns o others) mirror is =
    ap (λ (m : Name × Rule). holds box db m.0 m.1) (sym (same_Some {A = Name × Rule} (o, JoinIndex Mirror others relation columns) (other, mirror) is))
mirrors-alike box db relation other (Refers Main columns o others mode deferred) mirror is =
    ap (λ (m : Name × Rule). holds box db m.0 m.1) (sym (same_Some {A = Name × Rule} (o, Refers Mirror others relation columns mode deferred) (other, mirror) is))
mirrors-alike box db relation other (JoinIndex Mirror columns o others) mirror is = cc
mirrors-alike box db relation other (Refers Mirror columns o others mode deferred) mirror is = cc
mirrors-alike box db relation other (TreeIndex columns unique) mirror is = cc
mirrors-alike box db relation other (HashIndex columns) mirror is = cc
mirrors-alike box db relation other (Stats column low width) mirror is = cc
mirrors-alike box db relation other (Check pred deferred) mirror is = cc
mirrors-alike box db relation other (Trigger on pred act deferred) mirror is = cc
mirrors-alike box db relation other (Foreign code desc) mirror is = cc
