-- Steps of commands on one row, of relations whose rules are alone.
use Rattle.std.proofs.Common.{◌≡◌, Bool, true, false, not, List, [], ◌∷◌, Option, Some, None, refl, sym, ap, ◌∙◌, arith}
use Rattle.std.specs.Prelude.{All}
use Rattle.std.proofs.lemmas.Bool.{and_parts}
use Rattle.std.proofs.lemmas.List.Elements.{All-nil, All-cons}
use Rattle.sb_value.specs.declared.schema.Column.{Column}
use Rattle.sb_value.specs.Fits.{kind_of, first_misfit}
use Rattle.sb_value.proofs.Truths.{is_none-none}
use Rattle.sb_pred.specs.declared.predicate.Term.TheVariants.{Const}
use Rattle.sb_pred.specs.Columns.{column_kind}
use Rattle.sb_rule.specs.declared.action.Action.TheVariants as action
use Rattle.sb_relation.specs.Db.{Name, Key, Row, Attached, Relation, Db, relation_at, schema_at}
use Rattle.sb_fold.specs.declared.refusal.Refusal.{Refusal}
use Rattle.sb_fold.specs.declared.refusal.Refusal.TheVariants as refusal
use Rattle.sb_fold.specs.Extensions.{Extensions}
use Rattle.sb_fold.specs.Finish.{finish}
use Rattle.sb_fold.specs.Fold.{act, first_change, attachments_at}
use Rattle.sb_fold.specs.Outcome.{Going, Outcome, Gives, Stopped, NoStep, Work, made, continue}
use Rattle.sb_fold.specs.Wishes.{Wish, Put, Remove, Replace}
use Rattle.sb_plain.specs.declared.command.Command.{Command}
use Rattle.sb_plain.specs.declared.command.Command.TheVariants as command
use Rattle.sb_plain.specs.Laws.{RowsLeaveLawful}
use Rattle.sb_plain.specs.Lawful.{MayBeOpen, IsLawfulState, AreAlone, IsAloneAt, is_alone, IsRowCommand}
use Rattle.sb_plain.specs.Refusing.{refused, tests, first_of, refuse_where, is_well_kinded, row_fits}
use Rattle.sb_plain.specs.State.{Codes, Transaction, State, view, going_of, kept}
use Rattle.sb_plain.specs.Step as step
use Rattle.sb_plain.proofs.LawfulLemmas.{state_of, lawful_spent, lawful_with, lawful_up, in_lawful, in_sound, lawful_finish}
use Rattle.sb_plain.proofs.RowLemmas.{OfGiven, of_next, IsWishOf, Worked, change_ok, delete_ok, set_ok, add_ok}
use Rattle.sb_plain.proofs.ValueLemmas.{same_kind}

-- ---- work that keeps a lawful database lawful
of_outcome : (ext : Extensions) (s : State) (name : Name) (start : Going) (o : Outcome step.Answer) → start.queue.actions ≡ [] → IsLawfulState ext s → OfGiven (λ answer g. Worked ext name start g) o
    → IsLawfulState ext (state_of (step.turn_of (step.commit_of s) s (continue (λ answer. (λ g. continue (λ _. step.freeing answer) (finish ext g))) o)))
of_outcome ext s name start (Gives answer g) empty lawful worked = lawful_finish ext s s answer g lawful lawful (record { empty = worked.queue ∙ empty; lawful = worked.lawful; sound = worked.sound })
of_outcome ext s name start (Stopped r trail) empty lawful worked = lawful_spent ext trail.spent s lawful
of_outcome ext s name start (NoStep trail) empty lawful worked = lawful

of_open : (ext : Extensions) (s : State) (t : Transaction) (name : Name) (start : Going) (o : Outcome step.Answer) → IsLawfulState ext s → MayBeOpen ext (Some t) → OfGiven (λ answer g. Worked ext name start g) o
    → IsLawfulState ext (state_of (step.turn_of (kept s t.points) s o))
of_open ext s t name start (Gives answer g) lawful open_one worked = lawful_with ext s _ lawful (record { lawful = worked.lawful; sound = worked.sound; points = open_one.points })
of_open ext s t name start (Stopped r trail) lawful open_one worked = lawful_spent ext trail.spent s lawful
of_open ext s t name start (NoStep trail) lawful open_one worked = lawful

in_changing : (ext : Extensions) (s : State) (picks : List Key) (name : Name) (work : Work step.Answer) (transaction : Option Transaction) → s.transaction ≡ transaction → IsLawfulState ext s → MayBeOpen ext transaction
    → OfGiven (λ answer g. Worked ext name (going_of s picks) g) (work (going_of s picks))
    → IsLawfulState ext (state_of (elim transaction [
      | None ↦ step.turn_of (step.commit_of s) s (step.finished ext work (going_of s picks))
      | Some t ↦ step.turn_of (kept s t.points) s (work (going_of s picks))
    ]))
in_changing ext s picks name work None e lawful open_one worked =
    of_outcome ext s name (going_of s picks) (work (going_of s picks)) (ap (λ (t : Option Transaction). (going_of (record s { transaction = t }) picks).queue.actions) e) lawful worked
in_changing ext s picks name work (Some t) e lawful open_one worked = of_open ext s t name (going_of s picks) (work (going_of s picks)) lawful open_one worked

changing_lawful : (ext : Extensions) (s : State) (picks : List Key) (name : Name) (work : Work step.Answer) → IsLawfulState ext s → OfGiven (λ answer g. Worked ext name (going_of s picks) g) (work (going_of s picks))
    → IsLawfulState ext (step.changing ext s picks work).state
changing_lawful ext s picks name work lawful worked = in_changing ext s picks name work s.transaction refl lawful lawful.open_one worked

-- ---- what a command sees
going_sees : (live spare : Codes) (commits : List Db) (down : Bool) (transaction : Option Transaction) (picks : List Key)
    → (going_of (step.if_up (record { live = live; spare = spare; commits = commits; transaction = transaction; down = down })) picks).db
    ≡ view (record { live = live; spare = spare; commits = commits; transaction = transaction; down = down })
going_sees live spare commits true None picks = refl
going_sees live spare commits true (Some t) picks = refl
going_sees live spare commits false None picks = refl
going_sees live spare commits false (Some t) picks = refl

sees : (s : State) (picks : List Key) → (going_of (step.if_up s) picks).db ≡ view s
sees s picks = going_sees s.live s.spare s.commits s.down s.transaction picks

-- ---- a command that isn't refused fits
none_of_them : (tests : List (Option Refusal)) → first_of tests ≡ None → All (λ o. o ≡ None) tests
none_of_them [] e = All-nil _
none_of_them (None ∷ tests) e = All-cons (λ o. o ≡ None) None tests refl (none_of_them tests e)
none_of_them (Some r ∷ tests) e = absurd (cc)

it_fits : (b : Bool) (r : Refusal) → refuse_where (not b) r ≡ None → b ≡ true
it_fits true r e = refl
it_fits false r e = absurd (cc)

-- the eighth test
is_kinded : (ext : Extensions) (s : State) (c : Command) → refused ext s c ≡ None → is_well_kinded ext (view s) c ≡ true
is_kinded ext s c none = it_fits (is_well_kinded ext (view s) c) refusal.Mistyped (none_of_them (tests ext s c) none 7 None (omega arith))

fits_there : (db : Db) (name : Name) (row : Row) (r : Relation) → relation_at db name ≡ Some r → row_fits db name row ≡ true → first_misfit r.schema row ≡ None
fits_there db name row r there fits =
    ap (λ (o : Option Relation). first_misfit (elim o as (λ _. List Column) [ None ↦ [] | Some q ↦ q.schema ]) row) (sym there) ∙ is_none-none (first_misfit (schema_at db name) row) fits

alone_in : (db : Db) (name : Name) → IsAloneAt db name → All (λ a. is_alone a.rule ≡ true) (attachments_at db name)
alone_in db name is = of_relation (relation_at db name) refl
  where
    of_relation : (o : Option Relation) → relation_at db name ≡ o → All (λ a. is_alone a.rule ≡ true) (elim o as (λ _. List Attached) [ None ↦ [] | Some q ↦ q.attachments ])
    of_relation None there = All-nil _
    of_relation (Some r) there = is r there

-- ---- the commands
row_work : (ext : Extensions) (s : State) (picks : List Key) (relation : Name) (wish : Wish) → IsLawfulState ext (step.if_up s) → ((r : Relation) → relation_at (view s) relation ≡ Some r → AreAlone r × IsWishOf r.schema wish)
    → OfGiven (λ key g. Worked ext relation (going_of (step.if_up s) picks) g) (first_change ext relation wish (going_of (step.if_up s) picks))
row_work ext s picks relation wish lawful is =
    change_ok ext 15 relation wish (going_of (step.if_up s) picks) (in_lawful ext (step.if_up s) (step.if_up s).transaction picks lawful lawful.open_one) (in_sound ext (step.if_up s) (step.if_up s).transaction picks lawful lawful.open_one)
    (λ r there. is r (ap (λ (d : Db). relation_at d relation) (sym (sees s picks)) ∙ there))

row_command : (ext : Extensions) (s : State) (c : Command) (picks : List Key) → IsRowCommand (view s) c → is_well_kinded ext (view s) c ≡ true → IsLawfulState ext (step.if_up s)
    → IsLawfulState ext (step.carry_out ext (step.if_up s) c picks (step.work_of ext c)).state
row_command ext s (command.Insert relation values) picks is fits lawful =
    changing_lawful ext (step.if_up s) picks relation (step.with_key relation (first_change ext relation (Put values))) lawful
    (of_next (λ key g. Worked ext relation (going_of (step.if_up s) picks) g) (λ answer g. Worked ext relation (going_of (step.if_up s) picks) g) (first_change ext relation (Put values) (going_of (step.if_up s) picks))
    (λ key. λ going. made (step.row_answer going.db relation key) going) (row_work ext s picks relation (Put values) lawful (λ r there. (is.1 r there, (is.0, fits_there (view s) relation values r there fits)))) (λ key g worked. worked))
row_command ext s (command.Delete relation at) picks is fits lawful =
    changing_lawful ext (step.if_up s) picks relation (step.plainly (first_change ext relation (Remove at))) lawful
    (of_next (λ key g. Worked ext relation (going_of (step.if_up s) picks) g) (λ answer g. Worked ext relation (going_of (step.if_up s) picks) g) (first_change ext relation (Remove at) (going_of (step.if_up s) picks))
    (λ key. made step.Plain) (row_work ext s picks relation (Remove at) lawful (λ r there. (is r there, tt))) (λ key g worked. worked))
row_command ext s (command.Update relation at values) picks is fits lawful =
    changing_lawful ext (step.if_up s) picks relation (step.with_key relation (first_change ext relation (Replace at values))) lawful
    (of_next (λ key g. Worked ext relation (going_of (step.if_up s) picks) g) (λ answer g. Worked ext relation (going_of (step.if_up s) picks) g) (first_change ext relation (Replace at values) (going_of (step.if_up s) picks))
    (λ key. λ going. made (step.row_answer going.db relation key) going) (row_work ext s picks relation (Replace at values) lawful (λ r there. (is.1 r there, (is.0, fits_there (view s) relation values r there fits))))
    (λ key g worked. worked))
row_command ext s (command.Act (action.Delete relation pairs)) picks is fits lawful =
    changing_lawful ext (step.if_up s) picks relation (λ going. continue (λ n. made (step.Counts n)) (act (first_change ext) (action.Delete relation pairs) going)) lawful
    (of_next (λ n g. Worked ext relation (going_of (step.if_up s) picks) g) (λ answer g. Worked ext relation (going_of (step.if_up s) picks) g) (act (first_change ext) (action.Delete relation pairs) (going_of (step.if_up s) picks))
    (λ n. made (step.Counts n))
    (delete_ok ext 15 relation pairs (going_of (step.if_up s) picks) (in_lawful ext (step.if_up s) (step.if_up s).transaction picks lawful lawful.open_one) (in_sound ext (step.if_up s) (step.if_up s).transaction picks lawful lawful.open_one)
    (alone_in (going_of (step.if_up s) picks).db relation (λ r there. is r (ap (λ (d : Db). relation_at d relation) (sym (sees s picks)) ∙ there)))) (λ n g worked. worked))
row_command ext s (command.Act (action.Set relation column (Const v) pairs)) picks is fits lawful =
    changing_lawful ext (step.if_up s) picks relation (λ going. continue (λ n. made (step.Counts n)) (act (first_change ext) (action.Set relation column (Const v) pairs) going)) lawful
    (of_next (λ n g. Worked ext relation (going_of (step.if_up s) picks) g) (λ answer g. Worked ext relation (going_of (step.if_up s) picks) g)
    (act (first_change ext) (action.Set relation column (Const v) pairs) (going_of (step.if_up s) picks)) (λ n. made (step.Counts n))
    (set_ok ext 15 relation column v pairs (going_of (step.if_up s) picks) is.0
    (ap (λ (d : Db). column_kind (schema_at d relation) column) (sees s picks) ∙ same_kind (column_kind (schema_at (view s) relation) column) (kind_of v) (and_parts _ _ fits).0)
    (in_lawful ext (step.if_up s) (step.if_up s).transaction picks lawful lawful.open_one) (in_sound ext (step.if_up s) (step.if_up s).transaction picks lawful lawful.open_one)
    (alone_in (going_of (step.if_up s) picks).db relation (λ r there. is.1 r (ap (λ (d : Db). relation_at d relation) (sym (sees s picks)) ∙ there)))) (λ n g worked. worked))
row_command ext s (command.Act (action.Add relation column term pairs)) picks is fits lawful =
    changing_lawful ext (step.if_up s) picks relation (λ going. continue (λ n. made (step.Counts n)) (act (first_change ext) (action.Add relation column term pairs) going)) lawful
    (of_next (λ n g. Worked ext relation (going_of (step.if_up s) picks) g) (λ answer g. Worked ext relation (going_of (step.if_up s) picks) g)
    (act (first_change ext) (action.Add relation column term pairs) (going_of (step.if_up s) picks)) (λ n. made (step.Counts n))
    (add_ok ext 15 relation column term pairs (going_of (step.if_up s) picks) (in_lawful ext (step.if_up s) (step.if_up s).transaction picks lawful lawful.open_one)
    (in_sound ext (step.if_up s) (step.if_up s).transaction picks lawful lawful.open_one)
    (alone_in (going_of (step.if_up s) picks).db relation (λ r there. is r (ap (λ (d : Db). relation_at d relation) (sym (sees s picks)) ∙ there)))) (λ n g worked. worked))
row_command ext s _ picks is fits lawful = absurd is

row_tested : (ext : Extensions) (s : State) (c : Command) (picks : List Key) (first : Option Refusal) → refused ext s c ≡ first → IsRowCommand (view s) c → IsLawfulState ext (step.if_up s)
    → IsLawfulState ext (step.tested ext (step.if_up s) c picks first).state
row_tested ext s c picks None none is lawful = row_command ext s c picks is (is_kinded ext s c none) lawful
row_tested ext s c picks (Some r) none is lawful = lawful

pub rows-lawful : RowsLeaveLawful
rows-lawful ext s c picks is lawful = row_tested ext s c picks (refused ext s c) refl is (lawful_up ext s lawful)
