-- Steps of commands that are written leave the rules to hold.
use Rattle.std.proofs.Common.{◌≡◌, ◌<◌, ℕ, Bool, true, false, ◌||◌, List, [], ◌∷◌, length, Option, Some, None, refl, sym, subst, ◌∙◌}
use Rattle.std.specs.Prelude.{All, nat_le, nat_lt}
use Rattle.std.specs.List.{list_any}
use Rattle.std.proofs.lemmas.Bool.{true≢false, and_parts, or_parts, ltb-false, leb-true, leb-false}
use Rattle.std.proofs.lemmas.List.Elements.{All-nil, All-cons, All-head, All-tail}
use Rattle.sb_value.specs.declared.schema.Kind.TheVariants as kind
use Rattle.sb_value.specs.declared.value.Value.TheVariants.{Int, Text}
use Rattle.sb_value.specs.Fits.{first_misfit, is_short_enough}
use Rattle.sb_value.proofs.Truths.{is_none-none}
use Rattle.sb_codec.specs.Tuples.{IsTuple}
use Rattle.sb_pred.specs.declared.predicate.Term.{Term}
use Rattle.sb_pred.specs.declared.predicate.Term.TheVariants.{Const, New, Old}
use Rattle.sb_pred.specs.Columns.{column_kind}
use Rattle.sb_pred.specs.Tree.{node_count}
use Rattle.sb_pred.specs.Typing.{term_kind, is_one_kind}
use Rattle.sb_rule.specs.declared.action.Action.{Action}
use Rattle.sb_rule.specs.declared.action.Action.TheVariants as action
use Rattle.sb_rule.specs.declared.rule.Rule.{Rule}
use Rattle.sb_rule.specs.declared.rule.Rule.TheVariants.{Trigger}
use Rattle.sb_relation.specs.Build.{with_rule}
use Rattle.sb_relation.specs.Db.{Name, Key, Row, Db, schema_at}
use Rattle.sb_relation.specs.Fits.{pairs_fit}
use Rattle.sb_relation.specs.Limits.{is_long_text, has_long_text, has_long_pair, has_long_term, is_large_rule, is_crowded, has_large_descriptor}
use Rattle.sb_fold.specs.declared.refusal.Refusal.{Refusal}
use Rattle.sb_fold.specs.Extensions.{Extensions}
use Rattle.sb_fold.specs.Fold.{act, first_change}
use Rattle.sb_fold.specs.Laws.{OfMade}
use Rattle.sb_fold.specs.Outcome.{Going, Outcome, Gives, Stopped, NoStep, made, continue}
use Rattle.sb_fold.specs.Wishes.{Wish, Put, Replace}
use Rattle.sb_plain.specs.declared.command.Command.{Command}
use Rattle.sb_plain.specs.declared.command.Command.TheVariants as command
use Rattle.sb_plain.specs.Lawful.{IsLawfulState}
use Rattle.sb_plain.specs.Refusing.{refused}
use Rattle.sb_plain.specs.State.{State, view, going_of}
use Rattle.sb_plain.specs.Step as step
use Rattle.sb_plain.proofs.LawfulLemmas.{lawful_up}
use Rattle.sb_plain.proofs.ValueLemmas.{same_kind}
use Rattle.sb_lawful.proofs.Commands.{begins, is_kinded, is_within}
use Rattle.sb_lawful.proofs.Steps.{of_view}
use Rattle.sb_lawful_rows.specs.Storable.{HasStorableValue, PutsStorable, RulePutsStorable}
use Rattle.sb_lawful_rows.proofs.Stepping.{when_up}
use Rattle.sb_said.specs.LawfulStepsLaws.{IsSaid}
use Rattle.sb_said.specs.Laws.{HasLimits}
use Rattle.sb_said.specs.Written.{IsWrittenRow, HasWrittenValue, PutsWritten, RulePutsWritten, IsWrittenAction, IsLimited, IsWritten}
use Rattle.sb_said.proofs.Halting.{Halts, Stays, next_halts, row_short, put_halts, replace_halts, set_stays}
use Rattle.sb_said.proofs.Limits.{no_limits}
use Rattle.sb_said.proofs.Stepping as said
use Rattle.sb_sound.specs.Work.{IsSoundWork}
use Rattle.sb_sound.proofs.Finishing.{made_next}
use Rattle.sb_sound.proofs.Alike.{alike-are-sound, down-is-sound}
use Rattle.sb_sound.proofs.Stepping.{steps-leave, beginning-sound}
use Rattle.sb_sound.proofs.Turns.{begins_sound, changing_sound}
use Rattle.sb_sound_said.specs.Laws.{IsSoundWithin, WrittenStepsLeaveSound, NothingIsSound, AlikeAreSound, DownIsSound}

-- ---- work that comes to nothing, or changes nothing
halted : {A : Type 0} (P : Going → Type 0) (o : Outcome A) → Halts o → OfMade P o
halted P (Gives x g) halts = absurd halts
halted P (Stopped r trail) halts = tt
halted P (NoStep trail) halts = tt

stayed : {A : Type 0} (P : Going → Type 0) (g : Going) (o : Outcome A) → P g → Stays g o → OfMade P o
stayed P g (Gives x h) holds stays = subst P (sym stays) holds
stayed P g (Stopped r trail) holds stays = tt
stayed P g (NoStep trail) holds stays = tt

-- ---- values that are short
term_short : (t : Term) → is_long_text t ≡ false → HasWrittenValue t → HasStorableValue t
term_short (Const (Int n)) short written = written
term_short (Const (Text s)) short written = (written, ltb-false 255 (length s) short)
term_short (New name) short written = tt
term_short (Old name) short written = tt

terms_short : (terms : List Term) → list_any is_long_text terms ≡ false → All HasWrittenValue terms → All HasStorableValue terms
terms_short [] short written = All-nil HasStorableValue
terms_short (t ∷ terms) short written =
    let parts = or_parts (is_long_text t) (list_any is_long_text terms) short in
    All-cons HasStorableValue t terms (term_short t parts.0 (All-head HasWrittenValue t terms written)) (terms_short terms parts.1 (All-tail HasWrittenValue t terms written))

action_short : (a : Action) → has_long_term a ≡ false → PutsWritten a → PutsStorable a
action_short (action.Insert relation terms) short written = (written.0, written.1, terms_short terms short written.2)
action_short (action.Delete relation pairs) short written = tt
action_short (action.Set relation column term pairs) short written = term_short term (or_parts (is_long_text term) (has_long_pair pairs) short).0 written
action_short (action.Add relation column term pairs) short written = tt

rule_short : (rule : Rule) → is_large_rule rule ≡ false → RulePutsWritten rule → RulePutsStorable rule
rule_short (Trigger on pred act deferred) small written = action_short act (or_parts (nat_lt 32 (node_count pred) || has_long_text pred) (has_long_term act) small).1 written
rule_short _ small written = tt

module _ (ext : Extensions) (s : State) (picks : List Key) (sound : IsSoundWithin ext s) where
  abbrev now : State
  now = step.if_up s

  abbrev start : Going
  start = going_of (step.if_up s) picks

  up_sound : IsLawfulState ext now
  up_sound = lawful_up ext s sound.sound

  works : IsSoundWork ext start
  works = begins_sound ext now picks (when_up ext s sound.within.along.lawful) up_sound

  seen_limits : HasLimits (view s)
  seen_limits = of_view HasLimits no_limits s sound.within.limits

  -- a command as the law of steps asks for it
  by_law : (c : Command) → IsSaid c → IsLawfulState ext (step.step ext s c picks).state
  by_law c is = (steps-leave ext s c picks is (record { along = sound.within.along; sound = sound.sound })).sound

  -- ---- a rule with a text that is too long is refused
  attached : (relation name : Name) (rule : Rule) → IsWritten (command.Attach relation name rule) → IsLawfulState ext (step.step ext s (command.Attach relation name rule) picks).state
  attached relation name rule is = of_large (is_large_rule rule) refl
    where
      not_refused : refused ext s (command.Attach relation name rule) ≡ None → is_large_rule rule ≡ false
      not_refused none =
          (or_parts (is_large_rule rule) (is_crowded (view s) relation rule)
          (or_parts (is_large_rule rule || is_crowded (view s) relation rule) (has_large_descriptor relation rule (with_rule (view s) relation name rule)) (is_within ext s (command.Attach relation name rule) none)).0).0

      of_refused : (first : Option Refusal) → refused ext s (command.Attach relation name rule) ≡ first → is_large_rule rule ≡ true
          → IsLawfulState ext (step.tested ext now (command.Attach relation name rule) picks first).state
      of_refused (Some r) e large = up_sound
      of_refused None e large = absurd (true≢false (sym large ∙ not_refused e))

      of_large : (b : Bool) → is_large_rule rule ≡ b → IsLawfulState ext (step.step ext s (command.Attach relation name rule) picks).state
      of_large true large = of_refused (refused ext s (command.Attach relation name rule)) refl large
      of_large false small = by_law (command.Attach relation name rule) (is.0, is.1, rule_short rule small is.2)

  -- ---- a row with a text that is too long is refused
  tuple_of : (relation : Name) (values : Row) → IsWrittenRow values → first_misfit (schema_at (view s) relation) values ≡ None → is_short_enough (schema_at (view s) relation) values ≡ true → IsTuple values
  tuple_of relation values row fits short = record { some = row.some; few = row.few; storable = row_short (schema_at (view s) relation) values (seen_limits relation) fits short row.each }

  at_start : (relation : Name) (values : Row) → is_short_enough (schema_at (view s) relation) values ≡ false → is_short_enough (schema_at start.db relation) values ≡ false
  at_start relation values long = subst (λ (db : Db). is_short_enough (schema_at db relation) values ≡ false) (sym (begins s picks)) long

  keyed_halts : (relation : Name) (wish : Wish) → Halts (first_change ext relation wish start) → IsLawfulState ext (step.changing ext now picks (step.with_key relation (first_change ext relation wish))).state
  keyed_halts relation wish halts =
      changing_sound ext now picks (step.with_key relation (first_change ext relation wish)) up_sound
      (halted (IsSoundWork ext) (step.with_key relation (first_change ext relation wish) start)
      (next_halts (first_change ext relation wish start) (λ key. λ going. made (step.row_answer going.db relation key) going) halts))

  -- a command on a row, which fits, and is said where its texts are short
  row_sound : (c : Command) (relation : Name) (values : Row) → first_misfit (schema_at (view s) relation) values ≡ None → (IsTuple values → IsSaid c) → IsWrittenRow values → refused ext s c ≡ None
      → (is_short_enough (schema_at (view s) relation) values ≡ false → IsLawfulState ext (step.tested ext now c picks None).state) → IsLawfulState ext (step.tested ext now c picks None).state
  row_sound c relation values fits said_so row none long = by (is_short_enough (schema_at (view s) relation) values) refl
    where
      by : (b : Bool) → is_short_enough (schema_at (view s) relation) values ≡ b → IsLawfulState ext (step.tested ext now c picks None).state
      by true short =
          subst (λ (first : Option Refusal). IsLawfulState ext (step.tested ext now c picks first).state) none (by_law c (said_so (tuple_of relation values row fits short)))
      by false is = long is

  inserted : (relation : Name) (values : Row) → IsWrittenRow values → IsLawfulState ext (step.step ext s (command.Insert relation values) picks).state
  inserted relation values row = by (refused ext s (command.Insert relation values)) refl
    where
      by : (first : Option Refusal) → refused ext s (command.Insert relation values) ≡ first → IsLawfulState ext (step.tested ext now (command.Insert relation values) picks first).state
      by (Some r) e = up_sound
      by None e =
          row_sound (command.Insert relation values) relation values (is_none-none (first_misfit (schema_at (view s) relation) values) (is_kinded ext s (command.Insert relation values) e)) (λ tuple. tuple) row e
          (λ long. keyed_halts relation (Put values) (put_halts ext 16 relation values start (at_start relation values long)))

  updated : (relation : Name) (at : Key) (values : Row) → IsWrittenRow values → IsLawfulState ext (step.step ext s (command.Update relation at values) picks).state
  updated relation at values row = by (refused ext s (command.Update relation at values)) refl
    where
      by : (first : Option Refusal) → refused ext s (command.Update relation at values) ≡ first → IsLawfulState ext (step.tested ext now (command.Update relation at values) picks first).state
      by (Some r) e = up_sound
      by None e =
          row_sound (command.Update relation at values) relation values (is_none-none (first_misfit (schema_at (view s) relation) values) (is_kinded ext s (command.Update relation at values) e)) (λ tuple. tuple) row e
          (λ long. keyed_halts relation (Replace at values) (replace_halts ext 16 relation values start at (at_start relation values long)))

  -- ---- a column is set to a text that is too long
  module _ (relation column : Name) (t : List ℕ) (pairs : List (Name × Term)) (long : 255 < length t) where
    abbrev sets : Action
    sets = action.Set relation column (Const (Text t)) pairs

    set_turn : refused ext s (command.Act sets) ≡ None → IsLawfulState ext (step.tested ext now (command.Act sets) picks None).state
    set_turn none =
        let fits = and_parts (is_one_kind (column_kind (schema_at (view s) relation) column) (Some kind.Text)) (pairs_fit (schema_at (view s) relation) (term_kind [] false false) pairs) (is_kinded ext s (command.Act sets) none) in
        let kinds : column_kind (schema_at (view s) relation) column ≡ Some kind.Text = same_kind (column_kind (schema_at (view s) relation) column) kind.Text fits.0 in
        let stays : Stays start (act (first_change ext) sets start) =
        set_stays ext 16 relation column t pairs start works.work.stands.lawful (subst (λ (db : Db). All IsLimited (schema_at db relation)) (sym (begins s picks)) (seen_limits relation))
        (subst (λ (db : Db). column_kind (schema_at db relation) column ≡ Some kind.Text) (sym (begins s picks)) kinds) long in
        changing_sound ext now picks (λ going. continue (λ n. made (step.Counts n)) (act (first_change ext) sets going)) up_sound
        (made_next (IsSoundWork ext) (IsSoundWork ext) (act (first_change ext) sets start) (λ n. made (step.Counts n))
        (stayed (IsSoundWork ext) start (act (first_change ext) sets start) works stays) (λ n g same. same))

    set_sound : IsLawfulState ext (step.step ext s (command.Act sets) picks).state
    set_sound = by (refused ext s (command.Act sets)) refl
      where
        by : (first : Option Refusal) → refused ext s (command.Act sets) ≡ first → IsLawfulState ext (step.tested ext now (command.Act sets) picks first).state
        by (Some r) e = up_sound
        by None e = set_turn e

  set_to : (relation column : Name) (term : Term) (pairs : List (Name × Term)) → HasWrittenValue term → IsLawfulState ext (step.step ext s (command.Act (action.Set relation column term pairs)) picks).state
  set_to relation column (New name) pairs written = by_law (command.Act (action.Set relation column (New name) pairs)) tt
  set_to relation column (Old name) pairs written = by_law (command.Act (action.Set relation column (Old name) pairs)) tt
  set_to relation column (Const (Int n)) pairs written = by_law (command.Act (action.Set relation column (Const (Int n)) pairs)) written
  set_to relation column (Const (Text t)) pairs written = by (nat_le (length t) 255) refl
    where
      by : (b : Bool) → nat_le (length t) 255 ≡ b → IsLawfulState ext (step.step ext s (command.Act (action.Set relation column (Const (Text t)) pairs)) picks).state
      by true short = by_law (command.Act (action.Set relation column (Const (Text t)) pairs)) (written, leb-true (length t) 255 short)
      by false long = set_sound relation column t pairs (leb-false (length t) 255 long)

  acted : (a : Action) → IsWrittenAction a → IsLawfulState ext (step.step ext s (command.Act a) picks).state
  acted (action.Insert relation terms) is = absurd is
  acted (action.Delete relation pairs) is = by_law (command.Act (action.Delete relation pairs)) tt
  acted (action.Set relation column term pairs) is = set_to relation column term pairs is
  acted (action.Add relation column term pairs) is = by_law (command.Act (action.Add relation column term pairs)) tt

  -- ---- all commands
  sound_stays : (c : Command) → IsWritten c → IsLawfulState ext (step.step ext s c picks).state
  sound_stays (command.Create relation method schema key) is = by_law (command.Create relation method schema key) is.0
  sound_stays (command.Attach relation name rule) is = attached relation name rule is
  sound_stays (command.Detach relation name) is = by_law (command.Detach relation name) is
  sound_stays (command.Insert relation values) is = inserted relation values is
  sound_stays (command.Update relation at values) is = updated relation at values is
  sound_stays (command.Act a) is = acted a is
  sound_stays (command.Drop relation) is = by_law (command.Drop relation) tt
  sound_stays (command.Delete relation at) is = by_law (command.Delete relation at) tt
  sound_stays command.Begin is = by_law command.Begin tt
  sound_stays command.Commit is = by_law command.Commit tt
  sound_stays command.Abort is = by_law command.Abort tt
  sound_stays (command.Savepoint name) is = by_law (command.Savepoint name) tt
  sound_stays (command.Rollback name) is = by_law (command.Rollback name) tt
  sound_stays (command.Register method code) is = by_law (command.Register method code) tt
  sound_stays (command.Retire method code) is = by_law (command.Retire method code) tt
  sound_stays (command.Get relation at) is = by_law (command.Get relation at) tt
  sound_stays (command.Scan relation after limit) is = by_law (command.Scan relation after limit) tt
  sound_stays (command.Lookup relation name values) is = by_law (command.Lookup relation name values) tt
  sound_stays (command.Range relation name low high) is = by_law (command.Range relation name low high) tt
  sound_stays (command.Entries relation name) is = by_law (command.Entries relation name) tt
  sound_stays (command.Show relation) is = by_law (command.Show relation) tt
  sound_stays command.Tables is = by_law command.Tables tt
  sound_stays command.Checkpoint is = by_law command.Checkpoint tt

-- ---- the laws
pub written-steps : WrittenStepsLeaveSound
written-steps ext s c picks is sound = record { within = said.written-steps ext s c picks is sound.within; sound = sound_stays ext s picks sound c is }

pub nothing-sound : NothingIsSound
nothing-sound ext live spare = record { within = said.nothing-lawful ext live spare; sound = (beginning-sound ext live spare).sound }

pub alike-sound : AlikeAreSound
alike-sound ext other s alike sound = record {
  within = said.alike-lawful ext other s alike sound.within;
  sound = (alike-are-sound ext other s alike (record { along = sound.within.along; sound = sound.sound })).sound;
}

pub down-sound : DownIsSound
down-sound ext s sound = record {
  within = said.down-lawful ext s sound.within;
  sound = (down-is-sound ext s (record { along = sound.within.along; sound = sound.sound })).sound;
}
