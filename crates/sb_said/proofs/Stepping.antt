-- Steps of commands that are written.
use Rattle.std.proofs.Common.{◌≡◌, ◌<◌, ℕ, Bool, true, false, ◌||◌, List, [], ◌∷◌, length, Option, Some, None, refl, sym, subst, ◌∙◌}
use Rattle.std.specs.Prelude.{All, nat_le, nat_lt}
use Rattle.std.specs.List.{list_any}
use Rattle.std.proofs.lemmas.Bool.{true≢false, and_parts, or_parts, ltb-false, leb-true, leb-false}
use Rattle.std.proofs.lemmas.List.Elements.{All-nil, All-cons, All-head, All-tail, All-append}
use Rattle.sb_value.specs.declared.schema.Kind.TheVariants as kind
use Rattle.sb_value.specs.declared.value.Value.TheVariants.{Int, Text}
use Rattle.sb_value.specs.Fits.{first_misfit, is_short_enough}
use Rattle.sb_value.proofs.Truths.{is_none-none}
use Rattle.sb_codec.specs.Tuples.{IsTuple}
use Rattle.sb_pred.specs.declared.predicate.Term.{Term}
use Rattle.sb_pred.specs.declared.predicate.Term.TheVariants.{Const, New, Old}
use Rattle.sb_pred.specs.Columns.{column_kind}
use Rattle.sb_pred.specs.Tree.{node_count}
use Rattle.sb_pred.specs.Typing.{term_kind, is_one_kind}
use Rattle.sb_rule.specs.declared.action.Action.{Action}
use Rattle.sb_rule.specs.declared.action.Action.TheVariants as action
use Rattle.sb_rule.specs.declared.rule.Rule.{Rule}
use Rattle.sb_rule.specs.declared.rule.Rule.TheVariants.{Trigger}
use Rattle.sb_relation.specs.Build.{with_rule}
use Rattle.sb_relation.specs.Db.{Name, Key, Row, Db, schema_at}
use Rattle.sb_relation.specs.Fits.{pairs_fit}
use Rattle.sb_relation.specs.Limits.{is_long_text, has_long_text, has_long_pair, has_long_term, is_large_rule, is_crowded, has_large_descriptor}
use Rattle.sb_fold.specs.declared.refusal.Refusal.{Refusal}
use Rattle.sb_fold.specs.Extensions.{Extensions}
use Rattle.sb_fold.specs.Finish.{finish}
use Rattle.sb_fold.specs.Fold.{act, first_change}
use Rattle.sb_fold.specs.Outcome.{Going, Outcome, Gives, Stopped, NoStep, Work, made, continue, begun}
use Rattle.sb_fold.specs.Wishes.{Wish, Put, Replace}
use Rattle.sb_plain.specs.declared.command.Command.{Command}
use Rattle.sb_plain.specs.declared.command.Command.TheVariants as command
use Rattle.sb_plain.specs.Refusing.{refused}
use Rattle.sb_plain.specs.State.{Transaction, State, committed, view, no_queue, none_gone, going_of, kept}
use Rattle.sb_plain.specs.Step as step
use Rattle.sb_plain.proofs.ValueLemmas.{same_kind}
use Rattle.sb_lawful.specs.Laws.{HasDotlessNames}
use Rattle.sb_lawful.proofs.Commands.{begins, is_kinded, is_within}
use Rattle.sb_lawful.proofs.Steps.{of_view, up_leaves}
use Rattle.sb_lawful_rows.specs.States.{MayBeOpen, HasLawfulDatabases}
use Rattle.sb_lawful_rows.specs.Storable.{HasStorableValue, PutsStorable, RulePutsStorable}
use Rattle.sb_lawful_rows.specs.Work.{IsLawfulWith, IsLawfulPoint, IsLawfulWork, EndsLawful}
use Rattle.sb_lawful_rows.proofs.Changing.{finish-ends}
use Rattle.sb_lawful_rows.proofs.Stepping.{freed_goes, with_one, when_spent, when_up, start_may}
use Rattle.sb_lawful_steps.specs.Laws.{IsLawfulAlong}
use Rattle.sb_lawful_steps.proofs.Alike.{alike-are-lawful, down-is-lawful}
use Rattle.sb_lawful_steps.proofs.Names.{names_stay, no_names}
use Rattle.sb_lawful_steps.proofs.States.{BuildsNothing, to_each, of_each, step_keeps}
use Rattle.sb_lawful_steps.proofs.Stepping.{steps-leave, databases-are-lawful, beginning-along}
use Rattle.sb_said.specs.Laws.{HasLimits, IsLawfulWithin, WrittenStepsLeaveLawful, DatabasesAreLawful, NothingIsLawful, AlikeAreLawful, DownIsLawful}
use Rattle.sb_said.specs.Written.{IsWrittenRow, HasWrittenValue, PutsWritten, RulePutsWritten, IsWrittenAction, IsLimited, IsWritten}
use Rattle.sb_said.proofs.Halting.{Halts, Stays, next_halts, row_short, put_halts, replace_halts, set_stays}
use Rattle.sb_said.proofs.Limits.{no_limits, limits_stay}

-- ---- work whose end stands
-- what it gives is lawful
abbrev Stands : {A : Type 0} → Extensions → Outcome A → Type 0
Stands ext (Gives x g) = IsLawfulWork ext g
Stands ext (Stopped r trail) = Unit {0}
Stands ext (NoStep trail) = Unit {0}

next_stands : {A B : Type 0} (ext : Extensions) (o : Outcome A) (next : A → Work B) → Stands ext o → ((x : A) (g : Going) → IsLawfulWork ext g → Stands ext (next x g)) → Stands ext (continue next o)
next_stands ext (Gives x g) next stands then = then x g stands
next_stands ext (Stopped r trail) next stands then = tt
next_stands ext (NoStep trail) next stands then = tt

ended : {A : Type 0} (ext : Extensions) (o : Outcome A) → EndsLawful ext o → Stands ext o
ended ext (Gives x g) ends = ends
ended ext (Stopped r trail) ends = tt
ended ext (NoStep trail) ends = tt

halted : {A : Type 0} (ext : Extensions) (o : Outcome A) → Halts o → Stands ext o
halted ext (Gives x g) halts = absurd halts
halted ext (Stopped r trail) halts = tt
halted ext (NoStep trail) halts = tt

stayed : {A : Type 0} (ext : Extensions) (g : Going) (o : Outcome A) → IsLawfulWork ext g → Stays g o → Stands ext o
stayed ext g (Gives x h) work stays = subst (IsLawfulWork ext) (sym stays) work
stayed ext g (Stopped r trail) work stays = tt
stayed ext g (NoStep trail) work stays = tt

-- ---- turns
abbrev state_of : step.Turn → State
state_of turn = turn.state

of_turn : (ext : Extensions) (leave : Going → State) (otherwise : State) (o : Outcome step.Answer) → ((g : Going) → IsLawfulWork ext g → HasLawfulDatabases ext (leave g)) → HasLawfulDatabases ext otherwise
    → Stands ext o → HasLawfulDatabases ext (state_of (step.turn_of leave otherwise o))
of_turn ext leave otherwise (Gives answer g) leaves other stands = leaves g stands
of_turn ext leave otherwise (Stopped r trail) leaves other stands = when_spent ext trail.spent otherwise other
of_turn ext leave otherwise (NoStep trail) leaves other stands = other

of_finished : (ext : Extensions) (work : Work step.Answer) (g : Going) → Stands ext (work g) → Stands ext (step.finished ext work g)
of_finished ext work g stands =
    next_stands ext (work g) (λ answer. (λ left. continue (λ _. step.freeing answer) (finish ext left))) stands
    (λ answer left lawful. next_stands ext (finish ext left) (λ _. step.freeing answer) (ended ext (finish ext left) (finish-ends ext left lawful)) (λ _ last works. freed_goes ext last works))

when_committed : (ext : Extensions) (s : State) (g : Going) → HasLawfulDatabases ext s → IsLawfulWork ext g → HasLawfulDatabases ext (step.commit_of s g)
when_committed ext s g lawful work = record {
  commits =
      All-append (λ db. IsLawfulWith ext db []) s.commits (g.db ∷ []) lawful.commits
      (All-cons (λ db. IsLawfulWith ext db []) g.db [] (record { lawful = work.stands.lawful; triggers = work.stands.triggers; waiting = All-nil _ }) (All-nil (λ db. IsLawfulWith ext db [])));
  open_one = tt;
}

in_changing : (ext : Extensions) (s : State) (picks : List Key) (work : Work step.Answer) (transaction : Option Transaction) → HasLawfulDatabases ext s → MayBeOpen ext transaction
    → Stands ext (work (going_of s picks))
    → HasLawfulDatabases ext (state_of (elim transaction [
      | None ↦ step.turn_of (step.commit_of s) s (step.finished ext work (going_of s picks))
      | Some t ↦ step.turn_of (kept s t.points) s (work (going_of s picks))
    ]))
in_changing ext s picks work None lawful open_one stands =
    of_turn ext (step.commit_of s) s (step.finished ext work (going_of s picks)) (λ g left. when_committed ext s g lawful left) lawful (of_finished ext work (going_of s picks) stands)
in_changing ext s picks work (Some t) lawful open_one stands =
    of_turn ext (kept s t.points) s (work (going_of s picks)) (λ g left. with_one ext s _ lawful (record { stands = left.stands; points = open_one.points })) lawful stands

changing_stands : (ext : Extensions) (s : State) (picks : List Key) (work : Work step.Answer) → HasLawfulDatabases ext s → Stands ext (work (going_of s picks))
    → HasLawfulDatabases ext (step.changing ext s picks work).state
changing_stands ext s picks work lawful stands = in_changing ext s picks work s.transaction lawful lawful.open_one stands

begins_lawful : (ext : Extensions) (s : State) (picks : List Key) → HasLawfulDatabases ext s → IsLawfulWork ext (going_of s picks)
begins_lawful ext s picks lawful = record { stands = start_may ext s picks lawful; trail = none_reached s.transaction }
  where
    none_reached : (transaction : Option Transaction)
        → All (IsLawfulPoint ext) (elim transaction as (λ _. Going) [ None ↦ begun (committed s) no_queue none_gone 1 picks | Some t ↦ begun t.db t.queue t.gone t.spent picks ]).trail.points
    none_reached None = All-nil (IsLawfulPoint ext)
    none_reached (Some t) = All-nil (IsLawfulPoint ext)

-- ---- values that are short
term_short : (t : Term) → is_long_text t ≡ false → HasWrittenValue t → HasStorableValue t
term_short (Const (Int n)) short written = written
term_short (Const (Text s)) short written = (written, ltb-false 255 (length s) short)
term_short (New name) short written = tt
term_short (Old name) short written = tt

terms_short : (terms : List Term) → list_any is_long_text terms ≡ false → All HasWrittenValue terms → All HasStorableValue terms
terms_short [] short written = All-nil HasStorableValue
terms_short (t ∷ terms) short written =
    let parts = or_parts (is_long_text t) (list_any is_long_text terms) short in
    All-cons HasStorableValue t terms (term_short t parts.0 (All-head HasWrittenValue t terms written)) (terms_short terms parts.1 (All-tail HasWrittenValue t terms written))

action_short : (a : Action) → has_long_term a ≡ false → PutsWritten a → PutsStorable a
action_short (action.Insert relation terms) short written = (written.0, written.1, terms_short terms short written.2)
action_short (action.Delete relation pairs) short written = tt
action_short (action.Set relation column term pairs) short written = term_short term (or_parts (is_long_text term) (has_long_pair pairs) short).0 written
action_short (action.Add relation column term pairs) short written = tt

rule_short : (rule : Rule) → is_large_rule rule ≡ false → RulePutsWritten rule → RulePutsStorable rule
rule_short (Trigger on pred act deferred) small written = action_short act (or_parts (nat_lt 32 (node_count pred) || has_long_text pred) (has_long_term act) small).1 written
rule_short _ small written = tt

module _ (ext : Extensions) (s : State) (picks : List Key) (within : IsLawfulWithin ext s) where
  abbrev now : State
  now = step.if_up s

  abbrev start : Going
  start = going_of (step.if_up s) picks

  up_lawful : HasLawfulDatabases ext now
  up_lawful = when_up ext s within.along.lawful

  up_along : IsLawfulAlong ext now
  up_along = record { lawful = up_lawful; names = (up_leaves HasDotlessNames s).all within.along.names }

  seen_limits : HasLimits (view s)
  seen_limits = of_view HasLimits no_limits s within.limits

  -- a command that doesn't build leaves the names
  with_names : (c : Command) → BuildsNothing c → HasLawfulDatabases ext (step.step ext s c picks).state → IsLawfulAlong ext (step.step ext s c picks).state
  with_names c none lawful = record {
    lawful = lawful;
    names = of_each HasDotlessNames (step.step ext s c picks).state (step_keeps HasDotlessNames no_names names_stay ext s c picks none (to_each HasDotlessNames s within.along.names));
  }

  -- ---- a rule with a text that is too long is refused
  attached : (relation name : Name) (rule : Rule) → IsWritten (command.Attach relation name rule) → IsLawfulAlong ext (step.step ext s (command.Attach relation name rule) picks).state
  attached relation name rule is = of_large (is_large_rule rule) refl
    where
      not_refused : refused ext s (command.Attach relation name rule) ≡ None → is_large_rule rule ≡ false
      not_refused none =
          (or_parts (is_large_rule rule) (is_crowded (view s) relation rule)
          (or_parts (is_large_rule rule || is_crowded (view s) relation rule) (has_large_descriptor relation rule (with_rule (view s) relation name rule)) (is_within ext s (command.Attach relation name rule) none)).0).0

      of_refused : (first : Option Refusal) → refused ext s (command.Attach relation name rule) ≡ first → is_large_rule rule ≡ true
          → IsLawfulAlong ext (step.tested ext now (command.Attach relation name rule) picks first).state
      of_refused (Some r) e large = up_along
      of_refused None e large = absurd (true≢false (sym large ∙ not_refused e))

      of_large : (b : Bool) → is_large_rule rule ≡ b → IsLawfulAlong ext (step.step ext s (command.Attach relation name rule) picks).state
      of_large true large = of_refused (refused ext s (command.Attach relation name rule)) refl large
      of_large false small = steps-leave ext s (command.Attach relation name rule) picks (is.0, is.1, rule_short rule small is.2) within.along

  -- ---- a row with a text that is too long is refused
  tuple_of : (relation : Name) (values : Row) → IsWrittenRow values → first_misfit (schema_at (view s) relation) values ≡ None → is_short_enough (schema_at (view s) relation) values ≡ true → IsTuple values
  tuple_of relation values row fits short = record { some = row.some; few = row.few; storable = row_short (schema_at (view s) relation) values (seen_limits relation) fits short row.each }

  at_start : (relation : Name) (values : Row) → is_short_enough (schema_at (view s) relation) values ≡ false → is_short_enough (schema_at start.db relation) values ≡ false
  at_start relation values long = subst (λ (db : Db). is_short_enough (schema_at db relation) values ≡ false) (sym (begins s picks)) long

  keyed_stands : (relation : Name) (wish : Wish) → Halts (first_change ext relation wish start) → HasLawfulDatabases ext (step.changing ext now picks (step.with_key relation (first_change ext relation wish))).state
  keyed_stands relation wish halts =
      changing_stands ext now picks (step.with_key relation (first_change ext relation wish)) up_lawful
      (halted ext (step.with_key relation (first_change ext relation wish) start)
      (next_halts (first_change ext relation wish start) (λ key. λ going. made (step.row_answer going.db relation key) going) halts))

  inserted : (relation : Name) (values : Row) → IsWrittenRow values → HasLawfulDatabases ext (step.step ext s (command.Insert relation values) picks).state
  inserted relation values row = of_refused (refused ext s (command.Insert relation values)) refl
    where
      of_short : refused ext s (command.Insert relation values) ≡ None → first_misfit (schema_at (view s) relation) values ≡ None → (b : Bool) → is_short_enough (schema_at (view s) relation) values ≡ b
          → HasLawfulDatabases ext (step.tested ext now (command.Insert relation values) picks None).state
      of_short none fits true short =
          subst (λ (first : Option Refusal). HasLawfulDatabases ext (step.tested ext now (command.Insert relation values) picks first).state) none
          (steps-leave ext s (command.Insert relation values) picks (tuple_of relation values row fits short) within.along).lawful
      of_short none fits false long = keyed_stands relation (Put values) (put_halts ext 16 relation values start (at_start relation values long))

      of_refused : (first : Option Refusal) → refused ext s (command.Insert relation values) ≡ first → HasLawfulDatabases ext (step.tested ext now (command.Insert relation values) picks first).state
      of_refused (Some r) e = up_lawful
      of_refused None e =
          of_short e (is_none-none (first_misfit (schema_at (view s) relation) values) (is_kinded ext s (command.Insert relation values) e)) (is_short_enough (schema_at (view s) relation) values) refl

  updated : (relation : Name) (at : Key) (values : Row) → IsWrittenRow values → HasLawfulDatabases ext (step.step ext s (command.Update relation at values) picks).state
  updated relation at values row = of_refused (refused ext s (command.Update relation at values)) refl
    where
      of_short : refused ext s (command.Update relation at values) ≡ None → first_misfit (schema_at (view s) relation) values ≡ None → (b : Bool) → is_short_enough (schema_at (view s) relation) values ≡ b
          → HasLawfulDatabases ext (step.tested ext now (command.Update relation at values) picks None).state
      of_short none fits true short =
          subst (λ (first : Option Refusal). HasLawfulDatabases ext (step.tested ext now (command.Update relation at values) picks first).state) none
          (steps-leave ext s (command.Update relation at values) picks (tuple_of relation values row fits short) within.along).lawful
      of_short none fits false long = keyed_stands relation (Replace at values) (replace_halts ext 16 relation values start at (at_start relation values long))

      of_refused : (first : Option Refusal) → refused ext s (command.Update relation at values) ≡ first → HasLawfulDatabases ext (step.tested ext now (command.Update relation at values) picks first).state
      of_refused (Some r) e = up_lawful
      of_refused None e =
          of_short e (is_none-none (first_misfit (schema_at (view s) relation) values) (is_kinded ext s (command.Update relation at values) e)) (is_short_enough (schema_at (view s) relation) values) refl

  -- ---- a column is set to a text that is too long
  module _ (relation column : Name) (t : List ℕ) (pairs : List (Name × Term)) (long : 255 < length t) where
    abbrev sets : Action
    sets = action.Set relation column (Const (Text t)) pairs

    start_lawful : IsLawfulWork ext start
    start_lawful = begins_lawful ext now picks up_lawful

    set_turn : refused ext s (command.Act sets) ≡ None → HasLawfulDatabases ext (step.tested ext now (command.Act sets) picks None).state
    set_turn none =
        let fits = and_parts (is_one_kind (column_kind (schema_at (view s) relation) column) (Some kind.Text)) (pairs_fit (schema_at (view s) relation) (term_kind [] false false) pairs) (is_kinded ext s (command.Act sets) none) in
        let kinds : column_kind (schema_at (view s) relation) column ≡ Some kind.Text = same_kind (column_kind (schema_at (view s) relation) column) kind.Text fits.0 in
        let stays : Stays start (act (first_change ext) sets start) =
        set_stays ext 16 relation column t pairs start start_lawful.stands.lawful (subst (λ (db : Db). All IsLimited (schema_at db relation)) (sym (begins s picks)) (seen_limits relation))
        (subst (λ (db : Db). column_kind (schema_at db relation) column ≡ Some kind.Text) (sym (begins s picks)) kinds) long in
        changing_stands ext now picks (λ going. continue (λ n. made (step.Counts n)) (act (first_change ext) sets going)) up_lawful
        (next_stands ext (act (first_change ext) sets start) (λ n. made (step.Counts n)) (stayed ext start (act (first_change ext) sets start) start_lawful stays) (λ n g works. works))

    set_lawful : HasLawfulDatabases ext (step.step ext s (command.Act sets) picks).state
    set_lawful = of_refused (refused ext s (command.Act sets)) refl
      where
        of_refused : (first : Option Refusal) → refused ext s (command.Act sets) ≡ first → HasLawfulDatabases ext (step.tested ext now (command.Act sets) picks first).state
        of_refused (Some r) e = up_lawful
        of_refused None e = set_turn e

  set_along : (relation column : Name) (term : Term) (pairs : List (Name × Term)) → HasWrittenValue term → IsLawfulAlong ext (step.step ext s (command.Act (action.Set relation column term pairs)) picks).state
  set_along relation column (New name) pairs written = steps-leave ext s (command.Act (action.Set relation column (New name) pairs)) picks tt within.along
  set_along relation column (Old name) pairs written = steps-leave ext s (command.Act (action.Set relation column (Old name) pairs)) picks tt within.along
  set_along relation column (Const (Int n)) pairs written = steps-leave ext s (command.Act (action.Set relation column (Const (Int n)) pairs)) picks written within.along
  set_along relation column (Const (Text t)) pairs written = of_test (nat_le (length t) 255) refl
    where
      of_test : (b : Bool) → nat_le (length t) 255 ≡ b → IsLawfulAlong ext (step.step ext s (command.Act (action.Set relation column (Const (Text t)) pairs)) picks).state
      of_test true short = steps-leave ext s (command.Act (action.Set relation column (Const (Text t)) pairs)) picks (written, leb-true (length t) 255 short) within.along
      of_test false long = with_names (command.Act (action.Set relation column (Const (Text t)) pairs)) tt (set_lawful relation column t pairs (leb-false (length t) 255 long))

  acted : (a : Action) → IsWrittenAction a → IsLawfulAlong ext (step.step ext s (command.Act a) picks).state
  acted (action.Insert relation terms) is = absurd is
  acted (action.Delete relation pairs) is = steps-leave ext s (command.Act (action.Delete relation pairs)) picks tt within.along
  acted (action.Set relation column term pairs) is = set_along relation column term pairs is
  acted (action.Add relation column term pairs) is = steps-leave ext s (command.Act (action.Add relation column term pairs)) picks tt within.along

  -- ---- all commands
  along_stays : (c : Command) → IsWritten c → IsLawfulAlong ext (step.step ext s c picks).state
  along_stays (command.Create relation method schema key) is = steps-leave ext s (command.Create relation method schema key) picks is.0 within.along
  along_stays (command.Attach relation name rule) is = attached relation name rule is
  along_stays (command.Detach relation name) is = steps-leave ext s (command.Detach relation name) picks is within.along
  along_stays (command.Insert relation values) is = with_names (command.Insert relation values) tt (inserted relation values is)
  along_stays (command.Update relation at values) is = with_names (command.Update relation at values) tt (updated relation at values is)
  along_stays (command.Act a) is = acted a is
  along_stays (command.Drop relation) is = steps-leave ext s (command.Drop relation) picks tt within.along
  along_stays (command.Delete relation at) is = steps-leave ext s (command.Delete relation at) picks tt within.along
  along_stays command.Begin is = steps-leave ext s command.Begin picks tt within.along
  along_stays command.Commit is = steps-leave ext s command.Commit picks tt within.along
  along_stays command.Abort is = steps-leave ext s command.Abort picks tt within.along
  along_stays (command.Savepoint name) is = steps-leave ext s (command.Savepoint name) picks tt within.along
  along_stays (command.Rollback name) is = steps-leave ext s (command.Rollback name) picks tt within.along
  along_stays (command.Register method code) is = steps-leave ext s (command.Register method code) picks tt within.along
  along_stays (command.Retire method code) is = steps-leave ext s (command.Retire method code) picks tt within.along
  along_stays (command.Get relation at) is = steps-leave ext s (command.Get relation at) picks tt within.along
  along_stays (command.Scan relation after limit) is = steps-leave ext s (command.Scan relation after limit) picks tt within.along
  along_stays (command.Lookup relation name values) is = steps-leave ext s (command.Lookup relation name values) picks tt within.along
  along_stays (command.Range relation name low high) is = steps-leave ext s (command.Range relation name low high) picks tt within.along
  along_stays (command.Entries relation name) is = steps-leave ext s (command.Entries relation name) picks tt within.along
  along_stays (command.Show relation) is = steps-leave ext s (command.Show relation) picks tt within.along
  along_stays command.Tables is = steps-leave ext s command.Tables picks tt within.along
  along_stays command.Checkpoint is = steps-leave ext s command.Checkpoint picks tt within.along

-- ---- the laws
pub written-steps : WrittenStepsLeaveLawful
written-steps ext s c picks is within = record { along = along_stays ext s picks within c is; limits = limits_stay ext s c picks is within.limits }

pub databases-lawful : DatabasesAreLawful
databases-lawful ext s within = databases-are-lawful ext s within.along

pub nothing-lawful : NothingIsLawful
nothing-lawful ext live spare = record { along = beginning-along ext live spare; limits = All-cons HasLimits [] [] no_limits (All-nil HasLimits) }

pub alike-lawful : AlikeAreLawful
alike-lawful ext other s alike within = record { along = alike-are-lawful ext other s alike within.along; limits = within.limits }

pub down-lawful : DownIsLawful
down-lawful ext s within = record { along = down-is-lawful ext s within.along; limits = within.limits }
