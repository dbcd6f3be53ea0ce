-- The columns of all relations stay limited.
use Rattle.std.proofs.Common.{Bool, true, false, not, cond, List, [], ◌∷◌, Option, Some, None, filter, sym, subst}
use Rattle.std.specs.Prelude.{All}
use Rattle.std.specs.FinMap.Entries.{find-put}
use Rattle.std.specs.Ordering.{eq_by_cmp}
use Rattle.std.specs.Str.{bytes_eq}
use Rattle.std.proofs.lemmas.Cmp.{nat_list_cmp_total}
use Rattle.std.proofs.lemmas.List.Elements.{All-nil}
use Rattle.sb_value.specs.declared.schema.Column.{Column}
use Rattle.sb_value.specs.Order.{bytes_cmp}
use Rattle.sb_rule.specs.declared.rule.Rule.{Rule}
use Rattle.sb_relation.specs.Build.{mirror_name, mirror_of, with_attached, with_mirror, with_rule}
use Rattle.sb_relation.specs.Db.{Name, Key, Attached, Relation, Db, relation_at, with_relation}
use Rattle.sb_fold.specs.Building.{without_attached, without_mirror, without_rule, without_mirror_of, without_mirrors, without_relation}
use Rattle.sb_fold.specs.Extensions.{Extensions}
use Rattle.sb_fold.specs.Fold.{attachments_at}
use Rattle.sb_cascade.proofs.Commanding.{same_items, same_attached}
use Rattle.sb_cascade.proofs.Staying.{SameColumns, itself, then, changed_columns}
use Rattle.sb_plain.specs.declared.command.Command.{Command}
use Rattle.sb_plain.specs.declared.command.Command.TheVariants as command
use Rattle.sb_plain.specs.State.{State}
use Rattle.sb_plain.specs.Step.{step}
use Rattle.sb_lawful.specs.Laws.{databases}
use Rattle.sb_lawful.proofs.AttachSteps.{attached_step}
use Rattle.sb_lawful.proofs.Commands.{created_step, detached_step, dropped_step}
use Rattle.sb_lawful.proofs.Places.{relation_without}
use Rattle.sb_lawful_steps.proofs.States.{BuildsNothing, to_each, of_each, step_keeps}
use Rattle.sb_said.specs.Laws.{HasLimits}
use Rattle.sb_said.specs.Written.{IsLimited, IsWritten}

abbrev schema_in : Option Relation → List Column
schema_in o = elim o [ None ↦ [] | Some r ↦ r.schema ]

pub no_limits : HasLimits []
no_limits name = All-nil IsLimited

same_limits : (db other : Db) → SameColumns db other → HasLimits db → HasLimits other
same_limits db other same limits name = subst (All IsLimited) (same.schema name) (limits name)

-- ---- what comes
created : (db : Db) (name : Name) (r : Relation) → All IsLimited r.schema → HasLimits db → HasLimits (with_relation db name r)
created db name r new limits other =
    subst (λ (o : Option Relation). All IsLimited (schema_in o)) (sym (find-put bytes_cmp nat_list_cmp_total other name r db)) (of_test (eq_by_cmp bytes_cmp other name))
  where
    of_test : (b : Bool) → All IsLimited (schema_in (cond b (Some r) (relation_at db other)))
    of_test true = new
    of_test false = limits other

same_mirror : (db : Db) (relation label : Name) (mirror : Option (Name × Rule)) → SameColumns db (with_mirror db relation label mirror)
same_mirror db relation label None = itself db
same_mirror db relation label (Some (other, rule)) = same_attached db other (mirror_name relation label) rule

same_with : (db : Db) (relation label : Name) (rule : Rule) → SameColumns db (with_rule db relation label rule)
same_with db relation label rule =
    then db (with_attached db relation label rule) (with_rule db relation label rule) (same_attached db relation label rule)
    (same_mirror (with_attached db relation label rule) relation label (mirror_of relation rule))

-- ---- what goes
same_detached : (db : Db) (name label : Name) → SameColumns db (without_attached db name label)
same_detached db name label = same_items db name (λ r. filter (λ a. not (bytes_eq a.name label)) r.attachments)

same_unmirrored : (db : Db) (relation label : Name) (mirror : Option (Name × Rule)) → SameColumns db (without_mirror relation label mirror db)
same_unmirrored db relation label None = itself db
same_unmirrored db relation label (Some (other, rule)) = same_detached db other (mirror_name relation label)

same_without : (db : Db) (relation : Name) (gone : Attached) → SameColumns db (without_rule db relation gone)
same_without db relation gone =
    then db (without_attached db relation gone.name) (without_rule db relation gone) (same_detached db relation gone.name)
    (same_unmirrored (without_attached db relation gone.name) relation gone.name (mirror_of relation gone.rule))

same_without_all : (relation : Name) (items : List Attached) (db : Db) → SameColumns db (without_mirrors relation items db)
same_without_all relation [] db = itself db
same_without_all relation (a ∷ items) db =
    then db (without_mirror_of relation a db) (without_mirrors relation items (without_mirror_of relation a db)) (same_unmirrored db relation a.name (mirror_of relation a.rule))
    (same_without_all relation items (without_mirror_of relation a db))

dropped : (db : Db) (name : Name) → HasLimits db → HasLimits (without_relation db name)
dropped db name limits other =
    let left : Db = without_mirrors name (attachments_at db name) db in
    subst (λ (o : Option Relation). All IsLimited (schema_in o)) (sym (relation_without left name other)) (of_test left (same_limits db left (same_without_all name (attachments_at db name) db) limits) (not (bytes_eq other name)))
  where
    of_test : (left : Db) → HasLimits left → (b : Bool) → All IsLimited (schema_in (cond b (relation_at left other) None))
    of_test left still true = still other
    of_test left still false = All-nil IsLimited

-- ---- steps
others : (ext : Extensions) (s : State) (c : Command) (picks : List Key) → BuildsNothing c → All HasLimits (databases s) → All HasLimits (databases (step ext s c picks).state)
others ext s c picks none limits =
    of_each HasLimits (step ext s c picks).state
    (step_keeps HasLimits no_limits (λ db name change still. same_limits db _ (changed_columns db name change) still) ext s c picks none (to_each HasLimits s limits))

pub limits_stay : (ext : Extensions) (s : State) (c : Command) (picks : List Key) → IsWritten c → All HasLimits (databases s) → All HasLimits (databases (step ext s c picks).state)
limits_stay ext s (command.Create relation method schema key) picks is limits =
    (created_step HasLimits no_limits ext s picks relation method schema key (λ db may still. created db relation (record { method = method; schema = schema; key = key; rows = []; attachments = [] }) is.1 still)).all limits
limits_stay ext s (command.Drop relation) picks is limits = (dropped_step HasLimits no_limits ext s picks relation (λ db unused still. dropped db relation still)).all limits
limits_stay ext s (command.Attach relation name rule) picks is limits =
    (attached_step HasLimits no_limits ext s picks relation name rule (λ db same may short still. same_limits db (with_rule db relation name rule) (same_with db relation name rule) still)).all limits
limits_stay ext s (command.Detach relation name) picks is limits =
    (detached_step HasLimits no_limits ext s picks relation name (λ db same a found still. same_limits db (without_rule db relation a) (same_without db relation a) still)).all limits
limits_stay ext s (command.Insert relation values) picks is limits = others ext s (command.Insert relation values) picks tt limits
limits_stay ext s (command.Delete relation at) picks is limits = others ext s (command.Delete relation at) picks tt limits
limits_stay ext s (command.Update relation at values) picks is limits = others ext s (command.Update relation at values) picks tt limits
limits_stay ext s (command.Act act) picks is limits = others ext s (command.Act act) picks tt limits
limits_stay ext s command.Begin picks is limits = others ext s command.Begin picks tt limits
limits_stay ext s command.Commit picks is limits = others ext s command.Commit picks tt limits
limits_stay ext s command.Abort picks is limits = others ext s command.Abort picks tt limits
limits_stay ext s (command.Savepoint name) picks is limits = others ext s (command.Savepoint name) picks tt limits
limits_stay ext s (command.Rollback name) picks is limits = others ext s (command.Rollback name) picks tt limits
limits_stay ext s (command.Register method code) picks is limits = others ext s (command.Register method code) picks tt limits
limits_stay ext s (command.Retire method code) picks is limits = others ext s (command.Retire method code) picks tt limits
limits_stay ext s (command.Get relation at) picks is limits = others ext s (command.Get relation at) picks tt limits
limits_stay ext s (command.Scan relation after limit) picks is limits = others ext s (command.Scan relation after limit) picks tt limits
limits_stay ext s (command.Lookup relation name values) picks is limits = others ext s (command.Lookup relation name values) picks tt limits
limits_stay ext s (command.Range relation name low high) picks is limits = others ext s (command.Range relation name low high) picks tt limits
limits_stay ext s (command.Entries relation name) picks is limits = others ext s (command.Entries relation name) picks tt limits
limits_stay ext s (command.Show relation) picks is limits = others ext s (command.Show relation) picks tt limits
limits_stay ext s command.Tables picks is limits = others ext s command.Tables picks tt limits
limits_stay ext s command.Checkpoint picks is limits = others ext s command.Checkpoint picks tt limits
