-- Rules that are well typed, by the columns of the second relation that they name.
use Rattle.std.proofs.Common.{◌≡◌, ◌&&◌, Bool, List, sym, ap, ◌∙◌}
use Rattle.std.specs.Prelude.{Option}
use Rattle.sb_value.specs.declared.schema.Column.{Column}
use Rattle.sb_pred.specs.Tree.{Tree}
use Rattle.sb_pred.specs.Typing.{term_kind, is_well_typed}
use Rattle.sb_rule.specs.declared.action.Action.{Action}
use Rattle.sb_rule.specs.declared.rule.Event.{Event}
use Rattle.sb_rule.specs.declared.rule.Mode.{Mode}
use Rattle.sb_rule.specs.declared.rule.Side.{Side}
use Rattle.sb_rule.specs.declared.rule.Rule.{Rule}
use Rattle.sb_rule.specs.declared.rule.Rule.TheVariants.{JoinIndex, Refers, Trigger}
use Rattle.sb_relation.specs.Db.{Name, Db}
use Rattle.sb_relation.specs.Fits.{relation_of, are_one_kind, kinds_at, action_fits, rule_fits, has_old, has_new}
use Rattle.sb_relation.specs.Foreign.{AttachRules}
use Rattle.sb_kinds.specs.Others.{tied_by, IsBeside}

pub join_fits : (box : Option AttachRules) (db : Db) (schema second : List Column) (rule : Rule) (side : Side) (columns : List Name) (other : Name) (others : List Name) (b : Bool)
    → rule ≡ JoinIndex side columns other others → IsBeside db rule second → b ≡ are_one_kind (kinds_at schema columns) (kinds_at second others) → b ≡ rule_fits box db schema rule
join_fits box db schema second rule side columns other others b is beside e =
    e ∙ sym (ap (λ (cs : List Column). are_one_kind (kinds_at schema columns) (kinds_at cs others)) (beside.second other (ap tied_by is)))
    ∙ sym (ap (rule_fits box db schema) is)

pub reference_fits : (box : Option AttachRules) (db : Db) (schema second : List Column) (rule : Rule) (side : Side) (columns : List Name) (other : Name) (others : List Name) (mode : Mode) (deferred : Bool)
    (b : Bool) → rule ≡ Refers side columns other others mode deferred → IsBeside db rule second → b ≡ are_one_kind (kinds_at schema columns) (kinds_at second others)
    → b ≡ rule_fits box db schema rule
reference_fits box db schema second rule side columns other others mode deferred b is beside e =
    e ∙ sym (ap (λ (cs : List Column). are_one_kind (kinds_at schema columns) (kinds_at cs others)) (beside.second other (ap tied_by is)))
    ∙ sym (ap (rule_fits box db schema) is)

pub trigger_fits : (box : Option AttachRules) (db : Db) (schema second : List Column) (rule : Rule) (on : Event) (pred : Tree) (act : Action) (deferred : Bool) (b : Bool)
    → rule ≡ Trigger on pred act deferred → IsBeside db rule second
    → b ≡ (is_well_typed schema (has_old on) (has_new on) pred && action_fits second (term_kind schema (has_old on) (has_new on)) act) → b ≡ rule_fits box db schema rule
trigger_fits box db schema second rule on pred act deferred b is beside e =
    e ∙ sym (ap (λ (cs : List Column). is_well_typed schema (has_old on) (has_new on) pred && action_fits cs (term_kind schema (has_old on) (has_new on)) act) (beside.second (relation_of act) (ap tied_by is)))
    ∙ sym (ap (rule_fits box db schema) is)
