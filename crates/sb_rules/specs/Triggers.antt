-- What the box of triggers means, and what it answers.
use Rattle.std.specs.Prelude.{◌≡◌, Bool, true, false, ◌&&◌, List, [], ◌∷◌}
use Rattle.sb_value.specs.declared.schema.Column.{Column}
use Rattle.sb_pred.specs.Tree.{Tree}
use Rattle.sb_pred.specs.Truth.{truth}
use Rattle.sb_rule.specs.Bound.{row_before, row_after}
use Rattle.sb_rule.specs.declared.action.Action.{Action}
use Rattle.sb_rule.specs.declared.change.Change.{Change}
use Rattle.sb_rule.specs.declared.rule.Event.{Event}
use Rattle.sb_rule.specs.declared.rule.Rule.{Rule}
use Rattle.sb_rule.specs.declared.rule.Rule.TheVariants.{Trigger}
use Rattle.sb_rule.specs.Spelling.{SpellsRule}
use Rattle.sb_relation.specs.Rules.{is_event}
use Rattle.sb_ctx.specs.Attachment.{Attachment}
use Rattle.sb_ctx.specs.declared.instance.Instance.{Instance}
use Rattle.sb_ctx.specs.declared.moves.Move.{Move}
use Rattle.sb_ctx.specs.declared.moves.Move.TheVariants.{Acts}
use Rattle.sb_rules.specs.Pageless.{pageless}

abbrev pub trigger : Attachment
trigger = pageless 7

-- the instance's bytes spell this trigger and no other rule
abbrev pub KeepsTrigger : Instance → Event → Tree → Action → Bool → Type 0
KeepsTrigger inst on pred act deferred = (rule : Rule) → SpellsRule 7 inst.desc rule → rule ≡ Trigger on pred act deferred

-- the change is of the event, and the predicate holds of the rows before and after it
abbrev pub meets : List Column → Event → Tree → Change → Bool
meets schema on pred c = is_event on c && truth schema (row_before c) (row_after c) pred

-- the action follows at once, or waits for the commit
abbrev pub acted : Bool → Action → Move
acted false act = Acts (act ∷ []) [] []
acted true act = Acts [] (act ∷ []) []
