use Rattle.std.proofs.Common.{All, take}
use Rattle.sb_drive.specs.Slots.{Slots}
use Rattle.sb_drive.specs.Spaces.{Wanted}
use Rattle.sb_registry.specs.Live.{IsLiveRule}
use Rattle.sb_opened.specs.Opened.{rule_of}
use Rattle.sb_opened.proofs.rules.check_rules.Given as goal

abbrev pub invariant-loop-attached : goal.invariant-loop-attached
invariant-loop-attached g l = record {
  ready : g.S.PageSpace.is_ready l.space;
  leads : g.S.PageSpace.leads 0 l.fn.space l.space;
  has : (want : Wanted) (s : Slots) → g.S.PageSpace.has want s l.fn.space → g.S.PageSpace.has want s l.space;
  live : All (λ a. IsLiveRule (g.B.Boxes.meanings l.boxes) (rule_of l.name l.descriptor a)) (take l.attached-index l.attachments);
}
