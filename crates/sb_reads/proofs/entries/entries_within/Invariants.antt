use Rattle.std.proofs.Common.{◌-◌, ◌^◌, List, length, option_copied}
use Rattle.sb_relation.specs.Content.{Content}
use Rattle.sb_drive.specs.Slots.{Slots}
use Rattle.sb_drive.specs.Spaces.{Wanted}
use Rattle.sb_standing.specs.Tables.{Kept}
use Rattle.sb_reads.specs.Stores.{HasContent}
use Rattle.sb_reads.proofs.EntriesLemmas.{IsRead}
use Rattle.sb_reads.proofs.entries.entries_within.Given as goal

abbrev pub invariant-entries : goal.invariant-entries
invariant-entries g l = record {
  ready : g.S.PageSpace.is_ready l.space;
  leads : g.S.PageSpace.leads 0 l.fn.space l.space;
  has : (want : Wanted) (s : Slots) → g.S.PageSpace.has want s l.fn.space → g.S.PageSpace.has want s l.space;
  read : (want : Wanted) (s : Slots) (kept : List Kept) (content : Content) → g.S.PageSpace.has want s l.fn.space → HasContent (g.B.Boxes.meanings l.boxes) l.place.root s kept l.inst content
      → IsRead l.low (option_copied l.high) content.entries l.last l.found.items;
}

-- a list has fewer than 2 to the 64th items
abbrev pub decreases-entries : goal.decreases-entries
decreases-entries g l = 2 ^ 64 - length l.found.items
