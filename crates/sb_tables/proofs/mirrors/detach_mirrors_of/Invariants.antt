use Rattle.std.proofs.Common.{ℕ, List, ◌++◌, drop}
use Rattle.sb_relation.specs.Db.{Db}
use Rattle.sb_fold.specs.Costs.{descriptor_cost}
use Rattle.sb_drive.specs.Spaces.{LeadsOn}
use Rattle.sb_engine.specs.Working.{extensions_of}
use Rattle.sb_tables.specs.Keeping.{HasMore, KeepsWithin}
use Rattle.sb_tables.specs.Removal.{mirrors_bounds_of, mirrors_cost, without_mirrors_of}
use Rattle.sb_tables.proofs.DetachedLemmas.{KeepsRest}
use Rattle.sb_tables.proofs.mirrors.detach_mirrors_of.Given as goal

abbrev pub invariant-loop-attached : goal.invariant-loop-attached
invariant-loop-attached g l = record {
  ready : g.S.PageSpace.is_ready l.space;
  leads : LeadsOn g.S.PageSpace.leads l.fn.space l.space;
  more : HasMore l.fn.gone.items l.gone.items;
  rest : (aside : List ℕ) (most : ℕ) (db : Db) → KeepsWithin g.S.PageSpace.has (g.B.Boxes.meanings l.boxes) l.place.root l.fn.gone.items aside most db l.fn.space
      → KeepsRest g.S.PageSpace.has g.S.PageSpace.leads (g.B.Boxes.meanings l.boxes) l.place.root l.gone.items (aside ++ mirrors_bounds_of (extensions_of (g.B.Boxes.meanings l.boxes)) l.name l.attachments db) most l.name (drop l.attached-index l.attachments) (without_mirrors_of l.name l.attachments db)
      (descriptor_cost (extensions_of (g.B.Boxes.meanings l.boxes)) db) (mirrors_cost (descriptor_cost (extensions_of (g.B.Boxes.meanings l.boxes)) db) l.name l.attachments) l.fn.space l.space;
}
