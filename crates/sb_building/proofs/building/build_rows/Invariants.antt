use Rattle.std.proofs.Common.{◌≡◌, []}
use Rattle.sb_drive.specs.Spaces.{LeadsOn}
use Rattle.sb_registry.specs.Live.{IsLiveRule}
use Rattle.sb_standing.specs.Tables.{table_of}
use Rattle.sb_tables.specs.Opened.{IsDurable}
use Rattle.sb_building.specs.Building.{HoldsBuilt}
use Rattle.sb_building.specs.Instances.{IsSite, Site}
use Rattle.sb_building.proofs.BuildLemmas.{IsPaidUp}
use Rattle.sb_building.proofs.building.build_rows.Given as goal

abbrev pub invariant-rows : goal.invariant-rows
invariant-rows g l =
    record {
      ready : g.S.PageSpace.is_ready l.space;
      leads : LeadsOn g.S.PageSpace.leads l.fn.space l.space;
      up : (live : IsLiveRule (g.B.Boxes.meanings l.boxes) l.inst) (x : Site) → IsSite g.S.PageSpace.has (g.B.Boxes.meanings l.boxes) l.place.root x l.inst l.rule live.box l.fn.space → l.table ≡ table_of IsDurable x.one
          → HoldsBuilt x live.box l.inst l.rule [] → IsPaidUp g.S.PageSpace.has g.S.PageSpace.leads (g.B.Boxes.meanings l.boxes) l.place.root x l.inst l.rule live.box l.last l.counter l.fn.space l.space;
    }
