-- How many changes an attachment makes on an open relation.
use Rattle.std.proofs.Common.{◌≡◌, ℕ, ◌+◌, ◌≤◌, length, map, Some, refl, sym, ap, arith}
use Rattle.std.proofs.lemmas.List.{length-map}
use Rattle.sb_node.specs.Entries.{Entry}
use Rattle.sb_rule.specs.declared.rule.Rule.{Rule}
use Rattle.sb_relation.specs.Db.{Name, rows_at, schema_at}
use Rattle.sb_forms.specs.Maps.{map_in}
use Rattle.sb_forms.specs.Pages.{Pages}
use Rattle.sb_fold.specs.Costs.{descriptor_cost, prepare_cost, tree_cost}
use Rattle.sb_ctx.specs.declared.instance.Instance.{Instance}
use Rattle.sb_ctx.specs.Attachment.{Attachment}
use Rattle.sb_registry.specs.Boxes.{Meanings}
use Rattle.sb_drive.specs.Slots.{Slots, owned}
use Rattle.sb_drive.specs.Spaces.{LeadsWithin, Leaves, Wanted}
use Rattle.sb_drive.proofs.SpacesLemmas.{GoesOn, LeadsWithin-more}
use Rattle.sb_deferred.proofs.RelationLemmas.{rows_of}
use Rattle.sb_standing.specs.Tables.{db_of, entry_of}
use Rattle.sb_tables.specs.Working.{extensions_of}
use Rattle.sb_tables.proofs.LackingLemmas.{all_meant}
use Rattle.sb_tables.proofs.SpendingLemmas.{entry_cost, within_then}
use Rattle.sb_tables.proofs.StandsLemmas.{durable-kept}
use Rattle.sb_building.specs.Attaching.{HasBegun, Stores}
use Rattle.sb_building.specs.Costs.{build_cost, build_left, rows_cost}
use Rattle.sb_building.specs.Instances.{Site}
use Rattle.sb_building.proofs.CostLemmas.{build_enough}
use Rattle.sb_building.proofs.EndedLemmas.{there_stored}
use Rattle.sb_building.proofs.SiteLemmas.{Tables-apart}

module _ {S : Type 0} (Has : Wanted → Slots → S → Type 0) (Leads : ℕ → S → S → Type 0) (goes_on : GoesOn Leads) (m : Meanings) (root : ℕ) (x : Site) (name : Name) (rule : Rule) (stores : Stores m root x name) where
  -- its preparation and what is left then are what a build spends
  pub begun_enough : prepare_cost (extensions_of m) (schema_at (db_of x.kept) name) rule + build_left (extensions_of m) (db_of x.kept) name rule ≤ build_cost (extensions_of m) (db_of x.kept) name rule
  begun_enough = build_enough (extensions_of m) name rule (db_of x.kept) (durable-kept m root x.slots x.gone x.kept stores.keeps stores.lasting (db_of x.kept) refl name)

  -- one descriptor is no more than is charged for it
  entry_enough : tree_cost (length (map entry_of x.kept)) ≤ descriptor_cost (extensions_of m) (db_of x.kept)
  entry_enough =
      omega (
        arith,
        entry_cost (extensions_of m) x.kept (db_of x.kept) refl (all_meant m root x.slots x.kept stores.lasting stores.keeps.tables),
        ap tree_cost (length-map {B = Entry} x.kept entry_of),
      )

  -- the rows of an instance of the relation are its rows
  module _ (relation : Name) (same : relation ≡ name) where
    rows_alike : rows_cost (extensions_of m) (db_of x.kept) relation rule x.one.relation.rows ≡ rows_cost (extensions_of m) (db_of x.kept) name rule (rows_at (db_of x.kept) name)
    rows_alike i = rows_cost (extensions_of m) (db_of x.kept) (same i) rule (sym (ap rows_of (there_stored Has m root x name stores)) i)

    -- its rows are built within what is left
    pub within-rows : (old new : S) → LeadsWithin Leads (rows_cost (extensions_of m) (db_of x.kept) relation rule x.one.relation.rows) old new
        → LeadsWithin Leads (build_left (extensions_of m) (db_of x.kept) name rule) old new
    within-rows old new costs = LeadsWithin-more Leads (rows_cost (extensions_of m) (db_of x.kept) relation rule x.one.relation.rows) _ old new (omega (arith, rows_alike)) costs

    -- and so is its descriptor behind them
    pub within-placed : (inst : Instance) (box : Attachment) (old mid new : S) → (begun : HasBegun Has m root x inst rule box old) → (IsSo : Pages → Type 0) → Leaves Has inst.owner x.want begun.slots mid IsSo
        → LeadsWithin Leads (rows_cost (extensions_of m) (db_of x.kept) relation rule x.one.relation.rows) old mid
        → ((y : Site) → Has y.want y.slots mid → map_in root (owned y.slots 2) ≡ Some (map entry_of y.kept) → LeadsWithin Leads (tree_cost (length (map entry_of y.kept))) mid new)
        → LeadsWithin Leads (build_left (extensions_of m) (db_of x.kept) name rule) old new
    within-placed inst box old mid new begun IsSo left rows placed =
        within_then Leads goes_on (rows_cost (extensions_of m) (db_of x.kept) relation rule x.one.relation.rows) (tree_cost (length (map entry_of x.kept))) _ old mid new (omega (arith, rows_alike, entry_enough)) rows
        (placed (record x { slots = left.slots }) left.has (Tables-apart m root inst.owner begun.slots left.slots x.kept begun.site.apart left.others begun.site.tables).catalogue)
