-- The pages of the catalogue.
use Rattle.std.proofs.Common.{ℕ, ◌+◌, ◌*◌, ◌≤◌, Bool, List, length, map, arith}
use Rattle.std.proofs.lemmas.List.{length-map}
use Rattle.sb_forms.specs.Pages.{page_count}
use Rattle.sb_registry.specs.Boxes.{Meanings}
use Rattle.sb_drive.specs.Slots.{Slots, owned}
use Rattle.sb_standing.specs.Tables.{Kept, Tables, entry_of}
use Rattle.sb_map.proofs.Mapping.{maps_are_small}

-- two for each relation and three more at most
pub catalogue_small : (m : Meanings) (durable : ℕ → Bool) (root : ℕ) (s : Slots) (kept : List Kept) → Tables m durable root s kept
    → page_count (owned s 2) ≤ 2 * length kept + 3
catalogue_small m durable root s kept tables =
    omega (arith, maps_are_small root (owned s 2) (map entry_of kept) tables.catalogue, length-map kept entry_of)
