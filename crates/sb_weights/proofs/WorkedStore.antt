-- The pages of a new store are three at most, which are those of its catalogue.
use Rattle.std.proofs.Common.{◌≡◌, ℕ, ◌<◌, ◌≤◌, Bool, [], Some, arith}
use Rattle.std.proofs.lemmas.List.Elements.{All-nil}
use Rattle.sb_forms.specs.Maps.{map_in}
use Rattle.sb_forms.specs.Pages.{ArePages}
use Rattle.sb_registry.specs.Boxes.{Meanings}
use Rattle.sb_drive.specs.Slots.{Slots, owned}
use Rattle.sb_room.specs.Owned.{pages_of}
use Rattle.sb_standing.proofs.RelationLemmas.{Keeps-new}
use Rattle.sb_weights.specs.Weights.{owners_with}
use Rattle.sb_weights.proofs.Resting.{rest-is-within}

new_store : (m : Meanings) (durable : ℕ → Bool) (root : ℕ) (s : Slots) → ((o : ℕ) → ArePages (owned s o)) → map_in root (owned s 2) ≡ Some []
    → ((o : ℕ) → 2 < o → (n : ℕ) → owned s o n ≡ []) → pages_of s (owners_with [] []) ≤ 3
new_store m durable root s are empty none =
    rest-is-within m durable root s [] [] (record { durable = []; others = [] }) 0 (All-nil _) are (Keeps-new m durable root s empty none) (omega arith)
