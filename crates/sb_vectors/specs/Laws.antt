-- What becomes of codes when boxes move.
use Rattle.std.specs.Prelude.{◌≡◌, ℕ, Bool, true, false, None}
use Rattle.sb_plain.specs.State.{with_code, without_code}
use Rattle.sb_registry.specs.Boxes.{Meanings, repeated_in}
use Rattle.sb_vectors.specs.Vectors.{Registers, Retires, has_box, live_codes, spare_codes}

-- the code of a box that is made live goes from the spare ones to the end of the live ones
abbrev pub RegisteringMoves : Type 0
RegisteringMoves =
    (method : Bool) (code : ℕ) (old new : Meanings) → repeated_in old ≡ None → Registers method code true old new
    → (live_codes new ≡ with_code method code (live_codes old)) × (spare_codes new ≡ without_code method code (spare_codes old))

-- where no spare box has it, all stays
abbrev pub RegisteringStays : Type 0
RegisteringStays =
    (method : Bool) (code : ℕ) (old new : Meanings) → Registers method code false old new → (has_box old false method code ≡ false) × (new ≡ old)

-- the code of a box that is made spare goes from the live ones to the end of the spare ones
abbrev pub RetiringMoves : Type 0
RetiringMoves =
    (method : Bool) (code : ℕ) (old new : Meanings) → repeated_in old ≡ None → Retires method code true old new
    → (live_codes new ≡ without_code method code (live_codes old)) × (spare_codes new ≡ with_code method code (spare_codes old))

-- where no live box has it, all stays
abbrev pub RetiringStays : Type 0
RetiringStays =
    (method : Bool) (code : ℕ) (old new : Meanings) → Retires method code false old new → (has_box old true method code ≡ false) × (new ≡ old)
