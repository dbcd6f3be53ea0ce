-- What is asked of all boxes, and what becomes of them.
use Rattle.std.specs.Prelude.{◌≡◌, ℕ, ◌==◌, Bool, true, false, List, [], ◌++◌, map, is_some}
use Rattle.sb_plain.specs.Extensions.{is_durable_method}
use Rattle.sb_plain.specs.State.{Codes}
use Rattle.sb_registry.specs.Boxes.{Meanings, attachment_of, boxes_of, method_of}
use Rattle.sb_registry.specs.Codes.{GoesIf}

-- whether a box of this code is among the live ones or the spare ones, the storage methods or the attachments
abbrev pub has_box : Meanings → Bool → Bool → ℕ → Bool
has_box m true true code = is_some (method_of code m.methods)
has_box m true false code = is_some (attachment_of code m.attachments)
has_box m false true code = is_some (method_of code m.spare_methods)
has_box m false false code = is_some (attachment_of code m.spare_attachments)

-- the codes of those boxes, in their order
abbrev pub codes_in : Meanings → Bool → Bool → List ℕ
codes_in m true true = map (λ x. x.rules.code) m.methods
codes_in m true false = map (λ x. x.rules.code) m.attachments
codes_in m false true = map (λ x. x.rules.code) m.spare_methods
codes_in m false false = map (λ x. x.rules.code) m.spare_attachments

-- the codes of the live boxes, and those of the spare ones
abbrev pub live_codes : Meanings → Codes
live_codes m = record { methods = codes_in m true true; attachments = codes_in m true false }

abbrev pub spare_codes : Meanings → Codes
spare_codes m = record { methods = codes_in m false true; attachments = codes_in m false false }

-- whether relations of a storage method outlive the run
abbrev pub outlives_run : Meanings → ℕ → Bool
outlives_run m method = is_durable_method (record { boxes = boxes_of m; methods = []; attachments = [] }) method

-- the spare box of this kind and code is live now, behind the live ones; or there was none, and all stays
abbrev pub Registers : Bool → ℕ → Bool → Meanings → Meanings → Type 0
Registers true code moved old new =
    GoesIf moved (λ m. m.rules.code == code) old.spare_methods old.methods new.spare_methods new.methods
    × (new.attachments ≡ old.attachments) × (new.spare_attachments ≡ old.spare_attachments)
Registers false code moved old new =
    GoesIf moved (λ a. a.rules.code == code) old.spare_attachments old.attachments new.spare_attachments new.attachments
    × (new.methods ≡ old.methods) × (new.spare_methods ≡ old.spare_methods)

-- the live box of this kind and code is spare now, behind the spare ones; or there was none, and all stays
abbrev pub Retires : Bool → ℕ → Bool → Meanings → Meanings → Type 0
Retires true code moved old new =
    GoesIf moved (λ m. m.rules.code == code) old.methods old.spare_methods new.methods new.spare_methods
    × (new.attachments ≡ old.attachments) × (new.spare_attachments ≡ old.spare_attachments)
Retires false code moved old new =
    GoesIf moved (λ a. a.rules.code == code) old.attachments old.spare_attachments new.attachments new.spare_attachments
    × (new.methods ≡ old.methods) × (new.spare_methods ≡ old.spare_methods)

-- for each code the same box is there, live or spare
pub record AreSameBoxes (old new : Meanings) : Type 0 where
  pub methods : (code : ℕ) → method_of code (new.methods ++ new.spare_methods) ≡ method_of code (old.methods ++ old.spare_methods)
  pub attachments : (code : ℕ)
      → attachment_of code (new.attachments ++ new.spare_attachments) ≡ attachment_of code (old.attachments ++ old.spare_attachments)
