-- Which boxes the relations of a catalogue want, and which are live once these are.
use Rattle.std.specs.Prelude.{◌≡◌, ℕ, ◌==◌, ◌&&◌, ◌||◌, Bool, true, false, not, List, [], ◌∷◌, ◌++◌, map, Option, Some, None, option_map}
use Rattle.std.specs.List.{find, flat_map, list_any}
use Rattle.sb_registry.specs.Boxes.{Meanings, attachment_of, method_of, repeated_in}
use Rattle.sb_recover.specs.declared.fault.OpenFault.{OpenFault}
use Rattle.sb_recover.specs.declared.fault.OpenFault.TheVariants.{MissingExtension, NoMemory}
use Rattle.sb_catalog.specs.declared.descriptor.Attached.{Attached}
use Rattle.sb_catalog.specs.declared.descriptor.Descriptor.{Descriptor}
use Rattle.sb_standing.specs.Tables.{Kept}
use Rattle.sb_vectors.specs.Vectors.{AreSameBoxes, has_box}
use Rattle.sb_opening.specs.declared.codes.Named.{Named}

-- ---- what is named
abbrev pub named_method : ℕ → Named
named_method code = record { method = true; code = code }

abbrev pub named_attachment : Attached → Named
named_attachment a = record { method = false; code = a.code }

-- the codes that a descriptor names: that of its storage method, and then those of its attachments
abbrev pub named_by : Descriptor → List Named
named_by d = named_method d.method ∷ map named_attachment d.attachments

-- those of all relations, in their order
abbrev pub named_in : List Kept → List Named
named_in kept = flat_map (λ k. named_by k.descriptor) kept

-- both are storage methods, or both attachments
abbrev pub is_alike : Bool → Bool → Bool
is_alike true other = other
is_alike false other = not other

-- a box of this kind and code is named
abbrev pub is_named : Bool → ℕ → List Named → Bool
is_named method code named = list_any (λ n. is_alike n.method method && n.code == code) named

-- ---- boxes that are there
-- a box of the kind and code is there, live or spare
abbrev pub is_there : Meanings → Named → Bool
is_there m n = has_box m true n.method n.code || has_box m false n.method n.code

-- the first code of which no box is there
abbrev pub first_absent : Meanings → List Named → Option ℕ
first_absent m named = option_map (λ n. n.code) (find (λ n. not (is_there m n)) named)

-- this code is missing; or memory is wanting
abbrev pub IsAbsent : Option ℕ → OpenFault → Type 0
IsAbsent absent (MissingExtension code) = absent ≡ Some code
IsAbsent absent NoMemory = Unit {0}
IsAbsent absent e = ⊥

-- ---- boxes that are live
-- whichever boxes are there, all of them live
abbrev pub all_live : Meanings → Meanings
all_live m = record {
  methods = m.methods ++ m.spare_methods;
  attachments = m.attachments ++ m.spare_attachments;
  spare_methods = [];
  spare_attachments = [];
}

-- for each code that is named the same box is there, live or spare
pub record HasSameNamed (named : List Named) (old new : Meanings) : Type 0 where
  pub methods : (code : ℕ) → is_named true code named ≡ true
      → method_of code (new.methods ++ new.spare_methods) ≡ method_of code (old.methods ++ old.spare_methods)
  pub attachments : (code : ℕ) → is_named false code named ≡ true
      → attachment_of code (new.attachments ++ new.spare_attachments) ≡ attachment_of code (old.attachments ++ old.spare_attachments)

-- The same boxes: those that are named are live now, beside those that were.
pub record HasLive (old : Meanings) (named : List Named) (new : Meanings) : Type 0 where
  pub live : (method : Bool) (code : ℕ)
      → has_box new true method code ≡ (has_box old true method code || (has_box old false method code && is_named method code named))
  pub spare : (method : Bool) (code : ℕ) → has_box new false method code ≡ (has_box old false method code && not (is_named method code named))
  pub same : AreSameBoxes old new
  pub unique : repeated_in new ≡ None
