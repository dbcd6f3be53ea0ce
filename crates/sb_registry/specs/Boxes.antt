-- What boxes mean, by the meaning of a value of each type that is boxed.
use Rattle.std.specs.Prelude.{◌≡◌, ℕ, ◌==◌, Bool, true, false, List, ◌++◌, map, Option}
use Rattle.std.specs.List.{find}
use Rattle.std.specs.declared.dyn_box.DynBox.{DynBox}
use Rattle.std.specs.declared.alloc.Global.{Global}
use Rattle.sb_drive.specs.Method.{Method}
use Rattle.sb_drive.specs.Attachment.{Attachment}
use Rattle.sb_drive.specs.Foreign.{Boxes}
use Rattle.sb_registry.specs.declared.extensions.Extensions.{Extensions}
use Rattle.sb_registry.specs.Codes.{repeated, GoesIf}

-- the box of a code, among what boxes mean
abbrev pub method_of : ℕ → List Method → Option Method
method_of code methods = find (λ m. m.rules.code == code) methods

abbrev pub attachment_of : ℕ → List Attachment → Option Attachment
attachment_of code attachments = find (λ a. a.rules.code == code) attachments

-- what the live and the spare boxes mean
pub record Meanings : Type 0 where
  pub methods : List Method
  pub attachments : List Attachment
  pub spare_methods : List Method
  pub spare_attachments : List Attachment

abbrev pub meanings : {I J : Type 0} {F : I → Type 0} {G : J → Type 0} → (DynBox I Global F → Method) → (DynBox J Global G → Attachment) → Extensions I J F G → Meanings
meanings of_method of_attachment exts = record {
  methods = map of_method exts.methods.items;
  attachments = map of_attachment exts.attachments.items;
  spare_methods = map of_method exts.spare_methods.items;
  spare_attachments = map of_attachment exts.spare_attachments.items;
}

-- the rules of all boxes, the live ones first
abbrev pub boxes_of : Meanings → Boxes
boxes_of m = record {
  methods = map (λ x. x.rules) (m.methods ++ m.spare_methods);
  attachments = map (λ x. x.rules) (m.attachments ++ m.spare_attachments);
}

-- the first code that repeats among the storage methods, or else among the attachments, the live ones before the spare ones
abbrev pub repeated_in : Meanings → Option ℕ
repeated_in m = repeated (map (λ x. x.rules.code) (m.methods ++ m.spare_methods)) (map (λ x. x.rules.code) (m.attachments ++ m.spare_attachments))

-- the same boxes
pub record AreSame {I J : Type 0} {F : I → Type 0} {G : J → Type 0} (old new : Extensions I J F G) : Type 0 where
  pub methods : new.methods.items ≡ old.methods.items
  pub attachments : new.attachments.items ≡ old.attachments.items
  pub spare_methods : new.spare_methods.items ≡ old.spare_methods.items
  pub spare_attachments : new.spare_attachments.items ≡ old.spare_attachments.items

-- the spare box of this kind and code is live now, or there is none
abbrev pub Registered : {I J : Type 0} {F : I → Type 0} {G : J → Type 0} → ((i : I) → F i → Method) → ((j : J) → G j → Attachment)
    → Bool → ℕ → Bool → Extensions I J F G → Extensions I J F G → Type 0
Registered of_method of_attachment true code moved old new =
    GoesIf moved (λ b. (of_method b.vtable b.value).rules.code == code) old.spare_methods.items old.methods.items new.spare_methods.items new.methods.items
    × (new.attachments.items ≡ old.attachments.items) × (new.spare_attachments.items ≡ old.spare_attachments.items)
Registered of_method of_attachment false code moved old new =
    GoesIf moved (λ b. (of_attachment b.vtable b.value).rules.code == code) old.spare_attachments.items old.attachments.items new.spare_attachments.items new.attachments.items
    × (new.methods.items ≡ old.methods.items) × (new.spare_methods.items ≡ old.spare_methods.items)

-- the live box of this kind and code is spare now, or there is none
abbrev pub Retired : {I J : Type 0} {F : I → Type 0} {G : J → Type 0} → ((i : I) → F i → Method) → ((j : J) → G j → Attachment)
    → Bool → ℕ → Bool → Extensions I J F G → Extensions I J F G → Type 0
Retired of_method of_attachment true code moved old new =
    GoesIf moved (λ b. (of_method b.vtable b.value).rules.code == code) old.methods.items old.spare_methods.items new.methods.items new.spare_methods.items
    × (new.attachments.items ≡ old.attachments.items) × (new.spare_attachments.items ≡ old.spare_attachments.items)
Retired of_method of_attachment false code moved old new =
    GoesIf moved (λ b. (of_attachment b.vtable b.value).rules.code == code) old.attachments.items old.spare_attachments.items new.attachments.items new.spare_attachments.items
    × (new.methods.items ≡ old.methods.items) × (new.spare_methods.items ≡ old.spare_methods.items)
