-- Boxes that move, by what they mean.
use Rattle.std.proofs.Common.{◌≡◌, ℕ, ◌==◌, Bool, true, false, List, [], ◌∷◌, map, None, ap, ◌∙◌}
use Rattle.std.specs.List.{AllByRecursion}
use Rattle.std.proofs.lemmas.List.{map-append}
use Rattle.sb_registry.specs.Method.{Method}
use Rattle.sb_registry.specs.Attachment.{Attachment}
use Rattle.sb_registry.specs.declared.extensions.Extensions.{Extensions}
use Rattle.sb_registry.specs.Boxes.{Meanings, Registered, Retired, meanings, repeated_in}
use Rattle.sb_registry.specs.Codes.{GoesIf}
use Rattle.sb_vectors.specs.Vectors.{Registers, Retires}
use Rattle.sb_vectors.proofs.LawLemmas.{registers_unique, retires_unique}

none_so : {B M : Type 0} (f : B → M) (p : M → Bool) (xs : List B) → AllByRecursion (λ b. p (f b) ≡ false) xs → AllByRecursion (λ m. p m ≡ false) (map f xs)
none_so f p [] none = tt
none_so f p (x ∷ xs) none = (none.0, none_so f p xs none.1)

goes_so : {B M : Type 0} (f : B → M) (p : M → Bool) (moved : Bool) (from to from_after to_after : List B)
    → GoesIf moved (λ b. p (f b)) from to from_after to_after → GoesIf moved p (map f from) (map f to) (map f from_after) (map f to_after)
goes_so f p true from to from_after to_after goes = record {
  front = map f goes.front;
  box = f goes.box;
  back = map f goes.back;
  stood = ap (map f) goes.stood ∙ map-append f goes.front (goes.box ∷ goes.back);
  code = goes.code;
  left = ap (map f) goes.left ∙ map-append f goes.front goes.back;
  comes = ap (map f) goes.comes ∙ map-append f to (goes.box ∷ []);
}
goes_so f p false from to from_after to_after stay =
    record { none = none_so f p from stay.none; from_same = ap (map f) stay.from_same; to_same = ap (map f) stay.to_same }

pub registers : {I J : Type 0} {F : I → Type 0} {G : J → Type 0} (of_method : (i : I) → F i → Method) (of_attachment : (j : J) → G j → Attachment)
    (method : Bool) (code : ℕ) (moved : Bool) (old new : Extensions I J F G) → Registered of_method of_attachment method code moved old new
    → Registers method code moved (meanings (λ b. of_method b.vtable b.value) (λ b. of_attachment b.vtable b.value) old)
    (meanings (λ b. of_method b.vtable b.value) (λ b. of_attachment b.vtable b.value) new)
registers of_method of_attachment true code moved old new is = (
  goes_so (λ b. of_method b.vtable b.value) (λ (m : Method). m.rules.code == code) moved old.spare_methods.items old.methods.items new.spare_methods.items new.methods.items is.0,
  ap (map (λ b. of_attachment b.vtable b.value)) is.1,
  ap (map (λ b. of_attachment b.vtable b.value)) is.2,
)
registers of_method of_attachment false code moved old new is = (
  goes_so (λ b. of_attachment b.vtable b.value) (λ (a : Attachment). a.rules.code == code) moved old.spare_attachments.items old.attachments.items new.spare_attachments.items new.attachments.items is.0,
  ap (map (λ b. of_method b.vtable b.value)) is.1,
  ap (map (λ b. of_method b.vtable b.value)) is.2,
)

pub retires : {I J : Type 0} {F : I → Type 0} {G : J → Type 0} (of_method : (i : I) → F i → Method) (of_attachment : (j : J) → G j → Attachment)
    (method : Bool) (code : ℕ) (moved : Bool) (old new : Extensions I J F G) → Retired of_method of_attachment method code moved old new
    → Retires method code moved (meanings (λ b. of_method b.vtable b.value) (λ b. of_attachment b.vtable b.value) old)
    (meanings (λ b. of_method b.vtable b.value) (λ b. of_attachment b.vtable b.value) new)
retires of_method of_attachment true code moved old new is = (
  goes_so (λ b. of_method b.vtable b.value) (λ (m : Method). m.rules.code == code) moved old.methods.items old.spare_methods.items new.methods.items new.spare_methods.items is.0,
  ap (map (λ b. of_attachment b.vtable b.value)) is.1,
  ap (map (λ b. of_attachment b.vtable b.value)) is.2,
)
retires of_method of_attachment false code moved old new is = (
  goes_so (λ b. of_attachment b.vtable b.value) (λ (a : Attachment). a.rules.code == code) moved old.attachments.items old.spare_attachments.items new.attachments.items new.spare_attachments.items is.0,
  ap (map (λ b. of_method b.vtable b.value)) is.1,
  ap (map (λ b. of_method b.vtable b.value)) is.2,
)

-- ---- codes stay unique
abbrev meant : {I J : Type 0} {F : I → Type 0} {G : J → Type 0} → ((i : I) → F i → Method) → ((j : J) → G j → Attachment) → Extensions I J F G → Meanings
meant of_method of_attachment exts = meanings (λ b. of_method b.vtable b.value) (λ b. of_attachment b.vtable b.value) exts

pub registers_still : {I J : Type 0} {F : I → Type 0} {G : J → Type 0} (of_method : (i : I) → F i → Method) (of_attachment : (j : J) → G j → Attachment)
    (method : Bool) (code : ℕ) (moved : Bool) (old new : Extensions I J F G) → Registered of_method of_attachment method code moved old new
    → repeated_in (meant of_method of_attachment old) ≡ None → repeated_in (meant of_method of_attachment new) ≡ None
registers_still of_method of_attachment method code moved old new is =
    registers_unique method code moved (meant of_method of_attachment old) (meant of_method of_attachment new) (registers of_method of_attachment method code moved old new is)

pub retires_still : {I J : Type 0} {F : I → Type 0} {G : J → Type 0} (of_method : (i : I) → F i → Method) (of_attachment : (j : J) → G j → Attachment)
    (method : Bool) (code : ℕ) (moved : Bool) (old new : Extensions I J F G) → Retired of_method of_attachment method code moved old new
    → repeated_in (meant of_method of_attachment old) ≡ None → repeated_in (meant of_method of_attachment new) ≡ None
retires_still of_method of_attachment method code moved old new is =
    retires_unique method code moved (meant of_method of_attachment old) (meant of_method of_attachment new) (retires of_method of_attachment method code moved old new is)
