-- Facts that are said where a disk tells its bytes.
use Rattle.std.proofs.Common.{◌≡◌, Option, Some, None, is_some, true, refl, sym}
use Rattle.std.proofs.lemmas.Bool.{false≢true}
use Rattle.sb_disk.specs.Disk.{Story}
use Rattle.sb_images.specs.Store.{IfTold}

pub told_so : (told : Option Story) (A : Type 0) → A → IfTold told A
told_so None A a = tt
told_so (Some s) A a = a

pub told_tells : (told : Option Story) → IfTold told (is_some told ≡ true)
told_tells None = tt
told_tells (Some s) = refl

pub told_map : (told : Option Story) (A B : Type 0) → (A → B) → IfTold told A → IfTold told B
told_map None A B f a = tt
told_map (Some s) A B f a = f a

pub told_both : (told : Option Story) (A B C : Type 0) → (A → B → C) → IfTold told A → IfTold told B → IfTold told C
told_both None A B C f a b = tt
told_both (Some s) A B C f a b = f a b

pub told_from : (told : Option Story) (A : Type 0) → is_some told ≡ true → IfTold told A → A
told_from None A tells a = absurd (false≢true tells)
told_from (Some s) A tells a = a

pub told_as : (a b : Option Story) (A : Type 0) → is_some a ≡ is_some b → IfTold b A → IfTold a A
told_as None b A same has = tt
told_as (Some s) None A same has = absurd (false≢true (sym same))
told_as (Some s) (Some t) A same has = has
