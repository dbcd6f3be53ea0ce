-- What a first page that was read says of the contents.
use Rattle.std.proofs.Common.{◌≡◌, ℕ, ◌-◌, ◌≤◌, Option, Some, None, List, [], ◌∷◌, ◌++◌, length, take, refl, sym, ◌∙◌, ap, subst, arith, length-append}
use Rattle.std.specs.Prelude.{replicate}
use Rattle.std.proofs.lemmas.List.{length-replicate}
use Rattle.sb_disk.specs.Disk.{Story, Reads, Fits}
use Rattle.sb_log.specs.declared.geometry.Geometry.{Geometry}
use Rattle.sb_images.specs.Layout.{super_of}
use Rattle.sb_recover.specs.Geometries.{IsStoreTold, IsStoreIn, HoldsNone}
use Rattle.sb_recover.specs.SuperPage.{Finds}

take-whole : (xs ys : List ℕ) → take (length xs) (xs ++ ys) ≡ xs
take-whole [] ys = refl
take-whole (x ∷ xs) ys = ap (λ (zs : List ℕ). x ∷ zs) (take-whole xs ys)

-- a disk of so many bytes that begins with this page
abbrev begun : ℕ → List ℕ → List ℕ
begun size page = page ++ replicate (size - length page) 0

module _ (size clock : ℕ) (page : List ℕ) (long : length page ≡ 4096) (room : 4096 ≤ size) (found : Option Geometry) (finds : (image : List ℕ) → super_of image ≡ page → length image ≡ size → Finds image found) where
  begins : super_of (begun size page) ≡ page
  begins = ap (λ (n : ℕ). take n (begun size page)) (sym long) ∙ take-whole page (replicate (size - length page) 0)

  sized : length (begun size page) ≡ size
  sized = let more = length-replicate {A = ℕ} (size - length page) 0 in omega (arith, length-append page (replicate (size - length page) 0), more, long, room)

  page_is : (s : Story) → Reads (Some s) 0 page → super_of s.now.reads ≡ page
  page_is s reads = sym (reads ∙ ap (λ (n : ℕ). take n s.now.reads) long)

  pub HoldsNone-told : (told : Option Story) → Fits size clock told → Reads told 0 page → found ≡ None → HoldsNone told
  HoldsNone-told None fits reads none = tt
  HoldsNone-told (Some s) fits reads none = subst (Finds s.now.reads) none (finds s.now.reads (page_is s reads) fits.bytes)

  pub IsStoreIn-found : (told : Option Story) (g : Geometry) → Fits size clock told → Reads told 0 page → found ≡ Some g → IsStoreIn told size g
  IsStoreIn-found told g fits reads some =
      let made = subst (Finds (begun size page)) some (finds (begun size page) begins sized) in
      record { sizes = made.sizes; room = let fit = made.room in omega (arith, fit, sized); store = by told fits reads }
    where
      by : (told : Option Story) → Fits size clock told → Reads told 0 page → IsStoreTold told g
      by None fits reads = tt
      by (Some s) fits reads = subst (Finds s.now.reads) some (finds s.now.reads (page_is s reads) fits.bytes)
