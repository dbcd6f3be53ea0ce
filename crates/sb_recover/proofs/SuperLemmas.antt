-- What the super page says of a disk.
use Rattle.std.proofs.Common.{◌≡◌, ℕ, Option, Some, None, List, length, take, sym, ◌∙◌, ap}
use Rattle.sb_disk.specs.Disk.{Story, Fits, Reads}
use Rattle.sb_log.specs.declared.geometry.Geometry.{Geometry}
use Rattle.sb_images.specs.Layout.{super_of}
use Rattle.sb_recover.specs.SuperPage.{Finds}

-- the answer is right of the contents, where the disk tells them
abbrev pub FindsOn : Option Story → Option Geometry → Type 0
FindsOn None found = Unit {0}
FindsOn (Some s) found = Finds s.now.reads found

-- what is found in the first page of a disk is found on it
pub FindsOn-page : (told : Option Story) (size clock : ℕ) (page : List ℕ) (found : Option Geometry) → Fits size clock told → length page ≡ 4096 → Reads told 0 page
    → ((image : List ℕ) → super_of image ≡ page → length image ≡ size → Finds image found) → FindsOn told found
FindsOn-page None size clock page found fits long reads finds = tt
FindsOn-page (Some s) size clock page found fits long reads finds = finds s.now.reads (sym (reads ∙ ap (λ (n : ℕ). take n s.now.reads) long)) fits.bytes
