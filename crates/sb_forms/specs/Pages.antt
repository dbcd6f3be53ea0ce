-- The pages of one instance of a storage method or of an attachment.
use Rattle.std.specs.Prelude.{◌≡◌, ◌≢◌, ℕ, ◌<◌, ◌≤◌, ◌==◌, cond, not, List, [], length, filter, All, Option, Some, None, replicate}
use Rattle.std.specs.List.{range_with_len}
use Rattle.sb_relation.specs.Fits.{is_empty}

-- each page's bytes by its number; no bytes of a page that isn't the instance's
abbrev pub Pages : Type 0
Pages = ℕ → List ℕ

-- a new page
unfoldable pub zeros : List ℕ
zeros = replicate 4096 0

-- a page has 4,096 bytes
pub record IsWhole (bytes : List ℕ) : Type 0 where
  pub long : length bytes ≡ 4096
  pub small : All (λ b. b < 256) bytes

-- there are 65,536 numbers of pages, and each page is whole
pub record ArePages (P : Pages) : Type 0 where
  pub below : (n : ℕ) → 65536 ≤ n → P n ≡ []
  pub whole : (n : ℕ) → P n ≢ [] → IsWhole (P n)

-- the numbers of the instance's pages, rising
unfoldable pub page_numbers : Pages → List ℕ
page_numbers P = filter (λ n. not (is_empty (P n))) (range_with_len 0 65536)

-- how many pages it has
abbrev pub page_count : Pages → ℕ
page_count P = length (page_numbers P)

-- an instance without pages
abbrev pub no_pages : Pages
no_pages n = []

-- a new instance: its root is zeros, and it has no other page
abbrev pub new_pages : ℕ → Pages
new_pages root n = cond (n == root) zeros []

-- above a number, or any number
abbrev pub IsAbove : Option ℕ → ℕ → Type 0
IsAbove None n = Unit {0}
IsAbove (Some low) n = low < n

-- this is the instance's least page above a number, if there is one
abbrev pub IsNext : Pages → Option ℕ → Option ℕ → Type 0
IsNext P low None = (n : ℕ) → IsAbove low n → P n ≡ []
IsNext P low (Some next) = IsAbove low next × (P next ≢ []) × ((n : ℕ) → IsAbove low n → n < next → P n ≡ [])
