-- The pages of a new store.
use Rattle.std.specs.Prelude.{◌≡◌, ℕ, ◌*◌, ◌/◌, ◌%◌, ◌<◌, ◌==◌, nat_lt, if◌then◌else◌, List, ◌∷◌, ◌++◌, map, replicate}
use Rattle.std.specs.Int.{div_ceil, to_be_bytes, w16, w32, w64}
use Rattle.std.specs.List.{concat, range_with_len}
use Rattle.sb_bytes.specs.Field.{number_at}
use Rattle.sb_log.specs.declared.geometry.Geometry.{Geometry}
use Rattle.sb_images.specs.Layout.{name_of_store}

-- the super page: an open gate, and among zeros the name, the version, the number of pages and the log's length
unfoldable pub super_page : Geometry → List ℕ
super_page g =
    165 ∷ (replicate 7 0
    ++ name_of_store
    ++ to_be_bytes w16 g.version
    ++ replicate 2 0
    ++ to_be_bytes w32 g.pages
    ++ to_be_bytes w64 g.log
    ++ replicate 4064 0)

-- the pages of the owner table, each of which has the entries of 2,048 pages
abbrev pub table_len : ℕ → ℕ
table_len pages = div_ceil pages 2048

-- who owns page q of a new store: 1 is the owner table, 2 the catalogue, and 0 no one
abbrev pub first_owner : ℕ → ℕ → ℕ
first_owner pages q = if nat_lt q (table_len pages) then 1 else (if q == table_len pages then 2 else 0)

-- the entries of so many pages, from one on: two bytes for each, the highest first
unfoldable pub owner_entries : ℕ → ℕ → ℕ → List ℕ
owner_entries pages from count = concat (map (λ q. to_be_bytes w16 (first_owner pages q)) (range_with_len from count))

-- a tree leaf without entries: its first byte is its kind
unfoldable pub empty_leaf : List ℕ
empty_leaf = 2 ∷ replicate 4095 0

-- a page that no one owns
unfoldable pub free_page : List ℕ
free_page = replicate 4096 0

-- Page p of a new store of so many pages: first the owner table, then the root of the catalogue, which is empty, then free pages.
unfoldable pub first_page : ℕ → ℕ → List ℕ
first_page pages p =
    if nat_lt p (table_len pages) then owner_entries pages (2048 * p) 2048
    else (if p == table_len pages then empty_leaf else free_page)

-- the entry of each page, in the owner table, says who owns it
abbrev pub OwnersStand : Type 0
OwnersStand =
    (pages q : ℕ) → q < pages → number_at 2 (first_page pages (q / 2048)) (2 * (q % 2048)) ≡ first_owner pages q
