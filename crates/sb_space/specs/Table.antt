-- The owner table of a store: a number of two bytes for each page, in the store's first pages.
use Rattle.std.specs.Prelude.{◌≡◌, ◌≢◌, ℕ, zero, suc, ◌+◌, ◌*◌, ◌/◌, ◌%◌, ◌<◌, ◌≤◌, nat_lt, cond, List, []}
use Rattle.sb_bytes.specs.Field.{number_at}
use Rattle.sb_forms.specs.Pages.{IsWhole}
use Rattle.sb_drive.specs.Slots.{Slot, Slots, nobodys}

-- so many pages have the entries of so many pages, 2,048 each
abbrev pub table_len : ℕ → ℕ
table_len pages = (pages + 2047) / 2048

-- the owner of a page: 0 nobody, 1 the table, 2 the catalogue, and above it the instances
abbrev pub owner_at : (ℕ → List ℕ) → ℕ → ℕ
owner_at now n = number_at 2 (now (n / 2048)) (2 * (n % 2048))

-- a page with its owner; nobody's pages have no bytes, and those of the table are shown to none
abbrev pub shown : ℕ → List ℕ → Slot
shown zero bytes = nobodys
shown (suc zero) bytes = (1, [])
shown (suc (suc o)) bytes = (suc (suc o), bytes)

-- so many pages of a store, each with its owner
abbrev pub slots_in : ℕ → (ℕ → List ℕ) → Slots
slots_in pages now n = cond (nat_lt n pages) (shown (owner_at now n) (now n)) nobodys

-- each page is whole
abbrev pub AreWhole : ℕ → (ℕ → List ℕ) → Type 0
AreWhole pages now = (p : ℕ) → p < pages → IsWhole (now p)

-- The table's form: its own pages are the table's, and no others are; entries of pages that the store hasn't are nobody's.
pub record IsTable (pages : ℕ) (now : ℕ → List ℕ) : Type 0 where
  pub own : (n : ℕ) → n < table_len pages → owner_at now n ≡ 1
  pub others : (n : ℕ) → table_len pages ≤ n → n < pages → owner_at now n ≢ 1
  pub none : (n : ℕ) → pages ≤ n → n < 2048 * table_len pages → owner_at now n ≡ 0
