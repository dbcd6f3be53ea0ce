-- The owner table page by page.
use Rattle.std.proofs.Common.{◌≡◌, ◌≢◌, ℕ, ◌+◌, ◌*◌, ◌/◌, ◌%◌, ◌<◌, ◌≤◌, List, sym, ◌∙◌, subst, arith}
use Rattle.std.specs.Int.{div_ceil}
use Rattle.sb_bytes.specs.Field.{number_at}
use Rattle.sb_space.specs.Table.{IsTable, owner_at, table_len}
use Rattle.sb_space.specs.Opening.{IsEntry, AreTablePages, TablesByPages}

-- the number of pages as it is counted
pub table_len-ceil : (pages : ℕ) → div_ceil pages 2048 ≡ table_len pages
table_len-ceil pages = omega arith

-- the owner of a page stands in the table's page of its number by 2,048
pub owner-at : (now : ℕ → List ℕ) (p k : ℕ) → k < 2048 → owner_at now (2048 * p + k) ≡ number_at 2 (now p) (2 * k)
owner-at now p k less =
    let row : (2048 * p + k) / 2048 ≡ p = omega arith in
    let column : (2048 * p + k) % 2048 ≡ k = omega arith in
    λ i. number_at 2 (now (row i)) (2 * column i)

module _ (pages : ℕ) (now : ℕ → List ℕ) where
  each_page : IsTable pages now → AreTablePages pages now (table_len pages)
  each_page table p within k less =
      let at = owner-at now p k less in
      let last : 2048 * p + k < 2048 * table_len pages = omega (arith, within, less) in
      record {
        own = λ low. sym at ∙ table.own (2048 * p + k) low;
        other = λ from under one. table.others (2048 * p + k) from under (at ∙ one);
        none = λ beyond. sym at ∙ table.none (2048 * p + k) beyond last;
      }

  entry_of : AreTablePages pages now (table_len pages) → (n : ℕ) → n < 2048 * table_len pages → IsEntry pages n (owner_at now n)
  entry_of formed n within =
      let row : n / 2048 < table_len pages = omega (arith, within) in
      let column : n % 2048 < 2048 = omega arith in
      let same : 2048 * (n / 2048) + n % 2048 ≡ n = omega arith in
      subst (λ (m : ℕ). IsEntry pages m (owner_at now n)) same (formed (n / 2048) row (n % 2048) column)

  whole_table : AreTablePages pages now (table_len pages) → IsTable pages now
  whole_table formed = record {
    own = λ n low. (entry_of formed n (omega (arith, low))).own low;
    others = λ n from under. (entry_of formed n (omega (arith, under))).other from under;
    none = λ n beyond within. (entry_of formed n within).none beyond;
  }

pub tables_by_pages : TablesByPages
tables_by_pages pages now = (each_page pages now, whole_table pages now)

-- ---- one entry
module _ (pages n owner : ℕ) where
  -- of the table's own page
  pub IsEntry-own : n < table_len pages → owner ≡ 1 → IsEntry pages n owner
  IsEntry-own low is = record {
    own = λ _. is;
    other = λ from. absurd (omega (arith, low, from));
    none = λ beyond. absurd (omega (arith, low, beyond));
  }

  -- of another page of the store
  pub IsEntry-other : table_len pages ≤ n → n < pages → owner ≢ 1 → IsEntry pages n owner
  IsEntry-other from under differs = record {
    own = λ low. absurd (omega (arith, low, from));
    other = λ _ _. differs;
    none = λ beyond. absurd (omega (arith, under, beyond));
  }

  -- of a page that the store hasn't
  pub IsEntry-none : table_len pages ≤ n → pages ≤ n → owner ≡ 0 → IsEntry pages n owner
  IsEntry-none from beyond is = record {
    own = λ low. absurd (omega (arith, low, from));
    other = λ _ under. absurd (omega (arith, under, beyond));
    none = λ _. is;
  }
