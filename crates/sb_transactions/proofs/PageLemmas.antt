-- A store has one row of pages now.
use Rattle.std.proofs.Common.{◌≡◌, ℕ, ◌*◌, ◌/◌, ◌%◌, ◌<◌, nat_lt, Bool, true, false, cond, is_some, Option, Some, None, List, refl, sym, ap, ◌∙◌, arith}
use Rattle.std.proofs.lemmas.Bool.{false≢true, ltb-true}
use Rattle.sb_bytes.specs.Field.{number_at}
use Rattle.sb_disk.specs.Disk.{Story}
use Rattle.sb_journal.specs.State as journal
use Rattle.sb_pool.specs.Pages.{ArePagesOn, pool_page}
use Rattle.sb_pool.specs.State as pool
use Rattle.sb_drive.specs.Slots.{nobodys}
use Rattle.sb_space.specs.Table.{IsTable, owner_at, shown, slots_in}
use Rattle.sb_transactions.specs.Driven.{OneNow, OneHas}

-- ---- each page now is the one that the pool has
pooled : (now : ℕ → List ℕ) (told : Option Story) (j : journal.State) (p : pool.State) → j.failed ≡ false → is_some told ≡ true → ArePagesOn now told j p
    → (n : ℕ) → n < p.geometry.pages → pool_page told p n ≡ now n
pooled now None j p up tells pages n less = absurd (false≢true tells)
pooled now (Some s) j p up tells pages n less = pages up n less

pub one-now : OneNow
one-now want now other then p tells one two n less =
    sym (pooled now p.told p.store.journal p.store.pool one.2.up tells one.2.pages n less)
    ∙ pooled then p.told p.store.journal p.store.pool two.2.up tells two.2.pages n less

-- ---- so the owner table is the same
module _ (pages : ℕ) (a b : ℕ → List ℕ) (same : (n : ℕ) → n < pages → a n ≡ b n) where
  owners : (n : ℕ) → n / 2048 < pages → owner_at a n ≡ owner_at b n
  owners n less = ap (λ (bytes : List ℕ). number_at 2 bytes (2 * (n % 2048))) (same (n / 2048) less)

  within : (n : ℕ) → n < pages → n / 2048 < pages
  within n less = omega arith

  slot : (n : ℕ) (t : Bool) → nat_lt n pages ≡ t → cond t (shown (owner_at a n) (a n)) nobodys ≡ cond t (shown (owner_at b n) (b n)) nobodys
  slot n true is =
      let less = ltb-true n pages is in
      ap (λ (o : ℕ). shown o (a n)) (owners n (within n less)) ∙ ap (λ (bytes : List ℕ). shown (owner_at b n) bytes) (same n less)
  slot n false is = refl

  pub slots-same : slots_in pages a ≡ slots_in pages b
  slots-same = λ i n. slot n (nat_lt n pages) refl i

  pub IsTable-same : IsTable pages a → IsTable pages b
  IsTable-same table = record {
    own = λ n less. sym (owners n (omega arith)) ∙ table.own n less;
    others = λ n from less other. table.others n from less (owners n (within n less) ∙ other);
    none = λ n from less. sym (owners n (omega arith)) ∙ table.none n from less;
  }

pub one-has : OneHas
one-has want now other s p stands has =
    let pages = p.store.pool.geometry.pages in
    let same = λ (n : ℕ) (less : n < pages). one-now other has.now want now p stands.tells has.stands.store stands.store n less in
    record {
      now = now;
      stands = stands;
      table = IsTable-same pages has.now now same has.table;
      slots = has.slots ∙ slots-same pages has.now now same;
    }
