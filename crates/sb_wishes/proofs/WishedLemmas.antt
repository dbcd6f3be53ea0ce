-- The row that a wish is of, and its edit.
use Rattle.std.proofs.Common.{◌≡◌, ℕ, ◌<◌, ◌≤◌, true, false, List, Option, Some, None, IfSome, sym, ap, subst, ◌∙◌, arith, length, nat_le}
use Rattle.std.specs.Option.{option_and_then}
use Rattle.std.proofs.lemmas.Bool.Decides.{nat_tests}
use Rattle.sb_value.specs.declared.schema.Column.{Column}
use Rattle.sb_value.specs.Fits.{Fits}
use Rattle.sb_relation.specs.Db.{Key, Row, Rows, row_at}
use Rattle.sb_relation.specs.Keys.{is_record_key}
use Rattle.sb_relation.specs.Lawful.{IsRow}
use Rattle.sb_fold.specs.Wishes.{Wish}
use Rattle.sb_ctx.specs.declared.instance.Instance.{Instance}
use Rattle.sb_drive.specs.Slots.{Slots, owned}
use Rattle.sb_registry.specs.Boxes.{Meanings}
use Rattle.sb_standing.specs.Live.{HasRows}
use Rattle.sb_wishes.specs.Wished.{NamesKey, key_in, row_wished}
use Rattle.sb_wishes.proofs.CountsLemmas.{long_free}

-- ---- the row
pub row_wished-none : (rows : Rows) (wish : Wish) → None ≡ key_in wish → None ≡ row_wished rows wish
row_wished-none rows wish is = ap (λ (o : Option Key). option_and_then (row_at rows) o) is

pub row_wished-at : (rows : Rows) (wish : Wish) (key : Key) (old : Option Row) → Some key ≡ key_in wish → old ≡ row_at rows key → old ≡ row_wished rows wish
row_wished-at rows wish key old is at = at ∙ ap (λ (o : Option Key). option_and_then (row_at rows) o) is

long_key : (n : ℕ) → 200 < n → nat_le n 200 ≡ false
long_key n long = grind (arith, nat_tests)

short_key : (n : ℕ) → n ≤ 200 → nat_le n 200 ≡ true
short_key n short = grind (arith, nat_tests)

pub row_wished-long : (m : Meanings) (s : Slots) (inst : Instance) (rows : Rows) (wish : Wish) (key : Key) → HasRows m s inst rows → Some key ≡ key_in wish → 200 < length key → None ≡ row_wished rows wish
row_wished-long m s inst rows wish key h is long =
    row_wished-at rows wish key None is
    (sym (long_free rows key (long_key (length key) long) (h.live.law.formed inst (owned s inst.owner) rows h.holds).lawful.keys))

-- ---- what is so of it
pub Fits-found : (schema : List Column) (old : Option Row) → IfSome old (IsRow schema) → IfSome old (Fits schema)
Fits-found schema None is = tt
Fits-found schema (Some row) is = is.fits

pub NamesKey-short : (wish : Wish) (key : Key) → Some key ≡ key_in wish → length key ≤ 200 → NamesKey wish
NamesKey-short wish key is short = subst (λ (o : Option Key). IfSome o (λ k. is_record_key k ≡ true)) is (short_key (length key) short)

pub IfSome-all : {A : Type 0} (o : Option A) (P : Type 0) → P → IfSome o (λ x. P)
IfSome-all None P p = tt
IfSome-all (Some x) P p = p
