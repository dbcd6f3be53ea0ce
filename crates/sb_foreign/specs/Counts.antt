-- An attachment of another author: how many rows there are, in the first 8 bytes of its one page.
use Rattle.std.specs.Prelude.{◌≡◌, ℕ, ◌+◌, ◌-◌, ◌^◌, min, ◌==◌, nat_le, Bool, false, cond, ◌&&◌, List, [], ◌∷◌, length, take, Option, Some, None, option_map, is_none, pos}
use Rattle.std.specs.Int.{from_be_bytes, to_be_bytes, w64}
use Rattle.sb_relation.specs.Content.{Content}
use Rattle.sb_relation.specs.Foreign.{Count, AttachRules, plain_rules}
use Rattle.sb_forms.specs.Pages.{Pages, page_count}
use Rattle.sb_ctx.specs.declared.instance.Instance.{Instance}
use Rattle.sb_ctx.specs.declared.moves.Move.{Move}
use Rattle.sb_ctx.specs.declared.moves.Move.TheVariants.{Done, Need, Broken, NoMemory}
use Rattle.sb_ctx.specs.Attachment.{Attachment, plain_attachment}
use Rattle.sb_bytes.specs.Bytes.{splice}
use Rattle.sb_ctx.specs.View.{View, page_of, with_page}
use Rattle.sb_foreign.specs.declared.count.Step.{Step}
use Rattle.sb_foreign.specs.declared.count.Step.TheVariants.{Up, Down}

-- the number in the first 8 bytes of a page
abbrev pub number_in : List ℕ → ℕ
number_in page = from_be_bytes w64 (take 8 page)

-- the count of a page: at most 2 to the 48th, for a relation has fewer rows
abbrev pub count_in : List ℕ → Option ℕ
count_in page = cond (nat_le 8 (length page) && nat_le (number_in page) (2 ^ 48)) (Some (number_in page)) None

-- all rows are one group, where no value is told from another
abbrev pub count_of : ℕ → Count
count_of rows = record { group = []; value = pos 0; rows = rows }

-- no entries, one sum and one count
abbrev pub counted : ℕ → Content
counted rows = record { entries = []; sums = pos rows ∷ []; counts = count_of rows ∷ []; buckets = 0 }

-- the root alone, with a count
abbrev pub counted_in : Instance → Pages → Option Content
counted_in inst P = cond (nat_le (page_count P) 1) (option_map counted (count_in (P inst.root))) None

-- a page without a count
abbrev pub has_no_count : Option (List ℕ) → Bool
has_no_count None = false
has_no_count (Some page) = is_none (count_in page)

abbrev pub count_rules : AttachRules
count_rules = record (plain_rules 1002) {
  image = λ desc schema rows. record { entries = []; sums = pos (length rows) ∷ [] };
  counts = λ desc schema rows. count_of (length rows) ∷ [];
}

-- one page, of which a call edits at most that one, and asks for no other
abbrev pub count : Attachment
count = record (plain_attachment count_rules counted_in) {
  may_break = λ inst held n. (n == inst.root) && has_no_count (held n);
  bound = λ content. 1;
  cost = λ c before after. 1;
  path = λ inst P c n. n == inst.root;
}

-- a row more or less
abbrev pub stepped : Step → ℕ → ℕ
stepped Up rows = min (rows + 1) (2 ^ 64 - 1)
stepped Down rows = rows - 1

-- the page of this count is written with the next one
pub record IsWritten (root : ℕ) (step : Step) (old new : View) : Type 0 where
  pub page : List ℕ
  pub rows : ℕ
  pub held : page_of old root ≡ Some page
  pub count : count_in page ≡ Some rows
  pub is : new ≡ with_page root (splice 0 (to_be_bytes w64 (stepped step rows)) page) old

-- the page isn't held, or has no count, and all stays; or it is written
abbrev pub Steps : ℕ → Step → View → View → Move → Type 0
Steps root step old new (Need n) = (n ≡ root) × (page_of old root ≡ None) × (new ≡ old)
Steps root step old new (Broken n) = (n ≡ root) × (option_map count_in (page_of old root) ≡ Some None) × (new ≡ old)
Steps root step old new Done = IsWritten root step old new
Steps root step old new NoMemory = new ≡ old
Steps root step old new move = ⊥
