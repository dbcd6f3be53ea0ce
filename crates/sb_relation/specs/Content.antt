-- What the pages of an attachment hold over a database.
use Rattle.std.specs.Prelude.{ℕ, Bool, true, ◌&&◌, List, [], ◌∷◌, Option, Some, None, ℤ}
use Rattle.sb_value.specs.declared.schema.Column.{Column}
use Rattle.sb_rule.specs.declared.rule.Rule.{Rule}
use Rattle.sb_rule.specs.declared.rule.Rule.TheVariants.{Foreign}
use Rattle.sb_relation.specs.declared.image.Image.{Image}
use Rattle.sb_relation.specs.Db.{Name, Rows, Db, rows_at, schema_at}
use Rattle.sb_relation.specs.Foreign.{Count, AttachRules}
use Rattle.sb_relation.specs.Images.{Entry, is_before, image, page_image}

-- The entries and the sums that a reply prints; counts of values, which none prints; and the number of a hash index's buckets.
pub record Content : Type 0 where
  pub entries : List Entry
  pub sums : List ℤ
  pub counts : List Count
  pub buckets : ℕ

abbrev pub no_content : Content
no_content = record { entries = []; sums = []; counts = []; buckets = 0 }

abbrev pub foreign_counts : Option AttachRules → List ℕ → List Column → Rows → List Count
foreign_counts None desc schema rows = []
foreign_counts (Some box) desc schema rows = box.counts desc schema rows

-- the counts of an attachment on the named relation: only those of foreign codes have some
abbrev pub counts_of : Option AttachRules → Db → Name → Rule → List Count
counts_of box db name (Foreign code desc) = foreign_counts box desc (schema_at db name) (rows_at db name)
counts_of box db name _ = []

-- an image and counts in so many buckets
abbrev pub content_of : Image → List Count → ℕ → Content
content_of image counts buckets = record { entries = image.entries; sums = image.sums; counts = counts; buckets = buckets }

-- the content of an attachment on the named relation, in so many buckets
abbrev pub content : Option AttachRules → Db → Name → Rule → ℕ → Content
content box db name rule buckets = content_of (image box db name rule) (counts_of box db name rule) buckets

-- the content of the pages that it works on: a join index's mirror works on those of its main instance
abbrev pub page_content : Option AttachRules → Db → Name → Rule → ℕ → Content
page_content box db name rule buckets = content_of (page_image box db name rule) (counts_of box db name rule) buckets

-- each entry is before the next one
abbrev pub are_rising : List Entry → Bool
are_rising [] = true
are_rising (e ∷ []) = true
are_rising (e ∷ f ∷ entries) = is_before e f && are_rising (f ∷ entries)
