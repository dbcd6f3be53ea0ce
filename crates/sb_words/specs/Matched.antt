-- Matches from which all that the words ask for can be read.
use Rattle.std.specs.Prelude.{◌≡◌, ℕ, List, Some, codes}
use Rattle.clap.specs.Words.{IsUnsignedIn, Row, Text, first_of, matches_of, one_of}
use Rattle.sb_words.specs.Words.{IsTaken, starburst}

-- the argument has a text, which writes a number from the least to the most
pub record HasNumber (id : Text) (least most : ℕ) (rows : List Row) : Type 0 where
  pub text : Text
  pub is : one_of id rows ≡ Some text
  pub fits : IsUnsignedIn least most text

-- each argument that must have a text has one
pub record IsComplete (rows : List Row) : Type 0 where
  pub store : (text : Text) × (first_of (codes "store") rows ≡ Some text)
  pub pages : HasNumber (codes "pages") 64 65536 rows
  pub log : HasNumber (codes "log") 2097152 16777216 rows
  pub frames : HasNumber (codes "frames") 8 65536 rows

-- the words are taken, and these are their matches
pub record IsMatchedBy (words : List Text) (rows : List Row) : Type 0 where
  pub taken : IsTaken words
  pub are : rows ≡ matches_of starburst words
  pub complete : IsComplete rows
