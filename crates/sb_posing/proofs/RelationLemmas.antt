-- Which relations a line makes.
use Rattle.std.proofs.Common.{◌≡◌, ℕ, ◌+◌, ◌*◌, ◌<◌, ◌≤◌, List, [], ◌∷◌, length, All, inl, inr, sum_by, arith}
use Rattle.std.specs.List.{flat_map}
use Rattle.std.proofs.lemmas.List.Concat.{length-flat_map}
use Rattle.std.proofs.lemmas.List.Elements.{All-nil, All-weaker}
use Rattle.std.proofs.lemmas.List.Sums.{sum_by-le}
use Rattle.sb_value.specs.declared.schema.Column.{Column}
use Rattle.sb_value.specs.declared.schema.Kind.{Kind}
use Rattle.sb_value.specs.declared.schema.Kind.TheVariants as kind
use Rattle.sb_pred.specs.Spelling.{name_spelling}
use Rattle.sb_rule.specs.Spelling.{IsShortList, names_spelling}
use Rattle.sb_relation.specs.Db.{Name}
use Rattle.sb_tokens.specs.declared.token.Token.{Token}
use Rattle.sb_catalog.specs.Descriptors.{IsLimit, IsStorableColumn}
use Rattle.sb_grammar.specs.Grammar.{column, key_columns, kind_with, name, text_limit}
use Rattle.sb_printer.proofs.Fronts.{IsWord}
use Rattle.sb_posing.proofs.PieceLemmas.{Bounds, listed_in, named, split, word_in, word_len, word_stored}

-- ---- columns
text_in : (limit : ℕ) (tokens : List Token) → text_limit limit tokens → limit < 256
text_in limit tokens (inl s) = let most : limit ≡ 255 = s.0 in omega arith
text_in limit tokens (inr s) = let within : limit ≤ 255 = s.is_back.is_front.1 in omega arith

limit_in : (k : Kind) (limit : ℕ) (tokens : List Token) → kind_with k limit tokens → IsLimit k limit
limit_in kind.Int limit tokens s = s.0
limit_in kind.Text limit tokens s = text_in limit s.back s.is_back

-- a column of a line: its name is a word
abbrev pub IsReadColumn : Column → Type 0
IsReadColumn c = IsWord c.name × IsLimit c.kind c.limit

pub column_in : Bounds column IsReadColumn
column_in c tokens h s = let a = split tokens h s in (named c.name a, limit_in c.kind c.limit a.back a.is_back)

pub columns_stored : (schema : List Column) → length schema ≤ 16 → All IsReadColumn schema → IsShortList IsStorableColumn schema
columns_stored schema few columns = (omega (arith, few), All-weaker IsReadColumn IsStorableColumn (λ c is. (word_stored c.name is.0, is.1)) schema columns)

-- ---- keys
pub record IsReadKey (key : List Name) : Type 0 where
  pub few : length key ≤ 16
  pub words : All IsWord key

pub key_in : Bounds key_columns IsReadKey
key_in [] tokens h s = record { few = omega arith; words = All-nil IsWord }
key_in (label ∷ labels) tokens h s =
    let a = split tokens h s in
    let list = listed_in name IsWord word_in (label ∷ labels) a.back a.back_proper a.is_back in
    record { few = list.1; words = list.2 }

-- ---- descriptors
pub columns_len : (schema : List Column) → All IsReadColumn schema → sum_by (λ c. length (name_spelling c.name) + 2) schema ≤ length schema * 35
columns_len schema columns =
    sum_by-le (λ (c : Column). length (name_spelling c.name) + 2) 35 schema
    (All-weaker IsReadColumn (λ c. length (name_spelling c.name) + 2 ≤ 35) (λ c is. let short : length c.name ≤ 32 = word_len c.name is.0 in omega arith) schema columns)

pub key_len : (key : List Name) → All IsWord key → length (names_spelling key) ≤ length key * 33 + 1
key_len key words =
    let sum : sum_by (λ (n : Name). length (name_spelling n)) key ≤ length key * 33 = sum_by-le (λ (n : Name). length (name_spelling n)) 33 key
    (All-weaker IsWord (λ n. length (name_spelling n) ≤ 33) (λ n is. let short : length n ≤ 32 = word_len n is in omega arith) key words) in
    let same : length (flat_map name_spelling key) ≡ sum_by (λ (n : Name). length (name_spelling n)) key = length-flat_map name_spelling key in
    omega arith
