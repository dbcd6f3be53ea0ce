-- An attachment of another author: at most one row has the number of a new row, and each number that the desc lists.
use Rattle.std.specs.Prelude.{◌≡◌, ℕ, nat_le, nat_lt, Bool, true, false, codes, pos, List, [], ◌∷◌, length, map, All, Option, Some, option_map}
use Rattle.std.specs.List.{list_all, list_any}
use Rattle.sb_value.specs.declared.value.Value.TheVariants.{Int}
use Rattle.sb_relation.specs.Changes.{of_new}
use Rattle.sb_relation.specs.Db.{Name, Row, Db}
use Rattle.sb_relation.specs.Foreign.{AttachRules, plain_rules}
use Rattle.sb_ctx.specs.declared.moves.Move.{Move}
use Rattle.sb_ctx.specs.declared.moves.Move.TheVariants.{Done, Find, Veto, NoMemory}
use Rattle.sb_ctx.specs.Attachment.{Attachment, plain_attachment}
use Rattle.sb_ctx.specs.View.{View, found_of, keys_with}
use Rattle.sb_foreign.specs.Limits.{nothing_kept}

-- the row of a byte
abbrev pub number_row : ℕ → Row
number_row byte = Int (pos byte) ∷ []

-- the rows whose numbers are asked for: the new one, and those of the bytes of the desc
abbrev pub asked : List ℕ → Row → List Row
asked desc new = new ∷ map number_row desc

-- at most one row has the number
abbrev pub is_once : Db → Name → Row → Bool
is_once db relation row = nat_le (length (keys_with db relation (codes "k" ∷ []) row)) 1

abbrev pub once_rules : AttachRules
once_rules = record (plain_rules 1001) {
  fits = λ schema desc. nat_lt (length desc) 8;
  admits = λ desc db name c. of_new c (λ key new. list_all (is_once db name) (asked desc new));
}

abbrev pub once : Attachment
once = plain_attachment once_rules nothing_kept

-- whether at most one row has the number, where that is known
abbrev pub known_once : View → Name → Row → Option Bool
known_once c relation row = option_map (λ keys. nat_le (length keys) 1) (found_of c relation (codes "k" ∷ []) row)

abbrev pub is_refused : Option Bool → Bool
is_refused (Some false) = true
is_refused _ = false

-- all are known to stand at most once
abbrev pub AreOnce : View → Name → List Row → Type 0
AreOnce c relation rows = All (λ row. known_once c relation row ≡ Some true) rows

-- it vetoes where one is known not to, and may ask and want memory
abbrev pub Stops : View → Name → List Row → Move → Type 0
Stops c relation rows Veto = list_any (λ row. is_refused (known_once c relation row)) rows ≡ true
Stops c relation rows (Find other columns values) = Unit {0}
Stops c relation rows NoMemory = Unit {0}
Stops c relation rows move = ⊥

-- it is done or stops
abbrev pub Judges : View → Name → List Row → Move → Type 0
Judges c relation rows Done = AreOnce c relation rows
Judges c relation rows move = Stops c relation rows move
