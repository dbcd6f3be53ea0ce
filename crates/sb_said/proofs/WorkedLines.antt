-- A line whose text is too long to be stored, and what it leaves where a column isn't limited.
use Rattle.std.proofs.Common.{◌≡◌, ◌≤◌, ℕ, zero, suc, Bool, cond, codes, List, [], ◌∷◌, ◌++◌, replicate, Option, Some, None, refl, ap, arith}
use Rattle.std.specs.Prelude.{IsUtf8}
use Rattle.std.specs.Str.{is_utf8}
use Rattle.std.proofs.lemmas.List.Elements.{All-nil, All-cons}
use Rattle.std.proofs.lemmas.Str.{IsUtf8-from_ascii, is_utf8-from_IsUtf8}
use Rattle.sb_value.specs.declared.schema.Column.{Column}
use Rattle.sb_value.specs.declared.schema.Kind.TheVariants as kind
use Rattle.sb_value.specs.declared.value.Value.TheVariants.{Text}
use Rattle.sb_language.specs.Words.{is_keyword}
use Rattle.sb_tokens.specs.declared.token.Placed.{Placed}
use Rattle.sb_tokens.specs.declared.token.Sign.TheVariants.{Open, Close}
use Rattle.sb_tokens.specs.declared.token.Token.TheVariants as token
use Rattle.sb_tokens.specs.Tokens.{longer, text_token}
use Rattle.sb_tokens.proofs.TokensLemmas.{IsAscii-word}
use Rattle.sb_fold.specs.Extensions.{Extensions}
use Rattle.sb_plain.specs.declared.command.Command.{Command}
use Rattle.sb_plain.specs.declared.command.Command.TheVariants as command
use Rattle.sb_plain.specs.State.{Codes, State}
use Rattle.sb_plain.specs.Step.{step}
use Rattle.sb_grammar.specs.Columns.{Says, IsItem}
use Rattle.sb_lawful_steps.specs.Laws.{IsSaid, IsLawfulAlong, beginning}
use Rattle.sb_lawful_steps.proofs.Stepping.{steps-leave, beginning-along}
use Rattle.sb_said.specs.Written.{IsWritten, IsWrittenValue}

-- 256 times the letter a
abbrev long_text : List ℕ
long_text = replicate 256 97

-- ---- insert t values ('aa..')
abbrev line : List ℕ
line = codes "insert t values ('" ++ long_text ++ codes "')"

abbrev inserts : Command
inserts = command.Insert (codes "t") (Text long_text ∷ [])

abbrev word_at : List ℕ → ℕ → Placed
word_at text column = record { token = token.Word text; column = column }

abbrev placed : List Placed
placed =
    word_at (codes "insert") 1 ∷ word_at (codes "t") 8 ∷ word_at (codes "values") 10 ∷ record { token = token.Sign Open; column = 17 }
    ∷ record { token = token.Text long_text; column = 18 } ∷ record { token = token.Sign Close; column = 276 } ∷ []

it_is_text : IsUtf8 long_text
it_is_text = IsUtf8-from_ascii long_text (IsAscii-word long_text)

-- so many bytes are read one by one
abbrev times : ℕ → Option (List ℕ × ℕ) → Option (List ℕ × ℕ)
times zero found = found
times (suc n) found = longer 1 (times n found)

it_is_read : text_token (times 256 (cond (is_utf8 long_text) (Some (long_text, 1)) None)) ≡ Some (token.Text long_text, 258)
it_is_read = ap (λ (b : Bool). text_token (times 256 (cond b (Some (long_text, 1)) None))) (is_utf8-from_IsUtf8 long_text it_is_text)

it_is_an_item : IsItem line (Says inserts)
unfolding is_keyword
it_is_an_item = (
  refl,
  record {
    tokens = placed;
    column = 277;
    is_row = (6, refl, refl, (1, refl, refl, (6, refl, refl, (1, refl, refl, (258, it_is_read, refl, (1, refl, refl, (refl, refl)))))));
    spelled = record {
      front = token.Word (codes "insert") ∷ [];
      back = token.Word (codes "t") ∷ token.Word (codes "values") ∷ token.Sign Open ∷ token.Text long_text ∷ token.Sign Close ∷ [];
      is_front = refl;
      is_back = record {
        front = token.Word (codes "t") ∷ [];
        back = token.Word (codes "values") ∷ token.Sign Open ∷ token.Text long_text ∷ token.Sign Close ∷ [];
        is_front = (refl, refl);
        is_back = record {
          front = token.Word (codes "values") ∷ [];
          back = token.Sign Open ∷ token.Text long_text ∷ token.Sign Close ∷ [];
          is_front = refl;
          is_back = record {
            front = token.Sign Open ∷ [];
            back = token.Text long_text ∷ token.Sign Close ∷ [];
            is_front = refl;
            is_back = record {
              front = token.Text long_text ∷ [];
              back = token.Sign Close ∷ [];
              is_front = record { front = token.Text long_text ∷ []; back = []; is_front = refl; is_back = refl; whole = refl };
              is_back = refl;
              whole = refl;
            };
            whole = refl;
          };
          whole = refl;
        };
        whole = refl;
      };
      whole = refl;
    };
  },
)

-- its row can't be stored
it_is_not_said : IsSaid inserts → ⊥
it_is_not_said is = let much : 256 ≤ 255 = (is.storable 0 (Text []) (omega arith)).1 in absurd (omega (arith, much))

it_is_written : IsWritten inserts
it_is_written = record {
  some = omega arith;
  few = omega arith;
  each = All-cons IsWrittenValue (Text long_text) [] it_is_text (All-nil IsWrittenValue);
}

-- ---- a relation with a column of texts of at most 300 bytes, which no line makes
abbrev no_extensions : Extensions
no_extensions = record { boxes = record { methods = []; attachments = [] }; methods = []; attachments = [] }

abbrev live : Codes
live = record { methods = 1 ∷ 2 ∷ 3 ∷ []; attachments = [] }

abbrev spare : Codes
spare = record { methods = []; attachments = [] }

abbrev wide : List Column
wide = record { name = codes "v"; kind = kind.Text; limit = 300 } ∷ []

abbrev made : State
made = (step no_extensions (beginning live spare) (command.Create (codes "t") 3 wide []) []).state

-- the state is lawful but for that limit, and the line leaves one that isn't
it_is_lawful : IsLawfulAlong no_extensions made
it_is_lawful = steps-leave no_extensions (beginning live spare) (command.Create (codes "t") 3 wide []) [] refl (beginning-along no_extensions live spare)

it_breaks : IsLawfulAlong no_extensions (step no_extensions made inserts []).state → ⊥
it_breaks along =
    let is = (along.lawful.commits 2 [] (omega arith)).lawful in
    let of_row = (is.relations 0 (codes "t", record { method = 3; schema = []; key = []; rows = []; attachments = [] }) (omega arith)).rows 0 (codes "t", []) (omega arith) in
    let much : 256 ≤ 255 = (of_row.stored.tuple.storable 0 (Text []) (omega arith)).1 in
    absurd (omega (arith, much))
