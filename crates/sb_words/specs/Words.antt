-- The words of the program's command line, by the definitions of clap.
use Rattle.std.specs.Prelude.{◌≡◌, ◌≢◌, ◌≤◌, ◌∷◌, ℕ, Bool, List, Option, Result, Some, None, Ok, Err, []}
use Rattle.std.specs.Prelude.{true, false, codes, option_map}
use Rattle.std.specs.Option.{option_map_or}
use Rattle.std.specs.Str.{bytes_eq}
use Rattle.std.specs.Str.Parse.{digits_value, without_leading_plus}
use Rattle.std.specs.declared.alloc.AllocError.{AllocError}
use Rattle.clap.specs.Words.{App, IsAmong, Row, Rule, Text, fault_of, first_of, matches_of, new_rule, one_of}
use Rattle.clap.specs.Simple.{new_shape}
use Rattle.clap.specs.declared.builder.action.ArgAction.TheVariants.{Set, SetTrue}
use Rattle.clap.specs.declared.builder.value_parser.ValueParser.TheVariants.{Unsigned}
use Rattle.clap.specs.declared.error.kind.ErrorKind.{ErrorKind}
use Rattle.clap.specs.declared.error.kind.ErrorKind.TheVariants.{OutOfMemory}
use Rattle.sb_words.specs.declared.words.Words.{Words}

-- ---- the command line

-- `--store NAME`, without which the words are refused
abbrev pub store_rule : Rule
store_rule = record (new_rule (codes "store")) {
  long = Some (codes "store");
  action = Some Set;
  required = true;
}

-- `--create`
abbrev pub create_rule : Rule
create_rule = record (new_rule (codes "create")) {
  long = Some (codes "create");
  action = Some SetTrue;
}

-- `--NAME N`, a number from the least to the most, and the default where it isn't said
abbrev pub number_rule : Text → ℕ → ℕ → Text → Rule
number_rule name least most default = record (new_rule name) {
  long = Some name;
  action = Some Set;
  parser = Some (Unsigned least most);
  defaults = default ∷ [];
}

-- what may be said
abbrev pub arguments : List Rule
arguments = store_rule
    ∷ create_rule
    ∷ number_rule (codes "pages") 64 65536 (codes "1024")
    ∷ number_rule (codes "log") 2097152 16777216 (codes "4194304")
    ∷ number_rule (codes "frames") 8 65536 (codes "64")
    ∷ []

-- the command line: the words come without the program's name, and no help can be asked for
unfoldable pub starburst : App
starburst = record {
  top = record (new_shape (codes "starburst")) {
    rules = arguments;
    no_binary_name = true;
    disable_help_flag = true;
  };
  subs = [];
}

-- ---- what the words ask for

-- clap takes the words
abbrev pub IsTaken : List Text → Type 0
IsTaken words = fault_of starburst words ≡ []

-- clap refuses the words, for another cause than want of memory
abbrev pub IsRefused : List Text → Type 0
IsRefused words = (cause : ErrorKind) × IsAmong cause (fault_of starburst words) × (cause ≢ OutOfMemory)

-- a flag is set where its text is `true`
abbrev pub is_set : Text → List Row → Bool
is_set id rows = option_map_or (λ text. bytes_eq text (codes "true")) (one_of id rows) false

-- the number that the first text of an argument writes
abbrev pub number_of : Text → List Row → Option ℕ
number_of id rows = option_map (λ text. digits_value 10 (without_leading_plus text)) (one_of id rows)

-- these matches ask for w
pub record Asks (rows : List Row) (w : Words) : Type 0 where
  pub store : first_of (codes "store") rows ≡ Some w.store
  pub create : is_set (codes "create") rows ≡ w.create
  pub pages : number_of (codes "pages") rows ≡ Some w.pages
  pub log : number_of (codes "log") rows ≡ Some w.log
  pub frames : number_of (codes "frames") rows ≡ Some w.frames
  pub pages_range : (64 ≤ w.pages) × (w.pages ≤ 65536)
  pub log_range : (2097152 ≤ w.log) × (w.log ≤ 16777216)
  pub frames_range : (8 ≤ w.frames) × (w.frames ≤ 65536)

-- the words are taken and ask for w, or they are refused; where memory was wanting nothing is said
abbrev pub IsRead : List Text → Result (Option Words) AllocError → Type 0
IsRead words (Ok (Some w)) = IsTaken words × Asks (matches_of starburst words) w
IsRead words (Ok None) = IsRefused words
IsRead words (Err e) = Unit {0}
