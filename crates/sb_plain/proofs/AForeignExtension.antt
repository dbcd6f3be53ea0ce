-- Extensions of another's: a storage method of code 1001 and an attachment of code 1000, which admits texts up to the length that its desc says.
use Rattle.std.specs.Prelude.{◌≡◌, refl, ℕ, ◌+◌, nat_le, Bool, true, false, codes, List, [], ◌∷◌, length, slice_index, Option, Some, pos}
use Rattle.std.specs.Fmt.{digits}
use Rattle.hex.specs.Hex.{encode_with}
use Rattle.sb_value.specs.declared.value.Value.TheVariants.{Text}
use Rattle.sb_rule.specs.Bound.{row_after}
use Rattle.sb_rule.specs.declared.rule.Rule.TheVariants.{Foreign}
use Rattle.sb_relation.specs.Db.{Row, int_column}
use Rattle.sb_relation.specs.Foreign.{plain_rules}
use Rattle.sb_fold.specs.Extensions.{Extensions}
use Rattle.sb_plain.specs.declared.command.Command.TheVariants as command
use Rattle.sb_plain.specs.State.{State}
use Rattle.sb_plain.proofs.Scripts.{Asked, ask, answers_with, replies_of, printed, lines_of, start, spare, text_column}

abbrev is_short : ℕ → Option Row → Bool
is_short most (Some (Text s ∷ row)) = nat_le (length s) most
is_short most _ = true

abbrev extensions : Extensions
extensions = record {
  boxes = record {
    methods = record { code = 1001; durable = false; fits = λ schema key. true } ∷ [];
    attachments = record (plain_rules 1000) {
      fits = λ schema desc. nat_le 1 (length desc);
      admits = λ desc db name c. is_short (slice_index desc 0) (row_after c);
      image = λ desc schema rows. record { entries = []; sums = pos (length rows) ∷ [] };
    } ∷ [];
  };
  methods = record { code = 1001; bound = λ n. n + 1; prepare = 1; cost = λ n c. 10 } ∷ [];
  attachments = record { code = 1000; bound = λ desc schema rows buckets. 3; prepare = λ desc schema. 1; cost = λ desc schema rows buckets c. 2 } ∷ [];
}

abbrev opened : State
opened = record start { live = record { methods = 1 ∷ 1001 ∷ []; attachments = 6 ∷ 1000 ∷ [] } }

abbrev script : List Asked
script =
    ask (command.Create (codes "t") 1001 (text_column (codes "a") 255 ∷ []) []) (codes "create t using method 1001 (a text)") [] (codes "ok")
    ∷ ask (command.Create (codes "u") 1002 (text_column (codes "a") 9 ∷ []) []) (codes "create u using method 1002 (a text(9))") [] (codes "! noextension 1002")
    ∷ ask (command.Attach (codes "t") (codes "c") (Foreign 1000 [])) (codes "attach code 1000 c on t desc @") [] (codes "! type")
    ∷ ask (command.Attach (codes "t") (codes "c") (Foreign 1000 (3 ∷ []))) (codes "attach code 1000 c on t desc @03") [] (codes "ok")
    ∷ ask (command.Insert (codes "t") (Text (codes "four") ∷ [])) (codes "insert t values ('four')") ((7 ∷ []) ∷ []) (codes "! veto t c")
    ∷ ask (command.Insert (codes "t") (Text (codes "six") ∷ [])) (codes "insert t values ('six')") ((7 ∷ []) ∷ []) (codes "ok @07")
    ∷ ask (command.Entries (codes "t") (codes "c")) (codes "entries c on t") [] (codes "sum 1\nok 0")
    ∷ ask (command.Attach (codes "t") (codes "d") (Foreign 1000 (2 ∷ []))) (codes "attach code 1000 d on t desc @02") [] (codes "! veto t d")
    ∷ ask (command.Retire true 1001) (codes "retire method 1001") spare (codes "! inuse t -")
    ∷ ask (command.Retire false 1000) (codes "retire attachment 1000") spare (codes "! inuse t c")
    ∷ ask (command.Drop (codes "t")) (codes "drop t") [] (codes "ok")
    ∷ ask (command.Retire true 1001) (codes "retire method 1001") [] (codes "ok")
    ∷ ask (command.Create (codes "t") 1001 (int_column (codes "a") ∷ []) []) (codes "create t using method 1001 (a int)") [] (codes "! noextension 1001")
    ∷ ask (command.Register true 1001) (codes "register method 1001") [] (codes "ok")
    ∷ ask (command.Register true 1001) (codes "register method 1001") [] (codes "! noextension 1001")
    ∷ []

plays : answers_with extensions opened script ≡ replies_of script
unfolding digits encode_with
plays = refl

prints : printed script ≡ lines_of script
unfolding digits encode_with
prints = refl
