-- When what a line says may be carried out.
use Rattle.std.specs.Prelude.{◌≡◌, ℕ, true, false, List, Some, None}
use Rattle.sb_plain.specs.declared.command.Command.{Command}
use Rattle.sb_plain.specs.Refusing.{refused}
use Rattle.sb_plain.specs.State.{State}
use Rattle.sb_grammar.specs.Columns.{IsItem, Says}
use Rattle.sb_ctx.specs.Method.{Method}
use Rattle.sb_registry.specs.Boxes.{Meanings, method_of}
use Rattle.sb_vectors.specs.Vectors.{has_box, live_codes}
use Rattle.sb_statements.specs.Working.{extensions_of}
use Rattle.sb_statements.specs.Posed.{IsPosed}

-- The live storage methods keep what outlives the run, and temp, of code 3, is none of them. No live attachment is of two relations: neither join
-- indexes, of code 3, nor references, of code 6.
pub record AreSingle (m : Meanings) : Type 0 where
  pub outlive : (code : ℕ) (box : Method) → method_of code m.methods ≡ Some box → box.rules.durable ≡ true
  pub no_temp : has_box m true true 3 ≡ false
  pub no_joins : has_box m true false 3 ≡ false
  pub no_references : has_box m true false 6 ≡ false

-- over such boxes a command that a line says may be carried out where no test refuses it
abbrev pub ReadIsPosed : Type 0
ReadIsPosed =
    (m : Meanings) (s : State) (line : List ℕ) (c : Command) → AreSingle m → s.live ≡ live_codes m → IsItem line (Says c)
    → refused (extensions_of m) s c ≡ None → IsPosed m c
