-- Terms, by how their columns are written.
use Rattle.std.specs.Prelude.{ℕ, List}
use Rattle.sb_pred.specs.declared.predicate.Term.{Term}
use Rattle.sb_plain.specs.Printing.{bare_term, full_term}
use Rattle.sb_printer.specs.declared.predicates.Scope.{Scope}
use Rattle.sb_printer.specs.declared.predicates.Scope.TheVariants.{Check, Trigger}

abbrev pub term_text : Scope → Term → List ℕ
term_text Check = bare_term
term_text Trigger = full_term
