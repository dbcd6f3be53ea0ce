-- What can be stored is short, so what was read can be written again.
use Rattle.sb_value.specs.declared.value.Value.TheVariants.{Int, Text}
use Rattle.sb_pred.specs.declared.predicate.Term.{Term}
use Rattle.sb_pred.specs.declared.predicate.Term.TheVariants.{Const, New, Old}
use Rattle.sb_pred.specs.Tree.{Tree, Always, Compare, Both, Either, Fails}
use Rattle.sb_pred.specs.Spelling.{IsShortTerm, IsShortPred, IsStorableTerm, IsStorablePred}

pub IsShortTerm_from_storable : (t : Term) → IsStorableTerm t → IsShortTerm t
IsShortTerm_from_storable (Const (Int n)) h = tt
IsShortTerm_from_storable (Const (Text s)) h = h.1
IsShortTerm_from_storable (New name) h = h.1
IsShortTerm_from_storable (Old name) h = h.1

pub IsShortPred_from_storable : (p : Tree) → IsStorablePred p → IsShortPred p
IsShortPred_from_storable Always h = tt
IsShortPred_from_storable (Compare op a b) h = (IsShortTerm_from_storable a h.0, IsShortTerm_from_storable b h.1)
IsShortPred_from_storable (Both p q) h = (IsShortPred_from_storable p h.0, IsShortPred_from_storable q h.1)
IsShortPred_from_storable (Either p q) h = (IsShortPred_from_storable p h.0, IsShortPred_from_storable q h.1)
IsShortPred_from_storable (Fails p) h = IsShortPred_from_storable p h
