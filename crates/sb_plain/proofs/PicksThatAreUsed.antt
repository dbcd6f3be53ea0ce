-- Picks: those of a command that is carried out are all used, and only such as may be picked.
use Rattle.std.specs.Prelude.{◌≡◌, refl, ◌-◌, ◌^◌, codes, List, [], ◌∷◌, Option, Some, None, replicate}
use Rattle.std.specs.Int.{to_be_bytes, w64}
use Rattle.sb_pred.specs.declared.predicate.Op.TheVariants.{Eq}
use Rattle.sb_pred.specs.declared.predicate.Term.TheVariants.{Const, New}
use Rattle.sb_pred.specs.Tree.{Tree, Always, Compare, Both, Either, Fails}
use Rattle.std.specs.Fmt.{digits}
use Rattle.sb_relation.specs.Db.{Name, Key, int_column}
use Rattle.sb_fold.specs.declared.refusal.Refusal.TheVariants.{Range}
use Rattle.sb_plain.specs.declared.command.Command.TheVariants as command
use Rattle.sb_plain.specs.declared.reply.Reply.{Reply}
use Rattle.sb_plain.specs.declared.reply.Reply.TheVariants as reply
use Rattle.sb_plain.specs.Printing.{pred_text, bare_term}
use Rattle.sb_plain.specs.State.{State}
use Rattle.sb_plain.specs.Step.{step}
use Rattle.sb_plain.proofs.Scripts.{ask, after, start, no_extensions, int, slot}

abbrev heap : State
heap = after start (ask (command.Create (codes "t") 1 (int_column (codes "a") ∷ []) []) [] [] [] ∷ ask (command.Insert (codes "t") (int 1 ∷ [])) [] (slot 2 0 ∷ []) [] ∷ [])

abbrev answer : List Key → Option Reply
answer picks = (step no_extensions heap (command.Insert (codes "t") (int 2 ∷ [])) picks).reply

any_free_key : answer ((9 ∷ []) ∷ []) ≡ Some (reply.Done (Some (9 ∷ [])) [])
any_free_key = refl

no_pick : answer [] ≡ None
no_pick = refl

one_too_many : answer (slot 2 1 ∷ slot 2 2 ∷ []) ≡ None
one_too_many = refl

a_key_that_stands : answer (slot 2 0 ∷ []) ≡ None
a_key_that_stands = refl

a_long_key : answer (replicate 201 7 ∷ []) ≡ None
a_long_key = refl

none_for_a_scan : (step no_extensions heap (command.Scan (codes "t") None None) (slot 2 1 ∷ [])).reply ≡ None
none_for_a_scan = refl

-- ---- no greater number
abbrev full : State
full = record start {
  commits = ((codes "w", record { method = 3; schema = int_column (codes "a") ∷ []; key = []; rows = (to_be_bytes w64 (2 ^ 64 - 1), int 1 ∷ []) ∷ []; attachments = [] }) ∷ []) ∷ [];
}

no_greater_number : (step no_extensions full (command.Insert (codes "w") (int 2 ∷ [])) []).reply ≡ Some (reply.Refused (Range (codes "w")))
no_greater_number = refl

-- ---- predicates with brackets
abbrev is : Name → Tree
is name = Compare Eq (New name) (Const (int 1))

or_in_and : pred_text bare_term (Both (Either (is (codes "a")) (is (codes "b"))) (is (codes "c"))) ≡ codes "(a = 1 or b = 1) and c = 1"
unfolding digits
or_in_and = refl

and_in_or : pred_text bare_term (Either (Both (is (codes "a")) (is (codes "b"))) (Either (is (codes "c")) Always)) ≡ codes "a = 1 and b = 1 or (c = 1 or always)"
unfolding digits
and_in_or = refl

from_the_left : pred_text bare_term (Both (Both (is (codes "a")) (is (codes "b"))) (Both (is (codes "c")) (Fails (Fails Always)))) ≡ codes "a = 1 and b = 1 and (c = 1 and not not always)"
unfolding digits
from_the_left = refl
