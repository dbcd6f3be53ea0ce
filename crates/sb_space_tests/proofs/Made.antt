-- Deletes by the boxes of the tests, whose pages are never formed.
use Rattle.std.proofs.Common.{◌≡◌, ℕ, Bool, List, Option, Some, None, is_some, ◌∙◌}
use Rattle.sb_forms.specs.Pages.{Pages}
use Rattle.sb_ctx.specs.declared.instance.Instance.{Instance}
use Rattle.sb_ctx.specs.declared.calls.MethodCall.TheVariants as method_calls
use Rattle.sb_ctx.specs.declared.moves.Move.{Move}
use Rattle.sb_ctx.specs.declared.moves.Move.TheVariants.{Done, Need, Fresh, Broken, NoMemory}
use Rattle.sb_ctx.specs.MethodAnswers.{Answers, AsksFor, Changes, IsBroken, MayEnd}
use Rattle.sb_ctx.specs.Method.{Method}
use Rattle.sb_ctx.specs.View.{View, HeldPages, given_at, dropped, stored}
use Rattle.sb_memory.specs.Examples.{IsMade}

none_some : {X : Type 0} (o : Option X) (x : X) → o ≡ None → o ≡ Some x → ⊥
none_some o x none some = cc

-- what a box of the tests may call broken
abbrev MayBreakHeld : (Instance → HeldPages → ℕ → Bool) → Type 0
MayBreakHeld may_break = (inst : Instance) (held : HeldPages) (n : ℕ) → may_break inst held n ≡ is_some (held n)

-- what is made by a delete
pub Changes-made : (m : Method) (inst : Instance) (key : List ℕ) (old new : View) (move : Move) → ((P : Pages) → m.read inst P ≡ None) → MayBreakHeld m.may_break →
    dropped new ≡ old → AsksFor new move → IsMade old move → Changes m inst (method_calls.Delete key) old new move
Changes-made m inst key old new move none breaks given asks made = record {
  given = given;
  asks = asks;
  broken = broken move made;
  ends = ends move made;
  answers = λ P part. answers P move made;
  spends = λ ctx P part rows holds. absurd (none_some (m.read inst P) rows (none P) holds);
}
  where
    broken : (move : Move) → IsMade old move → IsBroken m inst old move
    broken (Broken n) made = breaks inst (given_at old) n ∙ made
    broken move made = tt

    ends : (move : Move) → IsMade old move → MayEnd inst (method_calls.Delete key) move
    ends Done made = tt
    ends (Need n) made = tt
    ends Fresh made = tt
    ends (Broken n) made = tt
    ends NoMemory made = tt
    ends move made = absurd made

    answers : (P : Pages) (move : Move) → IsMade old move → Answers m inst (method_calls.Delete key) P (stored new P) move
    answers P Done made = λ rows holds. absurd (none_some (m.read inst P) rows (none P) holds)
    answers P (Need n) made = tt
    answers P Fresh made = tt
    answers P (Broken n) made = tt
    answers P NoMemory made = tt
    answers P move made = absurd made
