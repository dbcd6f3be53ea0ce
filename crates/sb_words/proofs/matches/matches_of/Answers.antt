use Rattle.std.proofs.Common.{◌∙◌, List, map, ap, sym, subst, inl, inr}
use Rattle.std.specs.Borrow.{Bor}
use Rattle.clap.specs.Words.{App, IsAmong, Text, fault_of, is_simple, is_simple_and_free, matches_of}
use Rattle.sb_words.proofs.CommandLemmas.{complete, simple, simple_and_free}
use Rattle.sb_words.proofs.matches.matches_of.Goals as goal

pub returns-in-Ok : goal.returns-in-Ok
returns-in-Ok c =
    let is = c.in_ok-starburst.ensures in
    let words : List Text = map (λ (s : Bor Text). s.now) c.args.words.now in
    record {
      taken = ap (λ (a : App). fault_of a words) (sym is) ∙ c.in-Ok.ensures.kinds (ap is_simple_and_free is ∙ simple_and_free);
      are = (c.in-Ok.ensures.matches (ap is_simple is ∙ simple)).0 ∙ ap (λ (a : App). matches_of a words) is;
      complete = complete c.in_ok-starburst.field-0 is c.in-Ok.matches c.in-Ok.ensures.parsed;
    }

pub returns : goal.returns
returns c =
    let is = c.in_ok-starburst.ensures in
    let words : List Text = map (λ (s : Bor Text). s.now) c.args.words.now in
    let kinds = c.in-Err.ensures.kinds (ap is_simple_and_free is ∙ simple_and_free) in
    elim kinds [
      | inl memory ↦ absurd (c.in_default.not-OutOfMemory (c.kind.ensures ∙ memory))
      | inr among ↦ (
        c.in-Err.error.kind,
        subst (λ (a : App). IsAmong c.in-Err.error.kind (fault_of a words)) is among,
        λ memory. c.in_default.not-OutOfMemory (c.kind.ensures ∙ memory),
      )
    ]
