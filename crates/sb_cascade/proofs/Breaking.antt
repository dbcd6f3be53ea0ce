-- How work that the layer stopped composes.
use Rattle.std.proofs.Common.{◌≡◌, List, [], ◌++◌, sym, ap, ◌∙◌, subst, append_assoc}
use Rattle.sb_relation.specs.Db.{Key}
use Rattle.sb_fold.specs.declared.refusal.Refusal.{Refusal}
use Rattle.sb_fold.specs.Outcome.{Trail, Going, Work, Outcome, ◌>>=◌, Leads, with_picks, trail_of}
use Rattle.sb_cascade.specs.Runs.{BrokenFrom, GoesOn}
use Rattle.sb_cascade.proofs.Forward.{IsForward, goes_next}

-- the layer stopped before any of it
pub broken_here : {S A : Type 0} (Stopped : Refusal → Trail → S → Type 0) (work : Work A) (g : Going) (r : Refusal) (new : S)
    → IsForward work → Stopped r g.trail new → BrokenFrom Stopped work g r new
broken_here Stopped work g r new forward stopped = record { picks = []; trail = g.trail; comes = λ more. forward.goes (with_picks g more); stopped = stopped }

-- behind a run
pub broken_then : {S A : Type 0} {Stopped : Refusal → Trail → S → Type 0} {work rest : Work A} {g mid : Going} {picks : List Key} {r : Refusal} {new : S}
    → Leads work g picks rest mid → BrokenFrom Stopped rest mid r new → BrokenFrom Stopped work g r new
broken_then {A = A} {work = work} {rest = rest} {g = g} {mid = mid} {picks = picks} run broken = record {
  picks = picks ++ broken.picks;
  trail = broken.trail;
  comes = λ more.
      let same : work (with_picks g ((picks ++ broken.picks) ++ more)) ≡ rest (with_picks mid (broken.picks ++ more)) =
      ap (λ (left : List Key). work (with_picks g left)) (append_assoc picks broken.picks more) ∙ run.leads (broken.picks ++ more) in
      subst (λ (o : Outcome A). GoesOn broken.trail (trail_of o)) (sym same) (broken.comes more);
  stopped = broken.stopped;
}

-- what comes next only lengthens the trail
pub broken_next : {S A B : Type 0} {Stopped : Refusal → Trail → S → Type 0} {work : Work A} {g : Going} {r : Refusal} {new : S} → (next : A → Work B)
    → ((x : A) → IsForward (next x)) → BrokenFrom Stopped work g r new → BrokenFrom Stopped (work >>= next) g r new
broken_next {work = work} {g = g} next forward broken = record {
  picks = broken.picks;
  trail = broken.trail;
  comes = λ more. goes_next broken.trail (work (with_picks g (broken.picks ++ more))) next forward (broken.comes more);
  stopped = broken.stopped;
}

-- the same work
pub broken_from : {S A : Type 0} {Stopped : Refusal → Trail → S → Type 0} {work : Work A} {g : Going} {r : Refusal} {new : S} → (same : Work A)
    → ((left : List Key) → same (with_picks g left) ≡ work (with_picks g left)) → BrokenFrom Stopped work g r new → BrokenFrom Stopped same g r new
broken_from {A = A} same is broken = record {
  picks = broken.picks;
  trail = broken.trail;
  comes = λ more. subst (λ (o : Outcome A). GoesOn broken.trail (trail_of o)) (sym (is (broken.picks ++ more))) (broken.comes more);
  stopped = broken.stopped;
}
