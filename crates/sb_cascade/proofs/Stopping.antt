-- How work that is refused composes, whoever refuses it.
use Rattle.std.proofs.Common.{◌≡◌, Bool, true, false, List, sym, subst}
use Rattle.sb_relation.specs.Db.{Key}
use Rattle.sb_fold.specs.declared.refusal.Refusal.{Refusal}
use Rattle.sb_fold.specs.Outcome.{Trail, Going, Work, refuse, ◌>>=◌, with_picks}
use Rattle.sb_cascade.specs.Runs.{is_free, EndsBy, StopsFrom, LooksFrom}
use Rattle.sb_cascade.proofs.Breaking.{broken_here, broken_then, broken_next, broken_from}
use Rattle.sb_cascade.proofs.Forward.{IsForward}
use Rattle.sb_cascade.proofs.Leading.{GoesFrom}
use Rattle.sb_cascade.proofs.Refusing.{refused_here, refused_then, refused_next, refused_from}

module _ {S A : Type 0} (Stopped : Refusal → Trail → S → Type 0) (work : Work A) (r : Refusal) (new : S) where
  -- as the definition says, before any of it
  pub stops_here : (g : Going) → is_free r ≡ false → ((left : List Key) → work (with_picks g left) ≡ refuse r (with_picks g left)) → Stopped r g.trail new → StopsFrom Stopped work g r new
  stops_here g quiet refused stopped = subst (λ b. EndsBy Stopped b work g r new) (sym quiet) (refused_here Stopped work g r new refused stopped)

  -- by the layer, before any of it
  pub stops_free : (g : Going) → is_free r ≡ true → IsForward work → Stopped r g.trail new → StopsFrom Stopped work g r new
  stops_free g free forward stopped = subst (λ b. EndsBy Stopped b work g r new) (sym free) (broken_here Stopped work g r new forward stopped)

  pub stops_looking : (g : Going) → IsForward work → LooksFrom Stopped g r new → StopsFrom Stopped work g r new
  stops_looking g forward looks = stops_free g looks.free forward looks.stopped

  -- behind a run
  pub stops_then : {M : Type 0} {Stands : Going → M → Type 0} {g : Going} {mid : M} → (whole : Work A) → GoesFrom Stands whole g work mid
      → ((h : Going) → Stands h mid → StopsFrom Stopped work h r new) → StopsFrom Stopped whole g r new
  stops_then {g = g} whole run stops = of_kind (is_free r) (stops run.after run.stands)
    where
      of_kind : (b : Bool) → EndsBy Stopped b work run.after r new → EndsBy Stopped b whole g r new
      of_kind true broken = broken_then run.leads broken
      of_kind false refused = refused_then run.leads refused

  -- so is what comes next
  pub stops_next : {B : Type 0} (g : Going) (next : A → Work B) → ((x : A) → IsForward (next x)) → StopsFrom Stopped work g r new → StopsFrom Stopped (work >>= next) g r new
  stops_next g next forward = of_kind (is_free r)
    where
      of_kind : (b : Bool) → EndsBy Stopped b work g r new → EndsBy Stopped b (work >>= next) g r new
      of_kind true broken = broken_next next forward broken
      of_kind false refused = refused_next next refused

  -- the same work
  pub stops_from : (g : Going) (same : Work A) → ((left : List Key) → same (with_picks g left) ≡ work (with_picks g left)) → StopsFrom Stopped work g r new → StopsFrom Stopped same g r new
  stops_from g same is = of_kind (is_free r)
    where
      of_kind : (b : Bool) → EndsBy Stopped b work g r new → EndsBy Stopped b same g r new
      of_kind true broken = broken_from same is broken
      of_kind false refused = refused_from same is refused
