-- How work that is refused, as its definition says, composes.
use Rattle.std.proofs.Common.{◌≡◌, List, [], ◌++◌}
use Rattle.sb_relation.specs.Db.{Key}
use Rattle.sb_fold.specs.declared.refusal.Refusal.{Refusal}
use Rattle.sb_fold.specs.Outcome.{Trail, Going, Work, refuse, ◌>>=◌, Leads, with_picks}
use Rattle.sb_fold.proofs.LeadsLemmas.{leads_then, leads_refused, leads_from}
use Rattle.sb_cascade.specs.Runs.{RefusedFrom}

-- before any of it
pub refused_here : {S A : Type 0} (Stopped : Refusal → Trail → S → Type 0) (work : Work A) (g : Going) (r : Refusal) (new : S)
    → ((left : List Key) → work (with_picks g left) ≡ refuse r (with_picks g left)) → Stopped r g.trail new → RefusedFrom Stopped work g r new
refused_here Stopped work g r new refused stopped = record { picks = []; after = g; leads = record { leads = refused }; stopped = stopped }

-- behind a run
pub refused_then : {S A : Type 0} {Stopped : Refusal → Trail → S → Type 0} {work rest : Work A} {g mid : Going} {picks : List Key} {r : Refusal} {new : S}
    → Leads work g picks rest mid → RefusedFrom Stopped rest mid r new → RefusedFrom Stopped work g r new
refused_then {picks = picks} run refused = record { picks = picks ++ refused.picks; after = refused.after; leads = leads_then run refused.leads; stopped = refused.stopped }

-- what comes next is refused too
pub refused_next : {S A B : Type 0} {Stopped : Refusal → Trail → S → Type 0} {work : Work A} {g : Going} {r : Refusal} {new : S} → (next : A → Work B)
    → RefusedFrom Stopped work g r new → RefusedFrom Stopped (work >>= next) g r new
refused_next next refused = record { picks = refused.picks; after = refused.after; leads = leads_refused next refused.leads; stopped = refused.stopped }

-- the same work
pub refused_from : {S A : Type 0} {Stopped : Refusal → Trail → S → Type 0} {work : Work A} {g : Going} {r : Refusal} {new : S} → (same : Work A)
    → ((left : List Key) → same (with_picks g left) ≡ work (with_picks g left)) → RefusedFrom Stopped work g r new → RefusedFrom Stopped same g r new
refused_from same is refused = record { picks = refused.picks; after = refused.after; leads = leads_from same is refused.leads; stopped = refused.stopped }
