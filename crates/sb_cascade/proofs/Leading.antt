-- How runs that the layer stands for compose.
use Rattle.std.proofs.Common.{◌≡◌, List, [], ◌++◌}
use Rattle.sb_relation.specs.Db.{Key}
use Rattle.sb_fold.specs.Outcome.{Going, Work, made, ◌>>=◌, Leads, with_picks}
use Rattle.sb_fold.proofs.LeadsLemmas.{leads_here, leads_then, leads_next, leads_from}
use Rattle.sb_cascade.specs.Runs.{MadeFrom}

-- With some picks, and whatever picks follow, what is left of the work is other work, from what the layer stands for.
pub record GoesFrom {S A : Type 0} (Stands : Going → S → Type 0) (work : Work A) (g : Going) (rest : Work A) (new : S) : Type 0 where
  pub picks : List Key
  pub after : Going
  pub leads : Leads work g picks rest after
  pub stands : Stands after new

-- all of it is left
pub goes_here : {S A : Type 0} (Stands : Going → S → Type 0) (work : Work A) (g : Going) (a : S) → Stands g a → GoesFrom Stands work g work a
goes_here Stands work g a stands = record { picks = []; after = g; leads = leads_here work g; stands = stands }

-- nothing of it is left
pub goes_made : {S A : Type 0} {Stands : Going → S → Type 0} {work : Work A} {g : Going} {x : A} {new : S} → GoesFrom Stands work g (made x) new → MadeFrom Stands work g x new
goes_made run = record { picks = run.picks; after = run.after; leads = run.leads; stands = run.stands }

-- a run behind a run
pub goes_then : {S T A : Type 0} {Before : Going → S → Type 0} {After : Going → T → Type 0} {work rest last : Work A} {g : Going} {mid : S} {new : T}
    → GoesFrom Before work g rest mid → ((h : Going) → Before h mid → GoesFrom After rest h last new) → GoesFrom After work g last new
goes_then run on =
    let more = on run.after run.stands in
    record { picks = run.picks ++ more.picks; after = more.after; leads = leads_then run.leads more.leads; stands = more.stands }

-- where the first of it gives a value, what comes next is left
pub goes_next : {S A B : Type 0} {Stands : Going → S → Type 0} {work : Work A} {g : Going} {x : A} {new : S} → (next : A → Work B)
    → MadeFrom Stands work g x new → GoesFrom Stands (work >>= next) g (next x) new
goes_next next run = record { picks = run.picks; after = run.after; leads = leads_next next run.leads; stands = run.stands }

-- the same work at the start, and at the end
pub goes_from : {S A : Type 0} {Stands : Going → S → Type 0} {work rest : Work A} {g : Going} {new : S} → (same : Work A)
    → ((left : List Key) → same (with_picks g left) ≡ work (with_picks g left)) → GoesFrom Stands work g rest new → GoesFrom Stands same g rest new
goes_from same is run = record { picks = run.picks; after = run.after; leads = leads_from same is run.leads; stands = run.stands }
