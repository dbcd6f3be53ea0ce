-- How the work of a command goes on from that of a fold to its answer.
use Rattle.std.proofs.Common.{◌≡◌, ℕ, Option, Some, None, Result, Ok, Err, IfOk, refl, sym, ap, ◌∙◌, subst}
use Rattle.sb_relation.specs.Db.{Name, Key, Relation, Db, relation_at}
use Rattle.sb_relation.specs.Keys.{keying_of}
use Rattle.sb_fold.specs.declared.refusal.Refusal.{Refusal}
use Rattle.sb_fold.specs.declared.refusal.Refusal.TheVariants.{NoMemory}
use Rattle.sb_fold.specs.Extensions.{Extensions}
use Rattle.sb_fold.specs.Fold.{first_change}
use Rattle.sb_fold.specs.Outcome.{Trail, Going, Gives, Work, made, ◌>>=◌, with_picks}
use Rattle.sb_fold.specs.Wishes.{Wish}
use Rattle.sb_cascade.specs.Runs.{MadeFrom, StopsFrom}
use Rattle.sb_cascade.proofs.Forward.{IsForward, forward_at, forward_made, forward_next, forward_within}
use Rattle.sb_cascade.proofs.Leading.{goes_made, goes_next}
use Rattle.sb_cascade.proofs.Stopping.{stops_free, stops_next}
use Rattle.sb_plain.specs.Step.{Answer, Plain, keyed_by, plainly, row_answer, with_key}

-- ---- an answer of its own
module _ {S A : Type 0} (Stands : Going → S → Type 0) (Stopped : Refusal → Trail → S → Type 0) (work : Work A) (g : Going) (new : S) where
  pub answered_made : (answer : A → Answer) (x : A) → MadeFrom Stands work g x new → MadeFrom Stands (work >>= λ y. made (answer y)) g (answer x) new
  answered_made answer x run = goes_made (goes_next (λ y. made (answer y)) run)

  pub answered_stopped : (answer : A → Answer) (r : Refusal) → StopsFrom Stopped work g r new → StopsFrom Stopped (work >>= λ y. made (answer y)) g r new
  answered_stopped answer r stops = stops_next Stopped work r new g (λ y. made (answer y)) (λ y. forward_made (answer y)) stops

-- ---- the record key of a row
module _ {S : Type 0} (Stands : Going → S → Type 0) (Stopped : Refusal → Trail → S → Type 0) (name : Name) (work : Work (Option Key)) (g : Going) (new : S) where
  pub keyed_made : (key : Option Key) (answer : Answer) → ((h : Going) → Stands h new → answer ≡ row_answer h.db name key) → MadeFrom Stands work g key new
      → MadeFrom Stands (with_key name work) g answer new
  keyed_made key answer is run =
      let next = goes_next (λ (k : Option Key). λ (going : Going). made (row_answer going.db name k) going) run in
      record {
        picks = next.picks;
        after = next.after;
        leads = record { leads = λ more. next.leads.leads more ∙ ap (λ (a : Answer). Gives a (with_picks next.after more)) (sym (is next.after next.stands)) };
        stands = next.stands;
      }

  pub keyed_stopped : (r : Refusal) → StopsFrom Stopped work g r new → StopsFrom Stopped (with_key name work) g r new
  keyed_stopped r stops =
      stops_next Stopped work r new g (λ (k : Option Key). λ (going : Going). made (row_answer going.db name k) going)
      (λ k. forward_at (λ (h : Going). made (row_answer h.db name k)) (λ h. forward_made (row_answer h.db name k))) stops

-- ---- memory that is wanting before any of it
pub wanting_keyed : {S : Type 0} (Stopped : Refusal → Trail → S → Type 0) (ext : Extensions) (name : Name) (wish : Wish) (g : Going) (new : S) → Stopped NoMemory g.trail new
    → StopsFrom Stopped (with_key name (first_change ext name wish)) g NoMemory new
wanting_keyed Stopped ext name wish g new stopped =
    stops_free Stopped (with_key name (first_change ext name wish)) NoMemory new g refl
    (forward_next (first_change ext name wish) (λ (k : Option Key). λ (going : Going). made (row_answer going.db name k) going) (forward_within ext 16 name wish)
    (λ k. forward_at (λ (h : Going). made (row_answer h.db name k)) (λ h. forward_made (row_answer h.db name k)))) stopped

pub wanting_plainly : {S A : Type 0} (Stopped : Refusal → Trail → S → Type 0) (work : Work A) (g : Going) (new : S) → IsForward work → Stopped NoMemory g.trail new
    → StopsFrom Stopped (plainly work) g NoMemory new
wanting_plainly {A = A} Stopped work g new forward stopped =
    stops_free Stopped (plainly work) NoMemory new g refl (forward_next work (λ (x : A). made Plain) forward (λ x. forward_made Plain)) stopped

-- a relation that is there says how its rows get their record keys
pub answer_there : (db : Db) (name : Name) (key : Key) (r : Relation) (method : ℕ) → relation_at db name ≡ Some r → method ≡ r.method
    → keyed_by (keying_of method) key ≡ row_answer db name (Some key)
answer_there db name key r method there same =
    ap (λ (n : ℕ). keyed_by (keying_of n) key) same
    ∙ ap (λ (o : Option Relation). elim o as (λ _. Answer) [ None ↦ Plain | Some r ↦ keyed_by (keying_of r.method) key ]) (sym there)

-- ---- over other extensions that are the same
pub made_over : {S A : Type 0} (Stands : Going → S → Type 0) (work : Extensions → Work A) (old mid : Extensions) (g : Going) (x : A) (new : S) → mid ≡ old
    → MadeFrom Stands (work mid) g x new → MadeFrom Stands (work old) g x new
made_over Stands work old mid g x new same run = subst (λ (ext : Extensions). MadeFrom Stands (work ext) g x new) same run

pub stopped_over : {S A : Type 0} (Stopped : Refusal → Trail → S → Type 0) (work : Extensions → Work A) (old mid : Extensions) (g : Going) (r : Refusal) (new : S) → mid ≡ old
    → StopsFrom Stopped (work mid) g r new → StopsFrom Stopped (work old) g r new
stopped_over Stopped work old mid g r new same stops = subst (λ (ext : Extensions). StopsFrom Stopped (work ext) g r new) same stops

-- what is so whatever is given
pub ok_always : {A E P : Type 0} (r : Result A E) → P → IfOk r (λ _. P)
ok_always (Ok x) so = so
ok_always (Err e) so = tt
