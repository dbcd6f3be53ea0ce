-- The steps of a commit.
use Rattle.std.proofs.Common.{◌≡◌, ◌+◌, false, List, [], ◌∷◌, ◌++◌, Option, Some, None, refl, ap, ◌∙◌}
use Rattle.std.specs.List.{last_or}
use Rattle.sb_relation.specs.Db.{Key, Db}
use Rattle.sb_fold.specs.declared.refusal.Refusal.{Refusal}
use Rattle.sb_fold.specs.Extensions.{Extensions}
use Rattle.sb_fold.specs.Finish.{finish, freed}
use Rattle.sb_fold.specs.Outcome.{Gives, Going, Leads, NoStep, Outcome, Stopped, begun, change_to, continue, made, refuse, trail_of, with_picks, ◌>>=◌}
use Rattle.sb_fold.proofs.LeadsLemmas.{leads_whole}
use Rattle.sb_plain.specs.declared.command.Command.TheVariants as command
use Rattle.sb_plain.specs.declared.reply.Reply.TheVariants.{Done, Refused}
use Rattle.sb_plain.specs.Step.{Steps}
use Rattle.sb_plain.specs.State.{State, Transaction, committed, db_or_empty, ended, paid}
use Rattle.sb_plain.specs.Step.{Answer, Plain, Turn, commit_of, freeing, step, turn_of}
use Rattle.sb_transactions.specs.Commits.{finish_and_free}
use Rattle.sb_session.proofs.StepLemmas.{at_fields}

-- work that finishes a transaction, once the commit itself was paid for
abbrev pub going_on : Transaction → Going
going_on t = begun t.db t.queue t.gone (t.spent + 1) []

-- the state behind a commit, and behind one that is refused
abbrev pub with_committed : State → Db → State
with_committed s db = record s { transaction = None; down = false; commits = s.commits ++ db ∷ [] }

abbrev pub without_transaction : State → State
without_transaction s = record s { transaction = None; down = false }

last-push : (o : Option Db) (dbs : List Db) (db : Db) → last_or o (dbs ++ db ∷ []) ≡ Some db
last-push o [] db = refl
last-push o (first ∷ dbs) db = last-push (Some first) dbs db

pub committed-push : (s : State) (db : Db) → committed (with_committed s db) ≡ db
committed-push s db = ap db_or_empty (last-push None s.commits db)

-- ---- the same work with an answer
abbrev answered_by : Answer → Outcome (Unit {0}) → Outcome Answer
answered_by answer (Gives x going) = Gives answer going
answered_by answer (Stopped r trail) = Stopped r trail
answered_by answer (NoStep trail) = NoStep trail

freed_by : (answer : Answer) (o : Outcome (Unit {0})) → continue (λ _. freeing answer) o ≡ answered_by answer (continue (λ _. change_to freed) o)
freed_by answer (Gives x going) = refl
freed_by answer (Stopped r trail) = refl
freed_by answer (NoStep trail) = refl

trail_by : (answer : Answer) (o : Outcome (Unit {0})) → trail_of (answered_by answer o) ≡ trail_of o
trail_by answer (Gives x going) = refl
trail_by answer (Stopped r trail) = refl
trail_by answer (NoStep trail) = refl

-- what it comes to
pub freed_trail : (ext : Extensions) (answer : Answer) (g : Going) → trail_of ((finish ext >>= λ _. freeing answer) g) ≡ trail_of (finish_and_free ext g)
freed_trail ext answer g = ap (λ (o : Outcome Answer). trail_of o) (freed_by answer (finish ext g)) ∙ trail_by answer (finish_and_free ext g)

pub freed_leads : (ext : Extensions) (answer : Answer) (g : Going) (picks : List Key) (after : Going) → Leads (finish_and_free ext) g picks (made tt) after
    → Leads (finish ext >>= λ _. freeing answer) g picks (made answer) after
freed_leads ext answer g picks after run =
    record { leads = λ more. freed_by answer (finish ext (with_picks g (picks ++ more))) ∙ ap (answered_by answer) (run.leads more) }

pub freed_refused : (ext : Extensions) (answer : Answer) (g : Going) (picks : List Key) (after : Going) (r : Refusal) → Leads (finish_and_free ext) g picks (refuse r) after
    → Leads (finish ext >>= λ _. freeing answer) g picks (refuse r) after
freed_refused ext answer g picks after r run =
    record { leads = λ more. freed_by answer (finish ext (with_picks g (picks ++ more))) ∙ ap (answered_by answer) (run.leads more) }

-- the turn of a commit by what comes of its work
abbrev turn_by : State → Outcome Answer → Turn
turn_by s o = turn_of (commit_of s) (ended s) o

module _ (ext : Extensions) (s : State) (t : Transaction) (inside : s.transaction ≡ Some t) (up : s.down ≡ false) (picks : List Key) (after : Going) where
  pub Steps-committed : Leads (finish_and_free ext) (going_on t) picks (made tt) after → Steps ext s command.Commit (Done None after.used) (with_committed s after.db)
  Steps-committed run =
      at_fields (λ (s : State). Steps ext s command.Commit (Done None after.used) (with_committed s after.db)) s (Some t) false inside up
      (let r : State = record s { transaction = Some t; down = false } in
      let whole : step ext r command.Commit picks ≡ turn_by (paid r) (made Plain (record after { picks = [] })) =
      ap (turn_by (paid r)) (leads_whole (freed_leads ext Plain (going_on t) picks after run)) in
      record { picks = picks; replies = ap (λ (t : Turn). t.reply) whole; leads = ap (λ (t : Turn). t.state) whole })

  pub Steps-refused_commit : (r : Refusal) → Leads (finish_and_free ext) (going_on t) picks (refuse r) after → Steps ext s command.Commit (Refused r) (without_transaction s)
  Steps-refused_commit q run =
      at_fields (λ (s : State). Steps ext s command.Commit (Refused q) (without_transaction s)) s (Some t) false inside up
      (let r : State = record s { transaction = Some t; down = false } in
      let whole : step ext r command.Commit picks ≡ turn_by (paid r) (refuse q (record after { picks = [] })) =
      ap (turn_by (paid r)) (leads_whole (freed_refused ext Plain (going_on t) picks after q run)) in
      record { picks = picks; replies = ap (λ (t : Turn). t.reply) whole; leads = ap (λ (t : Turn). t.state) whole })
