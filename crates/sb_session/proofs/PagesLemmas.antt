-- Want of room to a command: the points that its step reaches, and what it spends.
use Rattle.std.proofs.Common.{◌≡◌, ℕ, ◌≤◌, true, false, List, [], ◌++◌, Some, refl, sym, ap, subst, ◌∙◌, arith}
use Rattle.std.specs.List.{Any}
use Rattle.sb_relation.specs.Db.{Key}
use Rattle.sb_fold.specs.declared.refusal.Refusal.{Refusal}
use Rattle.sb_fold.specs.declared.refusal.Refusal.TheVariants as refusal
use Rattle.sb_fold.specs.declared.refusal.Room.TheVariants.{Data, Gates, Log}
use Rattle.sb_fold.specs.Extensions.{Extensions}
use Rattle.sb_fold.specs.Finish.{finish}
use Rattle.sb_fold.specs.Outcome.{Going, Gives, NoStep, Outcome, Stopped, Trail, trail_of, with_picks, ◌>>=◌}
use Rattle.sb_cascade.specs.Runs.{StopsFrom}
use Rattle.sb_registry.specs.Boxes.{Meanings}
use Rattle.sb_plain.specs.declared.command.Command.TheVariants as command
use Rattle.sb_plain.specs.declared.reply.Reply.TheVariants.{Refused}
use Rattle.sb_plain.specs.State.{State, Transaction, ended, paid}
use Rattle.sb_plain.specs.Step.{Answer, Plain, commit_of, freeing, step, turn_of}
use Rattle.sb_transactions.specs.Commits.{IsStoppedOn, Mounted, finish_and_free, is_wanting}
use Rattle.sb_transactions.specs.Table.{table_len}
use Rattle.sb_transactions.specs.Working.{IsShortOf, extensions_of}
use Rattle.sb_transactions.proofs.LackingLemmas.{any_along}
use Rattle.sb_session.specs.Sessions.{WantsRoom}
use Rattle.sb_session.proofs.CommitSteps.{freed_trail, going_on}
use Rattle.sb_session.proofs.RoomLemmas.{gates_more, gates_spent, log_more, log_spent}
use Rattle.sb_session.proofs.StepLemmas.{at_fields}

-- ---- the points of a turn are those of its work, and so is what it spends
pub turn_points : (leave : Going → State) (otherwise : State) (o : Outcome Answer) → (turn_of leave otherwise o).points ≡ (trail_of o).points
turn_points leave otherwise (Gives answer going) = refl
turn_points leave otherwise (Stopped r trail) = refl
turn_points leave otherwise (NoStep trail) = refl

pub turn_spent : (leave : Going → State) (otherwise : State) (o : Outcome Answer) → (turn_of leave otherwise o).spent ≡ (trail_of o).spent
turn_spent leave otherwise (Gives answer going) = refl
turn_spent leave otherwise (Stopped r trail) = refl
turn_spent leave otherwise (NoStep trail) = refl

-- ---- a commit
module _ {D : Type 0} (faults : D → ℕ) (m : Meanings) (s : State) (t : Transaction) (inside : s.transaction ≡ Some t) (up : s.down ≡ false) (there : Mounted D) where
  abbrev ext : Extensions
  ext = extensions_of m

  -- with these picks
  module _ (picks : List Key) where
    abbrev came : Trail
    came = trail_of (finish_and_free ext (with_picks (going_on t) picks))

    commit_points : (step ext s command.Commit picks).points ≡ came.points
    commit_points =
        at_fields (λ (s : State). (step ext s command.Commit picks).points ≡ came.points) s (Some t) false inside up
        (let r : State = record s { transaction = Some t; down = false } in
        turn_points (commit_of (paid r)) (ended (paid r)) ((finish ext >>= λ _. freeing Plain) (with_picks (going_on t) picks))
        ∙ ap (λ (trail : Trail). trail.points) (freed_trail ext Plain (with_picks (going_on t) picks)))

    pub commit_spends : (step ext s command.Commit picks).spent ≡ came.spent
    commit_spends =
        at_fields (λ (s : State). (step ext s command.Commit picks).spent ≡ came.spent) s (Some t) false inside up
        (let r : State = record s { transaction = Some t; down = false } in
        turn_spent (commit_of (paid r)) (ended (paid r)) ((finish ext >>= λ _. freeing Plain) (with_picks (going_on t) picks))
        ∙ ap (λ (trail : Trail). trail.spent) (freed_trail ext Plain (with_picks (going_on t) picks)))

  pub commit_room : (pages : ℕ) (r : Refusal) → StopsFrom (IsStoppedOn faults m) (finish_and_free ext) (going_on t) r there
      → ((r ≡ refusal.Fault → ⊥) → there.store.pool.geometry.pages ≡ pages) → (is_wanting r ≡ true → there.store.book.down ≡ false) → WantsRoom m pages s command.Commit (Refused r)
  commit_room pages (refusal.Room (Data used total)) stops geometry still =
      let picks = stops.picks ++ [] in
      let any = subst (λ n. Any (IsShortOf total (table_len n) ext) stops.trail.points) (geometry (λ is. cc)) stops.stopped.licensed in
      let along = any_along (IsShortOf total (table_len pages) ext) stops.trail (came picks) (stops.comes []) any in
      (picks, subst (Any (IsShortOf total (table_len pages) ext)) (sym (commit_points picks)) along)
  commit_room pages (refusal.Room (Log used more total)) stops geometry still =
      let picks = stops.picks ++ [] in
      let enough : stops.trail.spent ≤ (step ext s command.Commit picks).spent = omega (arith, (stops.comes []).spent, commit_spends picks) in
      (picks, log_more total stops.trail.spent (step ext s command.Commit picks).spent enough (log_spent faults there used more total stops.trail.spent stops.stopped.cause (still refl) stops.stopped.paid))
  commit_room pages (refusal.Room (Gates used total)) stops geometry still =
      let picks = stops.picks ++ [] in
      let enough : stops.trail.spent ≤ (step ext s command.Commit picks).spent = omega (arith, (stops.comes []).spent, commit_spends picks) in
      (picks, gates_more stops.trail.spent (step ext s command.Commit picks).spent enough (gates_spent faults there used total stops.trail.spent stops.stopped.cause (still refl) stops.stopped.paid))
  commit_room pages r stops geometry still = tt
