-- The law of steps on which rules hold, and of plays.
use Rattle.std.proofs.Common.{◌≡◌, ℕ, ◌+◌, Bool, true, false, not, ◌&&◌, List, [], ◌∷◌, Option, Some, None, refl, sym, subst, ◌∙◌}
use Rattle.std.specs.Prelude.{All}
use Rattle.std.proofs.lemmas.Bool.{and_parts}
use Rattle.std.proofs.lemmas.List.Elements.{All-nil, All-cons, All-head, All-tail, All-weaker}
use Rattle.sb_relation.specs.Db.{Key, Db}
use Rattle.sb_rule.specs.declared.rule.Rule.{Rule}
use Rattle.sb_relation.specs.Laws.{is_foreign}
use Rattle.sb_fold.specs.declared.refusal.Refusal.{Refusal}
use Rattle.sb_fold.specs.Building.{create, drop_relation, build, detach}
use Rattle.sb_fold.specs.Extensions.{Extensions}
use Rattle.sb_fold.specs.Outcome.{Outcome, Gives, Stopped, NoStep, Work}
use Rattle.sb_plain.specs.declared.command.Command.{Command}
use Rattle.sb_plain.specs.declared.command.Command.TheVariants as command
use Rattle.sb_plain.specs.Lawful.{IsLawful, IsSound, IsSoundNow, IsLawfulPoint, MayBeOpen, IsLawfulState, is_deferred}
use Rattle.sb_plain.specs.Refusing.{refused}
use Rattle.sb_plain.specs.State.{Codes, Point, Transaction, State, going_of, with_spent, kept}
use Rattle.sb_plain.specs.Step as step
use Rattle.sb_plain.proofs.LawfulLemmas.{others-lawful}
use Rattle.sb_lawful.specs.Laws.{databases, IsWellNamed, IsBuilding}
use Rattle.sb_lawful_rows.specs.States.{IsRowCommand}
use Rattle.sb_lawful_steps.specs.Laws.{IsSaid, IsLawfulAlong, passed, beginning}
use Rattle.sb_lawful_steps.proofs.States.{EachOpen, to_each, of_each}
use Rattle.sb_lawful_steps.proofs.Stepping as lawful
use Rattle.sb_sound.specs.Laws.{IsSoundAlong, StepsLeaveSound, PlaysStaySound, PlaysFromNothingSound}
use Rattle.sb_sound.proofs.Holding.{all_ours, ours_now, HoldMains, mains_of, all_of}
use Rattle.sb_sound.proofs.Commands.{building_leaves}
use Rattle.sb_sound.proofs.Turns.{rows_sound, commits_sound}

-- ---- the databases of a state
abbrev ours : Rule → Bool
ours rule = not (is_foreign rule)

abbrev now : Rule → Bool
now rule = not (is_foreign rule) && not (is_deferred rule)

-- rules that aren't deferred are some of all
all_now : (ext : Extensions) (db : Db) → IsSound ext db → IsSoundNow ext db
all_now ext db sound = λ k d below j a within both. sound k d below j a within (and_parts _ _ both).0

point_sound : (ext : Extensions) (transaction : Option Transaction) → MayBeOpen ext transaction → EachOpen (IsSoundNow ext) transaction
point_sound ext None open_one = tt
point_sound ext (Some t) open_one = record {
  now = open_one.sound;
  points = All-weaker (λ (p : Point). IsLawfulPoint ext p) (λ (p : Point). IsSoundNow ext p.db) (λ p is. is.sound) t.points open_one.points;
}

-- what holds now of each, of all of them
each_now : (ext : Extensions) (s : State) → IsLawfulState ext s → All (IsSoundNow ext) (databases s)
each_now ext s state =
    of_each (IsSoundNow ext) s (record {
      commits = All-weaker (IsSound ext) (IsSoundNow ext) (λ db sound. all_now ext db sound) s.commits state.sound;
      open_one = point_sound ext s.transaction state.open_one;
    })

record IsGood (ext : Extensions) (db : Db) : Type 0 where
  lawful : IsLawful ext db
  sound : IsSoundNow ext db

open_good : (ext : Extensions) (transaction : Option Transaction) → EachOpen (IsGood ext) transaction → MayBeOpen ext transaction
open_good ext None each = tt
open_good ext (Some t) each = record {
  lawful = each.now.lawful;
  sound = each.now.sound;
  points = All-weaker (λ (p : Point). IsGood ext p.db) (λ (p : Point). IsLawfulPoint ext p) (λ p good. record { lawful = good.lawful; sound = good.sound }) t.points each.points;
}

-- ---- commands that build
-- in a transaction they commit nothing
spent_commits : (n : ℕ) (s : State) → (with_spent n s).commits ≡ s.commits
spent_commits n s = by s.transaction
  where
    by : (transaction : Option Transaction) → (elim transaction as (λ _. State) [ None ↦ s | Some t ↦ record s { transaction = Some (record t { spent = n }) } ]).commits ≡ s.commits
    by None = refl
    by (Some t) = refl

abbrev state_of : step.Turn → State
state_of turn = turn.state

kept_commits : (s : State) (t : Transaction) (o : Outcome step.Answer) → (state_of (step.turn_of (kept s t.points) s o)).commits ≡ s.commits
kept_commits s t (Gives answer g) = refl
kept_commits s t (Stopped r trail) = spent_commits trail.spent s
kept_commits s t (NoStep trail) = refl

changing_commits : (ext : Extensions) (s : State) (picks : List Key) (work : Work step.Answer) (t : Transaction) → s.transaction ≡ Some t → (step.changing ext s picks work).state.commits ≡ s.commits
changing_commits ext s picks work t open_one =
    subst (λ (o : Option Transaction). (state_of (elim o [
      | None ↦ step.turn_of (step.commit_of s) s (step.finished ext work (going_of s picks))
      | Some u ↦ step.turn_of (kept s u.points) s (work (going_of s picks))
    ])).commits ≡ s.commits) (sym open_one) (kept_commits s t (work (going_of s picks)))

-- what the command itself costs
record IsStillOpen (s : State) : Type 0 where
  transaction : Transaction
  is : s.transaction ≡ Some transaction

up_open : (s : State) (t : Transaction) → s.transaction ≡ Some t → IsStillOpen (step.if_up s)
up_open s t open_one = by s.live s.spare s.commits s.down s.transaction open_one
  where
    by : (live spare : Codes) (commits : List Db) (down : Bool) (transaction : Option Transaction) → transaction ≡ Some t
        → IsStillOpen (step.if_up (record { live = live; spare = spare; commits = commits; transaction = transaction; down = down }))
    by live spare commits down None is = absurd (cc)
    by live spare commits true (Some u) is = record { transaction = u; is = refl }
    by live spare commits false (Some u) is = record { transaction = record u { spent = u.spent + 1 }; is = refl }

up_commits : (s : State) → (step.if_up s).commits ≡ s.commits
up_commits s = by s.live s.spare s.commits s.down s.transaction
  where
    by : (live spare : Codes) (commits : List Db) (down : Bool) (transaction : Option Transaction)
        → (step.if_up (record { live = live; spare = spare; commits = commits; transaction = transaction; down = down })).commits ≡ commits
    by live spare commits true transaction = refl
    by live spare commits false None = refl
    by live spare commits false (Some u) = refl

carried_commits : (ext : Extensions) (s : State) (c : Command) (picks : List Key) (t : Transaction) → s.transaction ≡ Some t → IsBuilding c
    → (step.carry_out ext s c picks (step.work_of ext c)).state.commits ≡ s.commits
carried_commits ext s (command.Create relation method schema key) picks t open_one is = changing_commits ext s picks (step.plainly (create ext relation method schema key)) t open_one
carried_commits ext s (command.Drop relation) picks t open_one is = changing_commits ext s picks (step.plainly (drop_relation ext relation)) t open_one
carried_commits ext s (command.Attach relation name rule) picks t open_one is = changing_commits ext s picks (step.plainly (build ext relation name rule)) t open_one
carried_commits ext s (command.Detach relation name) picks t open_one is = changing_commits ext s picks (step.plainly (detach ext relation name)) t open_one
carried_commits ext s _ picks t open_one is = absurd is

open_commits : (ext : Extensions) (s : State) (c : Command) (picks : List Key) (t : Transaction) → s.transaction ≡ Some t → IsBuilding c → (step.step ext s c picks).state.commits ≡ s.commits
open_commits ext s c picks t open_one is = by (refused ext s c) ∙ up_commits s
  where
    still : IsStillOpen (step.if_up s)
    still = up_open s t open_one

    by : (first : Option Refusal) → (step.tested ext (step.if_up s) c picks first).state.commits ≡ (step.if_up s).commits
    by (Some r) = refl
    by None = carried_commits ext (step.if_up s) c picks still.transaction still.is is

module _ (ext : Extensions) (s : State) (c : Command) (picks : List Key) (is : IsBuilding c) (state : IsLawfulState ext s) (along : IsLawfulAlong ext (step.step ext s c picks).state) where
  abbrev after : State
  after = (step.step ext s c picks).state

  lawful_ones : All (IsLawful ext) (databases after)
  lawful_ones = All-weaker (IsWellNamed ext) (IsLawful ext) (λ db named. named.lawful) (databases after) (lawful.databases-are-lawful ext after along)

  good_ones : All (IsGood ext) (databases after)
  good_ones =
      let mains : All (HoldMains ext now) (databases after) =
      (building_leaves ext now ours_now s c picks is).all (All-weaker (IsSoundNow ext) (HoldMains ext now) (λ db sound. mains_of ext now db sound) (databases s) (each_now ext s state)) in
      λ k d below. record { lawful = lawful_ones k d below; sound = all_of ext now ours_now _ (lawful_ones k d below) (mains k d below) }

  -- outside a transaction each database is that of a commit
  commits_alone : s.transaction ≡ None → All (IsSound ext) (databases s)
  commits_alone none =
      of_each (IsSound ext) s (record { commits = state.sound; open_one = subst (EachOpen (IsSound ext)) (sym none) tt })

  sound_commits : (transaction : Option Transaction) → s.transaction ≡ transaction → All (IsSound ext) after.commits
  sound_commits (Some t) open_one = subst (All (IsSound ext)) (sym (open_commits ext s c picks t open_one is)) state.sound
  sound_commits None none =
      let mains : All (HoldMains ext ours) (databases after) =
      (building_leaves ext ours all_ours s c picks is).all (All-weaker (IsSound ext) (HoldMains ext ours) (λ db sound. mains_of ext ours db sound) (databases s) (commits_alone none)) in
      (to_each (IsSound ext) after (λ k d below. all_of ext ours all_ours _ (lawful_ones k d below) (mains k d below))).commits

  built_sound : IsLawfulState ext after
  built_sound = record {
    commits = (to_each (IsLawful ext) after lawful_ones).commits;
    sound = sound_commits s.transaction refl;
    open_one = open_good ext after.transaction (to_each (IsGood ext) after good_ones).open_one;
  }

-- ---- the law
left : (ext : Extensions) (s : State) (c : Command) (picks : List Key) → IsSaid c → IsSoundAlong ext s → IsLawfulState ext (step.step ext s c picks).state → IsSoundAlong ext (step.step ext s c picks).state
left ext s c picks is sound state = record { along = lawful.steps-leave ext s c picks is sound.along; sound = state }

built : (ext : Extensions) (s : State) (c : Command) (picks : List Key) → IsSaid c → IsBuilding c → IsSoundAlong ext s → IsSoundAlong ext (step.step ext s c picks).state
built ext s c picks is builds sound = left ext s c picks is sound (built_sound ext s c picks builds sound.sound (lawful.steps-leave ext s c picks is sound.along))

on_rows : (ext : Extensions) (s : State) (c : Command) (picks : List Key) → IsSaid c → IsRowCommand c → IsSoundAlong ext s → IsSoundAlong ext (step.step ext s c picks).state
on_rows ext s c picks is row sound = left ext s c picks is sound (rows_sound ext s c picks row sound.along.lawful sound.sound)

on_none : (ext : Extensions) (s : State) (c : Command) (picks : List Key) → IsSaid c → (c ≡ command.Commit → ⊥) → step.work_of ext c ≡ None → IsSoundAlong ext s → IsSoundAlong ext (step.step ext s c picks).state
on_none ext s c picks is other works sound = left ext s c picks is sound (others-lawful ext s c picks other works sound.sound)

pub steps-leave : StepsLeaveSound
steps-leave ext s (command.Create relation method schema key) picks is sound = built ext s (command.Create relation method schema key) picks is is sound
steps-leave ext s (command.Drop relation) picks is sound = built ext s (command.Drop relation) picks is tt sound
steps-leave ext s (command.Attach relation name rule) picks is sound = built ext s (command.Attach relation name rule) picks is (is.0, is.1) sound
steps-leave ext s (command.Detach relation name) picks is sound = built ext s (command.Detach relation name) picks is is sound
steps-leave ext s (command.Insert relation values) picks is sound = on_rows ext s (command.Insert relation values) picks is is sound
steps-leave ext s (command.Delete relation at) picks is sound = on_rows ext s (command.Delete relation at) picks is tt sound
steps-leave ext s (command.Update relation at values) picks is sound = on_rows ext s (command.Update relation at values) picks is is sound
steps-leave ext s (command.Act act) picks is sound = on_rows ext s (command.Act act) picks is is sound
steps-leave ext s command.Commit picks is sound = left ext s command.Commit picks is sound (commits_sound ext s picks sound.along.lawful sound.sound)
steps-leave ext s command.Begin picks is sound = on_none ext s command.Begin picks is (λ e. absurd (cc)) refl sound
steps-leave ext s command.Abort picks is sound = on_none ext s command.Abort picks is (λ e. absurd (cc)) refl sound
steps-leave ext s (command.Savepoint name) picks is sound = on_none ext s (command.Savepoint name) picks is (λ e. absurd (cc)) refl sound
steps-leave ext s (command.Rollback name) picks is sound = on_none ext s (command.Rollback name) picks is (λ e. absurd (cc)) refl sound
steps-leave ext s (command.Register method code) picks is sound = on_none ext s (command.Register method code) picks is (λ e. absurd (cc)) refl sound
steps-leave ext s (command.Retire method code) picks is sound = on_none ext s (command.Retire method code) picks is (λ e. absurd (cc)) refl sound
steps-leave ext s command.Checkpoint picks is sound = on_none ext s command.Checkpoint picks is (λ e. absurd (cc)) refl sound
steps-leave ext s (command.Get relation at) picks is sound = on_none ext s (command.Get relation at) picks is (λ e. absurd (cc)) refl sound
steps-leave ext s (command.Scan relation after limit) picks is sound = on_none ext s (command.Scan relation after limit) picks is (λ e. absurd (cc)) refl sound
steps-leave ext s (command.Lookup relation name values) picks is sound = on_none ext s (command.Lookup relation name values) picks is (λ e. absurd (cc)) refl sound
steps-leave ext s (command.Range relation name low high) picks is sound = on_none ext s (command.Range relation name low high) picks is (λ e. absurd (cc)) refl sound
steps-leave ext s (command.Entries relation name) picks is sound = on_none ext s (command.Entries relation name) picks is (λ e. absurd (cc)) refl sound
steps-leave ext s (command.Show relation) picks is sound = on_none ext s (command.Show relation) picks is (λ e. absurd (cc)) refl sound
steps-leave ext s command.Tables picks is sound = on_none ext s command.Tables picks is (λ e. absurd (cc)) refl sound

-- ---- plays
pub plays-stay : PlaysStaySound
plays-stay ext s [] all sound = All-cons (IsSoundAlong ext) s [] sound (All-nil (IsSoundAlong ext))
plays-stay ext s (said ∷ others) all sound =
    let next : State = (step.step ext s said.0 said.1).state in
    All-cons (IsSoundAlong ext) s (passed ext next others) sound
    (plays-stay ext next others (All-tail (λ x. IsSaid x.0) said others all) (steps-leave ext s said.0 said.1 (All-head (λ x. IsSaid x.0) said others all) sound))

pub beginning-sound : (ext : Extensions) (live spare : Codes) → IsSoundAlong ext (beginning live spare)
beginning-sound ext live spare = record {
  along = lawful.beginning-along ext live spare;
  sound = record {
    commits = All-cons (IsLawful ext) [] [] (record { rising = tt; relations = All-nil _ }) (All-nil (IsLawful ext));
    sound = All-cons (IsSound ext) [] [] (All-nil _) (All-nil (IsSound ext));
    open_one = tt;
  };
}

pub plays-from-nothing : PlaysFromNothingSound
plays-from-nothing ext live spare play all = plays-stay ext (beginning live spare) play all (beginning-sound ext live spare)
