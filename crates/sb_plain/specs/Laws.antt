-- What holds of every step.
use Rattle.std.specs.Prelude.{◌≡◌, ℕ, List, [], ◌∷◌, ◌++◌, ◌⊎◌, false, Some, None}
use Rattle.sb_rule.specs.declared.change.Change.{Change}
use Rattle.sb_relation.specs.Changes.{changed}
use Rattle.sb_relation.specs.Db.{Name, Key, Relation, Db, relation_at}
use Rattle.sb_fold.specs.declared.refusal.Refusal.{Refusal}
use Rattle.sb_fold.specs.Extensions.{Extensions}
use Rattle.sb_fold.specs.Fold.{attachments_at, vetoing}
use Rattle.sb_plain.specs.declared.command.Command.{Command}
use Rattle.sb_plain.specs.declared.command.Command.TheVariants as command
use Rattle.sb_plain.specs.declared.reply.Reply.TheVariants.{Refused}
use Rattle.sb_plain.specs.Lawful.{IsChangeOf, IsLawful, IsSoundNow, AreAlone, IsRowCommand, IsLawfulState}
use Rattle.sb_plain.specs.State.{State, view, has_waiting, with_spent}
use Rattle.sb_plain.specs.Step.{work_of, step}

-- the state, but for what was spent
pub record IsLeft (s : State) (t : State) : Type 0 where
  pub spent : ℕ
  pub is : t ≡ with_spent spent s

-- a command that is refused leaves the state, unless it is a commit
abbrev pub RefusedLeaves : Type 0
RefusedLeaves =
    (ext : Extensions) (s : State) (c : Command) (picks : List Key) (r : Refusal) → (c ≡ command.Commit → ⊥)
    → (step ext s c picks).reply ≡ Some (Refused r) → IsLeft s (step ext s c picks).state

-- a step adds one commit or none
abbrev pub AddsOne : State → State → Type 0
AddsOne s t = (t.commits ≡ s.commits) ⊎ ((db : Db) × (t.commits ≡ s.commits ++ db ∷ []))

abbrev pub OneCommitAtMost : Type 0
OneCommitAtMost = (ext : Extensions) (s : State) (c : Command) (picks : List Key) → AddsOne s (step ext s c picks).state

-- ---- lawful states
-- a command that works on no database, and is no commit, leaves a lawful state
abbrev pub OthersLeaveLawful : Type 0
OthersLeaveLawful =
    (ext : Extensions) (s : State) (c : Command) (picks : List Key) → (c ≡ command.Commit → ⊥) → work_of ext c ≡ None
    → IsLawfulState ext s → IsLawfulState ext (step ext s c picks).state

-- so does a command that is refused, a commit too
abbrev pub RefusedLeavesLawful : Type 0
RefusedLeavesLawful =
    (ext : Extensions) (s : State) (c : Command) (picks : List Key) (r : Refusal)
    → (step ext s c picks).reply ≡ Some (Refused r) → IsLawfulState ext s → IsLawfulState ext (step ext s c picks).state

-- and a commit for which no action waits
abbrev pub CommitLeavesLawful : Type 0
CommitLeavesLawful =
    (ext : Extensions) (s : State) (picks : List Key) → has_waiting s ≡ false → IsLawfulState ext s → IsLawfulState ext (step ext s command.Commit picks).state

-- a change whose new row the relation may have leaves a lawful database
abbrev pub ChangesLeaveLawful : Type 0
ChangesLeaveLawful =
    (ext : Extensions) (db : Db) (name : Name) (r : Relation) (c : Change) → relation_at db name ≡ Some r → IsChangeOf r c → IsLawful ext db
    → IsLawful ext (changed db name c)

-- a change of a relation whose rules are alone, and that no attachment vetoes, leaves what isn't deferred sound
abbrev pub ChangesKeepSound : Type 0
ChangesKeepSound =
    (ext : Extensions) (db : Db) (name : Name) (r : Relation) (c : Change) → relation_at db name ≡ Some r → AreAlone r → IsLawful ext db → IsSoundNow ext db
    → vetoing ext (changed db name c) name c (attachments_at (changed db name c) name) ≡ None → IsSoundNow ext (changed db name c)

-- so a command on rows of such a relation leaves a lawful state
abbrev pub RowsLeaveLawful : Type 0
RowsLeaveLawful =
    (ext : Extensions) (s : State) (c : Command) (picks : List Key) → IsRowCommand (view s) c
    → IsLawfulState ext s → IsLawfulState ext (step ext s c picks).state
