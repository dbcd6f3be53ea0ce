-- The law of steps, and of plays.
use Rattle.std.proofs.Common.{◌≡◌, List, [], ◌∷◌, Option, Some, None, refl}
use Rattle.std.specs.Prelude.{All}
use Rattle.std.proofs.lemmas.List.Elements.{All-nil, All-cons, All-head, All-tail, All-weaker}
use Rattle.sb_relation.specs.Db.{Key, Db}
use Rattle.sb_fold.specs.Extensions.{Extensions}
use Rattle.sb_plain.specs.declared.command.Command.{Command}
use Rattle.sb_plain.specs.declared.command.Command.TheVariants as command
use Rattle.sb_plain.specs.Lawful.{IsLawful}
use Rattle.sb_plain.specs.State.{Codes, Point, Transaction, State, view}
use Rattle.sb_plain.specs.Step.{step, work_of}
use Rattle.sb_lawful.specs.Laws.{databases, HasDotlessNames, IsWellNamed, IsBuilding}
use Rattle.sb_lawful.proofs.Commands.{lawful_empty}
use Rattle.sb_lawful.proofs.Naming.{building-leaves}
use Rattle.sb_lawful.proofs.Steps.{of_view}
use Rattle.sb_lawful_rows.specs.States.{IsRowCommand, IsBuildingCommand, MayBeOpen, HasLawfulDatabases}
use Rattle.sb_lawful_rows.specs.Work.{IsLawfulWith}
use Rattle.sb_lawful_rows.proofs.Building as rows
use Rattle.sb_lawful_rows.proofs.Stepping.{rows-step, commits-step, others-step}
use Rattle.sb_lawful_steps.specs.Laws.{IsSaid, IsLawfulAlong, StepsLeaveLawful, DatabasesAreLawful, passed, beginning, PlaysStayLawful, PlaysFromNothing}
use Rattle.sb_lawful_steps.proofs.Names.{names_stay, no_names}
use Rattle.sb_lawful_steps.proofs.States.{EachOpen, Each, BuildsNothing, to_each, of_each, step_keeps}

-- ---- the databases of a lawful state
lawful_open : (ext : Extensions) (transaction : Option Transaction) → MayBeOpen ext transaction → EachOpen (IsLawful ext) transaction
lawful_open ext None open_one = tt
lawful_open ext (Some t) open_one = record {
  now = open_one.stands.lawful;
  points = All-weaker (λ (p : Point). IsLawfulWith ext p.db p.queue.actions) (λ (p : Point). IsLawful ext p.db) (λ p with_it. with_it.lawful) t.points open_one.points;
}

lawful_each : (ext : Extensions) (s : State) → HasLawfulDatabases ext s → Each (IsLawful ext) s
lawful_each ext s lawful = record {
  commits = All-weaker (λ (db : Db). IsLawfulWith ext db []) (IsLawful ext) (λ db with_it. with_it.lawful) s.commits lawful.commits;
  open_one = lawful_open ext s.transaction lawful.open_one;
}

pub databases-are-lawful : DatabasesAreLawful
databases-are-lawful ext s along =
    let lawful : All (IsLawful ext) (databases s) = of_each (IsLawful ext) s (lawful_each ext s along.lawful) in
    λ k d below. record { lawful = lawful k d below; names = along.names k d below }

-- ---- commands that build
well_named_empty : (ext : Extensions) → IsWellNamed ext []
well_named_empty ext = record { lawful = lawful_empty ext; names = no_names }

built : (ext : Extensions) (s : State) (c : Command) (picks : List Key) → IsBuilding c → IsBuildingCommand c → IsLawfulAlong ext s → IsLawfulAlong ext (step ext s c picks).state
built ext s c picks named puts along =
    let t : State = (step ext s c picks).state in
    let all : All (IsWellNamed ext) (databases t) = (building-leaves ext s c picks named).all (databases-are-lawful ext s along) in
    let seen : IsWellNamed ext (view t) = of_view (IsWellNamed ext) (well_named_empty ext) t all in
    record {
      lawful = rows.building-leaves ext s c picks puts seen.lawful along.lawful;
      names = All-weaker (IsWellNamed ext) HasDotlessNames (λ db named. named.names) (databases t) all;
    }

-- ---- all others
others_named : (ext : Extensions) (s : State) (c : Command) (picks : List Key) → BuildsNothing c → IsLawfulAlong ext s → All HasDotlessNames (databases (step ext s c picks).state)
others_named ext s c picks none along =
    of_each HasDotlessNames (step ext s c picks).state (step_keeps HasDotlessNames no_names names_stay ext s c picks none (to_each HasDotlessNames s along.names))

on_rows : (ext : Extensions) (s : State) (c : Command) (picks : List Key) → IsRowCommand c → BuildsNothing c → IsLawfulAlong ext s → IsLawfulAlong ext (step ext s c picks).state
on_rows ext s c picks is none along = record { lawful = (rows-step ext s c picks is along.lawful).state; names = others_named ext s c picks none along }

on_none : (ext : Extensions) (s : State) (c : Command) (picks : List Key) → (c ≡ command.Commit → ⊥) → work_of ext c ≡ None → BuildsNothing c → IsLawfulAlong ext s
    → IsLawfulAlong ext (step ext s c picks).state
on_none ext s c picks other works none along = record { lawful = (others-step ext s c picks other works along.lawful).state; names = others_named ext s c picks none along }

-- ---- the law
pub steps-leave : StepsLeaveLawful
steps-leave ext s (command.Create relation method schema key) picks is along = built ext s (command.Create relation method schema key) picks is tt along
steps-leave ext s (command.Drop relation) picks is along = built ext s (command.Drop relation) picks tt tt along
steps-leave ext s (command.Attach relation name rule) picks is along = built ext s (command.Attach relation name rule) picks (is.0, is.1) is.2 along
steps-leave ext s (command.Detach relation name) picks is along = built ext s (command.Detach relation name) picks is tt along
steps-leave ext s (command.Insert relation values) picks is along = on_rows ext s (command.Insert relation values) picks is tt along
steps-leave ext s (command.Delete relation at) picks is along = on_rows ext s (command.Delete relation at) picks tt tt along
steps-leave ext s (command.Update relation at values) picks is along = on_rows ext s (command.Update relation at values) picks is tt along
steps-leave ext s (command.Act act) picks is along = on_rows ext s (command.Act act) picks is tt along
steps-leave ext s command.Commit picks is along = record { lawful = (commits-step ext s picks along.lawful).state; names = others_named ext s command.Commit picks tt along }
steps-leave ext s command.Begin picks is along = on_none ext s command.Begin picks (λ e. absurd (cc)) refl tt along
steps-leave ext s command.Abort picks is along = on_none ext s command.Abort picks (λ e. absurd (cc)) refl tt along
steps-leave ext s (command.Savepoint name) picks is along = on_none ext s (command.Savepoint name) picks (λ e. absurd (cc)) refl tt along
steps-leave ext s (command.Rollback name) picks is along = on_none ext s (command.Rollback name) picks (λ e. absurd (cc)) refl tt along
steps-leave ext s (command.Register method code) picks is along = on_none ext s (command.Register method code) picks (λ e. absurd (cc)) refl tt along
steps-leave ext s (command.Retire method code) picks is along = on_none ext s (command.Retire method code) picks (λ e. absurd (cc)) refl tt along
steps-leave ext s command.Checkpoint picks is along = on_none ext s command.Checkpoint picks (λ e. absurd (cc)) refl tt along
steps-leave ext s (command.Get relation at) picks is along = on_none ext s (command.Get relation at) picks (λ e. absurd (cc)) refl tt along
steps-leave ext s (command.Scan relation after limit) picks is along = on_none ext s (command.Scan relation after limit) picks (λ e. absurd (cc)) refl tt along
steps-leave ext s (command.Lookup relation name values) picks is along = on_none ext s (command.Lookup relation name values) picks (λ e. absurd (cc)) refl tt along
steps-leave ext s (command.Range relation name low high) picks is along = on_none ext s (command.Range relation name low high) picks (λ e. absurd (cc)) refl tt along
steps-leave ext s (command.Entries relation name) picks is along = on_none ext s (command.Entries relation name) picks (λ e. absurd (cc)) refl tt along
steps-leave ext s (command.Show relation) picks is along = on_none ext s (command.Show relation) picks (λ e. absurd (cc)) refl tt along
steps-leave ext s command.Tables picks is along = on_none ext s command.Tables picks (λ e. absurd (cc)) refl tt along

-- ---- plays
pub plays-stay : PlaysStayLawful
plays-stay ext s [] all along = All-cons (IsLawfulAlong ext) s [] along (All-nil (IsLawfulAlong ext))
plays-stay ext s (said ∷ others) all along =
    let next : State = (step ext s said.0 said.1).state in
    All-cons (IsLawfulAlong ext) s (passed ext next others) along
    (plays-stay ext next others (All-tail (λ x. IsSaid x.0) said others all) (steps-leave ext s said.0 said.1 (All-head (λ x. IsSaid x.0) said others all) along))

pub beginning-along : (ext : Extensions) (live spare : Codes) → IsLawfulAlong ext (beginning live spare)
beginning-along ext live spare = record {
  lawful = record {
    commits = All-cons (λ (db : Db). IsLawfulWith ext db []) [] [] (record { lawful = lawful_empty ext; triggers = All-nil _; waiting = All-nil _ }) (All-nil (λ (db : Db). IsLawfulWith ext db []));
    open_one = tt;
  };
  names = All-cons HasDotlessNames [] [] no_names (All-nil HasDotlessNames);
}

pub plays-from-nothing : PlaysFromNothing
plays-from-nothing ext live spare play all = plays-stay ext (beginning live spare) play all (beginning-along ext live spare)
