-- Steps of commands on rows, and of commits, leave a state whose rules hold.
use Rattle.std.proofs.Common.{◌≡◌, true, List, [], ◌∷◌, Option, Some, None, refl, sym, subst}
use Rattle.std.proofs.lemmas.List.Elements.{All-nil, All-cons, All-append}
use Rattle.sb_value.specs.Fits.{first_misfit}
use Rattle.sb_value.proofs.Truths.{is_none-none}
use Rattle.sb_relation.specs.Db.{Name, Key, Db, schema_at}
use Rattle.sb_relation.specs.Fits.{first_missing}
use Rattle.sb_fold.specs.declared.refusal.Refusal.{Refusal}
use Rattle.sb_fold.specs.Extensions.{Extensions}
use Rattle.sb_fold.specs.Finish.{finish}
use Rattle.sb_fold.specs.Fold.{act, first_change}
use Rattle.sb_fold.specs.Laws.{OfMade}
use Rattle.sb_fold.specs.Outcome.{Going, Outcome, Gives, Stopped, NoStep, Work, made, continue, begun}
use Rattle.sb_fold.specs.Wishes.{Wish, Put, Remove, Replace}
use Rattle.sb_cascade.proofs.FittingTerms.{fitting}
use Rattle.sb_plain.specs.declared.command.Command.{Command}
use Rattle.sb_plain.specs.declared.command.Command.TheVariants as command
use Rattle.sb_plain.specs.Lawful.{IsLawful, IsSound, MayBeOpen, IsLawfulState}
use Rattle.sb_plain.specs.Refusing.{refused, is_well_kinded, relations_of}
use Rattle.sb_plain.specs.State.{Transaction, State, committed, view, no_queue, none_gone, going_of, kept, ended}
use Rattle.sb_plain.specs.Step as step
use Rattle.sb_plain.proofs.LawfulLemmas.{lawful_with, lawful_spent, lawful_up, in_sound}
use Rattle.sb_lawful.proofs.Commands.{is_there, is_kinded}
use Rattle.sb_lawful_rows.specs.States.{IsRowCommand, HasLawfulDatabases}
use Rattle.sb_lawful_rows.specs.Work.{IsWishOf, MayAct, IsLawfulPoint, IsLawfulTrail}
use Rattle.sb_lawful_rows.proofs.Stepping.{freed_goes, when_up, start_may, sees}
use Rattle.sb_sound_rows.specs.Work.{IsSoundWork, IsReady}
use Rattle.sb_sound_rows.proofs.Folding.{changes-end, actions-end}
use Rattle.sb_sound_rows.proofs.Finishing.{made_next, finish-ends}

-- ---- what work begins with
abbrev going_in : State → Option Transaction → List Key → Going
going_in s transaction picks = elim transaction [ None ↦ begun (committed s) no_queue none_gone 1 picks | Some t ↦ begun t.db t.queue t.gone t.spent picks ]

no_trail : (ext : Extensions) (s : State) (transaction : Option Transaction) (picks : List Key) → IsLawfulTrail ext (going_in s transaction picks).trail
no_trail ext s None picks = All-nil (IsLawfulPoint ext)
no_trail ext s (Some t) picks = All-nil (IsLawfulPoint ext)

pub begins_sound : (ext : Extensions) (s : State) (picks : List Key) → HasLawfulDatabases ext s → IsLawfulState ext s → IsSoundWork ext (going_of s picks)
begins_sound ext s picks lawful state = record {
  work = record { stands = start_may ext s picks lawful; trail = no_trail ext s s.transaction picks };
  sound = in_sound ext s s.transaction picks state state.open_one;
}

-- ---- turns
abbrev state_of : step.Turn → State
state_of turn = turn.state

of_turn : (ext : Extensions) (P : Going → Type 0) (leave : Going → State) (otherwise : State) (o : Outcome step.Answer) → OfMade P o → ((g : Going) → P g → IsLawfulState ext (leave g)) → IsLawfulState ext otherwise
    → IsLawfulState ext (state_of (step.turn_of leave otherwise o))
of_turn ext P leave otherwise (Gives answer g) given leaves other = leaves g given
of_turn ext P leave otherwise (Stopped r trail) given leaves other = lawful_spent ext trail.spent otherwise other
of_turn ext P leave otherwise (NoStep trail) given leaves other = other

when_committed : (ext : Extensions) (s : State) (g : Going) → IsLawfulState ext s → IsReady ext g → IsLawfulState ext (step.commit_of s g)
when_committed ext s g state ready = record {
  commits = All-append (IsLawful ext) s.commits (g.db ∷ []) state.commits (All-cons (IsLawful ext) g.db [] ready.work.stands.lawful (All-nil (IsLawful ext)));
  sound = All-append (IsSound ext) s.commits (g.db ∷ []) state.sound (All-cons (IsSound ext) g.db [] ready.sound (All-nil (IsSound ext)));
  open_one = tt;
}

of_finished : (ext : Extensions) (work : Work step.Answer) (g : Going) → OfMade (IsSoundWork ext) (work g) → OfMade (IsReady ext) (step.finished ext work g)
of_finished ext work g given =
    made_next (IsSoundWork ext) (IsReady ext) (work g) (λ answer. (λ mid. continue (λ _. step.freeing answer) (finish ext mid))) given
    (λ answer mid sound. made_next (IsReady ext) (IsReady ext) (finish ext mid) (λ _. step.freeing answer) (finish-ends ext mid sound) (λ _ last ready. record { work = freed_goes ext last ready.work; sound = ready.sound }))

in_changing : (ext : Extensions) (s : State) (picks : List Key) (work : Work step.Answer) (transaction : Option Transaction) → IsLawfulState ext s → MayBeOpen ext transaction
    → OfMade (IsSoundWork ext) (work (going_of s picks))
    → IsLawfulState ext (state_of (elim transaction [
      | None ↦ step.turn_of (step.commit_of s) s (step.finished ext work (going_of s picks))
      | Some t ↦ step.turn_of (kept s t.points) s (work (going_of s picks))
    ]))
in_changing ext s picks work None state open_one given =
    of_turn ext (IsReady ext) (step.commit_of s) s (step.finished ext work (going_of s picks)) (of_finished ext work (going_of s picks) given) (λ g ready. when_committed ext s g state ready) state
in_changing ext s picks work (Some t) state open_one given =
    of_turn ext (IsSoundWork ext) (kept s t.points) s (work (going_of s picks)) given
    (λ g sound. lawful_with ext s _ state (record { lawful = sound.work.stands.lawful; sound = sound.sound; points = open_one.points })) state

pub changing_sound : (ext : Extensions) (s : State) (picks : List Key) (work : Work step.Answer) → IsLawfulState ext s → OfMade (IsSoundWork ext) (work (going_of s picks))
    → IsLawfulState ext (step.changing ext s picks work).state
changing_sound ext s picks work state given = in_changing ext s picks work s.transaction state state.open_one given

-- ---- commands on rows
module _ (ext : Extensions) (s : State) (picks : List Key) (lawful : HasLawfulDatabases ext (step.if_up s)) (state : IsLawfulState ext (step.if_up s)) where
  abbrev start : Going
  start = going_of (step.if_up s) picks

  wish_works : (relation : Name) (wish : Wish) → IsWishOf (schema_at (view s) relation) wish → OfMade (IsSoundWork ext) (first_change ext relation wish start)
  wish_works relation wish is =
      changes-end ext 16 relation wish start (begins_sound ext (step.if_up s) picks lawful state) (subst (λ (d : Db). IsWishOf (schema_at d relation) wish) (sym (sees s picks)) is)

  keyed_turn : (relation : Name) (wish : Wish) → IsWishOf (schema_at (view s) relation) wish
      → IsLawfulState ext (step.changing ext (step.if_up s) picks (step.with_key relation (first_change ext relation wish))).state
  keyed_turn relation wish is =
      changing_sound ext (step.if_up s) picks (step.with_key relation (first_change ext relation wish)) state
      (made_next (IsSoundWork ext) (IsSoundWork ext) (first_change ext relation wish start) (λ key. λ going. made (step.row_answer going.db relation key) going) (wish_works relation wish is)
      (λ key g sound. sound))

  row_turn : (c : Command) → IsRowCommand c → first_missing (view s) (relations_of c) ≡ None → is_well_kinded ext (view s) c ≡ true
      → IsLawfulState ext (step.carry_out ext (step.if_up s) c picks (step.work_of ext c)).state
  row_turn (command.Insert relation values) is there fits = keyed_turn relation (Put values) (is, is_none-none (first_misfit (schema_at (view s) relation) values) fits)
  row_turn (command.Delete relation at) is there fits =
      changing_sound ext (step.if_up s) picks (step.plainly (first_change ext relation (Remove at))) state
      (made_next (IsSoundWork ext) (IsSoundWork ext) (first_change ext relation (Remove at) start) (λ _. made step.Plain) (wish_works relation (Remove at) tt) (λ key g sound. sound))
  row_turn (command.Update relation at values) is there fits = keyed_turn relation (Replace at values) (is, is_none-none (first_misfit (schema_at (view s) relation) values) fits)
  row_turn (command.Act a) is there fits =
      changing_sound ext (step.if_up s) picks (λ going. continue (λ n. made (step.Counts n)) (act (first_change ext) a going)) state
      (made_next (IsSoundWork ext) (IsSoundWork ext) (act (first_change ext) a start) (λ n. made (step.Counts n))
      (actions-end ext 16 a start (begins_sound ext (step.if_up s) picks lawful state)
      (subst (λ (d : Db). MayAct d a) (sym (sees s picks)) (record { fits = fitting (view s) a there fits; puts = is }))) (λ n g sound. sound))
  row_turn _ is there fits = absurd is

row_tested : (ext : Extensions) (s : State) (c : Command) (picks : List Key) (first : Option Refusal) → refused ext s c ≡ first → IsRowCommand c → HasLawfulDatabases ext (step.if_up s)
    → IsLawfulState ext (step.if_up s) → IsLawfulState ext (step.tested ext (step.if_up s) c picks first).state
row_tested ext s c picks None none is lawful state = row_turn ext s picks lawful state c is (is_there ext s c none) (is_kinded ext s c none)
row_tested ext s c picks (Some r) none is lawful state = state

pub rows_sound : (ext : Extensions) (s : State) (c : Command) (picks : List Key) → IsRowCommand c → HasLawfulDatabases ext s → IsLawfulState ext s → IsLawfulState ext (step.step ext s c picks).state
rows_sound ext s c picks is lawful state = row_tested ext s c picks (refused ext s c) refl is (when_up ext s lawful) (lawful_up ext s state)

-- ---- commits
committing_sound : (ext : Extensions) (s : State) (picks : List Key) → HasLawfulDatabases ext s → IsLawfulState ext s → IsLawfulState ext (step.committing ext s picks).state
committing_sound ext s picks lawful state =
    of_turn ext (IsReady ext) (step.commit_of s) (ended s) (step.finished ext (made step.Plain) (going_of s picks))
    (of_finished ext (made step.Plain) (going_of s picks) (begins_sound ext s picks lawful state)) (λ g ready. when_committed ext s g state ready) (lawful_with ext s None state tt)

commit_tested : (ext : Extensions) (s : State) (picks : List Key) (first : Option Refusal) → HasLawfulDatabases ext s → IsLawfulState ext s
    → IsLawfulState ext (step.tested ext s command.Commit picks first).state
commit_tested ext s picks None lawful state = committing_sound ext s picks lawful state
commit_tested ext s picks (Some r) lawful state = state

pub commits_sound : (ext : Extensions) (s : State) (picks : List Key) → HasLawfulDatabases ext s → IsLawfulState ext s → IsLawfulState ext (step.step ext s command.Commit picks).state
commits_sound ext s picks lawful state = commit_tested ext (step.if_up s) picks (refused ext s command.Commit) (when_up ext s lawful) (lawful_up ext s state)
