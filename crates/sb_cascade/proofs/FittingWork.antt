-- Work over a database whose rules may stand goes on with what fits.
use Rattle.std.proofs.Common.{◌≡◌, ℕ, zero, suc, ◌+◌, List, [], ◌∷◌, Option, Some, None, refl, sym, ap, subst}
use Rattle.std.specs.Prelude.{IfSome}
use Rattle.std.specs.List.{flat_map}
use Rattle.std.proofs.lemmas.List.Elements.{All-head, All-tail, All-append, All-weaker}
use Rattle.sb_rule.specs.declared.action.Action.{Action}
use Rattle.sb_rule.specs.declared.action.Action.TheVariants as action
use Rattle.sb_rule.specs.declared.change.Change.{Change}
use Rattle.sb_rule.specs.declared.rule.Rule.{Rule}
use Rattle.sb_rule.specs.Bound.{FitsSchema}
use Rattle.sb_relation.specs.Changes.{changed}
use Rattle.sb_relation.specs.Db.{Name, Key, Relation, Db, relation_at, schema_at}
use Rattle.sb_relation.specs.Fits.{relation_of}
use Rattle.sb_relation.specs.Foreign.{AttachRules}
use Rattle.sb_fold.specs.Extensions.{Extensions}
use Rattle.sb_fold.specs.Finish.{with_actions, drain_next, unless_waiting, drain, first_failing, unless_failing}
use Rattle.sb_fold.specs.Fold as fold
use Rattle.sb_fold.specs.Outcome.{Going, Work, made, continue, change_to, ◌>>=◌}
use Rattle.sb_fold.specs.Wishes.{Wish, Put, const_of, wished}
use Rattle.sb_cascade.specs.Fitting.{IsFitting, AllFit, IsFittingWish, AllMayStand, AllRowsFit, IsFittingWork}
use Rattle.sb_cascade.specs.FittingLaws.{OfGiven, ChangesGoOn, ActionsGoOn, FinishGoesOn}
use Rattle.sb_cascade.specs.Steps.{wish_there}
use Rattle.sb_cascade.proofs.FittingRows.{of_next, of_weaker, Same, rows-stay, wishes-there-fit, wished_there, fits_here, fits_after}
use Rattle.sb_cascade.proofs.Following.{all-following-fits, all-waiting-fits}
use Rattle.sb_cascade.proofs.Staying.{SameColumns, itself, then, changed_columns, still_fitting, changed_rules, still_standing}
use Rattle.sb_cascade.proofs.Wishing.{inserts-fit}

abbrev BoxOf : Type 0
BoxOf = Rule → Option AttachRules

-- the work goes on over the same columns
record Goes (box : BoxOf) (old new : Going) : Type 0 where
  work : IsFittingWork box new
  columns : SameColumns old.db new.db

goes_here : (box : BoxOf) (g : Going) → IsFittingWork box g → Goes box g g
goes_here box g work = record { work = work; columns = itself g.db }

goes_then : {box : BoxOf} {a b c : Going} → Goes box a b → Goes box b c → Goes box a c
goes_then {a = a} {b = b} {c = c} p q = record { work = q.work; columns = then a.db b.db c.db p.columns q.columns }

all_still : (db other : Db) → SameColumns db other → (actions : List Action) → AllFit db actions → AllFit other actions
all_still db other same actions all = All-weaker (IsFitting db) (IsFitting other) (λ a fits. still_fitting db other same a fits) actions all

-- ---- actions, whose changes go on so
abbrev GoOn : BoxOf → fold.Changes → Type 0
GoOn box changes = (name : Name) (wish : Wish) (g : Going) → IsFittingWork box g → IsFittingWish g.db name wish → OfGiven (λ key new. Goes box g new) (changes name wish g)

module _ (box : BoxOf) (changes : fold.Changes) (go_on : GoOn box changes) where
  if_goes : (name : Name) (wish : Option Wish) (g : Going) → IsFittingWork box g → IfSome wish (IsFittingWish g.db name) → OfGiven (λ n new. Goes box g new) (fold.change_if changes name wish g)
  if_goes name None g work fits = goes_here box g work
  if_goes name (Some wish) g work fits =
      of_next (λ key new. Goes box g new) (λ n new. Goes box g new) (changes name wish g) (λ _. made 1) (go_on name wish g work fits) (λ key new goes. goes)

  each_goes : (a : Action) (keys : List Key) (g : Going) → IsFittingWork box g → IsFitting g.db a → OfGiven (λ n new. Goes box g new) (fold.change_each changes a keys g)
  each_goes a [] g work fits = goes_here box g work
  each_goes a (key ∷ keys) g work fits =
      of_next (λ n new. Goes box g new) (λ n new. Goes box g new) (fold.change_if changes (relation_of a) (wish_there g.db a key) g)
      (λ one. (fold.change_each changes a keys >>= λ others. made (one + others)))
      (if_goes (relation_of a) (wish_there g.db a key) g work (wishes-there-fit g.db a key work.rows fits))
      (λ one mid goes.
      of_next (λ n new. Goes box mid new) (λ n new. Goes box g new) (fold.change_each changes a keys mid) (λ others. made (one + others))
      (each_goes a keys mid goes.work (still_fitting g.db mid.db goes.columns a fits)) (λ n new more. goes_then goes more))

  act_goes : (a : Action) (g : Going) → IsFittingWork box g → IsFitting g.db a → OfGiven (λ n new. Goes box g new) (fold.act changes a g)
  act_goes (action.Insert relation terms) g work fits =
      of_next (λ key new. Goes box g new) (λ n new. Goes box g new) (changes relation (Put (flat_map const_of terms)) g) (λ _. made 1)
      (go_on relation (Put (flat_map const_of terms)) g work (inserts-fit g.db relation terms fits)) (λ key new goes. goes)
  act_goes (action.Delete relation pairs) g work fits = each_goes (action.Delete relation pairs) (fold.matching g.db (action.Delete relation pairs)) g work fits
  act_goes (action.Set relation column term pairs) g work fits =
      each_goes (action.Set relation column term pairs) (fold.matching g.db (action.Set relation column term pairs)) g work fits
  act_goes (action.Add relation column term pairs) g work fits =
      each_goes (action.Add relation column term pairs) (fold.matching g.db (action.Add relation column term pairs)) g work fits

  act_all_goes : (actions : List Action) (g : Going) → IsFittingWork box g → AllFit g.db actions → OfGiven (λ _ new. Goes box g new) (fold.act_all changes actions g)
  act_all_goes [] g work fits = goes_here box g work
  act_all_goes (a ∷ actions) g work fits =
      of_next (λ n new. Goes box g new) (λ _ new. Goes box g new) (fold.act changes a g) (λ _. fold.act_all changes actions) (act_goes a g work (All-head (IsFitting g.db) a actions fits))
      (λ n mid goes.
      of_weaker (λ _ new. Goes box mid new) (λ _ new. Goes box g new) (fold.act_all changes actions mid)
      (act_all_goes actions mid goes.work (all_still g.db mid.db goes.columns actions (All-tail (IsFitting g.db) a actions fits))) (λ _ new more. goes_then goes more))

  -- ---- what the attachments make of a change
  queued : (name : Name) (c : Change) (g : Going) → IsFittingWork box g → FitsSchema (schema_at g.db name) c → IsFittingWork box (fold.queue_late name c g)
  queued name c g work fits = record {
    rules = work.rules;
    rows = work.rows;
    waits = All-append (IsFitting g.db) g.queue.actions (fold.waiting_actions g.db name c) work.waits (all-waiting-fits box g.db name c work.rules fits);
  }

  answer_goes : (ext : Extensions) (name : Name) (c : Change) (g : Going) → IsFittingWork box g → FitsSchema (schema_at g.db name) c
      → OfGiven (λ key new. Goes box g new) (fold.answer_change ext changes name c g)
  answer_goes ext name c g work fits = of_veto (fold.vetoing ext g.db name c (fold.attachments_at g.db name))
    where
      late : Going
      late = fold.queue_late name c g

      of_veto : (veto : Option Name) → OfGiven (λ key new. Goes box g new)
          (continue (λ _. (change_to (fold.queue_late name c) >>= λ _. ((λ going. fold.act_all changes (fold.following going.db name c) going) >>= λ _. made (fold.key_after c))))
          (fold.unless_vetoed name veto g))
      of_veto (Some attachment) = tt
      of_veto None =
          of_next (λ _ new. Goes box late new) (λ key new. Goes box g new) (fold.act_all changes (fold.following g.db name c) late) (λ _. made (fold.key_after c))
          (act_all_goes (fold.following g.db name c) late (queued name c g work fits) (all-following-fits box g.db name c work.rules fits))
          (λ _ new goes. record { work = goes.work; columns = goes.columns })

-- ---- one change
moved : (box : BoxOf) (g mid : Going) → Same g mid → IsFittingWork box g → IsFittingWork box mid
moved box g mid same work = record {
  rules = subst (AllMayStand box) (sym same.db) work.rules;
  rows = subst AllRowsFit (sym same.db) work.rows;
  waits = transport_both g.db mid.db g.queue.actions mid.queue.actions (sym same.db) (ap (λ q. q.actions) (sym same.queue)) work.waits;
}
  where
    transport_both : (db other : Db) (actions others : List Action) → db ≡ other → actions ≡ others → AllFit db actions → AllFit other others
    transport_both db other actions others p q all = subst (AllFit other) q (subst (λ (d : Db). AllFit d actions) p all)

reached : (box : BoxOf) (ext : Extensions) (name : Name) (r : Relation) (c : Change) (g : Going) → IsFittingWork box g → FitsSchema (schema_at g.db name) c
    → IsFittingWork box (fold.reach_change ext name r c g)
reached box ext name r c g work fits =
    let columns : SameColumns g.db (changed g.db name c) = changed_columns g.db name c in
    record {
      rules = still_standing box g.db (changed g.db name c) columns (changed_rules g.db name c) work.rules;
      rows = rows-stay g.db name c work.rows fits;
      waits = all_still g.db (changed g.db name c) columns g.queue.actions work.waits;
    }

one_goes : (box : BoxOf) (ext : Extensions) (below : fold.Changes) → GoOn box below → (name : Name) (wish : Wish) (g : Going) (o : Option Relation) → relation_at g.db name ≡ o → IsFittingWork box g
    → IsFittingWish g.db name wish → OfGiven (λ key new. Goes box g new) (fold.one_change ext below name wish o g)
one_goes box ext below go_on name wish g None there work fits = tt
one_goes box ext below go_on name wish g (Some r) there work fits =
    of_next (λ c mid. FitsSchema r.schema c × Same g mid) (λ key new. Goes box g new) (wished name r wish g)
    (λ c. (change_to (fold.reach_change ext name r c) >>= λ _. fold.answer_change ext below name c)) (wished_there name r wish g there work.rows fits)
    (λ c mid is.
    let here : FitsSchema (schema_at mid.db name) c = fits_here g mid name r c there is.0 is.1 in
    of_weaker (λ key new. Goes box (fold.reach_change ext name r c mid) new) (λ key new. Goes box g new) (fold.answer_change ext below name c (fold.reach_change ext name r c mid))
    (answer_goes box below go_on ext name c (fold.reach_change ext name r c mid) (reached box ext name r c mid (moved box g mid is.1 work) here) (fits_after mid.db name c here))
    (λ key new goes. record {
      work = goes.work;
      columns = then g.db (changed mid.db name c) new.db (subst (λ (d : Db). SameColumns d (changed mid.db name c)) is.1.db (changed_columns mid.db name c)) goes.columns;
    }))

within_goes : (box : BoxOf) (ext : Extensions) (levels : ℕ) → GoOn box (fold.change_within ext levels)
within_goes box ext zero name wish g work fits = tt
within_goes box ext (suc levels) name wish g work fits =
    one_goes box ext (fold.change_within ext levels) (within_goes box ext levels) name wish g (relation_at g.db name) refl work fits

pub changes-go-on : ChangesGoOn
changes-go-on box ext levels name wish g work fits =
    of_weaker (λ key new. Goes box g new) (λ key new. IsFittingWork box new) (fold.change_within ext levels name wish g) (within_goes box ext levels name wish g work fits) (λ key new goes. goes.work)

pub actions-go-on : ActionsGoOn
actions-go-on box ext levels a g work fits =
    of_weaker (λ n new. Goes box g new) (λ n new. IsFittingWork box new) (fold.act (fold.change_within ext levels) a g)
    (act_goes box (fold.change_within ext levels) (within_goes box ext levels) a g work fits) (λ n new goes. goes.work)

-- ---- before a commit
abbrev DrainsOn : BoxOf → Work (Unit {0}) → Type 0
DrainsOn box work = (g : Going) → IsFittingWork box g → OfGiven (λ _ new. IsFittingWork box new) (work g)

waiting_goes : (box : BoxOf) (ext : Extensions) (rest : Work (Unit {0})) → DrainsOn box rest → (actions : List Action) (g : Going) → IsFittingWork box g → AllFit g.db actions
    → OfGiven (λ _ new. IsFittingWork box new) (drain_next (fold.first_change ext) rest actions g)
waiting_goes box ext rest goes [] g work waits = work
waiting_goes box ext rest goes (a ∷ actions) g work waits =
    of_next (λ n new. IsFittingWork box new) (λ _ new. IsFittingWork box new) (fold.act (fold.first_change ext) a (with_actions actions g)) (λ _. rest)
    (actions-go-on box ext 16 a (with_actions actions g) (record { rules = work.rules; rows = work.rows; waits = All-tail (IsFitting g.db) a actions waits }) (All-head (IsFitting g.db) a actions waits))
    (λ n new left. goes new left)

drain_goes : (box : BoxOf) (ext : Extensions) (most : ℕ) → DrainsOn box (drain ext most)
drain_goes box ext zero g work = of_waiting g.queue.actions
  where
    of_waiting : (actions : List Action) → OfGiven (λ _ new. IsFittingWork box new) (unless_waiting actions g)
    of_waiting [] = work
    of_waiting (a ∷ actions) = tt
drain_goes box ext (suc most) g work = waiting_goes box ext (drain ext most) (drain_goes box ext most) g.queue.actions g work work.waits

pub finish-goes-on : FinishGoesOn
finish-goes-on box ext g work =
    of_next (λ _ new. IsFittingWork box new) (λ _ new. IsFittingWork box new) (drain ext 1000 g) (λ _ going. unless_failing (first_failing ext going.db going.db) going)
    (drain_goes box ext 1000 g work) (λ _ new left. of_failing new left (first_failing ext new.db new.db))
  where
    of_failing : (new : Going) → IsFittingWork box new → (failing : Option (Name × Name)) → OfGiven (λ _ left. IsFittingWork box left) (unless_failing failing new)
    of_failing new left None = left
    of_failing new left (Some (relation, name)) = tt
