-- Work over lawful databases goes on over lawful ones.
use Rattle.std.proofs.Common.{◌≡◌, ℕ, zero, suc, ◌+◌, Bool, true, false, cond, List, [], ◌∷◌, Option, Some, None, refl, sym, ap, subst, ◌∙◌}
use Rattle.std.specs.Prelude.{All, IfSome}
use Rattle.std.specs.List.{flat_map}
use Rattle.std.proofs.lemmas.List.Elements.{All-nil, All-cons, All-head, All-tail, All-append, All-weaker}
use Rattle.sb_value.specs.declared.schema.Column.{Column}
use Rattle.sb_rule.specs.declared.action.Action.{Action}
use Rattle.sb_rule.specs.declared.action.Action.TheVariants as action
use Rattle.sb_rule.specs.declared.change.Change.{Change}
use Rattle.sb_rule.specs.declared.change.Change.TheVariants as change
use Rattle.sb_relation.specs.Changes.{changed}
use Rattle.sb_relation.specs.Db.{Name, Key, Row, Rows, Relation, Db, relation_at, row_at, schema_at}
use Rattle.sb_relation.specs.Fits.{relation_of}
use Rattle.sb_relation.specs.Lawful.{IsRow}
use Rattle.sb_fold.specs.Extensions.{Extensions}
use Rattle.sb_fold.specs.Finish.{with_actions, drain_next, unless_waiting, drain, first_failing, unless_failing, finish}
use Rattle.sb_fold.specs.Fold as fold
use Rattle.sb_fold.specs.Outcome.{Going, Work, made, continue, change_to, ◌>>=◌}
use Rattle.sb_fold.specs.Wishes.{Wish, Put, const_of, is_match, pairs_of, wish_of, wished}
use Rattle.sb_cascade.specs.Steps.{wish_there}
use Rattle.sb_cascade.proofs.FittingRows.{schema-there}
use Rattle.sb_cascade.proofs.Staying.{SameColumns, itself, then, changed_columns, still_fitting}
use Rattle.sb_plain.specs.Lawful.{IsRowOf, IsLawfulRelation, IsLawful}
use Rattle.sb_plain.proofs.ChangeLemmas.{changes-lawful}
use Rattle.sb_plain.proofs.SoundLemmas.{all_at}
use Rattle.sb_lawful_rows.specs.Laws.{ChangesEndLawful, ActionsEndLawful, FinishEndsLawful}
use Rattle.sb_lawful_rows.specs.Work.{IsWishOf, MayAct, IsLawfulWith, IsLawfulPoint, IsLawfulTrail, IsLawfulWork}
use Rattle.sb_lawful_rows.proofs.Following.{following_brings, waiting_may, triggers_stay}
use Rattle.sb_lawful_rows.proofs.Storing.{HasRows, Brings, still_brings, may_bring, wish_brought}
use Rattle.sb_lawful_rows.proofs.Wishing.{OfEnd, of_next, of_weaker, ends, Same, IsMade, wished_ok}

-- the work goes on over the same columns
record Goes (ext : Extensions) (old new : Going) : Type 0 where
  work : IsLawfulWork ext new
  columns : SameColumns old.db new.db

goes_here : (ext : Extensions) (g : Going) → IsLawfulWork ext g → Goes ext g g
goes_here ext g work = record { work = work; columns = itself g.db }

goes_then : {ext : Extensions} {a b c : Going} → Goes ext a b → Goes ext b c → Goes ext a c
goes_then {a = a} {b = b} {c = c} p q = record { work = q.work; columns = then a.db b.db c.db p.columns q.columns }

-- ---- what an action wishes of the row of a key
wish_there_ok : (ext : Extensions) (db : Db) (a : Action) (key : Key) → IsLawful ext db → Brings db a → IfSome (wish_there db a key) (IsWishOf (schema_at db (relation_of a)))
wish_there_ok ext db a key lawful brings = of_relation (relation_at db (relation_of a)) refl
  where
    schema : List Column
    schema = schema_at db (relation_of a)

    of_match : (row : Row) → IsRow schema row → (b : Bool) → IfSome (cond b (wish_of schema a key row) None) (IsWishOf schema)
    of_match row is true = wish_brought schema a key row is brings
    of_match row is false = tt

    of_row : (r : Relation) → relation_at db (relation_of a) ≡ Some r → (o : Option Row) → row_at r.rows key ≡ o → IfSome (fold.wish_for schema a key o) (IsWishOf schema)
    of_row r there None is = tt
    of_row r there (Some row) is =
        of_match row
        (subst (λ (s : List Column). IsRow s row) (sym (schema-there db (relation_of a) r there))
        ((all_at (IsRowOf r) r.rows key row ((all_at (IsLawfulRelation ext db) db (relation_of a) r lawful.relations there).rows) is).stored)) (is_match schema (pairs_of a) row)

    of_relation : (o : Option Relation) → relation_at db (relation_of a) ≡ o
        → IfSome (fold.wish_for schema a key (row_at (elim o as (λ _. Rows) [ None ↦ [] | Some r ↦ r.rows ]) key)) (IsWishOf schema)
    of_relation None there = tt
    of_relation (Some r) there = of_row r there (row_at r.rows key) refl

all_still : (db other : Db) → SameColumns db other → (actions : List Action) → All (Brings db) actions → All (Brings other) actions
all_still db other same actions all = All-weaker (Brings db) (Brings other) (λ a brings. still_brings db other same a brings) actions all

-- ---- actions, whose changes go on so
abbrev GoOn : Extensions → fold.Changes → Type 0
GoOn ext changes = (name : Name) (wish : Wish) (g : Going) → IsLawfulWork ext g → IsWishOf (schema_at g.db name) wish → OfEnd ext (λ key new. Goes ext g new) (changes name wish g)

module _ (ext : Extensions) (changes : fold.Changes) (go_on : GoOn ext changes) where
  if_goes : (name : Name) (wish : Option Wish) (g : Going) → IsLawfulWork ext g → IfSome wish (IsWishOf (schema_at g.db name)) → OfEnd ext (λ n new. Goes ext g new) (fold.change_if changes name wish g)
  if_goes name None g work is = goes_here ext g work
  if_goes name (Some wish) g work is =
      of_next ext (λ key new. Goes ext g new) (λ n new. Goes ext g new) (changes name wish g) (λ _. made 1) (go_on name wish g work is) (λ key new goes. goes)

  each_goes : (a : Action) (keys : List Key) (g : Going) → IsLawfulWork ext g → Brings g.db a → OfEnd ext (λ n new. Goes ext g new) (fold.change_each changes a keys g)
  each_goes a [] g work brings = goes_here ext g work
  each_goes a (key ∷ keys) g work brings =
      of_next ext (λ n new. Goes ext g new) (λ n new. Goes ext g new) (fold.change_if changes (relation_of a) (wish_there g.db a key) g)
      (λ one. (fold.change_each changes a keys >>= λ others. made (one + others)))
      (if_goes (relation_of a) (wish_there g.db a key) g work (wish_there_ok ext g.db a key work.stands.lawful brings))
      (λ one mid goes.
      of_next ext (λ n new. Goes ext mid new) (λ n new. Goes ext g new) (fold.change_each changes a keys mid) (λ others. made (one + others))
      (each_goes a keys mid goes.work (still_brings g.db mid.db goes.columns a brings)) (λ n new more. goes_then goes more))

  act_goes : (a : Action) (g : Going) → IsLawfulWork ext g → Brings g.db a → OfEnd ext (λ n new. Goes ext g new) (fold.act changes a g)
  act_goes (action.Insert relation terms) g work brings =
      of_next ext (λ key new. Goes ext g new) (λ n new. Goes ext g new) (changes relation (Put (flat_map const_of terms)) g) (λ _. made 1)
      (go_on relation (Put (flat_map const_of terms)) g work brings) (λ key new goes. goes)
  act_goes (action.Delete relation pairs) g work brings = each_goes (action.Delete relation pairs) (fold.matching g.db (action.Delete relation pairs)) g work brings
  act_goes (action.Set relation column term pairs) g work brings =
      each_goes (action.Set relation column term pairs) (fold.matching g.db (action.Set relation column term pairs)) g work brings
  act_goes (action.Add relation column term pairs) g work brings =
      each_goes (action.Add relation column term pairs) (fold.matching g.db (action.Add relation column term pairs)) g work brings

  act_all_goes : (actions : List Action) (g : Going) → IsLawfulWork ext g → All (Brings g.db) actions → OfEnd ext (λ _ new. Goes ext g new) (fold.act_all changes actions g)
  act_all_goes [] g work brings = goes_here ext g work
  act_all_goes (a ∷ actions) g work brings =
      of_next ext (λ n new. Goes ext g new) (λ _ new. Goes ext g new) (fold.act changes a g) (λ _. fold.act_all changes actions) (act_goes a g work (All-head (Brings g.db) a actions brings))
      (λ n mid goes.
      of_weaker ext (λ _ new. Goes ext mid new) (λ _ new. Goes ext g new) (fold.act_all changes actions mid)
      (act_all_goes actions mid goes.work (all_still g.db mid.db goes.columns actions (All-tail (Brings g.db) a actions brings))) (λ _ new more. goes_then goes more))

  -- ---- what the attachments make of a change
  queued : (name : Name) (c : Change) (g : Going) → IsLawfulWork ext g → HasRows (schema_at g.db name) c → IsLawfulWork ext (fold.queue_late name c g)
  queued name c g work rows = record {
    stands = record {
      lawful = work.stands.lawful;
      triggers = work.stands.triggers;
      waiting =
          All-append (MayAct g.db) g.queue.actions (fold.waiting_actions g.db name c) work.stands.waiting
          (waiting_may ext g.db name c work.stands.lawful work.stands.triggers rows);
    };
    trail = work.trail;
  }

  answer_goes : (name : Name) (c : Change) (g : Going) → IsLawfulWork ext g → HasRows (schema_at g.db name) c → OfEnd ext (λ key new. Goes ext g new) (fold.answer_change ext changes name c g)
  answer_goes name c g work rows = of_veto (fold.vetoing ext g.db name c (fold.attachments_at g.db name))
    where
      late : Going
      late = fold.queue_late name c g

      of_veto : (veto : Option Name) → OfEnd ext (λ key new. Goes ext g new)
          (continue (λ _. (change_to (fold.queue_late name c) >>= λ _. ((λ going. fold.act_all changes (fold.following going.db name c) going) >>= λ _. made (fold.key_after c))))
          (fold.unless_vetoed name veto g))
      of_veto (Some attachment) = work.trail
      of_veto None =
          of_next ext (λ _ new. Goes ext late new) (λ key new. Goes ext g new) (fold.act_all changes (fold.following g.db name c) late) (λ _. made (fold.key_after c))
          (act_all_goes (fold.following g.db name c) late (queued name c g work rows) (following_brings ext g.db name c work.stands.lawful work.stands.triggers rows))
          (λ _ new goes. record { work = goes.work; columns = goes.columns })

-- ---- one change
moved : (ext : Extensions) (g mid : Going) → Same g mid → IsLawfulWork ext g → IsLawfulWork ext mid
moved ext g mid same work = record {
  stands =
      subst (λ (actions : List Action). IsLawfulWith ext mid.db actions) (sym (ap (λ q. q.actions) same.queue))
      (subst (λ (d : Db). IsLawfulWith ext d g.queue.actions) (sym same.db) work.stands);
  trail = subst (IsLawfulTrail ext) (sym same.trail) work.trail;
}

reached : (ext : Extensions) (name : Name) (r : Relation) (c : Change) (g : Going) → relation_at g.db name ≡ Some r → IsMade r c → IsLawfulWork ext g
    → IsLawfulWork ext (fold.reach_change ext name r c g)
reached ext name r c g there is work =
    let after : Db = changed g.db name c in
    let lawful : IsLawful ext after = changes-lawful ext g.db name r c there is.new work.stands.lawful in
    record {
      stands = record {
        lawful = lawful;
        triggers = triggers_stay g.db name c work.stands.triggers;
        waiting =
            All-weaker (MayAct g.db) (MayAct after) (λ a may. record { fits = still_fitting g.db after (changed_columns g.db name c) a may.fits; puts = may.puts }) g.queue.actions
            work.stands.waiting;
      };
      trail =
          All-append (IsLawfulPoint ext) g.trail.points _ work.trail
          (All-cons (IsLawfulPoint ext) _ [] (record { before = work.stands.lawful; after = lawful }) (All-nil _));
    }

-- the rows of such a change, over the relation that stood and over the changed one
made_rows : (r : Relation) (c : Change) → IsMade r c → HasRows r.schema c
made_rows r (change.Insert key new) is = record { before = is.old; after = is.new.stored }
made_rows r (change.Delete key old) is = record { before = is.old; after = tt }
made_rows r (change.Update from old to new) is = record { before = is.old; after = is.new.stored }

rows_then : (db : Db) (name : Name) (r : Relation) (c : Change) → relation_at db name ≡ Some r → IsMade r c → HasRows (schema_at (changed db name c) name) c
rows_then db name r c there is = subst (λ (s : List Column). HasRows s c) (sym (schema-there db name r there) ∙ (changed_columns db name c).schema name) (made_rows r c is)

one_goes : (ext : Extensions) (below : fold.Changes) → GoOn ext below → (name : Name) (wish : Wish) (g : Going) (o : Option Relation) → relation_at g.db name ≡ o → IsLawfulWork ext g
    → IsWishOf (schema_at g.db name) wish → OfEnd ext (λ key new. Goes ext g new) (fold.one_change ext below name wish o g)
one_goes ext below go_on name wish g None there work is = work.trail
one_goes ext below go_on name wish g (Some r) there work is =
    of_next ext (λ c mid. IsMade r c × Same g mid) (λ key new. Goes ext g new) (wished name r wish g)
    (λ c. (change_to (fold.reach_change ext name r c) >>= λ _. fold.answer_change ext below name c))
    (wished_ok ext name r g work.trail (all_at (IsLawfulRelation ext g.db) g.db name r work.stands.lawful.relations there).rows wish
    (subst (λ (s : List Column). IsWishOf s wish) (schema-there g.db name r there) is))
    (λ c mid made_it.
    let now : relation_at mid.db name ≡ Some r = ap (λ (d : Db). relation_at d name) made_it.1.db ∙ there in
    of_weaker ext (λ key new. Goes ext (fold.reach_change ext name r c mid) new) (λ key new. Goes ext g new) (fold.answer_change ext below name c (fold.reach_change ext name r c mid))
    (answer_goes ext below go_on name c (fold.reach_change ext name r c mid) (reached ext name r c mid now made_it.0 (moved ext g mid made_it.1 work)) (rows_then mid.db name r c now made_it.0))
    (λ key new goes. record {
      work = goes.work;
      columns = then g.db (changed mid.db name c) new.db (subst (λ (d : Db). SameColumns d (changed mid.db name c)) made_it.1.db (changed_columns mid.db name c)) goes.columns;
    }))

within_goes : (ext : Extensions) (levels : ℕ) → GoOn ext (fold.change_within ext levels)
within_goes ext zero name wish g work is = work.trail
within_goes ext (suc levels) name wish g work is =
    one_goes ext (fold.change_within ext levels) (within_goes ext levels) name wish g (relation_at g.db name) refl work is

pub change_goes : (ext : Extensions) (levels : ℕ) (name : Name) (wish : Wish) (g : Going) → IsLawfulWork ext g → IsWishOf (schema_at g.db name) wish
    → OfEnd ext (λ key new. IsLawfulWork ext new) (fold.change_within ext levels name wish g)
change_goes ext levels name wish g work is =
    of_weaker ext (λ key new. Goes ext g new) (λ key new. IsLawfulWork ext new) (fold.change_within ext levels name wish g) (within_goes ext levels name wish g work is) (λ key new goes. goes.work)

pub action_goes : (ext : Extensions) (levels : ℕ) (a : Action) (g : Going) → IsLawfulWork ext g → MayAct g.db a
    → OfEnd ext (λ n new. IsLawfulWork ext new) (fold.act (fold.change_within ext levels) a g)
action_goes ext levels a g work may =
    of_weaker ext (λ n new. Goes ext g new) (λ n new. IsLawfulWork ext new) (fold.act (fold.change_within ext levels) a g)
    (act_goes ext (fold.change_within ext levels) (within_goes ext levels) a g work (may_bring g.db a may)) (λ n new goes. goes.work)

-- ---- before a commit
abbrev DrainsOn : Extensions → Work (Unit {0}) → Type 0
DrainsOn ext work = (g : Going) → IsLawfulWork ext g → OfEnd ext (λ _ new. IsLawfulWork ext new) (work g)

waiting_goes : (ext : Extensions) (rest : Work (Unit {0})) → DrainsOn ext rest → (actions : List Action) (g : Going) → IsLawfulWork ext g → All (MayAct g.db) actions
    → OfEnd ext (λ _ new. IsLawfulWork ext new) (drain_next (fold.first_change ext) rest actions g)
waiting_goes ext rest goes [] g work waits = work
waiting_goes ext rest goes (a ∷ actions) g work waits =
    of_next ext (λ n new. IsLawfulWork ext new) (λ _ new. IsLawfulWork ext new) (fold.act (fold.first_change ext) a (with_actions actions g)) (λ _. rest)
    (action_goes ext 16 a (with_actions actions g) (record {
      stands = record { lawful = work.stands.lawful; triggers = work.stands.triggers; waiting = All-tail (MayAct g.db) a actions waits };
      trail = work.trail;
    }) (All-head (MayAct g.db) a actions waits)) (λ n new left. goes new left)

drain_goes : (ext : Extensions) (most : ℕ) → DrainsOn ext (drain ext most)
drain_goes ext zero g work = of_waiting g.queue.actions
  where
    of_waiting : (actions : List Action) → OfEnd ext (λ _ new. IsLawfulWork ext new) (unless_waiting actions g)
    of_waiting [] = work
    of_waiting (a ∷ actions) = work.trail
drain_goes ext (suc most) g work = waiting_goes ext (drain ext most) (drain_goes ext most) g.queue.actions g work work.stands.waiting

pub finish_goes : (ext : Extensions) → DrainsOn ext (finish ext)
finish_goes ext g work =
    of_next ext (λ _ new. IsLawfulWork ext new) (λ _ new. IsLawfulWork ext new) (drain ext 1000 g) (λ _ going. unless_failing (first_failing ext going.db going.db) going)
    (drain_goes ext 1000 g work) (λ _ new left. of_failing new left (first_failing ext new.db new.db))
  where
    of_failing : (new : Going) → IsLawfulWork ext new → (failing : Option (Name × Name)) → OfEnd ext (λ _ left. IsLawfulWork ext left) (unless_failing failing new)
    of_failing new left None = left
    of_failing new left (Some (relation, name)) = left.trail

-- ---- the laws
pub changes-end : ChangesEndLawful
changes-end ext levels name wish g work is =
    ends ext (λ key new. IsLawfulWork ext new) (fold.change_within ext levels name wish g) (change_goes ext levels name wish g work is) (λ key new left. left)

pub actions-end : ActionsEndLawful
actions-end ext levels a g work may =
    ends ext (λ n new. IsLawfulWork ext new) (fold.act (fold.change_within ext levels) a g) (action_goes ext levels a g work may) (λ n new left. left)

pub finish-ends : FinishEndsLawful
finish-ends ext g work = ends ext (λ _ new. IsLawfulWork ext new) (finish ext g) (finish_goes ext g work) (λ _ new left. left)
