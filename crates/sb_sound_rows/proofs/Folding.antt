-- Work over databases whose rules hold, but for references of rows that are to go, ends where they hold.
use Rattle.std.proofs.Common.{◌≡◌, ℕ, zero, suc, ◌+◌, Bool, true, false, ◌&&◌, ◌||◌, cond, List, [], ◌∷◌, ◌⊎◌, inl, inr, Option, Some, None, refl, sym, ap, subst, ◌∙◌}
use Rattle.std.specs.Prelude.{All, IfSome}
use Rattle.std.specs.List.{flat_map, list_any}
use Rattle.std.specs.Str.{bytes_eq}
use Rattle.std.proofs.lemmas.Bool.{and_parts, and_from, or_left, or_right, or_cases}
use Rattle.std.proofs.lemmas.List.Elements.{All-nil, All-cons, All-head, All-tail, All-append, All-weaker}
use Rattle.sb_value.specs.declared.schema.Column.{Column}
use Rattle.sb_value.specs.Equal.{bytes_same}
use Rattle.sb_pred.specs.declared.predicate.Term.{Term}
use Rattle.sb_rule.specs.declared.action.Action.{Action}
use Rattle.sb_rule.specs.declared.action.Action.TheVariants as action
use Rattle.sb_rule.specs.declared.change.Change.{Change}
use Rattle.sb_rule.specs.declared.change.Change.TheVariants as change
use Rattle.sb_relation.specs.Changes.{changed}
use Rattle.sb_relation.specs.Db.{Name, Key, Row, Rows, Relation, Db, relation_at, rows_at, row_at, schema_at}
use Rattle.sb_relation.specs.Fits.{relation_of}
use Rattle.sb_relation.specs.Lawful.{IsRow}
use Rattle.sb_fold.specs.Extensions.{Extensions}
use Rattle.sb_fold.specs.Fold as fold
use Rattle.sb_fold.specs.Laws.{OfMade}
use Rattle.sb_fold.specs.Outcome.{Going, Outcome, Gives, Stopped, NoStep, made, continue, change_to, ◌>>=◌}
use Rattle.sb_fold.specs.Wishes.{Wish, Put, Remove, const_of, is_match, pairs_of, wish_of, wished}
use Rattle.sb_cascade.specs.FittingLaws.{OfGiven}
use Rattle.sb_cascade.specs.Steps.{wish_there}
use Rattle.sb_cascade.proofs.FittingRows.{schema-there}
use Rattle.sb_cascade.proofs.Staying.{SameColumns, itself, then, changed_columns, still_fitting}
use Rattle.sb_plain.specs.Lawful.{IsRowOf, IsLawfulRelation, IsLawful}
use Rattle.sb_plain.proofs.ChangeLemmas.{changes-lawful}
use Rattle.sb_plain.proofs.SoundLemmas.{all_at}
use Rattle.sb_lawful_rows.specs.Work.{IsWishOf, MayAct, IsLawfulWith, IsLawfulPoint, IsLawfulTrail, IsLawfulWork}
use Rattle.sb_lawful_rows.proofs.Following.{following_brings, waiting_may, triggers_stay}
use Rattle.sb_lawful_rows.proofs.Storing.{HasRows, Brings, still_brings, may_bring, wish_brought}
use Rattle.sb_lawful_rows.proofs.Wishing.{OfEnd, of_next, of_weaker, Same, IsMade, wished_ok}
use Rattle.sb_sound_rows.specs.Laws.{ChangesEndSound, ActionsEndSound}
use Rattle.sb_sound_rows.specs.Work.{IsSoundWork}
use Rattle.sb_sound_rows.proofs.Rows.{goes, listed}
use Rattle.sb_sound_rows.proofs.Wished.{takes, IsOwn, wished_own}
use Rattle.sb_sound_rows.proofs.Marks.{Marks, unmarked, with_gone, with_wish, with_if, covers, with_action, with_actions, with_keys, IsSoundBut, with_more, sound_but, sound_back}
use Rattle.sb_sound_rows.proofs.Changed.{changed_sound}

-- ---- what is marked
or_none : (a : Bool) → (a || false) ≡ true → a ≡ true
or_none true e = refl
or_none false e = e

none_of : (a b : Bool) → (a || (b && false)) ≡ true → a ≡ true
none_of true b e = refl
none_of false true e = e
none_of false false e = e

or_turn : (a b c : Bool) → (a || (b || c)) ≡ true → ((a || c) || b) ≡ true
or_turn true b c e = refl
or_turn false true true e = refl
or_turn false true false e = refl
or_turn false false true e = refl
or_turn false false false e = e

in_if : (marks : Marks) (name : Name) (wish : Option Wish) (n : Name) (key : Key) (row : Row) → marks n key row ≡ true → with_if marks name wish n key row ≡ true
in_if marks name None n key row e = e
in_if marks name (Some wish) n key row e = or_left (marks n key row) (bytes_eq n name && takes wish key) e

-- a row that an action deletes, under the key whose turn it is, is wished away
wished_away : (db : Db) (a : Action) (at : Key) (n : Name) (key : Key) (row : Row) → covers (schema_at db n) a n row ≡ true → row_at (rows_at db n) key ≡ Some row → bytes_eq key at ≡ true
    → (wish_there db a at ≡ Some (Remove at)) × (bytes_eq n (relation_of a) ≡ true)
wished_away db (action.Delete relation pairs) at n key row covered stands same =
    let parts = and_parts (bytes_eq n relation) (is_match (schema_at db n) pairs row) covered in
    let named : relation ≡ n = sym ((bytes_same n relation).0 parts.0) in
    let keyed : at ≡ key = sym ((bytes_same key at).0 same) in
    let found : row_at (rows_at db relation) at ≡ Some row = (λ i. row_at (rows_at db (named i)) (keyed i)) ∙ stands in (
      ap (fold.wish_for (schema_at db relation) (action.Delete relation pairs) at) found
          ∙ ap (λ (b : Bool). cond b (Some (Remove at)) None) (ap (λ (m : Name). is_match (schema_at db m) pairs row) named ∙ parts.1),
      parts.0,
    )
wished_away db (action.Insert relation terms) at n key row covered stands same = absurd (cc)
wished_away db (action.Set relation column term pairs) at n key row covered stands same = absurd (cc)
wished_away db (action.Add relation column term pairs) at n key row covered stands same = absurd (cc)

module _ (db : Db) (marks : Marks) (a : Action) (at : Key) (keys : List Key) where
  abbrev later : Marks
  later = with_keys db marks a keys

  abbrev Marked : Name → Key → Row → Type 0
  Marked n key row = with_if later (relation_of a) (wish_there db a at) n key row ≡ true

  its_turn : (n : Name) (key : Key) (row : Row) → row_at (rows_at db n) key ≡ Some row → covers (schema_at db n) a n row ≡ true → (bytes_eq key at ≡ true) ⊎ (list_any (bytes_eq key) keys ≡ true) → Marked n key row
  its_turn n key row stands covered (inl here) =
      let away = wished_away db a at n key row covered stands here in
      ap (λ (o : Option Wish). with_if later (relation_of a) o n key row) away.0
      ∙ or_right (later n key row) (bytes_eq n (relation_of a) && bytes_eq key at) (and_from (bytes_eq n (relation_of a)) (bytes_eq key at) away.1 here)
  its_turn n key row stands covered (inr among) =
      in_if later (relation_of a) (wish_there db a at) n key row
      (or_right (marks n key row) (covers (schema_at db n) a n row && list_any (bytes_eq key) keys) (and_from (covers (schema_at db n) a n row) (list_any (bytes_eq key) keys) covered among))

  key_marked : IsSoundBut (with_keys db marks a (at ∷ keys)) db → IsSoundBut (with_if later (relation_of a) (wish_there db a at)) db
  key_marked =
      with_more (with_keys db marks a (at ∷ keys)) (with_if later (relation_of a) (wish_there db a at)) db
      (λ n key row stands e. by n key row stands (or_cases (marks n key row) (covers (schema_at db n) a n row && (bytes_eq key at || list_any (bytes_eq key) keys)) e))
    where
      by : (n : Name) (key : Key) (row : Row) → row_at (rows_at db n) key ≡ Some row
          → (marks n key row ≡ true) ⊎ ((covers (schema_at db n) a n row && (bytes_eq key at || list_any (bytes_eq key) keys)) ≡ true) → Marked n key row
      by n key row stands (inl old) =
          in_if later (relation_of a) (wish_there db a at) n key row (or_left (marks n key row) (covers (schema_at db n) a n row && list_any (bytes_eq key) keys) old)
      by n key row stands (inr both) =
          let parts = and_parts (covers (schema_at db n) a n row) (bytes_eq key at || list_any (bytes_eq key) keys) both in
          its_turn n key row stands parts.0 (or_cases (bytes_eq key at) (list_any (bytes_eq key) keys) parts.1)

-- the rows that match when an action starts
all_matching : (db : Db) (marks : Marks) (relation : Name) (pairs : List (Name × Term)) → IsSoundBut (with_action db marks (action.Delete relation pairs)) db
    → IsSoundBut (with_keys db marks (action.Delete relation pairs) (fold.matching db (action.Delete relation pairs))) db
all_matching db marks relation pairs =
    with_more (with_action db marks (action.Delete relation pairs)) (with_keys db marks (action.Delete relation pairs) (fold.matching db (action.Delete relation pairs))) db
    (λ n key row stands e. by n key row stands (or_cases (marks n key row) (covers (schema_at db n) (action.Delete relation pairs) n row) e))
  where
    by : (n : Name) (key : Key) (row : Row) → row_at (rows_at db n) key ≡ Some row → (marks n key row ≡ true) ⊎ (covers (schema_at db n) (action.Delete relation pairs) n row ≡ true)
        → with_keys db marks (action.Delete relation pairs) (fold.matching db (action.Delete relation pairs)) n key row ≡ true
    by n key row stands (inl old) = or_left (marks n key row) _ old
    by n key row stands (inr covered) =
        let parts = and_parts (bytes_eq n relation) (is_match (schema_at db n) pairs row) covered in
        let named : relation ≡ n = sym ((bytes_same n relation).0 parts.0) in
        or_right (marks n key row) _
        (and_from (covers (schema_at db n) (action.Delete relation pairs) n row) (list_any (bytes_eq key) (fold.matching db (action.Delete relation pairs))) covered
        (listed (is_match (schema_at db relation) pairs) (rows_at db relation) key row (ap (λ (m : Name). row_at (rows_at db m) key) named ∙ stands)
        (ap (λ (m : Name). is_match (schema_at db m) pairs row) named ∙ parts.1)))

-- the same columns mark the same
keys_along : (db other : Db) → SameColumns db other → (marks : Marks) (a : Action) (keys : List Key) → IsSoundBut (with_keys db marks a keys) other → IsSoundBut (with_keys other marks a keys) other
keys_along db other same marks a keys =
    with_more (with_keys db marks a keys) (with_keys other marks a keys) other
    (λ n key row stands e. (λ i. marks n key row || (covers (sym (same.schema n) i) a n row && list_any (bytes_eq key) keys)) ∙ e)

actions_along : (db other : Db) → SameColumns db other → (marks : Marks) (actions : List Action) → IsSoundBut (with_actions db marks actions) other → IsSoundBut (with_actions other marks actions) other
actions_along db other same marks actions =
    with_more (with_actions db marks actions) (with_actions other marks actions) other
    (λ n key row stands e. (λ i. marks n key row || list_any (λ a. covers (sym (same.schema n) i) a n row) actions) ∙ e)

-- ---- work
-- it goes on over the same columns, and what it leaves is sound but for these marks
record Goes (ext : Extensions) (marks : Marks) (old new : Going) : Type 0 where
  work : IsLawfulWork ext new
  columns : SameColumns old.db new.db
  sound : IsSoundBut marks new.db

goes_here : (ext : Extensions) (marks : Marks) (g : Going) → IsLawfulWork ext g → IsSoundBut marks g.db → Goes ext marks g g
goes_here ext marks g work sound = record { work = work; columns = itself g.db; sound = sound }

goes_then : (ext : Extensions) (more marks : Marks) (a b c : Going) → Goes ext more a b → Goes ext marks b c → Goes ext marks a c
goes_then ext more marks a b c p q = record { work = q.work; columns = then a.db b.db c.db p.columns q.columns; sound = q.sound }

-- ---- what an action wishes of the row of a key
wish_there_ok : (ext : Extensions) (db : Db) (a : Action) (key : Key) → IsLawful ext db → Brings db a → IfSome (wish_there db a key) (IsWishOf (schema_at db (relation_of a)))
wish_there_ok ext db a key lawful brings = of_relation (relation_at db (relation_of a)) refl
  where
    schema : List Column
    schema = schema_at db (relation_of a)

    of_match : (row : Row) → IsRow schema row → (b : Bool) → IfSome (cond b (wish_of schema a key row) None) (IsWishOf schema)
    of_match row is true = wish_brought schema a key row is brings
    of_match row is false = tt

    of_row : (r : Relation) → relation_at db (relation_of a) ≡ Some r → (o : Option Row) → row_at r.rows key ≡ o → IfSome (fold.wish_for schema a key o) (IsWishOf schema)
    of_row r there None is = tt
    of_row r there (Some row) is =
        of_match row
        (subst (λ (s : List Column). IsRow s row) (sym (schema-there db (relation_of a) r there))
        ((all_at (IsRowOf r) r.rows key row ((all_at (IsLawfulRelation ext db) db (relation_of a) r lawful.relations there).rows) is).stored)) (is_match schema (pairs_of a) row)

    of_relation : (o : Option Relation) → relation_at db (relation_of a) ≡ o
        → IfSome (fold.wish_for schema a key (row_at (elim o as (λ _. Rows) [ None ↦ [] | Some r ↦ r.rows ]) key)) (IsWishOf schema)
    of_relation None there = tt
    of_relation (Some r) there = of_row r there (row_at r.rows key) refl

all_still : (db other : Db) → SameColumns db other → (actions : List Action) → All (Brings db) actions → All (Brings other) actions
all_still db other same actions all = All-weaker (Brings db) (Brings other) (λ a brings. still_brings db other same a brings) actions all

-- ---- actions, whose changes go on so
abbrev GoOn : Extensions → fold.Changes → Type 0
GoOn ext changes =
    (marks : Marks) (name : Name) (wish : Wish) (g : Going) → IsLawfulWork ext g → IsWishOf (schema_at g.db name) wish → IsSoundBut (with_wish marks name wish) g.db
    → OfEnd ext (λ key new. Goes ext marks g new) (changes name wish g)

module _ (ext : Extensions) (changes : fold.Changes) (go_on : GoOn ext changes) where
  if_goes : (marks : Marks) (name : Name) (wish : Option Wish) (g : Going) → IsLawfulWork ext g → IfSome wish (IsWishOf (schema_at g.db name)) → IsSoundBut (with_if marks name wish) g.db
      → OfEnd ext (λ n new. Goes ext marks g new) (fold.change_if changes name wish g)
  if_goes marks name None g work is sound = goes_here ext marks g work sound
  if_goes marks name (Some wish) g work is sound =
      of_next ext (λ key new. Goes ext marks g new) (λ n new. Goes ext marks g new) (changes name wish g) (λ _. made 1) (go_on marks name wish g work is sound) (λ key new goes. goes)

  each_goes : (marks : Marks) (a : Action) (keys : List Key) (g : Going) → IsLawfulWork ext g → Brings g.db a → IsSoundBut (with_keys g.db marks a keys) g.db
      → OfEnd ext (λ n new. Goes ext marks g new) (fold.change_each changes a keys g)
  each_goes marks a [] g work brings sound =
      goes_here ext marks g work (with_more (with_keys g.db marks a []) marks g.db (λ n key row stands e. none_of (marks n key row) (covers (schema_at g.db n) a n row) e) sound)
  each_goes marks a (key ∷ keys) g work brings sound =
      of_next ext (λ n new. Goes ext (with_keys g.db marks a keys) g new) (λ n new. Goes ext marks g new) (fold.change_if changes (relation_of a) (wish_there g.db a key) g)
      (λ one. (fold.change_each changes a keys >>= λ others. made (one + others)))
      (if_goes (with_keys g.db marks a keys) (relation_of a) (wish_there g.db a key) g work (wish_there_ok ext g.db a key work.stands.lawful brings) (key_marked g.db marks a key keys sound))
      (λ one mid goes.
      of_next ext (λ n new. Goes ext marks mid new) (λ n new. Goes ext marks g new) (fold.change_each changes a keys mid) (λ others. made (one + others))
      (each_goes marks a keys mid goes.work (still_brings g.db mid.db goes.columns a brings) (keys_along g.db mid.db goes.columns marks a keys goes.sound))
      (λ n new more. goes_then ext (with_keys g.db marks a keys) marks g mid new goes more))

  -- an action that deletes nothing marks none
  kept_keys : (marks : Marks) (a : Action) (g : Going) → ((n : Name) (row : Row) → covers (schema_at g.db n) a n row ≡ false) → IsSoundBut (with_action g.db marks a) g.db
      → IsSoundBut (with_keys g.db marks a (fold.matching g.db a)) g.db
  kept_keys marks a g none =
      with_more (with_action g.db marks a) (with_keys g.db marks a (fold.matching g.db a)) g.db
      (λ n key row stands e. or_left (marks n key row) _ (or_none (marks n key row) (ap (λ (b : Bool). marks n key row || b) (sym (none n row)) ∙ e)))

  act_goes : (marks : Marks) (a : Action) (g : Going) → IsLawfulWork ext g → Brings g.db a → IsSoundBut (with_action g.db marks a) g.db → OfEnd ext (λ n new. Goes ext marks g new) (fold.act changes a g)
  act_goes marks (action.Insert relation terms) g work brings sound =
      of_next ext (λ key new. Goes ext marks g new) (λ n new. Goes ext marks g new) (changes relation (Put (flat_map const_of terms)) g) (λ _. made 1)
      (go_on marks relation (Put (flat_map const_of terms)) g work brings
      (with_more (with_action g.db marks (action.Insert relation terms)) (with_wish marks relation (Put (flat_map const_of terms))) g.db
      (λ n key row stands e. or_left (marks n key row) _ (or_none (marks n key row) e)) sound)) (λ key new goes. goes)
  act_goes marks (action.Delete relation pairs) g work brings sound =
      each_goes marks (action.Delete relation pairs) (fold.matching g.db (action.Delete relation pairs)) g work brings (all_matching g.db marks relation pairs sound)
  act_goes marks (action.Set relation column term pairs) g work brings sound =
      each_goes marks (action.Set relation column term pairs) (fold.matching g.db (action.Set relation column term pairs)) g work brings
      (kept_keys marks (action.Set relation column term pairs) g (λ n row. refl) sound)
  act_goes marks (action.Add relation column term pairs) g work brings sound =
      each_goes marks (action.Add relation column term pairs) (fold.matching g.db (action.Add relation column term pairs)) g work brings
      (kept_keys marks (action.Add relation column term pairs) g (λ n row. refl) sound)

  act_all_goes : (marks : Marks) (actions : List Action) (g : Going) → IsLawfulWork ext g → All (Brings g.db) actions → IsSoundBut (with_actions g.db marks actions) g.db
      → OfEnd ext (λ _ new. Goes ext marks g new) (fold.act_all changes actions g)
  act_all_goes marks [] g work brings sound =
      goes_here ext marks g work (with_more (with_actions g.db marks []) marks g.db (λ n key row stands e. or_none (marks n key row) e) sound)
  act_all_goes marks (a ∷ actions) g work brings sound =
      of_next ext (λ n new. Goes ext (with_actions g.db marks actions) g new) (λ _ new. Goes ext marks g new) (fold.act changes a g) (λ _. fold.act_all changes actions)
      (act_goes (with_actions g.db marks actions) a g work (All-head (Brings g.db) a actions brings)
      (with_more (with_actions g.db marks (a ∷ actions)) (with_action g.db (with_actions g.db marks actions) a) g.db
      (λ n key row stands e. or_turn (marks n key row) (covers (schema_at g.db n) a n row) (list_any (λ x. covers (schema_at g.db n) x n row) actions) e) sound))
      (λ n mid goes.
      of_weaker ext (λ _ new. Goes ext marks mid new) (λ _ new. Goes ext marks g new) (fold.act_all changes actions mid)
      (act_all_goes marks actions mid goes.work (all_still g.db mid.db goes.columns actions (All-tail (Brings g.db) a actions brings)) (actions_along g.db mid.db goes.columns marks actions goes.sound))
      (λ _ new more. goes_then ext (with_actions g.db marks actions) marks g mid new goes more))

  -- ---- what the attachments make of a change
  queued : (name : Name) (c : Change) (g : Going) → IsLawfulWork ext g → HasRows (schema_at g.db name) c → IsLawfulWork ext (fold.queue_late name c g)
  queued name c g work rows = record {
    stands = record {
      lawful = work.stands.lawful;
      triggers = work.stands.triggers;
      waiting =
          All-append (MayAct g.db) g.queue.actions (fold.waiting_actions g.db name c) work.stands.waiting
          (waiting_may ext g.db name c work.stands.lawful work.stands.triggers rows);
    };
    trail = work.trail;
  }

  answer_goes : (marks : Marks) (name : Name) (c : Change) (g : Going) → IsLawfulWork ext g → HasRows (schema_at g.db name) c
      → (fold.vetoing ext g.db name c (fold.attachments_at g.db name) ≡ None → IsSoundBut (with_actions g.db marks (fold.following g.db name c)) g.db)
      → OfEnd ext (λ key new. Goes ext marks g new) (fold.answer_change ext changes name c g)
  answer_goes marks name c g work rows sound = of_veto (fold.vetoing ext g.db name c (fold.attachments_at g.db name)) refl
    where
      late : Going
      late = fold.queue_late name c g

      of_veto : (veto : Option Name) → fold.vetoing ext g.db name c (fold.attachments_at g.db name) ≡ veto → OfEnd ext (λ key new. Goes ext marks g new)
          (continue (λ _. (change_to (fold.queue_late name c) >>= λ _. ((λ going. fold.act_all changes (fold.following going.db name c) going) >>= λ _. made (fold.key_after c))))
          (fold.unless_vetoed name veto g))
      of_veto (Some attachment) is = work.trail
      of_veto None is =
          of_next ext (λ _ new. Goes ext marks (fold.queue_late name c g) new) (λ key new. Goes ext marks g new) (fold.act_all changes (fold.following g.db name c) (fold.queue_late name c g))
          (λ _. made (fold.key_after c))
          (act_all_goes marks (fold.following g.db name c) (fold.queue_late name c g) (queued name c g work rows)
          (following_brings ext g.db name c work.stands.lawful work.stands.triggers rows) (sound is))
          (λ _ new goes. record { work = goes.work; columns = goes.columns; sound = goes.sound })

-- ---- one change
moved : (ext : Extensions) (g mid : Going) → Same g mid → IsLawfulWork ext g → IsLawfulWork ext mid
moved ext g mid same work = record {
  stands =
      subst (λ (actions : List Action). IsLawfulWith ext mid.db actions) (sym (ap (λ q. q.actions) same.queue))
      (subst (λ (d : Db). IsLawfulWith ext d g.queue.actions) (sym same.db) work.stands);
  trail = subst (IsLawfulTrail ext) (sym same.trail) work.trail;
}

reached : (ext : Extensions) (name : Name) (r : Relation) (c : Change) (g : Going) → relation_at g.db name ≡ Some r → IsMade r c → IsLawfulWork ext g
    → IsLawfulWork ext (fold.reach_change ext name r c g)
reached ext name r c g there is work =
    let after : Db = changed g.db name c in
    let lawful : IsLawful ext after = changes-lawful ext g.db name r c there is.new work.stands.lawful in
    record {
      stands = record {
        lawful = lawful;
        triggers = triggers_stay g.db name c work.stands.triggers;
        waiting =
            All-weaker (MayAct g.db) (MayAct after) (λ a may. record { fits = still_fitting g.db after (changed_columns g.db name c) a may.fits; puts = may.puts }) g.queue.actions
            work.stands.waiting;
      };
      trail =
          All-append (IsLawfulPoint ext) g.trail.points _ work.trail
          (All-cons (IsLawfulPoint ext) _ [] (record { before = work.stands.lawful; after = lawful }) (All-nil _));
    }

made_rows : (r : Relation) (c : Change) → IsMade r c → HasRows r.schema c
made_rows r (change.Insert key new) is = record { before = is.old; after = is.new.stored }
made_rows r (change.Delete key old) is = record { before = is.old; after = tt }
made_rows r (change.Update from old to new) is = record { before = is.old; after = is.new.stored }

rows_then : (db : Db) (name : Name) (r : Relation) (c : Change) → relation_at db name ≡ Some r → IsMade r c → HasRows (schema_at (changed db name c) name) c
rows_then db name r c there is = subst (λ (s : List Column). HasRows s c) (sym (schema-there db name r there) ∙ (changed_columns db name c).schema name) (made_rows r c is)

-- facts of what work gives come together
both_end : {A : Type 0} (ext : Extensions) (P : A → Going → Type 0) (Q : A → Going → Type 0) (o : Outcome A) → OfEnd ext P o → OfGiven Q o → OfEnd ext (λ x g. (P x g) × (Q x g)) o
both_end ext P Q (Gives x g) p q = (p, q)
both_end ext P Q (Stopped r trail) p q = p
both_end ext P Q (NoStep trail) p q = p

-- what is wished away goes by the change
gone_too : (marks : Marks) (name : Name) (wish : Wish) (c : Change) (rows : Rows) (db : Db) → IsOwn rows wish c → IsSoundBut (with_wish marks name wish) db → IsSoundBut (with_gone marks name c) db
gone_too marks name wish c rows db own =
    with_more (with_wish marks name wish) (with_gone marks name c) db
    (λ n key row stands e. by (marks n key row) (bytes_eq n name) (takes wish key) (goes c key) (own.taken key) e)
  where
    by : (a b t u : Bool) → (t ≡ true → u ≡ true) → (a || (b && t)) ≡ true → (a || (b && u)) ≡ true
    by true b t u too e = refl
    by false true t u too e = too e
    by false false t u too e = e

abbrev MadeOwn : Relation → Wish → Going → Change → Going → Type 0
MadeOwn r wish g c mid = (IsMade r c × Same g mid) × (IsOwn r.rows wish c)

one_goes : (ext : Extensions) (below : fold.Changes) → GoOn ext below → (marks : Marks) (name : Name) (wish : Wish) (g : Going) (o : Option Relation) → relation_at g.db name ≡ o → IsLawfulWork ext g
    → IsWishOf (schema_at g.db name) wish → IsSoundBut (with_wish marks name wish) g.db → OfEnd ext (λ key new. Goes ext marks g new) (fold.one_change ext below name wish o g)
one_goes ext below go_on marks name wish g None there work is sound = work.trail
one_goes ext below go_on marks name wish g (Some r) there work is sound =
    of_next ext (MadeOwn r wish g) (λ key new. Goes ext marks g new) (wished name r wish g)
    (λ c. (change_to (fold.reach_change ext name r c) >>= λ _. fold.answer_change ext below name c))
    (both_end ext (λ c mid. IsMade r c × Same g mid) (λ c mid. IsOwn r.rows wish c) (wished name r wish g)
    (wished_ok ext name r g work.trail here.rows wish (subst (λ (s : List Column). IsWishOf s wish) (schema-there g.db name r there) is)) (wished_own name r wish g here.rising))
    (λ c mid made_it.
    let there' : relation_at mid.db name ≡ Some r = ap (λ (d : Db). relation_at d name) made_it.0.1.db ∙ there in
    let then_work : IsLawfulWork ext (fold.reach_change ext name r c mid) = reached ext name r c mid there' made_it.0.0 (moved ext g mid made_it.0.1 work) in
    of_weaker ext (λ key new. Goes ext marks (fold.reach_change ext name r c mid) new) (λ key new. Goes ext marks g new) (fold.answer_change ext below name c (fold.reach_change ext name r c mid))
    (answer_goes ext below go_on marks name c (fold.reach_change ext name r c mid) then_work (rows_then mid.db name r c there' made_it.0.0)
    (λ passed.
    changed_sound ext mid.db name r c marks there' here.rising made_it.1.of then_work.stands.lawful passed
    (gone_too marks name wish c r.rows mid.db made_it.1 (subst (IsSoundBut (with_wish marks name wish)) (sym made_it.0.1.db) sound))))
    (λ key new goes. record {
      work = goes.work;
      columns = then g.db (changed mid.db name c) new.db (subst (λ (d : Db). SameColumns d (changed mid.db name c)) made_it.0.1.db (changed_columns mid.db name c)) goes.columns;
      sound = goes.sound;
    }))
  where
    here : IsLawfulRelation ext g.db name r
    here = all_at (IsLawfulRelation ext g.db) g.db name r work.stands.lawful.relations there

within_goes : (ext : Extensions) (levels : ℕ) → GoOn ext (fold.change_within ext levels)
within_goes ext zero marks name wish g work is sound = work.trail
within_goes ext (suc levels) marks name wish g work is sound =
    one_goes ext (fold.change_within ext levels) (within_goes ext levels) marks name wish g (relation_at g.db name) refl work is sound

-- ---- where nothing is marked before
unmarked_wish : (db : Db) (name : Name) (wish : Wish) → IsSoundBut unmarked db → IsSoundBut (with_wish unmarked name wish) db
unmarked_wish db name wish = with_more unmarked (with_wish unmarked name wish) db (λ n key row stands e. absurd (cc))

unmarked_action : (db : Db) (a : Action) → IsSoundBut unmarked db → IsSoundBut (with_action db unmarked a) db
unmarked_action db a = with_more unmarked (with_action db unmarked a) db (λ n key row stands e. absurd (cc))

made_of : {A : Type 0} (ext : Extensions) (P : A → Going → Type 0) (Q : Going → Type 0) (o : Outcome A) → OfEnd ext P o → ((x : A) (g : Going) → P x g → Q g) → OfMade Q o
made_of ext P Q (Gives x g) given of = of x g given
made_of ext P Q (Stopped r trail) given of = tt
made_of ext P Q (NoStep trail) given of = tt

sound_work : (ext : Extensions) (old new : Going) → Goes ext unmarked old new → IsSoundWork ext new
sound_work ext old new goes = record { work = goes.work; sound = sound_back ext new.db goes.work.stands.lawful goes.sound }

-- ---- the laws
pub changes-end : ChangesEndSound
changes-end ext levels name wish g work is =
    made_of ext (λ key new. Goes ext unmarked g new) (IsSoundWork ext) (fold.change_within ext levels name wish g)
    (within_goes ext levels unmarked name wish g work.work is (unmarked_wish g.db name wish (sound_but ext g.db work.sound))) (λ key new goes. sound_work ext g new goes)

pub actions-end : ActionsEndSound
actions-end ext levels a g work may =
    made_of ext (λ n new. Goes ext unmarked g new) (IsSoundWork ext) (fold.act (fold.change_within ext levels) a g)
    (act_goes ext (fold.change_within ext levels) (within_goes ext levels) unmarked a g work.work (may_bring g.db a may) (unmarked_action g.db a (sound_but ext g.db work.sound)))
    (λ n new goes. sound_work ext g new goes)
