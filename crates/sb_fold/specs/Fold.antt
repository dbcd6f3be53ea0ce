-- One change and all that follows from it.
use Rattle.std.specs.Prelude.{ℕ, zero, suc, ◌+◌, cond, List, [], ◌∷◌, ◌++◌, Option, Some, None, map, filter}
use Rattle.std.specs.List.{flat_map}
use Rattle.sb_value.specs.declared.schema.Column.{Column}
use Rattle.sb_rule.specs.declared.action.Action.{Action}
use Rattle.sb_rule.specs.declared.action.Action.TheVariants as action
use Rattle.sb_rule.specs.declared.change.Change.{Change}
use Rattle.sb_rule.specs.declared.change.Change.TheVariants as change
use Rattle.sb_relation.specs.Changes.{changed}
use Rattle.sb_relation.specs.Db.{Name, Key, Row, Attached, Relation, Db, relation_at, rows_at, schema_at, row_at}
use Rattle.sb_relation.specs.Fits.{relation_of}
use Rattle.sb_relation.specs.Rules.{admits, follows, late_actions, late_checks}
use Rattle.sb_fold.specs.declared.refusal.Refusal.TheVariants.{Veto, Depth}
use Rattle.sb_fold.specs.Extensions.{Extensions, box_of}
use Rattle.sb_fold.specs.Costs.{change_cost}
use Rattle.sb_fold.specs.Outcome.{Entry, Going, Work, made, refuse, no_step, change_to, with_point, with_waiting, ◌>>=◌}
use Rattle.sb_fold.specs.Wishes.{Wish, Put, wished, const_of, is_match, pairs_of, wish_of}

-- a change of one row of a relation and all that follows from it; it gives the row's record key after it
abbrev pub Changes : Type 0
Changes = Name → Wish → Work (Option Key)

-- ---- actions, whose changes are these
-- the record keys of the rows that match, in rising order
abbrev pub matching : Db → Action → List Key
matching db a = map (λ row. row.0) (filter (λ row. is_match (schema_at db (relation_of a)) (pairs_of a) row.1) (rows_at db (relation_of a)))

-- what an action wishes of the row of a key, where it still stands and still matches
abbrev pub wish_for : List Column → Action → Key → Option Row → Option Wish
wish_for schema a key None = None
wish_for schema a key (Some row) = cond (is_match schema (pairs_of a) row) (wish_of schema a key row) None

abbrev pub change_if : Changes → Name → Option Wish → Work ℕ
change_if changes name None = made 0
change_if changes name (Some wish) = changes name wish >>= λ _. made 1

-- the changes of the rows of these keys, and how many they are
abbrev pub change_each : Changes → Action → List Key → Work ℕ
change_each changes a [] = made 0
change_each changes a (key ∷ keys) =
    (λ going.
    let row : Option Row = row_at (rows_at going.db (relation_of a)) key in
    change_if changes (relation_of a) (wish_for (schema_at going.db (relation_of a)) a key row) going)
    >>= λ one. change_each changes a keys >>= λ others. made (one + others)

-- an action to its end: an insert is one change, any other one of each row that matches when it starts
abbrev pub act : Changes → Action → Work ℕ
act changes (action.Insert relation terms) = changes relation (Put (flat_map const_of terms)) >>= λ _. made 1
act changes a = λ going. change_each changes a (matching going.db a) going

-- actions in their order, each to its end
abbrev pub act_all : Changes → List Action → Work (Unit {0})
act_all changes [] = made tt
act_all changes (a ∷ actions) = act changes a >>= λ _. act_all changes actions

-- ---- the attachments of a changed relation, in call order
abbrev pub attachments_at : Db → Name → List Attached
attachments_at db name = elim (relation_at db name) [ None ↦ [] | Some r ↦ r.attachments ]

-- the first that doesn't admit the change, over the changed database
abbrev pub vetoing : Extensions → Db → Name → Change → List Attached → Option Name
vetoing ext db name c [] = None
vetoing ext db name c (a ∷ others) = cond (admits (box_of ext a.rule) db name a.rule c) (vetoing ext db name c others) (Some a.name)

abbrev pub unless_vetoed : Name → Option Name → Work (Unit {0})
unless_vetoed name None = made tt
unless_vetoed name (Some attachment) = refuse (Veto name attachment)

-- what follows at once from all of them, what waits for the commit, and what is tested there
abbrev pub following : Db → Name → Change → List Action
following db name c = flat_map (λ a. follows db name a.rule c) (attachments_at db name)

abbrev pub waiting_actions : Db → Name → Change → List Action
waiting_actions db name c = flat_map (λ a. late_actions db name a.rule c) (attachments_at db name)

abbrev pub waiting_entries : Db → Name → Change → List Entry
waiting_entries db name c =
    flat_map (λ a. map (λ entry. record { relation = name; name = a.name; entry = entry }) (late_checks db name a.rule c)) (attachments_at db name)

abbrev pub queue_late : Name → Change → Going → Going
queue_late name c going = record going {
  queue = record {
    actions = going.queue.actions ++ waiting_actions going.db name c;
    entries = with_waiting going.queue.entries (waiting_entries going.db name c);
  };
}

-- ---- one change
abbrev pub key_after : Change → Option Key
key_after (change.Insert key new) = Some key
key_after (change.Delete key old) = None
key_after (change.Update from old to new) = Some to

-- the changed database, and the point between both
abbrev pub reach_change : Extensions → Name → Relation → Change → Going → Going
reach_change ext name r c going =
    let after : Db = changed going.db name c in
    record going {
      db = after;
      trail = with_point (record {
        before = going.db;
        after = after;
        change = Some (name, c);
        aside = going.gone;
        spent = going.trail.spent + change_cost ext going.db name r c;
      }) going.trail;
    }

-- the attachments test the change; what is late waits; what follows is done, each action to its end
abbrev pub answer_change : Extensions → Changes → Name → Change → Work (Option Key)
answer_change ext below name c =
    (λ going. unless_vetoed name (vetoing ext going.db name c (attachments_at going.db name)) going)
    >>= λ _. change_to (queue_late name c)
    >>= λ _. (λ going. act_all below (following going.db name c) going)
    >>= λ _. made (key_after c)

-- a change of a relation that is there, where the changes that follow are those one level down
abbrev pub one_change : Extensions → Changes → Name → Wish → Option Relation → Work (Option Key)
one_change ext below name wish None = no_step
one_change ext below name wish (Some r) =
    wished name r wish >>= λ c. change_to (reach_change ext name r c) >>= λ _. answer_change ext below name c

-- with so many levels left
abbrev pub change_within : Extensions → ℕ → Changes
change_within ext zero name wish = refuse Depth
change_within ext (suc levels) name wish = λ going. one_change ext (change_within ext levels) name wish (relation_at going.db name) going

-- a command's own change is at depth 1; one at depth 17 is refused
abbrev pub first_change : Extensions → Changes
first_change ext = change_within ext 16
