-- What the rules of a lawful database make of a change.
use Rattle.std.proofs.Common.{◌≡◌, ℕ, Bool, true, false, not, ◌&&◌, List, [], ◌∷◌, cond, Option, Some, None, refl, subst}
use Rattle.std.specs.Prelude.{All, filter, is_none}
use Rattle.std.specs.List.{flat_map}
use Rattle.std.specs.Str.{bytes_eq}
use Rattle.std.specs.declared.cmp.Ordering.{Ordering}
use Rattle.std.specs.declared.cmp.Ordering.TheVariants.{Less, Equal, Greater}
use Rattle.std.specs.FinMap.Entries.{by_order, put}
use Rattle.std.proofs.lemmas.List.Elements.{All-nil, All-cons, All-head, All-tail, All-map, All-append, All-weaker}
use Rattle.sb_value.specs.declared.schema.Column.{Column}
use Rattle.sb_value.specs.Order.{bytes_cmp}
use Rattle.sb_pred.specs.Tree.{Tree}
use Rattle.sb_pred.specs.Truth.{truth}
use Rattle.sb_rule.specs.Bound.{row_before, row_after, bound}
use Rattle.sb_rule.specs.declared.action.Action.{Action}
use Rattle.sb_rule.specs.declared.change.Change.{Change}
use Rattle.sb_rule.specs.declared.rule.Event.{Event}
use Rattle.sb_rule.specs.declared.rule.Mode.TheVariants.{Cascade}
use Rattle.sb_rule.specs.declared.rule.Side.TheVariants.{Mirror}
use Rattle.sb_rule.specs.declared.rule.Rule.{Rule}
use Rattle.sb_rule.specs.declared.rule.Rule.TheVariants.{Refers, Trigger}
use Rattle.sb_relation.specs.Buckets.{grown}
use Rattle.sb_relation.specs.Build.{mirror_of}
use Rattle.sb_relation.specs.Changes.{changed, changed_rows, with_change}
use Rattle.sb_relation.specs.Db.{Name, Key, Row, Rows, Attached, Relation, Db, relation_at, schema_at}
use Rattle.sb_relation.specs.Fits.{MayStand, other_relations, first_missing}
use Rattle.sb_relation.specs.Rules.{is_event, triggered, cascade, follows, late_actions, values_at, has_row_with, delete_those}
use Rattle.sb_fold.specs.Building.{without_attached, without_mirror, without_rule}
use Rattle.sb_fold.specs.Extensions.{Extensions, box_of}
use Rattle.sb_fold.specs.Fold.{attachments_at, following, waiting_actions}
use Rattle.sb_cascade.specs.Fitting.{AllFit}
use Rattle.sb_cascade.proofs.Commanding.{same_items}
use Rattle.sb_cascade.proofs.Following.{following-fits, waiting-fits}
use Rattle.sb_cascade.proofs.Staying.{SameColumns, itself, turned, then, still_stands}
use Rattle.sb_plain.specs.Lawful.{MayBeAttached, IsLawfulRelation, IsLawful}
use Rattle.sb_plain.specs.Printing.{is_mirror}
use Rattle.sb_plain.specs.Refusing.{unnamed}
use Rattle.sb_plain.proofs.ChangeLemmas.{changed_in}
use Rattle.sb_plain.proofs.SoundLemmas.{all_at, attached}
use Rattle.sb_lawful_rows.specs.Storable.{PutsStorable, RulePutsStorable, TriggersPutStorable}
use Rattle.sb_lawful_rows.specs.Work.{MayAct}
use Rattle.sb_lawful_rows.proofs.Storing.{HasRows, rows_fit, bound_puts, Brings, may_bring}

-- ---- a rule that could be attached may stand
same_detached : (db : Db) (name label : Name) → SameColumns db (without_attached db name label)
same_detached db name label = same_items db name (λ r. filter (λ a. not (bytes_eq a.name label)) r.attachments)

same_unmirrored : (db : Db) (relation label : Name) (mirror : Option (Name × Rule)) → SameColumns db (without_mirror relation label mirror db)
same_unmirrored db relation label None = itself db
same_unmirrored db relation label (Some (other, rule)) = same_detached db other _

same_without : (db : Db) (relation : Name) (gone : Attached) → SameColumns db (without_rule db relation gone)
same_without db relation gone =
    then db (without_attached db relation gone.name) (without_rule db relation gone) (same_detached db relation gone.name)
    (same_unmirrored (without_attached db relation gone.name) relation gone.name (mirror_of relation gone.rule))

rest_there : (db : Db) (name : Name) (names : List Name) → first_missing db (name ∷ names) ≡ None → first_missing db names ≡ None
rest_there db name names e = of_test (is_none (relation_at db name)) e
  where
    of_test : (b : Bool) → cond b (Some name) (first_missing db names) ≡ None → first_missing db names ≡ None
    of_test true none = absurd (cc)
    of_test false none = none

all_named : (place : Option (List Column × Name)) → unnamed place ≡ None → place ≡ None
all_named None e = refl
all_named (Some place) e = absurd (cc)

may_stand : (ext : Extensions) (db : Db) (name : Name) (a : Attached) → is_mirror a.rule ≡ false → MayBeAttached ext db name a → MayStand (box_of ext a.rule) db (schema_at db name) a.rule
may_stand ext db name a main may =
    let before : Db = without_rule db name a in
    let same : SameColumns before db = turned db before (same_without db name a) in
    subst (λ (s : List Column). MayStand (box_of ext a.rule) db s a.rule) (same.schema name)
    (still_stands (box_of ext a.rule) before db same (schema_at before name) a.rule (record {
      there = rest_there before name (other_relations a.rule) (may main).there;
      named = all_named _ (may main).named;
      fits = (may main).fits;
    }))

-- ---- triggers
triggered_puts : (schema : List Column) (on : Event) (pred : Tree) (act : Action) (c : Change) → HasRows schema c → PutsStorable act → All PutsStorable (triggered schema on pred act c)
triggered_puts schema on pred act c rows puts = of_test (is_event on c && truth schema (row_before c) (row_after c) pred)
  where
    of_test : (b : Bool) → All PutsStorable (cond b (bound schema c act ∷ []) [])
    of_test true = All-cons PutsStorable (bound schema c act) [] (bound_puts schema c rows act puts) (All-nil PutsStorable)
    of_test false = All-nil PutsStorable

both : (db : Db) (actions : List Action) → AllFit db actions → All PutsStorable actions → All (MayAct db) actions
both db actions fits puts = λ k d below. record { fits = fits k d below; puts = puts k d below }

follows_may : (ext : Extensions) (db : Db) (name label : Name) (buckets : ℕ) (c : Change) (on : Event) (pred : Tree) (act : Action) → MayBeAttached ext db name (attached label (Trigger on pred act false) buckets)
    → PutsStorable act → HasRows (schema_at db name) c → All (MayAct db) (triggered (schema_at db name) on pred act c)
follows_may ext db name label buckets c on pred act may puts rows =
    both db (triggered (schema_at db name) on pred act c)
    (following-fits (box_of ext (Trigger on pred act false)) db name (Trigger on pred act false) c (may_stand ext db name (attached label (Trigger on pred act false) buckets) refl may) (rows_fit (schema_at db name) c rows))
    (triggered_puts (schema_at db name) on pred act c rows puts)

waits_may : (ext : Extensions) (db : Db) (name label : Name) (buckets : ℕ) (c : Change) (on : Event) (pred : Tree) (act : Action) → MayBeAttached ext db name (attached label (Trigger on pred act true) buckets)
    → PutsStorable act → HasRows (schema_at db name) c → All (MayAct db) (triggered (schema_at db name) on pred act c)
waits_may ext db name label buckets c on pred act may puts rows =
    both db (triggered (schema_at db name) on pred act c)
    (waiting-fits (box_of ext (Trigger on pred act true)) db name (Trigger on pred act true) c (may_stand ext db name (attached label (Trigger on pred act true) buckets) refl may) (rows_fit (schema_at db name) c rows))
    (triggered_puts (schema_at db name) on pred act c rows puts)

-- ---- cascades bring nothing
cascade_brings : (db : Db) (name : Name) (columns : List Name) (other : Name) (others : List Name) (row : Option Row) → All (Brings db) (cascade db name columns other others row)
cascade_brings db name columns other others None = All-nil (Brings db)
cascade_brings db name columns other others (Some old) = of_test (has_row_with db name columns (values_at db name columns old))
  where
    of_test : (b : Bool) → All (Brings db) (cond b [] (delete_those other others (values_at db name columns old) ∷ []))
    of_test true = All-nil (Brings db)
    of_test false = All-cons (Brings db) (delete_those other others (values_at db name columns old)) [] tt (All-nil (Brings db))

-- ---- one rule
follows_bring : (ext : Extensions) (db : Db) (name label : Name) (buckets : ℕ) (c : Change) (rule : Rule) → MayBeAttached ext db name (attached label rule buckets) → RulePutsStorable rule
    → HasRows (schema_at db name) c → All (Brings db) (follows db name rule c)
follows_bring ext db name label buckets c (Refers Mirror columns other others Cascade deferred) may puts rows = cascade_brings db name columns other others (row_before c)
follows_bring ext db name label buckets c (Trigger on pred act false) may puts rows =
    All-weaker (MayAct db) (Brings db) (λ a is. may_bring db a is) (triggered (schema_at db name) on pred act c) (follows_may ext db name label buckets c on pred act may puts rows)
follows_bring ext db name label buckets c (Trigger on pred act true) may puts rows = All-nil (Brings db)
follows_bring ext db name label buckets c _ may puts rows = All-nil (Brings db)

late_may : (ext : Extensions) (db : Db) (name label : Name) (buckets : ℕ) (c : Change) (rule : Rule) → MayBeAttached ext db name (attached label rule buckets) → RulePutsStorable rule
    → HasRows (schema_at db name) c → All (MayAct db) (late_actions db name rule c)
late_may ext db name label buckets c (Trigger on pred act true) may puts rows = waits_may ext db name label buckets c on pred act may puts rows
late_may ext db name label buckets c (Trigger on pred act false) may puts rows = All-nil (MayAct db)
late_may ext db name label buckets c _ may puts rows = All-nil (MayAct db)

-- ---- all rules of a relation
all_flat : {A : Type 0} (P : Action → Type 0) (f : A → List Action) (items : List A) → All (λ x. All P (f x)) items → All P (flat_map f items)
all_flat P f [] all = All-nil P
all_flat P f (x ∷ items) all =
    All-append P (f x) (flat_map f items) (All-head (λ y. All P (f y)) x items all) (all_flat P f items (All-tail (λ y. All P (f y)) x items all))

-- each could be attached, and what it puts into rows can be stored
record IsSafe (ext : Extensions) (db : Db) (name : Name) (a : Attached) : Type 0 where
  may : MayBeAttached ext db name a
  puts : RulePutsStorable a.rule

abbrev pub RulesPut : Relation → Type 0
RulesPut r = All (λ a. RulePutsStorable a.rule) r.attachments

all_safe : (ext : Extensions) (db : Db) (name : Name) → IsLawful ext db → TriggersPutStorable db → All (IsSafe ext db name) (attachments_at db name)
all_safe ext db name lawful triggers = of_relation (relation_at db name) refl
  where
    of_relation : (o : Option Relation) → relation_at db name ≡ o → All (IsSafe ext db name) (elim o as (λ _. List Attached) [ None ↦ [] | Some r ↦ r.attachments ])
    of_relation None there = All-nil (IsSafe ext db name)
    of_relation (Some r) there = λ k d below. record {
      may = (all_at (IsLawfulRelation ext db) db name r lawful.relations there).attached k d below;
      puts = all_at (λ n q. RulesPut q) db name r triggers there k d below;
    }

pub following_brings : (ext : Extensions) (db : Db) (name : Name) (c : Change) → IsLawful ext db → TriggersPutStorable db → HasRows (schema_at db name) c → All (Brings db) (following db name c)
following_brings ext db name c lawful triggers rows =
    all_flat (Brings db) (λ a. follows db name a.rule c) (attachments_at db name)
    (All-weaker (IsSafe ext db name) (λ (a : Attached). All (Brings db) (follows db name a.rule c)) (λ a safe. follows_bring ext db name a.name a.buckets c a.rule safe.may safe.puts rows) (attachments_at db name)
    (all_safe ext db name lawful triggers))

pub waiting_may : (ext : Extensions) (db : Db) (name : Name) (c : Change) → IsLawful ext db → TriggersPutStorable db → HasRows (schema_at db name) c → All (MayAct db) (waiting_actions db name c)
waiting_may ext db name c lawful triggers rows =
    all_flat (MayAct db) (λ a. late_actions db name a.rule c) (attachments_at db name)
    (All-weaker (IsSafe ext db name) (λ (a : Attached). All (MayAct db) (late_actions db name a.rule c)) (λ a safe. late_may ext db name a.name a.buckets c a.rule safe.may safe.puts rows) (attachments_at db name)
    (all_safe ext db name lawful triggers))

-- ---- a change leaves the rules
pub put_all : {X : Type 0} (P : X → Type 0) (k : Key) (v : X) (es : List (Key × X)) → All (λ e. P e.1) es → P v → All (λ e. P e.1) (put bytes_cmp k v es)
put_all P k v [] all new = All-cons (λ e. P e.1) (k, v) [] new (All-nil _)
put_all {X = X} P k v (e ∷ es) all new = of_order (bytes_cmp k e.0) (put_all P k v es (All-tail (λ x. P x.1) e es all) new)
  where
    of_order : (o : Ordering) → All (λ x. P x.1) (put bytes_cmp k v es) → All (λ x. P x.1) (by_order o ((k, v) ∷ e ∷ es) ((e.0, v) ∷ es) (e ∷ put bytes_cmp k v es))
    of_order Less rest = All-cons (λ (x : Key × X). P x.1) (k, v) (e ∷ es) new all
    of_order Equal rest = All-cons (λ (x : Key × X). P x.1) (e.0, v) es new (All-tail (λ x. P x.1) e es all)
    of_order Greater rest = All-cons (λ (x : Key × X). P x.1) e (put bytes_cmp k v es) (All-head (λ x. P x.1) e es all) rest

pub triggers_stay : (db : Db) (name : Name) (c : Change) → TriggersPutStorable db → TriggersPutStorable (changed db name c)
triggers_stay db name c triggers = of_relation (relation_at db name) refl
  where
    of_relation : (o : Option Relation) → relation_at db name ≡ o → TriggersPutStorable (changed_in db name c o)
    of_relation None there = triggers
    of_relation (Some r) there =
        let rows : Rows = changed_rows r.rows c in
        put_all RulesPut name (with_change r c rows) db triggers
        (All-map (λ (a : Attached). RulePutsStorable a.rule) (grown c rows) r.attachments (all_at (λ n q. RulesPut q) db name r triggers there))
