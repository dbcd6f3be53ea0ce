-- Commands that build leave what triggers put into rows, and what may wait.
use Rattle.std.proofs.Common.{◌≡◌, ℕ, Bool, true, false, not, List, [], ◌∷◌, ◌++◌, Option, Some, None, option_map, is_some, refl, sym, ap, subst, ◌∙◌, arith}
use Rattle.std.specs.Prelude.{All, cond, filter, nat_le}
use Rattle.std.specs.List.{last_or}
use Rattle.std.specs.Option.{option_or}
use Rattle.std.specs.Str.{bytes_eq}
use Rattle.std.proofs.lemmas.List.Elements.{All-nil, All-cons, All-head, All-tail, All-append, All-filter, All-weaker}
use Rattle.sb_value.specs.declared.schema.Column.{Column}
use Rattle.sb_rule.specs.declared.action.Action.{Action}
use Rattle.sb_rule.specs.declared.rule.Side.TheVariants.{Main, Mirror}
use Rattle.sb_rule.specs.declared.rule.Rule.{Rule}
use Rattle.sb_rule.specs.declared.rule.Rule.TheVariants.{TreeIndex, HashIndex, JoinIndex, Stats, Check, Refers, Trigger, Foreign}
use Rattle.sb_rule.specs.Spelling.{rule_code}
use Rattle.sb_relation.specs.Buckets.{standing_buckets}
use Rattle.sb_relation.specs.Build.{mirror_name, mirror_of, with_instance, with_attached, with_mirror, with_rule}
use Rattle.sb_relation.specs.Db.{Name, Key, Rows, Attached, Relation, Db, relation_at, with_relation, rows_at}
use Rattle.sb_relation.specs.Rules.{holds}
use Rattle.sb_fold.specs.declared.refusal.Refusal.{Refusal}
use Rattle.sb_fold.specs.declared.refusal.Refusal.TheVariants as refusal
use Rattle.sb_fold.specs.Building as building
use Rattle.sb_fold.specs.Extensions.{Extensions, box_of}
use Rattle.sb_fold.specs.Finish.{drain_next, drain, first_failing, unless_failing, finish}
use Rattle.sb_fold.specs.Fold.{first_change, attachments_at}
use Rattle.sb_fold.specs.Outcome.{Going, Outcome, Gives, Stopped, NoStep, Work, made, continue, refuse_if, change_to, with_db, ◌>>=◌}
use Rattle.sb_cascade.specs.Fitting.{IsFitting}
use Rattle.sb_cascade.proofs.Commanding.{with_items, attaching-stays, detaching-stays, creating-stays}
use Rattle.sb_plain.specs.declared.command.Command.{Command}
use Rattle.sb_plain.specs.declared.command.Command.TheVariants as command
use Rattle.sb_plain.specs.Lawful.{IsLawful}
use Rattle.sb_plain.specs.Refusing.{refused, tests, refuse_where, some_where}
use Rattle.sb_plain.specs.State.{Codes, Transaction, State, view, has_waiting, going_of, kept}
use Rattle.sb_plain.specs.Step as step
use Rattle.sb_plain.proofs.SoundLemmas.{all_at}
use Rattle.sb_lawful_rows.specs.Laws.{BuildingLeavesLawful}
use Rattle.sb_lawful_rows.specs.Storable.{RulePutsStorable, TriggersPutStorable}
use Rattle.sb_lawful_rows.specs.States.{IsBuildingCommand, MayBeOpen, HasLawfulDatabases}
use Rattle.sb_lawful_rows.specs.Work.{MayAct, IsLawfulWith}
use Rattle.sb_lawful_rows.proofs.Following.{RulesPut, put_all}
use Rattle.sb_lawful_rows.proofs.Stepping.{with_one, when_spent, when_up, sees, none_of_them, start_may}

-- what the triggers of a database put into rows, and what waits
record MayWait (db : Db) (actions : List Action) : Type 0 where
  triggers : TriggersPutStorable db
  waiting : All (MayAct db) actions

all_may : (db other : Db) → ((a : Action) → IsFitting db a → IsFitting other a) → (actions : List Action) → All (MayAct db) actions → All (MayAct other) actions
all_may db other still actions all = All-weaker (MayAct db) (MayAct other) (λ a may. record { fits = still a may.fits; puts = may.puts }) actions all

-- ---- relations and rules that come
created : (db : Db) (name : Name) (method : ℕ) (schema : List Column) (key : List Name) (actions : List Action) → relation_at db name ≡ None → MayWait db actions
    → MayWait (with_relation db name (record { method = method; schema = schema; key = key; rows = []; attachments = [] })) actions
created db name method schema key actions new may =
    let r : Relation = record { method = method; schema = schema; key = key; rows = []; attachments = [] } in
    record {
      triggers = put_all RulesPut name r db may.triggers (All-nil (λ (a : Attached). RulePutsStorable a.rule));
      waiting = all_may db (with_relation db name r) (λ a fits. creating-stays db name r a new fits) actions may.waiting;
    }

items_put : (db : Db) (name : Name) (items : Relation → List Attached) → ((r : Relation) → RulesPut r → All (λ a. RulePutsStorable a.rule) (items r)) → TriggersPutStorable db
    → TriggersPutStorable (with_items db name items (relation_at db name))
items_put db name items keeps triggers = of_relation (relation_at db name) refl
  where
    of_relation : (o : Option Relation) → relation_at db name ≡ o → TriggersPutStorable (with_items db name items o)
    of_relation None there = triggers
    of_relation (Some r) there = put_all RulesPut name (record r { attachments = items r }) db triggers (keeps r (all_at (λ n q. RulesPut q) db name r triggers there))

all_with : (P : Attached → Type 0) (new : Attached) (items : List Attached) → P new → All P items → All P (with_instance new items)
all_with P new [] p all = All-cons P new [] p all
all_with P new (a ∷ items) p all = of_test (nat_le (rule_code a.rule) (rule_code new.rule)) (all_with P new items p (All-tail P a items all))
  where
    of_test : (b : Bool) → All P (with_instance new items) → All P (cond b (a ∷ with_instance new items) (new ∷ a ∷ items))
    of_test true rest = All-cons P a (with_instance new items) (All-head P a items all) rest
    of_test false rest = All-cons P new (a ∷ items) p all

attached_puts : (db : Db) (name label : Name) (rule : Rule) → RulePutsStorable rule → TriggersPutStorable db → TriggersPutStorable (with_attached db name label rule)
attached_puts db name label rule puts triggers =
    items_put db name (λ r. with_instance (record { name = label; rule = rule; buckets = standing_buckets rule r.rows }) r.attachments)
    (λ r all. all_with (λ a. RulePutsStorable a.rule) (record { name = label; rule = rule; buckets = standing_buckets rule r.rows }) r.attachments puts all) triggers

abbrev MirrorPuts : Option (Name × Rule) → Type 0
MirrorPuts None = Unit {0}
MirrorPuts (Some (other, rule)) = RulePutsStorable rule

mirror_puts : (name : Name) (rule : Rule) → MirrorPuts (mirror_of name rule)
mirror_puts name (JoinIndex Main columns other others) = tt
mirror_puts name (JoinIndex Mirror columns other others) = tt
mirror_puts name (Refers Main columns other others mode deferred) = tt
mirror_puts name (Refers Mirror columns other others mode deferred) = tt
mirror_puts name (TreeIndex columns unique) = tt
mirror_puts name (HashIndex columns) = tt
mirror_puts name (Stats column low width) = tt
mirror_puts name (Check pred deferred) = tt
mirror_puts name (Trigger on pred act deferred) = tt
mirror_puts name (Foreign code desc) = tt

with_mirror_puts : (db : Db) (relation label : Name) (mirror : Option (Name × Rule)) → MirrorPuts mirror → TriggersPutStorable db → TriggersPutStorable (with_mirror db relation label mirror)
with_mirror_puts db relation label None puts triggers = triggers
with_mirror_puts db relation label (Some (other, rule)) puts triggers = attached_puts db other (mirror_name relation label) rule puts triggers

attached_may : (db : Db) (relation label : Name) (rule : Rule) (actions : List Action) → RulePutsStorable rule → MayWait db actions → MayWait (with_rule db relation label rule) actions
attached_may db relation label rule actions puts may = record {
  triggers = with_mirror_puts (with_attached db relation label rule) relation label (mirror_of relation rule) (mirror_puts relation rule) (attached_puts db relation label rule puts may.triggers);
  waiting = all_may db (with_rule db relation label rule) (λ a fits. (attaching-stays db relation label rule a).1 fits) actions may.waiting;
}

-- ---- and that go
detached_puts : (db : Db) (name label : Name) → TriggersPutStorable db → TriggersPutStorable (building.without_attached db name label)
detached_puts db name label triggers =
    items_put db name (λ r. filter (λ a. not (bytes_eq a.name label)) r.attachments)
    (λ r all. All-filter (λ a. not (bytes_eq a.name label)) (λ a. RulePutsStorable a.rule) r.attachments all) triggers

without_mirror_puts : (db : Db) (relation label : Name) (mirror : Option (Name × Rule)) → TriggersPutStorable db → TriggersPutStorable (building.without_mirror relation label mirror db)
without_mirror_puts db relation label None triggers = triggers
without_mirror_puts db relation label (Some (other, rule)) triggers = detached_puts db other (mirror_name relation label) triggers

detached_may : (db : Db) (relation : Name) (gone : Attached) (actions : List Action) → MayWait db actions → MayWait (building.without_rule db relation gone) actions
detached_may db relation gone actions may = record {
  triggers = without_mirror_puts (building.without_attached db relation gone.name) relation gone.name (mirror_of relation gone.rule) (detached_puts db relation gone.name may.triggers);
  waiting = all_may db (building.without_rule db relation gone) (λ a fits. (detaching-stays db relation gone a).1 fits) actions may.waiting;
}

without_mirrors_put : (relation : Name) (items : List Attached) (db : Db) → TriggersPutStorable db → TriggersPutStorable (building.without_mirrors relation items db)
without_mirrors_put relation [] db triggers = triggers
without_mirrors_put relation (a ∷ items) db triggers =
    without_mirrors_put relation items (building.without_mirror_of relation a db) (without_mirror_puts db relation a.name (mirror_of relation a.rule) triggers)

dropped_puts : (db : Db) (name : Name) → TriggersPutStorable db → TriggersPutStorable (building.without_relation db name)
dropped_puts db name triggers =
    All-filter (λ e. not (bytes_eq e.0 name)) (λ e. RulesPut e.1) (building.without_mirrors name (attachments_at db name) db) (without_mirrors_put name (attachments_at db name) db triggers)

-- ---- what building gives
abbrev OfGiven : {A : Type 0} → (Going → Type 0) → Outcome A → Type 0
OfGiven P (Gives x g) = P g
OfGiven P (Stopped r trail) = Unit {0}
OfGiven P (NoStep trail) = Unit {0}

of_next : {A B : Type 0} (P Q : Going → Type 0) (o : Outcome A) (next : A → Work B) → OfGiven P o → ((x : A) (g : Going) → P g → OfGiven Q (next x g)) → OfGiven Q (continue next o)
of_next P Q (Gives x g) next given then = then x g given
of_next P Q (Stopped r trail) next given then = tt
of_next P Q (NoStep trail) next given then = tt

-- nothing more waits
record Built (old new : Going) : Type 0 where
  may : MayWait new.db old.queue.actions
  queue : new.queue ≡ old.queue

db_rows : (ext : Extensions) (name : Name) (rule : Rule) (rows : Rows) (buckets : ℕ) (built : Rows) (g : Going) → (building.build_rows ext name rule buckets built rows g).db ≡ g.db
db_rows ext name rule [] buckets built g = refl
db_rows ext name rule (row ∷ rows) buckets built g = db_rows ext name rule rows _ _ _

queue_rows : (ext : Extensions) (name : Name) (rule : Rule) (rows : Rows) (buckets : ℕ) (built : Rows) (g : Going) → (building.build_rows ext name rule buckets built rows g).queue ≡ g.queue
queue_rows ext name rule [] buckets built g = refl
queue_rows ext name rule (row ∷ rows) buckets built g = queue_rows ext name rule rows _ _ _

build_gives : (ext : Extensions) (relation name : Name) (rule : Rule) (g : Going) → RulePutsStorable rule → MayWait g.db g.queue.actions → OfGiven (Built g) (building.build ext relation name rule g)
build_gives ext relation name rule g puts may = of_long (building.has_long_row built.db relation rule)
  where
    built : Going
    built = building.reach_build ext relation rule g

    whole : Built g (with_db (with_rule built.db relation name rule) built)
    whole = record {
      may = subst (λ (d : Db). MayWait (with_rule d relation name rule) g.queue.actions) (sym (db_rows ext relation rule (rows_at g.db relation) _ [] _)) (attached_may g.db relation name rule g.queue.actions puts may);
      queue = queue_rows ext relation rule (rows_at g.db relation) _ [] _;
    }

    of_holds : (b : Bool) → OfGiven (Built g) (continue (λ _. change_to (λ going. with_db (with_rule going.db relation name rule) going)) (refuse_if b (refusal.Veto relation name) built))
    of_holds true = tt
    of_holds false = whole

    of_long : (b : Bool) → OfGiven (Built g)
        (continue (λ _. ((λ going. refuse_if (not (holds (box_of ext rule) going.db relation rule)) (refusal.Veto relation name) going)
        >>= λ _. change_to (λ going. with_db (with_rule going.db relation name rule) going))) (refuse_if b (refusal.TooLong relation) built))
    of_long true = tt
    of_long false = of_holds (not (holds (box_of ext rule) built.db relation rule))

detach_gives : (ext : Extensions) (relation name : Name) (g : Going) → MayWait g.db g.queue.actions → OfGiven (Built g) (building.detach ext relation name g)
detach_gives ext relation name g may = of_rule (building.rule_at g.db relation name)
  where
    of_rule : (o : Option Attached) → Built g (building.detach_one ext relation o g)
    of_rule None = record { may = may; queue = refl }
    of_rule (Some a) = record { may = detached_may g.db relation a g.queue.actions may; queue = refl }

-- a relation is dropped where nothing waits
drop_gives : (ext : Extensions) (name : Name) (g : Going) → g.queue.actions ≡ [] → MayWait g.db g.queue.actions → OfGiven (Built g) (building.drop_relation ext name g)
drop_gives ext name g none may = record {
  may = record { triggers = dropped_puts g.db name may.triggers; waiting = subst (All (MayAct (building.without_relation g.db name))) (sym none) (All-nil _) };
  queue = refl;
}

-- ---- turns
-- where nothing waits, nothing is done before a commit
finish_same : (ext : Extensions) (g : Going) → g.queue.actions ≡ [] → OfGiven (λ h. h.db ≡ g.db) (finish ext g)
finish_same ext g none = of_actions g.queue.actions none
  where
    of_failing : (failing : Option (Name × Name)) → OfGiven (λ h. h.db ≡ g.db) (unless_failing failing g)
    of_failing None = refl
    of_failing (Some (relation, name)) = tt

    of_actions : (actions : List Action) → actions ≡ []
        → OfGiven (λ h. h.db ≡ g.db) (continue (λ _ going. unless_failing (first_failing ext going.db going.db) going) (drain_next (first_change ext) (drain ext 999) actions g))
    of_actions [] e = of_failing (first_failing ext g.db g.db)
    of_actions (a ∷ actions) e = absurd (cc)

last_more : (before : Option Db) (dbs : List Db) (db : Db) → last_or before (dbs ++ db ∷ []) ≡ Some db
last_more before [] db = refl
last_more before (d ∷ dbs) db = last_more (Some d) dbs db

abbrev state_of : step.Turn → State
state_of turn = turn.state

abbrev db_or : Option Db → Db
db_or None = []
db_or (Some db) = db

committed_turn : (ext : Extensions) (s : State) (o : Outcome step.Answer) → OfGiven (λ g. TriggersPutStorable g.db) o → IsLawful ext (view (state_of (step.turn_of (step.commit_of s) s o)))
    → HasLawfulDatabases ext s → HasLawfulDatabases ext (state_of (step.turn_of (step.commit_of s) s o))
committed_turn ext s (Gives answer g) triggers seen lawful = record {
  commits =
      All-append (λ db. IsLawfulWith ext db []) s.commits (g.db ∷ []) lawful.commits
      (All-cons (λ db. IsLawfulWith ext db []) g.db []
      (record { lawful = subst (λ (o : Option Db). IsLawful ext (db_or o)) (last_more None s.commits g.db) seen; triggers = triggers; waiting = All-nil _ }) (All-nil (λ db. IsLawfulWith ext db [])));
  open_one = tt;
}
committed_turn ext s (Stopped r trail) triggers seen lawful = when_spent ext trail.spent s lawful
committed_turn ext s (NoStep trail) triggers seen lawful = lawful

kept_turn : (ext : Extensions) (s : State) (t : Transaction) (start : Going) (o : Outcome step.Answer) → OfGiven (Built start) o → IsLawful ext (view (state_of (step.turn_of (kept s t.points) s o)))
    → HasLawfulDatabases ext s → MayBeOpen ext (Some t) → HasLawfulDatabases ext (state_of (step.turn_of (kept s t.points) s o))
kept_turn ext s t start (Gives answer g) built seen lawful open_one =
    with_one ext s _ lawful (record {
      stands = record {
        lawful = seen;
        triggers = built.may.triggers;
        waiting = subst (λ q. All (MayAct g.db) q.actions) (sym built.queue) built.may.waiting;
      };
      points = open_one.points;
    })
kept_turn ext s t start (Stopped r trail) built seen lawful open_one = when_spent ext trail.spent s lawful
kept_turn ext s t start (NoStep trail) built seen lawful open_one = lawful

in_building : (ext : Extensions) (s : State) (picks : List Key) (work : Work step.Answer) (transaction : Option Transaction) → s.transaction ≡ transaction → OfGiven (Built (going_of s picks)) (work (going_of s picks))
    → HasLawfulDatabases ext s → MayBeOpen ext transaction
    → IsLawful ext (view (state_of (elim transaction [
      | None ↦ step.turn_of (step.commit_of s) s (step.finished ext work (going_of s picks))
      | Some t ↦ step.turn_of (kept s t.points) s (work (going_of s picks))
    ])))
    → HasLawfulDatabases ext (state_of (elim transaction [
      | None ↦ step.turn_of (step.commit_of s) s (step.finished ext work (going_of s picks))
      | Some t ↦ step.turn_of (kept s t.points) s (work (going_of s picks))
    ]))
in_building ext s picks work None none given lawful open_one seen =
    committed_turn ext s (step.finished ext work (going_of s picks))
    (of_next (Built (going_of s picks)) (λ h. TriggersPutStorable h.db) (work (going_of s picks)) (λ answer. (λ g. continue (λ _. step.freeing answer) (finish ext g))) given
    (λ answer g built.
    of_next (λ h. h.db ≡ g.db) (λ h. TriggersPutStorable h.db) (finish ext g) (λ _. step.freeing answer)
    (finish_same ext g (ap (λ q. q.actions) built.queue ∙ ap (λ (t : Option Transaction). (going_of (record s { transaction = t }) picks).queue.actions) none))
    (λ _ h same. subst TriggersPutStorable (sym same) built.may.triggers))) seen lawful
in_building ext s picks work (Some t) some given lawful open_one seen = kept_turn ext s t (going_of s picks) (work (going_of s picks)) given seen lawful open_one

-- a command whose work builds
building_turn : (ext : Extensions) (s : State) (picks : List Key) (work : Work (Unit {0})) → OfGiven (Built (going_of s picks)) (work (going_of s picks)) → HasLawfulDatabases ext s
    → IsLawful ext (view (step.changing ext s picks (step.plainly work)).state) → HasLawfulDatabases ext (step.changing ext s picks (step.plainly work)).state
building_turn ext s picks work given lawful seen =
    in_building ext s picks (step.plainly work) s.transaction refl
    (of_next (Built (going_of s picks)) (Built (going_of s picks)) (work (going_of s picks)) (λ _. made step.Plain) given (λ _ g built. built)) lawful lawful.open_one seen

-- ---- what a command that isn't refused may take for granted
not_some : (b : Bool) (name : Name) (rest : Option Name) → option_map refusal.Exists (option_or (some_where b name) rest) ≡ None → b ≡ false
not_some true name rest e = absurd (cc)
not_some false name rest e = refl

is_absent : (o : Option Relation) → is_some o ≡ false → o ≡ None
is_absent None e = refl
is_absent (Some r) e = absurd (cc)

is_new : (ext : Extensions) (s : State) (relation : Name) (method : ℕ) (schema : List Column) (key : List Name) → refused ext s (command.Create relation method schema key) ≡ None
    → relation_at (view s) relation ≡ None
is_new ext s relation method schema key none =
    is_absent (relation_at (view s) relation)
    (not_some (is_some (relation_at (view s) relation)) relation _ (none_of_them (tests ext s (command.Create relation method schema key)) none 3 None (omega arith)))

not_refused : (b : Bool) (r : Refusal) → refuse_where b r ≡ None → b ≡ false
not_refused true r e = absurd (cc)
not_refused false r e = refl

nothing_waits : (actions : List Action) → (elim actions as (λ _. Bool) [ [] ↦ false | a ∷ others ↦ true ]) ≡ false → actions ≡ []
nothing_waits [] e = refl
nothing_waits (a ∷ actions) e = absurd (cc)

going_waits : (live spare : Codes) (commits : List Db) (down : Bool) (transaction : Option Transaction) (picks : List Key)
    → has_waiting (record { live = live; spare = spare; commits = commits; transaction = transaction; down = down }) ≡ false
    → (going_of (step.if_up (record { live = live; spare = spare; commits = commits; transaction = transaction; down = down })) picks).queue.actions ≡ []
going_waits live spare commits true None picks e = refl
going_waits live spare commits true (Some t) picks e = nothing_waits t.queue.actions e
going_waits live spare commits false None picks e = refl
going_waits live spare commits false (Some t) picks e = nothing_waits t.queue.actions e

none_waits : (ext : Extensions) (s : State) (relation : Name) (picks : List Key) → refused ext s (command.Drop relation) ≡ None → (going_of (step.if_up s) picks).queue.actions ≡ []
none_waits ext s relation picks none =
    going_waits s.live s.spare s.commits s.down s.transaction picks (not_refused (has_waiting s) refusal.State (none_of_them (tests ext s (command.Drop relation)) none 1 None (omega arith)))

-- ---- the commands
built_command : (ext : Extensions) (s : State) (c : Command) (picks : List Key) → refused ext s c ≡ None → IsBuildingCommand c → HasLawfulDatabases ext (step.if_up s)
    → IsLawful ext (view (step.carry_out ext (step.if_up s) c picks (step.work_of ext c)).state) → HasLawfulDatabases ext (step.carry_out ext (step.if_up s) c picks (step.work_of ext c)).state
built_command ext s (command.Create relation method schema key) picks none is lawful seen =
    let start : Going = going_of (step.if_up s) picks in
    let may : IsLawfulWith ext start.db start.queue.actions = start_may ext (step.if_up s) picks lawful in
    building_turn ext (step.if_up s) picks (building.create ext relation method schema key)
    (record {
      may =
          created start.db relation method schema key start.queue.actions (ap (λ (d : Db). relation_at d relation) (sees s picks) ∙ is_new ext s relation method schema key none)
          (record { triggers = may.triggers; waiting = may.waiting });
      queue = refl;
    }) lawful seen
built_command ext s (command.Drop relation) picks none is lawful seen =
    let start : Going = going_of (step.if_up s) picks in
    let may : IsLawfulWith ext start.db start.queue.actions = start_may ext (step.if_up s) picks lawful in
    building_turn ext (step.if_up s) picks (building.drop_relation ext relation)
    (drop_gives ext relation start (none_waits ext s relation picks none) (record { triggers = may.triggers; waiting = may.waiting })) lawful seen
built_command ext s (command.Attach relation name rule) picks none is lawful seen =
    let start : Going = going_of (step.if_up s) picks in
    let may : IsLawfulWith ext start.db start.queue.actions = start_may ext (step.if_up s) picks lawful in
    building_turn ext (step.if_up s) picks (building.build ext relation name rule)
    (build_gives ext relation name rule start is (record { triggers = may.triggers; waiting = may.waiting })) lawful seen
built_command ext s (command.Detach relation name) picks none is lawful seen =
    let start : Going = going_of (step.if_up s) picks in
    let may : IsLawfulWith ext start.db start.queue.actions = start_may ext (step.if_up s) picks lawful in
    building_turn ext (step.if_up s) picks (building.detach ext relation name)
    (detach_gives ext relation name start (record { triggers = may.triggers; waiting = may.waiting })) lawful seen
built_command ext s _ picks none is lawful seen = absurd is

built_tested : (ext : Extensions) (s : State) (c : Command) (picks : List Key) (first : Option Refusal) → refused ext s c ≡ first → IsBuildingCommand c → HasLawfulDatabases ext (step.if_up s)
    → IsLawful ext (view (step.tested ext (step.if_up s) c picks first).state) → HasLawfulDatabases ext (step.tested ext (step.if_up s) c picks first).state
built_tested ext s c picks None none is lawful seen = built_command ext s c picks none is lawful seen
built_tested ext s c picks (Some r) none is lawful seen = lawful

pub building-leaves : BuildingLeavesLawful
building-leaves ext s c picks is seen lawful = built_tested ext s c picks (refused ext s c) refl is (when_up ext s lawful) seen
