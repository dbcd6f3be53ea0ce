-- What a trigger answers to each call is what its rule says.
use Rattle.std.proofs.Common.{◌≡◌, Bool, true, false, cond, List, [], ◌∷◌, ℕ, inl, inr, refl, ap, sym, ◌∙◌, subst, arith}
use Rattle.sb_value.specs.declared.schema.Column.{Column}
use Rattle.sb_pred.specs.Tree.{Tree}
use Rattle.sb_rule.specs.Bound.{bound}
use Rattle.sb_rule.specs.declared.action.Action.{Action}
use Rattle.sb_rule.specs.declared.change.Change.{Change}
use Rattle.sb_rule.specs.declared.rule.Event.{Event}
use Rattle.sb_rule.specs.declared.rule.Rule.{Rule}
use Rattle.sb_rule.specs.declared.rule.Rule.TheVariants.{Trigger, Foreign}
use Rattle.sb_rule.specs.Spelling.{SpellsRule}
use Rattle.sb_relation.specs.Changes.{changed}
use Rattle.sb_relation.specs.Content.{no_content}
use Rattle.sb_relation.specs.Db.{Key, Row, Db, schema_at}
use Rattle.sb_relation.specs.Rules.{triggered}
use Rattle.sb_forms.specs.Pages.{Pages}
use Rattle.sb_ctx.specs.declared.instance.Instance.{Instance}
use Rattle.sb_ctx.specs.declared.calls.AttachCall.TheVariants as call
use Rattle.sb_ctx.specs.declared.moves.Move.{Move}
use Rattle.sb_ctx.specs.declared.moves.Move.TheVariants.{Done}
use Rattle.sb_ctx.specs.View.{View, IsClean}
use Rattle.sb_ctx.specs.Attachment.{StandsOn}
use Rattle.sb_ctx.specs.AttachAnswers.{Answers, Changes, Looks, Changed, BeforeBuild, Built, BeforeChange, Late, first_content}
use Rattle.sb_rules.specs.Pageless.{IsOrMemory}
use Rattle.sb_rules.specs.Triggers.{trigger, KeepsTrigger, meets, acted}
use Rattle.sb_rules.proofs.Meaning.{changes, looks, Changes-memory}
use Rattle.sb_rules.proofs.Stood.{schema_stays}

-- every rule of its code is a trigger
pub each_trigger : (P : Rule → Type 0) (bytes : List ℕ) → ((on : Event) (pred : Tree) (act : Action) (deferred : Bool) → P (Trigger on pred act deferred))
    → (rule : Rule) → SpellsRule 7 bytes rule → P rule
each_trigger P bytes each (Trigger on pred act deferred) spells = each on pred act deferred
each_trigger P bytes each (Foreign code desc) spells = let coded = spells.coded in let limited = spells.limited in absurd (omega (arith, coded, limited))
each_trigger P bytes each _ spells = let coded = spells.coded in cc

-- ---- calls that make nothing
pub first_none : (inst : Instance) (rule : Rule) (db : Db) → StandsOn trigger inst rule db → first_content trigger inst rule db ≡ no_content
first_none inst rule db stands = each_trigger (λ r. first_content trigger inst r db ≡ no_content) inst.desc (λ on pred act deferred. refl) rule stands.spelled

pub Changes-built : (inst : Instance) (key : Key) (row : Row) (old : View) → IsClean old → Changes trigger inst (call.Build key row) old old Done
Changes-built inst key row old clean = changes 7 inst (call.Build key row) old Done clean tt tt tt (λ P rule db stands rows buckets.
    each_trigger (λ r. BeforeBuild trigger inst r db rows buckets key row old P → Built trigger inst r db rows buckets key row P Done) inst.desc
    (λ on pred act deferred before. (refl, before.content)) rule stands.spelled)

pub Looks-late : (inst : Instance) (entry : List ℕ) (old : View) → Looks trigger inst (call.Late entry) old old Done
Looks-late inst entry old = looks 7 inst entry old Done tt tt tt tt (λ P rule db stands buckets before.
    each_trigger (λ r. Late trigger inst r db entry Done) inst.desc (λ on pred act deferred. refl) rule stands.spelled)

-- ---- a change
-- the answer of the trigger that is kept is that of the rule
of_rule : (inst : Instance) (on : Event) (pred : Tree) (act : Action) (deferred : Bool) (ch : Change) (old : View) (P : Pages) (move : Move) → KeepsTrigger inst on pred act deferred
    → ((db : Db) (buckets : ℕ) → schema_at (changed db inst.relation ch) inst.relation ≡ inst.schema → BeforeChange trigger inst (Trigger on pred act deferred) db buckets ch old P
    → Changed trigger inst (Trigger on pred act deferred) db buckets ch P move) → (rule : Rule) (db : Db) → StandsOn trigger inst rule db → (buckets : ℕ)
    → BeforeChange trigger inst rule db buckets ch old P → Changed trigger inst rule db buckets ch P move
of_rule inst on pred act deferred ch old P move keeps answer rule db stands buckets =
    let F : Rule → Type 0 = λ r. BeforeChange trigger inst r db buckets ch old P → Changed trigger inst r db buckets ch P move in
    subst F (sym (keeps rule stands.spelled)) (answer db buckets (schema_stays trigger inst rule db ch stands))

-- what it does, where it is set off or not
done_where : (schema : List Column) (on : Event) (pred : Tree) (act : Action) (ch : Change) (t : Bool) → meets schema on pred ch ≡ t → triggered schema on pred act ch ≡ cond t (bound schema ch act ∷ []) []
done_where schema on pred act ch t is = ap (λ b. cond b (bound schema ch act ∷ []) []) is

done_in : (schema other : List Column) (on : Event) (pred : Tree) (act : Action) (ch : Change) (t : Bool) → other ≡ schema → meets schema on pred ch ≡ t
    → triggered other on pred act ch ≡ cond t (bound schema ch act ∷ []) []
done_in schema other on pred act ch t same is = ap (λ s. triggered s on pred act ch) same ∙ done_where schema on pred act ch t is

both_none : (deferred : Bool) (xs : List Action) → xs ≡ [] → (cond deferred [] xs ≡ []) × (cond deferred xs [] ≡ [])
both_none true xs e = (refl, e)
both_none false xs e = (e, refl)

passed_over : (inst : Instance) (on : Event) (pred : Tree) (act : Action) (deferred : Bool) (ch : Change) (old : View) (P : Pages) → KeepsTrigger inst on pred act deferred
    → meets inst.schema on pred ch ≡ false → Answers trigger inst (call.Changed ch) old P P Done
passed_over inst on pred act deferred ch old P keeps missed = of_rule inst on pred act deferred ch old P Done keeps (λ db buckets schema before.
    let nothing = both_none deferred (triggered (schema_at (changed db inst.relation ch) inst.relation) on pred act ch) (done_in inst.schema (schema_at (changed db inst.relation ch) inst.relation) on pred act ch false schema missed) in
    record { admitted = refl; holds = before.content; now_are = sym nothing.0; late_are = sym nothing.1; checks_are = refl })

pub Changes-passed : (inst : Instance) (ch : Change) (old : View) (on : Event) (pred : Tree) (act : Action) (deferred : Bool) → IsClean old → KeepsTrigger inst on pred act deferred
    → meets inst.schema on pred ch ≡ false → Changes trigger inst (call.Changed ch) old old Done
Changes-passed inst ch old on pred act deferred clean keeps missed =
    changes 7 inst (call.Changed ch) old Done clean tt tt tt (λ P. passed_over inst on pred act deferred ch old P keeps missed)

set_off : (inst : Instance) (on : Event) (pred : Tree) (act : Action) (deferred : Bool) (ch : Change) (old : View) (P : Pages) → KeepsTrigger inst on pred act deferred
    → meets inst.schema on pred ch ≡ true → Answers trigger inst (call.Changed ch) old P P (acted deferred (bound inst.schema ch act))
set_off inst on pred act false ch old P keeps met = of_rule inst on pred act false ch old P (acted false (bound inst.schema ch act)) keeps (λ db buckets schema before. record {
  admitted = refl;
  holds = before.content;
  now_are = sym (done_in inst.schema (schema_at (changed db inst.relation ch) inst.relation) on pred act ch true schema met);
  late_are = refl;
  checks_are = refl;
})
set_off inst on pred act true ch old P keeps met = of_rule inst on pred act true ch old P (acted true (bound inst.schema ch act)) keeps (λ db buckets schema before. record {
  admitted = refl;
  holds = before.content;
  now_are = refl;
  late_are = sym (done_in inst.schema (schema_at (changed db inst.relation ch) inst.relation) on pred act ch true schema met);
  checks_are = refl;
})

acts : (inst : Instance) (ch : Change) (old : View) (on : Event) (pred : Tree) (act : Action) (deferred : Bool) → IsClean old → KeepsTrigger inst on pred act deferred
    → meets inst.schema on pred ch ≡ true → Changes trigger inst (call.Changed ch) old old (acted deferred (bound inst.schema ch act))
acts inst ch old on pred act false clean keeps met = changes 7 inst (call.Changed ch) old (acted false (bound inst.schema ch act)) clean tt tt tt (λ P. set_off inst on pred act false ch old P keeps met)
acts inst ch old on pred act true clean keeps met = changes 7 inst (call.Changed ch) old (acted true (bound inst.schema ch act)) clean tt tt tt (λ P. set_off inst on pred act true ch old P keeps met)

pub Changes-acted : (inst : Instance) (ch : Change) (old : View) (on : Event) (pred : Tree) (act done : Action) (deferred : Bool) (move : Move) → IsClean old → KeepsTrigger inst on pred act deferred
    → meets inst.schema on pred ch ≡ true → done ≡ bound inst.schema ch act → IsOrMemory (acted deferred done) move → Changes trigger inst (call.Changed ch) old old move
Changes-acted inst ch old on pred act done deferred move clean keeps met binds (inr memory) =
    subst (λ m. Changes trigger inst (call.Changed ch) old old m) (sym memory) (Changes-memory 7 inst ch old clean)
Changes-acted inst ch old on pred act done deferred move clean keeps met binds (inl is) =
    subst (λ m. Changes trigger inst (call.Changed ch) old old m) (sym (is ∙ ap (acted deferred) binds)) (acts inst ch old on pred act deferred clean keeps met)
