-- What a check answers to each call is what its rule says.
use Rattle.std.proofs.Common.{◌≡◌, ℕ, ◌==◌, Bool, true, false, not, ◌||◌, cond, List, [], length, Option, Some, None, inl, inr, refl, ap, sym, ◌∙◌, subst}
use Rattle.std.specs.List.{list_any, list_all}
use Rattle.std.proofs.lemmas.Bool.{not-true, not-false}
use Rattle.sb_codec.specs.Tuples.{IsTuple, tuple_spelling}
use Rattle.sb_value.specs.Fits.{Fits}
use Rattle.sb_pred.specs.Tree.{Tree}
use Rattle.sb_pred.specs.Truth.{truth}
use Rattle.sb_rule.specs.Bound.{row_after}
use Rattle.sb_rule.specs.declared.change.Change.{Change}
use Rattle.sb_rule.specs.declared.change.Change.TheVariants as change
use Rattle.sb_rule.specs.declared.rule.Rule.{Rule}
use Rattle.sb_rule.specs.declared.rule.Rule.TheVariants.{Check}
use Rattle.sb_relation.specs.Changes.{changed, of_new}
use Rattle.sb_relation.specs.Content.{no_content}
use Rattle.sb_relation.specs.Db.{Name, Key, Row, Db, rows_at, schema_at, values_in}
use Rattle.sb_relation.specs.Foreign.{plain_rules}
use Rattle.sb_relation.specs.Rules.{holds, entry_of, entry_fails, has_values}
use Rattle.sb_relation.specs.Lawful.{IsRow}
use Rattle.sb_forms.specs.Pages.{Pages}
use Rattle.sb_ctx.specs.declared.instance.Instance.{Instance}
use Rattle.sb_ctx.specs.declared.calls.AttachCall.TheVariants as call
use Rattle.sb_ctx.specs.declared.moves.Move.{Move}
use Rattle.sb_ctx.specs.declared.moves.Move.TheVariants.{Done, Veto, NoMemory}
use Rattle.sb_ctx.specs.View.{View, IsClean, FoundIn, found_of}
use Rattle.sb_ctx.specs.Attachment.{StandsOn}
use Rattle.sb_ctx.specs.AttachAnswers.{Answers, Ends, AsksFor, Reads, MayEnd, Changes, Looks, Changed, Built, BeforeBuild, BeforeChange, first_content}
use Rattle.sb_rules.specs.Pageless.{IsOrMemory}
use Rattle.sb_rules.specs.Checks.{check, AreNames, Keeps, verdict_of, queued, asked, IsAsked}
use Rattle.sb_rules.proofs.Entries.{fails_at, none_fails, whole_fails, none_stands_so, no_keys, found_keys}
use Rattle.sb_rules.proofs.Meaning.{AsksNoPage, changes, looks, Looks-memory}
use Rattle.sb_rules.proofs.Stood.{schema_is, schema_stays, rows_are}

abbrev passes : Instance → Tree → Row → Bool
passes inst pred row = truth inst.schema None (Some row) pred

-- ---- verdicts
no_page : (t : Bool) → AsksNoPage (verdict_of t)
no_page true = tt
no_page false = tt

pub asks_nothing : (c : View) (t : Bool) → AsksFor c (verdict_of t)
asks_nothing c true = tt
asks_nothing c false = tt

reads_late : (entry : List ℕ) (t : Bool) → Reads (call.Late entry) (verdict_of t)
reads_late entry true = tt
reads_late entry false = tt

ends_late : (entry : List ℕ) (t : Bool) → MayEnd (call.Late entry) (verdict_of t)
ends_late entry true = tt
ends_late entry false = tt

ends_build : (key : Key) (row : Row) (t : Bool) → MayEnd (call.Build key row) (verdict_of t)
ends_build key row true = tt
ends_build key row false = tt

ends_change : (ch : Change) (t : Bool) → MayEnd (call.Changed ch) (verdict_of t)
ends_change ch true = tt
ends_change ch false = tt

-- ---- a row that is built
built : (inst : Instance) (pred : Tree) (deferred : Bool) (key : Key) (row : Row) (old : View) (P : Pages) (t : Bool) → Keeps inst pred deferred → passes inst pred row ≡ t
    → Answers check inst (call.Build key row) old P P (verdict_of t)
built inst pred deferred key row old P true keeps is = λ rule db stands rows buckets.
    let F : Rule → Type 0 = λ r. BeforeBuild check inst r db rows buckets key row old P → Built check inst r db rows buckets key row P Done in
    subst F (sym (keeps rule stands.spelled)) (λ before. (ap (λ s. truth s None (Some row) pred) (schema_is check inst rule db stands) ∙ is, before.content))
built inst pred deferred key row old P false keeps is = λ rule db stands rows buckets.
    let F : Rule → Type 0 = λ r. BeforeBuild check inst r db rows buckets key row old P → Built check inst r db rows buckets key row P Veto in
    subst F (sym (keeps rule stands.spelled)) (λ before. (ap (λ s. truth s None (Some row) pred) (schema_is check inst rule db stands) ∙ is, (_, before.content)))

pub Changes-built : (inst : Instance) (pred : Tree) (deferred : Bool) (key : Key) (row : Row) (old : View) (move : Move) → IsClean old → Keeps inst pred deferred
    → move ≡ verdict_of (passes inst pred row) → Changes check inst (call.Build key row) old old move
Changes-built inst pred deferred key row old move clean keeps is =
    let t = passes inst pred row in
    subst (λ m. Changes check inst (call.Build key row) old old m) (sym is)
    (changes 5 inst (call.Build key row) old (verdict_of t) clean (no_page t) (asks_nothing old t) (ends_build key row t) (λ P. built inst pred deferred key row old P t keeps refl))

-- ---- a change
of_new_row : (ch : Change) (row : Row) (f : Row → Bool) → row_after ch ≡ Some row → of_new ch (λ key new. f new) ≡ f row
of_new_row (change.Delete key old) row f e = cc
of_new_row (change.Insert key new) row f e = let same : new ≡ row = cc in ap f same
of_new_row (change.Update from old to new) row f e = let same : new ≡ row = cc in ap f same

-- the answer of the check that is kept is that of the rule
of_rule : (inst : Instance) (pred : Tree) (deferred : Bool) (ch : Change) (old : View) (P : Pages) (move : Move) → Keeps inst pred deferred
    → ((db : Db) (buckets : ℕ) → schema_at (changed db inst.relation ch) inst.relation ≡ inst.schema → BeforeChange check inst (Check pred deferred) db buckets ch old P
    → Changed check inst (Check pred deferred) db buckets ch P move) → Ends check inst (call.Changed ch) old P P move
of_rule inst pred deferred ch old P move keeps answer = λ rule db stands buckets.
    let F : Rule → Type 0 = λ r. BeforeChange check inst r db buckets ch old P → Changed check inst r db buckets ch P move in
    subst F (sym (keeps rule stands.spelled)) (answer db buckets (schema_stays check inst rule db ch stands))

tested : (inst : Instance) (pred : Tree) (ch : Change) (old : View) (P : Pages) (row : Row) (t : Bool) → Keeps inst pred false → row_after ch ≡ Some row → passes inst pred row ≡ t
    → Answers check inst (call.Changed ch) old P P (verdict_of t)
tested inst pred ch old P row true keeps some e = of_rule inst pred false ch old P Done keeps (λ db buckets schema before. record {
  admitted = of_new_row ch row (λ r. truth (schema_at (changed db inst.relation ch) inst.relation) None (Some r) pred) some ∙ ap (λ s. truth s None (Some row) pred) schema ∙ e;
  holds = before.content;
  now_are = refl;
  late_are = refl;
  checks_are = refl;
})
tested inst pred ch old P row false keeps some e = of_rule inst pred false ch old P Veto keeps (λ db buckets schema before. (
  of_new_row ch row (λ r. truth (schema_at (changed db inst.relation ch) inst.relation) None (Some r) pred) some ∙ ap (λ s. truth s None (Some row) pred) schema ∙ e,
  (_, before.content),
))

pub Changes-tested : (inst : Instance) (ch : Change) (old : View) (pred : Tree) (deferred : Bool) (row : Row) (move : Move) → IsClean old → Keeps inst pred deferred → deferred ≡ false → row_after ch ≡ Some row
    → move ≡ verdict_of (passes inst pred row) → Changes check inst (call.Changed ch) old old move
Changes-tested inst ch old pred deferred row move clean keeps at_once some is =
    let t = passes inst pred row in
    let kept = subst (λ d. Keeps inst pred d) at_once keeps in
    subst (λ m. Changes check inst (call.Changed ch) old old m) (sym is)
    (changes 5 inst (call.Changed ch) old (verdict_of t) clean (no_page t) (asks_nothing old t) (ends_change ch t) (λ P. tested inst pred ch old P row t kept some refl))

-- a row that goes is not tested
or_true : (t : Bool) → (t || true) ≡ true
or_true true = refl
or_true false = refl

abbrev no_checks : List (List ℕ)
no_checks = []

none_both : (t : Bool) → cond t no_checks no_checks ≡ no_checks
none_both true = refl
none_both false = refl

gone : (inst : Instance) (pred : Tree) (deferred : Bool) (ch : Change) (old : View) (P : Pages) → Keeps inst pred deferred → row_after ch ≡ None → Answers check inst (call.Changed ch) old P P Done
gone inst pred deferred (change.Insert key new) old P keeps none = cc
gone inst pred deferred (change.Update from last to new) old P keeps none = cc
gone inst pred deferred (change.Delete key last) old P keeps none = of_rule inst pred deferred (change.Delete key last) old P Done keeps (λ db buckets schema before. record {
  admitted = or_true deferred;
  holds = before.content;
  now_are = refl;
  late_are = refl;
  checks_are = sym (none_both deferred);
})

pub Changes-gone : (inst : Instance) (ch : Change) (old : View) (pred : Tree) (deferred : Bool) → IsClean old → Keeps inst pred deferred → row_after ch ≡ None → Changes check inst (call.Changed ch) old old Done
Changes-gone inst ch old pred deferred clean keeps none = changes 5 inst (call.Changed ch) old Done clean tt tt tt (λ P. gone inst pred deferred ch old P keeps none)

-- a deferred check leaves the new row for the commit
left : (inst : Instance) (pred : Tree) (ch : Change) (old : View) (P : Pages) (row : Row) → Keeps inst pred true → row_after ch ≡ Some row → Answers check inst (call.Changed ch) old P P (queued row)
left inst pred ch old P row keeps some = of_rule inst pred true ch old P (queued row) keeps (λ db buckets schema before. record {
  admitted = refl;
  holds = before.content;
  now_are = refl;
  late_are = refl;
  checks_are = ap (λ (o : Option Row). entry_of o) (sym some);
})

pub Changes-left : (inst : Instance) (ch : Change) (old : View) (pred : Tree) (deferred : Bool) (row : Row) (move : Move) → IsClean old → Keeps inst pred deferred → deferred ≡ true → row_after ch ≡ Some row
    → IsOrMemory (queued row) move → Changes check inst (call.Changed ch) old old move
Changes-left inst ch old pred deferred row move clean keeps late some (inr memory) =
    subst (λ m. Changes check inst (call.Changed ch) old old m) (sym memory) (changes 5 inst (call.Changed ch) old NoMemory clean tt tt tt (λ P. tt))
Changes-left inst ch old pred deferred row move clean keeps late some (inl is) =
    let kept = subst (λ d. Keeps inst pred d) late keeps in
    subst (λ m. Changes check inst (call.Changed ch) old old m) (sym is) (changes 5 inst (call.Changed ch) old (queued row) clean tt tt tt (λ P. left inst pred ch old P row kept some))

-- ---- an entry
entry_test : (inst : Instance) (pred : Tree) (deferred : Bool) (entry : List ℕ) (rule : Rule) (db : Db) → Keeps inst pred deferred → StandsOn check inst rule db
    → entry_fails db inst.relation rule entry ≡ list_any (fails_at inst.schema pred entry) (rows_at db inst.relation)
entry_test inst pred deferred entry rule db keeps stands =
    ap (λ r. entry_fails db inst.relation r entry) (keeps rule stands.spelled)
    ∙ ap (λ s. list_any (fails_at s pred entry) (rows_at db inst.relation)) (schema_is check inst rule db stands)

-- the predicate holds of each row that the entry may spell
pub Looks-passed : (inst : Instance) (entry : List ℕ) (old : View) (pred : Tree) (deferred : Bool) → Keeps inst pred deferred
    → ((row : Row) → IsRow inst.schema row → entry ≡ tuple_spelling row → passes inst pred row ≡ true) → Looks check inst (call.Late entry) old old Done
Looks-passed inst entry old pred deferred keeps passed = looks 5 inst entry old Done tt tt tt tt (λ P rule db stands buckets before.
    entry_test inst pred deferred entry rule db keeps stands ∙ none_fails inst.schema pred entry passed (rows_at db inst.relation) (rows_are check inst rule db stands).each)

-- ---- of the row that the entry spells it doesn't hold: the keys that are found say whether a row has its values
-- a row that was read of an entry, and fails
pub record FailsAt (inst : Instance) (pred : Tree) (entry : List ℕ) (row : Row) : Type 0 where
  pub tuple : IsTuple row
  pub spelled : entry ≡ tuple_spelling row
  pub fits : Fits inst.schema row
  pub fails : passes inst pred row ≡ false

late_by : (inst : Instance) (pred : Tree) (deferred : Bool) (entry : List ℕ) (row : Row) (names : List Name) (c : View) (P : Pages) (keys : List Key) (t : Bool) → (length keys == 0) ≡ t
    → Keeps inst pred deferred → AreNames inst.schema names → found_of c inst.relation names (values_in inst.schema row names) ≡ Some keys → FailsAt inst pred entry row
    → Answers check inst (call.Late entry) c P P (verdict_of t)
late_by inst pred deferred entry row names c P keys t is keeps are known failed = by t is
  where
    some : (rule : Rule) (db : Db) → StandsOn check inst rule db → FoundIn c db
        → (length keys == 0) ≡ not (list_any (λ r. has_values inst.schema names (values_in inst.schema row names) r.1) (rows_at db inst.relation))
    some rule db stands found =
        ap (λ (ks : List Key). length ks == 0) (found_keys db inst.relation names (values_in inst.schema row names) c.found keys found known)
        ∙ no_keys db inst.relation inst.schema names (values_in inst.schema row names) (schema_is check inst rule db stands) are.named

    by : (t : Bool) → (length keys == 0) ≡ t → Answers check inst (call.Late entry) c P P (verdict_of t)
    by true is = λ rule db stands buckets before.
        entry_test inst pred deferred entry rule db keeps stands
        ∙ none_stands_so inst.schema pred entry names row failed.tuple failed.spelled (rows_at db inst.relation) (rows_are check inst rule db stands).each
        (not-true (list_any (λ r. has_values inst.schema names (values_in inst.schema row names) r.1) (rows_at db inst.relation)) (sym (some rule db stands before.found) ∙ is))
    by false is = λ rule db stands buckets before.
        ap (λ r. holds (Some (plain_rules 5)) db inst.relation r) (keeps rule stands.spelled)
        ∙ ap (λ s. list_all (λ row. truth s None (Some row.1) pred) (rows_at db inst.relation)) (schema_is check inst rule db stands)
        ∙ whole_fails inst.schema pred names row are failed.fits failed.fails (rows_at db inst.relation) (rows_are check inst rule db stands).each
        (not-false (list_any (λ r. has_values inst.schema names (values_in inst.schema row names) r.1) (rows_at db inst.relation)) (sym (some rule db stands before.found) ∙ is))

late_asked : (inst : Instance) (pred : Tree) (deferred : Bool) (entry : List ℕ) (row : Row) (names : List Name) (old : View) (known : Option (List Key)) → Keeps inst pred deferred
    → AreNames inst.schema names → found_of old inst.relation names (values_in inst.schema row names) ≡ known → FailsAt inst pred entry row
    → AsksFor old (asked known inst.relation names (values_in inst.schema row names)) → Looks check inst (call.Late entry) old old (asked known inst.relation names (values_in inst.schema row names))
late_asked inst pred deferred entry row names old (Some keys) keeps are is failed asks =
    let t = length keys == 0 in
    looks 5 inst entry old (verdict_of t) (no_page t) (reads_late entry t) (asks_nothing old t) (ends_late entry t) (λ P. late_by inst pred deferred entry row names old P keys t refl keeps are is failed)
late_asked inst pred deferred entry row names old None keeps are is failed asks =
    looks 5 inst entry old (asked None inst.relation names (values_in inst.schema row names)) tt tt asks tt (λ P. tt)

-- Asked for the row's values, the Ctx tells whether a row has them, or has to be given the find.
pub Looks-asked : (inst : Instance) (entry : List ℕ) (old : View) (pred : Tree) (deferred : Bool) (row : Row) (move : Move) → Keeps inst pred deferred
    → FailsAt inst pred entry row → IsAsked old inst row move → AsksFor old move → Looks check inst (call.Late entry) old old move
Looks-asked inst entry old pred deferred row move keeps failed (inr memory) asks =
    subst (λ m. Looks check inst (call.Late entry) old old m) (sym memory) (Looks-memory 5 inst entry old)
Looks-asked inst entry old pred deferred row move keeps failed (inl so) asks =
    subst (λ m. Looks check inst (call.Late entry) old old m) (sym so.is)
    (late_asked inst pred deferred entry row so.columns old (found_of old inst.relation so.columns (values_in inst.schema row so.columns)) keeps so.names refl failed (subst (AsksFor old) so.is asks))

-- ---- the first call
-- every rule of its code is a check
pub first_none : (inst : Instance) (rule : Rule) (db : Db) → StandsOn check inst rule db → first_content check inst rule db ≡ no_content
first_none inst (Check pred deferred) db stands = refl
first_none inst _ db stands = let coded = stands.spelled.coded in cc
