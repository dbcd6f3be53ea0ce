-- What rules make of a change whose rows fit.
use Rattle.std.proofs.Common.{◌≡◌, Bool, true, false, ◌&&◌, cond, List, [], ◌∷◌, Option, Some, None, refl, sym, subst, ◌∙◌}
use Rattle.std.specs.Prelude.{All, IfSome}
use Rattle.std.specs.List.{flat_map}
use Rattle.std.proofs.lemmas.Bool.{and_parts}
use Rattle.std.proofs.lemmas.List.Elements.{All-nil, All-cons, All-head, All-tail, All-append, All-weaker}
use Rattle.sb_value.specs.declared.schema.Column.{Column}
use Rattle.sb_value.specs.Fits.{Fits}
use Rattle.sb_pred.specs.Tree.{Tree}
use Rattle.sb_pred.specs.Truth.{truth}
use Rattle.sb_pred.specs.Typing.{term_kind, is_well_typed}
use Rattle.sb_rule.specs.declared.action.Action.{Action}
use Rattle.sb_rule.specs.declared.change.Change.{Change}
use Rattle.sb_rule.specs.declared.rule.Event.{Event}
use Rattle.sb_rule.specs.declared.rule.Mode.TheVariants.{Cascade}
use Rattle.sb_rule.specs.declared.rule.Rule.TheVariants.{Refers, Trigger}
use Rattle.sb_rule.specs.declared.rule.Side.TheVariants.{Mirror}
use Rattle.sb_rule.specs.Bound.{row_before, row_after, bound, FitsSchema}
use Rattle.sb_relation.specs.Db.{Name, Row, Attached, Db, schema_at}
use Rattle.sb_relation.specs.Fits.{MayStand, relation_of, first_missing, has_old, has_new, action_fits, kinds_at, are_one_kind}
use Rattle.sb_relation.specs.Foreign.{AttachRules}
use Rattle.sb_relation.specs.Rules.{cascade, delete_those, follows, has_row_with, is_event, late_actions, triggered, values_at}
use Rattle.sb_fold.specs.Fold.{attachments_at}
use Rattle.sb_cascade.specs.Fitting.{IsFitting, AllFit}
use Rattle.sb_cascade.specs.FittingLaws.{FollowingFits, WaitingFits, AllFollowingFits, AllWaitingFits}
use Rattle.sb_cascade.proofs.FittingTerms.{fitting, bound_fitting, rows_of_event, values_pair}

-- ---- none, or one
one_fits : (db : Db) (a : Action) → IsFitting db a → AllFit db (a ∷ [])
one_fits db a fits = All-cons (IsFitting db) a [] fits (All-nil (IsFitting db))

none_or : (db : Db) (b : Bool) (a : Action) → IsFitting db a → AllFit db (cond b [] (a ∷ []))
none_or db true a fits = All-nil (IsFitting db)
none_or db false a fits = one_fits db a fits

one_if : (db : Db) (b : Bool) (a : Action) → (b ≡ true → IsFitting db a) → AllFit db (cond b (a ∷ []) [])
one_if db true a fits = one_fits db a (fits refl)
one_if db false a fits = All-nil (IsFitting db)

-- ---- triggers
triggered_fits : (db : Db) (schema : List Column) (on : Event) (pred : Tree) (a : Action) (c : Change) → first_missing db (relation_of a ∷ []) ≡ None
    → action_fits (schema_at db (relation_of a)) (term_kind schema (has_old on) (has_new on)) a ≡ true → FitsSchema schema c → AllFit db (triggered schema on pred a c)
triggered_fits db schema on pred a c there typed fits =
    one_if db (is_event on c && truth schema (row_before c) (row_after c) pred) (bound schema c a) (λ e.
    let rows = rows_of_event on c (and_parts (is_event on c) (truth schema (row_before c) (row_after c) pred) e).0 in
    bound_fitting schema c fits db a there ((λ i. action_fits (schema_at db (relation_of a)) (term_kind schema (sym rows.0 i) (sym rows.1 i)) a) ∙ typed))

trigger_typed : (box : Option AttachRules) (db : Db) (schema : List Column) (on : Event) (pred : Tree) (a : Action) (deferred : Bool) → MayStand box db schema (Trigger on pred a deferred)
    → action_fits (schema_at db (relation_of a)) (term_kind schema (has_old on) (has_new on)) a ≡ true
trigger_typed box db schema on pred a deferred may =
    (and_parts (is_well_typed schema (has_old on) (has_new on) pred) (action_fits (schema_at db (relation_of a)) (term_kind schema (has_old on) (has_new on)) a) may.fits).1

-- ---- cascades
cascade_fits : (db : Db) (name : Name) (columns : List Name) (other : Name) (others : List Name) (row : Option Row) → first_missing db (other ∷ []) ≡ None
    → are_one_kind (kinds_at (schema_at db name) columns) (kinds_at (schema_at db other) others) ≡ true → ((old : Row) → row ≡ Some old → Fits (schema_at db name) old)
    → AllFit db (cascade db name columns other others row)
cascade_fits db name columns other others None there alike fits = All-nil (IsFitting db)
cascade_fits db name columns other others (Some old) there alike fits =
    none_or db (has_row_with db name columns (values_at db name columns old)) (delete_those other others (values_at db name columns old))
    (fitting db (delete_those other others (values_at db name columns old)) there (values_pair (schema_at db other) (schema_at db name) old columns others (fits old refl) alike))

before_fits : (schema : List Column) (c : Change) → FitsSchema schema c → (old : Row) → row_before c ≡ Some old → Fits schema old
before_fits schema c fits old e = subst (λ (o : Option Row). IfSome o (Fits schema)) e fits.before

-- ---- one rule
pub following-fits : FollowingFits
following-fits box db name (Refers Mirror columns other others Cascade deferred) c may fits =
    cascade_fits db name columns other others (row_before c) may.there may.fits (before_fits (schema_at db name) c fits)
following-fits box db name (Trigger on pred a true) c may fits = All-nil (IsFitting db)
following-fits box db name (Trigger on pred a false) c may fits =
    triggered_fits db (schema_at db name) on pred a c may.there (trigger_typed box db (schema_at db name) on pred a false may) fits
following-fits box db name _ c may fits = All-nil (IsFitting db)

pub waiting-fits : WaitingFits
waiting-fits box db name (Trigger on pred a true) c may fits =
    triggered_fits db (schema_at db name) on pred a c may.there (trigger_typed box db (schema_at db name) on pred a true may) fits
waiting-fits box db name _ c may fits = All-nil (IsFitting db)

-- ---- all rules
all_flat : {A : Type 0} (P : Action → Type 0) (f : A → List Action) (items : List A) → All (λ x. All P (f x)) items → All P (flat_map f items)
all_flat P f [] all = All-nil P
all_flat P f (x ∷ items) all =
    All-append P (f x) (flat_map f items) (All-head (λ y. All P (f y)) x items all) (all_flat P f items (All-tail (λ y. All P (f y)) x items all))

pub all-following-fits : AllFollowingFits
all-following-fits box db name c may fits =
    all_flat (IsFitting db) (λ a. follows db name a.rule c) (attachments_at db name)
    (All-weaker (λ (a : Attached). MayStand (box a.rule) db (schema_at db name) a.rule) (λ (a : Attached). AllFit db (follows db name a.rule c))
    (λ a stands. following-fits (box a.rule) db name a.rule c stands fits) (attachments_at db name) (may name))

pub all-waiting-fits : AllWaitingFits
all-waiting-fits box db name c may fits =
    all_flat (IsFitting db) (λ a. late_actions db name a.rule c) (attachments_at db name)
    (All-weaker (λ (a : Attached). MayStand (box a.rule) db (schema_at db name) a.rule) (λ (a : Attached). AllFit db (late_actions db name a.rule c))
    (λ a stands. waiting-fits (box a.rule) db name a.rule c stands fits) (attachments_at db name) (may name))
