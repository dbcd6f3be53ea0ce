-- Building commands leave lawful databases, by steps.
use Rattle.std.proofs.Common.{◌≡◌, ℕ, Bool, true, false, not, List, [], ◌∷◌, Option, Some, None, option_map, refl, sym, ap, subst, ◌∙◌, arith}
use Rattle.std.specs.Prelude.{All}
use Rattle.std.proofs.lemmas.List.Elements.{All-nil, All-cons}
use Rattle.std.proofs.lemmas.Bool.{not-false}
use Rattle.sb_value.specs.declared.schema.Column.{Column}
use Rattle.sb_relation.specs.Db.{Name, Key, Attached, Db, with_relation}
use Rattle.sb_fold.specs.declared.refusal.Refusal.{Refusal}
use Rattle.sb_fold.specs.declared.refusal.Refusal.TheVariants as refusal
use Rattle.sb_fold.specs.Building.{create, detach_one, detach, drop_relation, rule_at, without_rule, without_relation}
use Rattle.sb_fold.specs.Extensions.{Extensions}
use Rattle.sb_fold.specs.Outcome.{Going, Gives, Work}
use Rattle.sb_relation.specs.Fits.{first_missing}
use Rattle.sb_plain.specs.declared.command.Command.{Command}
use Rattle.sb_plain.specs.declared.command.Command.TheVariants as command
use Rattle.sb_plain.specs.Lawful.{MayBe, IsLawful}
use Rattle.sb_plain.specs.Refusing.{refused, tests, first_of, refuse_where, relations_of, first_existing, first_absent, first_use, is_well_kinded, is_mixed, passes_limits}
use Rattle.sb_plain.specs.State.{State, view, going_of}
use Rattle.sb_plain.specs.Step as step
use Rattle.sb_lawful.specs.Laws.{Leaves, CreateLeavesLawful, DetachLeavesLawful, DropLeavesLawful}
use Rattle.sb_lawful.proofs.Steps.{going_view, view_up, leaves_then, up_leaves, Keeps, changing_leaves}
use Rattle.sb_lawful.proofs.Creating.{created-lawful}
use Rattle.sb_lawful.proofs.Detaching.{detached-lawful}
use Rattle.sb_lawful.proofs.Dropping.{dropped-lawful}

-- ---- a command that isn't refused
none_of_them : (tests : List (Option Refusal)) → first_of tests ≡ None → All (λ o. o ≡ None) tests
none_of_them [] e = All-nil _
none_of_them (None ∷ tests) e = All-cons (λ o. o ≡ None) None tests refl (none_of_them tests e)
none_of_them (Some r ∷ tests) e = absurd (cc)

none_where : (b : Bool) (r : Refusal) → refuse_where b r ≡ None → b ≡ false
none_where true r e = absurd (cc)
none_where false r e = refl

none_mapped : {A : Type 0} (f : A → Refusal) (o : Option A) → option_map f o ≡ None → o ≡ None
none_mapped f None e = refl
none_mapped f (Some x) e = absurd (cc)

module _ (ext : Extensions) (s : State) (c : Command) (none : refused ext s c ≡ None) where
  all_none : All (λ o. o ≡ None) (tests ext s c)
  all_none = none_of_them (tests ext s c) none

  pub is_there : first_missing (view s) (relations_of c) ≡ None
  is_there = none_mapped refusal.NoRelation (first_missing (view s) (relations_of c)) (all_none 2 None (omega arith))

  pub is_new : first_existing s c ≡ None
  is_new = none_mapped refusal.Exists (first_existing s c) (all_none 3 None (omega arith))

  pub is_named : first_absent s c ≡ None
  is_named = none_mapped refusal.NoName (first_absent s c) (all_none 4 None (omega arith))

  pub is_unused : first_use (view s) c ≡ None
  is_unused = none_mapped (λ user. refusal.InUse user.0 user.1) (first_use (view s) c) (all_none 6 None (omega arith))

  pub is_kinded : is_well_kinded ext (view s) c ≡ true
  is_kinded = not-false (is_well_kinded ext (view s) c) (none_where (not (is_well_kinded ext (view s) c)) refusal.Mistyped (all_none 7 None (omega arith)))

  pub is_alike : is_mixed ext (view s) c ≡ false
  is_alike = none_where (is_mixed ext (view s) c) refusal.Mixed (all_none 8 None (omega arith))

  pub is_within : passes_limits s c ≡ false
  is_within = none_where (passes_limits s c) refusal.Limit (all_none 9 None (omega arith))

-- ---- what a command begins with
pub begins : (s : State) (picks : List Key) → (going_of (step.if_up s) picks).db ≡ view s
begins s picks = going_view (step.if_up s) picks ∙ view_up s

-- what the work of a command keeps, its step leaves
module _ (P : Db → Type 0) (empty : P []) (ext : Extensions) (s : State) (picks : List Key) where
  abbrev pub start : Going
  start = going_of (step.if_up s) picks

  pub leaves_by : (work : Work step.Answer) → Keeps P empty (step.if_up s) start (work start) → Leaves P s (step.changing ext (step.if_up s) picks work).state
  leaves_by work keeps =
      leaves_then P s (step.if_up s) (step.changing ext (step.if_up s) picks work).state (up_leaves P s) (changing_leaves P empty ext (step.if_up s) picks work keeps)

  pub at_start : P (view (step.if_up s)) → P start.db
  at_start p = subst P (sym (going_view (step.if_up s) picks)) p

  -- a new relation
  module _ (name : Name) (method : ℕ) (schema : List Column) (key : List Name) where
    abbrev creation : Command
    creation = command.Create name method schema key

    abbrev CreatedKeeps : Type 0
    CreatedKeeps = (db : Db) → MayBe ext db creation → P db → P (with_relation db name (record { method = method; schema = schema; key = key; rows = []; attachments = [] }))

    created_by : CreatedKeeps → (first : Option Refusal) → refused ext s creation ≡ first → Leaves P s (step.tested ext (step.if_up s) creation picks first).state
    created_by keeps (Some r) e = up_leaves P s
    created_by keeps None e =
        let may : MayBe ext (view s) creation = record { there = is_there ext s creation e; new = is_new ext s creation e; named = is_named ext s creation e; fits = is_kinded ext s creation e; alike = refl; within = refl } in
        leaves_by (step.plainly (create ext name method schema key)) (refl, λ p. keeps start.db (subst (λ (db : Db). MayBe ext db creation) (sym (begins s picks)) may) (at_start p))

    pub created_step : CreatedKeeps → Leaves P s (step.step ext s creation picks).state
    created_step keeps = created_by keeps (refused ext s creation) refl

  -- an attachment that goes
  module _ (name label : Name) where
    abbrev DetachedKeeps : Type 0
    DetachedKeeps = (db : Db) → db ≡ view s → (a : Attached) → rule_at db name label ≡ Some a → P db → P (without_rule db name a)

    detached_keeps : DetachedKeeps → (o : Option Attached) → rule_at start.db name label ≡ o → Keeps P empty (step.if_up s) start (Gives step.Plain (detach_one ext name o start))
    detached_keeps keeps None e = (refl, at_start)
    detached_keeps keeps (Some a) e = (refl, λ p. keeps start.db (begins s picks) a e (at_start p))

    detached_by : DetachedKeeps → (first : Option Refusal) → Leaves P s (step.tested ext (step.if_up s) (command.Detach name label) picks first).state
    detached_by keeps (Some r) = up_leaves P s
    detached_by keeps None = leaves_by (step.plainly (detach ext name label)) (detached_keeps keeps (rule_at start.db name label) refl)

    pub detached_step : DetachedKeeps → Leaves P s (step.step ext s (command.Detach name label) picks).state
    detached_step keeps = detached_by keeps (refused ext s (command.Detach name label))

  -- a relation that goes
  module _ (name : Name) where
    abbrev DroppedKeeps : Type 0
    DroppedKeeps = (db : Db) → first_use db (command.Drop name) ≡ None → P db → P (without_relation db name)

    dropped_by : DroppedKeeps → (first : Option Refusal) → refused ext s (command.Drop name) ≡ first → Leaves P s (step.tested ext (step.if_up s) (command.Drop name) picks first).state
    dropped_by keeps (Some r) e = up_leaves P s
    dropped_by keeps None e =
        leaves_by (step.plainly (drop_relation ext name))
        (refl, λ p. keeps start.db (ap (λ (db : Db). first_use db (command.Drop name)) (begins s picks) ∙ is_unused ext s (command.Drop name) e) (at_start p))

    pub dropped_step : DroppedKeeps → Leaves P s (step.step ext s (command.Drop name) picks).state
    dropped_step keeps = dropped_by keeps (refused ext s (command.Drop name)) refl

-- ---- lawful databases
pub lawful_empty : (ext : Extensions) → IsLawful ext []
lawful_empty ext = record { rising = tt; relations = All-nil _ }

pub creates-lawful : CreateLeavesLawful
creates-lawful ext s name method schema key picks =
    created_step (IsLawful ext) (lawful_empty ext) ext s picks name method schema key (λ db may lawful. created-lawful ext db name method schema key may lawful)

pub detaches-lawful : DetachLeavesLawful
detaches-lawful ext s name label no_mirror picks =
    detached_step (IsLawful ext) (lawful_empty ext) ext s picks name label
    (λ db same a found lawful. detached-lawful ext db name label a found (no_mirror a (ap (λ (d : Db). rule_at d name label) (sym same) ∙ found)) lawful)

pub drops-lawful : DropLeavesLawful
drops-lawful ext s name picks = dropped_step (IsLawful ext) (lawful_empty ext) ext s picks name (λ db unused lawful. dropped-lawful ext db name unused lawful)
