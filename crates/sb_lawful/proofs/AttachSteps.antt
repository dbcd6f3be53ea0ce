-- A step of an attach leaves lawful databases: its build works over the rows that stand, and is refused or attaches the rule.
use Rattle.std.proofs.Common.{◌≡◌, ℕ, ◌+◌, ◌*◌, max, Bool, true, false, not, List, [], ◌∷◌, ◌++◌, Option, Some, None, refl, sym, ap, subst, ◌∙◌}
use Rattle.sb_rule.specs.declared.change.Change.{Change}
use Rattle.sb_rule.specs.declared.change.Change.TheVariants as change
use Rattle.sb_rule.specs.declared.rule.Rule.{Rule}
use Rattle.sb_relation.specs.Buckets.{first_buckets, next_buckets}
use Rattle.sb_relation.specs.Build.{with_rule}
use Rattle.sb_relation.specs.Db.{Name, Key, Rows, Db, rows_at, schema_at, with_rows}
use Rattle.sb_relation.specs.Rules.{holds}
use Rattle.sb_fold.specs.declared.refusal.Refusal.{Refusal}
use Rattle.sb_fold.specs.declared.refusal.Refusal.TheVariants.{TooLong, Veto}
use Rattle.sb_fold.specs.Building.{build, build_rows, built_bound, built_point, reach_build, has_long_row}
use Rattle.sb_fold.specs.Costs.{rule_cost, prepare_cost, descriptor_cost, descriptors_of}
use Rattle.sb_fold.specs.Extensions.{Extensions, box_of}
use Rattle.sb_fold.specs.Outcome.{Queue, Going, made, change_to, continue, refuse_if, with_db}
use Rattle.sb_plain.specs.declared.command.Command.{Command}
use Rattle.sb_plain.specs.declared.command.Command.TheVariants as command
use Rattle.sb_plain.specs.Lawful.{MayBe, IsLawful}
use Rattle.sb_plain.specs.Refusing.{refused}
use Rattle.sb_plain.specs.State.{State, view}
use Rattle.sb_plain.specs.Step as step
use Rattle.sb_lawful.specs.Laws.{Leaves, IsMirrorFree, AttachLeavesLawful}
use Rattle.sb_lawful.proofs.Steps.{up_leaves, Keeps}
use Rattle.sb_lawful.proofs.Attaching.{attached-lawful}
use Rattle.sb_lawful.proofs.Commands.{lawful_empty, begins, start, leaves_by, at_start, is_there, is_new, is_named, is_kinded, is_alike, is_within}

-- ---- a build of rows leaves the database and what waits
build_db : (ext : Extensions) (name : Name) (rule : Rule) (buckets : ℕ) (built rows : Rows) (going : Going) → (build_rows ext name rule buckets built rows going).db ≡ going.db
build_db ext name rule buckets built [] going = refl
build_db ext name rule buckets built (row ∷ rows) going =
    let insert : Change = change.Insert row.0 row.1 in
    let more : Rows = built ++ row ∷ [] in
    let grown : ℕ = next_buckets rule insert more buckets in
    let pages : ℕ = max (built_bound ext going.db name rule buckets built) (built_bound ext going.db name rule grown more) in
    build_db ext name rule grown more rows (built_point ext name pages (rule_cost ext (with_rows going.db name built) name rule buckets insert) going)

build_queue : (ext : Extensions) (name : Name) (rule : Rule) (buckets : ℕ) (built rows : Rows) (going : Going) → (build_rows ext name rule buckets built rows going).queue ≡ going.queue
build_queue ext name rule buckets built [] going = refl
build_queue ext name rule buckets built (row ∷ rows) going =
    let insert : Change = change.Insert row.0 row.1 in
    let more : Rows = built ++ row ∷ [] in
    let grown : ℕ = next_buckets rule insert more buckets in
    let pages : ℕ = max (built_bound ext going.db name rule buckets built) (built_bound ext going.db name rule grown more) in
    build_queue ext name rule grown more rows (built_point ext name pages (rule_cost ext (with_rows going.db name built) name rule buckets insert) going)

abbrev prepared : Extensions → Name → Rule → Going → Going
prepared ext name rule going =
    let buckets : ℕ = first_buckets rule in
    built_point ext name (built_bound ext going.db name rule buckets []) (prepare_cost ext (schema_at going.db name) rule + descriptors_of rule * descriptor_cost ext going.db) going

reached_db : (ext : Extensions) (name : Name) (rule : Rule) (going : Going) → (reach_build ext name rule going).db ≡ going.db
reached_db ext name rule going = build_db ext name rule (first_buckets rule) [] (rows_at going.db name) (prepared ext name rule going)

reached_queue : (ext : Extensions) (name : Name) (rule : Rule) (going : Going) → (reach_build ext name rule going).queue ≡ going.queue
reached_queue ext name rule going = build_queue ext name rule (first_buckets rule) [] (rows_at going.db name) (prepared ext name rule going)

-- ---- a build
module _ (P : Db → Type 0) (empty : P []) (s : State) (from : Going) (name label : Name) (rule : Rule) (g : Going) (waits : g.queue.actions ≡ from.queue.actions) where
  vetoed : (b : Bool) → (P (view s) → P (with_rule g.db name label rule))
      → Keeps P empty s from (continue (λ _. made step.Plain) (continue (λ _. change_to (λ going. with_db (with_rule going.db name label rule) going)) (refuse_if b (Veto name label) g)))
  vetoed true keeps = tt
  vetoed false keeps = (waits, keeps)

  built : (ext : Extensions) (b : Bool) → (b ≡ false → P (view s) → P (with_rule g.db name label rule))
      → Keeps P empty s from (continue (λ _. made step.Plain)
      (continue (λ _. (λ going. continue (λ _. change_to (λ x. with_db (with_rule x.db name label rule) x)) (refuse_if (not (holds (box_of ext rule) going.db name rule)) (Veto name label) going))) (refuse_if b (TooLong name) g)))
  built ext true keeps = tt
  built ext false keeps = vetoed (not (holds (box_of ext rule) g.db name rule)) (keeps refl)

-- the work of an attach
build_keeps : (P : Db → Type 0) (empty : P []) (s : State) (ext : Extensions) (name label : Name) (rule : Rule) (going : Going)
    → (has_long_row (reach_build ext name rule going).db name rule ≡ false → P (view s) → P (with_rule (reach_build ext name rule going).db name label rule))
    → Keeps P empty s going (step.plainly (build ext name label rule) going)
build_keeps P empty s ext name label rule going keeps =
    let g : Going = reach_build ext name rule going in
    built P empty s going name label rule g (ap (λ (q : Queue). q.actions) (reached_queue ext name rule going)) ext (has_long_row g.db name rule) keeps

module _ (P : Db → Type 0) (empty : P []) (ext : Extensions) (s : State) (picks : List Key) (name label : Name) (rule : Rule) where
  abbrev attachment : Command
  attachment = command.Attach name label rule

  abbrev from : Going
  from = start P empty ext s picks

  abbrev AttachedKeeps : Type 0
  AttachedKeeps = (db : Db) → db ≡ view s → MayBe ext db attachment → has_long_row db name rule ≡ false → P db → P (with_rule db name label rule)

  reached : (reach_build ext name rule from).db ≡ view s
  reached = reached_db ext name rule from ∙ begins s picks

  kept_by : AttachedKeeps → MayBe ext (view s) attachment → has_long_row (reach_build ext name rule from).db name rule ≡ false → P (view (step.if_up s)) → P (with_rule (reach_build ext name rule from).db name label rule)
  kept_by keeps may short p =
      keeps (reach_build ext name rule from).db reached (subst (λ (db : Db). MayBe ext db attachment) (sym reached) may) short
      (subst P (sym (reached_db ext name rule from)) (at_start P empty ext s picks p))

  attached_by : AttachedKeeps → (first : Option Refusal) → refused ext s attachment ≡ first → Leaves P s (step.tested ext (step.if_up s) attachment picks first).state
  attached_by keeps (Some r) e = up_leaves P s
  attached_by keeps None e =
      let may : MayBe ext (view s) attachment = record {
        there = is_there ext s attachment e;
        new = is_new ext s attachment e;
        named = is_named ext s attachment e;
        fits = is_kinded ext s attachment e;
        alike = is_alike ext s attachment e;
        within = is_within ext s attachment e;
      } in
      leaves_by P empty ext s picks (step.plainly (build ext name label rule)) (build_keeps P empty (step.if_up s) ext name label rule from (kept_by keeps may))

  pub attached_step : AttachedKeeps → Leaves P s (step.step ext s attachment picks).state
  attached_step keeps = attached_by keeps (refused ext s attachment) refl

pub attaches-lawful : AttachLeavesLawful
attaches-lawful ext s name label rule main free picks =
    attached_step (IsLawful ext) (lawful_empty ext) ext s picks name label rule
    (λ db same may short lawful. attached-lawful ext db name label rule may main (subst (λ (d : Db). IsMirrorFree d name label rule) (sym same) free) short lawful)
