-- Commands that build leave which rules hold, in every database of a state.
use Rattle.std.proofs.Common.{◌≡◌, ℕ, ◌+◌, ◌*◌, max, Bool, true, false, not, List, [], ◌∷◌, ◌++◌, Option, Some, None, is_some, refl, sym, ap, subst}
use Rattle.std.specs.Option.{option_or}
use Rattle.sb_rule.specs.declared.change.Change.{Change}
use Rattle.sb_rule.specs.declared.change.Change.TheVariants as change
use Rattle.sb_rule.specs.declared.rule.Rule.{Rule}
use Rattle.sb_relation.specs.Buckets.{first_buckets, next_buckets}
use Rattle.sb_relation.specs.Build.{with_rule}
use Rattle.sb_relation.specs.Db.{Name, Key, Rows, Relation, Db, relation_at, rows_at, schema_at, with_rows}
use Rattle.sb_relation.specs.Rules.{holds}
use Rattle.sb_fold.specs.declared.refusal.Refusal.{Refusal}
use Rattle.sb_fold.specs.declared.refusal.Refusal.TheVariants.{TooLong, Veto}
use Rattle.sb_fold.specs.Building.{build, build_rows, built_bound, built_point, reach_build, has_long_row}
use Rattle.sb_fold.specs.Costs.{rule_cost, prepare_cost, descriptor_cost, descriptors_of}
use Rattle.sb_fold.specs.Extensions.{Extensions, box_of}
use Rattle.sb_fold.specs.Outcome.{Queue, Going, made, change_to, continue, refuse_if, with_db}
use Rattle.sb_plain.specs.declared.command.Command.{Command}
use Rattle.sb_plain.specs.declared.command.Command.TheVariants as command
use Rattle.sb_plain.specs.Refusing.{refused, some_where}
use Rattle.sb_plain.specs.State.{State, view}
use Rattle.sb_plain.specs.Step as step
use Rattle.sb_lawful.specs.Laws.{Leaves, IsBuilding}
use Rattle.sb_lawful.proofs.Steps.{up_leaves, Keeps}
use Rattle.sb_lawful.proofs.Commands.{start, leaves_by, at_start, created_step, detached_step, dropped_step}
use Rattle.sb_sound.proofs.Holding.{IsOfOurs, HoldMains, mains_empty}
use Rattle.sb_sound.proofs.Building.{created, detached, dropped, attached_mains}

-- ---- a build of rows leaves the database and what waits
build_db : (ext : Extensions) (name : Name) (rule : Rule) (buckets : ℕ) (built rows : Rows) (going : Going) → (build_rows ext name rule buckets built rows going).db ≡ going.db
build_db ext name rule buckets built [] going = refl
build_db ext name rule buckets built (row ∷ rows) going =
    let insert : Change = change.Insert row.0 row.1 in
    let more : Rows = built ++ row ∷ [] in
    let grown : ℕ = next_buckets rule insert more buckets in
    let pages : ℕ = max (built_bound ext going.db name rule buckets built) (built_bound ext going.db name rule grown more) in
    build_db ext name rule grown more rows (built_point ext name pages (rule_cost ext (with_rows going.db name built) name rule buckets insert) going)

build_queue : (ext : Extensions) (name : Name) (rule : Rule) (buckets : ℕ) (built rows : Rows) (going : Going) → (build_rows ext name rule buckets built rows going).queue ≡ going.queue
build_queue ext name rule buckets built [] going = refl
build_queue ext name rule buckets built (row ∷ rows) going =
    let insert : Change = change.Insert row.0 row.1 in
    let more : Rows = built ++ row ∷ [] in
    let grown : ℕ = next_buckets rule insert more buckets in
    let pages : ℕ = max (built_bound ext going.db name rule buckets built) (built_bound ext going.db name rule grown more) in
    build_queue ext name rule grown more rows (built_point ext name pages (rule_cost ext (with_rows going.db name built) name rule buckets insert) going)

abbrev prepared : Extensions → Name → Rule → Going → Going
prepared ext name rule going =
    let buckets : ℕ = first_buckets rule in
    built_point ext name (built_bound ext going.db name rule buckets []) (prepare_cost ext (schema_at going.db name) rule + descriptors_of rule * descriptor_cost ext going.db) going

reached_db : (ext : Extensions) (name : Name) (rule : Rule) (going : Going) → (reach_build ext name rule going).db ≡ going.db
reached_db ext name rule going = build_db ext name rule (first_buckets rule) [] (rows_at going.db name) (prepared ext name rule going)

reached_queue : (ext : Extensions) (name : Name) (rule : Rule) (going : Going) → (reach_build ext name rule going).queue ≡ going.queue
reached_queue ext name rule going = build_queue ext name rule (first_buckets rule) [] (rows_at going.db name) (prepared ext name rule going)

-- ---- a build attaches a rule that holds
module _ (P : Db → Type 0) (empty : P []) (ext : Extensions) (s : State) (from : Going) (name label : Name) (rule : Rule) (g : Going) (waits : g.queue.actions ≡ from.queue.actions) (keeps : holds (box_of ext rule) g.db name rule ≡ true → P (view s) → P (with_rule g.db name label rule)) where
  vetoed : (b : Bool) → holds (box_of ext rule) g.db name rule ≡ b
      → Keeps P empty s from (continue (λ _. made step.Plain) (continue (λ _. change_to (λ going. with_db (with_rule going.db name label rule) going)) (refuse_if (not b) (Veto name label) g)))
  vetoed true held = (waits, keeps held)
  vetoed false fails = tt

  built : (b : Bool)
      → Keeps P empty s from (continue (λ _. made step.Plain)
      (continue (λ _. (λ going. continue (λ _. change_to (λ x. with_db (with_rule x.db name label rule) x)) (refuse_if (not (holds (box_of ext rule) going.db name rule)) (Veto name label) going))) (refuse_if b (TooLong name) g)))
  built true = tt
  built false = vetoed (holds (box_of ext rule) g.db name rule) refl

-- ---- the commands
unless_there : (o : Option Relation) (name : Name) (rest : Option Name) → option_or (some_where (is_some o) name) rest ≡ None → o ≡ None
unless_there None name rest e = refl
unless_there (Some r) name rest e = absurd (cc)

module _ (ext : Extensions) (meant : Rule → Bool) (of : IsOfOurs meant) where
  abbrev Mains : Db → Type 0
  Mains db = HoldMains ext meant db

  module _ (s : State) (picks : List Key) where
    abbrev from : Going
    from = start Mains (mains_empty ext meant) ext s picks

    attached_by : (name label : Name) (rule : Rule) (first : Option Refusal) → Leaves Mains s (step.tested ext (step.if_up s) (command.Attach name label rule) picks first).state
    attached_by name label rule (Some r) = up_leaves Mains s
    attached_by name label rule None =
        let g : Going = reach_build ext name rule from in
        leaves_by Mains (mains_empty ext meant) ext s picks (step.plainly (build ext name label rule))
        (built Mains (mains_empty ext meant) ext (step.if_up s) from name label rule g (ap (λ (q : Queue). q.actions) (reached_queue ext name rule from))
        (λ held p.
        attached_mains ext meant of g.db name label rule held (subst Mains (sym (reached_db ext name rule from)) (at_start Mains (mains_empty ext meant) ext s picks p)))
        (has_long_row g.db name rule))

  pub building_leaves : (s : State) (c : Command) (picks : List Key) → IsBuilding c → Leaves Mains s (step.step ext s c picks).state
  building_leaves s (command.Create name method schema key) picks is =
      created_step Mains (mains_empty ext meant) ext s picks name method schema key
      (λ db may mains.
      created ext meant of db name (record { method = method; schema = schema; key = key; rows = []; attachments = [] }) (unless_there (relation_at db name) name _ may.new) refl refl mains)
  building_leaves s (command.Drop name) picks is = dropped_step Mains (mains_empty ext meant) ext s picks name (λ db unused mains. dropped ext meant of db name unused mains)
  building_leaves s (command.Attach name label rule) picks is = attached_by s picks name label rule (refused ext s (command.Attach name label rule))
  building_leaves s (command.Detach name label) picks is = detached_step Mains (mains_empty ext meant) ext s picks name label (λ db same a found mains. detached ext meant of db name a mains)
  building_leaves s _ picks is = absurd is
