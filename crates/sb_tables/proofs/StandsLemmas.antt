-- What an engine at work stands for once relations have come or gone.
use Rattle.std.proofs.Common.{◌≡◌, ℕ, ◌+◌, ◌*◌, ◌==◌, Bool, true, false, cond, List, [], ◌∷◌, ◌++◌, length, map, Option, Some, None, option_map, All, refl, sym, ap, ◌∙◌, subst, arith}
use Rattle.std.proofs.lemmas.List.Elements.{All-cons, All-nil, All-weaker}
use Rattle.sb_value.specs.declared.schema.Column.{Column}
use Rattle.sb_rule.specs.declared.action.Action.{Action}
use Rattle.sb_rule.specs.declared.rule.Rule.{Rule}
use Rattle.sb_rule.specs.Spelling.{rule_code}
use Rattle.sb_relation.specs.Db
use Rattle.sb_relation.specs.Db.{Name, Relation, schema_at, with_relation}
use Rattle.sb_relation.specs.Fits.{MayStand}
use Rattle.sb_relation.specs.Foreign.{AttachRules, attach_rules}
use Rattle.sb_ctx.specs.Attachment.{Attachment}
use Rattle.sb_fold.specs.declared.refusal.Refusal.{Refusal}
use Rattle.sb_fold.specs.Bounds.{attached_bound, method_bound}
use Rattle.sb_fold.specs.Building.{at_point, bounds_at, create, drop_relation, leave, mirrored_in, reach, with_gone, without_relation}
use Rattle.sb_fold.specs.Costs.{create_cost, descriptor_cost}
use Rattle.sb_fold.specs.Extensions.{Extensions, box_of, is_durable_at, is_durable_method}
use Rattle.sb_fold.specs.Finish.{freed}
use Rattle.sb_fold.specs.Fold.{attachments_at}
use Rattle.sb_fold.specs.Outcome.{Going, Gone, Trail, with_db}
use Rattle.sb_fold.proofs.LeadsLemmas.{leads_change}
use Rattle.sb_deferred.specs.Complete.{AreMirrored, IsComplete}
use Rattle.sb_deferred.proofs.CatalogLemmas.{with-relation-complete}
use Rattle.sb_deferred.proofs.RelationLemmas.{attachments_of, schema_of}
use Rattle.sb_cascade.specs.Fitting.{AllFit, AllMayStand, IsFitting}
use Rattle.sb_cascade.specs.Runs.{EndsBy, MadeFrom, StopsFrom, is_free}
use Rattle.sb_cascade.proofs.Commanding.{creating-stays}
use Rattle.sb_drive.specs.Slots.{Slots, owned}
use Rattle.sb_forms.specs.Pages.{ArePages}
use Rattle.sb_drive.specs.Spaces.{LeadsWithin, Wanted}
use Rattle.sb_registry.specs.Boxes.{Meanings, attachment_of, boxes_of}
use Rattle.sb_catalog.specs.declared.descriptor.Attached.{Attached}
use Rattle.sb_catalog.specs.Descriptors.{described, standing}
use Rattle.sb_standing.specs.Standing.{EachRule, IsKept, Keeps, KeepsRules}
use Rattle.sb_standing.specs.Tables.{Kept, KeepsTable, db_of, kept_at}
use Rattle.sb_standing.proofs.KeptLemmas.{kept_at-all, relation_at-none, relation_at-there}
use Rattle.sb_engine.specs.Opened.{IsDurable}
use Rattle.sb_engine.specs.Measures.{measured}
use Rattle.sb_engine.specs.declared.running.Work.{Work}
use Rattle.sb_engine.specs.Working.{AreLasting, AreNamedApart, AreOpened, ArePaired, IsNoneGone, IsOpened, IsPaid, Stands, extensions_of, left_of}
use Rattle.sb_engine.proofs.GoneLemmas.{with_gone-some}
use Rattle.sb_engine.proofs.PaidLemmas.{Spends, paid_within}
use Rattle.sb_engine.proofs.LackingLemmas.{all_meant, goes_none}
use Rattle.sb_tables.specs.Creation.{MayCreate, new_relation}
use Rattle.sb_tables.specs.Freeing.{LeavesGone, free_most}
use Rattle.sb_tables.proofs.SpendingLemmas.{free_held}
use Rattle.sb_tables.specs.Keeping.{KeepsDb}
use Rattle.sb_tables.specs.Removal.{MayDrop}
use Rattle.sb_tables.proofs.ApartLemmas.{apart-left, apart-with}
use Rattle.sb_tables.proofs.CreationLemmas.{mirrored-with, paired-with}
use Rattle.sb_tables.proofs.RemovalLemmas.{complete-left, mirrored-left, paired-left}

-- ---- what the definitions make of what stands
abbrev create_step : Extensions → Name → ℕ → List Column → List Name → Going → Going
create_step ext name method schema key going =
    let db : Db.Db = with_relation going.db name (new_relation method schema key) in
    with_db db (reach db (create_cost ext going.db method) going)

abbrev drop_step : Extensions → Name → Going → Going
drop_step ext name going =
    let mirrors : List Name = mirrored_in name (attachments_at going.db name) in
    leave ext name (bounds_at ext going.db name) (1 + length mirrors) (without_relation going.db name) going

abbrev pub drop_cost : Extensions → Name → Going → ℕ
drop_cost ext name going =
    cond (is_durable_at ext going.db name)
    ((1 + length (mirrored_in name (attachments_at going.db name))) * descriptor_cost ext going.db) 0

-- ---- rules that live boxes keep may stand
live_first : (code : ℕ) (box : Attachment) (live spare : List Attachment) → attachment_of code live ≡ Some box → attach_rules code (map (λ x. x.rules) (live ++ spare)) ≡ Some box.rules
live_first code box [] spare at = absurd (cc)
live_first code box (a ∷ live) spare at = of_test (a.rules.code == code) at (live_first code box live spare)
  where
    of_test : (b : Bool) → cond b (Some a) (attachment_of code live) ≡ Some box → (attachment_of code live ≡ Some box → attach_rules code (map (λ x. x.rules) (live ++ spare)) ≡ Some box.rules)
        → cond b (Some a.rules) (attach_rules code (map (λ x. x.rules) (live ++ spare))) ≡ Some box.rules
    of_test true is rest = ap (option_map (λ (x : Attachment). x.rules)) is
    of_test false is rest = rest is

box_live : (m : Meanings) (rule : Rule) (code : ℕ) (box : Attachment) → rule_code rule ≡ code → attachment_of code m.attachments ≡ Some box → box_of (extensions_of m) rule ≡ Some box.rules
box_live m rule code box same live = ap (λ (n : ℕ). attach_rules n (boxes_of m).attachments) same ∙ live_first code box m.attachments m.spare_attachments live

module _ (m : Meanings) (root : ℕ) (s : Slots) (gone : List ℕ) (kept : List Kept) (keeps : Keeps m IsDurable root s gone kept) where
  one_may : (k : Kept) (d : Attached) (a : Db.Attached) → KeepsTable m IsDurable s k → described d ≡ standing a → IsKept m IsDurable s (db_of kept) k d a
      → MayStand (box_of (extensions_of m) a.rule) (db_of kept) k.relation.schema a.rule
  one_may k d a table same it =
      subst (λ (box : Option AttachRules). MayStand box (db_of kept) k.relation.schema a.rule) (sym (box_live m a.rule d.code it.box (sym (ap (λ t. t.0) same)) it.live))
      (subst (λ (columns : List Column). MayStand (Some it.box.rules) (db_of kept) columns a.rule) table.is.schema it.stands.may)

  each_may : (k : Kept) → KeepsTable m IsDurable s k → (ds : List Attached) (items : List Db.Attached) → map described ds ≡ map standing items → EachRule (IsKept m IsDurable s (db_of kept) k) ds items
      → All (λ a. MayStand (box_of (extensions_of m) a.rule) (db_of kept) k.relation.schema a.rule) items
  each_may k table [] [] same each = All-nil _
  each_may k table [] (a ∷ items) same each = absurd each
  each_may k table (d ∷ ds) [] same each = absurd each
  each_may k table (d ∷ ds) (a ∷ items) same each =
      let one : described d ≡ standing a = cc in
      let rest : map described ds ≡ map standing items = cc in
      All-cons (λ x. MayStand (box_of (extensions_of m) x.rule) (db_of kept) k.relation.schema x.rule) a items (one_may k d a table one each.0) (each_may k table ds items rest each.1)

  pub all_may : AllMayStand (box_of (extensions_of m)) (db_of kept)
  all_may name = of_kept (kept_at kept name) refl
    where
      of_kept : (o : Option Kept) → kept_at kept name ≡ o → All (λ a. MayStand (box_of (extensions_of m) a.rule) (db_of kept) (schema_at (db_of kept) name) a.rule) (attachments_at (db_of kept) name)
      of_kept None at =
          subst (λ (o : Option Relation). All (λ a. MayStand (box_of (extensions_of m) a.rule) (db_of kept) (schema_of o) a.rule) (attachments_of o)) (sym (relation_at-none kept name at)) (All-nil _)
      of_kept (Some k) at =
          let table = kept_at-all (KeepsTable m IsDurable s) kept name k keeps.tables.each at in
          let rules = kept_at-all (KeepsRules m IsDurable s (db_of kept)) kept name k keeps.rules at in
          subst (λ (o : Option Relation). All (λ a. MayStand (box_of (extensions_of m) a.rule) (db_of kept) (schema_of o) a.rule) (attachments_of o)) (sym (relation_at-there kept name k at))
          (each_may k table k.descriptor.attachments k.relation.attachments table.is.attachments rules)

  -- a relation outlives the run, where it is there
  pub durable-kept : AreLasting kept → (db : Db.Db) → db ≡ db_of kept → (name : Name) → is_durable_at (extensions_of m) db name ≡ true
  durable-kept lasting db is name =
      ap (λ (x : Db.Db). is_durable_at (extensions_of m) x name) is ∙ of_kept (kept_at kept name) refl
    where
      durable_in : Option Relation → Bool
      durable_in o = elim o as (λ _. Bool) [ None ↦ true | Some r ↦ is_durable_method (extensions_of m) r.method ]

      of_kept : (o : Option Kept) → kept_at kept name ≡ o → is_durable_at (extensions_of m) (db_of kept) name ≡ true
      of_kept None at = ap durable_in (relation_at-none kept name at)
      of_kept (Some k) at =
          ap durable_in (relation_at-there kept name k at)
          ∙ kept_at-all (λ x. is_durable_method (extensions_of m) x.relation.method ≡ true) kept name k (all_meant m root s kept lasting keeps.tables) at

-- ---- pages that are held aside
-- those of an instance that outlives the run are among the durable ones
pub held-aside : (durable : Bool) → durable ≡ true → (bounds : List ℕ) (gone : Gone) → gone.durable ++ bounds ≡ (with_gone durable bounds gone).durable
held-aside true is bounds gone = refl
held-aside false is bounds gone = absurd (cc)

-- ---- an engine whose pages keep the database
module _ {S : Type 0} (Has : Wanted → Slots → S → Type 0) (Spent : ℕ → S → Type 0) (m : Meanings) (root : ℕ) where
  pub keeps_of : (g : Going) (space : S) (w : Work) → Stands Has Spent m root g space w → KeepsDb Has m root w.gone.items g.gone.durable g.db space
  keeps_of g space w stands =
      record { want = stands.want; slots = stands.slots; kept = stands.kept; has = stands.has; is = stands.db; keeps = stands.keeps; lasting = stands.lasting; held = stands.aside }

  -- with nothing open
  pub stands_on : (g : Going) (space : S) (w : Work) → KeepsDb Has m root w.gone.items g.gone.durable g.db space → IsPaid Spent 0 g.trail.spent space → AreMirrored g.db → ArePaired g.db → AreNamedApart g.db → IsComplete g.db g.queue → w.opened.items ≡ []
      → left_of w ≡ g.queue → w.picks.items ≡ g.used → (IsNoneGone g.gone → w.gone.items ≡ []) → AllFit g.db g.queue.actions → Stands Has Spent m root g space w
  stands_on g space w keeps paid mirrored paired apart complete closed waits picked gone fit = record {
    want = keeps.want;
    slots = keeps.slots;
    kept = keeps.kept;
    has = keeps.has;
    db = keeps.is;
    keeps = keeps.keeps;
    lasting = keeps.lasting;
    mirrored = mirrored;
    paired = paired;
    complete = complete;
    opened = subst (AreOpened m keeps.kept) (sym closed) (All-nil (IsOpened m keeps.kept));
    waits = waits;
    picked = picked;
    gone = gone;
    aside = keeps.held;
    paid = paid;
    apart = apart;
    rules = subst (AllMayStand (box_of (extensions_of m))) (sym keeps.is) (all_may m root keeps.slots w.gone.items keeps.kept keeps.keeps);
    fit = fit;
  }

  -- what a call changes that costs no more than the definitions charge
  pub paid_charged : (Leads : ℕ → S → S → Type 0) → Spends Spent Leads → (g : Going) (old new : S) (w : Work) (cost : ℕ) → Stands Has Spent m root g old w → LeadsWithin Leads cost old new
      → IsPaid Spent 0 (g.trail.spent + cost) new
  paid_charged Leads spends g old new w cost stands within =
      paid_within Spent Leads spends old new cost 0 g.trail.spent 0 (g.trail.spent + cost) (omega arith) within stands.paid

  pub paid_dropped : (g : Going) (old new : S) (w : Work) → Stands Has Spent m root g old w → (Leads : ℕ → S → S → Type 0) → Spends Spent Leads → (name : Name)
      → LeadsWithin Leads ((1 + length (mirrored_in name (attachments_at g.db name))) * descriptor_cost (extensions_of m) g.db) old new
      → IsPaid Spent 0 (g.trail.spent + drop_cost (extensions_of m) name g) new
  paid_dropped g old new w stands Leads spends name within =
      paid_charged Leads spends g old new w (drop_cost (extensions_of m) name g) stands
      (subst (λ (b : Bool). LeadsWithin Leads (cond b ((1 + length (mirrored_in name (attachments_at g.db name))) * descriptor_cost (extensions_of m) g.db) 0) old new)
      (sym (durable-kept m root stands.slots w.gone.items stands.kept stands.keeps stands.lasting g.db stands.db name)) within)

  module _ (g : Going) (old new : S) (w v : Work) (stands : Stands Has Spent m root g old w) (closed : v.opened.items ≡ []) (left : left_of v ≡ left_of w) (picks : v.picks.items ≡ w.picks.items) where
    -- ---- a new relation
    pub create_made : {R : Type 0} (StandsIn : Going → R → Type 0) (x : R) (name : Name) (method : ℕ) (schema : List Column) (key : List Name) → MayCreate m g.db name method schema key
        → v.gone.items ≡ w.gone.items → KeepsDb Has m root v.gone.items g.gone.durable (with_relation g.db name (new_relation method schema key)) new
        → IsPaid Spent 0 (g.trail.spent + create_cost (extensions_of m) g.db method) new → ((h : Going) → Stands Has Spent m root h new v → StandsIn h x)
        → MadeFrom StandsIn (create (extensions_of m) name method schema key) g tt x
    create_made StandsIn x name method schema key may gone keeps paid says = record {
      picks = [];
      after = create_step (extensions_of m) name method schema key g;
      leads = leads_change (create_step (extensions_of m) name method schema key) g (λ more. refl);
      stands = says (create_step (extensions_of m) name method schema key g) (stands_on (create_step (extensions_of m) name method schema key g) new v keeps paid
          (mirrored-with g.db name (new_relation method schema key) may.new refl stands.mirrored)
          (paired-with g.db name (new_relation method schema key) may.new refl stands.paired)
          (apart-with g.db name (new_relation method schema key) refl stands.apart)
          (with-relation-complete g.db g.queue name (new_relation method schema key) may.new refl refl stands.complete)
          closed (left ∙ stands.waits) (picks ∙ stands.picked) (λ none. gone ∙ stands.gone none)
          (All-weaker (IsFitting g.db) (IsFitting (with_relation g.db name (new_relation method schema key)))
          (λ a fits. creating-stays g.db name (new_relation method schema key) a may.new fits) g.queue.actions stands.fit));
    }

    -- ---- a relation that goes
    pub drop_made : {R : Type 0} (StandsIn : Going → R → Type 0) (x : R) (name : Name) → MayDrop g.db g.queue name
        → KeepsDb Has m root v.gone.items (g.gone.durable ++ bounds_at (extensions_of m) g.db name) (without_relation g.db name) new
        → IsPaid Spent 0 (g.trail.spent + drop_cost (extensions_of m) name g) new → ((h : Going) → Stands Has Spent m root h new v → StandsIn h x)
        → MadeFrom StandsIn (drop_relation (extensions_of m) name) g tt x
    drop_made StandsIn x name may keeps paid says = record {
      picks = [];
      after = drop_step (extensions_of m) name g;
      leads = leads_change (drop_step (extensions_of m) name) g (λ more. refl);
      stands = says (drop_step (extensions_of m) name g) (stands_on (drop_step (extensions_of m) name g) new v (subst (λ (l : List ℕ). KeepsDb Has m root v.gone.items l (without_relation g.db name) new) held keeps) paid
          (mirrored-left g.db g.queue name may stands.mirrored stands.paired)
          (paired-left g.db g.queue name may stands.mirrored stands.paired)
          (apart-left g.db name stands.apart)
          (complete-left g.db g.queue name may stands.mirrored stands.paired stands.complete)
          closed (left ∙ stands.waits) (picks ∙ stands.picked) (λ none. absurd (some_gone g.gone (is_durable_at (extensions_of m) g.db name) none))
          (subst (λ (actions : List Action). AllFit (without_relation g.db name) actions) (sym may.still) (All-nil _)));
    }
      where
        -- it outlives the run
        durable : is_durable_at (extensions_of m) g.db name ≡ true
        durable = durable-kept m root stands.slots w.gone.items stands.kept stands.keeps stands.lasting g.db stands.db name

        held : g.gone.durable ++ bounds_at (extensions_of m) g.db name ≡ (drop_step (extensions_of m) name g).gone.durable
        held = held-aside (is_durable_at (extensions_of m) g.db name) durable (bounds_at (extensions_of m) g.db name) g.gone

        -- the pages of the relation
        bounds : bounds_at (extensions_of m) g.db name ≡ method_bound (extensions_of m) may.relation ∷ map (attached_bound (extensions_of m) g.db name) may.relation.attachments
        bounds = ap (λ (o : Option Relation). elim o as (λ _. List ℕ) [ None ↦ [] | Some r ↦ method_bound (extensions_of m) r ∷ map (attached_bound (extensions_of m) g.db name) r.attachments ]) may.there

        some_gone : (gone : Gone) (durable : Bool) → IsNoneGone (with_gone durable (bounds_at (extensions_of m) g.db name) gone) → ⊥
        some_gone gone durable none =
            with_gone-some durable (method_bound (extensions_of m) may.relation) (map (attached_bound (extensions_of m) g.db name) may.relation.attachments) gone
            (subst (λ (ns : List ℕ). IsNoneGone (with_gone durable ns gone)) bounds none)

-- ---- where the layer stops on the way
-- a new relation is stopped where the definition has come to its end
pub create_stops : {R : Type 0} (Stopped : Refusal → Trail → R → Type 0) (x : R) (ext : Extensions) (name : Name) (method : ℕ) (schema : List Column) (key : List Name) (r : Refusal) (g : Going)
    → is_free r ≡ true → Stopped r (create_step ext name method schema key g).trail x → StopsFrom Stopped (create ext name method schema key) g r x
create_stops Stopped x ext name method schema key r g free stopped =
    subst (λ (b : Bool). EndsBy Stopped b (create ext name method schema key) g r x) (sym free)
    (record {
      picks = [];
      trail = (create_step ext name method schema key g).trail;
      comes = λ more. goes_none (create_step ext name method schema key g).trail;
      stopped = stopped;
    })

-- one that goes, at the database before
pub drop_stops : {R : Type 0} (Stopped : Refusal → Trail → R → Type 0) (x : R) (ext : Extensions) (name : Name) (r : Refusal) (g : Going)
    → is_free r ≡ true → Stopped r (at_point g.db g.gone (drop_cost ext name g) g.trail) x → StopsFrom Stopped (drop_relation ext name) g r x
drop_stops Stopped x ext name r g free stopped =
    subst (λ (b : Bool). EndsBy Stopped b (drop_relation ext name) g r x) (sym free)
    (record {
      picks = [];
      trail = (drop_step ext name g).trail;
      comes = λ more. goes_none (drop_step ext name g).trail;
      stopped = stopped;
    })

-- ---- pages that go before a commit
-- that costs no more than the definitions charge
pub paid_freed : {S : Type 0} (Has : Wanted → Slots → S → Type 0) (Spent : ℕ → S → Type 0) (m : Meanings) (root : ℕ) (g : Going) (old new : S) (w : Work)
    → (stands : Stands Has Spent m root g old w) → (Leads : ℕ → S → S → Type 0) → Spends Spent Leads → ((o : ℕ) → ArePages (owned stands.slots o))
    → LeadsWithin Leads (free_most w.gone.items) old new → IsPaid Spent 0 (freed g).trail.spent new
paid_freed Has Spent m root g old new w stands Leads spends pages leads =
    paid_within Spent Leads spends old new (free_most w.gone.items) 0 g.trail.spent 0 (freed g).trail.spent
    (omega (arith, free_held stands.slots w.gone.items g.gone.durable pages stands.keeps.own.left stands.aside)) leads stands.paid

pub stands_freed : {S : Type 0} (Has : Wanted → Slots → S → Type 0) (Spent : ℕ → S → Type 0) (m : Meanings) (root : ℕ) (g : Going) (old new : S) (w v : Work)
    → (stands : Stands Has Spent m root g old w) → IsPaid Spent 0 (freed g).trail.spent new
    → LeavesGone Has m root stands.kept stands.want [] new → v.gone.items ≡ [] → v.opened.items ≡ w.opened.items → left_of v ≡ left_of w → v.picks.items ≡ w.picks.items → Stands Has Spent m root (freed g) new v
stands_freed Has Spent m root g old new w v stands paid left none opened waits picks = record {
  want = stands.want;
  slots = left.slots;
  kept = stands.kept;
  has = left.has;
  db = stands.db;
  keeps = subst (λ (l : List ℕ). Keeps m IsDurable root left.slots l stands.kept) (sym none) left.keeps;
  lasting = stands.lasting;
  mirrored = stands.mirrored;
  paired = stands.paired;
  complete = stands.complete;
  opened = subst (AreOpened m stands.kept) (sym opened) stands.opened;
  waits = waits ∙ stands.waits;
  picked = picks ∙ stands.picked;
  gone = λ _. none;
  aside = λ f measure. omega (arith, ap (λ (l : List ℕ). measured f left.slots l) none);
  paid = paid;
  apart = stands.apart;
  rules = stands.rules;
  fit = stands.fit;
}
