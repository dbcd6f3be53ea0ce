-- Taking an attachment off, on an engine at work.
use Rattle.std.proofs.Common.{◌≡◌, ℕ, sum_by, ◌≤◌, ◌+◌, ◌*◌, Bool, true, false, cond, List, [], ◌∷◌, ◌++◌, length, map, drop, Option, Some, None, option_and_then, option_map, bytes_eq, arith, refl, sym, ap, subst, ◌∙◌}
use Rattle.std.specs.List.{find}
use Rattle.std.proofs.lemmas.List.Elements.{All-weaker}
use Rattle.std.proofs.lemmas.List.Sums.{sum_by-append}
use Rattle.std.proofs.lemmas.Option.{same_Some}
use Rattle.sb_value.specs.Equal.{bytes_same}
use Rattle.sb_rule.specs.declared.rule.Rule.{Rule}
use Rattle.sb_rule.specs.declared.rule.Rule.TheVariants.{TreeIndex, HashIndex, JoinIndex, Stats, Check, Refers, Trigger, Foreign}
use Rattle.sb_rule.specs.declared.rule.Side.TheVariants.{Main, Mirror}
use Rattle.sb_relation.specs.Build.{mirror_name, mirror_of}
use Rattle.sb_relation.specs.Db.{Name, Attached, Relation, Db}
use Rattle.sb_fold.specs.Bounds.{attached_bound}
use Rattle.sb_fold.specs.Building.{at_point, detach, detach_one, rule_at, without_attached, without_mirror, without_rule}
use Rattle.sb_fold.specs.Costs.{descriptor_cost, descriptors_of}
use Rattle.sb_fold.specs.Extensions.{Extensions, is_durable_at}
use Rattle.sb_fold.specs.Fold.{attachments_at}
use Rattle.sb_fold.specs.Outcome.{Going, Leads, Trail, Work, made, with_picks}
use Rattle.sb_fold.specs.declared.refusal.Refusal.{Refusal}
use Rattle.sb_deferred.specs.Complete.{AreMirrored}
use Rattle.sb_deferred.proofs.CatalogLemmas.{without-rule-complete}
use Rattle.sb_deferred.proofs.RelationLemmas.{attachments_of}
use Rattle.sb_cascade.specs.Fitting.{IsFitting}
use Rattle.sb_cascade.specs.Runs.{EndsBy, GoesOn, MadeFrom, StopsFrom, is_free}
use Rattle.sb_cascade.proofs.Commanding.{detaching-stays}
use Rattle.sb_registry.specs.Boxes.{Meanings}
use Rattle.sb_catalog.specs.declared.descriptor.Attached.{Attached as Described}
use Rattle.sb_catalog.specs.declared.descriptor.Descriptor.{Descriptor}
use Rattle.sb_catalog.specs.Descriptors.{described, standing}
use Rattle.sb_drive.specs.Slots.{Slots}
use Rattle.sb_tables.specs.Place.{Place}
use Rattle.sb_standing.specs.Standing.{owners_in}
use Rattle.sb_standing.specs.Tables.{Kept, KeepsTable, db_of, kept_at}
use Rattle.sb_standing.proofs.KeptLemmas.{kept_at-all, relation_at-none, relation_at-there}
use Rattle.sb_standing.proofs.RuleLemmas.{heads, tails}
use Rattle.sb_tables.specs.Opened.{IsDurable}
use Rattle.sb_tables.specs.Owned.{pages_of}
use Rattle.sb_tables.specs.Running.{Running}
use Rattle.sb_tables.specs.Work.{Work as Beside}
use Rattle.sb_tables.specs.Working.{AreNamedApart, IsPaid, Stands, StandsFor, extensions_in, extensions_of, left_of}
use Rattle.sb_tables.proofs.GoneLemmas.{with_gone-some}
use Rattle.sb_tables.proofs.LackingLemmas.{goes_none}
use Rattle.sb_tables.specs.Keeping.{Closes, KeepsDb, KeepsIn, KeepsWithinIn}
use Rattle.sb_tables.specs.Measures.{IsWithin}
use Rattle.sb_tables.specs.Removal.{taken_bounds}
use Rattle.sb_tables.proofs.ApartLemmas.{apart-mirror, apart-without}
use Rattle.sb_tables.proofs.DetachedLemmas.{keeps-more}
use Rattle.sb_drive.specs.Spaces.{LeadsWithin, Wanted}
use Rattle.sb_drive.proofs.SpacesLemmas.{LeadsWithin-more}
use Rattle.sb_tables.proofs.PaidLemmas.{Spends}
use Rattle.sb_tables.proofs.StandsLemmas.{durable-kept, held-aside, paid_charged, stands_on}
use Rattle.sb_tables.proofs.TakenLemmas.{mirror-none, taken-one}
use Rattle.sb_tables.proofs.WithinLemmas.{within-itself}
use Rattle.sb_tables.proofs.WithoutLemmas.{IfTied}
use Rattle.sb_building.specs.Detaching.{MayDetach, both_bounds, both_cost, mirror_among, mirror_named, without_both}
use Rattle.sb_building.proofs.PairLemmas.{mirrored-without, paired-without}

-- what is found under a name has that name
found-name : (name : Name) (items : List Attached) (a : Attached) → find (λ x. bytes_eq x.name name) items ≡ Some a → a.name ≡ name
found-name name [] a is = absurd (cc)
found-name name (x ∷ items) a is = by (bytes_eq x.name name) refl is (found-name name items a)
  where
    by : (b : Bool) → bytes_eq x.name name ≡ b → cond b (Some x) (find (λ x. bytes_eq x.name name) items) ≡ Some a → (find (λ x. bytes_eq x.name name) items ≡ Some a → a.name ≡ name) → a.name ≡ name
    by true same here rest = ap (λ (y : Attached). y.name) (sym (same_Some x a here)) ∙ (bytes_same x.name name).0 same
    by false other there rest = rest there

-- ---- an attachment in the descriptor and in the database
-- the same one is found in both
pub record IsAlsoFound (name : Name) (ds : List Described) (a : Attached) : Type 0 where
  pub one : Described
  pub at : find (λ x. bytes_eq x.name name) ds ≡ Some one
  pub rule_is : one.rule ≡ a.rule
  pub name_is : one.name ≡ name

pub found-alike : (name : Name) (ds : List Described) (others : List Attached) (a : Attached) → map described ds ≡ map standing others → find (λ x. bytes_eq x.name name) others ≡ Some a → IsAlsoFound name ds a
found-alike name [] [] a same is = absurd (cc)
found-alike name (x ∷ ds) [] a same is = absurd (cc)
found-alike name [] (y ∷ others) a same is = absurd (cc)
found-alike name (x ∷ ds) (y ∷ others) a same is =
    by (bytes_eq y.name name) refl is (found-alike name ds others a (tails (described x) (standing y) (map described ds) (map standing others) same))
  where
    one : described x ≡ standing y
    one = heads (described x) (standing y) (map described ds) (map standing others) same

    named_alike : x.name ≡ y.name
    named_alike = ap (λ (e : ℕ × Name × Rule). e.1) one

    by : (b : Bool) → bytes_eq y.name name ≡ b → cond b (Some y) (find (λ x. bytes_eq x.name name) others) ≡ Some a → (find (λ x. bytes_eq x.name name) others ≡ Some a → IsAlsoFound name ds a) → IsAlsoFound name (x ∷ ds) a
    by true same_name here rest = record {
      one = x;
      at = ap (λ b. cond b (Some x) (find (λ x. bytes_eq x.name name) ds)) (ap (λ (n : Name). bytes_eq n name) named_alike ∙ same_name);
      rule_is = ap (λ (e : ℕ × Name × Rule). e.2) one ∙ ap (λ (b : Attached). b.rule) (same_Some y a here);
      name_is = named_alike ∙ (bytes_same y.name name).0 same_name;
    }
    by false other there rest =
        let found = rest there in
        record {
          one = found.one;
          at = ap (λ b. cond b (Some x) (find (λ x. bytes_eq x.name name) ds)) (ap (λ (n : Name). bytes_eq n name) named_alike ∙ other) ∙ found.at;
          rule_is = found.rule_is;
          name_is = found.name_is;
        }

-- of a relation that is kept
pub record IsKeptFound (kept : List Kept) (relation name : Name) (a : Attached) : Type 0 where
  pub k : Kept
  pub there : kept_at kept relation ≡ Some k
  pub found : IsAlsoFound name k.descriptor.attachments a

pub kept-found : {S : Type 0} (Has : Wanted → Slots → S → Type 0) (m : Meanings) (root : ℕ) (gone aside : List ℕ) (db : Db) (space : S) (relation name : Name) (a : Attached) → (keeps : KeepsDb Has m root gone aside db space)
    → rule_at db relation name ≡ Some a → IsKeptFound keeps.kept relation name a
kept-found Has m root gone aside db space relation name a keeps is = by (kept_at keeps.kept relation) refl
  where
    found : rule_at (db_of keeps.kept) relation name ≡ Some a
    found = ap (λ (d : Db). rule_at d relation name) (sym keeps.is) ∙ is

    by : (o : Option Kept) → kept_at keeps.kept relation ≡ o → IsKeptFound keeps.kept relation name a
    by None at =
        let none : rule_at (db_of keeps.kept) relation name ≡ None = ap (λ (o : Option Relation). find (λ x. bytes_eq x.name name) (attachments_of o)) (relation_at-none keeps.kept relation at) in
        absurd (let both : None ≡ Some a = sym none ∙ found in cc)
    by (Some k) at = record {
      k = k;
      there = at;
      found = found-alike name k.descriptor.attachments k.relation.attachments a (kept_at-all (KeepsTable m IsDurable keeps.slots) keeps.kept relation k keeps.keeps.tables.each at).is.attachments
          (ap (λ (o : Option Relation). find (λ x. bytes_eq x.name name) (attachments_of o)) (sym (relation_at-there keeps.kept relation k at)) ∙ found);
    }

-- ---- mirrors
-- an attachment has the mirror that it has in the database
pub mirror_kept : {S : Type 0} (Has : Wanted → Slots → S → Type 0) (m : Meanings) (root : ℕ) (gone aside : List ℕ) (db : Db) (space : S) (relation name : Name) (a : Attached) (d : Descriptor) → (keeps : KeepsDb Has m root gone aside db space)
    → rule_at db relation name ≡ Some a → Some d ≡ option_map (λ (k : Kept). k.descriptor) (kept_at keeps.kept relation) → mirror_among d.attachments relation name ≡ mirror_named relation name a.rule
mirror_kept Has m root gone aside db space relation name a d keeps at is =
    let it = kept-found Has m root gone aside db space relation name a keeps at in
    let same : d ≡ it.k.descriptor = same_Some d it.k.descriptor (is ∙ ap (option_map (λ (k : Kept). k.descriptor)) it.there) in
    ap (λ (x : Descriptor). mirror_among x.attachments relation name) same
    ∙ ap (option_and_then (λ (x : Described). mirror_named relation x.name x.rule)) it.found.at
    ∙ (λ i. mirror_named relation (it.found.name_is i) (it.found.rule_is i))

-- by the relation that has it
abbrev labelled : Name → Name → Name → Name × Name
labelled relation name other = (other, mirror_name relation name)

pub mirror_from : (relation name : Name) (rule : Rule) (o : Option Name) → o ≡ option_map (λ (m : Name × Rule). m.0) (mirror_of relation rule)
    → option_map (labelled relation name) o ≡ mirror_named relation name rule
mirror_from relation name rule o is = ap (option_map (labelled relation name)) is ∙ twice (mirror_of relation rule)
  where
    twice : (m : Option (Name × Rule)) → option_map (labelled relation name) (option_map (λ (p : Name × Rule). p.0) m) ≡ option_map (λ (p : Name × Rule). labelled relation name p.0) m
    twice None = refl
    twice (Some p) = refl

-- without the two, the database is without the rule
pub both_are_rule : (db : Db) (relation name : Name) (a : Attached) → a.name ≡ name → without_both db relation name (mirror_named relation name a.rule) ≡ without_rule db relation a
both_are_rule db relation name a named =
    by (mirror_of relation a.rule) ∙ ap (λ (n : Name). without_mirror relation n (mirror_of relation a.rule) (without_attached db relation n)) (sym named)
  where
    by : (m : Option (Name × Rule)) → without_both db relation name (option_map (λ (p : Name × Rule). (p.0, mirror_name relation name)) m) ≡ without_mirror relation name m (without_attached db relation name)
    by None = refl
    by (Some (other, rule)) = refl

-- and no more is held aside for them than its bound
both-within : (ext : Extensions) (db : Db) (relation name : Name) (a : Attached) → AreMirrored db → AreNamedApart db → rule_at db relation name ≡ Some a
    → IsWithin (both_bounds ext db relation name (mirror_named relation name a.rule)) (attached_bound ext db relation a ∷ [])
both-within ext db relation name a mirrored apart there f measure =
    by (mirror_of relation a.rule) (mirror-none f measure ext db relation name a mirrored apart there)
  where
    by : (m : Option (Name × Rule)) → IfTied (λ other rule. sum_by f (taken_bounds ext (without_attached db relation name) other (mirror_name relation name)) ≡ 0) m
        → sum_by f (both_bounds ext db relation name (option_map (λ (p : Name × Rule). (p.0, mirror_name relation name)) m)) ≤ sum_by f (attached_bound ext db relation a ∷ [])
    by None none = omega (arith, ap (sum_by f) (taken-one ext db relation name a apart there))
    by (Some (other, rule)) none =
        omega (
          arith,
          none,
          ap (sum_by f) (taken-one ext db relation name a apart there),
          sum_by-append f (taken_bounds ext db relation name) (taken_bounds ext (without_attached db relation name) other (mirror_name relation name)),
        )

-- ---- what it costs
-- a main instance with a mirror stands in two descriptors
both_charged : (ext : Extensions) (db : Db) (relation name : Name) (rule : Rule) → both_cost ext db (mirror_named relation name rule) ≤ descriptors_of rule * descriptor_cost ext db
both_charged ext db relation name (TreeIndex columns unique) = omega arith
both_charged ext db relation name (HashIndex columns) = omega arith
both_charged ext db relation name (JoinIndex Main columns other others) = omega arith
both_charged ext db relation name (JoinIndex Mirror columns other others) = omega arith
both_charged ext db relation name (Stats column low width) = omega arith
both_charged ext db relation name (Check pred deferred) = omega arith
both_charged ext db relation name (Refers Main columns other others mode deferred) = omega arith
both_charged ext db relation name (Refers Mirror columns other others mode deferred) = omega arith
both_charged ext db relation name (Trigger on pred a deferred) = omega arith
both_charged ext db relation name (Foreign code desc) = omega arith

-- ---- runs
-- what the definition has it cost
abbrev pub detach_cost : Extensions → Name → Attached → Db → ℕ
detach_cost ext relation a db = cond (is_durable_at ext db relation) (descriptors_of a.rule * descriptor_cost ext db) 0

pub paid_detached : {S : Type 0} (Has : Wanted → Slots → S → Type 0) (Spent : ℕ → S → Type 0) (m : Meanings) (root : ℕ) (Leads : ℕ → S → S → Type 0) → Spends Spent Leads
    → (g : Going) (old new : S) (w : Beside) → (stands : Stands Has Spent m root g old w) → (relation name : Name) (a : Attached)
    → LeadsWithin Leads (both_cost (extensions_of m) g.db (mirror_named relation name a.rule)) old new
    → IsPaid Spent 0 (g.trail.spent + detach_cost (extensions_of m) relation a g.db) new
paid_detached Has Spent m root Leads spends g old new w stands relation name a within =
    let ext = extensions_of m in
    let durable = durable-kept m root stands.slots w.gone.items stands.kept stands.keeps stands.lasting g.db stands.db relation in
    let all : detach_cost ext relation a g.db ≡ descriptors_of a.rule * descriptor_cost ext g.db = ap (λ (b : Bool). cond b (descriptors_of a.rule * descriptor_cost ext g.db) 0) durable in
    paid_charged Has Spent m root Leads spends g old new w (detach_cost ext relation a g.db) stands
    (LeadsWithin-more Leads (both_cost ext g.db (mirror_named relation name a.rule)) (detach_cost ext relation a g.db) old new
    (omega (arith, all, both_charged ext g.db relation name a.rule)) within)

-- an engine stops at the database before
pub detach_stops : {R : Type 0} (Stopped : Refusal → Trail → R → Type 0) (x : R) (ext : Extensions) (relation name : Name) (a : Attached) (r : Refusal) (g : Going) → rule_at g.db relation name ≡ Some a
    → is_free r ≡ true → Stopped r (at_point g.db g.gone (detach_cost ext relation a g.db) g.trail) x → StopsFrom Stopped (detach ext relation name) g r x
detach_stops Stopped x ext relation name a r g there free stopped =
    subst (λ (b : Bool). EndsBy Stopped b (detach ext relation name) g r x) (sym free)
    (record {
      picks = [];
      trail = (detach_one ext relation (Some a) g).trail;
      comes = λ more. subst (λ (o : Option Attached). GoesOn (detach_one ext relation (Some a) g).trail (detach_one ext relation o (with_picks g more)).trail) (sym there) (goes_none (detach_one ext relation (Some a) g).trail);
      stopped = stopped;
    })

-- an attachment that is there is taken off
leads_detached : (ext : Extensions) (relation name : Name) (a : Attached) (g : Going) → rule_at g.db relation name ≡ Some a → Leads (detach ext relation name) g [] (made tt) (detach_one ext relation (Some a) g)
leads_detached ext relation name a g there = record { leads = λ more. ap (λ (o : Option Attached). made tt (detach_one ext relation o (with_picks g more))) there }

-- ---- what an engine stands for
-- what it keeps, it keeps within the pages that it has
pub itself : {B S : Type 0} (Has : Wanted → Slots → S → Type 0) (meanings : B → Meanings) (aside : List ℕ) (db : Db) (a : Running B S) → (keeps : KeepsIn Has meanings aside db a)
    → KeepsWithinIn Has meanings aside (pages_of keeps.slots (owners_in keeps.kept ++ a.work.now.gone.items) + 2 * length keeps.kept + 3) db a
itself Has meanings aside db a keeps = within-itself Has (meanings a.boxes.now) a.place.root a.work.now.gone.items aside db a.space.now keeps

-- the work comes to an end without picks, and there it stands
record Comes {S : Type 0} (Has : Wanted → Slots → S → Type 0) (Spent : ℕ → S → Type 0) (m : Meanings) (root : ℕ) (work : Work (Unit {0})) (g : Going) (new : S) (v : Beside) : Type 0 where
  after : Going
  leads : Leads work g [] (made tt) after
  stands : Stands Has Spent m root after new v

detach_comes : {S : Type 0} (Has : Wanted → Slots → S → Type 0) (Spent : ℕ → S → Type 0) (m : Meanings) (root : ℕ) (g : Going) (old new : S) (w v : Beside) → (stands : Stands Has Spent m root g old w) → (relation name : Name) (may : MayDetach g.db relation name)
    → v.opened.items ≡ [] → left_of v ≡ left_of w → v.picks.items ≡ w.picks.items → KeepsDb Has m root v.gone.items (g.gone.durable ++ both_bounds (extensions_of m) g.db relation name (mirror_named relation name may.one.rule))
    (without_both g.db relation name (mirror_named relation name may.one.rule)) new → IsPaid Spent 0 (g.trail.spent + detach_cost (extensions_of m) relation may.one g.db) new
    → Comes Has Spent m root (detach (extensions_of m) relation name) g new v
detach_comes Has Spent m root g old new w v stands relation name may closed left picks keeps paid =
    let named : may.one.name ≡ name = found-name name (attachments_at g.db relation) may.one may.there in
    let there : rule_at g.db relation may.one.name ≡ Some may.one = ap (rule_at g.db relation) named ∙ may.there in
    let after = without_rule g.db relation may.one in
    let bound = attached_bound (extensions_of m) g.db relation may.one in
    let held = held-aside (is_durable_at (extensions_of m) g.db relation)
    (durable-kept m root stands.slots w.gone.items stands.kept stands.keeps stands.lasting g.db stands.db relation) (bound ∷ []) g.gone in
    let both = both-within (extensions_of m) g.db relation name may.one stands.mirrored stands.apart may.there in
    let bounds = both_bounds (extensions_of m) g.db relation name (mirror_named relation name may.one.rule) in
    record {
      after = detach_one (extensions_of m) relation (Some may.one) g;
      leads = leads_detached (extensions_of m) relation name may.one g may.there;
      stands =
          stands_on Has Spent m root (detach_one (extensions_of m) relation (Some may.one) g) new v
          (subst (λ (d : Db). KeepsDb Has m root v.gone.items (detach_one (extensions_of m) relation (Some may.one) g).gone.durable d new) (both_are_rule g.db relation name may.one named)
          (subst (λ (l : List ℕ). KeepsDb Has m root v.gone.items l (without_both g.db relation name (mirror_named relation name may.one.rule)) new) held
          (keeps-more Has m root v.gone.items (g.gone.durable ++ bounds) (g.gone.durable ++ bound ∷ []) (without_both g.db relation name (mirror_named relation name may.one.rule)) new
          (λ f measure. omega (arith, both f measure, sum_by-append f g.gone.durable bounds, sum_by-append f g.gone.durable (bound ∷ []))) keeps)))
          paid
          (mirrored-without g.db relation may.one there may.main stands.mirrored)
          (paired-without g.db relation may.one there may.main stands.mirrored stands.paired)
          (apart-mirror (without_attached g.db relation may.one.name) relation may.one.name (mirror_of relation may.one.rule) (apart-without g.db relation may.one.name stands.apart))
          (without-rule-complete g.db g.queue relation may.one stands.complete)
          closed (left ∙ stands.waits) (picks ∙ stands.picked)
          (λ none. absurd (with_gone-some (is_durable_at (extensions_of m) g.db relation) (attached_bound (extensions_of m) g.db relation may.one) [] g.gone none))
          (All-weaker (IsFitting g.db) (IsFitting after) (λ a fits. (detaching-stays g.db relation may.one a).1 fits) g.queue.actions stands.fit);
    }

-- the same of an engine at work
pub detached_in : {B S : Type 0} (Has : Wanted → Slots → S → Type 0) (Spent : ℕ → S → Type 0) (meanings : B → Meanings) (g : Going) (old new : Running B S) (relation name : Name) → StandsFor Has Spent meanings g old → (may : MayDetach g.db relation name)
    → new.boxes.now ≡ old.boxes.now → new.place ≡ old.place → Closes old new → KeepsIn Has meanings (g.gone.durable ++ both_bounds (extensions_in meanings old) g.db relation name (mirror_named relation name may.one.rule))
    (without_both g.db relation name (mirror_named relation name may.one.rule)) new → IsPaid Spent 0 (g.trail.spent + detach_cost (extensions_in meanings old) relation may.one g.db) new.space.now
    → MadeFrom (StandsFor Has Spent meanings) (detach (extensions_in meanings old) relation name) g tt new
detached_in {B = B} Has Spent meanings g old new relation name stands may boxes place closes keeps paid =
    let same : (new.boxes.now, new.place) ≡ (old.boxes.now, old.place) = λ i. (boxes i, place i) in
    let both = without_both g.db relation name (mirror_named relation name may.one.rule) in
    let held = g.gone.durable ++ both_bounds (extensions_in meanings old) g.db relation name (mirror_named relation name may.one.rule) in
    let here = subst (λ (q : B × Place). KeepsDb Has (meanings q.0) q.1.root new.work.now.gone.items held both new.space.now) same keeps in
    let left : left_of new.work.now ≡ left_of old.work.now =
    λ i. record { actions = drop (closes.done i) (closes.queue i).actions; entries = (closes.queue i).entries } in
    let made =
    detach_comes Has Spent (meanings old.boxes.now) old.place.root g old.space.now new.space.now old.work.now new.work.now stands relation name may closes.opened left closes.picks here paid in
    record {
      picks = [];
      after = made.after;
      leads = made.leads;
      stands = subst (λ (q : B × Place). Stands Has Spent (meanings q.0) q.1.root made.after new.space.now new.work.now) (sym same) made.stands;
    }
