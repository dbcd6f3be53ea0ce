-- The pages of one relation, against what it weighs.
use Rattle.std.proofs.Common.{◌≡◌, ℕ, zero, suc, ◌+◌, ◌*◌, ◌≤◌, nat_lt, max, true, false, cond, List, [], ◌∷◌, length, map, Some}
use Rattle.std.proofs.Common.{refl, sym, ap, ◌∙◌, subst, arith}
use Rattle.std.specs.List.{slice_get, sum_by}
use Rattle.std.proofs.lemmas.List.Sums.{sum_by-cons}
use Rattle.std.proofs.lemmas.Option.{same_Some}
use Rattle.sb_rule.specs.declared.change.Change.{Change}
use Rattle.sb_rule.specs.declared.change.Change.TheVariants.{Insert, Delete, Update}
use Rattle.sb_rule.specs.declared.rule.Rule.{Rule}
use Rattle.sb_rule.specs.declared.rule.Rule.TheVariants.{TreeIndex, HashIndex, JoinIndex, Stats, Check, Refers, Trigger, Foreign}
use Rattle.sb_rule.specs.declared.rule.Side.TheVariants.{Main, Mirror}
use Rattle.sb_relation.specs.Buckets.{next_buckets}
use Rattle.sb_relation.specs.Db
use Rattle.sb_relation.specs.Db.{Name, Relation, Rows, relation_at}
use Rattle.sb_fold.specs.Bounds.{attached_bound, method_bound, rule_bound}
use Rattle.sb_fold.specs.Extensions.{Extensions, is_durable_method}
use Rattle.sb_fold.specs.Need.{bound_before, is_meant, relation_weight, rule_weight}
use Rattle.sb_fold.specs.Outcome.{Reached}
use Rattle.sb_forms.specs.Pages.{ArePages, page_count}
use Rattle.sb_ctx.specs.declared.instance.Instance.{Instance}
use Rattle.sb_ctx.specs.AttachAnswers.{content_over}
use Rattle.sb_registry.specs.Boxes.{Meanings}
use Rattle.sb_drive.specs.Slots.{Slots, owned}
use Rattle.sb_standing.specs.Live.{HasRows}
use Rattle.sb_room.specs.Owned.{pages_of}
use Rattle.sb_catalog.specs.declared.descriptor.Attached.{Attached}
use Rattle.sb_standing.specs.Instances.{owners_of}
use Rattle.sb_standing.specs.Standing.{EachRule, KeepsRule, is_join}
use Rattle.sb_standing.specs.Tables.{Kept}
use Rattle.sb_weights.proofs.Bounded.{AreBounded}

-- ---- the pages of one instance
-- those of a storage method
pub row_pages : (m : Meanings) (ext : Extensions) (s : Slots) (inst : Instance) (r : Relation) → AreBounded m ext → ArePages (owned s inst.owner)
    → r.method ≡ inst.code → HasRows m s inst r.rows → page_count (owned s inst.owner) ≤ method_bound ext r
row_pages m ext s inst r bounded pages same has =
    let formed = has.live.law.formed inst (owned s inst.owner) r.rows has.holds in
    omega (arith, formed.bound pages, bounded.methods inst.code has.live.box has.live.live has.live.law r same)

-- those of an attachment
pub rule_pages : (m : Meanings) (ext : Extensions) (s : Slots) (inst : Instance) (a : Db.Attached) (db : Db.Db) → AreBounded m ext
    → ArePages (owned s inst.owner) → is_join a.rule ≡ false → KeepsRule m s inst a db
    → page_count (owned s inst.owner) ≤ attached_bound ext db inst.relation a
rule_pages m ext s inst a db bounded pages none kept =
    let formed = kept.law.formed inst (owned s inst.owner) (content_over kept.box inst a.rule db a.buckets) kept.holds in
    let coded = sym (kept.code ∙ kept.stands.spelled.coded) in
    let bound = bounded.attachments inst.code kept.box kept.live kept.law db inst.relation a.rule a.buckets coded kept.stands.spelled.limited none in
    omega (arith, formed.bound pages, bound)

-- ---- buckets
-- no fewer, and as many of a foreign rule, whose box may take fewer pages for more of them
abbrev pub Grows : Rule → ℕ → ℕ → Type 0
Grows (Foreign code desc) few more = few ≡ more
Grows rule few more = few ≤ more

pub grows_none : (rule : Rule) (buckets : ℕ) → Grows rule buckets buckets
grows_none (TreeIndex columns unique) buckets = omega arith
grows_none (HashIndex columns) buckets = omega arith
grows_none (JoinIndex side columns other others) buckets = omega arith
grows_none (Stats column low width) buckets = omega arith
grows_none (Check pred deferred) buckets = omega arith
grows_none (Refers side columns other others mode deferred) buckets = omega arith
grows_none (Trigger on pred act deferred) buckets = omega arith
grows_none (Foreign code desc) buckets = refl

-- so it is with a change
pub buckets_grow : (rule : Rule) (c : Change) (rows : Rows) (buckets : ℕ) → Grows rule buckets (next_buckets rule c rows buckets)
buckets_grow (TreeIndex columns unique) c rows buckets = omega arith
buckets_grow (HashIndex columns) (Insert key new) rows buckets =
    elim (nat_lt (8 * buckets) (length rows)) as (λ b. buckets ≤ cond b (buckets + 1) buckets) [ true ↦ omega arith | false ↦ omega arith ]
buckets_grow (HashIndex columns) (Delete key old) rows buckets = omega arith
buckets_grow (HashIndex columns) (Update from old to new) rows buckets = omega arith
buckets_grow (JoinIndex side columns other others) c rows buckets = omega arith
buckets_grow (Stats column low width) c rows buckets = omega arith
buckets_grow (Check pred deferred) c rows buckets = omega arith
buckets_grow (Refers side columns other others mode deferred) c rows buckets = omega arith
buckets_grow (Trigger on pred act deferred) c rows buckets = omega arith
buckets_grow (Foreign code desc) c rows buckets = refl

-- and then the bound is no lesser
pub bound_grows : (ext : Extensions) (db : Db.Db) (name : Name) (rule : Rule) (few more : ℕ) → Grows rule few more
    → rule_bound ext db name rule few ≤ rule_bound ext db name rule more
bound_grows ext db name (TreeIndex columns unique) few more grows = omega arith
bound_grows ext db name (HashIndex columns) few more grows = omega (arith, grows)
bound_grows ext db name (JoinIndex Main columns other others) few more grows = omega arith
bound_grows ext db name (JoinIndex Mirror columns other others) few more grows = omega arith
bound_grows ext db name (Stats column low width) few more grows = omega arith
bound_grows ext db name (Check pred deferred) few more grows = omega arith
bound_grows ext db name (Refers side columns other others mode deferred) few more grows = omega arith
bound_grows ext db name (Trigger on pred act deferred) few more grows = omega arith
bound_grows ext db name (Foreign code desc) few more grows = omega (arith, ap (rule_bound ext db name (Foreign code desc)) grows)

-- ---- what an attachment weighs
-- where it is no join, the most of its pages before and after
pub weight_is : (ext : Extensions) (at : Reached) (name : Name) (a : Db.Attached) (rule : Rule) → is_join rule ≡ false
    → rule_weight ext at name a rule ≡ max (attached_bound ext at.before name a) (attached_bound ext at.after name a)
weight_is ext at name a (TreeIndex columns unique) none = refl
weight_is ext at name a (HashIndex columns) none = refl
weight_is ext at name a (JoinIndex side columns other others) none = absurd (cc)
weight_is ext at name a (Stats column low width) none = refl
weight_is ext at name a (Check pred deferred) none = refl
weight_is ext at name a (Refers side columns other others mode deferred) none = refl
weight_is ext at name a (Trigger on pred act deferred) none = refl
weight_is ext at name a (Foreign code desc) none = refl

-- ---- what a relation weighs
-- the pages of an attachment are within its weight
abbrev pub IsLightRule : Extensions → Reached → Slots → Name → Attached → Db.Attached → Type 0
IsLightRule ext at s name d a = page_count (owned s d.owner) ≤ rule_weight ext at name a a.rule

-- so are those of each attachment of a relation, and those of its storage method with so many more are within the bounds of the rows
pub record IsLight (ext : Extensions) (at : Reached) (s : Slots) (more : ℕ) (k : Kept) : Type 0 where
  pub meant : is_durable_method ext k.relation.method ≡ true
  pub rows : page_count (owned s k.descriptor.owner) + more ≤ max (bound_before ext (relation_at at.before k.name)) (method_bound ext k.relation)
  pub rules : EachRule (IsLightRule ext at s k.name) k.descriptor.attachments k.relation.attachments

-- what an entry of a database adds to the need
abbrev pub weight : Extensions → Reached → Name × Relation → ℕ
weight ext at e = cond (is_meant ext true e.1) (relation_weight ext at e.0 e.1) 0

light_rules : (ext : Extensions) (at : Reached) (s : Slots) (name : Name) (ds : List Attached) (others : List Db.Attached)
    → EachRule (IsLightRule ext at s name) ds others → pages_of s (map (λ d. d.owner) ds) ≤ sum_by (λ a. rule_weight ext at name a a.rule) others
light_rules ext at s name [] [] each = omega arith
light_rules ext at s name (d ∷ ds) [] each = absurd each
light_rules ext at s name [] (a ∷ others) each = absurd each
light_rules ext at s name (d ∷ ds) (a ∷ others) each =
    let first = sum_by-cons (λ o. page_count (owned s o)) d.owner (map (λ x. x.owner) ds) in
    let second = sum_by-cons (λ x. rule_weight ext at name x x.rule) a others in
    omega (arith, first, second, each.0, light_rules ext at s name ds others each.1)

-- the pages of its instances with so many more, and two of the catalogue, are within it
pub record Weighs (ext : Extensions) (at : Reached) (s : Slots) (more : ℕ) (k : Kept) : Type 0 where
  pub within : pages_of s (owners_of k.descriptor) + more + 2 ≤ weight ext at (k.name, k.relation)

pub light_weighs : (ext : Extensions) (at : Reached) (s : Slots) (more : ℕ) (k : Kept) → IsLight ext at s more k → Weighs ext at s more k
light_weighs ext at s more k light =
    let meant = ap (λ b. cond b (relation_weight ext at k.name k.relation) 0) light.meant in
    let owners = sum_by-cons (λ o. page_count (owned s o)) k.descriptor.owner (map (λ d. d.owner) k.descriptor.attachments) in
    let rules = light_rules ext at s k.name k.descriptor.attachments k.relation.attachments light.rules in
    record { within = omega (arith, meant, owners, rules, light.rows) }

-- ---- so many more pages of one attachment
more_rules : (ext : Extensions) (at : Reached) (s : Slots) (name : Name) (more i : ℕ) (ds : List Attached) (others : List Db.Attached) (d : Attached)
    (a : Db.Attached) → slice_get ds i ≡ Some d → slice_get others i ≡ Some a
    → page_count (owned s d.owner) + more ≤ rule_weight ext at name a a.rule
    → EachRule (IsLightRule ext at s name) ds others
    → pages_of s (map (λ x. x.owner) ds) + more ≤ sum_by (λ x. rule_weight ext at name x x.rule) others
more_rules ext at s name more i [] others d a at_d at_a room each = absurd (cc)
more_rules ext at s name more i (x ∷ ds) [] d a at_d at_a room each = absurd each
more_rules ext at s name more zero (x ∷ ds) (y ∷ others) d a at_d at_a room each =
    let first = sum_by-cons (λ o. page_count (owned s o)) x.owner (map (λ z. z.owner) ds) in
    let second = sum_by-cons (λ z. rule_weight ext at name z z.rule) y others in
    let here : page_count (owned s x.owner) + more ≤ rule_weight ext at name y y.rule =
    subst (λ (z : Attached). page_count (owned s z.owner) + more ≤ rule_weight ext at name y y.rule) (sym (same_Some x d at_d))
    (subst (λ (z : Db.Attached). page_count (owned s d.owner) + more ≤ rule_weight ext at name z z.rule) (sym (same_Some y a at_a)) room) in
    omega (arith, first, second, here, light_rules ext at s name ds others each.1)
more_rules ext at s name more (suc i) (x ∷ ds) (y ∷ others) d a at_d at_a room each =
    let first = sum_by-cons (λ o. page_count (owned s o)) x.owner (map (λ z. z.owner) ds) in
    let second = sum_by-cons (λ z. rule_weight ext at name z z.rule) y others in
    omega (arith, first, second, each.0, more_rules ext at s name more i ds others d a at_d at_a room each.1)

-- a light relation has place for them where the attachment has
pub asking_weighs : (ext : Extensions) (at : Reached) (s : Slots) (more i : ℕ) (k : Kept) (d : Attached) (a : Db.Attached) → IsLight ext at s 0 k
    → slice_get k.descriptor.attachments i ≡ Some d → slice_get k.relation.attachments i ≡ Some a
    → page_count (owned s d.owner) + more ≤ rule_weight ext at k.name a a.rule → Weighs ext at s more k
asking_weighs ext at s more i k d a light at_d at_a room =
    let meant = ap (λ b. cond b (relation_weight ext at k.name k.relation) 0) light.meant in
    let owners = sum_by-cons (λ o. page_count (owned s o)) k.descriptor.owner (map (λ x. x.owner) k.descriptor.attachments) in
    let rules = more_rules ext at s k.name more i k.descriptor.attachments k.relation.attachments d a at_d at_a room light.rules in
    record { within = omega (arith, meant, owners, rules, light.rows) }
