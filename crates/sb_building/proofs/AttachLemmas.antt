-- Attaching a rule without a mirror, on an engine at work.
use Rattle.std.proofs.Common.{◌≡◌, ℕ, ◌+◌, ◌<◌, ◌≤◌, ◌==◌, nat_le, nat_lt, Bool, true, false, cond, ◌||◌, List, [], ◌∷◌, ◌++◌, length, map, Option, Some, None, is_none, bytes_eq, arith, refl, sym, ap, subst, ◌∙◌}
use Rattle.std.specs.List.{Any}
use Rattle.std.proofs.lemmas.Bool.Decides.{nat_tests}
use Rattle.std.proofs.lemmas.List.Elements.{All-weaker}
use Rattle.std.proofs.lemmas.Option.{same_Some}
use Rattle.sb_value.specs.declared.schema.Column.{Column}
use Rattle.sb_rule.specs.declared.rule.Rule.{Rule}
use Rattle.sb_rule.specs.declared.rule.Rule.TheVariants.{TreeIndex, HashIndex, JoinIndex, Stats, Check, Refers, Trigger, Foreign}
use Rattle.sb_rule.specs.Spelling.{rule_code}
use Rattle.sb_relation.specs.Build.{with_attached, with_instance, with_rule}
use Rattle.sb_relation.specs.Db.{Name, Relation, Db, relation_at, schema_at, with_relation}
use Rattle.sb_relation.specs.Fits.{MayStand, first_missing}
use Rattle.sb_relation.specs.Foreign.{AttachRules, attach_rules}
use Rattle.sb_relation.specs.Limits.{attached_at, descriptor_len, has_large_descriptor, is_crowded, is_large_at}
use Rattle.sb_relation.specs.Rules.{holds}
use Rattle.sb_fold.specs.declared.refusal.Refusal.TheVariants.{TooLong as LongRow, Veto}
use Rattle.sb_fold.specs.Building.{build, has_long_row}
use Rattle.sb_fold.specs.Extensions.{Extensions, box_of}
use Rattle.sb_fold.specs.Need.{need}
use Rattle.sb_fold.specs.Outcome.{Going, Gone, Leads as RunsTo, refuse}
use Rattle.sb_deferred.specs.Complete.{AreMirrored}
use Rattle.sb_deferred.proofs.CatalogLemmas.{with-rule-complete}
use Rattle.sb_deferred.proofs.RelationLemmas.{relation_same}
use Rattle.sb_cascade.specs.Fitting.{IsFitting}
use Rattle.sb_cascade.proofs.Attaching.{attached-may-stand}
use Rattle.sb_cascade.proofs.Commanding.{attaching-stays}
use Rattle.sb_ctx.specs.Attachment.{Attachment}
use Rattle.sb_registry.specs.Boxes.{Meanings, attachment_of}
use Rattle.sb_drive.specs.declared.space.SpaceFault.{SpaceFault}
use Rattle.sb_drive.specs.declared.space.SpaceFault.TheVariants.{DataFull}
use Rattle.sb_drive.specs.Slots.{AreWhole, Slots, owned}
use Rattle.sb_drive.specs.Spaces.{LeadsWithin, Wanted}
use Rattle.sb_drive.proofs.SpacesLemmas.{ArePages-few}
use Rattle.sb_forms.specs.Pages.{page_count}
use Rattle.sb_standing.specs.Lacking.{WhereShort}
use Rattle.sb_standing.specs.Tables.{db_of}
use Rattle.sb_standing.proofs.KeptLemmas.{IsThere, kept_at-relation}
use Rattle.sb_standing.proofs.RuleLemmas.{with_rule-alone}
use Rattle.sb_tables.specs.Work.{Work as Beside}
use Rattle.sb_tables.specs.Opened.{IsDurable}
use Rattle.sb_tables.specs.Working.{AreNamedApart, ArePaired, IsLicensed, IsNoneGone, IsPaid, IsShortOf, Stands, extensions_of}
use Rattle.sb_tables.specs.Owned.{IsTabled}
use Rattle.sb_tables.specs.Refusals.{refusal_of}
use Rattle.sb_tables.specs.Weights.{resting}
use Rattle.sb_tables.proofs.Beside.{beside-is-full, rest-has-room}
use Rattle.sb_tables.proofs.LackingLemmas.{all_meant}
use Rattle.sb_tables.proofs.Measuring.{held_pages}
use Rattle.sb_tables.proofs.PaidLemmas.{Spends}
use Rattle.sb_tables.proofs.StandsLemmas.{durable-kept, paid_charged}
use Rattle.sb_tables.specs.Keeping.{KeepsDb}
use Rattle.sb_tables.specs.Measures.{IsWithin}
use Rattle.sb_tables.proofs.DetachedLemmas.{keeps-more}
use Rattle.sb_building.specs.declared.attaching.Attaching.TheVariants.{TooLarge, TooLong, Vetoed, Attached}
use Rattle.sb_building.specs.Attaching.{HasEnded, MayAdd, MayAttach, Stores, new_attached}
use Rattle.sb_building.specs.Costs.{build_cost}
use Rattle.sb_building.specs.Instances.{Site}
use Rattle.sb_building.specs.Lacking.{IsShortBuilding, IsWithinBuild}
use Rattle.sb_building.proofs.CostLemmas.{spent_build}
use Rattle.sb_building.proofs.EndedLemmas.{within-own}
use Rattle.sb_building.proofs.NameLemmas.{apart-attached}
use Rattle.sb_building.proofs.PairLemmas.{mirrored-alone, paired-alone}
use Rattle.sb_building.proofs.PointLemmas.{at_build, need-aside}
use Rattle.sb_building.proofs.WorkLemmas.{Comes, IsClosed, Stands-other, leads_attached, leads_long, leads_vetoed, reached, reached_db, reached_gone, reached_queue, reached_used}

-- ---- the extension of the rule is the live box
attach_rules-live : (code : ℕ) (live spare : List Attachment) (box : Attachment) → attachment_of code live ≡ Some box → attach_rules code (map (λ x. x.rules) (live ++ spare)) ≡ Some box.rules
attach_rules-live code [] spare box is = absurd (cc)
attach_rules-live code (x ∷ live) spare box is = by (x.rules.code == code) is (attach_rules-live code live spare box)
  where
    by : (b : Bool) → cond b (Some x) (attachment_of code live) ≡ Some box → (attachment_of code live ≡ Some box → attach_rules code (map (λ y. y.rules) (live ++ spare)) ≡ Some box.rules)
        → cond b (Some x.rules) (attach_rules code (map (λ y. y.rules) (live ++ spare))) ≡ Some box.rules
    by true here rest = ap (λ (a : Attachment). Some a.rules) (same_Some x box here)
    by false there rest = rest there

pub box_of-live : (m : Meanings) (rule : Rule) (box : Attachment) → attachment_of (rule_code rule) m.attachments ≡ Some box → box_of (extensions_of m) rule ≡ Some box.rules
box_of-live m rule box live = attach_rules-live (rule_code rule) m.attachments m.spare_attachments box live

-- ---- there is room for one attachment more
attached_at-there : (db : Db) (relation : Name) (own : Relation) → relation_at db relation ≡ Some own → attached_at db relation ≡ length own.attachments
attached_at-there db relation own there = ap (λ (o : Option Relation). elim o as (λ _. ℕ) [ None ↦ 0 | Some r ↦ length r.attachments ]) there

fewer : (n k : ℕ) → nat_le k n ≡ false → k ≤ 16 → n < 16
fewer n k is less = grind (arith, nat_tests)

or_first : (a b : Bool) → (a || b) ≡ false → a ≡ false
or_first true b is = absurd (cc)
or_first false b is = refl

few_attached : (db : Db) (relation : Name) (rule : Rule) → is_crowded db relation rule ≡ false → attached_at db relation < 16
few_attached db relation (JoinIndex side columns other others) is = fewer (attached_at db relation) 16 (or_first (nat_le 16 (attached_at db relation)) (nat_le 16 (attached_at db other)) is) (omega arith)
few_attached db relation (Refers side columns other others mode deferred) is = by (bytes_eq relation other) is
  where
    by : (b : Bool) → cond b (nat_le 15 (attached_at db relation)) (nat_le 16 (attached_at db relation) || nat_le 16 (attached_at db other)) ≡ false → attached_at db relation < 16
    by true is = fewer (attached_at db relation) 15 is (omega arith)
    by false is = fewer (attached_at db relation) 16 (or_first (nat_le 16 (attached_at db relation)) (nat_le 16 (attached_at db other)) is) (omega arith)
few_attached db relation (TreeIndex columns unique) is = fewer (attached_at db relation) 16 is (omega arith)
few_attached db relation (HashIndex columns) is = fewer (attached_at db relation) 16 is (omega arith)
few_attached db relation (Stats column low width) is = fewer (attached_at db relation) 16 is (omega arith)
few_attached db relation (Check pred deferred) is = fewer (attached_at db relation) 16 is (omega arith)
few_attached db relation (Trigger on pred act deferred) is = fewer (attached_at db relation) 16 is (omega arith)
few_attached db relation (Foreign code desc) is = fewer (attached_at db relation) 16 is (omega arith)

own_large : (relation : Name) (rule : Rule) (db : Db) → has_large_descriptor relation rule db ≡ false → is_large_at db relation ≡ false
own_large relation (JoinIndex side columns other others) db is = or_first (is_large_at db relation) (is_large_at db other) is
own_large relation (Refers side columns other others mode deferred) db is = or_first (is_large_at db relation) (is_large_at db other) is
own_large relation (TreeIndex columns unique) db is = is
own_large relation (HashIndex columns) db is = is
own_large relation (Stats column low width) db is = is
own_large relation (Check pred deferred) db is = is
own_large relation (Trigger on pred act deferred) db is = is
own_large relation (Foreign code desc) db is = is

within : (n : ℕ) → nat_lt 1900 n ≡ false → n ≤ 1900
within n is = grind (arith, nat_tests)

abbrev relation_with : Name → Rule → Relation → Relation
relation_with name rule r = record r { attachments = with_instance (new_attached name rule r) r.attachments }

at_attached : (db : Db) (relation name : Name) (rule : Rule) (own : Relation) → relation_at db relation ≡ Some own → relation_at (with_attached db relation name rule) relation ≡ Some (relation_with name rule own)
at_attached db relation name rule own there = ap (λ (d : Db). relation_at d relation) is ∙ relation_same db relation (relation_with name rule own)
  where
    is : with_attached db relation name rule ≡ with_relation db relation (relation_with name rule own)
    is = ap (λ (o : Option Relation). elim o as (λ _. Db) [ None ↦ db | Some r ↦ with_relation db relation (relation_with name rule r) ]) there

pub MayAdd-alone : (m : Meanings) (db : Db) (relation name : Name) (rule : Rule) → MayAttach m db relation name rule → MayAdd m db relation name rule
MayAdd-alone m db relation name rule may = record {
  own = may.own;
  there = may.there;
  box = may.box;
  live = may.live;
  stands = may.stands;
  joinless = may.joinless;
  short = may.short;
  label = omega (arith, may.label);
  few = subst (λ (n : ℕ). n < 16) (attached_at-there db relation may.own may.there) (few_attached db relation rule may.few);
  small = within (descriptor_len (relation_with name rule may.own))
      (sym (ap (λ (o : Option Relation). elim o as (λ _. Bool) [ None ↦ false | Some r ↦ nat_lt 1900 (descriptor_len r) ]) (at_attached db relation name rule may.own may.there))
      ∙ ap (λ (d : Db). is_large_at d relation) (sym (with_rule-alone db relation name rule may.single)) ∙ own_large relation rule (with_rule db relation name rule) may.small);
}

-- ---- what an engine stands for
module _ {S : Type 0} (Has : Wanted → Slots → S → Type 0) (Spent : ℕ → S → Type 0) (m : Meanings) (root : ℕ) (g : Going) (old : S) (w : Beside) (stands : Stands Has Spent m root g old w) (relation name : Name) (rule : Rule)
    (may : MayAttach m g.db relation name rule) where
  pub here : IsThere stands.kept relation may.own
  here = kept_at-relation stands.kept relation may.own (ap (λ (d : Db). relation_at d relation) (sym stands.db) ∙ may.there)

  -- the relation among those that are kept
  abbrev pub site_of : Site
  site_of = record { want = stands.want; slots = stands.slots; gone = w.gone.items; kept = stands.kept; one = here.kept_there }

  pub stores_of : Stores m root site_of relation
  stores_of = record { keeps = stands.keeps; lasting = stands.lasting; there = here.at }

  pub may_add : MayAdd m (db_of stands.kept) relation name rule
  may_add = subst (λ (d : Db). MayAdd m d relation name rule) stands.db (MayAdd-alone m g.db relation name rule may)

  abbrev ext : Extensions
  ext = extensions_of m

  box_is : may_add.box ≡ may.box
  box_is = same_Some may_add.box may.box (sym may_add.live ∙ may.live)

  rules_are : box_of ext rule ≡ Some may_add.box.rules
  rules_are = box_of-live m rule may_add.box may_add.live

  short_rows : has_long_row (db_of stands.kept) relation rule ≡ false → has_long_row g.db relation rule ≡ false
  short_rows is = ap (λ (d : Db). has_long_row d relation rule) stands.db ∙ is

  holds_as : (b : Bool) → holds (Some may_add.box.rules) (db_of stands.kept) relation rule ≡ b → holds (box_of ext rule) g.db relation rule ≡ b
  holds_as b is = (λ i. holds (rules_are i) (stands.db i) relation rule) ∙ is

  pub attach_large : (new : S) → HasEnded Has m root site_of relation name rule may_add.box.rules new TooLarge → ⊥
  unfolding HasEnded
  attach_large new ended = ended

  pub attach_long : (new : S) → HasEnded Has m root site_of relation name rule may_add.box.rules new TooLong
      → RunsTo (build ext relation name rule) g [] (refuse (LongRow relation)) (reached ext relation name rule g)
  unfolding HasEnded
  attach_long new ended = leads_long ext relation name rule g (ap (λ (d : Db). has_long_row d relation rule) stands.db ∙ ended)

  pub attach_vetoed : (new : S) → HasEnded Has m root site_of relation name rule may_add.box.rules new Vetoed
      → RunsTo (build ext relation name rule) g [] (refuse (Veto relation name)) (reached ext relation name rule g)
  unfolding HasEnded
  attach_vetoed new ended = leads_vetoed ext relation name rule g (short_rows ended.0) (holds_as false ended.1)

  -- its build has paid for what was changed
  pub paid_built : (Leads : ℕ → S → S → Type 0) → Spends Spent Leads → (new : S) → LeadsWithin Leads (build_cost ext (db_of stands.kept) relation rule) old new
      → IsPaid Spent 0 (reached ext relation name rule g).trail.spent new
  paid_built Leads spends new within =
      subst (λ (n : ℕ). IsPaid Spent 0 n new)
      (sym (spent_build ext relation rule g (durable-kept m root stands.slots w.gone.items stands.kept stands.keeps stands.lasting g.db stands.db relation)))
      (paid_charged Has Spent m root Leads spends g old new w (build_cost ext g.db relation rule) stands
      (subst (λ (d : Db). LeadsWithin Leads (build_cost ext d relation rule) old new) (sym stands.db) within))

  -- it is attached
  pub attach_made : (new : S) (v : Beside) → IsClosed w v → v.gone.items ≡ w.gone.items → HasEnded Has m root site_of relation name rule may_add.box.rules new Attached
      → IsPaid Spent 0 (reached ext relation name rule g).trail.spent new → Comes Has Spent m root (build ext relation name rule) g new v
  unfolding HasEnded
  attach_made new v closed gone ended paid = record {
    after = _;
    leads = leads_attached ext relation name rule g (short_rows ended.0) (holds_as true ended.1);
    stands =
        Stands-other Has Spent m root g _ after old new w v stands paid (ap (λ (d : Db). with_rule d relation name rule) (reached_db ext relation name rule g)) (reached_queue ext relation name rule g) (reached_used ext relation name rule g) closed
        (subst (λ (l : List ℕ). KeepsDb Has m root l (reached ext relation name rule g).gone.durable after new) (sym gone)
        (keeps-more Has m root w.gone.items own_pages _ after new held
        (subst (λ (d : Db). KeepsDb Has m root w.gone.items own_pages d new) (ap (λ (d : Db). with_attached d relation name rule) (sym stands.db) ∙ sym alone) ended.2)))
        (subst AreMirrored (sym alone) (mirrored-alone g.db relation name rule may.own may.there may.new may.single stands.mirrored))
        (subst ArePaired (sym alone) (paired-alone g.db relation name rule may.own may.there may.new may.main stands.paired))
        (subst AreNamedApart (sym alone) (apart-attached g.db relation name rule may.own may.there may.new stands.apart))
        (with-rule-complete (box_of ext rule) g.db g.queue relation name rule (holds_as true ended.1) stands.complete)
        (attached-may-stand (box_of ext) g.db relation name rule stands.rules missing may_stand)
        (All-weaker (IsFitting g.db) (IsFitting after) (λ a fits. (attaching-stays g.db relation name rule a).1 fits) g.queue.actions stands.fit)
        (λ none. gone ∙ stands.gone (subst (λ (x : Gone). IsNoneGone x) (reached_gone ext relation name rule g) none));
  }
    where
      after : Db
      after = with_rule g.db relation name rule

      alone : with_rule g.db relation name rule ≡ with_attached g.db relation name rule
      alone = with_rule-alone g.db relation name rule may.single

      own_pages : List ℕ
      own_pages = map (λ o. page_count (owned stands.slots o)) w.gone.items

      held : IsWithin own_pages (reached ext relation name rule g).gone.durable
      held =
          subst (λ (x : Gone). IsWithin own_pages x.durable) (sym (reached_gone ext relation name rule g))
          (within-own stands.slots w.gone.items g.gone.durable stands.aside)

      missing : first_missing g.db (relation ∷ []) ≡ None
      missing = ap (λ (o : Option Relation). cond (is_none o) (Some relation) None) may.there

      may_stand : MayStand (box_of ext rule) g.db (schema_at g.db relation) rule
      may_stand =
          subst (λ (b : Option AttachRules). MayStand b g.db (schema_at g.db relation) rule) (sym (box_of-live m rule may.box may.live))
          (subst (λ (c : List Column). MayStand (Some may.box.rules) g.db c rule) (sym (ap (λ (o : Option Relation). elim o as (λ _. List Column) [ None ↦ [] | Some r ↦ r.schema ]) may.there)) may.stands)

  -- ---- want of a page
  module _ (Leads : ℕ → S → S → Type 0) (table : S → ℕ) (whole : (want : Wanted) (s : Slots) (a : S) → Has want s a → AreWhole s) (few : (want : Wanted) (s : Slots) (a : S) → Has want s a → (n : ℕ) → 65536 ≤ n → (s n).0 ≡ 0)
      (tabled : (want : Wanted) (s : Slots) (a : S) → Has want s a → IsTabled (table a) s) where
    -- there are no more pages than are needed at a point of the build
    short_point : (total : ℕ) (new : S) → total ≤ 65536 → (it : IsShortBuilding Has Leads ext site_of relation rule new total)
        → Any (IsShortOf total (table it.space + page_count (owned it.slots 1)) ext) (reached ext relation name rule g).trail.points
    short_point total new small it =
        let pages = λ (o : ℕ). ArePages-few stands.slots o (whole stands.want stands.slots old stands.has) (few stands.want stands.slots old stands.has) in
        let within = rest-has-room m IsDurable root stands.slots w.gone.items stands.kept g.gone 0 (all_meant m root stands.slots stands.kept stands.lasting stands.keeps.tables) pages stands.keeps (held_pages stands.slots w.gone.items g.gone.durable stands.aside) in
        let full = beside-is-full m IsDurable root stands.slots it.slots w.gone.items stands.kept it.owner it.pages (table it.space) total (need ext true (resting (db_of stands.kept) g.gone 0)) stands.keeps within small
        (tabled stands.want it.slots it.space it.has) it.short in
        let same = ap (λ (d : Db). need ext true (resting d g.gone 0)) stands.db in
        at_build ext relation rule (IsShortOf total (table it.space + page_count (owned it.slots 1)) ext) g it.pages
        (durable-kept m root stands.slots w.gone.items stands.kept stands.keeps stands.lasting g.db stands.db relation)
        (subst (λ (d : Db). IsWithinBuild ext d relation rule it.pages) (sym stands.db) it.within)
        (λ most more spent. omega (arith, full, more, same, need-aside ext g.db most spent 0 g.gone))

    pub attach_licensed : (e : SpaceFault) (new : S) → WhereShort e (IsShortBuilding Has Leads ext site_of relation rule new) → IsLicensed Has Leads table m (refusal_of e) (reached ext relation name rule g).trail new
    attach_licensed (DataFull used total) new it = λ small. record { space = it.space; leads = it.leads; want = stands.want; slots = it.slots; has = it.has; short = short_point total new small it }
    attach_licensed e new it = tt
