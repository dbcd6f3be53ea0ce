-- What comes of an attachment that is asked, as the engine stands for it.
use Rattle.std.proofs.Common.{◌≡◌, ℕ, zero, suc, ◌+◌, ◌<◌, ◌≤◌, Bool, true, false, cond, List, [], ◌∷◌, ◌++◌, length, map, All, Option, Some, None, option_map, IfSome, inr, refl, sym, ap, ◌∙◌, subst, arith, ◌==◌}
use Rattle.std.specs.List.{Any, slice_get}
use Rattle.std.proofs.lemmas.List.Elements.{All-append, All-head, All-tail}
use Rattle.std.proofs.lemmas.Option.{same_Some, slice_get-map, slice_get_past}
use Rattle.sb_value.specs.declared.schema.Column.{Column}
use Rattle.sb_value.specs.Fits.{Fits}
use Rattle.sb_rule.specs.declared.action.Action.{Action}
use Rattle.sb_rule.specs.declared.change.Change.{Change}
use Rattle.sb_rule.specs.declared.change.Change.TheVariants as change
use Rattle.sb_rule.specs.declared.rule.Rule.{Rule}
use Rattle.sb_rule.specs.Bound.{FitsSchema, row_after}
use Rattle.sb_rule.specs.Spelling.{SpellsRule, rule_code}
use Rattle.sb_relation.specs.Buckets.{grown}
use Rattle.sb_relation.specs.Changes.{changed, changed_rows, with_change}
use Rattle.sb_relation.specs.Db
use Rattle.sb_relation.specs.Db.{Name, Row, Rows, Relation, Db, relation_at, schema_at}
use Rattle.sb_relation.specs.Fits.{MayStand}
use Rattle.sb_relation.specs.Foreign.{AttachRules, attach_rules}
use Rattle.sb_relation.specs.Lawful.{IsRow, is_long_for}
use Rattle.sb_relation.specs.Rules.{admits, follows, late_actions, late_checks}
use Rattle.sb_fold.specs.declared.refusal.Refusal.TheVariants.{Veto}
use Rattle.std.specs.declared.vec.Vec.{Vec}
use Rattle.std.specs.declared.alloc.Global.{Global}
use Rattle.sb_fold.specs.Extensions.{box_of}
use Rattle.sb_fold.specs.Fold.{attachments_at, queue_late, waiting_actions}
use Rattle.sb_fold.specs.Outcome.{Going, Queue, Reached}
use Rattle.sb_deferred.specs.Complete.{AreMirrored, IsChangeOf}
use Rattle.sb_deferred.proofs.ChangeLemmas.{changed-complete, changed-mirrored}
use Rattle.sb_cascade.specs.Fitting.{AllFit, IsFitting}
use Rattle.sb_cascade.specs.Runs.{Admitted, IsVetoed}
use Rattle.sb_cascade.proofs.Following.{all-waiting-fits, following-fits}
use Rattle.sb_ctx.specs.declared.instance.Instance.{Instance}
use Rattle.sb_ctx.specs.Attachment as ctx
use Rattle.sb_ctx.specs.Attachment.{Attachment, MayHold, MayMeet}
use Rattle.sb_registry.specs.Boxes.{Meanings, attachment_of, boxes_of}
use Rattle.sb_registry.specs.Live.{IsLiveRule}
use Rattle.sb_ctx.specs.Pages.{ArePages, page_count}
use Rattle.sb_drive.specs.Slots.{Slots, owned}
use Rattle.sb_drive.specs.Spaces.{LeadsOn, Wanted}
use Rattle.sb_drive.specs.declared.space.SpaceFault.{SpaceFault}
use Rattle.sb_drive.specs.declared.space.SpaceFault.TheVariants as fault
use Rattle.sb_weights.specs.Owned.{IsTabled}
use Rattle.sb_weights.specs.Weights.{AreMeant, changing}
use Rattle.sb_fold.specs.Costs.{rule_cost}
use Rattle.sb_weights.proofs.Charged.{asking-is-charged}
use Rattle.sb_weights.proofs.Lacking.{asking-is-full}
use Rattle.sb_weights.proofs.Measuring.{held_pages}
use Rattle.sb_catalog.specs.declared.descriptor.Attached.{Attached}
use Rattle.sb_catalog.specs.declared.descriptor.Descriptor.{Descriptor}
use Rattle.sb_catalog.specs.Descriptors.{IsStorableAttached, described, standing}
use Rattle.sb_catalog.proofs.Parts.{one_rule}
use Rattle.sb_standing.specs.Instances.{rule_instance}
use Rattle.sb_standing.specs.Tables.{Kept, db_of, kept_at}
use Rattle.sb_standing.specs.Lacking.{WhereShort}
use Rattle.sb_standing.specs.Standing.{IsAmong, StandRules, owners_in}
use Rattle.sb_standing.proofs.OwnersLemmas.{attached_among, owners_of-among}
use Rattle.sb_standing.specs.Asked.{changed_kept}
use Rattle.sb_standing.proofs.AskedLaws.{CanAsk-next}
use Rattle.sb_standing.proofs.AskedLemmas.{Keeps-asked}
use Rattle.sb_standing.proofs.KeptChangedLemmas.{db_of-changed, kept_at-with_changed, rising-before, with_changed}
use Rattle.sb_standing.proofs.KeptLemmas.{kept_at-relation, relation_at-there}
use Rattle.sb_asking.specs.OpenRelation.{OpenRelation}
use Rattle.sb_asking.specs.Opened.{IsDurable, IsOpen}
use Rattle.sb_asking.specs.Verdicts.{Admits, CostsAsked, IsNext, LacksAsked, LeavesAsked, Situation, asked_cost}
use Rattle.sb_wishes.specs.Outcomes.{MayBeMade}
use Rattle.sb_engine.specs.declared.running.Work.{Work}
use Rattle.sb_engine.specs.Asking.{with_late}
use Rattle.sb_engine.specs.Licensed.{paid_for}
use Rattle.sb_engine.specs.Opening.{IsKeeping}
use Rattle.sb_engine.specs.Refusals.{refusal_of}
use Rattle.sb_engine.specs.Working.{AreNamedApart, AreOpened, ArePaired, IsLicensed, IsPaid, IsShortOf, Stands, StandsAsking, cost_from, extensions_of, open_at, queue_first}
use Rattle.sb_engine.proofs.LateLemmas.{left-late, queue_first-all, queue_first-more}
use Rattle.sb_engine.proofs.OpenedLemmas.{has_open}
use Rattle.sb_engine.proofs.PairedLemmas.{changed-apart, changed-paired}
use Rattle.sb_engine.proofs.GoneLemmas.{held-others}
use Rattle.sb_engine.proofs.PaidLemmas.{Spends, attachments_there, cost_next, paid_within}
use Rattle.sb_engine.proofs.LackingLemmas.{all_meant, any_last, meant_before}
use Rattle.sb_engine.proofs.RowLemmas.{lasting-changed}
use Rattle.sb_standing.proofs.StandLemmas.{StandRules-asks}

-- ---- lists
All-at : {A : Type 0} (P : A → Type 0) (xs : List A) (i : ℕ) (x : A) → All P xs → slice_get xs i ≡ Some x → P x
All-at P [] i x all at = absurd (cc)
All-at P (y ∷ xs) zero x all at = subst P (same_Some y x at) (All-head P y xs all)
All-at P (y ∷ xs) (suc i) x all at = All-at P xs i x (All-tail P y xs all) at

length-map : {A B : Type 0} (f : A → B) (xs : List A) → length (map f xs) ≡ length xs
length-map f [] = refl
length-map f (x ∷ xs) = ap suc (length-map f xs)

get-length : {A : Type 0} (xs : List A) (i : ℕ) → slice_get xs i ≡ None → length xs ≤ i
get-length [] i at = omega arith
get-length (x ∷ xs) zero at = absurd (cc)
get-length (x ∷ xs) (suc i) at = let rest = get-length xs i at in omega (arith, rest)

-- ---- the rules of an open relation
-- the instance of an attachment
pub rule_at : (m : Meanings) (one : OpenRelation) (i : ℕ) (inst : Instance) (d : Attached) → IsOpen m one → slice_get one.rules.items i ≡ Some inst
    → slice_get one.descriptor.attachments i ≡ Some d → inst ≡ rule_instance true one.name one.descriptor d
rule_at m one i inst d is at here =
    same_Some _ _ (sym at ∙ ap (λ (l : List Instance). slice_get l i) is.rules ∙ slice_get-map (rule_instance true one.name one.descriptor) one.descriptor.attachments i
    ∙ ap (option_map (rule_instance true one.name one.descriptor)) here)

-- there are as many as attachments
rules_length : (m : Meanings) (one : OpenRelation) → IsOpen m one → length one.rules.items ≡ length one.descriptor.attachments
rules_length m one is = ap (λ (l : List Instance). length l) is.rules ∙ length-map (rule_instance true one.name one.descriptor) one.descriptor.attachments

pub no_rule : (m : Meanings) (one : OpenRelation) (i : ℕ) → IsOpen m one → length one.rules.items ≤ i → slice_get one.descriptor.attachments i ≡ None
no_rule m one i is few = slice_get_past one.descriptor.attachments i (subst (λ (n : ℕ). n ≤ i) (rules_length m one is) few)

pub as_many : (m : Meanings) (one : OpenRelation) (i : ℕ) → IsOpen m one → i < length one.rules.items → i < length one.descriptor.attachments
as_many m one i is lt = subst (λ (n : ℕ). i < n) (rules_length m one is) lt

-- not more than 255
pub few_rules : (m : Meanings) (one : OpenRelation) (i : ℕ) → IsOpen m one → i < length one.rules.items → i < 256
few_rules m one i is lt =
    let below : i < length one.descriptor.attachments = as_many m one i is lt in
    let most : length one.descriptor.attachments ≤ 255 = is.storable.attachments.0 in
    omega (arith, below, most)

-- a live box keeps it
pub live_rule : (m : Meanings) (one : OpenRelation) (i : ℕ) (inst : Instance) → IsOpen m one → slice_get one.rules.items i ≡ Some inst → IsLiveRule m inst
live_rule m one i inst is at = All-at (IsLiveRule m) one.rules.items i inst is.live_rules at

-- it may meet the changes that the relation may have
pub meets_rule : (m : Meanings) (one : OpenRelation) (i : ℕ) (inst : Instance) (d : Attached) (c : Change) → IsOpen m one → slice_get one.rules.items i ≡ Some inst
    → slice_get one.descriptor.attachments i ≡ Some d → MayBeMade one.descriptor.schema one.descriptor.attachments c → (live : IsLiveRule m inst) → MayMeet live.box inst c
meets_rule m one i inst d c is at here made = subst (λ (x : Instance). (live : IsLiveRule m x) → MayMeet live.box x c) (sym (rule_at m one i inst d is at here)) meets
  where
    itself : Instance
    itself = rule_instance true one.name one.descriptor d

    storable : IsStorableAttached d
    storable = All-at IsStorableAttached one.descriptor.attachments i d is.storable.attachments.1 here

    spells : (live : IsLiveRule m itself) → SpellsRule live.box.rules.code itself.desc d.rule
    spells live = record { coded = sym live.may.code ∙ storable.2.coded; spelled = refl; storable = storable.2.storable; limited = storable.2.limited }

    holds : (live : IsLiveRule m itself) (row : Row) → IsRow one.descriptor.schema row × All (λ a. is_long_for one.descriptor.schema row a.rule ≡ false) one.descriptor.attachments → MayHold live.box itself row
    holds live row may = record {
      is_row = may.0;
      code = λ rule spelled.
          ap (is_long_for one.descriptor.schema row) (one_rule live.box.rules.code itself.desc rule d.rule spelled (spells live))
          ∙ All-at (λ a. is_long_for one.descriptor.schema row a.rule ≡ false) one.descriptor.attachments i d may.1 here;
    }

    some : (live : IsLiveRule m itself) (o : Option Row) → IfSome o (λ row. IsRow one.descriptor.schema row × All (λ a. is_long_for one.descriptor.schema row a.rule ≡ false) one.descriptor.attachments)
        → IfSome o (MayHold live.box itself)
    some live None may = tt
    some live (Some row) may = holds live row may

    meets : (live : IsLiveRule m itself) → MayMeet live.box itself c
    meets live = record { keys = made.keys; old = made.old; new = some live (row_after c) made.new }

-- ---- boxes by their codes
live_first : (code : ℕ) (box : Attachment) (live spare : List Attachment) → attachment_of code live ≡ Some box → attach_rules code (map (λ x. x.rules) (live ++ spare)) ≡ Some box.rules
live_first code box [] spare at = absurd (cc)
live_first code box (a ∷ live) spare at = of_test (a.rules.code == code) at (live_first code box live spare)
  where
    of_test : (b : Bool) → cond b (Some a) (attachment_of code live) ≡ Some box → (attachment_of code live ≡ Some box → attach_rules code (map (λ x. x.rules) (live ++ spare)) ≡ Some box.rules)
        → cond b (Some a.rules) (attach_rules code (map (λ x. x.rules) (live ++ spare))) ≡ Some box.rules
    of_test true is rest = ap (option_map (λ (x : Attachment). x.rules)) is
    of_test false is rest = rest is

pub box_live : (m : Meanings) (rule : Rule) (code : ℕ) (box : Attachment) → rule_code rule ≡ code → attachment_of code m.attachments ≡ Some box → box_of (extensions_of m) rule ≡ Some box.rules
box_live m rule code box same live = ap (λ (n : ℕ). attach_rules n (boxes_of m).attachments) same ∙ live_first code box m.attachments m.spare_attachments live

-- ---- the attachment that is asked
-- the relation before, its attachment of this number there, and the same after the change
pub record IsAsked (m : Meanings) (before : List Kept) (name : Name) (c : Change) (one : OpenRelation) (i : ℕ) (d : Attached) (db : Db) : Type 0 where
  pub k : Kept
  pub a : Db.Attached
  pub at : kept_at before name ≡ Some k
  pub described : slice_get k.descriptor.attachments i ≡ Some d
  pub attached : slice_get k.relation.attachments i ≡ Some a
  pub named : k.name ≡ one.name
  pub same : k.descriptor ≡ one.descriptor
  pub after : Db.Attached
  pub there : slice_get (attachments_at db name) i ≡ Some after
  pub rule : after.rule ≡ a.rule
  pub label : after.name ≡ d.name
  pub code : rule_code after.rule ≡ d.code

-- a relation that is open while a change of it is asked
module _ {S : Type 0} (Has : Wanted → Slots → S → Type 0) (Spent : ℕ → S → Type 0) (m : Meanings) (root : ℕ) (name : Name) (c : Change) (i : ℕ) (g : Going) (space : S) (w : Work)
    (one : OpenRelation) (asking : StandsAsking Has Spent m root name c i g space w) (at : open_at w.opened.items name ≡ Some one) where
  pub record HasBefore : Type 0 where
    pub k : Kept
    pub at_before : kept_at asking.before name ≡ Some k
    pub named : k.name ≡ one.name
    pub same : k.descriptor ≡ one.descriptor
    pub there : relation_at g.db name ≡ Some (with_change k.relation c (changed_rows k.relation.rows c))
    pub attachments : map described one.descriptor.attachments ≡ map standing (map (grown c (changed_rows k.relation.rows c)) k.relation.attachments)
    pub schema : schema_at g.db name ≡ one.descriptor.schema

  pub db_changed : g.db ≡ changed (db_of asking.before) name c
  db_changed = asking.db ∙ db_of-changed name c asking.before (rising-before name c asking.before asking.asks.tables.rising)

  pub has_before : HasBefore
  has_before =
      let h = has_open m root asking.slots (changed_kept name c asking.before) w.opened.items name one asking.asks.tables asking.opened at in
      let first = kept_at-relation asking.before name asking.asks.relation asking.asks.there in
      let k = first.kept_there in
      let is : h.k ≡ with_changed c k = same_Some h.k (with_changed c k) (sym h.at ∙ kept_at-with_changed name c asking.before k first.at) in
      let there : relation_at g.db name ≡ Some h.k.relation = ap (λ (d : Db). relation_at d name) asking.db ∙ h.there in
      record {
        k = k;
        at_before = first.at;
        named = sym (ap (λ (x : Kept). x.name) is) ∙ h.named;
        same = sym (ap (λ (x : Kept). x.descriptor) is) ∙ h.same;
        there = there ∙ ap (λ (x : Kept). Some x.relation) is;
        attachments = h.is.attachments ∙ ap (λ (x : Kept). map standing x.relation.attachments) is;
        schema = ap (λ (o : Option Relation). elim o as (λ _. List Column) [ None ↦ [] | Some r ↦ r.schema ]) there ∙ sym h.is.schema;
      }

  -- the attachment of a number
  pub is_asked : (d : Attached) → slice_get one.descriptor.attachments i ≡ Some d → IsAsked m asking.before name c one i d g.db
  is_asked d here =
      let b = has_before in
      let there : slice_get b.k.descriptor.attachments i ≡ Some d = ap (λ (x : Descriptor). slice_get x.attachments i) b.same ∙ here in
      let next = CanAsk-next m IsDurable root asking.slots w.gone.items asking.before name c i b.k d asking.asks b.at_before there in
      let a = next.0 in
      let rows = changed_rows b.k.relation.rows c in
      let after = grown c rows a in
      let in_db : slice_get (attachments_at g.db name) i ≡ Some after =
      ap (λ (l : List Db.Attached). slice_get l i) (attachments_there g.db name (with_change b.k.relation c rows) b.there)
      ∙ slice_get-map (grown c rows) b.k.relation.attachments i ∙ ap (option_map (grown c rows)) next.1 in
      let in_relation : slice_get (map (grown c rows) b.k.relation.attachments) i ≡ Some after = slice_get-map (grown c rows) b.k.relation.attachments i ∙ ap (option_map (grown c rows)) next.1 in
      let both : described d ≡ standing after = same_Some (described d) (standing after)
      (ap (option_map described) (sym here) ∙ sym (slice_get-map described one.descriptor.attachments i) ∙ ap (λ (l : List (ℕ × Name × Rule)). slice_get l i) b.attachments
      ∙ slice_get-map standing (map (grown c rows) b.k.relation.attachments) i ∙ ap (option_map standing) in_relation) in
      record {
        k = b.k;
        a = a;
        at = b.at_before;
        described = there;
        attached = next.1;
        named = b.named;
        same = b.same;
        after = after;
        there = in_db;
        rule = refl;
        label = sym (ap (λ t. t.1) both);
        code = sym (ap (λ t. t.0) both);
      }

  -- the rows of the change fit
  pub change_fits : MayBeMade one.descriptor.schema one.descriptor.attachments c → FitsSchema (schema_at g.db name) c
  change_fits made = subst (λ (columns : List Column). FitsSchema columns c) (sym has_before.schema)
      (record { before = made.old; after = of_row (row_after c) made.new })
    where
      of_row : (o : Option Row) → IfSome o (λ row. IsRow one.descriptor.schema row × All (λ a. is_long_for one.descriptor.schema row a.rule ≡ false) one.descriptor.attachments) → IfSome o (Fits one.descriptor.schema)
      of_row None may = tt
      of_row (Some row) may = may.0.fits

  -- the actions that follow from it fit
  pub following_fit : (d : Attached) → (asked : IsAsked m asking.before name c one i d g.db) → MayBeMade one.descriptor.schema one.descriptor.attachments c → AllFit g.db (follows g.db name asked.after.rule c)
  following_fit d asked made =
      following-fits (box_of (extensions_of m) asked.after.rule) g.db name asked.after.rule c
      (All-at (λ a. MayStand (box_of (extensions_of m) a.rule) g.db (schema_at g.db name) a.rule) (attachments_at g.db name) i asked.after (asking.rules name) asked.there)
      (change_fits made)

  -- ---- no attachment is left
  pub asked_all : slice_get one.descriptor.attachments i ≡ None → MayBeMade one.descriptor.schema one.descriptor.attachments c
      → (length (attachments_at g.db name) ≤ i) × Stands Has Spent m root (queue_late name c g) space w
  asked_all none made =
      let b = has_before in
      let few : length one.descriptor.attachments ≤ i = get-length one.descriptor.attachments i none in
      let few_kept : length b.k.descriptor.attachments ≤ i = subst (λ (x : Descriptor). length x.attachments ≤ i) (sym b.same) few in
      let rows = changed_rows b.k.relation.rows c in
      let lengths : length (attachments_at g.db name) ≡ length one.descriptor.attachments =
      ap (λ (l : List Db.Attached). length l) (attachments_there g.db name (with_change b.k.relation c rows) b.there)
      ∙ sym (length-map standing (map (grown c rows) b.k.relation.attachments))
      ∙ sym (ap (λ (l : List (ℕ × Name × Rule)). length l) b.attachments) ∙ length-map described one.descriptor.attachments in
      let all : length (attachments_at g.db name) ≤ i = omega (arith, lengths, few) in (
        all,
        record {
          want = asking.want;
          slots = asking.slots;
          kept = changed_kept name c asking.before;
          has = asking.has;
          db = asking.db;
          keeps = Keeps-asked m IsDurable root asking.slots w.gone.items asking.before name c i b.k asking.asks b.at_before few_kept;
          lasting = lasting-changed asking.before name c asking.lasting;
          mirrored = subst AreMirrored (sym db_changed) (changed-mirrored (db_of asking.before) name c asking.mirrored);
          paired = subst ArePaired (sym db_changed) (changed-paired (db_of asking.before) name c asking.paired);
          complete = changed-complete (db_of asking.before) name asking.asks.relation c g asking.asks.there (asking.lawful name asking.asks.relation asking.asks.there).rising
              (change_of asking.asks.relation.rows c asking.asks.suits.of) asking.mirrored db_changed asking.complete;
          opened = asking.opened;
          waits = asking.waits ∙ queue_first-all i name c g all;
          picked = asking.picked;
          gone = asking.gone;
          aside = asking.aside;
          paid = paid_for asking.paid;
          apart = subst AreNamedApart (sym db_changed) (changed-apart (db_of asking.before) name c asking.apart);
          rules = asking.rules;
          fit = All-append (IsFitting g.db) g.queue.actions (waiting_actions g.db name c) asking.fit (all-waiting-fits (box_of (extensions_of m)) g.db name c asking.rules (change_fits made));
        },
      )
    where
      change_of : (rows : Rows) (c : Change) → ctx.IsChangeOf rows c → IsChangeOf rows c
      change_of rows (change.Insert key new) of = of
      change_of rows (change.Delete key old) of = of
      change_of rows (change.Update from old to new) of = of

  -- its owner is one of those that are kept
  its_owner : (d : Attached) (asked : IsAsked m asking.before name c one i d g.db) → IsAmong d.owner (owners_in asking.before)
  its_owner d asked =
      owners_of-among asking.before name asked.k d.owner asked.at
      (inr (All-at (λ (x : Attached). IsAmong x.owner (map (λ a. a.owner) asked.k.descriptor.attachments)) asked.k.descriptor.attachments i d
      (attached_among asked.k.descriptor.attachments) asked.described))

  -- ---- one attachment more was asked
  -- whom it is asked of
  abbrev pub situation : (d : Attached) → IsAsked m asking.before name c one i d g.db → Situation
  situation d asked = record { gone = w.gone.items; before = asking.before; name = name; kept = asked.k; index = i; described = d; attached = asked.a }

  -- it is the instance's
  pub is_next : (d : Attached) (inst : Instance) → (asked : IsAsked m asking.before name c one i d g.db) → inst ≡ rule_instance true one.name one.descriptor d → IsNext (situation d asked) inst
  is_next d inst asked is = record {
    there = asked.at;
    described = asked.described;
    attached = asked.attached;
    is = is ∙ ap (λ (n : Name). rule_instance true n one.descriptor d) (sym asked.named) ∙ ap (λ (x : Descriptor). rule_instance true asked.k.name x d) (sym asked.same);
  }

  -- the actions that follow at once
  now_is : (d : Attached) (asked : IsAsked m asking.before name c one i d g.db) (box : Attachment) (now late : List Action) (checks : List (List ℕ))
      → Admits (Some box.rules) (changed (db_of asking.before) name c) name asked.a.rule c now late checks → now ≡ follows g.db name asked.after.rule c
  now_is d asked box now late checks says =
      says.now_are ∙ ap (λ (db : Db). follows db name asked.a.rule c) (sym db_changed) ∙ ap (λ (rule : Rule). follows g.db name rule c) (sym asked.rule)

  pub now_fit : (d : Attached) (asked : IsAsked m asking.before name c one i d g.db) (box : Attachment) (now late : List Action) (checks : List (List ℕ))
      → Admits (Some box.rules) (changed (db_of asking.before) name c) name asked.a.rule c now late checks → MayBeMade one.descriptor.schema one.descriptor.attachments c
      → AllFit (db_of (changed_kept name c asking.before)) now
  now_fit d asked box now late checks says made =
      subst (λ (db : Db). AllFit db now) asking.db (subst (λ (l : List Action). AllFit g.db l) (sym (now_is d asked box now late checks says)) (following_fit d asked made))

  -- the pages keep what is open once it was asked, and all rules stand
  pub keeping_asked : (d : Attached) (asked : IsAsked m asking.before name c one i d g.db) (mid : S) → (leaves : LeavesAsked Has m root asking.want asking.slots (situation d asked) c mid)
      → IsKeeping Has m root asking.want leaves.slots (changed_kept name c asking.before) mid w.opened.items
  keeping_asked d asked mid leaves = record { has = leaves.has; tables = leaves.asks.tables; opened = asking.opened }

  pub rules_asked : (d : Attached) (asked : IsAsked m asking.before name c one i d g.db) (mid : S) → LeavesAsked Has m root asking.want asking.slots (situation d asked) c mid
      → StandRules m IsDurable (db_of (changed_kept name c asking.before)) (changed_kept name c asking.before)
  rules_asked d asked mid leaves = StandRules-asks m IsDurable root leaves.slots w.gone.items asking.before name c (i + 1) leaves.asks

  -- what its box says is what the rule says
  said : (d : Attached) (asked : IsAsked m asking.before name c one i d g.db) (box : Attachment) (b : Bool) → attachment_of d.code m.attachments ≡ Some box
      → admits (Some box.rules) (changed (db_of asking.before) name c) name asked.a.rule c ≡ b → admits (box_of (extensions_of m) asked.after.rule) g.db name asked.after.rule c ≡ b
  said d asked box b live is =
      ap (λ (o : Option AttachRules). admits o g.db name asked.after.rule c) (box_live m asked.after.rule d.code box asked.code live)
      ∙ ap (λ (db : Db). admits (Some box.rules) db name asked.after.rule c) db_changed
      ∙ ap (λ (rule : Rule). admits (Some box.rules) (changed (db_of asking.before) name c) name rule c) asked.rule
      ∙ is

  pub asked_veto : (d : Attached) (asked : IsAsked m asking.before name c one i d g.db) (box : Attachment) (label : Name) → attachment_of d.code m.attachments ≡ Some box
      → admits (Some box.rules) (changed (db_of asking.before) name c) name asked.a.rule c ≡ false → label ≡ d.name → IsVetoed (extensions_of m) name c i g (Veto name label)
  asked_veto d asked box label live is same = record {
    attached = asked.after;
    at = asked.there;
    admits = said d asked box false live is;
    is = ap (λ (n : Name). Veto name n) (same ∙ sym asked.label);
  }

  pub asked_more : (d : Attached) (asked : IsAsked m asking.before name c one i d g.db) (box : Attachment) (now late : List Action) (checks : List (List ℕ)) (label : Name) (mid new : S)
      (o : Vec OpenRelation Global) (q : Queue) → attachment_of d.code m.attachments ≡ Some box
      → Admits (Some box.rules) (changed (db_of asking.before) name c) name asked.a.rule c now late checks
      → (leaves : LeavesAsked Has m root asking.want asking.slots (situation d asked) c mid) → Has asking.want leaves.slots new → label ≡ d.name
      → IsPaid Spent (cost_from (extensions_of m) (db_of asking.before) name c (i + 1)) g.trail.spent new
      → AreOpened m (changed_kept name c asking.before) o.items → w.done ≤ length w.queue.actions → q ≡ with_late w.queue name label late checks
      → Admitted (extensions_of m) name c i g now × StandsAsking Has Spent m root name c (i + 1) g new (record w { opened = o; queue = q })
  asked_more d asked box now late checks label mid new o q live says leaves has same paid opened within put =
      let back : changed (db_of asking.before) name c ≡ g.db = sym db_changed in
      let late_is : late ≡ late_actions g.db name asked.after.rule c = says.late_are ∙ ap (λ (db : Db). late_actions db name asked.a.rule c) back ∙ ap (λ (rule : Rule). late_actions g.db name rule c) (sym asked.rule) in
      let checks_is : checks ≡ late_checks g.db name asked.after.rule c = says.checks_are ∙ ap (λ (db : Db). late_checks db name asked.a.rule c) back ∙ ap (λ (rule : Rule). late_checks g.db name rule c) (sym asked.rule) in (
        record {
          attached = asked.after;
          at = asked.there;
          admits = said d asked box true live says.admitted;
          now_are = now_is d asked box now late checks says;
        },
        record {
          want = asking.want;
          slots = leaves.slots;
          before = asking.before;
          has = has;
          db = asking.db;
          asks = leaves.asks;
          lasting = asking.lasting;
          lawful = asking.lawful;
          mirrored = asking.mirrored;
          paired = asking.paired;
          complete = asking.complete;
          opened = opened;
          waits = left-late w (record w { opened = o; queue = q }) name label late checks refl within put
              ∙ ap (λ (x : Queue). with_late x name label late checks) asking.waits
              ∙ ap (λ (n : Name). with_late (queue_first i name c g) name n late checks) (same ∙ sym asked.label)
              ∙ ap (λ (l : List Action). with_late (queue_first i name c g) name asked.after.name l checks) late_is
              ∙ ap (λ (l : List (List ℕ)). with_late (queue_first i name c g) name asked.after.name (late_actions g.db name asked.after.rule c) l) checks_is
              ∙ queue_first-more i name c g asked.after asked.there;
          picked = asking.picked;
          gone = asking.gone;
          aside = held-others asking.slots leaves.slots (owners_in asking.before) w.gone.items g.gone.durable d.owner (its_owner d asked) leaves.others asking.asks.own
              asking.aside;
          paid = paid;
          apart = asking.apart;
          come = asking.come;
          rules = asking.rules;
          fit = asking.fit;
        },
      )

  -- ---- no more was changed than was paid for it
  pub asked_paid : (Leads : ℕ → S → S → Type 0) → Spends Spent Leads → (new : S) (d : Attached) (asked : IsAsked m asking.before name c one i d g.db)
      → CostsAsked Leads m (situation d asked) c space new → IsPaid Spent (cost_from (extensions_of m) (db_of asking.before) name c (i + 1)) g.trail.spent new
  asked_paid Leads spends new d asked costs =
      let ext = extensions_of m in
      let db = db_of asking.before in
      let cost = asked_cost (situation d asked) costs.box c in
      let in_db : slice_get (attachments_at db name) i ≡ Some asked.a =
      ap (λ (l : List Db.Attached). slice_get l i) (attachments_there db name asked.k.relation (relation_at-there asking.before name asked.k asked.at)) ∙ asked.attached in
      let charged : cost ≤ rule_cost ext db name asked.a.rule asked.a.buckets c =
      asking-is-charged m IsDurable root asking.slots w.gone.items asking.before name c i asked.k d asked.a costs.box asking.asks asked.at asked.described asked.attached costs.live in
      paid_within Spent Leads spends space new cost (cost_from ext db name c i) g.trail.spent (cost_from ext db name c (i + 1)) g.trail.spent
      (omega (arith, charged, cost_next ext db name c i asked.a in_db)) costs.within asking.paid

  -- ---- no page was left for it
  pub asked_full : (Leads : ℕ → S → S → Type 0) (table : S → ℕ) (new : S) (e : SpaceFault) (d : Attached) (asked : IsAsked m asking.before name c one i d g.db)
      → ((o : ℕ) → ArePages (owned asking.slots o)) → IsTabled (table space) asking.slots → LeadsOn Leads space new
      → WhereShort e (LacksAsked m asking.slots (situation d asked) c) → IsLicensed Has Leads table m (refusal_of e) g.trail new
  asked_full Leads table new (fault.DataFull used total) d asked pages tabled leads lacks = λ small. record {
    space = space;
    leads = leads;
    want = asking.want;
    slots = asking.slots;
    has = asking.has;
    short = subst (λ (points : List Reached). Any (IsShortOf total (table space + page_count (owned asking.slots 1)) (extensions_of m)) points) (sym asking.come.is)
        (any_last (IsShortOf total (table space + page_count (owned asking.slots 1)) (extensions_of m)) asking.come.points
        (changing (db_of asking.before) name c g.gone asking.come.spent)
        (asking-is-full m IsDurable root asking.slots w.gone.items asking.before g.gone asking.come.spent name c i asked.k d asked.a
        lacks.box (table space) total meant pages asking.asks (held_pages asking.slots w.gone.items g.gone.durable asking.aside) asked.at asked.described
        asked.attached lacks.live small tabled lacks.short));
  }
    where
      meant : AreMeant (extensions_of m) asking.before
      meant = meant_before (extensions_of m) name c asking.before
          (all_meant m root asking.slots (changed_kept name c asking.before) (lasting-changed asking.before name c asking.lasting) asking.asks.tables)
  asked_full Leads table new e d asked pages tabled leads lacks = tt
