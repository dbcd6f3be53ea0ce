-- The pages while the attachments of a relation are asked of a change.
use Rattle.std.proofs.Common.{◌≡◌, ℕ, zero, suc, ◌+◌, ◌*◌, ◌<◌, ◌≤◌, ◌==◌, max, Bool, true, false, cond, List, [], ◌∷◌, length, get_or, map, All}
use Rattle.std.proofs.Common.{Some, bytes_eq, refl, sym, ap, ◌∙◌, subst, arith}
use Rattle.std.specs.List.{slice_get}
use Rattle.std.proofs.lemmas.List.{length-map}
use Rattle.std.proofs.lemmas.List.Elements.{All-cons, All-head, All-map, All-nil, All-tail, All-weaker}
use Rattle.std.proofs.lemmas.Option.{same_Some}
use Rattle.sb_rule.specs.declared.change.Change.{Change}
use Rattle.sb_relation.specs.Buckets.{grown, next_buckets}
use Rattle.sb_relation.specs.Changes.{changed, changed_rows}
use Rattle.sb_relation.specs.Content.{Content}
use Rattle.sb_relation.specs.Db
use Rattle.sb_relation.specs.Db.{Name, Rows, relation_at, rows_at}
use Rattle.sb_fold.specs.Bounds.{rule_bound}
use Rattle.sb_fold.specs.Extensions.{Extensions, is_durable_method}
use Rattle.sb_fold.specs.Need.{rule_weight}
use Rattle.sb_fold.specs.Outcome.{Gone, Reached}
use Rattle.sb_forms.specs.Pages.{ArePages, page_count}
use Rattle.sb_ctx.specs.declared.calls.AttachCall.TheVariants.{Changed}
use Rattle.sb_ctx.specs.AttachAnswers.{content_after, content_over}
use Rattle.sb_ctx.specs.Attachment.{Attachment}
use Rattle.sb_ctx.specs.Laws.{IsAttachment}
use Rattle.sb_registry.specs.Boxes.{Meanings, attachment_of}
use Rattle.sb_drive.specs.Slots.{Slots, owned}
use Rattle.sb_catalog.specs.declared.descriptor.Attached.{Attached}
use Rattle.sb_standing.specs.Asked.{Asks, AsksRulesIf, IsKeptAfter, SplitRules, change_kept, changed_kept}
use Rattle.sb_standing.specs.AskedLaws.{rule_of}
use Rattle.sb_standing.specs.Standing.{EachRule, IsKept, has_no_join, is_join}
use Rattle.sb_standing.specs.Tables.{Kept, KeepsTable, db_of, kept_at}
use Rattle.sb_standing.proofs.AskedLaws.{CanAsk-next}
use Rattle.sb_standing.proofs.ChangedLemmas.{rows_at-there}
use Rattle.sb_standing.proofs.KeptLemmas.{kept_at-all, kept_at-name, relation_at-there}
use Rattle.sb_standing.proofs.KeptChangedLemmas.{kept_at-with_changed, rising-before, with_changed}
use Rattle.sb_standing.proofs.SplitLemmas.{EachRule-map, EachRule-weaker, SplitRules-weaker, no_joins}
use Rattle.sb_standing.proofs.StandLemmas.{EachRule-split}
use Rattle.sb_weights.specs.Rooms.{extensions_of}
use Rattle.sb_weights.specs.Weights.{AreMeant, AskedIsWithin, AskingIsWithin, changing, most_asked}
use Rattle.sb_weights.proofs.Bounded.{AreBounded, are-bounded, joinless-code}
use Rattle.sb_weights.proofs.Catalogue.{catalogue_small}
use Rattle.sb_weights.proofs.Changing.{changed_within}
use Rattle.sb_weights.proofs.Lightness.{light_after, light_before, light_table, rules_after}
use Rattle.sb_weights.proofs.Summing.{more_sum, weighed_sum}
use Rattle.sb_weights.proofs.Weighing.{IsLight, IsLightRule, Weighs, asking_weighs, bound_grows, buckets_grow, light_weighs, weight_is}

-- what is so of each one that is made of another
All-made : {X Y : Type 0} (P : Y → Type 0) (f : X → Y) (xs : List X) → All P (map f xs) → All (λ x. P (f x)) xs
All-made P f [] all = All-nil (λ x. P (f x))
All-made P f (x ∷ xs) all = All-cons (λ y. P (f y)) x xs (All-head P (f x) (map f xs) all) (All-made P f xs (All-tail P (f x) (map f xs) all))

-- ---- some are asked
-- an attachment is light where it is no join
abbrev IsLightOnce : Extensions → Reached → Slots → Change → Kept → Attached → Db.Attached → Type 0
IsLightOnce ext at s c k d a = is_join a.rule ≡ false → IsLightRule ext at s k.name d (grown c (changed_rows k.relation.rows c) a)

-- those of the changed relation
asked_rules : (m : Meanings) (ext : Extensions) (durable : ℕ → Bool) (at : Reached) (s : Slots) (c : Change) (i : ℕ) (k : Kept) → AreBounded m ext
    → ((o : ℕ) → ArePages (owned s o)) → has_no_join k ≡ true
    → SplitRules (IsKeptAfter m durable s at.after c k) (IsKept m durable s at.before k) i k.descriptor.attachments k.relation.attachments
    → EachRule (IsLightRule ext at s k.name) k.descriptor.attachments (with_changed c k).relation.attachments
asked_rules m ext durable at s c i k bounded are joinless split =
    let rows = changed_rows k.relation.rows c in
    let ds = k.descriptor.attachments in
    let others = k.relation.attachments in
    let once = SplitRules-weaker (IsKeptAfter m durable s at.after c k) (IsKept m durable s at.before k)
    (IsLightOnce ext at s c k) (IsLightOnce ext at s c k)
    (λ d. Unit {0})
    (λ d a _ kept none. light_after m ext at s _ (grown c rows a) bounded (are d.owner) none kept)
    (λ d a _ kept none. light_before m ext at s _ a (next_buckets a.rule c rows a.buckets) bounded (are d.owner) none
    (buckets_grow a.rule c rows a.buckets) kept)
    i ds others (λ j d in'. tt) split in
    EachRule-map (IsLightRule ext at s k.name) (grown c rows) ds others
    (EachRule-weaker (IsLightOnce ext at s c k) (λ d a. IsLightRule ext at s k.name d (grown c rows a)) (λ d. Unit {0}) (λ a. is_join a.rule ≡ false)
    (λ d a _ none light. light none) ds others (λ j d in'. tt) (no_joins others joinless)
    (EachRule-split (IsLightOnce ext at s c k) i ds others once))

-- each relation is light then
asked_light : (m : Meanings) (ext : Extensions) (durable : ℕ → Bool) (at : Reached) (s : Slots) (c : Change) (i : ℕ) (k : Kept) (b : Bool)
    → AreBounded m ext → ((o : ℕ) → ArePages (owned s o)) → is_durable_method ext k.relation.method ≡ true → has_no_join k ≡ true
    → KeepsTable m durable s (cond b (with_changed c k) k) → AsksRulesIf b m durable s at.before at.after c i k
    → IsLight ext at s 0 (cond b (with_changed c k) k)
asked_light m ext durable at s c i k true bounded are meant joinless table rules =
    light_table m ext durable at s (with_changed c k) bounded are meant table (asked_rules m ext durable at s c i k bounded are joinless rules)
asked_light m ext durable at s c i k false bounded are meant joinless table rules =
    light_table m ext durable at s k bounded are meant table (rules_after m ext durable at s k bounded are joinless rules)

all_light : (m : Meanings) (ext : Extensions) (durable : ℕ → Bool) (root : ℕ) (s : Slots) (gone : List ℕ) (before : List Kept) (aside : Gone)
    (spent : ℕ) (name : Name) (c : Change) (i : ℕ) → AreBounded m ext → AreMeant ext before → ((o : ℕ) → ArePages (owned s o))
    → Asks m durable root s gone before name c i → All (IsLight ext (changing (db_of before) name c aside spent) s 0) (changed_kept name c before)
all_light m ext durable root s gone before aside spent name c i bounded meant are asks =
    let at = changing (db_of before) name c aside spent in
    let tables = All-made (KeepsTable m durable s) (change_kept name c) before asks.tables.each in
    All-map (IsLight ext at s 0) (change_kept name c) before (λ j x in'.
    let k = get_or before j x in
    asked_light m ext durable at s c i k (bytes_eq k.name name) bounded are (meant j x in') (asks.joinless j x in') (tables j x in')
    (asks.rules j x in'))

-- the catalogue has an entry for each relation, changed or not
small_catalogue : (m : Meanings) (durable : ℕ → Bool) (root : ℕ) (s : Slots) (gone : List ℕ) (before : List Kept) (name : Name) (c : Change) (i : ℕ)
    → Asks m durable root s gone before name c i → page_count (owned s 2) ≤ 2 * length before + 3
small_catalogue m durable root s gone before name c i asks =
    omega (arith, catalogue_small m durable root s (changed_kept name c before) asks.tables, length-map {B = Kept} before (change_kept name c))

pub asked-is-within : AskedIsWithin
asked-is-within m durable root s gone before aside spent name c i meant are asks few =
    let ext = extensions_of m in
    let at = changing (db_of before) name c aside spent in
    let after = changed_kept name c before in
    let light = all_light m ext durable root s gone before aside spent name c i (are-bounded m) meant are asks in
    let each = weighed_sum ext at s after (All-weaker (IsLight ext at s 0) (Weighs ext at s 0) (light_weighs ext at s 0) after light) in
    let catalogue = small_catalogue m durable root s gone before name c i asks in
    let rising = rising-before name c before asks.tables.rising in
    let within = changed_within ext name c aside spent s 0 gone before rising catalogue few (omega (arith, each)) in
    omega (arith, within)

-- ---- the next one takes fresh pages
-- an element of a list, and what is made of it
all_at : {X : Type 0} (P : X → Type 0) (xs : List X) (i : ℕ) (x : X) → All P xs → slice_get xs i ≡ Some x → P x
all_at P [] i x all at = absurd (cc)
all_at P (y ∷ ys) zero x all at = subst P (same_Some y x at) (All-head P y ys all)
all_at P (y ∷ ys) (suc i) x all at = all_at P ys i x (All-tail P y ys all) at

made_at : {X Y : Type 0} (f : X → Y) (xs : List X) (i : ℕ) (x : X) → slice_get xs i ≡ Some x → slice_get (map f xs) i ≡ Some (f x)
made_at f [] i x at = absurd (cc)
made_at f (y ∷ ys) zero x at = ap (λ z. Some (f z)) (same_Some y x at)
made_at f (y ∷ ys) (suc i) x at = made_at f ys i x at

-- it is kept over the database before
next_kept : (m : Meanings) (durable : ℕ → Bool) (root : ℕ) (s : Slots) (gone : List ℕ) (before : List Kept) (name : Name) (c : Change) (i : ℕ)
    (k : Kept) (d : Attached) (a : Db.Attached) → Asks m durable root s gone before name c i → kept_at before name ≡ Some k
    → slice_get k.descriptor.attachments i ≡ Some d → slice_get k.relation.attachments i ≡ Some a → IsKept m durable s (db_of before) k d a
next_kept m durable root s gone before name c i k d a asks there at_d at_a =
    let found = CanAsk-next m durable root s gone before name c i k d asks there at_d in
    subst (IsKept m durable s (db_of before) k d) (same_Some found.0 a (sym found.1 ∙ at_a)) found.2.kept

-- the call of a box that keeps no join takes as many pages at most as one of the two contents
abbrev most_of : Attachment → Content → Content → ℕ
most_of box old new = max (box.bound old) (box.bound new)

most_of_both : (m : Meanings) (durable : ℕ → Bool) (s : Slots) (db : Db.Db) (c : Change) (k : Kept) (d : Attached) (a : Db.Attached)
    (box : Attachment) → attachment_of d.code m.attachments ≡ Some box → IsKept m durable s db k d a → is_join a.rule ≡ false
    → most_asked box (rule_of durable k d) a.rule db a.buckets c
    ≡ most_of box (content_over box (rule_of durable k d) a.rule db a.buckets) (content_after box (rule_of durable k d) a.rule db a.buckets c)
most_of_both m durable s db c k d a box live kept none =
    let old = content_over box (rule_of durable k d) a.rule db a.buckets in
    let new = content_after box (rule_of durable k d) a.rule db a.buckets c in
    let same = same_Some box kept.box (sym live ∙ kept.live) in
    let code = ap (λ (x : Attachment). x.rules.code == 3) same ∙ ap (λ n. n == 3) kept.stands.spelled.coded
    ∙ joinless-code a.rule none kept.stands.spelled.limited in
    ap (λ b. cond b (box.bound old + box.cost (Changed c) old new) (max (box.bound old) (box.bound new))) code

-- what its call has room for is within its weight
within_weight : (m : Meanings) (ext : Extensions) (durable : ℕ → Bool) (s : Slots) (before : List Kept) (at : Reached) (name : Name) (c : Change)
    (k : Kept) (d : Attached) (a : Db.Attached) (box : Attachment) (pages : ℕ) → AreBounded m ext → at.before ≡ db_of before
    → at.after ≡ changed (db_of before) name c → kept_at before name ≡ Some k → is_join a.rule ≡ false
    → attachment_of d.code m.attachments ≡ Some box → IsKept m durable s (db_of before) k d a
    → pages < most_asked box (rule_of durable k d) a.rule (db_of before) a.buckets c
    → pages ≤ rule_weight ext at k.name (grown c (changed_rows k.relation.rows c) a) a.rule
within_weight m ext durable s before at name c k d a box pages bounded was becomes there none live kept room =
    let db = db_of before in
    let more = next_buckets a.rule c (changed_rows k.relation.rows c) a.buckets in
    let code = sym (kept.code ∙ kept.stands.spelled.coded) in
    let law = subst IsAttachment (same_Some kept.box box (sym kept.live ∙ live)) kept.law in
    let old = bounded.attachments d.code box live law db k.name a.rule a.buckets code kept.stands.spelled.limited none in
    let grows = bound_grows ext db k.name a.rule a.buckets more (buckets_grow a.rule c (changed_rows k.relation.rows c) a.buckets) in
    let new = bounded.attachments d.code box live law (changed db k.name c) k.name a.rule more code kept.stands.spelled.limited none in
    let on = kept_at-name before name k there in
    let rows : rows_at db k.name ≡ k.relation.rows =
    rows_at-there db k.name k.relation (ap (relation_at db) on ∙ relation_at-there before name k there) in
    let content = ap (λ (rs : Rows). box.bound (content_over box (rule_of durable k d) a.rule (changed db k.name c)
    (next_buckets a.rule c (changed_rows rs c) a.buckets))) rows in
    let left = ap (λ (x : Db.Db). rule_bound ext x k.name a.rule more) was in
    let right = ap (λ (x : Db.Db). rule_bound ext x k.name a.rule more) (becomes ∙ ap (λ (n : Name). changed db n c) (sym on)) in
    let most = most_of_both m durable s db c k d a box live kept none in
    let weighs = weight_is ext at k.name (grown c (changed_rows k.relation.rows c) a) a.rule none in
    omega (arith, room, most, old, grows, new, content, left, right, weighs)

pub asking-is-within : AskingIsWithin
asking-is-within m durable root s gone before aside spent name c i k d a box fresh meant are asks few there at_d at_a live room =
    let ext = extensions_of m in
    let bounded = are-bounded m in
    let at = changing (db_of before) name c aside spent in
    let after = changed_kept name c before in
    let rows = changed_rows k.relation.rows c in
    let light = all_light m ext durable root s gone before aside spent name c i bounded meant are asks in
    let weighs = All-weaker (IsLight ext at s 0) (Weighs ext at s 0) (light_weighs ext at s 0) after light in
    let stays = kept_at-with_changed name c before k there in
    let joinless = kept_at-all (λ x. has_no_join x ≡ true) before name k asks.joinless there in
    let none = all_at (λ x. is_join x.rule ≡ false) k.relation.attachments i a (no_joins k.relation.attachments joinless) at_a in
    let kept = next_kept m durable root s gone before name c i k d a asks there at_d at_a in
    let pages = page_count (owned s d.owner) + fresh in
    let place = within_weight m ext durable s before at name c k d a box pages bounded refl refl there none live kept room in
    let named = kept_at-all (IsLight ext at s 0) after name (with_changed c k) light stays in
    let at_grown = made_at (grown c rows) k.relation.attachments i a at_a in
    let one = asking_weighs ext at s fresh i (with_changed c k) d (grown c rows a) named at_d at_grown place in
    changed_within ext name c aside spent s fresh gone before (rising-before name c before asks.tables.rising)
    (small_catalogue m durable root s gone before name c i asks) few (more_sum ext at s fresh name (with_changed c k) after stays one weighs)
