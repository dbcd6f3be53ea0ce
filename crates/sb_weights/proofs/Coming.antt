-- A relation comes to a store: the pages on the way, against the need of the database with it.
use Rattle.std.proofs.Common.{◌≡◌, ℕ, ◌+◌, ◌*◌, ◌<◌, ◌≤◌, Bool, true, false, cond, List, [], ◌∷◌, ◌++◌, length, get_or, map, All, Option, Some, None}
use Rattle.std.proofs.Common.{Ordering, Less, Equal, Greater, bytes_eq, inl, inr, refl, sym, ap, ◌∙◌, arith}
use Rattle.std.specs.FinMap.Entries.{by_order}
use Rattle.std.specs.Ordering.{is_eq}
use Rattle.std.specs.List.{sum_by}
use Rattle.std.proofs.lemmas.List.Elements.{All-cons, All-contains, All-head, All-nil}
use Rattle.std.proofs.lemmas.List.Sums.{sum_by-append, sum_by-cons}
use Rattle.sb_value.specs.declared.schema.Column.{Column}
use Rattle.sb_value.specs.Order.{bytes_cmp}
use Rattle.sb_rule.specs.declared.rule.Rule.{Rule}
use Rattle.sb_rule.specs.declared.rule.Rule.TheVariants.{TreeIndex, HashIndex, JoinIndex, Stats, Check, Refers, Trigger, Foreign}
use Rattle.sb_relation.specs.Db
use Rattle.sb_relation.specs.Db.{Name, Relation, Rows, relation_at, rows_at, schema_at, with_relation}
use Rattle.sb_fold.specs.Bounds.{foreign_bound, plain_bound, rule_bound}
use Rattle.sb_fold.specs.Extensions.{AttachRoom, Extensions, attach_room}
use Rattle.sb_fold.specs.Need.{need, relation_weight, rule_weight}
use Rattle.sb_fold.specs.Outcome.{Gone, Reached}
use Rattle.sb_forms.specs.Pages.{ArePages, Pages, page_count}
use Rattle.sb_ctx.specs.declared.instance.Instance.{Instance}
use Rattle.sb_ctx.specs.View.{fresh_pages}
use Rattle.sb_registry.specs.Boxes.{Meanings}
use Rattle.sb_drive.specs.Slots.{Slots, owned}
use Rattle.sb_room.specs.Owned.{AreOwners, pages_of}
use Rattle.sb_room.proofs.Owning.{full-is-owned, pages-same}
use Rattle.sb_standing.specs.Instances.{owners_of}
use Rattle.sb_standing.specs.Standing.{EachRule, HasPage, IsAmong, IsKept, IsOwner, KeepsRule, KeepsRules, has_no_join, is_join, owners_in}
use Rattle.sb_standing.specs.Tables.{Kept, KeepsTable, db_of, kept_at}
use Rattle.sb_standing.specs.TableLaws.{Comes}
use Rattle.sb_standing.proofs.FrameLemmas.{All-any, All-both, All-right, KeepsTable-same}
use Rattle.sb_standing.proofs.GivenLemmas.{Comes-same}
use Rattle.sb_standing.proofs.KeptLemmas.{relation_at-none}
use Rattle.sb_standing.proofs.PutLemmas.{db_of-put, turned_name}
use Rattle.sb_standing.proofs.RelationLemmas.{KeepsRules-by, relation_at-put, same-came}
use Rattle.sb_standing.proofs.SplitLemmas.{EachRule-weaker, no_joins}
use Rattle.sb_weights.specs.Coming.{ComingIsFull, IsShortComing, MayCome}
use Rattle.sb_weights.specs.Rooms.{extensions_of}
use Rattle.sb_weights.specs.Weights.{owners_with, resting}
use Rattle.sb_weights.proofs.Bounded.{AreBounded, are-bounded}
use Rattle.sb_weights.proofs.Filling.{are_owners}
use Rattle.sb_weights.proofs.Lightness.{light_table}
use Rattle.sb_weights.proofs.Summing.{weighed_sum}
use Rattle.sb_weights.proofs.Weighing.{IsLightRule, Weighs, light_weighs, rule_pages, weight, weight_is}

-- ---- a database with one relation more
-- what its entries add up to
sum_more : (f : Name × Relation → ℕ) (name : Name) (r : Relation) (db : Db.Db) → relation_at db name ≡ None
    → sum_by f (with_relation db name r) ≡ f (name, r) + sum_by f db
sum_more f name r [] new = sum_by-cons f (name, r) []
sum_more f name r (e ∷ db) new = by (bytes_cmp name e.0) new (sum_more f name r db)
  where
    by : (o : Ordering) → cond (is_eq o) (Some e.1) (relation_at db name) ≡ None
        → (relation_at db name ≡ None → sum_by f (with_relation db name r) ≡ f (name, r) + sum_by f db)
        → sum_by f (by_order o ((name, r) ∷ e ∷ db) ((e.0, r) ∷ db) (e ∷ with_relation db name r)) ≡ f (name, r) + sum_by f (e ∷ db)
    by Less is rest = sum_by-cons f (name, r) (e ∷ db)
    by Equal is rest = absurd (cc)
    by Greater is rest = omega (arith, sum_by-cons f e (with_relation db name r), sum_by-cons f e db, rest is)

-- the relations that are kept have other names
other_names : (kept : List Kept) (name : Name) → kept_at kept name ≡ None → All (λ k. bytes_eq name k.name ≡ false) kept
other_names [] name new = All-nil (λ (k : Kept). bytes_eq name k.name ≡ false)
other_names (o ∷ kept) name new = by (bytes_eq o.name name) refl new (other_names kept name)
  where
    by : (b : Bool) → bytes_eq o.name name ≡ b → cond b (Some o) (kept_at kept name) ≡ None
        → (kept_at kept name ≡ None → All (λ k. bytes_eq name k.name ≡ false) kept) → All (λ k. bytes_eq name k.name ≡ false) (o ∷ kept)
    by true same is rest = absurd (cc)
    by false other is rest = All-cons (λ (k : Kept). bytes_eq name k.name ≡ false) o kept (turned_name o.name name other) (rest is)

-- and are those that they were
still_there : (kept : List Kept) (name : Name) (r : Relation) (n : Name) → bytes_eq name n ≡ false
    → relation_at (with_relation (db_of kept) name r) n ≡ relation_at (db_of kept) n
still_there kept name r n other =
    let k : Kept = record {
      name = name;
      descriptor = record { method = r.method; owner = 0; root = 0; schema = r.schema; key = r.key; attachments = [] };
      relation = r;
    } in
    ap (λ (db : Db.Db). relation_at db n) (sym (db_of-put k kept)) ∙ relation_at-put k kept n ∙ ap (λ b. cond b (Some r) (relation_at (db_of kept) n)) other

-- ---- an attachment takes as much in each database that has its relation's rows and columns alike
foreign_alike : (room : Option AttachRoom) (desc : List ℕ) (a b : Db.Db) (name : Name) (buckets : ℕ) → rows_at a name ≡ rows_at b name → schema_at a name ≡ schema_at b name
    → foreign_bound room desc a name buckets ≡ foreign_bound room desc b name buckets
foreign_alike None desc a b name buckets rows columns = refl
foreign_alike (Some room) desc a b name buckets rows columns =
    ap (λ (c : List Column). room.bound desc c (rows_at a name) buckets) columns ∙ ap (λ (r : Rows). room.bound desc (schema_at b name) r buckets) rows

-- if its rule is no join
pub bound-alike : (ext : Extensions) (a b : Db.Db) (name : Name) (rule : Rule) (buckets : ℕ) → rows_at a name ≡ rows_at b name → schema_at a name ≡ schema_at b name
    → is_join rule ≡ false → rule_bound ext a name rule buckets ≡ rule_bound ext b name rule buckets
bound-alike ext a b name (TreeIndex columns unique) buckets rows same none = ap (λ (r : Rows). plain_bound (length r)) rows
bound-alike ext a b name (HashIndex columns) buckets rows same none = ap (λ (r : Rows). plain_bound (length r) + 2 * buckets) rows
bound-alike ext a b name (JoinIndex side columns other others) buckets rows same none = absurd (cc)
bound-alike ext a b name (Stats column low width) buckets rows same none = refl
bound-alike ext a b name (Check pred deferred) buckets rows same none = refl
bound-alike ext a b name (Refers side columns other others mode deferred) buckets rows same none = refl
bound-alike ext a b name (Trigger on pred act deferred) buckets rows same none = refl
bound-alike ext a b name (Foreign code desc) buckets rows same none = foreign_alike (attach_room ext code) desc a b name buckets rows same

abbrev rows_in : Option Relation → Rows
rows_in o = elim o as (λ _. Rows) [ None ↦ [] | Some r ↦ r.rows ]

abbrev columns_in : Option Relation → List Column
columns_in o = elim o as (λ _. List Column) [ None ↦ [] | Some r ↦ r.schema ]

light_alike : (m : Meanings) (ext : Extensions) (at : Reached) (s : Slots) (inst : Instance) (a : Db.Attached) (db : Db.Db) → AreBounded m ext
    → ArePages (owned s inst.owner) → is_join a.rule ≡ false → relation_at at.after inst.relation ≡ relation_at db inst.relation
    → KeepsRule m s inst a db → page_count (owned s inst.owner) ≤ rule_weight ext at inst.relation a a.rule
light_alike m ext at s inst a db bounded are none same kept =
    omega (
      arith,
      rule_pages m ext s inst a db bounded are none kept,
      bound-alike ext at.after db inst.relation a.rule a.buckets (ap rows_in same) (ap columns_in same) none,
      weight_is ext at inst.relation a a.rule none,
    )

rules_alike : (m : Meanings) (ext : Extensions) (durable : ℕ → Bool) (at : Reached) (s : Slots) (db : Db.Db) (k : Kept) → AreBounded m ext
    → ((o : ℕ) → ArePages (owned s o)) → relation_at at.after k.name ≡ relation_at db k.name → has_no_join k ≡ true
    → KeepsRules m durable s db k → EachRule (IsLightRule ext at s k.name) k.descriptor.attachments k.relation.attachments
rules_alike m ext durable at s db k bounded are same joinless rules =
    EachRule-weaker (IsKept m durable s db k) (IsLightRule ext at s k.name) (λ d. Unit {0}) (λ a. is_join a.rule ≡ false)
    (λ d a _ none kept. light_alike m ext at s _ a db bounded (are d.owner) none same kept)
    k.descriptor.attachments k.relation.attachments (λ i d in'. tt) (no_joins k.relation.attachments joinless) rules

-- ---- the store while it comes
module _ (m : Meanings) (durable : ℕ → Bool) (root : ℕ) (s t : Slots) (gone : List ℕ) (kept : List Kept) (aside : Gone) (spent : ℕ) (name : Name)
    (r : Relation) (owner : ℕ) (may : MayCome m durable root s gone kept aside name r) (comes : Comes s t owner) where
  abbrev ext : Extensions
  ext = extensions_of m

  abbrev at : Reached
  at = resting (with_relation (db_of kept) name r) aside spent

  abbrev IsSame : ℕ → Type 0
  IsSame o = owned t o ≡ owned s o

  abbrev Stays : Kept → Type 0
  Stays k = All IsSame (owners_of k.descriptor)

  stay : All Stays kept
  stay = same-came m durable root s t gone kept owner may.keeps comes

  tables : All (KeepsTable m durable t) kept
  tables = All-both Stays (KeepsTable m durable s) (KeepsTable m durable t)
      (λ k same table. KeepsTable-same m durable s t k (All-head IsSame k.descriptor.owner (map (λ a. a.owner) k.descriptor.attachments) same) table)
      kept stay may.keeps.tables.each

  rules : All (KeepsRules m durable t (db_of kept)) kept
  rules = All-both Stays (KeepsRules m durable s (db_of kept)) (KeepsRules m durable t (db_of kept))
      (λ k same each. KeepsRules-by m durable s t (db_of kept) (db_of kept) k (λ a. Unit {0}) (λ d a any keeps. keeps) same
      (All-any k.relation.attachments) each) kept stay may.keeps.rules

  weigh : ((o : ℕ) → ArePages (owned t o)) → All (Weighs ext at t 0) kept
  weigh are = λ i d in'.
      let k = get_or kept i d in
      let bounded = are-bounded m in
      let same = still_there kept name r k.name (other_names kept name may.new i d in') in
      light_weighs ext at t 0 k (light_table m ext durable at t k bounded are (may.meant i d in') (tables i d in')
      (rules_alike m ext durable at t (db_of kept) k bounded are same (may.keeps.joinless i d in') (rules i d in')))

  -- what is gone has the pages that it had
  aside_same : pages_of s gone ≡ pages_of t gone
  aside_same =
      let each = All-both IsOwner (HasPage s) IsSame (λ o is has. Comes-same s t owner o comes is has) gone
      (All-right IsOwner (owners_in kept) gone may.keeps.own.each) may.keeps.own.left in
      pages-same s t gone (λ o there. sym (All-contains IsSame gone o each there))

  -- the pages of all instances are within the need
  within : (total : ℕ) → ((o : ℕ) → ArePages (owned t o)) → (short : IsShortComing ext s t kept r owner total)
      → pages_of t (owners_with kept gone) + page_count (owned t owner) + length (fresh_pages short.ctx) ≤ need ext true at
  within total are short =
      let f = λ (o : ℕ). page_count (owned t o) in
      let meant = ap (λ b. cond b (relation_weight ext at name r) 0) may.outlives in
      let all = sum_more (weight ext at) name r (db_of kept) (relation_at-none kept name may.new) in
      let each = weighed_sum ext at t kept (weigh are) in
      omega (
        arith,
        sum_by-cons f 2 (owners_in kept ++ gone),
        sum_by-append f (owners_in kept) gone,
        meant,
        all,
        each,
        aside_same,
        may.few,
        short.all,
        short.catalogue,
        short.own,
      )

  -- no other owner has any
  known : (o : ℕ) → 2 < o → (IsAmong o (owner ∷ owners_in kept ++ gone) → ⊥) → (n : ℕ) → owned t o n ≡ []
  known o above none n =
      ap (λ (P : Pages). P n) (comes.others o (λ is. none (inl is)) (λ two. absurd (omega (arith, above, two))))
      ∙ may.keeps.own.known o above (λ is. none (inr is)) n

  owners : AreOwners (1 ∷ 2 ∷ owner ∷ owners_in kept ++ gone) t
  owners = are_owners t (owner ∷ owners_in kept ++ gone) known

pub coming-is-full : ComingIsFull
coming-is-full m durable root s t gone kept aside spent name r owner table total may are small tabled short =
    let most = within m durable root s t gone kept aside spent name r owner may short.comes total are short in
    let all = full-is-owned t short.ctx total table total total (1 ∷ 2 ∷ owner ∷ owners_in kept ++ gone) small tabled
    (owners m durable root s t gone kept aside spent name r owner may short.comes) (record { total_is = refl; all = refl; each = short.used }) in
    let f = λ (o : ℕ). page_count (owned t o) in
    omega (
      arith,
      most,
      all,
      sum_by-cons f 1 (2 ∷ owner ∷ owners_in kept ++ gone),
      sum_by-cons f 2 (owner ∷ owners_in kept ++ gone),
      sum_by-cons f owner (owners_in kept ++ gone),
      sum_by-cons f 2 (owners_in kept ++ gone),
    )
