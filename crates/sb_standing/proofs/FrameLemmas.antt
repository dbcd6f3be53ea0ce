-- What stands for a database stands on while the pages that it is in stay.
use Rattle.std.proofs.Common.{◌≡◌, ◌≢◌, inl, inr, ℕ, ◌<◌, Bool, true, false, List, [], ◌∷◌, ◌++◌, map, get_or, All, refl, sym, ap, subst, ◌∙◌, arith}
use Rattle.std.proofs.lemmas.List.Elements.{All-head, All-tail, All-cons, All-nil, All-append, All-map, All-weaker}
use Rattle.sb_relation.specs.Db
use Rattle.sb_relation.specs.Db.{Rows}
use Rattle.sb_rows.specs.Pages.{Pages}
use Rattle.sb_rows.specs.Maps.{map_in}
use Rattle.sb_rows.specs.Instance.{Instance}
use Rattle.sb_rows.specs.Attachment.{IsOwned, keeps_pages}
use Rattle.sb_rows.specs.AttachAnswers.{content_over, Holds}
use Rattle.sb_rows.specs.MethodAnswers.{Holds as HoldsRows}
use Rattle.sb_rows.specs.Boxes.{Meanings}
use Rattle.sb_rows.specs.Slots.{Slots, owned}
use Rattle.sb_rows.specs.Live.{HasRows}
use Rattle.sb_catalog.specs.declared.descriptor.Attached.{Attached}
use Rattle.sb_standing.specs.Instances.{owners_of}
use Rattle.sb_standing.specs.Tables.{Kept, db_of, table_of, KeepsTable, Tables}
use Rattle.sb_standing.specs.Standing.{KeepsRule, EachRule, IsKept, KeepsRules, IsOwner, owners_in, HasPage, Own, Keeps}

-- ---- each attachment
-- what holds of each pair holds of it with what holds of each side
pub EachRule-weaker : (P Q : Attached → Db.Attached → Type 0) (C : Attached → Type 0) (D : Db.Attached → Type 0) → ((d : Attached) (a : Db.Attached) → C d → D a → P d a → Q d a)
    → (ds : List Attached) (others : List Db.Attached) → All C ds → All D others → EachRule P ds others → EachRule Q ds others
EachRule-weaker P Q C D step [] [] c d each = tt
EachRule-weaker P Q C D step (x ∷ ds) [] c d each = absurd each
EachRule-weaker P Q C D step [] (a ∷ others) c d each = absurd each
EachRule-weaker P Q C D step (x ∷ ds) (a ∷ others) c d each =
    (step x a (All-head C x ds c) (All-head D a others d) each.0, EachRule-weaker P Q C D step ds others (All-tail C x ds c) (All-tail D a others d) each.1)

-- what each pair gives of its side of the descriptor
pub EachRule-all : (P : Attached → Db.Attached → Type 0) (C : Attached → Type 0) → ((d : Attached) (a : Db.Attached) → P d a → C d) → (ds : List Attached) (others : List Db.Attached) → EachRule P ds others → All C ds
EachRule-all P C step [] [] each = All-nil C
EachRule-all P C step (x ∷ ds) [] each = absurd each
EachRule-all P C step [] (a ∷ others) each = absurd each
EachRule-all P C step (x ∷ ds) (a ∷ others) each = All-cons C x ds (step x a each.0) (EachRule-all P C step ds others each.1)

pub All-left : {X : Type 0} (P : X → Type 0) (xs ys : List X) → All P (xs ++ ys) → All P xs
All-left P [] ys all = All-nil P
All-left P (x ∷ xs) ys all = All-cons P x xs (All-head P x (xs ++ ys) all) (All-left P xs ys (All-tail P x (xs ++ ys) all))

pub All-right : {X : Type 0} (P : X → Type 0) (xs ys : List X) → All P (xs ++ ys) → All P ys
All-right P [] ys all = all
All-right P (x ∷ xs) ys all = All-right P xs ys (All-tail P x (xs ++ ys) all)

pub All-unmap : {X Y : Type 0} (P : Y → Type 0) (f : X → Y) (xs : List X) → All P (map f xs) → All (λ x. P (f x)) xs
All-unmap P f [] all = All-nil (λ x. P (f x))
All-unmap P f (x ∷ xs) all = All-cons (λ x. P (f x)) x xs (All-head P (f x) (map f xs) all) (All-unmap P f xs (All-tail P (f x) (map f xs) all))

-- what two facts of each give of it
pub All-both : {X : Type 0} (P Q R : X → Type 0) → ((x : X) → P x → Q x → R x) → (xs : List X) → All P xs → All Q xs → All R xs
All-both P Q R step xs p q n d h = step (get_or xs n d) (p n d h) (q n d h)

pub All-any : {X : Type 0} (xs : List X) → All (λ x. Unit {0}) xs
All-any xs n d h = tt

-- ---- the same pages
pub HasRows-same : (m : Meanings) (s t : Slots) (inst : Instance) (rows : Rows) → owned t inst.owner ≡ owned s inst.owner → HasRows m s inst rows → HasRows m t inst rows
HasRows-same m s t inst rows same has = record { live = has.live; holds = subst (λ (P : Pages). HoldsRows has.live.box inst P rows) (sym same) has.holds }

pub KeepsTable-same : (m : Meanings) (durable : ℕ → Bool) (s t : Slots) (k : Kept) → owned t k.descriptor.owner ≡ owned s k.descriptor.owner → KeepsTable m durable s k → KeepsTable m durable t k
KeepsTable-same m durable s t k same keeps = record { is = keeps.is; storable = keeps.storable; named = keeps.named; wide = keeps.wide; rows = HasRows-same m s t (table_of durable k) k.relation.rows same keeps.rows }

-- the pages of the catalogue and of the storage methods
pub Tables-same : (m : Meanings) (durable : ℕ → Bool) (root : ℕ) (s t : Slots) (kept : List Kept) → owned t 2 ≡ owned s 2 → All (λ k. owned t k.descriptor.owner ≡ owned s k.descriptor.owner) kept →
    Tables m durable root s kept → Tables m durable root t kept
Tables-same m durable root s t kept catalogue each tables = record {
  rising = tables.rising;
  catalogue = ap (map_in root) catalogue ∙ tables.catalogue;
  each = λ n d h. KeepsTable-same m durable s t _ (each n d h) (tables.each n d h);
}

pub KeepsRule-same : (m : Meanings) (s t : Slots) (inst : Instance) (a : Db.Attached) (db : Db.Db) → owned t inst.owner ≡ owned s inst.owner → KeepsRule m s inst a db → KeepsRule m t inst a db
KeepsRule-same m s t inst a db same keeps = record {
  box = keeps.box;
  live = keeps.live;
  law = keeps.law;
  code = keeps.code;
  owner = keeps.owner;
  stands = keeps.stands;
  holds = subst (λ (P : Pages). Holds keeps.box inst P (content_over keeps.box inst a.rule db a.buckets)) (sym same) keeps.holds;
}

-- those of the attachments
pub KeepsRules-same : (m : Meanings) (durable : ℕ → Bool) (s t : Slots) (db : Db.Db) (k : Kept) → All (λ d. owned t d.owner ≡ owned s d.owner) k.descriptor.attachments →
    KeepsRules m durable s db k → KeepsRules m durable t db k
KeepsRules-same m durable s t db k same keeps =
    EachRule-weaker (IsKept m durable s db k) (IsKept m durable t db k) (λ (d : Attached). owned t d.owner ≡ owned s d.owner) (λ a. Unit {0})
    (λ d a same any keeps. KeepsRule-same m s t _ a db same keeps) k.descriptor.attachments k.relation.attachments same (All-any k.relation.attachments) keeps

-- those of all owners behind the catalogue
pub HasPage-same : (s t : Slots) (o : ℕ) → (2 < o → owned t o ≡ owned s o) → IsOwner o → HasPage s o → HasPage t o
HasPage-same s t o same is (inl none) = inl none
HasPage-same s t o same (inl none) (inr page) = inl none
HasPage-same s t o same (inr some) (inr page) = inr (page.0, λ gone. page.1 (ap (λ (P : Pages). P page.0) (sym (same some)) ∙ gone))

pub Own-same : (s t : Slots) (owners gone : List ℕ) → ((o : ℕ) → 2 < o → owned t o ≡ owned s o) → Own s owners gone → Own t owners gone
Own-same s t owners gone same own = record {
  apart = own.apart;
  each = own.each;
  left = λ n d h. HasPage-same s t _ (same _) (All-right IsOwner owners gone own.each n d h) (own.left n d h);
  known = λ o some none n. ap (λ (P : Pages). P n) (same o some) ∙ own.known o some none n;
}

-- ---- the owners of instances
-- nobody has any page, whatever there is
pub same-owner : (s t : Slots) (o : ℕ) → IsOwner o → (2 < o → owned t o ≡ owned s o) → owned t o ≡ owned s o
same-owner s t o (inl none) same = subst (λ (n : ℕ). owned t n ≡ owned s n) (sym none) refl
same-owner s t o (inr some) same = same some

pub owners-each : (P : ℕ → Type 0) (kept : List Kept) → All P (owners_in kept) → All (λ k. All P (owners_of k.descriptor)) kept
owners-each P [] all = All-nil (λ (k : Kept). All P (owners_of k.descriptor))
owners-each P (k ∷ kept) all =
    All-cons (λ (k : Kept). All P (owners_of k.descriptor)) k kept (All-left P (owners_of k.descriptor) (owners_in kept) all) (owners-each P kept (All-right P (owners_of k.descriptor) (owners_in kept) all))

pub owners-all : (P : ℕ → Type 0) (kept : List Kept) → All (λ k. All P (owners_of k.descriptor)) kept → All P (owners_in kept)
owners-all P [] each = All-nil P
owners-all P (k ∷ kept) each =
    All-append P (owners_of k.descriptor) (owners_in kept) (All-head (λ (k : Kept). All P (owners_of k.descriptor)) k kept each) (owners-all P kept (All-tail (λ (k : Kept). All P (owners_of k.descriptor)) k kept each))

-- all of them keep their pages
pub Keeps-over : (m : Meanings) (durable : ℕ → Bool) (root : ℕ) (s t : Slots) (gone : List ℕ) (kept : List Kept) → ((o : ℕ) → 1 < o → owned t o ≡ owned s o) →
    Keeps m durable root s gone kept → Keeps m durable root t gone kept
Keeps-over m durable root s t gone kept same keeps =
    let more : (o : ℕ) → 2 < o → owned t o ≡ owned s o = λ o some. same o (omega arith) in
    let IsSame : ℕ → Type 0 = λ o. owned t o ≡ owned s o in
    let Each : Kept → Type 0 = λ k. All IsSame (owners_of k.descriptor) in
    let each = owners-each IsSame kept (All-weaker IsOwner IsSame (λ o is. same-owner s t o is (more o)) (owners_in kept) (All-left IsOwner (owners_in kept) gone keeps.own.each)) in
    record {
      tables =
          Tables-same m durable root s t kept (same 2 (omega arith))
          (All-weaker Each (λ (k : Kept). IsSame k.descriptor.owner) (λ k all. All-head IsSame k.descriptor.owner (map (λ a. a.owner) k.descriptor.attachments) all) kept each) keeps.tables;
      rules = All-both Each (KeepsRules m durable s (db_of kept)) (KeepsRules m durable t (db_of kept)) (λ k all rules.
          KeepsRules-same m durable s t (db_of kept) k
          (All-unmap IsSame (λ (a : Attached). a.owner) k.descriptor.attachments (All-tail IsSame k.descriptor.owner (map (λ a. a.owner) k.descriptor.attachments) all)) rules) kept each keeps.rules;
      joinless = keeps.joinless;
      own = Own-same s t (owners_in kept) gone more keeps.own;
    }

-- ---- each instance has pages
pub page-table : (m : Meanings) (durable : ℕ → Bool) (s : Slots) (k : Kept) → KeepsTable m durable s k → owned s k.descriptor.owner k.descriptor.root ≢ []
page-table m durable s k keeps = (keeps.rows.live.law.formed (table_of durable k) (owned s k.descriptor.owner) k.relation.rows keeps.rows.holds).root

-- that of an attachment, but for one without an owner
pub page-rule : (m : Meanings) (s : Slots) (inst : Instance) (a : Db.Attached) (db : Db.Db) → KeepsRule m s inst a db → HasPage s inst.owner
page-rule m s inst a db keeps = by (keeps_pages keeps.box.rules.code) keeps.owner
  where
    by : (b : Bool) → IsOwned b inst → HasPage s inst.owner
    by true some = inr (inst.root, (keeps.law.formed inst (owned s inst.owner) (content_over keeps.box inst a.rule db a.buckets) keeps.holds).root some)
    by false none = inl none

pub pages-rules : (m : Meanings) (durable : ℕ → Bool) (s : Slots) (db : Db.Db) (k : Kept) → KeepsRules m durable s db k → All (λ d. HasPage s d.owner) k.descriptor.attachments
pages-rules m durable s db k keeps =
    EachRule-all (IsKept m durable s db k) (λ (d : Attached). HasPage s d.owner) (λ d a keeps. page-rule m s _ a db keeps) k.descriptor.attachments k.relation.attachments keeps

pub pages-kept : (m : Meanings) (durable : ℕ → Bool) (s : Slots) (db : Db.Db) (k : Kept) → KeepsTable m durable s k → KeepsRules m durable s db k → All (HasPage s) (owners_of k.descriptor)
pages-kept m durable s db k table rules =
    All-cons (HasPage s) k.descriptor.owner (map (λ a. a.owner) k.descriptor.attachments) (inr (k.descriptor.root, page-table m durable s k table))
    (All-map (HasPage s) (λ (a : Attached). a.owner) k.descriptor.attachments (pages-rules m durable s db k rules))

-- each owner has a page
pub pages-all : (m : Meanings) (durable : ℕ → Bool) (root : ℕ) (s : Slots) (gone : List ℕ) (kept : List Kept) → Keeps m durable root s gone kept → All (HasPage s) (owners_in kept ++ gone)
pages-all m durable root s gone kept keeps =
    All-append (HasPage s) (owners_in kept) gone (owners-all (HasPage s) kept
    (All-both (KeepsTable m durable s) (KeepsRules m durable s (db_of kept)) (λ (k : Kept). All (HasPage s) (owners_of k.descriptor)) (pages-kept m durable s (db_of kept)) kept keeps.tables.each keeps.rules)) keeps.own.left
