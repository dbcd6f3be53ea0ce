-- What was committed with some boxes live is so with others live.
use Rattle.std.proofs.Common.{◌≡◌, ℕ, ◌==◌, ◌&&◌, ◌||◌, Bool, true, false, List, [], ◌∷◌, ◌++◌, map, slice_index_or, All, Option, Some, None, is_some, option_map, append-nil, refl, sym, ap, subst, ◌∙◌}
use Rattle.std.specs.List.{find}
use Rattle.std.specs.Option.{option_or}
use Rattle.std.proofs.lemmas.Bool.{false≢true}
use Rattle.std.proofs.lemmas.List.Elements.{All-cons, All-head, All-nil, All-tail}
use Rattle.std.proofs.lemmas.List.Folds.{find-append}
use Rattle.sb_rule.specs.Spelling.{rule_code}
use Rattle.sb_rule.specs.declared.rule.Rule.{Rule}
use Rattle.sb_relation.specs.Db
use Rattle.sb_relation.specs.Db.{Db, Name, schema_at}
use Rattle.sb_relation.specs.Fits.{MayStand}
use Rattle.sb_relation.specs.Foreign.{AttachRules, attach_rules}
use Rattle.sb_fold.specs.Fold.{attachments_at}
use Rattle.sb_ctx.specs.Method.{Method}
use Rattle.sb_ctx.specs.Attachment.{Attachment}
use Rattle.sb_registry.specs.Boxes.{Meanings, attachment_of, boxes_of, method_of}
use Rattle.sb_drive.specs.Spaces.{Wanted}
use Rattle.sb_catalog.specs.declared.descriptor.Attached.{Attached}
use Rattle.sb_catalog.specs.Descriptors.{described, standing}
use Rattle.sb_drive.specs.Slots.{Slots}
use Rattle.sb_standing.specs.Tables.{Kept, KeepsTable, Tables, db_of, kept_at}
use Rattle.sb_standing.proofs.KeptLemmas.{kept_at-all, relation_at-kept, relation_at-there}
use Rattle.sb_space.specs.Table.{slots_in}
use Rattle.sb_session.specs.Opened.{IsDurable}
use Rattle.sb_session.specs.Transactions.{IsCommitted}
use Rattle.sb_vectors.specs.Vectors.{AreSameBoxes, has_box}
use Rattle.sb_session.proofs.MoveBoxes.{Keeps-still, SameRules, StillLive, rules_alike}
use Rattle.sb_session.proofs.MoveLists.{found_more}
use Rattle.sb_opening.specs.declared.codes.Named.{Named}
use Rattle.sb_opening.specs.Laws.{CommittedByAll, CommittedBySame}
use Rattle.sb_opening.specs.Naming.{HasLive, HasSameNamed, all_live, is_named, named_in}
use Rattle.sb_opening.proofs.NamedLemmas.{AreNamed, all-named}

-- ---- whichever boxes are live
-- the rules of the boxes of a relation's attachments are the same
abbrev HaveSameRules : Meanings → Meanings → List Kept → Type 0
HaveSameRules m n kept =
    (name : Name) → All (λ a. attach_rules (rule_code a.rule) (boxes_of n).attachments ≡ attach_rules (rule_code a.rule) (boxes_of m).attachments) (attachments_at (db_of kept) name)

all-rules : (m n : Meanings) (kept : List Kept) → SameRules m n → HaveSameRules m n kept
all-rules m n kept same name = λ i d h. same (rule_code (slice_index_or (attachments_at (db_of kept) name) i d).rule)

-- those that keep relations are live, and the rules of the boxes are the same
pub IsCommitted-still : (m n : Meanings) (root pages : ℕ) (want : Wanted) (db : Db) (of : IsCommitted m root pages want db) → HaveSameRules m n of.kept → StillLive m n of.kept
    → IsCommitted n root pages want db
IsCommitted-still m n root pages want db of same still = record {
  formed = of.formed;
  kept = of.kept;
  is = of.is;
  keeps = Keeps-still m n root (slots_in pages want) [] of.kept still of.keeps;
  settled = record {
    lasting = of.settled.lasting;
    mirrored = of.settled.mirrored;
    paired = of.settled.paired;
    apart = of.settled.apart;
    complete = of.settled.complete;
    rules = λ name i d h. let a = slice_index_or (attachments_at (db_of of.kept) name) i d in
        subst (λ (box : Option AttachRules). MayStand box (db_of of.kept) (schema_at (db_of of.kept) name) a.rule) (sym (same name i d h)) (of.settled.rules name i d h);
    fit = of.settled.fit;
  };
}

-- ---- all boxes live
live-by-all : (m : Meanings) (kept : List Kept) → StillLive m (all_live m) kept
live-by-all m kept = record {
  methods = λ i d h. λ box is. found_more (λ (x : Method). x.rules.code == (slice_index_or kept i d).descriptor.method) m.methods m.spare_methods box is;
  attachments = λ i d h. λ j a l. λ box is.
      found_more (λ (x : Attachment). x.rules.code == (slice_index_or (slice_index_or kept i d).descriptor.attachments j a).code) m.attachments m.spare_attachments box is;
}

rules-by-all : (m : Meanings) → SameRules m (all_live m)
rules-by-all m c = ap (λ (xs : List Attachment). attach_rules c (map (λ x. x.rules) xs)) (append-nil (m.attachments ++ m.spare_attachments))

pub committed-by-all : CommittedByAll
committed-by-all m root pages want db of = IsCommitted-still m (all_live m) root pages want db of (all-rules m (all_live m) of.kept (rules-by-all m)) (live-by-all m of.kept)

-- ---- what the relations name
-- the code of each attachment is one that its descriptor has
codes-named : (ds : List Attached) (others : List Db.Attached) (named : List Named) → map described ds ≡ map standing others → All (λ (d : Attached). is_named false d.code named ≡ true) ds
    → All (λ (a : Db.Attached). is_named false (rule_code a.rule) named ≡ true) others
codes-named [] [] named same all = All-nil (λ (a : Db.Attached). is_named false (rule_code a.rule) named ≡ true)
codes-named (d ∷ ds) (a ∷ others) named same all =
    let first : described d ≡ standing a = cc in
    let rest : map described ds ≡ map standing others = cc in
    All-cons (λ (x : Db.Attached). is_named false (rule_code x.rule) named ≡ true) a others
    (subst (λ (c : ℕ). is_named false c named ≡ true) (ap (λ (t : ℕ × Name × Rule). t.0) first) (All-head (λ (x : Attached). is_named false x.code named ≡ true) d ds all))
    (codes-named ds others named rest (All-tail (λ (x : Attached). is_named false x.code named ≡ true) d ds all))
codes-named [] (a ∷ others) named same all = absurd (cc)
codes-named (d ∷ ds) [] named same all = absurd (cc)

-- so are those of the attachments of a relation
attachments-named : (m : Meanings) (root : ℕ) (s : Slots) (kept : List Kept) → Tables m IsDurable root s kept
    → (name : Name) → All (λ (a : Db.Attached). is_named false (rule_code a.rule) (named_in kept) ≡ true) (attachments_at (db_of kept) name)
attachments-named m root s kept tables name = by (kept_at kept name) refl
  where
    AreFine : List Db.Attached → Type 0
    AreFine others = All (λ (a : Db.Attached). is_named false (rule_code a.rule) (named_in kept) ≡ true) others

    of_relation : Option Db.Relation → List Db.Attached
    of_relation o = elim o as (λ _. List Db.Attached) [ None ↦ [] | Some r ↦ r.attachments ]

    by : (o : Option Kept) → kept_at kept name ≡ o → AreFine (attachments_at (db_of kept) name)
    by None at =
        subst AreFine (sym (ap of_relation (relation_at-kept kept name ∙ ap (option_map (λ (k : Kept). k.relation)) at)))
        (All-nil (λ (a : Db.Attached). is_named false (rule_code a.rule) (named_in kept) ≡ true))
    by (Some k) at =
        let keeps = kept_at-all (KeepsTable m IsDurable s) kept name k tables.each at in
        let named = kept_at-all (AreNamed (named_in kept)) kept name k (all-named kept) at in
        subst AreFine (sym (ap of_relation (relation_at-there kept name k at)))
        (codes-named k.descriptor.attachments k.relation.attachments (named_in kept) keeps.is.attachments named.1)

-- ---- the same boxes at the codes that are named
module _ (m n : Meanings) (root : ℕ) (s : Slots) (kept : List Kept) (tables : Tables (all_live m) IsDurable root s kept) (same : HasSameNamed (named_in kept) m n) where
  live-by-named : StillLive (all_live m) (all_live n) kept
  live-by-named = record {
    methods = λ i d h. λ box is. same.methods (slice_index_or kept i d).descriptor.method (all-named kept i d h).0 ∙ is;
    attachments = λ i d h. λ j a l. λ box is.
        same.attachments (slice_index_or (slice_index_or kept i d).descriptor.attachments j a).code ((all-named kept i d h).1 j a l) ∙ is;
  }

  rules-by-named : HaveSameRules (all_live m) (all_live n) kept
  rules-by-named name = λ i d h.
      let c = rule_code (slice_index_or (attachments_at (db_of kept) name) i d).rule in
      rules_alike c ((m.attachments ++ m.spare_attachments) ++ []) ((n.attachments ++ n.spare_attachments) ++ [])
      (ap (attachment_of c) (append-nil (n.attachments ++ n.spare_attachments))
      ∙ same.attachments c (attachments-named (all_live m) root s kept tables name i d h)
      ∙ sym (ap (attachment_of c) (append-nil (m.attachments ++ m.spare_attachments))))

pub committed-by-same : CommittedBySame
committed-by-same m n root pages want db of same =
    IsCommitted-still (all_live m) (all_live n) root pages want db of (rules-by-named m n root (slots_in pages want) of.kept of.keeps.tables same)
    (live-by-named m n root (slots_in pages want) of.kept of.keeps.tables same)

-- boxes that are all the same ones
pub same-named : (m n : Meanings) (named : List Named) → AreSameBoxes m n → HasSameNamed named m n
same-named m n named same = record { methods = λ code is. same.methods code; attachments = λ code is. same.attachments code }

-- ---- the same boxes in another order
module _ (m n : Meanings) (same : AreSameBoxes m n) where
  abbrev old : List Attachment
  old = m.attachments ++ m.spare_attachments

  abbrev new : List Attachment
  new = n.attachments ++ n.spare_attachments

  rules-some : SameRules (all_live m) n
  rules-some c = rules_alike c (old ++ []) new (same.attachments c ∙ sym (ap (attachment_of c) (append-nil old)))

-- ---- those that are named live
-- one that is found in the first of two lists is found there
found_first : {A : Type 0} (p : A → Bool) (xs ys : List A) (a : A) → find p (xs ++ ys) ≡ Some a → is_some (find p xs) ≡ true → find p xs ≡ Some a
found_first {A} p xs ys a is there = by (find p xs) there (sym (find-append p xs ys) ∙ is)
  where
    by : (o : Option A) → is_some o ≡ true → option_or o (find p ys) ≡ Some a → o ≡ Some a
    by None there is = absurd (false≢true there)
    by (Some x) there is = is

found_either : {A : Type 0} (p : A → Bool) (xs ys : List A) (a : A) → find p (xs ++ ys) ≡ Some a → (is_some (find p xs) || is_some (find p ys)) ≡ true
found_either {A} p xs ys a is = by (find p xs) (find p ys) (sym (find-append p xs ys) ∙ is)
  where
    by : (o q : Option A) → option_or o q ≡ Some a → (is_some o || is_some q) ≡ true
    by None q is = ap is_some is
    by (Some x) q is = refl

became_live : (l s w : Bool) → (l || s) ≡ true → w ≡ true → (l || (s && w)) ≡ true
became_live true s w there named = refl
became_live false s w there named = (λ i. there i && named i)

module _ (m n : Meanings) (named : List Named) (has : HasLive m named n) where
  found-method : (code : ℕ) (box : Method) → is_named true code named ≡ true → method_of code (m.methods ++ m.spare_methods) ≡ Some box → method_of code n.methods ≡ Some box
  found-method code box wanted is =
      found_first (λ (x : Method). x.rules.code == code) n.methods n.spare_methods box (has.same.methods code ∙ is)
      (has.live true code
      ∙ became_live (has_box m true true code) (has_box m false true code) (is_named true code named) (found_either (λ (x : Method). x.rules.code == code) m.methods m.spare_methods box is) wanted)

  found-attachment : (code : ℕ) (box : Attachment) → is_named false code named ≡ true → attachment_of code (m.attachments ++ m.spare_attachments) ≡ Some box → attachment_of code n.attachments ≡ Some box
  found-attachment code box wanted is =
      found_first (λ (x : Attachment). x.rules.code == code) n.attachments n.spare_attachments box (has.same.attachments code ∙ is)
      (has.live false code
      ∙ became_live (has_box m true false code) (has_box m false false code) (is_named false code named) (found_either (λ (x : Attachment). x.rules.code == code) m.attachments m.spare_attachments box is) wanted)

live-named : (m n : Meanings) (kept : List Kept) → HasLive m (named_in kept) n → StillLive (all_live m) n kept
live-named m n kept has = record {
  methods = λ i d h. λ box is. found-method m n (named_in kept) has (slice_index_or kept i d).descriptor.method box (all-named kept i d h).0 is;
  attachments = λ i d h. λ j a l. λ box is.
      found-attachment m n (named_in kept) has (slice_index_or (slice_index_or kept i d).descriptor.attachments j a).code box ((all-named kept i d h).1 j a l) is;
}

pub committed-live : (m n : Meanings) (root pages : ℕ) (want : Wanted) (db : Db) (of : IsCommitted (all_live m) root pages want db) → HasLive m (named_in of.kept) n
    → IsCommitted n root pages want db
committed-live m n root pages want db of has = IsCommitted-still (all_live m) n root pages want db of (all-rules (all_live m) n of.kept (rules-some m n has.same)) (live-named m n of.kept has)
