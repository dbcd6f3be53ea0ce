-- What pages keep, when boxes become live or spare.
use Rattle.std.proofs.Common.{◌≡◌, ℕ, ◌==◌, Bool, true, false, cond, List, [], ◌∷◌, ◌++◌, map, All, slice_index_or, Option, Some, None, option_map, refl, sym, ap, ◌∙◌, subst, append_assoc, append-nil, eqb-true, eq-eqb}
use Rattle.std.proofs.lemmas.Bool.{false≢true}
use Rattle.std.specs.List.{find}
use Rattle.std.proofs.lemmas.List.Elements.{All-cons, All-head, All-map, All-nil, All-same, All-tail}
use Rattle.sb_value.proofs.Searches.{find-none}
use Rattle.sb_rule.specs.declared.rule.Rule.{Rule}
use Rattle.sb_rule.specs.Spelling.{rule_code}
use Rattle.sb_relation.specs.Db
use Rattle.sb_relation.specs.Db.{Name}
use Rattle.sb_relation.specs.Foreign.{attach_rules}
use Rattle.sb_ctx.specs.Method.{Method}
use Rattle.sb_ctx.specs.Attachment.{Attachment}
use Rattle.sb_registry.specs.Boxes.{Meanings, attachment_of, boxes_of, method_of}
use Rattle.sb_registry.specs.Codes.{Goes}
use Rattle.sb_drive.specs.Slots.{Slots}
use Rattle.sb_catalog.specs.declared.descriptor.Attached.{Attached}
use Rattle.sb_catalog.specs.Descriptors.{described, standing}
use Rattle.sb_transactions.specs.Standing.{EachRule, IsKept, Keeps}
use Rattle.sb_transactions.specs.Tables.{Kept, KeepsTable, db_of}
use Rattle.sb_transactions.specs.Opened.{IsDurable}
use Rattle.sb_plain.specs.Refusing.{first_attached, first_kept_by}
use Rattle.sb_vectors.specs.Vectors.{AreSameBoxes, Registers, Retires}
use Rattle.sb_vectors.proofs.CodesLemmas.{AreSingle}
use Rattle.sb_session.proofs.MoveLists.{found_more, found_moved, found_without}

abbrev pub method_code : Method → ℕ
method_code m = m.rules.code

abbrev pub attachment_code : Attachment → ℕ
attachment_code a = a.rules.code

-- ---- a box that goes from one list to another
other_code : (a b c : ℕ) → (a == b) ≡ true → (c == b) ≡ false → (a == c) ≡ false
other_code a b c same not = by (a == c) refl
  where
    by : (t : Bool) → (a == c) ≡ t → (a == c) ≡ false
    by false is = is
    by true is = absurd (false≢true (sym not ∙ eq-eqb c b (sym (eqb-true a c is) ∙ eqb-true a b same)))

module _ {A : Type 0} (code_in : A → ℕ) (code c : ℕ) (from to from_after to_after : List A) (goes : Goes (λ (a : A). code_in a == code) from to from_after to_after) where
  -- behind those of the other list
  pub found_behind : AreSingle (map code_in (to ++ from)) → AreSingle (map code_in (to_after ++ from_after))
      → find (λ a. code_in a == c) (to_after ++ from_after) ≡ find (λ a. code_in a == c) (to ++ from)
  found_behind old new =
      let before : to ++ from ≡ (to ++ goes.front) ++ goes.box ∷ goes.back = ap (λ (xs : List A). to ++ xs) goes.stood ∙ sym (append_assoc to goes.front (goes.box ∷ goes.back)) in
      let after : to_after ++ from_after ≡ to ++ goes.box ∷ (goes.front ++ goes.back) =
      ap (λ (xs : List A). xs ++ from_after) goes.comes ∙ ap (λ (xs : List A). (to ++ goes.box ∷ []) ++ xs) goes.left ∙ append_assoc to (goes.box ∷ []) (goes.front ++ goes.back) in
      ap (find (λ a. code_in a == c)) after
      ∙ found_moved code_in c (to ++ goes.front) goes.back to (goes.front ++ goes.back) goes.box (append_assoc to goes.front goes.back)
      (subst (λ (xs : List A). AreSingle (map code_in xs)) before old) (subst (λ (xs : List A). AreSingle (map code_in xs)) after new)
      ∙ sym (ap (find (λ a. code_in a == c)) before)

  -- in front of them
  pub found_ahead : AreSingle (map code_in (from ++ to)) → AreSingle (map code_in (from_after ++ to_after))
      → find (λ a. code_in a == c) (from_after ++ to_after) ≡ find (λ a. code_in a == c) (from ++ to)
  found_ahead old new =
      let before : from ++ to ≡ goes.front ++ goes.box ∷ (goes.back ++ to) = ap (λ (xs : List A). xs ++ to) goes.stood ∙ append_assoc goes.front (goes.box ∷ goes.back) to in
      let after : from_after ++ to_after ≡ ((goes.front ++ goes.back) ++ to) ++ goes.box ∷ [] =
      ap (λ (xs : List A). xs ++ to_after) goes.left ∙ ap (λ (xs : List A). (goes.front ++ goes.back) ++ xs) goes.comes ∙ sym (append_assoc (goes.front ++ goes.back) to (goes.box ∷ [])) in
      ap (find (λ a. code_in a == c)) after
      ∙ found_moved code_in c goes.front (goes.back ++ to) ((goes.front ++ goes.back) ++ to) [] goes.box
      (sym (append_assoc goes.front goes.back to) ∙ sym (append-nil ((goes.front ++ goes.back) ++ to)))
      (subst (λ (xs : List A). AreSingle (map code_in xs)) before old) (subst (λ (xs : List A). AreSingle (map code_in xs)) after new)
      ∙ sym (ap (find (λ a. code_in a == c)) before)

  -- what is found in the list to which it comes is found still
  pub found_still : (a : A) → find (λ a. code_in a == c) to ≡ Some a → find (λ a. code_in a == c) to_after ≡ Some a
  found_still a is = ap (find (λ a. code_in a == c)) goes.comes ∙ found_more (λ a. code_in a == c) to (goes.box ∷ []) a is

  -- and what is found in the other by another code
  pub found_yet : (c == code) ≡ false → (a : A) → find (λ a. code_in a == c) from ≡ Some a → find (λ a. code_in a == c) from_after ≡ Some a
  found_yet other a is =
      ap (find (λ a. code_in a == c)) goes.left
      ∙ sym (found_without (λ a. code_in a == c) goes.front goes.box goes.back (other_code (code_in goes.box) code c goes.code other))
      ∙ sym (ap (find (λ a. code_in a == c)) goes.stood) ∙ is

-- ---- live boxes that are used
-- those that keep relations are live still
pub record StillLive (m n : Meanings) (kept : List Kept) : Type 0 where
  pub methods : All (λ k. (box : Method) → method_of k.descriptor.method m.methods ≡ Some box → method_of k.descriptor.method n.methods ≡ Some box) kept
  pub attachments : All (λ k. All (λ d. (box : Attachment) → attachment_of d.code m.attachments ≡ Some box → attachment_of d.code n.attachments ≡ Some box) k.descriptor.attachments) kept

module _ (m n : Meanings) (s : Slots) (db : Db.Db) where
  table_still : (k : Kept) → ((box : Method) → method_of k.descriptor.method m.methods ≡ Some box → method_of k.descriptor.method n.methods ≡ Some box)
      → KeepsTable m IsDurable s k → KeepsTable n IsDurable s k
  table_still k still keeps = record {
    is = keeps.is;
    storable = keeps.storable;
    named = keeps.named;
    wide = keeps.wide;
    rows = record {
      live = record { box = keeps.rows.live.box; live = still keeps.rows.live.box keeps.rows.live.live; may = keeps.rows.live.may; law = keeps.rows.live.law };
      holds = keeps.rows.holds;
    };
  }

  abbrev StaysLive : Attached → Type 0
  StaysLive d = (box : Attachment) → attachment_of d.code m.attachments ≡ Some box → attachment_of d.code n.attachments ≡ Some box

  rules_still : (k : Kept) (ds : List Attached) (others : List Db.Attached) → All StaysLive ds → EachRule (IsKept m IsDurable s db k) ds others → EachRule (IsKept n IsDurable s db k) ds others
  rules_still k [] [] still each = tt
  rules_still k (d ∷ ds) [] still each = absurd each
  rules_still k [] (a ∷ others) still each = absurd each
  rules_still k (d ∷ ds) (a ∷ others) still each = (
    record {
      box = each.0.box;
      live = All-head StaysLive d ds still each.0.box each.0.live;
      law = each.0.law;
      code = each.0.code;
      owner = each.0.owner;
      stands = each.0.stands;
      holds = each.0.holds;
    },
    rules_still k ds others (All-tail StaysLive d ds still) each.1,
  )

pub Keeps-still : (m n : Meanings) (root : ℕ) (s : Slots) (gone : List ℕ) (kept : List Kept) → StillLive m n kept → Keeps m IsDurable root s gone kept → Keeps n IsDurable root s gone kept
Keeps-still m n root s gone kept still keeps = record {
  tables = record {
    rising = keeps.tables.rising;
    catalogue = keeps.tables.catalogue;
    each = λ i d h. table_still m n s (db_of kept) (slice_index_or kept i d) (still.methods i d h) (keeps.tables.each i d h);
  };
  rules = λ i d h. let k : Kept = slice_index_or kept i d in
      rules_still m n s (db_of kept) k k.descriptor.attachments k.relation.attachments (still.attachments i d h) (keeps.rules i d h);
  joinless = keeps.joinless;
  own = keeps.own;
}

-- ---- the rules of all boxes, by their codes
rules_of : (code : ℕ) (others : List Attachment) → attach_rules code (map (λ x. x.rules) others) ≡ option_map (λ x. x.rules) (attachment_of code others)
rules_of code [] = refl
rules_of code (a ∷ others) =
    elim (a.rules.code == code)
    as (λ t. cond t (Some a.rules) (attach_rules code (map (λ x. x.rules) others)) ≡ option_map (λ x. x.rules) (cond t (Some a) (attachment_of code others)))
    [ true ↦ refl | false ↦ rules_of code others ]

pub rules_alike : (c : ℕ) (xs ys : List Attachment) → attachment_of c ys ≡ attachment_of c xs → attach_rules c (map (λ x. x.rules) ys) ≡ attach_rules c (map (λ x. x.rules) xs)
rules_alike c xs ys same = rules_of c ys ∙ ap (option_map (λ (x : Attachment). x.rules)) same ∙ sym (rules_of c xs)

abbrev pub SameRules : Meanings → Meanings → Type 0
SameRules m n = (c : ℕ) → attach_rules c (boxes_of n).attachments ≡ attach_rules c (boxes_of m).attachments

pub SameRules-same : (m n : Meanings) → AreSameBoxes m n → SameRules m n
SameRules-same m n same c = rules_alike c (m.attachments ++ m.spare_attachments) (n.attachments ++ n.spare_attachments) (same.attachments c)

-- ---- boxes that become live
module _ (code : ℕ) (m n : Meanings) (kept : List Kept) where
  same_methods : n.methods ≡ m.methods → (c : ℕ) (box : Method) → method_of c m.methods ≡ Some box → method_of c n.methods ≡ Some box
  same_methods same c box is = ap (method_of c) same ∙ is

  same_attachments : n.attachments ≡ m.attachments → (c : ℕ) (box : Attachment) → attachment_of c m.attachments ≡ Some box → attachment_of c n.attachments ≡ Some box
  same_attachments same c box is = ap (attachment_of c) same ∙ is

  pub StillLive-registers : (method : Bool) → Registers method code true m n → StillLive m n kept
  StillLive-registers true is = record {
    methods = λ i d h. found_still method_code code (slice_index_or kept i d).descriptor.method m.spare_methods m.methods n.spare_methods n.methods is.0;
    attachments = λ i d h. λ j a l. same_attachments is.1 (slice_index_or (slice_index_or kept i d).descriptor.attachments j a).code;
  }
  StillLive-registers false is = record {
    methods = λ i d h. same_methods is.1 (slice_index_or kept i d).descriptor.method;
    attachments = λ i d h. λ j a l.
        found_still attachment_code code (slice_index_or (slice_index_or kept i d).descriptor.attachments j a).code m.spare_attachments m.attachments n.spare_attachments n.attachments is.0;
  }

  -- ---- and boxes that become spare, which nothing uses
  pub StillLive-retires_method : Retires true code true m n → All (λ k. (k.descriptor.method == code) ≡ false) kept → StillLive m n kept
  StillLive-retires_method is others = record {
    methods = λ i d h. found_yet method_code code (slice_index_or kept i d).descriptor.method m.methods m.spare_methods n.methods n.spare_methods is.0 (others i d h);
    attachments = λ i d h. λ j a l. same_attachments is.1 (slice_index_or (slice_index_or kept i d).descriptor.attachments j a).code;
  }

  pub StillLive-retires_attachment : Retires false code true m n → All (λ k. All (λ d. (d.code == code) ≡ false) k.descriptor.attachments) kept → StillLive m n kept
  StillLive-retires_attachment is others = record {
    methods = λ i d h. same_methods is.1 (slice_index_or kept i d).descriptor.method;
    attachments = λ i d h. λ j a l.
        found_yet attachment_code code (slice_index_or (slice_index_or kept i d).descriptor.attachments j a).code m.attachments m.spare_attachments n.attachments n.spare_attachments is.0
        (others i d h j a l);
  }

-- ---- what nothing uses
module _ (code : ℕ) where
  abbrev is_kept_by : Name × Db.Relation → Bool
  is_kept_by e = e.1.method == code

  none_found : (o : Option (Name × Db.Relation)) → option_map {U = Name × Name} (λ e. (e.0, 45 ∷ [])) o ≡ None → o ≡ None
  none_found None is = refl
  none_found (Some e) is = absurd (cc)

  unkept : (kept : List Kept) → All (λ e. is_kept_by e ≡ false) (db_of kept) → All (λ k. (k.relation.method == code) ≡ false) kept
  unkept [] none = All-nil (λ k. (k.relation.method == code) ≡ false)
  unkept (k ∷ kept) none =
      All-cons (λ k. (k.relation.method == code) ≡ false) k kept (All-head (λ e. is_kept_by e ≡ false) (k.name, k.relation) (db_of kept) none)
      (unkept kept (All-tail (λ e. is_kept_by e ≡ false) (k.name, k.relation) (db_of kept) none))

  pub unused_method : (m : Meanings) (root : ℕ) (s : Slots) (gone : List ℕ) (kept : List Kept) → Keeps m IsDurable root s gone kept → first_kept_by code (db_of kept) ≡ None
      → All (λ k. (k.descriptor.method == code) ≡ false) kept
  unused_method m root s gone kept keeps none = λ i d h.
      ap (λ (c : ℕ). c == code) (keeps.tables.each i d h).is.method ∙ unkept kept (find-none is_kept_by (db_of kept) (none_found (find is_kept_by (db_of kept)) none)) i d h

  -- an attachment of the code
  abbrev has_that_code : Db.Attached → Bool
  has_that_code a = rule_code a.rule == code

  unattached : (kept : List Kept) → first_attached (λ name a. has_that_code a) (db_of kept) ≡ None → All (λ k. All (λ a. has_that_code a ≡ false) k.relation.attachments) kept
  unattached [] none = All-nil (λ k. All (λ a. has_that_code a ≡ false) k.relation.attachments)
  unattached (k ∷ kept) none = by (find has_that_code k.relation.attachments) refl (unattached kept)
    where
      by : (o : Option Db.Attached) → find has_that_code k.relation.attachments ≡ o
          → (first_attached (λ name a. has_that_code a) (db_of kept) ≡ None → All (λ k. All (λ a. has_that_code a ≡ false) k.relation.attachments) kept)
          → All (λ k. All (λ a. has_that_code a ≡ false) k.relation.attachments) (k ∷ kept)
      by None is rest =
          All-cons (λ k. All (λ a. has_that_code a ≡ false) k.relation.attachments) k kept (find-none has_that_code k.relation.attachments is)
          (rest (sym (ap (λ (o : Option Db.Attached). elim o as (λ c. Option (Name × Name)) [ None ↦ first_attached (λ name a. has_that_code a) (db_of kept) | Some a ↦ Some (k.name, a.name) ]) is) ∙ none))
      by (Some a) is rest =
          absurd (let e : Some (k.name, a.name) ≡ None =
          sym (ap (λ (o : Option Db.Attached). elim o as (λ c. Option (Name × Name)) [ None ↦ first_attached (λ name a. has_that_code a) (db_of kept) | Some a ↦ Some (k.name, a.name) ]) is) ∙ none in cc)

  described_unused : (ds : List Attached) (others : List Db.Attached) → map described ds ≡ map standing others → All (λ a. has_that_code a ≡ false) others → All (λ d. (d.code == code) ≡ false) ds
  described_unused ds others same none =
      back ds (All-same (λ (t : ℕ × Name × Rule). (t.0 == code) ≡ false) (map described ds) (map standing others) same (All-map (λ (t : ℕ × Name × Rule). (t.0 == code) ≡ false) standing others none))
    where
      back : (ds : List Attached) → All (λ (t : ℕ × Name × Rule). (t.0 == code) ≡ false) (map described ds) → All (λ d. (d.code == code) ≡ false) ds
      back [] none = All-nil (λ d. (d.code == code) ≡ false)
      back (d ∷ ds) none =
          All-cons (λ d. (d.code == code) ≡ false) d ds (All-head (λ (t : ℕ × Name × Rule). (t.0 == code) ≡ false) (described d) (map described ds) none)
          (back ds (All-tail (λ (t : ℕ × Name × Rule). (t.0 == code) ≡ false) (described d) (map described ds) none))

  pub unused_attachment : (m : Meanings) (root : ℕ) (s : Slots) (gone : List ℕ) (kept : List Kept) → Keeps m IsDurable root s gone kept
      → first_attached (λ name a. has_that_code a) (db_of kept) ≡ None → All (λ k. All (λ d. (d.code == code) ≡ false) k.descriptor.attachments) kept
  unused_attachment m root s gone kept keeps none = λ i d h.
      let k : Kept = slice_index_or kept i d in
      described_unused k.descriptor.attachments k.relation.attachments (keeps.tables.each i d h).is.attachments (unattached kept none i d h)
