-- What the relations of a catalogue name, as they are read one after the other.
use Rattle.std.proofs.Common.{◌≡◌, ℕ, ◌==◌, ◌&&◌, Bool, true, false, cond, T, List, [], ◌∷◌, ◌++◌, map, All, Option, Some, None, option_map, is_lt, Ordering, Less, Equal, Greater, append_assoc, append-nil, eq-eqb, refl, sym, ap, subst, ◌∙◌}
use Rattle.std.specs.List.{filter, flat_map}
use Rattle.std.specs.Ordering.{ordering_reverse}
use Rattle.std.specs.FinMap.Entries.{below_all, is_sorted}
use Rattle.std.proofs.lemmas.Bool.{or_left, or_right}
use Rattle.std.proofs.lemmas.Cmp.{nat_list_cmp_total, tied_itself}
use Rattle.std.proofs.lemmas.List.Elements.{All-cons, All-nil}
use Rattle.std.proofs.lemmas.List.Folds.{list_any-append}
use Rattle.std.proofs.lemmas.Option.{same_Some}
use Rattle.sb_value.specs.Order.{bytes_cmp}
use Rattle.sb_value.proofs.Truths.{T-parts, is_lt-less, T-less}
use Rattle.sb_relation.specs.Db.{Name}
use Rattle.sb_catalog.specs.declared.descriptor.Attached.{Attached}
use Rattle.sb_catalog.specs.declared.descriptor.Descriptor.{Descriptor}
use Rattle.sb_standing.specs.Tables.{Kept, db_of, first_above, is_above}
use Rattle.sb_session.specs.Opened.{kept_header}
use Rattle.sb_opening.specs.declared.codes.Named.{Named}
use Rattle.sb_opening.specs.Naming.{is_alike, is_named, named_attachment, named_by, named_in}

-- ---- relations behind a name
abbrev pub kept_above : Option Name → List Kept → List Kept
kept_above low kept = filter (λ k. is_above low k.name) kept

above-all : (kept : List Kept) → kept_above None kept ≡ kept
above-all [] = refl
above-all (k ∷ kept) = ap (λ (ks : List Kept). k ∷ ks) (above-all kept)

above-low : (low : Option Name) (name : Name) (kept : List Kept) → is_above low name ≡ true → T (below_all bytes_cmp name (db_of kept)) → kept_above low kept ≡ kept
above-low None name kept up below = above-all kept
above-low (Some low) name [] up below = refl
above-low (Some low) name (k ∷ kept) up below =
    let both = T-parts (is_lt (bytes_cmp name k.name)) (below_all bytes_cmp name (db_of kept)) below in
    let over = nat_list_cmp_total.trans low name k.name (is_lt-less (bytes_cmp low name) up) (T-less (bytes_cmp name k.name) both.0) in
    ap (λ (o : Ordering). cond (is_lt o) (k ∷ kept_above (Some low) kept) (kept_above (Some low) kept)) over
    ∙ ap (λ (ks : List Kept). k ∷ ks) (above-low (Some low) name kept up both.1)

above-behind : (name : Name) (kept : List Kept) → T (below_all bytes_cmp name (db_of kept)) → kept_above (Some name) kept ≡ kept
above-behind name [] below = refl
above-behind name (k ∷ kept) below =
    let both = T-parts (is_lt (bytes_cmp name k.name)) (below_all bytes_cmp name (db_of kept)) below in
    ap (λ (o : Ordering). cond (is_lt o) (k ∷ kept_above (Some name) kept) (kept_above (Some name) kept)) (T-less (bytes_cmp name k.name) both.0)
    ∙ ap (λ (ks : List Kept). k ∷ ks) (above-behind name kept both.1)

-- one that isn't behind the name falls away
above-not : (name : Name) (k : Kept) (kept : List Kept) (o : Ordering) → bytes_cmp name k.name ≡ o → is_lt o ≡ false → kept_above (Some name) (k ∷ kept) ≡ kept_above (Some name) kept
above-not name k kept o is lt = ap (λ (b : Bool). cond b (k ∷ kept_above (Some name) kept) (kept_above (Some name) kept)) (ap is_lt is ∙ lt)

-- a name below all is below the one that is found
below-found : (name : Name) (low : Option Name) (kept : List Kept) (k : Kept) → T (below_all bytes_cmp name (db_of kept)) → first_above low kept ≡ Some k → bytes_cmp name k.name ≡ Less
below-found name low [] k below is = absurd (cc)
below-found name low (x ∷ kept) k below is =
    let both = T-parts (is_lt (bytes_cmp name x.name)) (below_all bytes_cmp name (db_of kept)) below in
    by (is_above low x.name) is (T-less (bytes_cmp name x.name) both.0) (below-found name low kept k both.1)
  where
    by : (b : Bool) → cond b (Some x) (first_above low kept) ≡ Some k → bytes_cmp name x.name ≡ Less → (first_above low kept ≡ Some k → bytes_cmp name k.name ≡ Less) → bytes_cmp name k.name ≡ Less
    by true is first rest = subst (λ (y : Kept). bytes_cmp name y.name ≡ Less) (same_Some x k is) first
    by false is first rest = rest is

-- of relations in their order, those behind a name are the first one and those behind that
above-next : (low : Option Name) (kept : List Kept) (k : Kept) → T (is_sorted bytes_cmp (db_of kept)) → first_above low kept ≡ Some k → kept_above low kept ≡ k ∷ kept_above (Some k.name) kept
above-next low [] k rises is = absurd (cc)
above-next low (x ∷ kept) k rises is =
    let both = T-parts (below_all bytes_cmp x.name (db_of kept)) (is_sorted bytes_cmp (db_of kept)) rises in
    by (is_above low x.name) refl is both.0 (above-next low kept k both.1)
  where
    by : (b : Bool) → is_above low x.name ≡ b → cond b (Some x) (first_above low kept) ≡ Some k → T (below_all bytes_cmp x.name (db_of kept))
        → (first_above low kept ≡ Some k → kept_above low kept ≡ k ∷ kept_above (Some k.name) kept)
        → cond b (x ∷ kept_above low kept) (kept_above low kept) ≡ k ∷ kept_above (Some k.name) (x ∷ kept)
    by true up is below rest =
        subst (λ (y : Kept). x ∷ kept_above low kept ≡ y ∷ kept_above (Some y.name) (x ∷ kept)) (same_Some x k is)
        (ap (λ (ks : List Kept). x ∷ ks) (above-low low x.name kept up below ∙ sym (above-behind x.name kept below)
        ∙ sym (above-not x.name x kept Equal (tied_itself nat_list_cmp_total x.name) refl)))
    by false up is below rest =
        rest is
        ∙ ap (λ (ks : List Kept). k ∷ ks) (sym (above-not k.name x kept Greater (nat_list_cmp_total.antisymm k.name x.name ∙ ap ordering_reverse (below-found x.name low kept k below is)) refl))

above-none : (low : Option Name) (kept : List Kept) → first_above low kept ≡ None → kept_above low kept ≡ []
above-none low [] is = refl
above-none low (x ∷ kept) is = by (is_above low x.name) is (above-none low kept)
  where
    by : (b : Bool) → cond b (Some x) (first_above low kept) ≡ None → (first_above low kept ≡ None → kept_above low kept ≡ []) → cond b (x ∷ kept_above low kept) (kept_above low kept) ≡ []
    by true is rest = absurd (cc)
    by false is rest = rest is

-- ---- what was read of the descriptors
-- what each of these relations' descriptors has, in their order
abbrev all_of : {A : Type 0} → (Descriptor → List A) → List Kept → List A
all_of of kept = flat_map (λ k. of k.descriptor) kept

-- with that of the relations behind the last one this is all
pub record IsRead {A : Type 0} (of : Descriptor → List A) (kept : List Kept) (last : Option Name) (xs : List A) : Type 0 where
  pub rest : xs ++ flat_map (λ k. of k.descriptor) (kept_above last kept) ≡ flat_map (λ k. of k.descriptor) kept

module _ {A : Type 0} (of : Descriptor → List A) where
  pub IsRead-none : (kept : List Kept) (xs : List A) → xs ≡ [] → IsRead of kept None xs
  IsRead-none kept xs none = record { rest = ap (λ (ys : List A). ys ++ all_of of (kept_above None kept)) none ∙ ap (all_of of) (above-all kept) }

  pub IsRead-next : (kept : List Kept) (low : Option Name) (xs new : List A) (name : Name) (d : Descriptor) → T (is_sorted bytes_cmp (db_of kept))
      → Some (name, d) ≡ option_map kept_header (first_above low kept) → new ≡ xs ++ of d → IsRead of kept low xs → IsRead of kept (Some name) new
  IsRead-next kept low xs new name d rises found more before = by (first_above low kept) refl found
    where
      by : (o : Option Kept) → first_above low kept ≡ o → Some (name, d) ≡ option_map kept_header o → IsRead of kept (Some name) new
      by None at found = absurd (cc)
      by (Some k) at found =
          let same : (name, d) ≡ kept_header k = same_Some (name, d) (kept_header k) found in
          let next : kept_above low kept ≡ k ∷ kept_above (Some k.name) kept = above-next low kept k rises at in
          record {
            rest = ap (λ (ys : List A). ys ++ all_of of (kept_above (Some name) kept)) more
                ∙ append_assoc xs (of d) (all_of of (kept_above (Some name) kept))
                ∙ ap (λ (h : Name × Descriptor). xs ++ (of h.1 ++ all_of of (kept_above (Some h.0) kept))) same
                ∙ ap (λ (ks : List Kept). xs ++ all_of of ks) (sym next)
                ∙ before.rest;
          }

  pub IsRead-all : (kept : List Kept) (low : Option Name) (xs : List A) → None ≡ option_map kept_header (first_above low kept) → IsRead of kept low xs
      → xs ≡ flat_map (λ k. of k.descriptor) kept
  IsRead-all kept low xs found before = by (first_above low kept) refl found
    where
      by : (o : Option Kept) → first_above low kept ≡ o → None ≡ option_map kept_header o → xs ≡ all_of of kept
      by None at found = sym (append-nil xs) ∙ ap (λ (ks : List Kept). xs ++ all_of of ks) (sym (above-none low kept at)) ∙ before.rest
      by (Some k) at found = absurd (cc)

-- ---- what each relation names
abbrev pub AreNamed : List Named → Kept → Type 0
AreNamed named k = (is_named true k.descriptor.method named ≡ true) × All (λ (a : Attached). is_named false a.code named ≡ true) k.descriptor.attachments

attached-named : (ds : List Attached) (named : List Named) → ((code : ℕ) → is_named false code (map named_attachment ds) ≡ true → is_named false code named ≡ true)
    → All (λ (a : Attached). is_named false a.code named ≡ true) ds
attached-named [] named up = All-nil (λ (a : Attached). is_named false a.code named ≡ true)
attached-named (d ∷ ds) named up =
    All-cons (λ (a : Attached). is_named false a.code named ≡ true) d ds (up d.code (or_left (d.code == d.code) (is_named false d.code (map named_attachment ds)) (eq-eqb d.code d.code refl)))
    (attached-named ds named (λ code is. up code (or_right (d.code == code) (is_named false code (map named_attachment ds)) is)))

relations-named : (kept : List Kept) (named : List Named) → ((method : Bool) (code : ℕ) → is_named method code (named_in kept) ≡ true → is_named method code named ≡ true) → All (AreNamed named) kept
relations-named [] named up = All-nil (AreNamed named)
relations-named (k ∷ kept) named up =
    All-cons (AreNamed named) k kept (
      up true k.descriptor.method (or_left (k.descriptor.method == k.descriptor.method) (is_named true k.descriptor.method (map named_attachment k.descriptor.attachments ++ named_in kept))
          (eq-eqb k.descriptor.method k.descriptor.method refl)),
      attached-named k.descriptor.attachments named (λ code is. up false code (front code is)),
    )
    (relations-named kept named (λ method code is. up method code (behind method code is)))
  where
    front : (code : ℕ) → is_named false code (map named_attachment k.descriptor.attachments) ≡ true → is_named false code (named_by k.descriptor ++ named_in kept) ≡ true
    front code is =
        list_any-append (λ (n : Named). is_alike n.method false && n.code == code) (map named_attachment k.descriptor.attachments) (named_in kept)
        ∙ or_left (is_named false code (map named_attachment k.descriptor.attachments)) (is_named false code (named_in kept)) is

    behind : (method : Bool) (code : ℕ) → is_named method code (named_in kept) ≡ true → is_named method code (named_by k.descriptor ++ named_in kept) ≡ true
    behind method code is =
        list_any-append (λ (n : Named). is_alike n.method method && n.code == code) (named_by k.descriptor) (named_in kept)
        ∙ or_right (is_named method code (named_by k.descriptor)) (is_named method code (named_in kept)) is

pub all-named : (kept : List Kept) → All (AreNamed (named_in kept)) kept
all-named kept = relations-named kept (named_in kept) (λ method code is. is)
