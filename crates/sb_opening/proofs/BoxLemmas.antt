-- Spare boxes that become live, one after the other.
use Rattle.std.proofs.Common.{◌≡◌, ℕ, ◌==◌, ◌&&◌, ◌||◌, ◌+◌, ◌<◌, Bool, true, false, not, cond, List, [], ◌∷◌, ◌++◌, filter, length, take, drop, slice_index_or, Some, None, option_map, eqb-true, eq-eqb, refl, sym, ap, ◌∙◌}
use Rattle.std.specs.List.{find, list_any}
use Rattle.std.specs.Option.{option_or}
use Rattle.std.proofs.lemmas.Bool.{false≢true, true≢false}
use Rattle.std.proofs.lemmas.List.{drop_more, take-append-drop, take_more}
use Rattle.std.proofs.lemmas.List.Folds.{find-append, list_any-append}
use Rattle.std.proofs.Math.Bool.{or-false}
use Rattle.sb_plain.specs.State.{Codes, codes_of, with_code, without_code}
use Rattle.sb_registry.specs.Boxes.{Meanings, repeated_in}
use Rattle.sb_vectors.specs.Vectors.{Registers, has_box, live_codes, spare_codes}
use Rattle.sb_vectors.proofs.BoxLemmas.{has_box-codes}
use Rattle.sb_vectors.proofs.LawLemmas.{registering_moves, registering_stays}
use Rattle.sb_session.proofs.Moves.{stood_spare}
use Rattle.sb_session.proofs.SameBoxes.{registered-same, same-boxes, same-then}
use Rattle.sb_opening.specs.declared.codes.Named.{Named}
use Rattle.sb_opening.specs.Naming.{HasLive, first_absent, is_alike, is_named, is_there}

-- ---- codes with one more, and without one
-- the code is this one, of this kind
abbrev is_it : Bool → ℕ → Bool → ℕ → Bool
is_it method code kind c = is_alike method kind && code == c

and-true : (b : Bool) → b ≡ (b && true)
and-true true = refl
and-true false = refl

left_out : (t b h : Bool) → t ≡ h → (b && not h) ≡ ((t || b) && not h)
left_out true true true is = refl
left_out true false true is = refl
left_out true b false is = absurd (true≢false is)
left_out false b h is = refl

left_in : (t b h : Bool) → (t ≡ true → h ≡ false) → (t || (b && not h)) ≡ ((t || b) && not h)
left_in true b true out = absurd (true≢false (out refl))
left_in true b false out = refl
left_in false b h out = refl

any-with : (method kind : Bool) (code c : ℕ) (k : Codes)
    → list_any (λ x. x == c) (codes_of kind (with_code method code k)) ≡ (list_any (λ x. x == c) (codes_of kind k) || is_it method code kind c)
any-with true true code c k =
    list_any-append (λ (x : ℕ). x == c) k.methods (code ∷ []) ∙ ap (λ (b : Bool). list_any (λ (x : ℕ). x == c) k.methods || b) (or-false (code == c))
any-with true false code c k = sym (or-false (list_any (λ (x : ℕ). x == c) k.attachments))
any-with false true code c k = sym (or-false (list_any (λ (x : ℕ). x == c) k.methods))
any-with false false code c k =
    list_any-append (λ (x : ℕ). x == c) k.attachments (code ∷ []) ∙ ap (λ (b : Bool). list_any (λ (x : ℕ). x == c) k.attachments || b) (or-false (code == c))

-- a code that is another one than the first isn't that of the second
other_out : (code c x : ℕ) → (x == code) ≡ false → (x == c) ≡ true → (code == c) ≡ false
other_out code c x other is = by (code == c) refl
  where
    by : (h : Bool) → (code == c) ≡ h → (code == c) ≡ false
    by false at = at
    by true at = absurd (false≢true (sym other ∙ eq-eqb x code (eqb-true x c is ∙ sym (eqb-true code c at))))

filtered-any : (code c : ℕ) (xs : List ℕ) → list_any (λ x. x == c) (filter (λ x. not (x == code)) xs) ≡ (list_any (λ x. x == c) xs && not (code == c))
filtered-any code c [] = refl
filtered-any code c (x ∷ xs) = by (x == code) refl (filtered-any code c xs)
  where
    by : (t : Bool) → (x == code) ≡ t → list_any (λ y. y == c) (filter (λ y. not (y == code)) xs) ≡ (list_any (λ y. y == c) xs && not (code == c))
        → list_any (λ y. y == c) (cond (not t) (x ∷ filter (λ y. not (y == code)) xs) (filter (λ y. not (y == code)) xs)) ≡ (list_any (λ y. y == c) (x ∷ xs) && not (code == c))
    by true same rest = rest ∙ left_out (x == c) (list_any (λ y. y == c) xs) (code == c) (ap (λ (n : ℕ). n == c) (eqb-true x code same))
    by false other rest = ap (λ (b : Bool). (x == c) || b) rest ∙ left_in (x == c) (list_any (λ y. y == c) xs) (code == c) (other_out code c x other)

any-without : (method kind : Bool) (code c : ℕ) (k : Codes)
    → list_any (λ x. x == c) (codes_of kind (without_code method code k)) ≡ (list_any (λ x. x == c) (codes_of kind k) && not (is_it method code kind c))
any-without true true code c k = filtered-any code c k.methods
any-without true false code c k = and-true (list_any (λ (x : ℕ). x == c) k.attachments)
any-without false true code c k = and-true (list_any (λ (x : ℕ). x == c) k.methods)
any-without false false code c k = filtered-any code c k.attachments

-- ---- boxes that are there
live-listed : (m : Meanings) (kind : Bool) (c : ℕ) → has_box m true kind c ≡ list_any (λ x. x == c) (codes_of kind (live_codes m))
live-listed m true c = has_box-codes m true true c
live-listed m false c = has_box-codes m true false c

spare-listed : (m : Meanings) (kind : Bool) (c : ℕ) → has_box m false kind c ≡ list_any (λ x. x == c) (codes_of kind (spare_codes m))
spare-listed m true c = has_box-codes m false true c
spare-listed m false c = has_box-codes m false false c

module _ (method : Bool) (code : ℕ) (m n : Meanings) (unique : repeated_in m ≡ None) (is : Registers method code true m n) where
  live-more : (kind : Bool) (c : ℕ) → has_box n true kind c ≡ (has_box m true kind c || is_it method code kind c)
  live-more kind c =
      live-listed n kind c
      ∙ ap (λ (k : Codes). list_any (λ (x : ℕ). x == c) (codes_of kind k)) (registering_moves method code m n unique is).0
      ∙ any-with method kind code c (live_codes m)
      ∙ ap (λ (b : Bool). b || is_it method code kind c) (sym (live-listed m kind c))

  spare-less : (kind : Bool) (c : ℕ) → has_box n false kind c ≡ (has_box m false kind c && not (is_it method code kind c))
  spare-less kind c =
      spare-listed n kind c
      ∙ ap (λ (k : Codes). list_any (λ (x : ℕ). x == c) (codes_of kind k)) (registering_moves method code m n unique is).1
      ∙ any-without method kind code c (spare_codes m)
      ∙ ap (λ (b : Bool). b && not (is_it method code kind c)) (sym (spare-listed m kind c))

at_it : (m : Meanings) (method kind : Bool) (code c : ℕ) → is_it method code kind c ≡ true → has_box m false kind c ≡ has_box m false method code
at_it m true true code c is = ap (λ (n : ℕ). has_box m false true n) (sym (eqb-true code c is))
at_it m true false code c is = absurd (false≢true is)
at_it m false true code c is = absurd (false≢true is)
at_it m false false code c is = ap (λ (n : ℕ). has_box m false false n) (sym (eqb-true code c is))

-- ---- tests, by cases
live_with : (l s w h : Bool) → (h ≡ true → (s && not w) ≡ true) → ((l || (s && w)) || h) ≡ (l || (s && (w || h)))
live_with true s w h there = refl
live_with false true true h there = refl
live_with false true false h there = refl
live_with false false w true there = absurd (false≢true (there refl))
live_with false false w false there = refl

spare_with : (s w h : Bool) → ((s && not w) && not h) ≡ (s && not (w || h))
spare_with true true h = refl
spare_with true false h = refl
spare_with false w h = refl

live_still : (l s w h : Bool) → (h ≡ true → (s && not w) ≡ false) → (l || (s && w)) ≡ (l || (s && (w || h)))
live_still true s w h none = refl
live_still false true true h none = refl
live_still false true false true none = absurd (true≢false (none refl))
live_still false true false false none = refl
live_still false false w h none = refl

spare_still : (s w h : Bool) → (h ≡ true → (s && not w) ≡ false) → (s && not w) ≡ (s && not (w || h))
spare_still true true h none = refl
spare_still true false true none = absurd (true≢false (none refl))
spare_still true false false none = refl
spare_still false w h none = refl

-- ---- codes that became live
none_live : (l s : Bool) → l ≡ (l || (s && false))
none_live true s = refl
none_live false true = refl
none_live false false = refl

pub HasLive-none : (m : Meanings) → repeated_in m ≡ None → HasLive m [] m
HasLive-none m unique = record {
  live = λ method code. none_live (has_box m true method code) (has_box m false method code);
  spare = λ method code. and-true (has_box m false method code);
  same = same-boxes m;
  unique = unique;
}

named-more : (kind : Bool) (c : ℕ) (named : List Named) (n : Named) → is_named kind c (named ++ n ∷ []) ≡ (is_named kind c named || is_it n.method n.code kind c)
named-more kind c named n =
    list_any-append (λ (x : Named). is_alike x.method kind && x.code == c) named (n ∷ []) ∙ ap (λ (b : Bool). is_named kind c named || b) (or-false (is_it n.method n.code kind c))

module _ (old now new : Meanings) (named : List Named) (n : Named) (has : HasLive old named now) (unique : repeated_in new ≡ None) where
  abbrev l : Bool → ℕ → Bool
  l kind c = has_box old true kind c

  abbrev s : Bool → ℕ → Bool
  s kind c = has_box old false kind c

  abbrev w : Bool → ℕ → Bool
  w kind c = is_named kind c named

  abbrev h : Bool → ℕ → Bool
  h kind c = is_it n.method n.code kind c

  came : Registers n.method n.code true now new → HasLive old (named ++ n ∷ []) new
  came is = record {
    live = λ kind c.
        live-more n.method n.code now new has.unique is kind c
        ∙ ap (λ (b : Bool). b || h kind c) (has.live kind c)
        ∙ live_with (l kind c) (s kind c) (w kind c) (h kind c) (λ at. sym (has.spare kind c) ∙ at_it now n.method kind n.code c at ∙ stood_spare now new n.method n.code is)
        ∙ ap (λ (b : Bool). l kind c || (s kind c && b)) (sym (named-more kind c named n));
    spare = λ kind c.
        spare-less n.method n.code now new has.unique is kind c
        ∙ ap (λ (b : Bool). b && not (h kind c)) (has.spare kind c)
        ∙ spare_with (s kind c) (w kind c) (h kind c)
        ∙ ap (λ (b : Bool). s kind c && not b) (sym (named-more kind c named n));
    same = same-then old now new has.same (registered-same n.method true n.code now new has.unique unique is);
    unique = unique;
  }

  stayed : Registers n.method n.code false now new → HasLive old (named ++ n ∷ []) new
  stayed is =
      let law = registering_stays n.method n.code now new is in
      let none = λ (kind : Bool) (c : ℕ) (at : h kind c ≡ true). sym (has.spare kind c) ∙ at_it now n.method kind n.code c at ∙ law.0 in
      record {
        live = λ kind c.
            ap (λ (m : Meanings). has_box m true kind c) law.1 ∙ has.live kind c
            ∙ live_still (l kind c) (s kind c) (w kind c) (h kind c) (none kind c)
            ∙ ap (λ (b : Bool). l kind c || (s kind c && b)) (sym (named-more kind c named n));
        spare = λ kind c.
            ap (λ (m : Meanings). has_box m false kind c) law.1 ∙ has.spare kind c
            ∙ spare_still (s kind c) (w kind c) (h kind c) (none kind c)
            ∙ ap (λ (b : Bool). s kind c && not b) (sym (named-more kind c named n));
        same = same-then old now new has.same (registered-same n.method false n.code now new has.unique unique is);
        unique = unique;
      }

  pub HasLive-next : (moved : Bool) → Registers n.method n.code moved now new → HasLive old (named ++ n ∷ []) new
  HasLive-next true is = came is
  HasLive-next false is = stayed is

-- ---- codes that no box has
module _ (m : Meanings) (named : List Named) (i : ℕ) (d : Named) (less : i < length named) (none : find (λ n. not (is_there m n)) (take i named) ≡ None) where
  abbrev is_absent : Named → Bool
  is_absent n = not (is_there m n)

  abbrev this : Named
  this = slice_index_or named i d

  pub none-more : is_absent this ≡ false → find (λ n. not (is_there m n)) (take (i + 1) named) ≡ None
  none-more is =
      ap (find is_absent) (take_more named i d less) ∙ find-append is_absent (take i named) (this ∷ [])
      ∙ (λ j. option_or (none j) (cond (is j) (Some this) None))

  pub first-found : is_absent this ≡ true → Some this.code ≡ first_absent m named
  first-found is =
      let split : named ≡ take i named ++ this ∷ drop (i + 1) named = sym (take-append-drop i named) ∙ ap (λ (ns : List Named). take i named ++ ns) (drop_more named i d less) in
      sym (ap (option_map (λ (n : Named). n.code))
      (ap (find is_absent) split ∙ find-append is_absent (take i named) (this ∷ drop (i + 1) named) ∙ (λ j. option_or (none j) (cond (is j) (Some this) (find is_absent (drop (i + 1) named))))))
