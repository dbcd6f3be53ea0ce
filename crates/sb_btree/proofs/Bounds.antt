-- The bound of a second half, and the two pages of a split.
use Rattle.std.proofs.Common.{◌≡◌, ℕ, zero, suc, ◌+◌, ◌<◌, ◌≤◌, ◌⊎◌, Bool, true, false, cond, List, [], ◌∷◌, ◌++◌, length, Option, Some, None, inl, inr, refl, ap, sym, ◌∙◌, subst, arith, true≢false}
use Rattle.std.specs.Prelude.{nat_eq, slice_index, Result, Ok, Err, IfOk, IfErr}
use Rattle.std.specs.List.{AllByRecursion}
use Rattle.std.specs.FinMap.Entries.{find, put}
use Rattle.std.proofs.lemmas.Bool.Decides.{nat_tests}
use Rattle.std.proofs.lemmas.List.Sums.{sum_by-cons}
use Rattle.std.proofs.lemmas.Bool.{and_right, false_from_ne_true, eqb-true}
use Rattle.sb_bytes.specs.Field.{number_at}
use Rattle.sb_ctx.specs.View.{View, free_page}
use Rattle.sb_node.specs.Entries.{Entry, key_cmp, size_of, sizes}
use Rattle.sb_node.specs.Page.{Node, head_in, node_in, node_of, with_entries, with_head, empty_node}
use Rattle.sb_node.proofs.Edited.{node_of-form}
use Rattle.sb_btree.specs.Halves.{Halves}
use Rattle.sb_forms.specs.Tree.{IsSmall, IsBound}
use Rattle.sb_forms.specs.Read.{all_by, is_small, is_bound}
use Rattle.sb_btree.specs.Broken.{is_of_level, are_of_level, is_page}
use Rattle.sb_btree.specs.Inserts.{AreHalves, GivesBound, LacksBound, PutAt, StoresHalves}
use Rattle.sb_btree.specs.declared.insertion.Put.{Put}
use Rattle.sb_btree.specs.declared.insertion.Put.TheVariants.{Kept, Done, Split}
use Rattle.sb_btree.specs.declared.walk.Stop.{Stop}
use Rattle.sb_btree.specs.declared.walk.Stop.TheVariants as stop
use Rattle.sb_btree.proofs.Children.{all_map}
use Rattle.sb_btree.proofs.Halved.{put_small, parts_small}
use Rattle.sb_btree.proofs.Raised.{put_bounds, parts_bounds}
use Rattle.sb_btree.proofs.Reading.{all_says, small_says, bound_says}

-- the kind of a page is its first byte
pub kind_first : (b : List ℕ) → (node_in b).head.kind ≡ slice_index b 0
unfolding head_in
kind_first b = refl

-- ---- a second half without a bound is of a page that is amiss
bound_size : (es : List Entry) → AllByRecursion IsBound es → AllByRecursion (λ e. size_of e ≤ 610) es
bound_size es all = all_map IsBound (λ (e : Entry). size_of e ≤ 610) (λ e h. omega (arith, h.0, h.1)) es all

short_sizes : (es : List Entry) → length es ≤ 1 → AllByRecursion (λ e. size_of e ≤ 610) es → sizes es ≤ 610
short_sizes [] short all = omega arith
short_sizes (e ∷ []) short all = let s : sizes (e ∷ []) ≡ size_of e + 0 = sum_by-cons size_of e [] in let h = all.0 in omega (arith, s, h)
short_sizes (e ∷ x ∷ es) short all = absurd (omega (arith, short))

pub lacks_amiss : (l : ℕ) (n m : Node) (key value : List ℕ) (lesser : List Entry) → length key ≤ 602 → length key + length value ≤ 2032 → (0 < l → length value ≡ 4) → put key_cmp key value n.entries ≡ lesser ++ m.entries
    → ((most : ℕ) → AllByRecursion (λ e. size_of e ≤ most) (put key_cmp key value n.entries) → 4072 < sizes m.entries + 2036 + most) → LacksBound l m → are_of_level l n.entries ≡ false
lacks_amiss l n m key value lesser short both spelled parts wide lacks = false_from_ne_true (are_of_level l n.entries) (λ all. by (nat_eq l 0) refl all lacks)
  where
    some : (l : ℕ) → nat_eq l 0 ≡ false → 0 < l
    some l h = grind (arith, nat_tests)

    by : (t : Bool) → nat_eq l 0 ≡ t → all_by (cond t is_small is_bound) n.entries ≡ true → (all_by (cond t is_small is_bound) m.entries ≡ false) ⊎ ((0 < l) × (length m.entries ≤ 1)) → ⊥
    by true q all (inl fails) =
        let smalls = put_small key value n.entries (short, both) ((all_says is_small IsSmall small_says n.entries).0 all) in
        let right = (parts_small lesser m.entries (subst (AllByRecursion IsSmall) parts smalls)).1 in
        true≢false (sym ((all_says is_small IsSmall small_says m.entries).1 right) ∙ fails)
    by true q all (inr w) = let z = eqb-true l 0 q in omega (arith, z, w.0)
    by false q all (inl fails) =
        let bounds = put_bounds key value n.entries (spelled (some l q), short) ((all_says is_bound IsBound bound_says n.entries).0 all) in
        let right = (parts_bounds lesser m.entries (subst (AllByRecursion IsBound) parts bounds)).1 in
        true≢false (sym ((all_says is_bound IsBound bound_says m.entries).1 right) ∙ fails)
    by false q all (inr w) =
        let bounds = put_bounds key value n.entries (spelled (some l q), short) ((all_says is_bound IsBound bound_says n.entries).0 all) in
        let right = (parts_bounds lesser m.entries (subst (AllByRecursion IsBound) parts bounds)).1 in
        let few = short_sizes m.entries w.1 (bound_size m.entries right) in
        let many = wide 610 (bound_size (put key_cmp key value n.entries) bounds) in
        omega (arith, few, many)

pub lacks_page : (l : ℕ) (p₀ p₁ o₀ o₁ key value : List ℕ) → Halves p₀ p₁ o₀ o₁ key value → length key ≤ 602 → length key + length value ≤ 2032 → (0 < l → length value ≡ 4) → LacksBound l (node_in o₁) → is_page l (Some (node_in p₀)) ≡ false
lacks_page l p₀ p₁ o₀ o₁ key value h short both spelled lacks =
    let there : (node_in o₁).entries ≡ h.greater = ap (λ (m : Node). m.entries) h.moves.node_is in
    let wrong = lacks_amiss l (node_in p₀) (node_in o₁) key value h.lesser short both spelled (h.parts ∙ ap (λ es. h.lesser ++ es) (sym there))
    (subst (λ es. (most : ℕ) → AllByRecursion (λ e. size_of e ≤ most) (put key_cmp key value (node_in p₀).entries) → 4072 < sizes es + 2036 + most) (sym there) h.wide) lacks in
    and_right (is_of_level l (node_in p₀).head) (are_of_level l (node_in p₀).entries) wrong

-- ---- the second half with its bound
record Second (l : ℕ) (n : Node) (after : Option Node) (bound : List ℕ) (all lesser : List Entry) : Type 0 where
  other : Node
  is : after ≡ Some other
  kind_is : other.head.kind ≡ n.head.kind
  level_is : other.head.level ≡ n.head.level
  halves : AreHalves l bound all lesser other
  short : length bound ≤ 602

second : (l : ℕ) (n : Node) (after : Option Node) (bound : List ℕ) (all lesser : List Entry) → all ≡ lesser ++ n.entries → GivesBound l n after bound → Second l n after bound all lesser
second zero n after bound all lesser parts g = record { other = n; is = g.1; kind_is = refl; level_is = refl; halves = (parts, g.2, g.3, g.4); short = g.0 }
second (suc l) n after bound all lesser parts g = record {
  other = with_entries g.2 (with_head (record n.head { a = number_at 4 g.1 0 }) n);
  is = g.5;
  kind_is = refl;
  level_is = refl;
  halves = (g.1, parts ∙ ap (λ es. lesser ++ es) g.3, refl, g.4);
  short = g.0;
}

-- both pages are stored
pub halves_put : (old new : View) (l page : ℕ) (p₀ p₁ o₀ o₁ right key value bound : List ℕ) (outcome : Result Put Stop) → find key_cmp key (node_in p₀).entries ≡ None → Halves p₀ p₁ o₀ o₁ key value
    → node_in o₀ ≡ empty_node (node_in p₀).head.kind l → (node_in p₀).head.level ≡ l → GivesBound l (node_in o₁) (node_of right) bound
    → IfOk outcome (StoresHalves old new page p₁ right bound) → IfErr outcome (λ s. (s ≡ stop.NoMemory) ⊎ ((s ≡ stop.Fresh) × (free_page new ≡ None))) → PutAt false old new l page (Some (node_in p₀)) key value outcome
halves_put old new l page p₀ p₁ o₀ o₁ right key value bound (Ok Kept) none h empty level gives stored stops = absurd stored
halves_put old new l page p₀ p₁ o₀ o₁ right key value bound (Ok Done) none h empty level gives stored stops = absurd stored
halves_put old new l page p₀ p₁ o₀ o₁ right key value bound (Ok (Split b next)) none h empty level gives stored stops =
    let there : (node_in o₁).entries ≡ h.greater = ap (λ (m : Node). m.entries) h.moves.node_is in
    let want = put key_cmp key value (node_in p₀).entries in
    let s = second l (node_in o₁) (node_of right) bound want h.lesser (h.parts ∙ ap (λ es. h.lesser ++ es) (sym there)) gives in
    let front : (node_in o₁).head.kind ≡ (node_in p₀).head.kind = ap (λ (m : Node). m.head.kind) h.moves.node_is ∙ ap (λ (m : Node). m.head.kind) empty in
    let height : (node_in o₁).head.level ≡ (node_in p₀).head.level = ap (λ (m : Node). m.head.level) h.moves.node_is ∙ ap (λ (m : Node). m.head.level) empty ∙ sym level in (
      none,
      subst (λ (x : List ℕ). length x ≤ 602) (sym stored.0) s.short,
      record {
        left = p₁;
        right = right;
        lesser = h.lesser;
        other = s.other;
        free = stored.1;
        changed = stored.2;
        left_is = node_of-form p₁ h.stays.form ∙ ap Some h.stays.node_is;
        right_is = s.is;
        kind_is = s.kind_is ∙ front;
        level_is = s.level_is ∙ height;
        halves = subst (λ (x : List ℕ). AreHalves l x want h.lesser s.other) (sym stored.0) s.halves;
        some = h.some;
      },
    )
halves_put old new l page p₀ p₁ o₀ o₁ right key value bound (Err s) none h empty level gives stored stops = by s stops
  where
    by : (s : Stop) → (s ≡ stop.NoMemory) ⊎ ((s ≡ stop.Fresh) × (free_page new ≡ None)) → PutAt false old new l page (Some (node_in p₀)) key value (Err s)
    by (stop.Need x) (inl e) = absurd (cc)
    by (stop.Need x) (inr e) = let f = e.0 in absurd (cc)
    by stop.Fresh (inl e) = absurd (cc)
    by stop.Fresh (inr e) = (none, e.1)
    by (stop.Broken x) (inl e) = absurd (cc)
    by (stop.Broken x) (inr e) = let f = e.0 in absurd (cc)
    by stop.NoMemory h = tt
