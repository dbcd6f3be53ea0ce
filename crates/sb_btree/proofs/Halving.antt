-- The entries of a page in two halves, with an entry more in one of them.
use Rattle.std.proofs.Common.{◌≡◌, ℕ, zero, suc, ◌+◌, ◌-◌, ◌<◌, ◌≤◌, Bool, true, false, cond, List, [], ◌∷◌, ◌++◌, length, take, drop, Some, None, refl, ap, sym, ◌∙◌, subst, arith, T, length-drop}
use Rattle.std.specs.Prelude.{nat_eq, Ok, Err, is_some}
use Rattle.std.specs.List.{AllByRecursion}
use Rattle.std.specs.Ordering.{is_eq}
use Rattle.std.specs.FinMap.Entries.{find, put, by_order, is_sorted, below_all}
use Rattle.std.specs.declared.cmp.Ordering.TheVariants.{Less, Equal, Greater}
use Rattle.std.proofs.lemmas.Bool.Decides.{nat_tests}
use Rattle.std.proofs.lemmas.List.{take-append-drop}
use Rattle.std.proofs.lemmas.List.Sums.{sum_by-cons, sum_by-append}
use Rattle.std.proofs.lemmas.Bool.{eqb-true, true_from_ne_false}
use Rattle.sb_value.proofs.Truths.{ok_err}
use Rattle.sb_node.specs.Entries.{Entry, key_cmp, size_of, sizes, lesser, place_of}
use Rattle.sb_node.specs.Page.{Node, Becomes, has_form, node_in, with_entries}
use Rattle.sb_node.proofs.Placed.{place_from, scanned, err_within}
use Rattle.sb_node.proofs.Runs.{form_room}
use Rattle.sb_node.proofs.Sizes.{first, second, T_to, T_from, is_less, below_more, used_is, head_counts}
use Rattle.sb_btree.specs.Halves.{halfway, Halves}
use Rattle.sb_btree.proofs.Order.{AllLess, AllMore}
use Rattle.sb_btree.proofs.Putting.{put_less, put_more, put_some}

sizes_take : (n : ℕ) (e : Entry) (es : List Entry) → sizes (take (suc n) (e ∷ es)) ≡ size_of e + sizes (take n es)
sizes_take n e es = sum_by-cons size_of e (take n es)

pub halfway_within : (left : ℕ) (es : List Entry) → halfway left es ≤ length es
halfway_within left [] = omega arith
halfway_within left (e ∷ es) =
    let rest = halfway_within (left - size_of e) es in
    elim (nat_eq left 0) as (λ b. cond b 0 (suc (halfway (left - size_of e) es)) ≤ length (e ∷ es)) [ true ↦ omega arith | false ↦ omega (arith, rest) ]

-- they take as many bytes
pub halfway_low : (left : ℕ) (es : List Entry) → left ≤ sizes es → left ≤ sizes (take (halfway left es) es)
halfway_low left [] h = h
halfway_low left (e ∷ es) h =
    let all : sizes (e ∷ es) ≡ size_of e + sizes es = sum_by-cons size_of e es in
    let rest = halfway_low (left - size_of e) es (omega (arith, all, h)) in
    elim (nat_eq left 0) as (λ b. nat_eq left 0 ≡ b → left ≤ sizes (take (cond b 0 (suc (halfway (left - size_of e) es))) (e ∷ es))) [
      | true ↦ λ q. let none = eqb-true left 0 q in omega (arith, none)
      | false ↦ λ q. let more = sizes_take (halfway (left - size_of e) es) e es in omega (arith, rest, more)
    ] refl

-- and without the last one of them they take fewer
pub halfway_high : (left : ℕ) (es : List Entry) (n : ℕ) → halfway left es ≡ suc n → sizes (take n es) < left
halfway_high left [] n e = absurd (omega (arith, e))
halfway_high left (x ∷ es) n e =
    elim (nat_eq left 0) as (λ b. nat_eq left 0 ≡ b → cond b 0 (suc (halfway (left - size_of x) es)) ≡ suc n → sizes (take n (x ∷ es)) < left) [
      | true ↦ λ q f. absurd (omega (arith, f))
      | false ↦ λ q f. by n (same_suc (halfway (left - size_of x) es) n f) (some left q) (λ m is. halfway_high (left - size_of x) es m is)
    ] refl e
  where
    some : (n : ℕ) → nat_eq n 0 ≡ false → 0 < n
    some n q = grind (arith, nat_tests)

    same_suc : (a b : ℕ) → suc a ≡ suc b → a ≡ b
    same_suc a b q = omega arith

    by : (n : ℕ) → halfway (left - size_of x) es ≡ n → 0 < left → ((m : ℕ) → halfway (left - size_of x) es ≡ suc m → sizes (take m es) < left - size_of x) → sizes (take n (x ∷ es)) < left
    by zero is less below = less
    by (suc m) is less below = let rest = below m is in let more = sizes_take m x es in omega (arith, rest, more)

pub sizes_halves : (n : ℕ) (es : List Entry) → sizes (take n es) + sizes (drop n es) ≡ sizes es
sizes_halves n es = sym (sum_by-append size_of (take n es) (drop n es)) ∙ ap sizes (take-append-drop n es)

-- ---- entries before a key's place are less, and those behind it are more
before_place : (key : List ℕ) (i : ℕ) (es : List Entry) (j n : ℕ) → place_from key i es ≡ Err (i + j) → n ≤ j → AllLess key (take n es)
before_place key i es j zero place h = tt
before_place key i [] j (suc n) place h = let s : i ≡ i + j = cc in absurd (omega (arith, s))
before_place key i (x ∷ es) j (suc n) place h =
    elim (key_cmp key x.0) as (λ o. key_cmp key x.0 ≡ o → by_order o (Err i) (Ok i) (place_from key (i + 1) es) ≡ Err (i + j) → AllLess key (take (suc n) (x ∷ es))) [
      | Less ↦ λ is q. let s : i ≡ i + j = cc in absurd (omega (arith, s))
      | Equal ↦ λ is q. absurd (cc)
      | Greater ↦ λ is q. let s : i + j ≡ i + 1 + (j - 1) = omega arith in (is, before_place key (i + 1) es (j - 1) n (q ∙ ap Err s) (omega arith))
    ] refl place

all_more : (key : List ℕ) (es : List Entry) → T (below_all key_cmp key es) → AllMore key es
all_more key [] h = tt
all_more key (e ∷ es) h = (is_less (key_cmp key e.0) (T_to _ (first _ _ h)), all_more key es (second _ _ h))

drop_more : (key : List ℕ) (n : ℕ) (es : List Entry) → AllMore key es → AllMore key (drop n es)
drop_more key zero es h = h
drop_more key (suc n) [] h = tt
drop_more key (suc n) (e ∷ es) h = drop_more key n es h.1

behind_place : (key : List ℕ) (i : ℕ) (es : List Entry) (j n : ℕ) → T (is_sorted key_cmp es) → place_from key i es ≡ Err (i + j) → j ≤ n → AllMore key (drop n es)
behind_place key i [] j zero sorted place h = tt
behind_place key i [] j (suc n) sorted place h = tt
behind_place key i (x ∷ es) j n sorted place h =
    elim (key_cmp key x.0) as (λ o. key_cmp key x.0 ≡ o → by_order o (Err i) (Ok i) (place_from key (i + 1) es) ≡ Err (i + j) → AllMore key (drop n (x ∷ es))) [
      | Less ↦ λ is q. drop_more key n (x ∷ es) (is, all_more key es (below_more key x.0 es is (first _ _ sorted)))
      | Equal ↦ λ is q. absurd (cc)
      | Greater ↦ λ is q. by n j h (λ m f. let s : i + j ≡ i + 1 + (j - 1) = omega (arith, one q) in behind_place key (i + 1) es (j - 1) m (second _ _ sorted) (q ∙ ap Err s) f) (one q)
    ] refl place
  where
    one : place_from key (i + 1) es ≡ Err (i + j) → 0 < j
    one q = let w = (err_within key (i + 1) es (i + j) q).0 in omega (arith, w)

    by : (n j : ℕ) → j ≤ n → ((m : ℕ) → j - 1 ≤ m → AllMore key (drop m es)) → 0 < j → AllMore key (drop n (x ∷ es))
    by zero j h f some = absurd (omega arith)
    by (suc m) j h f some = f m (omega arith)

-- the entry goes to the greater half where its place is behind the lesser one
pub put_greater : (key value : List ℕ) (es : List Entry) (i n : ℕ) → place_from key 0 es ≡ Err i → n ≤ i → put key_cmp key value es ≡ take n es ++ put key_cmp key value (drop n es)
put_greater key value es i n place h =
    let s : i ≡ 0 + i = omega arith in
    ap (put key_cmp key value) (sym (take-append-drop n es)) ∙ put_less key value (take n es) (drop n es) (before_place key 0 es i n (place ∙ ap Err s) h)

-- else to the lesser one
pub put_lesser : (key value : List ℕ) (es : List Entry) (i n : ℕ) → T (is_sorted key_cmp es) → place_from key 0 es ≡ Err i → i ≤ n → put key_cmp key value es ≡ put key_cmp key value (take n es) ++ drop n es
put_lesser key value es i n sorted place h =
    let s : i ≡ 0 + i = omega arith in
    ap (put key_cmp key value) (sym (take-append-drop n es)) ∙ put_more key value (take n es) (drop n es) (behind_place key 0 es i n sorted (place ∙ ap Err s) h)

-- ---- keys that aren't there
pub find-drop : (key : List ℕ) (n : ℕ) (es : List Entry) → find key_cmp key es ≡ None → find key_cmp key (drop n es) ≡ None
find-drop key zero es none = none
find-drop key (suc n) [] none = refl
find-drop key (suc n) (e ∷ es) none = find-drop key n es (rest (is_eq (key_cmp key e.0)) none)
  where
    rest : (b : Bool) → cond b (Some e.1) (find key_cmp key es) ≡ None → find key_cmp key es ≡ None
    rest true q = absurd (cc)
    rest false q = q

pub find-take : (key : List ℕ) (n : ℕ) (es : List Entry) → find key_cmp key es ≡ None → find key_cmp key (take n es) ≡ None
find-take key zero es none = refl
find-take key (suc n) [] none = refl
find-take key (suc n) (e ∷ es) none = by (is_eq (key_cmp key e.0)) none (λ q. find-take key n es q)
  where
    by : (b : Bool) → cond b (Some e.1) (find key_cmp key es) ≡ None → (find key_cmp key es ≡ None → find key_cmp key (take n es) ≡ None) → cond b (Some e.1) (find key_cmp key (take n es)) ≡ None
    by true q f = absurd (cc)
    by false q f = f q

pub place-none : (key : List ℕ) (es : List Entry) → find key_cmp key es ≡ None → place_of key es ≡ Err (lesser key es)
place-none key es none = ap (λ o. cond (is_some o) (Ok (lesser key es)) (Err (lesser key es))) none

pub not_there : (key : List ℕ) (es : List Entry) (i : ℕ) → find key_cmp key es ≡ None → place_of key es ≡ Ok i → ⊥
not_there key es i none is = ok_err i (lesser key es) (sym is ∙ place-none key es none)

-- ---- pages
sizes-put : (key value : List ℕ) (es : List Entry) → find key_cmp key es ≡ None → sizes (put key_cmp key value es) ≡ size_of (key, value) + sizes es
sizes-put key value [] none = sum_by-cons size_of (key, value) []
sizes-put key value (e ∷ es) none =
    elim (key_cmp key e.0) as (λ o. cond (is_eq o) (Some e.1) (find key_cmp key es) ≡ None → sizes (by_order o ((key, value) ∷ e ∷ es) ((e.0, value) ∷ es) (e ∷ put key_cmp key value es)) ≡ size_of (key, value) + sizes (e ∷ es)) [
      | Less ↦ λ q. sum_by-cons size_of (key, value) (e ∷ es)
      | Equal ↦ λ q. absurd (cc)
      | Greater ↦ λ q.
          let rest = sizes-put key value es q in
          let a : sizes (e ∷ put key_cmp key value es) ≡ size_of e + sizes (put key_cmp key value es) = sum_by-cons size_of e (put key_cmp key value es) in
          let b : sizes (e ∷ es) ≡ size_of e + sizes es = sum_by-cons size_of e es in
          omega (arith, rest, a, b)
    ] none

-- what is put into the second of two writes of a page
pub becomes_put : (b c d : List ℕ) (es : List Entry) (n : Node) (key value : List ℕ) → Becomes b c (with_entries es n) → Becomes c d (with_entries (put key_cmp key value (node_in c).entries) (node_in c)) → Becomes b d (with_entries (put key_cmp key value es) n)
becomes_put b c d es n key value x y = record {
  form = y.form;
  node_is = y.node_is ∙ ap (λ (m : Node). with_entries (put key_cmp key value m.entries) m) x.node_is;
  spare_kept = y.spare_kept ∙ x.spare_kept;
}

all_front : (most : ℕ) (n : ℕ) (es : List Entry) → AllByRecursion (λ e. size_of e ≤ most) es → sizes (take (suc n) es) ≤ sizes (take n es) + most
all_front most n [] all = omega arith
all_front most zero (e ∷ es) all = let a : sizes (e ∷ []) ≡ size_of e + 0 = sum_by-cons size_of e [] in let h = all.0 in omega (arith, a, h)
all_front most (suc n) (e ∷ es) all =
    let rest = all_front most n es all.1 in
    let a = sizes_take (suc n) e es in
    let b = sizes_take n e es in
    omega (arith, rest, a, b)

some_sized : (es : List Entry) → 0 < sizes es → 0 < length es
some_sized [] h = absurd (omega (arith, h))
some_sized (e ∷ es) h = omega arith

-- what is so of all entries with a new one is so of that and of the others
all_put : (IsSo : Entry → Type 0) (key value : List ℕ) (es : List Entry) → find key_cmp key es ≡ None → AllByRecursion IsSo (put key_cmp key value es) → IsSo (key, value) × AllByRecursion IsSo es
all_put IsSo key value [] none all = (all.0, tt)
all_put IsSo key value (e ∷ es) none all =
    elim (key_cmp key e.0) as (λ o. cond (is_eq o) (Some e.1) (find key_cmp key es) ≡ None → AllByRecursion IsSo (by_order o ((key, value) ∷ e ∷ es) ((e.0, value) ∷ es) (e ∷ put key_cmp key value es)) → IsSo (key, value) × AllByRecursion IsSo (e ∷ es)) [
      | Less ↦ λ q h. (h.0, h.1)
      | Equal ↦ λ q h. absurd (cc)
      | Greater ↦ λ q h. let rest = all_put IsSo key value es q h.1 in (rest.0, (h.0, rest.1))
    ] none all

used_of : (b c : List ℕ) (es : List Entry) (n : Node) → has_form c ≡ true → Becomes b c (with_entries es n) → (node_in c).head.used ≡ sizes es
used_of b c es n form x = (head_counts c form).used ∙ ap (λ (m : Node). sizes m.entries) x.node_is

-- a page that is split, and the result of the put into one of both
pub record Cuts (p₀ p₁ o₀ o₁ : List ℕ) (at : ℕ) : Type 0 where
  pub form : has_form p₀ ≡ true
  pub front : Becomes p₀ p₁ (with_entries (take at (node_in p₀).entries) (node_in p₀))
  pub tail : Becomes o₀ o₁ (with_entries (drop at (node_in p₀).entries) (node_in o₀))

-- the entry isn't in the page, which has no room for it, and it takes at most half a page
pub record Presses (p : List ℕ) (key value : List ℕ) (i : ℕ) : Type 0 where
  pub place : place_of key (node_in p).entries ≡ Err i
  pub none : find key_cmp key (node_in p).entries ≡ None
  pub full : 4072 < (node_in p).head.used + size_of (key, value)
  pub small : size_of (key, value) ≤ 2036

full_sizes : (p key value : List ℕ) (i : ℕ) → has_form p ≡ true → Presses p key value i → (4072 < sizes (node_in p).entries + size_of (key, value)) × (sizes (node_in p).entries ≤ 4072)
full_sizes p key value i form press =
    let used = (head_counts p form).used in
    let room = form_room p form in
    let is = used_is p form in
    (omega (arith, press.full, used), omega (arith, room, is))

pub halves_greater : (p₀ p₁ o₀ o₁ o₂ key value : List ℕ) (i half : ℕ) (done : Bool) → Presses p₀ key value i → half ≡ halfway 2036 (node_in p₀).entries → half ≤ i → Cuts p₀ p₁ o₀ o₁ half
    → (done ≡ true → Becomes o₁ o₂ (with_entries (put key_cmp key value (node_in o₁).entries) (node_in o₁))) → (done ≡ false → 4072 < (node_in o₁).head.used + size_of (key, value)) → Halves p₀ p₁ o₀ o₂ key value
halves_greater p₀ p₁ o₀ o₁ o₂ key value i half done press is before cuts put_is full =
    let es = (node_in p₀).entries in
    let f = full_sizes p₀ key value i cuts.form press in
    let low : 2036 ≤ sizes (take half es) = subst (λ n. 2036 ≤ sizes (take n es)) (sym is) (halfway_low 2036 es (omega (arith, f.0, press.small))) in
    let some : 0 < length (take half es) = some_sized (take half es) (omega (arith, low)) in
    let both = sizes_halves half es in
    let made : done ≡ true = true_from_ne_false done (λ q. let u = used_of o₀ o₁ (drop half es) (node_in o₀) cuts.tail.form cuts.tail in omega (arith, full q, u, both, low, f.1, press.small)) in
    record {
      lesser = take half es;
      greater = put key_cmp key value (drop half es);
      parts = put_greater key value es i half (scanned p₀ key cuts.form ∙ press.place) before;
      stays = cuts.front;
      moves = becomes_put o₀ o₁ o₂ (drop half es) (node_in o₀) key value cuts.tail (put_is made);
      some = some;
      wide = λ most all. wide most (all_put (λ (e : Entry). size_of e ≤ most) key value es press.none all).1 some;
      more = put_some key value (drop half es);
    }
  where
    none_taken : (n : ℕ) (es : List Entry) → n ≡ 0 → length (take n es) ≡ 0
    none_taken n es e = ap (λ k. length (take k es)) e

    wide : (most : ℕ) → AllByRecursion (λ e. size_of e ≤ most) (node_in p₀).entries → 0 < length (take half (node_in p₀).entries) → 4072 < sizes (put key_cmp key value (drop half (node_in p₀).entries)) + 2036 + most
    wide most all some =
        let es = (node_in p₀).entries in
        let n : half ≡ suc (half - 1) = first_of half (λ e. let z = none_taken half es e in omega (arith, some, z)) in
        let high = halfway_high 2036 es (half - 1) (sym is ∙ n) in
        let front : sizes (take half es) ≤ sizes (take (half - 1) es) + most = subst (λ k. sizes (take k es) ≤ sizes (take (half - 1) es) + most) (sym n) (all_front most (half - 1) es all) in
        let f = full_sizes p₀ key value i cuts.form press in
        let both = sizes_halves half es in
        let more = sizes-put key value (drop half es) (find-drop key half es press.none) in
        omega (arith, high, front, f.0, both, more)
      where
        first_of : (n : ℕ) → (n ≡ 0 → ⊥) → n ≡ suc (n - 1)
        first_of n h = omega (arith, h)

pub halves_lesser : (p₀ p₁ p₂ o₀ o₁ key value : List ℕ) (i half : ℕ) (done : Bool) → Presses p₀ key value i → half ≡ halfway 2036 (node_in p₀).entries → i < half → Cuts p₀ p₁ o₀ o₁ (half - 1)
    → (done ≡ true → Becomes p₁ p₂ (with_entries (put key_cmp key value (node_in p₁).entries) (node_in p₁))) → (done ≡ false → 4072 < (node_in p₁).head.used + size_of (key, value)) → Halves p₀ p₂ o₀ o₁ key value
halves_lesser p₀ p₁ p₂ o₀ o₁ key value i half done press is behind cuts put_is full =
    let es = (node_in p₀).entries in
    let h = half - 1 in
    let f = full_sizes p₀ key value i cuts.form press in
    let n : half ≡ suc (half - 1) = omega (arith, behind) in
    let high : sizes (take (half - 1) es) < 2036 = halfway_high 2036 es (half - 1) (sym is ∙ n) in
    let both = sizes_halves (half - 1) es in
    let within = halfway_within 2036 es in
    let made : done ≡ true = true_from_ne_false done (λ q. let u = used_of p₀ p₁ (take (half - 1) es) (node_in p₀) cuts.front.form cuts.front in omega (arith, full q, u, high, press.small)) in
    record {
      lesser = put key_cmp key value (take (half - 1) es);
      greater = drop (half - 1) es;
      parts = put_lesser key value es i (half - 1) (T_from _ (head_counts p₀ cuts.form).rising) (scanned p₀ key cuts.form ∙ press.place) (omega (arith, behind));
      stays = becomes_put p₀ p₁ p₂ (take (half - 1) es) (node_in p₀) key value cuts.front (put_is made);
      moves = cuts.tail;
      some = put_some key value (take (half - 1) es);
      wide = λ most all. let new = (all_put (λ (e : Entry). size_of e ≤ most) key value es press.none all).0 in omega (arith, new, f.0, both, high);
      more = omega (arith, length-drop (half - 1) es, within, is, n);
    }
