-- A scan for a key stops at its place.
use Rattle.std.proofs.Common.{suc, ◌≡◌, ℕ, ◌+◌, ◌-◌, ◌<◌, ◌≤◌, Bool, true, false, cond, List, [], ◌∷◌, length, Some, None, is_some, refl, ap, sym, ◌∙◌, subst, arith, T}
use Rattle.std.specs.Prelude.{Result, Ok, Err}
use Rattle.std.specs.FinMap.Entries.{find, is_sorted, below_all}
use Rattle.std.specs.Ordering.{is_lt, is_eq, ordering_reverse}
use Rattle.std.specs.declared.cmp.Ordering.{Ordering}
use Rattle.std.specs.declared.cmp.Ordering.TheVariants.{Less, Equal, Greater}
use Rattle.std.proofs.lemmas.List.Sums.{sum_by-cons}
use Rattle.sb_bytes.specs.Field.{number_at}
use Rattle.std.proofs.lemmas.Cmp.{nat_list_cmp_total}
use Rattle.sb_node.specs.Entries.{Entry, key_cmp, is_below, lesser, place_of}
use Rattle.sb_node.specs.Page.{key_at, after_at, entries_at, has_form, node_in}
use Rattle.sb_node.proofs.Sizes.{keys_rise, below_more, first, second, T_to, is_less, less_below}
use Rattle.sb_node.proofs.Runs.{is_formed, Runs, Runs-on, IsInPage, in_page}

abbrev pub by_order : {A : Type 0} → Ordering → A → A → A → A
by_order Less a b c = a
by_order Equal a b c = b
by_order Greater a b c = c

-- what a scan finds from the place i on
abbrev pub place_from : List ℕ → ℕ → List Entry → Result ℕ ℕ
place_from key i [] = Err i
place_from key i (e ∷ es) = by_order (key_cmp key e.0) (Err i) (Ok i) (place_from key (i + 1) es)

-- i more
abbrev plus : ℕ → Result ℕ ℕ → Result ℕ ℕ
plus i (Ok n) = Ok (i + n)
plus i (Err n) = Err (i + n)

-- ---- a key against the keys of entries above it
above_key : (key x e : List ℕ) (o : Ordering) → key_cmp key x ≡ o → (o ≡ Greater → ⊥) → key_cmp x e ≡ Less → key_cmp key e ≡ Less
above_key key x e Less is not less = nat_list_cmp_total.trans key x e is less
above_key key x e Equal is not less = nat_list_cmp_total.congr key x e is ∙ less
above_key key x e Greater is not less = absurd (not refl)

not_below : (x key : List ℕ) (o : Ordering) → key_cmp key x ≡ o → (o ≡ Greater → ⊥) → is_below x key ≡ false
unfolding is_below
not_below x key Less is not = ap is_lt (nat_list_cmp_total.antisymm x key ∙ ap ordering_reverse is)
not_below x key Equal is not = ap is_lt (nat_list_cmp_total.antisymm x key ∙ ap ordering_reverse is)
not_below x key Greater is not = absurd (not refl)

is_below_key : (x key : List ℕ) → key_cmp key x ≡ Greater → is_below x key ≡ true
is_below_key x key is = less_below x key (nat_list_cmp_total.antisymm x key ∙ ap ordering_reverse is)

lesser-cons : (key : List ℕ) (e : Entry) (es : List Entry) → lesser key (e ∷ es) ≡ cond (is_below e.0 key) 1 0 + lesser key es
lesser-cons key e es = sum_by-cons (λ (x : Entry). cond (is_below x.0 key) 1 0) e es

none_below : (key x : List ℕ) (o : Ordering) → key_cmp key x ≡ o → (o ≡ Greater → ⊥) → (es : List Entry) → T (below_all key_cmp x es) → lesser key es ≡ 0
none_below key x o is not [] all = refl
none_below key x o is not (e ∷ es) all =
    let less = above_key key x e.0 o is not (is_less (key_cmp x e.0) (T_to _ (first _ _ all))) in
    lesser-cons key e es ∙ (λ t. cond (not_below e.0 key Less less (λ q. cc) t) 1 0 + none_below key x o is not es (second _ _ all) t)

none_found : (key : List ℕ) (es : List Entry) → T (below_all key_cmp key es) → is_some (find key_cmp key es) ≡ false
none_found key [] all = refl
none_found key (e ∷ es) all =
    let less = is_less (key_cmp key e.0) (T_to _ (first _ _ all)) in
    ap (λ o. is_some (cond (is_eq o) (Some e.1) (find key_cmp key es))) less ∙ none_found key es (second _ _ all)

below_rest : (key : List ℕ) (e : Entry) (es : List Entry) → key_cmp key e.0 ≡ Less → T (below_all key_cmp e.0 es) → T (below_all key_cmp key es)
below_rest key e es less all = below_more key e.0 es less all

-- ---- the scan
plus_more : (i : ℕ) (b : Bool) (n : ℕ) → plus (i + 1) (cond b (Ok n) (Err n)) ≡ plus i (cond b (Ok (1 + n)) (Err (1 + n)))
plus_more i true n = let e : i + 1 + n ≡ i + (1 + n) = omega arith in ap Ok e
plus_more i false n = let e : i + 1 + n ≡ i + (1 + n) = omega arith in ap Err e

place_from_is : (key : List ℕ) (i : ℕ) (es : List Entry) → T (is_sorted key_cmp es) → place_from key i es ≡ plus i (place_of key es)
place_from_is key i [] sorted = let e : i ≡ i + 0 = omega arith in ap Err e
place_from_is key i (e ∷ es) sorted = by (key_cmp key e.0) refl (place_from_is key (i + 1) es (second _ _ sorted))
  where
    by : (o : Ordering) → key_cmp key e.0 ≡ o → place_from key (i + 1) es ≡ plus (i + 1) (place_of key es) → place_from key i (e ∷ es) ≡ plus i (place_of key (e ∷ es))
    by Less is rest =
        let none : lesser key (e ∷ es) ≡ 0 =
        lesser-cons key e es ∙ (λ t. cond (not_below e.0 key Less is (λ q. cc) t) 1 0 + none_below key e.0 Less is (λ q. cc) es (first _ _ sorted) t) in
        let out = none_found key es (below_rest key e es is (first _ _ sorted)) in
        let same : i ≡ i + 0 = omega arith in
        ap (λ o. by_order o (Err i) (Ok i) (place_from key (i + 1) es)) is ∙ ap Err same
        ∙ sym ((λ t. plus i (cond (is_some (cond (is_eq (is t)) (Some e.1) (find key_cmp key es))) (Ok (none t)) (Err (none t)))) ∙ ap (λ b. plus i (cond b (Ok 0) (Err 0))) out)
    by Equal is rest =
        let none : lesser key (e ∷ es) ≡ 0 =
        lesser-cons key e es ∙ (λ t. cond (not_below e.0 key Equal is (λ q. cc) t) 1 0 + none_below key e.0 Equal is (λ q. cc) es (first _ _ sorted) t) in
        let same : i ≡ i + 0 = omega arith in
        ap (λ o. by_order o (Err i) (Ok i) (place_from key (i + 1) es)) is ∙ ap Ok same ∙ sym (λ t. plus i (cond (is_some (cond (is_eq (is t)) (Some e.1) (find key_cmp key es))) (Ok (none t)) (Err (none t))))
    by Greater is rest =
        let one : lesser key (e ∷ es) ≡ 1 + lesser key es = lesser-cons key e es ∙ ap (λ b. cond b 1 0 + lesser key es) (is_below_key e.0 key is) in
        ap (λ o. by_order o (Err i) (Ok i) (place_from key (i + 1) es)) is ∙ rest
        ∙ plus_more i (is_some (find key_cmp key es)) (lesser key es) ∙ sym (λ t. plus i (cond (is_some (cond (is_eq (is t)) (Some e.1) (find key_cmp key es))) (Ok (one t)) (Err (one t))))

plus_none : (r : Result ℕ ℕ) → plus 0 r ≡ r
plus_none (Ok n) = let e : 0 + n ≡ n = omega arith in ap Ok e
plus_none (Err n) = let e : 0 + n ≡ n = omega arith in ap Err e

pub scanned : (b key : List ℕ) → has_form b ≡ true → place_from key 0 (entries_at b (number_at 2 b 2) 24) ≡ place_of key (node_in b).entries
scanned b key form =
    place_from_is key 0 (node_in b).entries (keys_rise b (24 + number_at 2 b 4) None (number_at 2 b 2) 24 (is_formed b form).run) ∙ plus_none (place_of key (node_in b).entries)

-- ---- the steps of a scan over a page: what is left of it finds what the whole does
pub record Scans (b key : List ℕ) (i at : ℕ) : Type 0 where
  pub rest : place_from key i (entries_at b (number_at 2 b 2 - i) at) ≡ place_of key (node_in b).entries
  pub runs : Runs b (24 + number_at 2 b 4) (number_at 2 b 2 - i) at

pub Scans-begin : (b key : List ℕ) → has_form b ≡ true → Scans b key 0 24
Scans-begin b key form =
    let all : number_at 2 b 2 - 0 ≡ number_at 2 b 2 = omega arith in
    record { rest = ap (λ n. place_from key 0 (entries_at b n 24)) all ∙ scanned b key form; runs = subst (λ n. Runs b (24 + number_at 2 b 4) n 24) (sym all) (is_formed b form).runs }

Scans-step : (b key : List ℕ) (i at : ℕ) (o : Ordering) → i < number_at 2 b 2 → key_cmp key (key_at b at) ≡ o → Scans b key i at
    → by_order o (Err i) (Ok i) (place_from key (i + 1) (entries_at b (number_at 2 b 2 - (i + 1)) (after_at b at))) ≡ place_of key (node_in b).entries
Scans-step b key i at o lt is s =
    let more : number_at 2 b 2 - i ≡ suc (number_at 2 b 2 - (i + 1)) = omega arith in
    sym (ap (λ k. place_from key i (entries_at b k at)) more ∙ ap (λ t. by_order t (Err i) (Ok i) (place_from key (i + 1) (entries_at b (number_at 2 b 2 - (i + 1)) (after_at b at)))) is) ∙ s.rest

pub Scans-less : (b key : List ℕ) (i at : ℕ) → i < number_at 2 b 2 → key_cmp key (key_at b at) ≡ Less → Scans b key i at → Err i ≡ place_of key (node_in b).entries
Scans-less b key i at lt is s = Scans-step b key i at Less lt is s

pub Scans-equal : (b key : List ℕ) (i at : ℕ) → i < number_at 2 b 2 → key_cmp key (key_at b at) ≡ Equal → Scans b key i at → Ok i ≡ place_of key (node_in b).entries
Scans-equal b key i at lt is s = Scans-step b key i at Equal lt is s

pub Scans-on : (b key : List ℕ) (i at : ℕ) → i < number_at 2 b 2 → key_cmp key (key_at b at) ≡ Greater → Scans b key i at → Scans b key (i + 1) (after_at b at)
Scans-on b key i at lt is s = record {
  rest = Scans-step b key i at Greater lt is s;
  runs = Runs-on b (24 + number_at 2 b 4) (number_at 2 b 2 - i) (number_at 2 b 2 - (i + 1)) at (omega arith) s.runs;
}

pub Scans-end : (b key : List ℕ) (i at : ℕ) → i ≡ number_at 2 b 2 → Scans b key i at → Err i ≡ place_of key (node_in b).entries
Scans-end b key i at all s =
    let none : number_at 2 b 2 - i ≡ 0 = omega arith in
    sym (ap (λ n. place_from key i (entries_at b n at)) none) ∙ s.rest

pub Scans-inside : (b key : List ℕ) (i at : ℕ) → has_form b ≡ true → i < number_at 2 b 2 → Scans b key i at → IsInPage b at
Scans-inside b key i at form lt s = in_page b (number_at 2 b 2 - i) (number_at 2 b 2 - (i + 1)) at form (omega arith) s.runs

-- a number of lesser keys is within the count
pub err_within : (key : List ℕ) (i : ℕ) (es : List Entry) (j : ℕ) → place_from key i es ≡ Err j → (i ≤ j) × (j ≤ i + length es)
err_within key i [] j e = let s : i ≡ j = cc in (omega arith, omega arith)
err_within key i (x ∷ es) j e =
    elim (key_cmp key x.0) as (λ o. by_order o (Err i) (Ok i) (place_from key (i + 1) es) ≡ Err j → (i ≤ j) × (j ≤ i + length (x ∷ es))) [
      | Less ↦ λ q. let s : i ≡ j = cc in (omega arith, omega arith)
      | Equal ↦ λ q. absurd (cc)
      | Greater ↦ λ q. let r = err_within key (i + 1) es j q in (omega (arith, r.0), omega (arith, r.1))
    ] e
