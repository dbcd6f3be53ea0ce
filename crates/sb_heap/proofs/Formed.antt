-- Formed pages are a heap, and pages that are a heap are formed.
use Rattle.std.proofs.Common.{◌≡◌, ◌≢◌, ℕ, zero, suc, ◌+◌, ◌<◌, ◌≤◌, ◌==◌, Bool, true, false, true≢false, cond, not, ◌&&◌, List, [], ◌∷◌, ◌++◌, length, filter, Option, Some, None, IsSome, is_some, refl, ap, sym, ◌∙◌, subst, arith, eqb-true, ne_eqb}
use Rattle.std.specs.Prelude.{nat_eq, nat_lt, ◌||◌}
use Rattle.std.specs.List.{AllByRecursion, IsDistinct, list_all, list_any, flat_map, range_with_len}
use Rattle.std.proofs.lemmas.Bool.{and_parts, and_from, ltb-true, ltb-false, not-true, eq-eqb, not-false}
use Rattle.std.proofs.lemmas.Option.{cond_some}
use Rattle.std.proofs.lemmas.Map.Steps.{length-le_from_distinct_below}
use Rattle.std.proofs.lemmas.List.{nil_from_length}
use Rattle.sb_value.specs.declared.schema.Column.{Column}
use Rattle.sb_relation.specs.Db.{Rows}
use Rattle.sb_relation.specs.Fits.{is_empty}
use Rattle.sb_node.specs.Page.{Node, has_form, node_in, node_of}
use Rattle.sb_forms.specs.Pages.{Pages, ArePages, page_numbers}
use Rattle.sb_forms.specs.Tree.{Nodes, nodes, entries_of, level_of}
use Rattle.sb_forms.specs.Read.{has, is_apart}
use Rattle.sb_forms.specs.HeapPages.{has_room, is_record, is_heap_page, first_of, after_of, first_page, list_from, room_list, are_linked, are_listed, is_room_list, is_page_of, is_heap, heap_rows, rows_on}
use Rattle.sb_heap.proofs.Lists.{has_here, has_later, apart_first, has_not, linked_parts}
use Rattle.sb_heap.proofs.Standing.{Heap, kind_of, room_at}
use Rattle.sb_heap.proofs.Rows.{rows_in}

-- ---- numbers of pages
pub each_passes : (q : ℕ → Bool) (xs : List ℕ) (n : ℕ) → list_all q xs ≡ true → has n xs ≡ true → q n ≡ true
each_passes q [] n all is = absurd (true≢false (sym is))
each_passes q (x ∷ xs) n all is =
    let parts = and_parts (q x) (list_all q xs) all in
    elim (nat_eq n x) as (λ b. nat_eq n x ≡ b → (b || has n xs) ≡ true → q n ≡ true) [
      | true ↦ λ same e. subst (λ m. q m ≡ true) (sym (eqb-true n x same)) parts.0
      | false ↦ λ other e. each_passes q xs n parts.1 e
    ] refl is

all_pass : (q : ℕ → Bool) (xs : List ℕ) → ((n : ℕ) → has n xs ≡ true → q n ≡ true) → list_all q xs ≡ true
all_pass q [] gives = refl
all_pass q (x ∷ xs) gives = and_from (q x) (list_all q xs) (gives x (has_here x xs)) (all_pass q xs (λ n is. gives n (has_later n x xs is)))

-- what is in a range that passes
has_kept : (p : ℕ → Bool) (low len n : ℕ) → has n (filter p (range_with_len low len)) ≡ true → (low ≤ n) × (n < low + len) × (p n ≡ true)
has_kept p low zero n is = absurd (true≢false (sym is))
has_kept p low (suc len) n is = by (filter p (range_with_len (low + 1) len)) (λ e. let r = has_kept p (low + 1) len n e in (omega (arith, r.0), omega (arith, r.1), r.2)) (p low) refl is
  where
    by : (F : List ℕ) → (has n F ≡ true → (low ≤ n) × (n < low + suc len) × (p n ≡ true)) → (b : Bool) → p low ≡ b → has n (cond b (low ∷ F) F) ≡ true → (low ≤ n) × (n < low + suc len) × (p n ≡ true)
    by F rest true passes e = elim (nat_eq n low) as (λ b. nat_eq n low ≡ b → (b || has n F) ≡ true → (low ≤ n) × (n < low + suc len) × (p n ≡ true)) [
      | true ↦ λ same e. let s = eqb-true n low same in (omega (arith, s), omega (arith, s), ap p s ∙ passes)
      | false ↦ λ other e. rest e
    ] refl e
    by F rest false fails e = rest e

kept_has : (p : ℕ → Bool) (low len n : ℕ) → low ≤ n → n < low + len → p n ≡ true → has n (filter p (range_with_len low len)) ≡ true
kept_has p low zero n from to passes = absurd (omega (arith, from, to))
kept_has p low (suc len) n from to passes =
    by (filter p (range_with_len (low + 1) len)) (λ other. kept_has p (low + 1) len n (omega (arith, from, other)) (omega (arith, to)) passes) (nat_eq n low) refl (p low) refl
  where
    by : (F : List ℕ) → (n ≢ low → has n F ≡ true) → (t : Bool) → nat_eq n low ≡ t → (b : Bool) → p low ≡ b → has n (cond b (low ∷ F) F) ≡ true
    by F later true same true is = ap (λ t. t || has n F) same
    by F later true same false is = absurd (true≢false (sym passes ∙ ap p (eqb-true n low same) ∙ is))
    by F later false other true is = has_later n low F (later (λ e. true≢false (sym (eq-eqb n low e) ∙ other)))
    by F later false other false is = later (λ e. true≢false (sym (eq-eqb n low e) ∙ other))

pub page_had : (P : Pages) (n : ℕ) → has n (page_numbers P) ≡ true → (n < 65536) × (is_empty (P n) ≡ false)
unfolding page_numbers
page_had P n is = let r = has_kept (λ m. not (is_empty (P m))) 0 65536 n is in (omega (arith, r.1), not-true (is_empty (P n)) r.2)

pub had_page : (P : Pages) (n : ℕ) → n < 65536 → is_empty (P n) ≡ false → has n (page_numbers P) ≡ true
unfolding page_numbers
had_page P n low some = kept_has (λ m. not (is_empty (P m))) 0 65536 n (omega arith) (omega (arith, low)) (ap not some)

-- ---- pages that are nodes
no_form : has_form [] ≡ false
unfolding has_form
no_form = refl

pub bare_node : (bytes : List ℕ) → bytes ≡ [] → node_of bytes ≡ None
bare_node bytes none = ap node_of none ∙ ap (λ t. cond t (Some (node_in [])) None) no_form

no_bytes : (bytes : List ℕ) → is_empty bytes ≡ true → bytes ≡ []
no_bytes [] e = refl
no_bytes (b ∷ bytes) e = absurd (true≢false (sym e))

pub some_bytes : (P : Pages) (n : ℕ) → IsSome (nodes P n) → is_empty (P n) ≡ false
some_bytes P n is = by (is_empty (P n)) refl
  where
    by : (b : Bool) → is_empty (P n) ≡ b → b ≡ false
    by true e = absurd (true≢false (sym is ∙ ap is_some (bare_node (P n) (no_bytes (P n) e))))
    by false e = refl

-- ---- the list by its links
first_from : (most : ℕ) (N : Nodes) (p : ℕ) → first_page (list_from (suc most) N p) ≡ p
first_from most N p = elim (nat_eq p 0) as (λ b. nat_eq p 0 ≡ b → first_page (cond b [] (p ∷ list_from most N (after_of (N p)))) ≡ p) [
  | true ↦ λ none. sym (eqb-true p 0 none)
  | false ↦ λ some. refl
] refl

first_room : (N : Nodes) (root : ℕ) → first_page (room_list N root) ≡ first_of (N root)
unfolding room_list
first_room N root = first_from 65535 N (first_of (N root))

list_is : (most : ℕ) (N : Nodes) (p : ℕ) (list : List ℕ) → are_linked N p list ≡ true → ((n : ℕ) → has n list ≡ true → n ≢ 0) → length list ≤ most → list_from most N (first_page list) ≡ list
list_is zero N p [] linked some few = refl
list_is zero N p (n ∷ ns) linked some few = absurd (omega (arith, few))
list_is (suc most) N p [] linked some few = refl
list_is (suc most) N p (n ∷ ns) linked some few =
    let parts = linked_parts N p n ns linked in
    ap (λ b. cond b [] (n ∷ list_from most N (after_of (N n)))) (ne_eqb n 0 (some n (has_here n ns)))
    ∙ ap (λ (l : List ℕ). n ∷ l) (ap (list_from most N) parts.after ∙ list_is most N n ns parts.rest (λ m had. some m (has_later m n ns had)) (omega (arith, few)))

-- numbers that stand apart below a bound are no more than it
none_same : (x : ℕ) (xs : List ℕ) → has x xs ≡ false → AllByRecursion (λ y. (x == y) ≡ false) xs
none_same x [] none = tt
none_same x (y ∷ ys) none = let parts = has_not x y ys none in (ne_eqb x y parts.0, none_same x ys parts.1)

distinct : (xs : List ℕ) → is_apart xs ≡ true → IsDistinct (λ a b. a == b) xs
unfolding IsDistinct
distinct [] apart = tt
distinct (x ∷ xs) apart = let parts = apart_first x xs apart in (none_same x xs parts.0, distinct xs parts.1)

any_has : (q : ℕ) (xs : List ℕ) → list_any (λ x. q == x) xs ≡ true → has q xs ≡ true
any_has q [] is = absurd (true≢false (sym is))
any_has q (x ∷ xs) is = elim (q == x) as (λ t. (q == x) ≡ t → (t || list_any (λ x. q == x) xs) ≡ true → has q (x ∷ xs) ≡ true) [
  | true ↦ λ same e. ap (λ b. b || has q xs) (eq-eqb q x (eqb-true q x same))
  | false ↦ λ other e. has_later q x xs (any_has q xs e)
] refl is

apart_few : (xs : List ℕ) (most : ℕ) → is_apart xs ≡ true → ((n : ℕ) → has n xs ≡ true → n < most) → length xs ≤ most
apart_few xs most apart low = length-le_from_distinct_below xs most (distinct xs apart) (λ q is. low q (any_has q xs is))

-- ---- formed pages
pub record Formed (root : ℕ) (schema : List Column) (P : Pages) (rows : Rows) : Type 0 where
  pub list : List ℕ
  pub heap : Heap root schema (nodes P) list
  pub bare : (n : ℕ) → nodes P n ≡ None → P n ≡ []
  pub same : rows ≡ rows_in (nodes P) 0 65536

-- the rows of pages without bytes are none
rows_kept : (f : ℕ → Rows) (p : ℕ → Bool) (xs : List ℕ) → ((x : ℕ) → p x ≡ false → f x ≡ []) → flat_map f (filter p xs) ≡ flat_map f xs
rows_kept f p [] none = refl
rows_kept f p (x ∷ xs) none = elim (p x) as (λ b. p x ≡ b → flat_map f (cond b (x ∷ filter p xs) (filter p xs)) ≡ f x ++ flat_map f xs) [
  | true ↦ λ is. ap (λ (l : Rows). f x ++ l) (rows_kept f p xs none)
  | false ↦ λ is. rows_kept f p xs none ∙ ap (λ (l : Rows). l ++ flat_map f xs) (sym (none x is))
] refl

pub all_rows : (P : Pages) → flat_map (rows_on (nodes P)) (page_numbers P) ≡ rows_in (nodes P) 0 65536
unfolding page_numbers
all_rows P = rows_kept (rows_on (nodes P)) (λ n. not (is_empty (P n))) (range_with_len 0 65536) (λ n none. ap (λ (o : Option Node). none_on n o) (bare_node (P n) (no_bytes (P n) (not-false (is_empty (P n)) none))))
  where
    none_on : ℕ → Option Node → Rows
    none_on n o = rows_on (λ m. o) n

-- what is so of a page that is one of the heap
pub record IsPage (root : ℕ) (schema : List Column) (n : ℕ) (o : Option Node) : Type 0 where
  pub some : n ≢ 0
  pub there : IsSome o
  pub kind : kind_of o ≡ 1
  pub level : level_of o ≡ cond (room_at o) 1 0
  pub records : list_all (is_record schema) (entries_of o) ≡ true
  pub rows : n ≢ root → entries_of o ≢ []

page_is : (root : ℕ) (schema : List Column) (N : Nodes) (n : ℕ) → is_page_of root schema N n ≡ true → IsPage root schema n (N n)
page_is root schema N n is =
    let two = and_parts (not (nat_eq n 0) && is_heap_page schema (N n)) (cond (nat_eq n root) true (not (nat_eq (length (entries_of (N n))) 0))) is in
    let one = and_parts (not (nat_eq n 0)) (is_heap_page schema (N n)) two.0 in
    by (N n) (λ e. true≢false (sym (eq-eqb n 0 e) ∙ not-true (nat_eq n 0) one.0)) one.1 two.1
  where
    by : (o : Option Node) → n ≢ 0 → is_heap_page schema o ≡ true → cond (nat_eq n root) true (not (nat_eq (length (entries_of o)) 0)) ≡ true → IsPage root schema n o
    by None some heap rows = absurd (true≢false (sym heap))
    by (Some x) some heap rows =
        let b = and_parts (nat_eq x.head.kind 1 && nat_eq x.head.level (cond (has_room x) 1 0)) (list_all (is_record schema) x.entries) heap in
        let a = and_parts (nat_eq x.head.kind 1) (nat_eq x.head.level (cond (has_room x) 1 0)) b.0 in
        record {
          some = some;
          there = refl;
          kind = eqb-true x.head.kind 1 a.0;
          level = eqb-true x.head.level (cond (has_room x) 1 0) a.1;
          records = b.1;
          rows = λ other none. true≢false (sym (eq-eqb (length x.entries) 0 (ap length none)) ∙ not-true (nat_eq (length x.entries) 0) (sym (ap (λ t. cond t true (not (nat_eq (length x.entries) 0))) (ne_eqb n root other)) ∙ rows));
        }

is_page : (root : ℕ) (schema : List Column) (N : Nodes) (n : ℕ) → IsPage root schema n (N n) → is_page_of root schema N n ≡ true
is_page root schema N n p =
    and_from (not (nat_eq n 0) && is_heap_page schema (N n)) (cond (nat_eq n root) true (not (nat_eq (length (entries_of (N n))) 0)))
    (and_from (not (nat_eq n 0)) (is_heap_page schema (N n)) (ap not (ne_eqb n 0 p.some)) (heap_page (N n) p)) (rows_test (nat_eq n root) refl)
  where
    heap_page : (o : Option Node) → IsPage root schema n o → is_heap_page schema o ≡ true
    heap_page None q = absurd (true≢false (sym q.there))
    heap_page (Some x) q =
        and_from (nat_eq x.head.kind 1 && nat_eq x.head.level (cond (has_room x) 1 0)) (list_all (is_record schema) x.entries)
        (and_from (nat_eq x.head.kind 1) (nat_eq x.head.level (cond (has_room x) 1 0)) (eq-eqb x.head.kind 1 q.kind) (eq-eqb x.head.level (cond (has_room x) 1 0) q.level)) q.records

    rows_test : (b : Bool) → nat_eq n root ≡ b → cond b true (not (nat_eq (length (entries_of (N n))) 0)) ≡ true
    rows_test true same = refl
    rows_test false other = ap not (ne_eqb (length (entries_of (N n))) 0 (λ e. p.rows (λ s. true≢false (sym (eq-eqb n root s) ∙ other)) (nil_from_length (entries_of (N n)) e)))

-- on the list where it has room
listed_is : (b r l : Bool) (level : ℕ) → level ≡ cond r 1 0 → nat_eq level 1 ≡ b → cond b l (not l) ≡ true → l ≡ r
listed_is true true l level is same e = e
listed_is true false l level is same e = absurd (omega (arith, is, eqb-true level 1 same))
listed_is false true l level is same e = absurd (true≢false (sym (eq-eqb level 1 is) ∙ same))
listed_is false false l level is same e = not-true l e

is_listed : (r : Bool) (level : ℕ) (l : Bool) → level ≡ cond r 1 0 → l ≡ r → cond (nat_eq level 1) l (not l) ≡ true
is_listed true level l is same = ap (λ b. cond b l (not l)) (eq-eqb level 1 is) ∙ same
is_listed false level l is same = ap (λ b. cond b l (not l)) (ne_eqb level 1 (λ e. one_zero (sym e ∙ is))) ∙ ap not same
  where
    one_zero : ◌≡◌ {A = ℕ} 1 0 → ⊥
    one_zero e = omega (arith, e)

-- whatever pages there are beyond those that an instance may have
pub record Core (root : ℕ) (schema : List Column) (P : Pages) (rows : Rows) : Type 0 where
  pub list : List ℕ
  pub rooted : has root (page_numbers P) ≡ true
  pub page : (n : ℕ) → has n (page_numbers P) ≡ true → IsPage root schema n (nodes P n)
  pub first : first_of (nodes P root) ≡ first_page list
  pub linked : are_linked (nodes P) 0 list ≡ true
  pub apart : is_apart list ≡ true
  pub rooms : (n : ℕ) → has n (page_numbers P) ≡ true → has n list ≡ room_at (nodes P n)
  pub within : (n : ℕ) → has n list ≡ true → has n (page_numbers P) ≡ true
  pub same : rows ≡ rows_in (nodes P) 0 65536

pub core : (root : ℕ) (schema : List Column) (P : Pages) (rows : Rows) → heap_rows root schema P ≡ Some rows → Core root schema P rows
core root schema P rows is =
    let some = cond_some (is_heap root schema P) (flat_map (rows_on (nodes P)) (page_numbers P)) rows is in
    let list = room_list (nodes P) root in
    let b = and_parts (has root (page_numbers P) && list_all (is_page_of root schema (nodes P)) (page_numbers P)) (is_room_list P list) some.0 in
    let a = and_parts (has root (page_numbers P)) (list_all (is_page_of root schema (nodes P)) (page_numbers P)) b.0 in
    let l3 = and_parts (are_linked (nodes P) 0 list && is_apart list && are_listed (nodes P) list (page_numbers P)) (list_all (λ n. has n (page_numbers P)) list) b.1 in
    let l2 = and_parts (are_linked (nodes P) 0 list && is_apart list) (are_listed (nodes P) list (page_numbers P)) l3.0 in
    let l1 = and_parts (are_linked (nodes P) 0 list) (is_apart list) l2.0 in
    by list refl a.0 a.1 l1.0 l1.1 l2.1 l3.1 some.1
  where
    by : (list : List ℕ) → room_list (nodes P) root ≡ list → has root (page_numbers P) ≡ true → list_all (is_page_of root schema (nodes P)) (page_numbers P) ≡ true
        → are_linked (nodes P) 0 list ≡ true → is_apart list ≡ true → are_listed (nodes P) list (page_numbers P) ≡ true → list_all (λ n. has n (page_numbers P)) list ≡ true
        → flat_map (rows_on (nodes P)) (page_numbers P) ≡ rows → Core root schema P rows
    by list list_eq rooted pages linked apart listed within rows_are = record {
      list = list;
      rooted = rooted;
      page = page;
      first = sym (first_room (nodes P) root) ∙ ap first_page list_eq;
      linked = linked;
      apart = apart;
      rooms = λ n h. listed_is (nat_eq (level_of (nodes P n)) 1) (room_at (nodes P n)) (has n list) (level_of (nodes P n)) (page n h).level refl
          (each_passes (λ m. cond (nat_eq (level_of (nodes P m)) 1) (has m list) (not (has m list))) (page_numbers P) n listed h);
      within = λ n is. each_passes (λ m. has m (page_numbers P)) list n within is;
      same = sym rows_are ∙ all_rows P;
    }
      where
        page : (n : ℕ) → has n (page_numbers P) ≡ true → IsPage root schema n (nodes P n)
        page n h = page_is root schema (nodes P) n (each_passes (is_page_of root schema (nodes P)) (page_numbers P) n pages h)

pub formed : (root : ℕ) (schema : List Column) (P : Pages) (rows : Rows) → ArePages P → heap_rows root schema P ≡ Some rows → Formed root schema P rows
formed root schema P rows are is = by (core root schema P rows is)
  where
    low : (n : ℕ) → is_empty (P n) ≡ false → (b : Bool) → nat_lt n 65536 ≡ b → n < 65536
    low n some true e = ltb-true n 65536 e
    low n some false e = absurd (true≢false (sym (ap is_empty (are.below n (ltb-false n 65536 e))) ∙ some))

    had : (n : ℕ) → IsSome (nodes P n) → has n (page_numbers P) ≡ true
    had n is = let some = some_bytes P n is in had_page P n (low n some (nat_lt n 65536) refl) some

    by : Core root schema P rows → Formed root schema P rows
    by c = record {
      list = c.list;
      heap = record {
        stands = record {
          root_some = (c.page root c.rooted).there;
          low = λ n is. ((c.page n (had n is)).some, (page_had P n (had n is)).0);
          kind = λ n is. (c.page n (had n is)).kind;
          records = λ n. records n (nodes P n) refl;
          some = λ n is. (c.page n (had n is)).rows;
        };
        listed = record {
          first = c.first;
          linked = c.linked;
          apart = c.apart;
          level = λ n is. (c.page n (had n is)).level ∙ ap (λ b. cond b 1 0) (sym (c.rooms n (had n is)));
          within = λ n is. let h = c.within n is in ((c.page n h).there, (c.page n h).some);
        };
        rooms = λ n is. sym (c.rooms n (had n is));
      };
      bare = λ n none. bare n none (is_empty (P n)) refl;
      same = c.same;
    }
      where
        records : (n : ℕ) (o : Option Node) → nodes P n ≡ o → list_all (is_record schema) (entries_of (nodes P n)) ≡ true
        records n None is = ap (λ (o : Option Node). list_all (is_record schema) (entries_of o)) is
        records n (Some x) is = (c.page n (had n (ap is_some is))).records

        bare : (n : ℕ) → nodes P n ≡ None → (b : Bool) → is_empty (P n) ≡ b → P n ≡ []
        bare n none true e = no_bytes (P n) e
        bare n none false e = absurd (true≢false (sym (c.page n (had_page P n (low n e (nat_lt n 65536) refl) e)).there ∙ ap is_some none))

-- ---- and back
pub rows_from : (root : ℕ) (schema : List Column) (Q : Pages) (list : List ℕ) → Heap root schema (nodes Q) list → ((n : ℕ) → nodes Q n ≡ None → Q n ≡ []) → heap_rows root schema Q ≡ Some (rows_in (nodes Q) 0 65536)
unfolding room_list
rows_from root schema Q list h bare =
    ap (λ b. cond b (Some (flat_map (rows_on (nodes Q)) (page_numbers Q))) None) is ∙ ap Some (all_rows Q)
  where
    N : Nodes
    N = nodes Q

    there : (n : ℕ) → has n (page_numbers Q) ≡ true → IsSome (nodes Q n)
    there n had = by (nodes Q n) refl
      where
        by : (o : Option Node) → nodes Q n ≡ o → IsSome o
        by None e = absurd (true≢false (sym (ap is_empty (bare n e)) ∙ (page_had Q n had).1))
        by (Some x) e = refl

    had : (n : ℕ) → IsSome (nodes Q n) → has n (page_numbers Q) ≡ true
    had n some = had_page Q n (h.stands.low n some).1 (some_bytes Q n some)

    room_is : room_list (nodes Q) root ≡ list
    room_is = ap (list_from 65536 (nodes Q)) h.listed.first ∙ list_is 65536 (nodes Q) 0 list h.listed.linked (λ n in_list. (h.listed.within n in_list).1) (apart_few list 65536 h.listed.apart (λ n in_list. (h.stands.low n (h.listed.within n in_list).0).1))

    page : (n : ℕ) → has n (page_numbers Q) ≡ true → IsPage root schema n (nodes Q n)
    page n in_pages = let some = there n in_pages in record {
      some = (h.stands.low n some).0;
      there = some;
      kind = h.stands.kind n some;
      level = h.listed.level n some ∙ ap (λ b. cond b 1 0) (sym (h.rooms n some));
      records = h.stands.records n;
      rows = h.stands.some n some;
    }

    listed : are_listed (nodes Q) list (page_numbers Q) ≡ true
    listed = all_pass (λ n. cond (nat_eq (level_of (nodes Q n)) 1) (has n list) (not (has n list))) (page_numbers Q) (λ n in_pages.
        is_listed (room_at (nodes Q n)) (level_of (nodes Q n)) (has n list) (page n in_pages).level (sym (h.rooms n (there n in_pages))))

    is_list : is_room_list Q list ≡ true
    is_list =
        and_from (are_linked (nodes Q) 0 list && is_apart list && are_listed (nodes Q) list (page_numbers Q)) (list_all (λ n. has n (page_numbers Q)) list)
        (and_from (are_linked (nodes Q) 0 list && is_apart list) (are_listed (nodes Q) list (page_numbers Q)) (and_from (are_linked (nodes Q) 0 list) (is_apart list) h.listed.linked h.listed.apart) listed)
        (all_pass (λ n. has n (page_numbers Q)) list (λ n in_list. had n (h.listed.within n in_list).0))

    is : is_heap root schema Q ≡ true
    is =
        and_from (has root (page_numbers Q) && list_all (is_page_of root schema (nodes Q)) (page_numbers Q)) (is_room_list Q (room_list (nodes Q) root))
        (and_from (has root (page_numbers Q)) (list_all (is_page_of root schema (nodes Q)) (page_numbers Q)) (had root h.stands.root_some)
        (all_pass (is_page_of root schema (nodes Q)) (page_numbers Q) (λ n in_pages. is_page root schema (nodes Q) n (page n in_pages))))
        (ap (is_room_list Q) room_is ∙ is_list)
