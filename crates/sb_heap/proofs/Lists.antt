-- The list of the pages with room, once a page joins or leaves it.
use Rattle.std.proofs.Common.{◌≡◌, ◌≢◌, ℕ, ◌==◌, Bool, true, false, true≢false, cond, not, ◌&&◌, List, [], ◌∷◌, ◌++◌, Option, Some, None, IsSome, option_map, refl, sym, ap, subst, ◌∙◌, eq-eqb, ne_eqb}
use Rattle.std.specs.Prelude.{nat_eq, ◌||◌}
use Rattle.std.proofs.lemmas.Bool.{and_parts, and_from, eqb-true, not-true, or_left, or_right, or_parts}
use Rattle.sb_node.specs.Page.{Node}
use Rattle.sb_forms.specs.Tree.{Nodes}
use Rattle.sb_forms.specs.Read.{has, is_apart}
use Rattle.sb_forms.specs.HeapPages.{first_of, after_of, before_of, first_page, are_linked}
use Rattle.sb_heap.specs.Links.{with_node, if_page, joined, left, linked_before, placed, with_after, with_before, with_first}

-- ---- numbers in lists
pub has_here : (n : ℕ) (ns : List ℕ) → has n (n ∷ ns) ≡ true
has_here n ns = or_left (nat_eq n n) (has n ns) (eq-eqb n n refl)

pub has_later : (n m : ℕ) (ns : List ℕ) → has n ns ≡ true → has n (m ∷ ns) ≡ true
has_later n m ns is = or_right (nat_eq n m) (has n ns) is

pub has_not : (n m : ℕ) (ns : List ℕ) → has n (m ∷ ns) ≡ false → (n ≢ m) × (has n ns ≡ false)
has_not n m ns is =
    let parts = or_parts (nat_eq n m) (has n ns) is in
    (λ same. true≢false (sym (eq-eqb n m same) ∙ parts.0), parts.1)

-- a number that is in one list and not in another
pub differ : (n m : ℕ) (ns : List ℕ) → has n ns ≡ true → has m ns ≡ false → n ≢ m
differ n m ns is not_there same = true≢false (sym is ∙ ap (λ k. has k ns) same ∙ not_there)

pub apart_first : (n : ℕ) (ns : List ℕ) → is_apart (n ∷ ns) ≡ true → (has n ns ≡ false) × (is_apart ns ≡ true)
apart_first n ns is =
    let parts = and_parts (not (has n ns)) (is_apart ns) is in
    (not-true (has n ns) parts.0, parts.1)

pub apart_more : (n : ℕ) (ns : List ℕ) → has n ns ≡ false → is_apart ns ≡ true → is_apart (n ∷ ns) ≡ true
apart_more n ns none is = and_from (not (has n ns)) (is_apart ns) (ap not none) is

-- ---- one node changed
pub node_same : (k n : ℕ) (f : Node → Node) (N : Nodes) → k ≡ n → with_node k f N n ≡ option_map f (N n)
node_same k n f N same = ap (λ b. cond b (option_map f (N n)) (N n)) (eq-eqb k n same)

pub node_other : (k n : ℕ) (f : Node → Node) (N : Nodes) → k ≢ n → with_node k f N n ≡ N n
node_other k n f N other = ap (λ b. cond b (option_map f (N n)) (N n)) (ne_eqb k n other)

-- what the change leaves
pub keeps : {A : Type 0} (g : Option Node → A) (f : Node → Node) → ((x : Node) → g (Some (f x)) ≡ g (Some x)) → (k n : ℕ) (N : Nodes) → g (with_node k f N n) ≡ g (N n)
keeps {A} g f same k n N = by (k == n) (N n)
  where
    by : (b : Bool) (o : Option Node) → g (cond b (option_map f o) o) ≡ g o
    by true None = refl
    by true (Some x) = same x
    by false o = refl

pub keeps_if : {A : Type 0} (g : Option Node → A) (f : Node → Node) → ((x : Node) → g (Some (f x)) ≡ g (Some x)) → (k n : ℕ) (N : Nodes) → g (if_page k (with_node k f) N n) ≡ g (N n)
keeps_if {A} g f same k n N = by (k == 0)
  where
    by : (b : Bool) → g (cond b N (with_node k f N) n) ≡ g (N n)
    by true = refl
    by false = keeps g f same k n N

pub kept_linked : {A : Type 0} (g : Option Node → A) (root before after n : ℕ) (N : Nodes) → ((x : Node) → g (Some (with_first after x)) ≡ g (Some x)) → ((x : Node) → g (Some (with_after after x)) ≡ g (Some x))
    → g (linked_before root before after N n) ≡ g (N n)
kept_linked {A} g root before after n N one two = by (before == 0)
  where
    by : (b : Bool) → g (cond b (with_node root (with_first after) N) (with_node before (with_after after) N) n) ≡ g (N n)
    by true = keeps g (with_first after) one root n N
    by false = keeps g (with_after after) two before n N

pub if_other : (k n : ℕ) (f : Node → Node) (N : Nodes) → k ≢ n → if_page k (with_node k f) N n ≡ N n
if_other k n f N other = by (k == 0)
  where
    by : (b : Bool) → cond b N (with_node k f N) n ≡ N n
    by true = refl
    by false = node_other k n f N other

pub if_same : (k : ℕ) (f : Node → Node) (N : Nodes) → k ≢ 0 → if_page k (with_node k f) N k ≡ option_map f (N k)
if_same k f N some = ap (λ b. cond b N (with_node k f N) k) (ne_eqb k 0 some) ∙ node_same k k f N refl

-- what no change of the list touches
pub unlinked_kept : {A : Type 0} (g : Option Node → A) → ((l a : ℕ) (x : Node) → g (Some (placed l a x)) ≡ g (Some x)) → ((v : ℕ) (x : Node) → g (Some (with_before v x)) ≡ g (Some x)) → ((v : ℕ) (x : Node) → g (Some (with_after v x)) ≡ g (Some x)) → ((v : ℕ) (x : Node) → g (Some (with_first v x)) ≡ g (Some x))
    → (root page first n : ℕ) (N : Nodes) → g (joined root page first N n) ≡ g (N n)
unlinked_kept g a b c d root page first n N =
    keeps g (with_first page) (d page) root n (if_page first (with_node first (with_before page)) (with_node page (placed 1 first) N))
    ∙ keeps_if g (with_before page) (b page) first n (with_node page (placed 1 first) N)
    ∙ keeps g (placed 1 first) (a 1 first) page n N

pub unlinked_left : {A : Type 0} (g : Option Node → A) → ((l a : ℕ) (x : Node) → g (Some (placed l a x)) ≡ g (Some x)) → ((v : ℕ) (x : Node) → g (Some (with_before v x)) ≡ g (Some x)) → ((v : ℕ) (x : Node) → g (Some (with_after v x)) ≡ g (Some x)) → ((v : ℕ) (x : Node) → g (Some (with_first v x)) ≡ g (Some x))
    → (root page before after n : ℕ) (N : Nodes) → g (left root page before after N n) ≡ g (N n)
unlinked_left g a b c d root page before after n N =
    keeps_if g (with_before before) (b before) after n (linked_before root before after (with_node page (placed 0 0) N))
    ∙ kept_linked g root before after n (with_node page (placed 0 0) N) (d after) (c after)
    ∙ keeps g (placed 0 0) (a 0 0) page n N

-- ---- the links of pages that keep theirs
pub linked_frame : (N M : Nodes) (p : ℕ) (list : List ℕ) → ((n : ℕ) → has n list ≡ true → (before_of (M n) ≡ before_of (N n)) × (after_of (M n) ≡ after_of (N n))) → are_linked M p list ≡ are_linked N p list
linked_frame N M p [] same = refl
linked_frame N M p (n ∷ ns) same =
    let here = same n (has_here n ns) in
    let rest = linked_frame N M n ns (λ m is. same m (has_later m n ns is)) in
    λ i. nat_eq (here.0 i) p && nat_eq (here.1 i) (first_page ns) && rest i

pub record Linked (N : Nodes) (p n : ℕ) (ns : List ℕ) : Type 0 where
  pub before : before_of (N n) ≡ p
  pub after : after_of (N n) ≡ first_page ns
  pub rest : are_linked N n ns ≡ true

pub linked_parts : (N : Nodes) (p n : ℕ) (ns : List ℕ) → are_linked N p (n ∷ ns) ≡ true → Linked N p n ns
linked_parts N p n ns is =
    let two = and_parts (nat_eq (before_of (N n)) p && nat_eq (after_of (N n)) (first_page ns)) (are_linked N n ns) is in
    let one = and_parts (nat_eq (before_of (N n)) p) (nat_eq (after_of (N n)) (first_page ns)) two.0 in
    record { before = eqb-true (before_of (N n)) p one.0; after = eqb-true (after_of (N n)) (first_page ns) one.1; rest = two.1 }

pub linked_from : (N : Nodes) (p n : ℕ) (ns : List ℕ) → before_of (N n) ≡ p → after_of (N n) ≡ first_page ns → are_linked N n ns ≡ true → are_linked N p (n ∷ ns) ≡ true
linked_from N p n ns before after rest =
    and_from (nat_eq (before_of (N n)) p && nat_eq (after_of (N n)) (first_page ns)) (are_linked N n ns)
    (and_from (nat_eq (before_of (N n)) p) (nat_eq (after_of (N n)) (first_page ns)) (eq-eqb (before_of (N n)) p before) (eq-eqb (after_of (N n)) (first_page ns) after)) rest

-- ---- a page that joins
module _ (root page first : ℕ) (N : Nodes) (x : Node) (there : N page ≡ Some x) where
  abbrev one : Nodes
  one = with_node page (placed 1 first) N

  abbrev two : Nodes
  two = if_page first (with_node first (with_before page)) one

  join_before : (n : ℕ) → before_of (joined root page first N n) ≡ before_of (two n)
  join_before n = keeps before_of (with_first page) (λ y. refl) root n two

  join_after : (n : ℕ) → after_of (joined root page first N n) ≡ after_of (one n)
  join_after n = keeps after_of (with_first page) (λ y. refl) root n two ∙ keeps_if after_of (with_before page) (λ y. refl) first n one

  one_other : (n : ℕ) → page ≢ n → one n ≡ N n
  one_other n other = node_other page n (placed 1 first) N other

  one_here : one page ≡ Some (placed 1 first x)
  one_here = node_same page page (placed 1 first) N refl ∙ ap (option_map (placed 1 first)) there

  pub joined_links : (list : List ℕ) → first ≡ first_page list → page ≢ 0 → has page list ≡ false → is_apart list ≡ true → ((n : ℕ) → has n list ≡ true → IsSome (N n) × (n ≢ 0)) → are_linked N 0 list ≡ true
      → are_linked (joined root page first N) 0 (page ∷ list) ≡ true
  joined_links [] first_is some none apart within linked =
      linked_from (joined root page first N) 0 page []
      (join_before page ∙ ap before_of (if_other first page (with_before page) one (λ same. some (sym same ∙ first_is)) ∙ one_here))
      (join_after page ∙ ap after_of one_here ∙ first_is) refl
  joined_links (f ∷ fs) first_is some none apart within linked =
      let parts = linked_parts N 0 f fs linked in
      let others = has_not page f fs none in
      let here = within f (has_here f fs) in
      let distinct = apart_first f fs apart in
      let M = joined root page first N in
      let head : before_of (M f) ≡ page = join_before f ∙ ap before_of (ap two (sym first_is) ∙ if_same first (with_before page) one (λ z. here.1 (sym first_is ∙ z))) ∙ before_set (one first) (subst (λ (o : Option Node). IsSome o) (sym (ap one first_is ∙ one_other f others.0)) here.0) in
      let rest : are_linked M f fs ≡ true = linked_frame N M f fs (λ n is.
      let a : page ≢ n = λ same. differ n page fs is others.1 (sym same) in
      let b : first ≢ n = λ same. differ n f fs is distinct.0 (sym same ∙ first_is) in
      (join_before n ∙ ap before_of (if_other first n (with_before page) one b ∙ one_other n a), join_after n ∙ ap after_of (one_other n a))) ∙ parts.rest in
      linked_from M 0 page (f ∷ fs)
      (join_before page ∙ ap before_of (if_other first page (with_before page) one (λ same. others.0 (sym same ∙ first_is)) ∙ one_here))
      (join_after page ∙ ap after_of one_here ∙ first_is)
      (linked_from M page f fs head (join_after f ∙ ap after_of (one_other f others.0) ∙ parts.after) rest)
    where
      before_set : (o : Option Node) → IsSome o → before_of (option_map (with_before page) o) ≡ page
      before_set None is = absurd (true≢false (sym is))
      before_set (Some y) is = refl

-- ---- a page that leaves
abbrev pub last_of : ℕ → List ℕ → ℕ
last_of p [] = p
last_of p (x ∷ xs) = last_of x xs

-- the pages but one have their links, but for those beside it, which name each other
pub record Unlinks (N M : Nodes) (page a b : ℕ) : Type 0 where
  pub keeps_before : (n : ℕ) → a ≢ n → page ≢ n → before_of (M n) ≡ before_of (N n)
  pub keeps_after : (n : ℕ) → b ≢ n → page ≢ n → after_of (M n) ≡ after_of (N n)
  pub new_before : a ≢ 0 → IsSome (N a) → before_of (M a) ≡ b
  pub new_after : b ≢ 0 → IsSome (N b) → after_of (M b) ≡ a

-- what is in the front or the back of a list
pub has_front : (n : ℕ) (xs ys : List ℕ) → has n xs ≡ true → has n (xs ++ ys) ≡ true
has_front n [] ys is = absurd (true≢false (sym is))
has_front n (x ∷ xs) ys is = elim (nat_eq n x) as (λ b. (b || has n xs) ≡ true → (b || has n (xs ++ ys)) ≡ true) [
  | true ↦ λ e. refl
  | false ↦ λ e. has_front n xs ys e
] is

pub has_back : (n : ℕ) (xs ys : List ℕ) → has n ys ≡ true → has n (xs ++ ys) ≡ true
has_back n [] ys is = is
has_back n (x ∷ xs) ys is = has_later n x (xs ++ ys) (has_back n xs ys is)

pub last_in : (x : ℕ) (xs : List ℕ) → has (last_of x xs) (x ∷ xs) ≡ true
last_in x [] = has_here x []
last_in x (y ∷ ys) = has_later (last_of y ys) x (y ∷ ys) (last_in y ys)

module _ (N M : Nodes) (page a b : ℕ) (u : Unlinks N M page a b) (ys : List ℕ) (after_is : a ≡ first_page ys) where
  -- the list behind the page
  behind : (p : ℕ) → b ≡ p → is_apart (page ∷ ys) ≡ true → has p (page ∷ ys) ≡ false → ((n : ℕ) → has n (page ∷ ys) ≡ true → IsSome (N n) × (n ≢ 0)) → are_linked N page ys ≡ true → first_page ys ≡ a → are_linked M p ys ≡ true
  behind p before_is apart none within linked is = by ys refl is
    where
      by : (zs : List ℕ) → ys ≡ zs → first_page zs ≡ a → are_linked M p zs ≡ true
      by [] e is = refl
      by (r ∷ rs) e is =
          let apart2 = apart_first page (r ∷ rs) (ap (λ (l : List ℕ). is_apart (page ∷ l)) (sym e) ∙ apart) in
          let apart3 = apart_first r rs apart2.1 in
          let none2 = has_not p page (r ∷ rs) (ap (λ (l : List ℕ). has p (page ∷ l)) (sym e) ∙ none) in
          let none3 = has_not p r rs none2.1 in
          let page2 = has_not page r rs apart2.0 in
          let parts = linked_parts N page r rs (ap (are_linked N page) (sym e) ∙ linked) in
          let here = within r (ap (λ (l : List ℕ). has r (page ∷ l)) e ∙ has_later r page (r ∷ rs) (has_here r rs)) in
          linked_from M p r rs
          (ap (λ m. before_of (M m)) is ∙ u.new_before (λ z. here.1 (is ∙ z)) (subst (λ m. IsSome (N m)) is here.0) ∙ before_is)
          (u.keeps_after r (λ same. none3.0 (sym before_is ∙ same)) page2.0 ∙ parts.after)
          (linked_frame N M r rs (λ n had. (
            u.keeps_before n (λ same. differ n r rs had apart3.0 (sym same ∙ sym is)) (λ same. differ n page rs had page2.1 (sym same)),
            u.keeps_after n (λ same. differ n p rs had none3.1 (sym same ∙ before_is)) (λ same. differ n page rs had page2.1 (sym same)),
          )) ∙ parts.rest)

  pub unlinked : (p : ℕ) (xs : List ℕ) → b ≡ last_of p xs → is_apart (xs ++ page ∷ ys) ≡ true → has p (xs ++ page ∷ ys) ≡ false → ((n : ℕ) → has n (xs ++ page ∷ ys) ≡ true → IsSome (N n) × (n ≢ 0))
      → are_linked N p (xs ++ page ∷ ys) ≡ true → are_linked M p (xs ++ ys) ≡ true
  unlinked p [] before_is apart none within linked =
      let parts = linked_parts N p page ys linked in
      behind p before_is apart none within parts.rest (sym after_is)
  unlinked p (x ∷ xs) before_is apart none within linked =
      let parts = linked_parts N p x (xs ++ page ∷ ys) linked in
      let distinct = apart_first x (xs ++ page ∷ ys) apart in
      let others = has_not p x (xs ++ page ∷ ys) none in
      let here = within x (has_here x (xs ++ page ∷ ys)) in
      let page_other : page ≢ x = differ page x (xs ++ page ∷ ys) (has_back page xs (page ∷ ys) (has_here page ys)) distinct.0 in
      linked_from M p x (xs ++ ys)
      (u.keeps_before x (λ same. no_first ys refl (sym after_is ∙ same) here.1 (λ had. true≢false (sym (has_back x xs (page ∷ ys) (has_later x page ys had)) ∙ distinct.0))) page_other ∙ parts.before)
      (next xs before_is distinct.0 page_other here parts.after)
      (unlinked x xs before_is distinct.1 distinct.0 (λ n had. within n (has_later n x (xs ++ page ∷ ys) had)) parts.rest)
    where
      no_first : (zs : List ℕ) → ys ≡ zs → first_page ys ≡ x → x ≢ 0 → (has x ys ≡ true → ⊥) → ⊥
      no_first [] e is some none = some (sym is ∙ ap first_page e)
      no_first (z ∷ zs) e is some none = none (ap (λ (l : List ℕ). has x l) e ∙ ap (λ m. has m (z ∷ zs)) (sym is ∙ ap first_page e) ∙ has_here z zs)

      next : (zs : List ℕ) → b ≡ last_of x zs → has x (zs ++ page ∷ ys) ≡ false → page ≢ x → IsSome (N x) × (x ≢ 0) → after_of (N x) ≡ first_page (zs ++ page ∷ ys) → after_of (M x) ≡ first_page (zs ++ ys)
      next [] is none other here after = ap (λ m. after_of (M m)) (sym is) ∙ u.new_after (λ z. here.1 (sym is ∙ z)) (subst (λ m. IsSome (N m)) (sym is) here.0) ∙ after_is
      next (z ∷ zs) is none other here after =
          u.keeps_after x (differ_last z zs none is) other ∙ after
        where
          differ_last : (z : ℕ) (zs : List ℕ) → has x ((z ∷ zs) ++ page ∷ ys) ≡ false → b ≡ last_of z zs → b ≢ x
          differ_last z zs none is = differ b x ((z ∷ zs) ++ page ∷ ys) (ap (λ m. has m ((z ∷ zs) ++ page ∷ ys)) is ∙ has_front (last_of z zs) (z ∷ zs) (page ∷ ys) (last_in z zs)) none

-- the changes of a page that leaves do that
abbrev is_some_node : Option Node → Bool
is_some_node None = false
is_some_node (Some x) = true

some_node : (o : Option Node) → IsSome o → is_some_node o ≡ true
some_node None is = absurd (true≢false (sym is))
some_node (Some x) is = refl

before_set : (v : ℕ) (o : Option Node) → is_some_node o ≡ true → before_of (option_map (with_before v) o) ≡ v
before_set v None is = absurd (true≢false (sym is))
before_set v (Some y) is = refl

after_set : (v : ℕ) (o : Option Node) → is_some_node o ≡ true → after_of (option_map (with_after v) o) ≡ v
after_set v None is = absurd (true≢false (sym is))
after_set v (Some y) is = refl

module _ (root page before after : ℕ) (N : Nodes) where
  abbrev off : Nodes
  off = with_node page (placed 0 0) N

  abbrev closed : Nodes
  closed = linked_before root before after off

  closed_after : (n : ℕ) → before ≢ n → after_of (closed n) ≡ after_of (off n)
  closed_after n other = by (before == 0)
    where
      by : (b : Bool) → after_of (cond b (with_node root (with_first after) off) (with_node before (with_after after) off) n) ≡ after_of (off n)
      by true = keeps after_of (with_first after) (λ x. refl) root n off
      by false = ap after_of (node_other before n (with_after after) off other)

  some_off : (n : ℕ) → IsSome (N n) → is_some_node (off n) ≡ true
  some_off n is = keeps is_some_node (placed 0 0) (λ x. refl) page n N ∙ some_node (N n) is

  some_closed : (n : ℕ) → IsSome (N n) → is_some_node (closed n) ≡ true
  some_closed n is = kept_linked is_some_node root before after n off (λ x. refl) (λ x. refl) ∙ some_off n is

  closed_there : before ≢ 0 → IsSome (N before) → after_of (closed before) ≡ after
  closed_there some there =
      ap (λ b. after_of (cond b (with_node root (with_first after) off) (with_node before (with_after after) off) before)) (ne_eqb before 0 some)
      ∙ ap after_of (node_same before before (with_after after) off refl) ∙ after_set after (off before) (some_off before there)

  pub left_unlinks : Unlinks N (left root page before after N) page after before
  left_unlinks = record {
    keeps_before = λ n other apart. ap before_of (if_other after n (with_before before) closed other) ∙ kept_linked before_of root before after n off (λ x. refl) (λ x. refl) ∙ ap before_of (node_other page n (placed 0 0) N apart);
    keeps_after = λ n other apart. keeps_if after_of (with_before before) (λ x. refl) after n closed ∙ closed_after n other ∙ ap after_of (node_other page n (placed 0 0) N apart);
    new_before = λ some there. ap before_of (if_same after (with_before before) closed some) ∙ before_set before (closed after) (some_closed after there);
    new_after = λ some there. keeps_if after_of (with_before before) (λ x. refl) after before closed ∙ closed_there some there;
  }

  -- the root names the first page that is left
  pub left_first : (xs ys : List ℕ) → IsSome (N root) → before ≡ last_of 0 xs → after ≡ first_page ys → ((n : ℕ) → has n (xs ++ page ∷ ys) ≡ true → n ≢ 0) → first_of (N root) ≡ first_page (xs ++ page ∷ ys)
      → first_of (left root page before after N root) ≡ first_page (xs ++ ys)
  left_first xs ys there before_is after_is some first =
      keeps_if first_of (with_before before) (λ x. refl) after root closed ∙ by xs before_is some first
    where
      first_set : (o : Option Node) → is_some_node o ≡ true → first_of (option_map (with_first after) o) ≡ after
      first_set None is = absurd (true≢false (sym is))
      first_set (Some y) is = refl

      by : (xs : List ℕ) → before ≡ last_of 0 xs → ((n : ℕ) → has n (xs ++ page ∷ ys) ≡ true → n ≢ 0) → first_of (N root) ≡ first_page (xs ++ page ∷ ys) → first_of (closed root) ≡ first_page (xs ++ ys)
      by [] is some first =
          ap (λ b. first_of (cond b (with_node root (with_first after) off) (with_node before (with_after after) off) root)) (eq-eqb before 0 is)
          ∙ ap first_of (node_same root root (with_first after) off refl) ∙ first_set (off root) (some_off root there) ∙ after_is
      by (x ∷ xs) is some first =
          ap (λ b. first_of (cond b (with_node root (with_first after) off) (with_node before (with_after after) off) root)) (ne_eqb before 0 (λ z. some (last_of x xs) (has_front (last_of x xs) (x ∷ xs) (page ∷ ys) (last_in x xs)) (sym is ∙ z)))
          ∙ keeps first_of (with_after after) (λ x. refl) before root off ∙ keeps first_of (placed 0 0) (λ x. refl) page root N ∙ first

-- ---- a list with a page in it
pub record Within (n : ℕ) (list : List ℕ) : Type 0 where
  pub front : List ℕ
  pub back : List ℕ
  pub is : list ≡ front ++ n ∷ back

pub within_list : (n : ℕ) (list : List ℕ) → has n list ≡ true → Within n list
within_list n [] is = absurd (true≢false (sym is))
within_list n (m ∷ ms) is = elim (nat_eq n m) as (λ b. nat_eq n m ≡ b → Within n (m ∷ ms)) [
  | true ↦ λ same. record { front = []; back = ms; is = ap (λ k. k ∷ ms) (sym (eqb-true n m same)) }
  | false ↦ λ other.
      let w = within_list n ms (sym (ap (λ b. b || has n ms) other) ∙ is) in
      record { front = m ∷ w.front; back = w.back; is = ap (λ (l : List ℕ). m ∷ l) w.is }
] refl

-- the links of that page
pub linked_at : (N : Nodes) (p n : ℕ) (xs ys : List ℕ) → are_linked N p (xs ++ n ∷ ys) ≡ true → (before_of (N n) ≡ last_of p xs) × (after_of (N n) ≡ first_page ys)
linked_at N p n [] ys linked = let parts = linked_parts N p n ys linked in (parts.before, parts.after)
linked_at N p n (x ∷ xs) ys linked = linked_at N x n xs ys (linked_parts N p x (xs ++ n ∷ ys) linked).rest

-- the others of the list
pub has_others : (m n : ℕ) (xs ys : List ℕ) → m ≢ n → has m (xs ++ n ∷ ys) ≡ has m (xs ++ ys)
has_others m n [] ys other = ap (λ b. b || has m ys) (ne_eqb m n other)
has_others m n (x ∷ xs) ys other = ap (λ b. nat_eq m x || b) (has_others m n xs ys other)

pub apart_without : (n : ℕ) (xs ys : List ℕ) → is_apart (xs ++ n ∷ ys) ≡ true → (is_apart (xs ++ ys) ≡ true) × (has n (xs ++ ys) ≡ false)
apart_without n [] ys apart = let parts = apart_first n ys apart in (parts.1, parts.0)
apart_without n (x ∷ xs) ys apart =
    let parts = apart_first x (xs ++ n ∷ ys) apart in
    let more = apart_without n xs ys parts.1 in
    let other : n ≢ x = differ n x (xs ++ n ∷ ys) (has_back n xs (n ∷ ys) (has_here n ys)) parts.0 in
    (apart_more x (xs ++ ys) (sym (has_others x n xs ys (λ same. other (sym same))) ∙ parts.0) more.0, ap (λ b. b || has n (xs ++ ys)) (ne_eqb n x other) ∙ more.1)
