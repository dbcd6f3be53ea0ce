-- Nodes that are a heap with its list, and turns of their pages.
use Rattle.std.proofs.Common.{◌≡◌, ◌≢◌, ℕ, ◌<◌, ◌==◌, Bool, true, false, true≢false, cond, List, [], ◌∷◌, ◌++◌, Option, Some, None, IsSome, is_some, option_map, refl, sym, ap, subst, ◌∙◌, arith, eqb-true, eq-eqb, ne_eqb}
use Rattle.std.specs.Prelude.{nat_eq, nat_le, ◌||◌}
use Rattle.std.specs.List.{list_all}
use Rattle.sb_value.specs.declared.schema.Column.{Column}
use Rattle.sb_node.specs.declared.head.Head.{Head}
use Rattle.sb_node.specs.Page.{Node}
use Rattle.sb_forms.specs.Tree.{Nodes, level_of, entries_of}
use Rattle.sb_forms.specs.Read.{has, is_apart}
use Rattle.sb_forms.specs.HeapPages.{has_room, is_record, first_of, after_of, before_of, first_page, are_linked}
use Rattle.sb_heap.specs.Links.{with_node, put_node, if_page, joined, left, turned, linked_before, placed, with_before, with_first, IsTurn}
use Rattle.sb_heap.specs.declared.list.Turn.{Turn}
use Rattle.sb_heap.specs.declared.list.Turn.TheVariants.{Stays, Joins, Leaves}
use Rattle.sb_heap.proofs.Lists.{has_here, has_others, differ, apart_more, apart_without, keeps, keeps_if, kept_linked, node_same, node_other, unlinked_kept, unlinked_left, joined_links, left_unlinks, left_first, unlinked, within_list, linked_at, linked_frame, last_of}

-- ---- what of a node isn't of the list
abbrev pub kind_of : Option Node → ℕ
kind_of None = 0
kind_of (Some x) = x.head.kind

abbrev pub room_at : Option Node → Bool
room_at None = false
room_at (Some x) = has_room x

-- the pages, whatever the list is
pub record Stands (root : ℕ) (schema : List Column) (N : Nodes) : Type 0 where
  pub root_some : IsSome (N root)
  pub low : (n : ℕ) → IsSome (N n) → (n ≢ 0) × (n < 65536)
  pub kind : (n : ℕ) → IsSome (N n) → kind_of (N n) ≡ 1
  pub records : (n : ℕ) → list_all (is_record schema) (entries_of (N n)) ≡ true
  pub some : (n : ℕ) → IsSome (N n) → n ≢ root → entries_of (N n) ≢ []

-- the list, whatever room the pages have
pub record Listed (root : ℕ) (N : Nodes) (list : List ℕ) : Type 0 where
  pub first : first_of (N root) ≡ first_page list
  pub linked : are_linked N 0 list ≡ true
  pub apart : is_apart list ≡ true
  pub level : (n : ℕ) → IsSome (N n) → level_of (N n) ≡ cond (has n list) 1 0
  pub within : (n : ℕ) → has n list ≡ true → IsSome (N n) × (n ≢ 0)

pub record Heap (root : ℕ) (schema : List Column) (N : Nodes) (list : List ℕ) : Type 0 where
  pub stands : Stands root schema N
  pub listed : Listed root N list
  pub rooms : (n : ℕ) → IsSome (N n) → room_at (N n) ≡ has n list

-- the same pages with other links
pub record Alike (N M : Nodes) : Type 0 where
  pub some : (n : ℕ) → is_some (M n) ≡ is_some (N n)
  pub kind : (n : ℕ) → kind_of (M n) ≡ kind_of (N n)
  pub room : (n : ℕ) → room_at (M n) ≡ room_at (N n)
  pub entries : (n : ℕ) → entries_of (M n) ≡ entries_of (N n)

pub Alike-same : (N : Nodes) → Alike N N
Alike-same N = record { some = λ n. refl; kind = λ n. refl; room = λ n. refl; entries = λ n. refl }

Alike-joined : (root page first : ℕ) (N : Nodes) → Alike N (joined root page first N)
Alike-joined root page first N = record {
  some = λ n. unlinked_kept is_some (λ l a x. refl) (λ v x. refl) (λ v x. refl) (λ v x. refl) root page first n N;
  kind = λ n. unlinked_kept kind_of (λ l a x. refl) (λ v x. refl) (λ v x. refl) (λ v x. refl) root page first n N;
  room = λ n. unlinked_kept room_at (λ l a x. refl) (λ v x. refl) (λ v x. refl) (λ v x. refl) root page first n N;
  entries = λ n. unlinked_kept entries_of (λ l a x. refl) (λ v x. refl) (λ v x. refl) (λ v x. refl) root page first n N;
}

Alike-left : (root page before after : ℕ) (N : Nodes) → Alike N (left root page before after N)
Alike-left root page before after N = record {
  some = λ n. unlinked_left is_some (λ l a x. refl) (λ v x. refl) (λ v x. refl) (λ v x. refl) root page before after n N;
  kind = λ n. unlinked_left kind_of (λ l a x. refl) (λ v x. refl) (λ v x. refl) (λ v x. refl) root page before after n N;
  room = λ n. unlinked_left room_at (λ l a x. refl) (λ v x. refl) (λ v x. refl) (λ v x. refl) root page before after n N;
  entries = λ n. unlinked_left entries_of (λ l a x. refl) (λ v x. refl) (λ v x. refl) (λ v x. refl) root page before after n N;
}

pub Alike-turned : (root page : ℕ) (turn : Turn) (N : Nodes) → Alike N (turned root page turn N)
Alike-turned root page Stays N = Alike-same N
Alike-turned root page (Joins first) N = Alike-joined root page first N
Alike-turned root page (Leaves before after) N = Alike-left root page before after N

pub Stands-alike : (root : ℕ) (schema : List Column) (N M : Nodes) → Alike N M → Stands root schema N → Stands root schema M
Stands-alike root schema N M a s = record {
  root_some = a.some root ∙ s.root_some;
  low = λ n is. s.low n (sym (a.some n) ∙ is);
  kind = λ n is. a.kind n ∙ s.kind n (sym (a.some n) ∙ is);
  records = λ n. ap (list_all (is_record schema)) (a.entries n) ∙ s.records n;
  some = λ n is other none. s.some n (sym (a.some n) ∙ is) other (sym (a.entries n) ∙ none);
}

-- ---- a page that joins
first_set : (v : ℕ) (o : Option Node) → IsSome o → first_of (option_map (with_first v) o) ≡ v
first_set v None is = absurd (true≢false (sym is))
first_set v (Some y) is = refl

some_there : (o : Option Node) → IsSome o → (x : Node) × (o ≡ Some x)
some_there None is = absurd (true≢false (sym is))
some_there (Some x) is = (x, refl)

level_placed : (l a : ℕ) (o : Option Node) → IsSome o → level_of (option_map (placed l a) o) ≡ l
level_placed l a None is = absurd (true≢false (sym is))
level_placed l a (Some x) is = refl

module _ (root page first : ℕ) (N : Nodes) (list : List ℕ) (s : IsSome (N root)) (there : IsSome (N page)) (first_is : first ≡ first_page list) (some : page ≢ 0) (none : has page list ≡ false) (l : Listed root N list) where
  abbrev one : Nodes
  one = with_node page (placed 1 first) N

  abbrev two : Nodes
  two = if_page first (with_node first (with_before page)) one

  abbrev M : Nodes
  M = joined root page first N

  join_level : (n : ℕ) → level_of (M n) ≡ level_of (one n)
  join_level n = keeps level_of (with_first page) (λ x. refl) root n two ∙ keeps_if level_of (with_before page) (λ x. refl) first n one

  join_some : (n : ℕ) → IsSome (M n) → IsSome (N n)
  join_some n is = sym ((Alike-joined root page first N).some n) ∙ is

  some_join : (n : ℕ) → IsSome (N n) → IsSome (M n)
  some_join n is = (Alike-joined root page first N).some n ∙ is

  join_levels : (n : ℕ) → IsSome (M n) → level_of (M n) ≡ cond (has n (page ∷ list)) 1 0
  join_levels n is = elim (page == n) as (λ b. (page == n) ≡ b → level_of (M n) ≡ cond (has n (page ∷ list)) 1 0) [
    | true ↦ λ same. let e = eqb-true page n same in
        subst (λ m. level_of (M m) ≡ cond (has m (page ∷ list)) 1 0) e
        (join_level page ∙ ap level_of (node_same page page (placed 1 first) N refl) ∙ level_placed 1 first (N page) there ∙ ap (λ b. cond b 1 0) (sym (has_here page list)))
    | false ↦ λ differs.
        let other : page ≢ n = λ e. true≢false (sym (eq-eqb page n e) ∙ differs) in
        join_level n ∙ ap level_of (node_other page n (placed 1 first) N other) ∙ l.level n (join_some n is) ∙ ap (λ b. cond (b || has n list) 1 0) (sym (ne_eqb n page (λ e. other (sym e))))
  ] refl

  join_within : (n : ℕ) → has n (page ∷ list) ≡ true → IsSome (M n) × (n ≢ 0)
  join_within n is = elim (nat_eq n page) as (λ b. nat_eq n page ≡ b → IsSome (M n) × (n ≢ 0)) [
    | true ↦ λ same. let e = eqb-true n page same in (some_join n (subst (λ m. IsSome (N m)) (sym e) there), λ z. some (sym e ∙ z))
    | false ↦ λ other. let w = l.within n (sym (ap (λ b. b || has n list) other) ∙ is) in (some_join n w.0, w.1)
  ] refl

  pub Listed-joined : Listed root (joined root page first N) (page ∷ list)
  Listed-joined =
      let x = some_there (N page) there in
      record {
        first = ap first_of (node_same root root (with_first page) two refl) ∙ first_set page (two root) (keeps_if is_some (with_before page) (λ y. refl) first root one ∙ keeps is_some (placed 1 first) (λ y. refl) page root N ∙ s);
        linked = joined_links root page first N x.0 x.1 list first_is some none l.apart l.within l.linked;
        apart = apart_more page list none l.apart;
        level = join_levels;
        within = join_within;
      }

-- ---- a page that leaves
module _ (root page before after : ℕ) (N : Nodes) (xs ys : List ℕ) (s : IsSome (N root)) (there : IsSome (N page)) (before_is : before ≡ last_of 0 xs) (after_is : after ≡ first_page ys) (l : Listed root N (xs ++ page ∷ ys)) where
  abbrev off : Nodes
  off = with_node page (placed 0 0) N

  abbrev closed : Nodes
  closed = linked_before root before after off

  abbrev L : Nodes
  L = left root page before after N

  leave_level : (n : ℕ) → level_of (L n) ≡ level_of (off n)
  leave_level n = keeps_if level_of (with_before before) (λ x. refl) after n closed ∙ kept_linked level_of root before after n off (λ x. refl) (λ x. refl)

  leave_some : (n : ℕ) → IsSome (L n) → IsSome (N n)
  leave_some n is = sym ((Alike-left root page before after N).some n) ∙ is

  none : has page (xs ++ ys) ≡ false
  none = (apart_without page xs ys l.apart).1

  leave_levels : (n : ℕ) → IsSome (L n) → level_of (L n) ≡ cond (has n (xs ++ ys)) 1 0
  leave_levels n is = elim (page == n) as (λ b. (page == n) ≡ b → level_of (L n) ≡ cond (has n (xs ++ ys)) 1 0) [
    | true ↦ λ same. let e = eqb-true page n same in
        subst (λ m. level_of (L m) ≡ cond (has m (xs ++ ys)) 1 0) e
        (leave_level page ∙ ap level_of (node_same page page (placed 0 0) N refl) ∙ level_placed 0 0 (N page) there ∙ ap (λ b. cond b 1 0) (sym none))
    | false ↦ λ differs.
        let other : page ≢ n = λ e. true≢false (sym (eq-eqb page n e) ∙ differs) in
        leave_level n ∙ ap level_of (node_other page n (placed 0 0) N other) ∙ l.level n (leave_some n is) ∙ ap (λ b. cond b 1 0) (has_others n page xs ys (λ e. other (sym e)))
  ] refl

  leave_within : (n : ℕ) → has n (xs ++ ys) ≡ true → IsSome (L n) × (n ≢ 0)
  leave_within n is =
      let other : n ≢ page = differ n page (xs ++ ys) is none in
      let w = l.within n (has_others n page xs ys other ∙ is) in
      ((Alike-left root page before after N).some n ∙ w.0, w.1)

  zero_none : has 0 (xs ++ page ∷ ys) ≡ false
  zero_none = by (has 0 (xs ++ page ∷ ys)) refl
    where
      by : (b : Bool) → has 0 (xs ++ page ∷ ys) ≡ b → b ≡ false
      by true is = absurd ((l.within 0 is).1 refl)
      by false is = refl

  pub Listed-left : Listed root (left root page before after N) (xs ++ ys)
  Listed-left = record {
    first = left_first root page before after N xs ys s before_is after_is (λ n had. (l.within n had).1) l.first;
    linked = unlinked N L page after before (left_unlinks root page before after N) ys after_is 0 xs before_is l.apart zero_none l.within l.linked;
    apart = (apart_without page xs ys l.apart).0;
    level = leave_levels;
    within = leave_within;
  }

-- ---- the turn of a page whose entries have changed
pub level_says : (b : Bool) (l : ℕ) → l ≡ cond b 1 0 → nat_eq l 1 ≡ b
level_says true l is = eq-eqb l 1 is
level_says false l is = ne_eqb l 1 (λ e. one_zero (sym e ∙ is))
  where
    one_zero : ◌≡◌ {A = ℕ} 1 0 → ⊥
    one_zero e = omega (arith, e)

-- the pages and the list, where all pages but one are on the list as they have room
pub record AllBut (root : ℕ) (schema : List Column) (page : ℕ) (N : Nodes) (list : List ℕ) : Type 0 where
  pub stands : Stands root schema N
  pub there : IsSome (N page)
  pub listed : Listed root N list
  pub rooms : (n : ℕ) → IsSome (N n) → n ≢ page → room_at (N n) ≡ has n list

-- a turn by the page's node as it is
pub record Fits (root page : ℕ) (N : Nodes) (turn : Turn) : Type 0 where
  pub first : Option Node
  pub head : Head
  pub room : ℕ
  pub turn_is : IsTurn first head room turn
  pub first_is : first_of first ≡ first_of (N root)
  pub level_is : head.level ≡ level_of (N page)
  pub after_is : head.a ≡ after_of (N page)
  pub before_is : head.b ≡ before_of (N page)
  pub room_is : nat_le 1006 room ≡ room_at (N page)

pub record Turned (root : ℕ) (schema : List Column) (page : ℕ) (turn : Turn) (N : Nodes) : Type 0 where
  pub list : List ℕ
  pub heap : Heap root schema (turned root page turn N) list

at_page : (page : ℕ) (N M : Nodes) (list : List ℕ) → ((n : ℕ) → is_some (M n) ≡ is_some (N n)) → ((n : ℕ) → room_at (M n) ≡ room_at (N n)) → room_at (N page) ≡ has page list → ((n : ℕ) → IsSome (N n) → n ≢ page → room_at (N n) ≡ has n list)
    → (n : ℕ) → IsSome (M n) → room_at (M n) ≡ has n list
at_page page N M list some room here others n is = elim (page == n) as (λ b. (page == n) ≡ b → room_at (M n) ≡ has n list) [
  | true ↦ λ same. subst (λ m. room_at (M m) ≡ has m list) (eqb-true page n same) (room page ∙ here)
  | false ↦ λ differs. room n ∙ others n (sym (some n) ∙ is) (λ e. true≢false (sym (eq-eqb page n (sym e)) ∙ differs))
] refl

pub turns : (root : ℕ) (schema : List Column) (page : ℕ) (turn : Turn) (N : Nodes) (list : List ℕ) → AllBut root schema page N list → Fits root page N turn → Turned root schema page turn N
turns root schema page Stays N list a f = record {
  list = list;
  heap = record {
    stands = a.stands;
    listed = a.listed;
    rooms = at_page page N N list (λ n. refl) (λ n. refl) (sym f.room_is ∙ sym f.turn_is ∙ ap (λ l. nat_eq l 1) f.level_is ∙ level_says (has page list) (level_of (N page)) (a.listed.level page a.there)) a.rooms;
  };
}
turns root schema page (Joins first) N list a f =
    let alike = Alike-turned root page (Joins first) N in
    let none : has page list ≡ false = sym (level_says (has page list) (level_of (N page)) (a.listed.level page a.there)) ∙ ap (λ l. nat_eq l 1) (sym f.level_is) ∙ f.turn_is.0 in
    record {
      list = page ∷ list;
      heap = record {
        stands = Stands-alike root schema N (joined root page first N) alike a.stands;
        listed = Listed-joined root page first N list a.stands.root_some a.there (f.turn_is.2 ∙ f.first_is ∙ a.listed.first) (a.stands.low page a.there).0 none a.listed;
        rooms = at_page page N (joined root page first N) (page ∷ list) alike.some alike.room (sym f.room_is ∙ f.turn_is.1 ∙ sym (has_here page list)) (λ n is other. a.rooms n is other ∙ ap (λ b. b || has n list) (sym (ne_eqb n page other)));
      };
    }
turns root schema page (Leaves before after) N list a f =
    let alike = Alike-turned root page (Leaves before after) N in
    let had : has page list ≡ true = sym (level_says (has page list) (level_of (N page)) (a.listed.level page a.there)) ∙ ap (λ l. nat_eq l 1) (sym f.level_is) ∙ f.turn_is.0 in
    let w = within_list page list had in
    let l : Listed root N (w.front ++ page ∷ w.back) = subst (Listed root N) w.is a.listed in
    let links = linked_at N 0 page w.front w.back l.linked in
    let before_is = f.turn_is.2 ∙ f.before_is ∙ links.0 in
    let after_is = f.turn_is.3 ∙ f.after_is ∙ links.1 in
    record {
      list = w.front ++ w.back;
      heap = record {
        stands = Stands-alike root schema N (left root page before after N) alike a.stands;
        listed = Listed-left root page before after N w.front w.back a.stands.root_some a.there before_is after_is l;
        rooms = at_page page N (left root page before after N) (w.front ++ w.back) alike.some alike.room (sym f.room_is ∙ f.turn_is.1 ∙ sym (apart_without page w.front w.back l.apart).1)
            (λ n is other. a.rooms n is other ∙ ap (has n) w.is ∙ has_others n page w.front w.back other);
      };
    }

-- ---- other entries in a page
pub put_same : (p n : ℕ) (x : Option Node) (N : Nodes) → p ≡ n → put_node p x N n ≡ x
put_same p n x N same = ap (λ b. cond b x (N n)) (eq-eqb p n same)

pub put_other : (p n : ℕ) (x : Option Node) (N : Nodes) → p ≢ n → put_node p x N n ≡ N n
put_other p n x N other = ap (λ b. cond b x (N n)) (ne_eqb p n other)

-- what is so of the page and of the others is so of all
pub by_page : (P : ℕ → Option Node → Type 0) (p : ℕ) (x : Option Node) (N : Nodes) → P p x → ((n : ℕ) → p ≢ n → P n (N n)) → (n : ℕ) → P n (put_node p x N n)
by_page P p x N here others n = elim (p == n) as (λ b. (p == n) ≡ b → P n (cond b x (N n))) [
  | true ↦ λ same. subst (λ m. P m x) (eqb-true p n same) here
  | false ↦ λ differs. others n (λ e. true≢false (sym (eq-eqb p n e) ∙ differs))
] refl

-- a node of a heap, at a page or a fresh one
pub record Fills (root : ℕ) (schema : List Column) (page : ℕ) (y : Node) : Type 0 where
  pub low : (page ≢ 0) × (page < 65536)
  pub kind : y.head.kind ≡ 1
  pub records : list_all (is_record schema) y.entries ≡ true
  pub some : page ≢ root → y.entries ≢ []

pub Stands-put : (root : ℕ) (schema : List Column) (page : ℕ) (y : Node) (N : Nodes) → Fills root schema page y → Stands root schema N → Stands root schema (put_node page (Some y) N)
Stands-put root schema page y N f s = record {
  root_some = by_page (λ n o. n ≡ root → IsSome o) page (Some y) N (λ same. refl) (λ n other same. subst (λ m. IsSome (N m)) (sym same) s.root_some) root refl;
  low = by_page (λ n o. IsSome o → (n ≢ 0) × (n < 65536)) page (Some y) N (λ is. f.low) (λ n other is. s.low n is);
  kind = by_page (λ n o. IsSome o → kind_of o ≡ 1) page (Some y) N (λ is. f.kind) (λ n other is. s.kind n is);
  records = by_page (λ n o. list_all (is_record schema) (entries_of o) ≡ true) page (Some y) N f.records (λ n other. s.records n);
  some = by_page (λ n o. IsSome o → n ≢ root → entries_of o ≢ []) page (Some y) N (λ is other. f.some other) (λ n other is. s.some n is);
}

-- the page's links are as they were
pub record SameLinks (o : Option Node) (y : Node) : Type 0 where
  pub level : y.head.level ≡ level_of o
  pub after : y.head.a ≡ after_of o
  pub before : y.head.b ≡ before_of o
  pub first : y.head.c ≡ first_of o

pub Listed-put : (root page : ℕ) (y : Node) (N : Nodes) (list : List ℕ) → IsSome (N page) → SameLinks (N page) y → Listed root N list → Listed root (put_node page (Some y) N) list
Listed-put root page y N list there same l = record {
  first = by_page (λ n o. n ≡ root → first_of o ≡ first_page list) page (Some y) N (λ e. same.first ∙ ap (λ m. first_of (N m)) e ∙ l.first) (λ n other e. ap (λ m. first_of (N m)) e ∙ l.first) root refl;
  linked = linked_frame N (put_node page (Some y) N) 0 list (λ n had. (
    by_page (λ n o. before_of o ≡ before_of (N n)) page (Some y) N same.before (λ n other. refl) n,
    by_page (λ n o. after_of o ≡ after_of (N n)) page (Some y) N same.after (λ n other. refl) n,
  )) ∙ l.linked;
  apart = l.apart;
  level = by_page (λ n o. IsSome o → level_of o ≡ cond (has n list) 1 0) page (Some y) N (λ is. same.level ∙ l.level page there) (λ n other is. l.level n is);
  within = λ n had. (by_page (λ n o. IsSome (N n) → IsSome o) page (Some y) N (λ is. refl) (λ n other is. is) n (l.within n had).0, (l.within n had).1);
}

-- a page that wasn't there, of level 0
pub none_there : (root page : ℕ) (N : Nodes) (list : List ℕ) → N page ≡ None → Listed root N list → has page list ≡ false
none_there root page N list none l = by (has page list) refl
  where
    by : (b : Bool) → has page list ≡ b → b ≡ false
    by true is = absurd (true≢false (sym (l.within page is).0 ∙ ap is_some none))
    by false is = refl

pub Listed-fresh : (root page : ℕ) (y : Node) (N : Nodes) (list : List ℕ) → N page ≡ None → IsSome (N root) → y.head.level ≡ 0 → Listed root N list → Listed root (put_node page (Some y) N) list
Listed-fresh root page y N list none root_some level l =
    let not_there = none_there root page N list none l in
    record {
      first = by_page (λ n o. n ≡ root → first_of o ≡ first_page list) page (Some y) N (λ e. absurd (true≢false (sym root_some ∙ ap (λ m. is_some (N m)) (sym e) ∙ ap is_some none))) (λ n other e. ap (λ m. first_of (N m)) e ∙ l.first) root refl;
      linked = linked_frame N (put_node page (Some y) N) 0 list (λ n had.
          let other : page ≢ n = λ e. differ n page list had not_there (sym e) in
          (ap before_of (put_other page n (Some y) N other), ap after_of (put_other page n (Some y) N other))) ∙ l.linked;
      apart = l.apart;
      level = by_page (λ n o. IsSome o → level_of o ≡ cond (has n list) 1 0) page (Some y) N (λ is. level ∙ ap (λ b. cond b 1 0) (sym not_there)) (λ n other is. l.level n is);
      within = λ n had. (by_page (λ n o. IsSome (N n) → IsSome o) page (Some y) N (λ is. refl) (λ n other is. is) n (l.within n had).0, (l.within n had).1);
    }

-- ---- a page that goes, and isn't on the list
pub Heap-without : (root : ℕ) (schema : List Column) (page : ℕ) (N : Nodes) (list : List ℕ) → page ≢ root → has page list ≡ false → Stands root schema N → Listed root N list → ((n : ℕ) → IsSome (N n) → n ≢ page → room_at (N n) ≡ has n list)
    → Heap root schema (put_node page None N) list
Heap-without root schema page N list other none s l rooms = record {
  stands = record {
    root_some = ap is_some (put_other page root None N other) ∙ s.root_some;
    low = by_page (λ n o. IsSome o → (n ≢ 0) × (n < 65536)) page None N (λ is. absurd (true≢false (sym is))) (λ n o is. s.low n is);
    kind = by_page (λ n o. IsSome o → kind_of o ≡ 1) page None N (λ is. absurd (true≢false (sym is))) (λ n o is. s.kind n is);
    records = by_page (λ n o. list_all (is_record schema) (entries_of o) ≡ true) page None N refl (λ n o. s.records n);
    some = by_page (λ n o. IsSome o → n ≢ root → entries_of o ≢ []) page None N (λ is. absurd (true≢false (sym is))) (λ n o is. s.some n is);
  };
  listed = record {
    first = ap first_of (put_other page root None N other) ∙ l.first;
    linked = linked_frame N (put_node page None N) 0 list (λ n had.
        let apart : page ≢ n = λ e. differ n page list had none (sym e) in
        (ap before_of (put_other page n None N apart), ap after_of (put_other page n None N apart))) ∙ l.linked;
    apart = l.apart;
    level = by_page (λ n o. IsSome o → level_of o ≡ cond (has n list) 1 0) page None N (λ is. absurd (true≢false (sym is))) (λ n o is. l.level n is);
    within = λ n had. (ap is_some (put_other page n None N (λ e. differ n page list had none (sym e))) ∙ (l.within n had).0, (l.within n had).1);
  };
  rooms = by_page (λ n o. IsSome o → room_at o ≡ has n list) page None N (λ is. absurd (true≢false (sym is))) (λ n apart is. rooms n is (λ e. apart (sym e)));
}
