-- A page that takes a child of the page beside, as the pages are held.
use Rattle.std.proofs.Common.{◌≡◌, ℕ, suc, ◌-◌, ◌<◌, ◌≤◌, Bool, true, false, cond, List, [], length, Option, Some, None, IsSome, refl, ap, sym, ◌∙◌, subst, inl, inr, ◌⊎◌, arith, true≢false}
use Rattle.std.specs.Prelude.{nat_eq, slice_get, Result, Ok, Err}
use Rattle.std.specs.FinMap.Entries.{put}
use Rattle.std.proofs.lemmas.Bool.Decides.{nat_tests}
use Rattle.std.proofs.lemmas.Bool.{and_right, cases_eq}
use Rattle.sb_forms.specs.Pages.{zeros}
use Rattle.sb_ctx.specs.View.{HeldPage, View, held_at, page_of, room_of, with_page}
use Rattle.sb_ctx.proofs.ViewLaws.{page_of-same, page_of-other, room_of-page}
use Rattle.sb_node.specs.declared.head.Head.{Head}
use Rattle.sb_node.specs.Entries.{Entry, key_cmp}
use Rattle.sb_node.specs.Page.{Node, has_form, node_in, node_of, with_entries}
use Rattle.sb_node.proofs.Edited.{node_of-form}
use Rattle.sb_node.proofs.Runs.{form_size}
use Rattle.sb_btree.specs.Broken.{held_node, is_of_level}
use Rattle.sb_btree.specs.Held.{IsTreePage}
use Rattle.sb_forms.specs.Read.{all_by, is_bound, is_upto}
use Rattle.sb_btree.specs.Inserts.{IsFree, PutChildAt, is_tree_page}
use Rattle.sb_btree.specs.Removes.{Wrote, TookChild, TakesChild, GaveChild, GivesChild, StopsBeside, taker, entered, page_beside, place_beside}
use Rattle.sb_btree.specs.declared.insertion.Put.{Put}
use Rattle.sb_btree.specs.declared.insertion.Put.TheVariants.{Kept, Done, Split}
use Rattle.sb_btree.specs.declared.walk.Stop.{Stop}
use Rattle.sb_btree.specs.declared.walk.Stop.TheVariants as stop
use Rattle.sb_btree.proofs.Descending.{positive}
use Rattle.sb_btree.proofs.Placing.{all_by_fails}
use Rattle.sb_btree.proofs.Halved.{free_page_of}
use Rattle.sb_btree.proofs.Shrinking.{no_node}
use Rattle.sb_btree.proofs.Takes.{held_other}
use Rattle.sb_btree.proofs.Cutting.{wrote_given}

-- ---- held pages with nodes
abbrev pub HasNode : View → ℕ → Type 0
HasNode c x = IsSome (held_node (page_of c x))

pub node_some : (o : Option Node) (n : Node) → o ≡ Some n → IsSome o
node_some o n is = subst (λ (x : Option Node). IsSome x) (sym is) refl

pub has_room : (c : View) (x : ℕ) → HasNode c x → room_of c x ≡ 4096
has_room c x h = by (page_of c x) refl h
  where
    formed : (bytes : List ℕ) (b : Bool) → has_form bytes ≡ b → IsSome (cond b (Some (node_in bytes)) None) → has_form bytes ≡ true
    formed bytes true is h = is
    formed bytes false is h = absurd (true≢false (sym h))

    by : (o : Option (List ℕ)) → page_of c x ≡ o → IsSome (held_node o) → room_of c x ≡ 4096
    by None there h = absurd (true≢false (sym h))
    by (Some bytes) there h = room_of-page c x bytes there ∙ form_size bytes (formed bytes (has_form bytes) refl h)

pub has_held : (o : Option (List ℕ)) → IsSome (held_node o) → IsSome o
has_held None h = absurd (true≢false (sym h))
has_held (Some bytes) h = refl

-- a free page has none
pub free_bare : (c : View) (x : ℕ) → IsFree c x → HasNode c x → ⊥
free_bare c x free h = true≢false (sym h ∙ ap (λ o. is_some_node (held_node o)) (free_page_of c x free) ∙ ap is_some_node no_node)
  where
    is_some_node : Option Node → Bool
    is_some_node o = elim o [ None ↦ false | Some n ↦ true ]

wrote_page : (old new : View) (page : ℕ) (bytes : List ℕ) → IsSome (page_of old page) → new ≡ with_page page bytes old → held_node (page_of new page) ≡ node_of bytes
wrote_page old new page bytes held changed = ap (λ (c : View). held_node (page_of c page)) changed ∙ ap held_node (page_of-same old page bytes held)

pub wrote_node : (old new : View) (page : ℕ) (n : Node) → IsSome (page_of old page) → Wrote old new page n → held_node (page_of new page) ≡ Some n
wrote_node old new page n held w = wrote_page old new page w.bytes held w.changed ∙ w.node_is

-- pages with nodes keep nodes where pages with nodes are written
pub has_with : (c : View) (q : ℕ) (bytes : List ℕ) (n : Node) → node_of bytes ≡ Some n → (x : ℕ) → HasNode c x → HasNode (with_page q bytes c) x
has_with c q bytes n is x h = elim (cases_eq q x) [
  | inl e ↦ subst (λ y. HasNode (with_page q bytes c) y) e (node_some (held_node (page_of (with_page q bytes c) q)) n (ap held_node (page_of-same c q bytes (has_held (page_of c q) (subst (HasNode c) (sym e) h))) ∙ is))
  | inr ne ↦ subst (λ (o : Option (List ℕ)). IsSome (held_node o)) (sym (page_of-other c q x bytes ne)) h
]

pub put_nodes : (mid new : View) (l q : ℕ) (n : Node) (bound : List ℕ) (child : ℕ) (put_is : Put) → PutChildAt mid new l q (Some n) bound child (Ok put_is) → (x : ℕ) → HasNode mid x → HasNode new x
put_nodes mid new l q n bound child Kept h x has = absurd h
put_nodes mid new l q n bound child Done h x has = subst (λ (c : View). HasNode c x) (sym h.3.1.changed) (has_with mid q h.3.1.bytes (with_entries (put key_cmp bound h.0 n.entries) n) h.3.1.node_is x has)
put_nodes mid new l q n bound child (Split top r) h x has =
    let t = h.3.2 in
    let ne : r ≡ x → ⊥ = (λ e. free_bare mid x (subst (λ y. IsFree mid y) e t.free) has) in
    let first : HasNode (with_page r zeros mid) x = subst (λ (o : Option (List ℕ)). IsSome (held_node o)) (sym (page_of-other mid r x zeros ne)) has in
    let second : HasNode (with_page q t.left (with_page r zeros mid)) x = has_with (with_page r zeros mid) q t.left (with_entries t.lesser n) t.left_is x first in
    subst (λ (c : View). HasNode c x) (sym t.changed) (has_with (with_page q t.left (with_page r zeros mid)) r t.right t.other t.right_is x second)

-- and the others are as they were
pub put_others : (mid new : View) (l q : ℕ) (n : Node) (bound : List ℕ) (child : ℕ) (put_is : Put) → PutChildAt mid new l q (Some n) bound child (Ok put_is) → (x : ℕ) → HasNode mid x → (x ≡ q → ⊥) → page_of new x ≡ page_of mid x
put_others mid new l q n bound child Kept h x has ne = absurd h
put_others mid new l q n bound child Done h x has ne = ap (λ (c : View). page_of c x) h.3.1.changed ∙ page_of-other mid q x h.3.1.bytes (λ e. ne (sym e))
put_others mid new l q n bound child (Split top r) h x has ne =
    let t = h.3.2 in
    let away : r ≡ x → ⊥ = (λ e. free_bare mid x (subst (λ y. IsFree mid y) e t.free) has) in
    ap (λ (c : View). page_of c x) t.changed ∙ page_of-other (with_page q t.left (with_page r zeros mid)) r x t.right away ∙ page_of-other (with_page r zeros mid) q x t.left (λ e. ne (sym e)) ∙ page_of-other mid r x zeros away

-- ---- a page takes a child
alike_page : (c d : View) (x : ℕ) → held_at c x ≡ held_at d x → page_of c x ≡ page_of d x
alike_page c d x e = ap (λ (o : Option HeldPage). page_in o) e
  where
    page_in : Option HeldPage → Option (List ℕ)
    page_in o = elim o [ None ↦ None | Some h ↦ Some h.now ]

pub took_nodes : (old new : View) (l b : ℕ) (other : Node) (bound : List ℕ) (child : ℕ) (in_front : Bool) (put_is : Put) → TookChild old new l b other bound child in_front put_is → (x : ℕ) → HasNode old x → HasNode new x
took_nodes old new l b other bound child in_front put_is t x has =
    put_nodes t.mid new l b (taker in_front child other) bound (entered in_front child other) put_is t.puts x
    (elim (cases_eq x b) [
      | inl e ↦ subst (HasNode t.mid) (sym e) (node_some (held_node (page_of t.mid b)) (taker in_front child other) t.there)
      | inr ne ↦ subst (λ (o : Option (List ℕ)). IsSome (held_node o)) (sym (alike_page t.mid old x (t.alike x ne))) has
    ])

pub took_others : (old new : View) (l b : ℕ) (other : Node) (bound : List ℕ) (child : ℕ) (in_front : Bool) (put_is : Put) → TookChild old new l b other bound child in_front put_is → (x : ℕ) → HasNode old x → (x ≡ b → ⊥) → page_of new x ≡ page_of old x
took_others old new l b other bound child in_front put_is t x has ne =
    let same = alike_page t.mid old x (t.alike x ne) in
    put_others t.mid new l b (taker in_front child other) bound (entered in_front child other) put_is t.puts x (subst (λ (o : Option (List ℕ)). IsSome (held_node o)) (sym same) has) ne ∙ same

module _ (old mid new : View) (l page : ℕ) (bytes : List ℕ) (head : Head) (bound : List ℕ) (child : ℕ) (is : IsTreePage (page_of old page) l bytes head) where
  node_is : held_node (page_of old page) ≡ Some (node_in bytes)
  node_is = ap held_node is.held_is ∙ node_of-form bytes is.form

  held : IsSome (page_of old page)
  held = subst (λ (o : Option (List ℕ)). IsSome o) (sym is.held_is) refl

  like : is_of_level l (node_in bytes).head ≡ true
  like = ap (is_of_level l) (sym is.head_is) ∙ is.level_is

  pub front_like : Wrote old mid page (taker true child (node_in bytes)) → is_tree_page l (held_node (page_of mid page)) ≡ true
  front_like w = ap (is_tree_page l) (wrote_node old mid page (taker true child (node_in bytes)) held w) ∙ like

  pub took_front : (outcome : Result Put Stop) → Wrote old mid page (taker true child (node_in bytes)) → PutChildAt mid new l page (held_node (page_of mid page)) bound head.a outcome → TakesChild old new l page (held_node (page_of old page)) bound child true outcome
  took_front outcome w puts =
      let there = wrote_node old mid page (taker true child (node_in bytes)) held w in
      subst (λ o. TakesChild old new l page o bound child true outcome) (sym node_is)
      (by outcome (subst (λ o. PutChildAt mid new l page o bound head.a outcome) there puts))
    where
      by : (outcome : Result Put Stop) → PutChildAt mid new l page (Some (taker true child (node_in bytes))) bound head.a outcome → TakesChild old new l page (Some (node_in bytes)) bound child true outcome
      by (Ok put_is) h = record {
        like = like;
        mid = mid;
        given = wrote_given old mid page (taker true child (node_in bytes)) w;
        alike = λ x ne. ap (λ (c : View). held_at c x) w.changed ∙ held_other old page x w.bytes (λ e. ne (sym e));
        there = wrote_node old mid page (taker true child (node_in bytes)) held w;
        puts = subst (λ a. PutChildAt mid new l page (Some (taker true child (node_in bytes))) bound a (Ok put_is)) (ap (λ (h : Head). h.a) is.head_is) h;
      }
      by (Err (stop.Need x)) h = absurd h.3
      by (Err stop.Fresh) h = h.3.1
      by (Err (stop.Broken x)) h = (h.3.0, held, h.3.1)
      by (Err stop.NoMemory) h = tt

pub like_node : (l : ℕ) (o : Option Node) → is_tree_page l o ≡ true → IsSome o
like_node l None is = absurd (true≢false (sym is))
like_node l (Some n) is = refl

pub takes_nodes : (old new : View) (l b : ℕ) (bound : List ℕ) (child : ℕ) (in_front : Bool) (put_is : Put) → TakesChild old new l b (held_node (page_of old b)) bound child in_front (Ok put_is) → (x : ℕ) → HasNode old x → HasNode new x
takes_nodes old new l b bound child in_front put_is t x has = by (held_node (page_of old b)) t
  where
    by : (o : Option Node) → TakesChild old new l b o bound child in_front (Ok put_is) → HasNode new x
    by None t = absurd t
    by (Some n) t = took_nodes old new l b n bound child in_front put_is t x has

-- ---- a child goes to the page beside
pub long_bound : (es : List Entry) (j : ℕ) (e : Entry) → slice_get es j ≡ Some e → 602 < length e.0 → all_by is_bound es ≡ false
long_bound es j e at long = all_by_fails is_bound es j e at (and_right (nat_eq (length e.1) 4) (is_upto (length e.0) 602) (over (length e.0) long))
  where
    over : (n : ℕ) → 602 < n → is_upto n 602 ≡ false
    over n h = grind (arith, nat_tests)

-- the place of the page beside
pub beside_place : (i k : ℕ) → ((i ≡ 0) × (k ≡ 1)) ⊎ ((i ≡ 0 → ⊥) × (k ≡ i - 1)) → k ≡ place_beside i
beside_place i k (inl e) = e.1 ∙ sym (ap place_beside e.0)
beside_place i k (inr e) = e.1 ∙ sym (ap (λ b. cond b 1 (i - 1)) (positive i (omega (arith, e.0))))

module _ (old : View) (l m page : ℕ) (n : Node) (i child left : ℕ) (down : l ≡ suc m) (at : held_node (page_of old page) ≡ Some n) where
  pub gave_stop : (new : View) (s : Stop) → StopsBeside old new m page n i s → GivesChild old new l page (held_node (page_of old page)) i child left (Err s)
  gave_stop new s stops = subst (λ k. GivesChild old new k page (held_node (page_of old page)) i child left (Err s)) (sym down) (subst (λ o. GivesChild old new (suc m) page o i child left (Err s)) (sym at) stops)

  pub gave : (mid new : View) (k b : ℕ) (e : Entry) (bound : List ℕ) (in_front : Bool) (put_is : Put) → k ≡ m → slice_get n.entries (i - 1) ≡ Some e → length e.0 ≤ 602 → b ≡ page_beside i n → bound ≡ e.0 → in_front ≡ nat_eq i 0
      → TakesChild old mid k b (held_node (page_of old b)) bound left in_front (Ok put_is) → new ≡ with_page child [] mid → GivesChild old new l page (held_node (page_of old page)) i child left (Ok put_is)
  gave mid new k b e bound in_front put_is low between short beside same front t changed =
      let one = subst (λ j. TakesChild old mid j b (held_node (page_of old b)) bound left in_front (Ok put_is)) low t in
      let two = subst (λ x. TakesChild old mid m x (held_node (page_of old x)) bound left in_front (Ok put_is)) beside one in
      let three = subst (λ x. TakesChild old mid m (page_beside i n) (held_node (page_of old (page_beside i n))) x left in_front (Ok put_is)) same two in
      let four = subst (λ x. TakesChild old mid m (page_beside i n) (held_node (page_of old (page_beside i n))) e.0 left x (Ok put_is)) front three in
      let g : GaveChild old new m n i child left put_is = by (held_node (page_of old (page_beside i n))) refl four in
      subst (λ j. GivesChild old new j page (held_node (page_of old page)) i child left (Ok put_is)) (sym down) (subst (λ o. GivesChild old new (suc m) page o i child left (Ok put_is)) (sym at) g)
    where
      by : (o : Option Node) → held_node (page_of old (page_beside i n)) ≡ o → TakesChild old mid m (page_beside i n) o e.0 left (nat_eq i 0) (Ok put_is) → GaveChild old new m n i child left put_is
      by None is t = absurd t
      by (Some other) is t = record { bound = e; between = between; short = short; other = other; beside_is = is; mid = mid; took = t; changed = changed }
