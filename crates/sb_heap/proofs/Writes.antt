-- What writes of pages make of the nodes.
use Rattle.std.proofs.Common.{◌≡◌, ◌≢◌, ℕ, ◌+◌, ◌-◌, ◌≤◌, ◌==◌, Bool, true, false, true≢false, cond, List, [], ◌++◌, length, Option, Some, None, IsSome, option_map, refl, sym, ap, subst, ◌∙◌, arith, eqb-true, eq-eqb, ne_eqb, inl, inr, ◌⊎◌}
use Rattle.std.specs.Prelude.{Result, Ok, Err, IfSome}
use Rattle.std.proofs.lemmas.List.{append-nil, drop_all}
use Rattle.std.proofs.lemmas.Option.{same_Some}
use Rattle.sb_forms.specs.Pages.{Pages}
use Rattle.sb_forms.specs.Tree.{Nodes, nodes}
use Rattle.sb_node.specs.declared.head.Head.{Head}
use Rattle.sb_node.specs.Page.{Node, has_form, node_in, node_of, with_head, Becomes}
use Rattle.sb_node.proofs.Edited.{node_of-form}
use Rattle.sb_node.proofs.Runs.{form_size}
use Rattle.sb_bytes.specs.Bytes.{splice}
use Rattle.sb_ctx.specs.View.{View, page_of, room_of, with_page, stored}
use Rattle.sb_ctx.proofs.ViewLaws.{dropped-with_page, page_of-with_page, room_of-page, stored-page, stored-with_page}
use Rattle.sb_heap.specs.Broken.{held_node}
use Rattle.sb_heap.specs.Held.{IsHeadAt}
use Rattle.sb_heap.specs.Links.{LeavesBare, Made, Makes, StayReady, StayWhole, if_page, is_ready, linked_before, put_node, with_after, with_first, with_node}
use Rattle.sb_heap.specs.Links.{IsTurn, turned}
use Rattle.sb_heap.specs.Spots.{Rewrites, RewritesAt, TurnStops}
use Rattle.sb_heap.specs.declared.list.Turn.{Turn}
use Rattle.sb_heap.specs.declared.stop.Stop.{Stop}
use Rattle.sb_heap.specs.declared.stop.Stop.TheVariants as stop
use Rattle.sb_heap.proofs.Weights.{edits-freed, edits-whole}

pub some_none : (x : Node) → Some x ≡ None → ⊥
some_none x e = cc

-- ---- a page that is written whole
pub edited : (c new : View) (n : ℕ) (bytes : List ℕ) → room_of c n ≡ 4096 → length bytes ≡ 4096 → IfSome (page_of c n) (λ page. new ≡ with_page n (splice 0 bytes page) c) → new ≡ with_page n bytes c
edited c new n bytes whole long is = by (page_of c n) whole is
  where
    room : Option (List ℕ) → ℕ
    room o = elim o [ None ↦ 0 | Some page ↦ length page ]

    by : (o : Option (List ℕ)) → room o ≡ 4096 → IfSome o (λ page. new ≡ with_page n (splice 0 bytes page) c) → new ≡ with_page n bytes c
    by None whole is = absurd (omega arith)
    by (Some page) whole is =
        is ∙ ap (λ (l : List ℕ). with_page n l c) (ap (λ (l : List ℕ). bytes ++ l) (drop_all (0 + length bytes) page (omega arith)) ∙ append-nil bytes)

pub room_held : (c : View) (n : ℕ) → room_of c n ≡ 4096 → IsSome (page_of c n)
room_held c n room = by (page_of c n) room
  where
    by : (o : Option (List ℕ)) → elim o as (λ x. ℕ) [ None ↦ 0 | Some page ↦ length page ] ≡ 4096 → IsSome o
    by None room = absurd (omega (arith, room))
    by (Some page) room = refl

pub makes-written : (c : View) (n : ℕ) (bytes : List ℕ) → IsSome (page_of c n) → Makes (put_node n (node_of bytes)) c (with_page n bytes c)
makes-written c n bytes held P = λ i m. (ap node_of (stored-with_page c P n m bytes held) ∙ by (n == m) m) i
  where
    by : (b : Bool) (m : ℕ) → node_of (cond b bytes (stored c P m)) ≡ cond b (node_of bytes) (nodes (stored c P) m)
    by true m = refl
    by false m = refl

pub ready-written : (c : View) (n : ℕ) (bytes : List ℕ) → has_form bytes ≡ true → StayReady c (with_page n bytes c)
ready-written c n bytes form m is = ap is_ready (page_of-with_page c n m bytes) ∙ by (n == m) (page_of c m) is
  where
    by : (b : Bool) (o : Option (List ℕ)) → is_ready o ≡ true → is_ready (cond b (option_map (λ page. bytes) o) o) ≡ true
    by true None is = absurd (true≢false (sym is))
    by true (Some page) is = form
    by false o is = is

bare-written : (c : View) (n : ℕ) (bytes : List ℕ) → IsSome (page_of c n) → has_form bytes ≡ true → LeavesBare c (with_page n bytes c)
bare-written c n bytes held form P m none = elim (n == m) as (λ b. (n == m) ≡ b → (stored (with_page n bytes c) P m ≡ []) ⊎ (stored (with_page n bytes c) P m ≡ stored c P m)) [
  | true ↦ λ same. absurd (some_none (node_in bytes) (sym (node_of-form bytes form) ∙ sym (ap node_of (stored-with_page c P n m bytes held ∙ ap (λ b. cond b bytes (stored c P m)) same)) ∙ none))
  | false ↦ λ other. inr (stored-with_page c P n m bytes held ∙ ap (λ b. cond b bytes (stored c P m)) other)
] refl

pub bare-then : (old mid new : View) → LeavesBare old mid → LeavesBare mid new → LeavesBare old new
bare-then old mid new a b P n none = elim (b P n none) [
  | inl empty ↦ inl empty
  | inr kept ↦ elim (a P n (ap node_of (sym kept) ∙ none)) [ inl empty ↦ inl (kept ∙ empty) | inr same ↦ inr (kept ∙ same) ]
]

no_form : has_form [] ≡ false
unfolding has_form
no_form = refl

bare_bytes : node_of [] ≡ None
bare_bytes = ap (λ t. cond t (Some (node_in [])) None) no_form

pub whole-written : (c : View) (n : ℕ) (bytes : List ℕ) → length bytes ≡ 4096 → StayWhole c (with_page n bytes c)
whole-written c n bytes long m is = ap room (page_of-with_page c n m bytes) ∙ by (n == m) (page_of c m) is
  where
    room : Option (List ℕ) → ℕ
    room o = elim o [ None ↦ 0 | Some page ↦ length page ]

    by : (b : Bool) (o : Option (List ℕ)) → room o ≡ 4096 → room (cond b (option_map (λ page. bytes) o) o) ≡ 4096
    by true None is = is
    by true (Some page) is = long
    by false o is = is

pub Made-written : (c new : View) (n : ℕ) (bytes : List ℕ) → room_of c n ≡ 4096 → has_form bytes ≡ true → IfSome (page_of c n) (λ page. new ≡ with_page n (splice 0 bytes page) c) → Made (put_node n (node_of bytes)) 1 c new (Ok tt)
Made-written c new n bytes room form is =
    let changed = edited c new n bytes room (form_size bytes form) is in
    subst (λ (v : View). Made (put_node n (node_of bytes)) 1 c v (Ok tt)) (sym changed) (record {
      given = dropped-with_page c n bytes;
      edits = edits-whole c n bytes room (form_size bytes form);
      bare = bare-written c n bytes (room_held c n room) form;
      makes = makes-written c n bytes (room_held c n room);
      memory = tt;
    })

-- a page that is given back
pub Made-freed : (c new : View) (n : ℕ) → is_ready (page_of c n) ≡ true → new ≡ with_page n [] c → Made (put_node n None) 1 c new (Ok tt)
Made-freed c new n ready is =
    subst (λ (v : View). Made (put_node n None) 1 c v (Ok tt)) (sym is) (record {
      given = dropped-with_page c n [];
      edits = edits-freed c n;
      bare = λ P m none. elim (n == m) as (λ b. (n == m) ≡ b → (stored (with_page n [] c) P m ≡ []) ⊎ (stored (with_page n [] c) P m ≡ stored c P m)) [
        | true ↦ λ same. inl (stored-with_page c P n m [] held ∙ ap (λ b. cond b [] (stored c P m)) same)
        | false ↦ λ other. inr (stored-with_page c P n m [] held ∙ ap (λ b. cond b [] (stored c P m)) other)
      ] refl;
      makes = λ P. makes-written c n [] held P ∙ ap (λ (o : Option Node). put_node n o (nodes (stored c P))) none_node;
      memory = tt;
    })
  where
    held : IsSome (page_of c n)
    held = by (page_of c n) ready
      where
        by : (o : Option (List ℕ)) → is_ready o ≡ true → IsSome o
        by None ready = absurd (true≢false (sym ready))
        by (Some bytes) ready = refl

    none_node : node_of [] ≡ None
    none_node = bare_bytes

-- ---- one after the other
pub Made-then : (F G : Nodes → Nodes) (j k most : ℕ) (old mid new : View) (outcome : Result (Unit {0}) Stop) → j + k ≤ most → Made F j old mid (Ok tt) → Made G k mid new outcome
    → Made (λ N. G (F N)) most old new outcome
Made-then F G j k most old mid new (Ok done) few a b = record {
  given = b.given ∙ a.given;
  edits = omega (arith, a.edits, b.edits, few);
  bare = bare-then old mid new a.bare b.bare;
  makes = λ P. b.makes P ∙ ap G (a.makes P);
  memory = tt;
}
Made-then F G j k most old mid new (Err s) few a b = record {
  given = b.given ∙ a.given;
  edits = omega (arith, a.edits, b.edits, few);
  bare = bare-then old mid new a.bare b.bare;
  makes = tt;
  memory = b.memory;
}

pub Made-stopped : (F G : Nodes → Nodes) (j most : ℕ) (old new : View) (s : Stop) → j ≤ most → Made F j old new (Err s) → Made G most old new (Err s)
Made-stopped F G j most old new s few a = record {
  given = a.given;
  edits = omega (arith, a.edits, few);
  bare = a.bare;
  makes = tt;
  memory = a.memory;
}

pub Made-same : (F G : Nodes → Nodes) (most : ℕ) (old new : View) (outcome : Result (Unit {0}) Stop) → ((N : Nodes) → F N ≡ G N) → Made F most old new outcome → Made G most old new outcome
Made-same F G most old new (Ok done) same a = record {
  given = a.given;
  edits = a.edits;
  bare = a.bare;
  makes = λ P. a.makes P ∙ same (nodes (stored old P));
  memory = tt;
}
Made-same F G most old new (Err s) same a = record {
  given = a.given;
  edits = a.edits;
  bare = a.bare;
  makes = tt;
  memory = a.memory;
}

pub Made-none : (most : ℕ) (c : View) → Made (λ N. N) most c c (Ok tt)
Made-none most c = record {
  given = refl;
  edits = omega arith;
  bare = λ P n none. inr refl;
  makes = λ P. refl;
  memory = tt;
}

pub Made-three : (F G H : Nodes → Nodes) (old one two new : View) (outcome : Result (Unit {0}) Stop) → Made F 1 old one (Ok tt) → Made G 1 one two (Ok tt) → Made H 1 two new outcome
    → Made (λ N. H (G (F N))) 3 old new outcome
Made-three F G H old one two new outcome a b c =
    Made-then (λ N. G (F N)) H 2 1 3 old two new outcome (omega arith) (Made-then F G 1 1 2 old one two (Ok tt) (omega arith) a b) c

-- ---- where there is no page
pub if_page-none : (n : ℕ) (F : Nodes → Nodes) (N : Nodes) → n ≡ 0 → if_page n F N ≡ N
if_page-none n F N none = ap (λ b. cond b N (F N)) (eq-eqb n 0 none)

pub if_page-some : (n : ℕ) (F : Nodes → Nodes) (N : Nodes) → n ≢ 0 → if_page n F N ≡ F N
if_page-some n F N some = ap (λ b. cond b N (F N)) (ne_eqb n 0 some)

pub linked_before-root : (root before after : ℕ) (N : Nodes) → before ≡ 0 → linked_before root before after N ≡ with_node root (with_first after) N
linked_before-root root before after N none = ap (λ b. cond b (with_node root (with_first after) N) (with_node before (with_after after) N)) (eq-eqb before 0 none)

pub linked_before-page : (root before after : ℕ) (N : Nodes) → before ≢ 0 → linked_before root before after N ≡ with_node before (with_after after) N
linked_before-page root before after N some = ap (λ b. cond b (with_node root (with_first after) N) (with_node before (with_after after) N)) (ne_eqb before 0 some)

-- ---- heads
pub record Ready (c : View) (n : ℕ) : Type 0 where
  pub bytes : List ℕ
  pub held : page_of c n ≡ Some bytes
  pub form : has_form bytes ≡ true
  pub room : room_of c n ≡ 4096

pub ready_page : (c : View) (n : ℕ) → is_ready (page_of c n) ≡ true → Ready c n
ready_page c n is = by (page_of c n) refl is
  where
    by : (o : Option (List ℕ)) → page_of c n ≡ o → is_ready o ≡ true → Ready c n
    by None there is = absurd (true≢false (sym is))
    by (Some bytes) there is = record { bytes = bytes; held = there; form = is; room = room_of-page c n bytes there ∙ form_size bytes is }

pub node_there : (c : View) (P : Pages) (n : ℕ) (bytes : List ℕ) → page_of c n ≡ Some bytes → has_form bytes ≡ true → nodes (stored c P) n ≡ Some (node_in bytes)
node_there c P n bytes held form = ap node_of (stored-page c P n bytes held) ∙ node_of-form bytes form

-- a page with another head
pub Made-headed : (c new : View) (n : ℕ) (was now : List ℕ) (head : Head) (outcome : Result (Unit {0}) Stop) → page_of c n ≡ Some was → has_form was ≡ true → Becomes was now (with_head head (node_in was))
    → Made (put_node n (node_of now)) 1 c new outcome → Made (with_node n (with_head head)) 1 c new outcome
Made-headed c new n was now head (Err s) held form becomes a = Made-stopped (put_node n (node_of now)) (with_node n (with_head head)) 1 1 c new s (omega arith) a
Made-headed c new n was now head (Ok done) held form becomes a = record {
  given = a.given;
  edits = a.edits;
  bare = a.bare;
  makes = λ P. a.makes P ∙ (λ i m. same P m i);
  memory = tt;
}
  where
    now_is : node_of now ≡ Some (with_head head (node_in was))
    now_is = node_of-form now becomes.form ∙ ap Some becomes.node_is

    same : (P : Pages) (m : ℕ) → put_node n (node_of now) (nodes (stored c P)) m ≡ with_node n (with_head head) (nodes (stored c P)) m
    same P m = elim (n == m) as (λ b. (n == m) ≡ b → cond b (node_of now) (nodes (stored c P) m) ≡ cond b (option_map (with_head head) (nodes (stored c P) m)) (nodes (stored c P) m)) [
      | true ↦ λ here. now_is ∙ ap (option_map (with_head head)) (sym (node_there c P n was held form) ∙ ap (nodes (stored c P)) (eqb-true n m here))
      | false ↦ λ other. refl
    ] refl

-- the same by what the head was
pub Made-changed : (f : Node → Node) (c new : View) (n : ℕ) (was head : Head) (outcome : Result (Unit {0}) Stop) → is_ready (page_of c n) ≡ true → IsHeadAt c n was → ((x : Node) → x.head ≡ was → with_head head x ≡ f x)
    → Made (with_node n (with_head head)) 1 c new outcome → Made (with_node n f) 1 c new outcome
Made-changed f c new n was head (Err s) ready at same a = Made-stopped (with_node n (with_head head)) (with_node n f) 1 1 c new s (omega arith) a
Made-changed f c new n was head (Ok done) ready at same a = record {
  given = a.given;
  edits = a.edits;
  bare = a.bare;
  makes = λ P. a.makes P ∙ (λ i m. each P m i);
  memory = tt;
}
  where
    r : Ready c n
    r = ready_page c n ready

    head_is : (node_in r.bytes).head ≡ was
    head_is = same_Some (node_in r.bytes).head was (sym (ap (option_map (λ (x : Node). x.head)) (ap held_node r.held ∙ node_of-form r.bytes r.form)) ∙ at)

    there : (P : Pages) → nodes (stored c P) n ≡ Some (node_in r.bytes)
    there P = node_there c P n r.bytes r.held r.form

    here : (P : Pages) → option_map (with_head head) (nodes (stored c P) n) ≡ option_map f (nodes (stored c P) n)
    here P = ap (option_map (with_head head)) (there P) ∙ ap Some (same (node_in r.bytes) head_is) ∙ sym (ap (option_map f) (there P))

    each : (P : Pages) (m : ℕ) → with_node n (with_head head) (nodes (stored c P)) m ≡ with_node n f (nodes (stored c P)) m
    each P m = elim (n == m) as (λ b. (n == m) ≡ b → cond b (option_map (with_head head) (nodes (stored c P) m)) (nodes (stored c P) m) ≡ cond b (option_map f (nodes (stored c P) m)) (nodes (stored c P) m)) [
      | true ↦ λ eq. subst (λ (k : ℕ). option_map (with_head head) (nodes (stored c P) k) ≡ option_map f (nodes (stored c P) k)) (eqb-true n m eq) (here P)
      | false ↦ λ other. refl
    ] refl

-- ---- a page of a heap that is written, by its turn
rewritten : (old new : View) (root page room : ℕ) (turn : Turn) (bytes : List ℕ) (x : Node) (outcome : Result (Unit {0}) Stop) → has_form bytes ≡ true → room ≡ 4072 - (node_in bytes).head.used → IsTurn (held_node (page_of old root)) x.head room turn
    → Made (λ N. turned root page turn (put_node page (node_of bytes) N)) 4 old new outcome → Rewrites old new root page x (node_in bytes) outcome
rewritten old new root page room turn bytes x (Ok done) form room_is turn_is a = record {
  turn = turn;
  turn_is = subst (λ r. IsTurn (held_node (page_of old root)) x.head r turn) room_is turn_is;
  made = Made-same (λ N. turned root page turn (put_node page (node_of bytes) N)) (λ N. turned root page turn (put_node page (Some (node_in bytes)) N)) 4 old new (Ok tt) (λ N. ap (λ (o : Option Node). turned root page turn (put_node page o N)) (node_of-form bytes form)) a;
}
rewritten old new root page room turn bytes x (Err s) form room_is turn_is a = subst (TurnStops 4 old new root x.head) (sym a.memory) (record { given = a.given; edits = a.edits })

pub rewritten_at : (old new : View) (root page room : ℕ) (head : Head) (turn : Turn) (bytes : List ℕ) (outcome : Result (Unit {0}) Stop) → IsHeadAt old page head → has_form bytes ≡ true → room ≡ 4072 - (node_in bytes).head.used → IsTurn (held_node (page_of old root)) head room turn
    → Made (λ N. turned root page turn (put_node page (node_of bytes) N)) 4 old new outcome → RewritesAt old new root page (held_node (page_of old page)) (node_in bytes) outcome
rewritten_at old new root page room head turn bytes outcome at form room_is turn_is a = by (held_node (page_of old page)) at
  where
    by : (o : Option Node) → option_map (λ (x : Node). x.head) o ≡ Some head → RewritesAt old new root page o (node_in bytes) outcome
    by None at = tt
    by (Some x) at = rewritten old new root page room turn bytes x outcome form room_is (subst (λ h. IsTurn (held_node (page_of old root)) h room turn) (sym (same_Some x.head head at)) turn_is) a

pub rewrites_to : (old new : View) (root page : ℕ) (x y : Node) (bytes : List ℕ) (outcome : Result (Unit {0}) Stop) → held_node (page_of old page) ≡ Some x → node_in bytes ≡ y → RewritesAt old new root page (held_node (page_of old page)) (node_in bytes) outcome → Rewrites old new root page x y outcome
rewrites_to old new root page x y bytes outcome held is r =
    subst (λ (z : Node). Rewrites old new root page x z outcome) is (subst (λ (o : Option Node). RewritesAt old new root page o (node_in bytes) outcome) held r)
