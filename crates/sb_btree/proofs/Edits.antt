-- Pages of a Ctx that a put writes, and those that it leaves as they are.
use Rattle.std.proofs.Common.{◌≡◌, ℕ, ◌+◌, ◌<◌, ◌≤◌, Bool, true, false, cond, not, List, [], ◌++◌, length, Option, Some, None, IsSome, option_map, refl, ap, sym, ◌∙◌, subst, arith, true≢false}
use Rattle.std.specs.Prelude.{◌||◌, Result, Ok, Err, IfOk, IfSome}
use Rattle.std.proofs.lemmas.Bool.{and_parts, eqb-true}
use Rattle.std.proofs.lemmas.List.{append-nil, drop_all}
use Rattle.std.proofs.lemmas.Option.{same_Some}
use Rattle.sb_bytes.specs.Bytes.{splice}
use Rattle.sb_bytes.specs.Field.{number_at}
use Rattle.sb_forms.specs.Pages.{zeros}
use Rattle.sb_ctx.proofs.HeldLaws.{page_in-each}
use Rattle.sb_ctx.proofs.ViewLaws.{page_of-same, page_of-other, room_of-page}
use Rattle.sb_ctx.specs.View.{HeldPage, HeldPages, View, held_at, page_of, room_of, with_page, as_given, dropped}
use Rattle.sb_node.specs.declared.head.Head.{Head}
use Rattle.sb_node.specs.Page.{Node, has_form, node_in}
use Rattle.sb_node.proofs.Edited.{node_of-form}
use Rattle.sb_node.proofs.Runs.{form_size}
use Rattle.sb_btree.specs.Broken.{held_node, is_of_level, is_page, is_narrow, is_amiss, breaks_below}
use Rattle.sb_btree.specs.Inserts.{IsFree, MayAsk, PutAt, PutChildAt, KeepsHigher, IsSplit, is_tree_page}
use Rattle.sb_btree.specs.Walks.{Breaks, as_walk}
use Rattle.sb_btree.specs.declared.insertion.Put.{Put}
use Rattle.sb_btree.specs.declared.insertion.Put.TheVariants.{Kept, Done, Split}
use Rattle.sb_btree.specs.declared.walk.Stop.{Stop}
use Rattle.sb_btree.specs.declared.walk.Stop.TheVariants as stop
use Rattle.sb_btree.proofs.Descending.{breaks_here}
use Rattle.sb_btree.proofs.Halved.{held_some, free_page_of}

-- ---- a page that is written whole
pub edited : (c new : View) (n : ℕ) (bytes : List ℕ) → room_of c n ≡ 4096 → length bytes ≡ 4096 → IfSome (page_of c n) (λ page. new ≡ with_page n (splice 0 bytes page) c) → new ≡ with_page n bytes c
edited c new n bytes whole long is = by (page_of c n) whole is
  where
    room : Option (List ℕ) → ℕ
    room o = elim o [ None ↦ 0 | Some page ↦ length page ]

    by : (o : Option (List ℕ)) → room o ≡ 4096 → IfSome o (λ page. new ≡ with_page n (splice 0 bytes page) c) → new ≡ with_page n bytes c
    by None whole is = absurd (omega arith)
    by (Some page) whole is =
        is ∙ ap (λ (l : List ℕ). with_page n l c) (ap (λ (l : List ℕ). bytes ++ l) (drop_all (0 + length bytes) page (omega arith)) ∙ append-nil bytes)

-- ---- pages that are held
-- a page that is held stays held
pub held_still : (old new : View) (n : ℕ) → dropped new ≡ dropped old → IsSome (page_of old n) → IsSome (page_of new n)
held_still old new n given held =
    by (held_at old n) (held_at new n) (sym (page_in-each as_given old.held n) ∙ ap (λ (c : View). held_at c n) (sym given) ∙ page_in-each as_given new.held n) held
  where
    by : (a b : Option HeldPage) → option_map as_given a ≡ option_map as_given b → IsSome (option_map (λ (h : HeldPage). h.now) a) → IsSome (option_map (λ (h : HeldPage). h.now) b)
    by None b is h = absurd (true≢false (sym h))
    by (Some x) None is h = absurd (cc)
    by (Some x) (Some y) is h = refl

-- a page without bytes isn't an entry page
formless : has_form [] ≡ false
unfolding has_form
formless = refl

pub not_free : (old : View) (page next : ℕ) (bytes : List ℕ) → page_of old page ≡ Some bytes → has_form bytes ≡ true → IsFree old next → page ≡ next → ⊥
not_free old page next bytes held form free same =
    let empty : bytes ≡ [] = same_Some bytes [] (sym held ∙ ap (page_of old) same ∙ free_page_of old next free) in
    true≢false (sym form ∙ ap has_form empty ∙ formless)

-- a held page of a level
pub record IsTreeAt (c : View) (l page : ℕ) (bytes : List ℕ) : Type 0 where
  pub held : page_of c page ≡ Some bytes
  pub form : has_form bytes ≡ true
  pub level_is : is_of_level l (node_in bytes).head ≡ true
  pub node_is : held_node (page_of c page) ≡ Some (node_in bytes)
  pub room : room_of c page ≡ 4096

pub tree_at : (c : View) (l page : ℕ) (bytes : List ℕ) → Some bytes ≡ page_of c page → is_tree_page l (held_node (page_of c page)) ≡ true → IsTreeAt c l page bytes
tree_at c l page bytes is level = by (has_form bytes) refl (ap (λ o. is_tree_page l (held_node o)) is ∙ level)
  where
    by : (t : Bool) → has_form bytes ≡ t → is_tree_page l (cond t (Some (node_in bytes)) None) ≡ true → IsTreeAt c l page bytes
    by true form e = record {
      held = sym is;
      form = form;
      level_is = e;
      node_is = ap held_node (sym is) ∙ node_of-form bytes form;
      room = room_of-page c page bytes (sym is) ∙ form_size bytes form;
    }
    by false form e = absurd (true≢false (sym e))

-- ---- what a put at a held page leaves
pub level_of_head : (l : ℕ) (head : Head) → is_of_level l head ≡ true → head.level ≡ l
level_of_head l head is = eqb-true head.level l (and_parts _ _ is).1

-- a held page of a level that isn't the page of a put
other_page : (old : View) (page n : ℕ) (bytes b : List ℕ) (l : ℕ) → page_of old page ≡ Some bytes → (node_in bytes).head.level ≡ l → page_of old n ≡ Some b → l < (node_in b).head.level → page ≡ n → ⊥
other_page old page n bytes b l held level at up same =
    let one : (node_in bytes).head.level ≡ (node_in b).head.level = ap (λ (x : List ℕ). (node_in x).head.level) (same_Some bytes b (sym held ∙ ap (page_of old) same ∙ at)) in
    omega (arith, one, level, up)

pub put_keeps : (stands : Bool) (old new : View) (l page : ℕ) (bytes key value : List ℕ) (outcome : Result Put Stop) → page_of old page ≡ Some bytes → has_form bytes ≡ true → (node_in bytes).head.level ≡ l
    → PutAt stands old new l page (Some (node_in bytes)) key value outcome → IfOk outcome (λ put. KeepsHigher old new l)
put_keeps stands old new l page bytes key value (Ok Kept) held form level h = λ n b at formed up. ap (λ (c : View). page_of c n) h.1
put_keeps stands old new l page bytes key value (Ok Done) held form level h = λ n b at formed up.
    ap (λ (c : View). page_of c n) h.1.changed ∙ page_of-other old page n h.1.bytes (other_page old page n bytes b l held level at up)
put_keeps stands old new l page bytes key value (Ok (Split bound next)) held form level h = λ n b at formed up.
    let fresh : next ≡ n → ⊥ = (λ e. not_free old n next b at formed h.2.free (sym e)) in
    ap (λ (c : View). page_of c n) h.2.changed ∙ page_of-other (with_page page h.2.left (with_page next zeros old)) next n h.2.right fresh
    ∙ page_of-other (with_page next zeros old) page n h.2.left (other_page old page n bytes b l held level at up) ∙ page_of-other old next n zeros fresh
put_keeps stands old new l page bytes key value (Err s) held form level h = tt

pub put_splits : (stands : Bool) (old new : View) (l page : ℕ) (bytes key value : List ℕ) (outcome : Result Put Stop) → page_of old page ≡ Some bytes → has_form bytes ≡ true → is_of_level l (node_in bytes).head ≡ true
    → PutAt stands old new l page (Some (node_in bytes)) key value outcome → IfOk outcome (IsSplit new l page)
put_splits stands old new l page bytes key value (Ok Kept) held form level h = tt
put_splits stands old new l page bytes key value (Ok Done) held form level h = tt
put_splits stands old new l page bytes key value (Ok (Split bound next)) held form level h =
    let other : next ≡ page → ⊥ = (λ e. not_free old page next bytes held form h.2.free (sym e)) in
    let still = held_some (with_page next zeros old) page bytes (page_of-other old next page zeros other ∙ held) in
    let left : page_of new page ≡ Some h.2.left =
    ap (λ (c : View). page_of c page) h.2.changed ∙ page_of-other (with_page page h.2.left (with_page next zeros old)) next page h.2.right other ∙ page_of-same (with_page next zeros old) page h.2.left still in
    (ap (λ o. is_tree_page l (held_node o)) left ∙ ap (is_tree_page l) h.2.left_is ∙ level, h.1)
put_splits stands old new l page bytes key value (Err s) held form level h = tt

pub put_asks : (stands : Bool) (old new : View) (l page : ℕ) (o : Option Node) (key value : List ℕ) (outcome : Result Put Stop) → dropped new ≡ dropped old → IsSome (page_of old page) → PutAt stands old new l page o key value outcome → MayAsk new (as_walk outcome)
put_asks stands old new l page None key value outcome given held h = absurd h
put_asks stands old new l page (Some n) key value (Ok put) given held h = tt
put_asks stands old new l page (Some n) key value (Err (stop.Need x)) given held h = absurd h
put_asks stands old new l page (Some n) key value (Err stop.Fresh) given held h = h.1
put_asks stands old new l page (Some n) key value (Err (stop.Broken x)) given held h = subst (λ y. IsSome (page_of new y)) (sym h.0) (held_still old new page given held)
put_asks stands old new l page (Some n) key value (Err stop.NoMemory) given held h = tt

-- a page that is called broken is amiss, also as it was held before an earlier change
pub put_breaks : (stands : Bool) (held : HeldPages) (old new : View) (l page : ℕ) (bytes key value : List ℕ) (outcome : Result Put Stop) → held page ≡ Some bytes → has_form bytes ≡ true
    → PutAt stands old new l page (Some (node_in bytes)) key value outcome → Breaks (breaks_below l held page) (as_walk outcome)
put_breaks stands held old new l page bytes key value (Ok put) at form h = tt
put_breaks stands held old new l page bytes key value (Err (stop.Need x)) at form h = tt
put_breaks stands held old new l page bytes key value (Err stop.Fresh) at form h = tt
put_breaks stands held old new l page bytes key value (Err (stop.Broken x)) at form h =
    subst (λ y. breaks_below l held page y ≡ true) (sym h.0) (breaks_here l held page (amiss at h.1))
  where
    amiss : held page ≡ Some bytes → is_page l (Some (node_in bytes)) ≡ false → is_amiss l (held page) ≡ true
    amiss there wrong = ap (is_amiss l) there ∙ ap (λ o. not (is_page l o) || is_narrow l o) (node_of-form bytes form) ∙ ap (λ b. not b || is_narrow l (Some (node_in bytes))) wrong
put_breaks stands held old new l page bytes key value (Err stop.NoMemory) at form h = tt

-- the put of a child is one of an entry that spells it
pub child_put : (old new : View) (l page : ℕ) (o : Option Node) (bound : List ℕ) (child : ℕ) (outcome : Result Put Stop) → PutChildAt old new l page o bound child outcome → (v : List ℕ) × PutAt false old new l page o bound v outcome
child_put old new l page o bound child (Ok Kept) h = absurd h
child_put old new l page o bound child (Ok Done) h = (h.0, h.3)
child_put old new l page o bound child (Ok (Split b next)) h = (h.0, h.3)
child_put old new l page o bound child (Err s) h = (h.0, h.3)

pub put_child : (old new : View) (l page : ℕ) (o : Option Node) (bound : List ℕ) (child : ℕ) (v : List ℕ) (put : Put) → length v ≡ 4 → number_at 4 v 0 ≡ child → (put ≡ Kept → ⊥) → PutAt false old new l page o bound v (Ok put) → PutChildAt old new l page o bound child (Ok put)
put_child old new l page o bound child v Kept long spelled other h = other refl
put_child old new l page o bound child v Done long spelled other h = (v, long, spelled, h)
put_child old new l page o bound child v (Split b next) long spelled other h = (v, long, spelled, h)

-- want of memory says nothing but that the page was held
pub child_full : (old new : View) (l page : ℕ) (o : Option Node) (bound v : List ℕ) (outcome : Result Put Stop) → PutAt false old new l page o bound v outcome → PutAt false old new l page o bound v (Err stop.NoMemory)
child_full old new l page None bound v outcome h = h
child_full old new l page (Some n) bound v outcome h = tt

-- one change of lower pages, and a put behind it
pub keeps_then : (old mid new : View) (l m : ℕ) (outcome : Result Put Stop) → m ≤ l → KeepsHigher old mid m → IfOk outcome (λ put. KeepsHigher mid new l) → IfOk outcome (λ put. KeepsHigher old new l)
keeps_then old mid new l m (Ok put) less first second = λ n bytes at form up.
    let still = first n bytes at form (omega (arith, less, up)) in
    second n bytes (still ∙ at) form up ∙ still
keeps_then old mid new l m (Err s) less first second = tt
