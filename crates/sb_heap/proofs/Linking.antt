-- Pages that the heap needs, as heads name them.
use Rattle.std.proofs.Common.{◌≡◌, ◌≢◌, ℕ, ◌<◌, true, ◌&&◌, List, [], ◌∷◌, Option, Some, None, option_map, refl, ap, sym, ◌∙◌, arith}
use Rattle.std.specs.Prelude.{nat_eq, ◌||◌}
use Rattle.std.proofs.lemmas.Bool.{and_from, eq-eqb, or_left, or_right}
use Rattle.std.proofs.lemmas.Option.{same_Some}
use Rattle.sb_node.specs.declared.head.Head.{Head}
use Rattle.sb_node.specs.Page.{Node, node_in}
use Rattle.sb_node.proofs.Edited.{node_of-form}
use Rattle.sb_forms.specs.Read.{has}
use Rattle.sb_forms.specs.HeapPages.{first_of}
use Rattle.sb_ctx.specs.View.{View, page_of}
use Rattle.sb_heap.specs.Broken.{held_node, names, is_named, is_linked}
use Rattle.sb_heap.specs.Held.{Amiss, IsHeadAt, IsHeapPage, LacksOne, turn_pages}
use Rattle.sb_heap.specs.declared.stop.Stop.{Stop}
use Rattle.sb_heap.proofs.Lists.{has_here, has_later}
use Rattle.sb_heap.proofs.MethodLaws.{any_from}

-- a held page's head names it
named_from : (c : View) (root m n : ℕ) (x : Node) → held_node (page_of c m) ≡ Some x → m < 65536 → names root m (Some x) n ≡ true → is_named root (page_of c) n ≡ true
unfolding is_named
named_from c root m n x there low is = any_from (λ k. names root k (held_node (page_of c k)) n) 0 65536 m (omega arith) (omega (arith, low)) (ap (λ (o : Option Node). names root m o n) there ∙ is)

linked_from : (c : View) (root m n : ℕ) (x : Node) → held_node (page_of c m) ≡ Some x → m < 65536 → names root m (Some x) n ≡ true → is_linked root (page_of c) n ≡ true
linked_from c root m n x there low is = or_right (nat_eq n root) (is_named root (page_of c) n) (named_from c root m n x there low is)

pub head_there : (o : Option Node) (head : Head) → option_map (λ (x : Node). x.head) o ≡ Some head → (x : Node) × (o ≡ Some x) × (x.head ≡ head)
head_there None head is = absurd (cc)
head_there (Some x) head is = (x, refl, same_Some x.head head is)

pub lacks_after : (c : View) (root page : ℕ) (head : Head) (s : Stop) → page < 65536 → IsHeadAt c page head → head.level ≡ 1 → head.a ≢ 0 → Amiss c head.a s → LacksOne c root (turn_pages c root head) s
lacks_after c root page head s low at level some amiss =
    let x = head_there (held_node (page_of c page)) head at in (
      head.a,
      has_later head.a root (first_of (held_node (page_of c root)) ∷ head.a ∷ head.b ∷ []) (has_later head.a (first_of (held_node (page_of c root))) (head.a ∷ head.b ∷ []) (has_here head.a (head.b ∷ []))),
      record {
        amiss = amiss;
        some = some;
        linked = linked_from c root page head.a x.0 x.1 low (or_right (nat_eq page root && nat_eq x.0.head.c head.a) (nat_eq x.0.head.level 1 && (nat_eq x.0.head.a head.a || nat_eq x.0.head.b head.a))
            (and_from (nat_eq x.0.head.level 1) (nat_eq x.0.head.a head.a || nat_eq x.0.head.b head.a) (eq-eqb x.0.head.level 1 (ap (λ (h : Head). h.level) x.2 ∙ level))
            (or_left (nat_eq x.0.head.a head.a) (nat_eq x.0.head.b head.a) (eq-eqb x.0.head.a head.a (ap (λ (h : Head). h.a) x.2)))));
      },
    )

pub lacks_before : (c : View) (root page : ℕ) (head : Head) (s : Stop) → page < 65536 → IsHeadAt c page head → head.level ≡ 1 → head.b ≢ 0 → Amiss c head.b s → LacksOne c root (turn_pages c root head) s
lacks_before c root page head s low at level some amiss =
    let x = head_there (held_node (page_of c page)) head at in (
      head.b,
      has_later head.b root (first_of (held_node (page_of c root)) ∷ head.a ∷ head.b ∷ []) (has_later head.b (first_of (held_node (page_of c root))) (head.a ∷ head.b ∷ []) (has_later head.b head.a (head.b ∷ []) (has_here head.b []))),
      record {
        amiss = amiss;
        some = some;
        linked = linked_from c root page head.b x.0 x.1 low (or_right (nat_eq page root && nat_eq x.0.head.c head.b) (nat_eq x.0.head.level 1 && (nat_eq x.0.head.a head.b || nat_eq x.0.head.b head.b))
            (and_from (nat_eq x.0.head.level 1) (nat_eq x.0.head.a head.b || nat_eq x.0.head.b head.b) (eq-eqb x.0.head.level 1 (ap (λ (h : Head). h.level) x.2 ∙ level))
            (or_right (nat_eq x.0.head.a head.b) (nat_eq x.0.head.b head.b) (eq-eqb x.0.head.b head.b (ap (λ (h : Head). h.b) x.2)))));
      },
    )

-- the root's node, where it is held
pub root_node : (c : View) (n : ℕ) (bytes : List ℕ) (head : Head) → IsHeapPage (page_of c n) bytes head → held_node (page_of c n) ≡ Some (node_in bytes)
root_node c n bytes head is = ap held_node is.held_is ∙ node_of-form bytes is.form

pub linked_first : (c : View) (root first : ℕ) (bytes : List ℕ) (head : Head) → root < 65536 → IsHeapPage (page_of c root) bytes head → head.c ≡ first → is_linked root (page_of c) first ≡ true
linked_first c root first bytes head low is first_is =
    linked_from c root root first (node_in bytes) (root_node c root bytes head is) low (or_left (nat_eq root root && nat_eq (node_in bytes).head.c first) (nat_eq (node_in bytes).head.level 1 && (nat_eq (node_in bytes).head.a first || nat_eq (node_in bytes).head.b first))
    (and_from (nat_eq root root) (nat_eq (node_in bytes).head.c first) (eq-eqb root root refl) (eq-eqb (node_in bytes).head.c first (ap (λ (h : Head). h.c) (sym is.head_is) ∙ first_is))))

pub lacks_first : (c : View) (root : ℕ) (bytes : List ℕ) (first head : Head) (s : Stop) → root < 65536 → IsHeapPage (page_of c root) bytes first → first.c ≢ 0 → Amiss c first.c s → LacksOne c root (turn_pages c root head) s
lacks_first c root bytes first head s low is some amiss =
    let named : first_of (held_node (page_of c root)) ≡ first.c = ap first_of (root_node c root bytes first is) ∙ ap (λ (h : Head). h.c) (sym is.head_is) in (
      first.c,
      has_later first.c root (first_of (held_node (page_of c root)) ∷ head.a ∷ head.b ∷ []) (ap (λ n. has first.c (n ∷ head.a ∷ head.b ∷ [])) named ∙ has_here first.c (head.a ∷ head.b ∷ [])),
      record {
        amiss = amiss;
        some = some;
        linked = linked_first c root first.c bytes first low is refl;
      },
    )
