-- Held pages that keep an instance's pages from being a heap.
use Rattle.std.specs.Prelude.{ℕ, Bool, false, not, ◌&&◌, ◌||◌, nat_eq, nat_lt, List, Option, Some, None}
use Rattle.std.specs.List.{list_any, range_with_len}
use Rattle.sb_value.specs.declared.schema.Column.{Column}
use Rattle.sb_relation.specs.Fits.{is_empty}
use Rattle.sb_node.specs.Page.{Node, node_of}
use Rattle.sb_forms.specs.HeapPages.{is_heap_page}
use Rattle.sb_ctx.specs.View.{HeldPages}

-- the node of a page, where it is held and is an entry page
abbrev pub held_node : Option (List ℕ) → Option Node
held_node None = None
held_node (Some bytes) = node_of bytes

-- it is held, and is no page of a heap
abbrev pub is_amiss : List Column → Option (List ℕ) → Bool
is_amiss schema None = false
is_amiss schema (Some bytes) = not (is_heap_page schema (node_of bytes))

-- it is held, and has bytes
abbrev pub has_bytes : Option (List ℕ) → Bool
has_bytes None = false
has_bytes (Some bytes) = not (is_empty bytes)

-- the head of page m names page n: the root's as the first of the list, that of a page of the list as one beside it
abbrev pub names : ℕ → ℕ → Option Node → ℕ → Bool
names root m None n = false
names root m (Some x) n = (nat_eq m root && nat_eq x.head.c n) || (nat_eq x.head.level 1 && (nat_eq x.head.a n || nat_eq x.head.b n))

-- a held page names it
unfoldable pub is_named : ℕ → HeldPages → ℕ → Bool
is_named root held n = list_any (λ m. names root m (held_node (held m)) n) (range_with_len 0 65536)

-- the heap needs this page: it is the root, or a held page names it
abbrev pub is_linked : ℕ → HeldPages → ℕ → Bool
is_linked root held n = nat_eq n root || is_named root held n

-- a held page is no page of a heap, though it has bytes and the number of a page, or the heap needs it
abbrev pub breaks : List Column → ℕ → HeldPages → ℕ → Bool
breaks schema root held n = not (nat_eq n 0) && is_amiss schema (held n) && (has_bytes (held n) && nat_lt n 65536 || is_linked root held n)
