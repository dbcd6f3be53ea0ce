-- The rows of a relation in the pages of a heap, and the list of the pages with room.
use Rattle.std.specs.Prelude.{ℕ, zero, suc, ◌-◌, ◌++◌, nat_eq, nat_le, Bool, true, false, cond, not, ◌&&◌, List, [], ◌∷◌, length, map, Option, Some, None}
use Rattle.std.specs.Int.{bytes_high_first}
use Rattle.std.specs.List.{list_all, flat_map}
use Rattle.sb_value.specs.declared.schema.Column.{Column}
use Rattle.sb_relation.specs.Db.{Key, Rows}
use Rattle.sb_node.specs.Entries.{Entry}
use Rattle.sb_node.specs.Page.{Node}
use Rattle.sb_forms.specs.Pages.{Pages, page_numbers}
use Rattle.sb_forms.specs.Read.{has, is_apart}
use Rattle.sb_forms.specs.Stored.{row_in, is_row_in}
use Rattle.sb_forms.specs.Tree.{Nodes, nodes, entries_of, level_of}

-- ---- a page: spellings of rows, each under its slot, a number of two bytes
-- an entry takes 6 bytes beside the 1,000 that a row's spelling has at most: where so many are free there is room for any row
abbrev pub has_room : Node → Bool
has_room n = nat_le 1006 (4072 - n.head.used)

abbrev pub is_record : List Column → Entry → Bool
is_record schema e = nat_eq (length e.0) 2 && is_row_in schema e.1

-- kind 1, of level 1 where it has room and else of level 0
abbrev pub is_heap_page : List Column → Option Node → Bool
is_heap_page schema None = false
is_heap_page schema (Some n) = nat_eq n.head.kind 1 && nat_eq n.head.level (cond (has_room n) 1 0) && list_all (is_record schema) n.entries

-- ---- the list of the pages with room: the root's field c names the first one, a page's a the next one and its b the one before it, and 0 is none
abbrev pub first_of : Option Node → ℕ
first_of None = 0
first_of (Some n) = n.head.c

abbrev pub after_of : Option Node → ℕ
after_of None = 0
after_of (Some n) = n.head.a

abbrev pub before_of : Option Node → ℕ
before_of None = 0
before_of (Some n) = n.head.b

-- the pages from this one on, so many at most
abbrev pub list_from : ℕ → Nodes → ℕ → List ℕ
list_from zero N p = []
list_from (suc most) N p = cond (nat_eq p 0) [] (p ∷ list_from most N (after_of (N p)))

unfoldable pub room_list : Nodes → ℕ → List ℕ
room_list N root = list_from 65536 N (first_of (N root))

-- the first of these pages
abbrev pub first_page : List ℕ → ℕ
first_page [] = 0
first_page (p ∷ ps) = p

-- behind this page, each of these names the one before it and the next one
abbrev pub are_linked : Nodes → ℕ → List ℕ → Bool
are_linked N before [] = true
are_linked N before (p ∷ ps) = nat_eq (before_of (N p)) before && nat_eq (after_of (N p)) (first_page ps) && are_linked N p ps

-- each of these pages is in the list where it is of level 1, and only there
abbrev pub are_listed : Nodes → List ℕ → List ℕ → Bool
are_listed N list pages = list_all (λ n. cond (nat_eq (level_of (N n)) 1) (has n list) (not (has n list))) pages

-- the list has just the instance's pages of level 1, none of them twice, and its links are right both ways
abbrev pub is_room_list : Pages → List ℕ → Bool
is_room_list P list =
    are_linked (nodes P) 0 list && is_apart list && are_listed (nodes P) list (page_numbers P) && list_all (λ n. has n (page_numbers P)) list

-- ---- the pages of an instance
-- page 0 is none of them, the root is one, and it alone may be without records
abbrev pub is_page_of : ℕ → List Column → Nodes → ℕ → Bool
is_page_of root schema N n = not (nat_eq n 0) && is_heap_page schema (N n) && (cond (nat_eq n root) true (not (nat_eq (length (entries_of (N n))) 0)))

abbrev pub is_heap : ℕ → List Column → Pages → Bool
is_heap root schema P =
    has root (page_numbers P) && list_all (is_page_of root schema (nodes P)) (page_numbers P) && is_room_list P (room_list (nodes P) root)

-- a row's record key: its page in four bytes, then its slot
abbrev pub record_key : ℕ → List ℕ → Key
record_key page slot = bytes_high_first 4 page ++ slot

abbrev pub rows_on : Nodes → ℕ → Rows
rows_on N n = map (λ e. (record_key n e.0, row_in e.1)) (entries_of (N n))

-- the rows of these pages, where they are a heap
abbrev pub heap_rows : ℕ → List Column → Pages → Option Rows
heap_rows root schema P = cond (is_heap root schema P) (Some (flat_map (rows_on (nodes P)) (page_numbers P))) None
