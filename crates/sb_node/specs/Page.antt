-- An entry page: a head of 24 bytes, then entries with rising keys, in 4,096 bytes.
use Rattle.std.specs.Prelude.{ℕ, zero, suc, ◌≡◌, ◌+◌, ◌&&◌, Bool, true, cond, not, nat_eq, nat_lt, Option, Some, None}
use Rattle.std.specs.Prelude.{List, [], ◌∷◌, length, take, drop, slice_index}
use Rattle.sb_bytes.specs.Field.{number_at}
use Rattle.sb_node.specs.declared.head.Head.{Head}
use Rattle.std.specs.FinMap.Entries.{is_sorted}
use Rattle.sb_node.specs.Entries.{Entry, is_below, key_cmp, sizes}

-- the key, the value and the end of the entry that begins at a place
unfoldable pub key_at : List ℕ → ℕ → List ℕ
key_at bytes at = take (number_at 2 bytes at) (drop (at + 4) bytes)

unfoldable pub value_at : List ℕ → ℕ → List ℕ
value_at bytes at = take (number_at 2 bytes (at + 2)) (drop (at + 4 + number_at 2 bytes at) bytes)

unfoldable pub after_at : List ℕ → ℕ → ℕ
after_at bytes at = at + 4 + number_at 2 bytes at + number_at 2 bytes (at + 2)

-- this many entries from a place on
abbrev pub entries_at : List ℕ → ℕ → ℕ → List Entry
entries_at bytes zero at = []
entries_at bytes (suc n) at = (key_at bytes at, value_at bytes at) ∷ entries_at bytes n (after_at bytes at)

-- a key may stand behind the last one
abbrev pub is_above : Option (List ℕ) → List ℕ → Bool
is_above None key = true
is_above (Some last) key = is_below last key

-- this many entries fill the bytes from a place up to an end, and their keys rise from the last one on
abbrev pub is_filled : List ℕ → ℕ → Option (List ℕ) → ℕ → ℕ → Bool
is_filled bytes end last zero at = nat_eq at end
is_filled bytes end last (suc n) at =
    not (nat_lt end (after_at bytes at)) && (is_above last (key_at bytes at) && is_filled bytes end (Some (key_at bytes at)) n (after_at bytes at))

-- the bytes are an entry page: 4,096 of them, of which those in use are filled by the entries
unfoldable pub has_form : List ℕ → Bool
has_form bytes =
    nat_eq (length bytes) 4096
    && (not (nat_lt 4072 (number_at 2 bytes 4)) && is_filled bytes (24 + number_at 2 bytes 4) None (number_at 2 bytes 2) 24)

-- the fields at the front
unfoldable pub head_in : List ℕ → Head
head_in bytes = record {
  kind = slice_index bytes 0;
  level = slice_index bytes 1;
  count = number_at 2 bytes 2;
  used = number_at 2 bytes 4;
  a = number_at 4 bytes 6;
  b = number_at 4 bytes 10;
  c = number_at 4 bytes 14;
}

-- the bytes of the head that aren't read
unfoldable pub spare : List ℕ → List ℕ
spare bytes = take 6 (drop 18 bytes)

-- what an entry page is
pub record Node : Type 0 where
  pub head : Head
  pub entries : List Entry

-- the node that the bytes hold, where they are an entry page
abbrev pub node_in : List ℕ → Node
node_in bytes = record { head = head_in bytes; entries = entries_at bytes (number_at 2 bytes 2) 24 }

abbrev pub node_of : List ℕ → Option Node
node_of bytes = cond (has_form bytes) (Some (node_in bytes)) None

-- the node with other entries: their count and the bytes that they take are in its head
abbrev pub with_entries : List Entry → Node → Node
with_entries es n = record { head = record n.head { count = length es; used = sizes es }; entries = es }

-- the node with another head; count and used are those of its entries still
abbrev pub with_head : Head → Node → Node
with_head head n = record n { head = record head { count = n.head.count; used = n.head.used } }

-- a node without entries
abbrev pub empty_node : ℕ → ℕ → Node
empty_node kind level = record { head = record { kind = kind; level = level; count = 0; used = 0; a = 0; b = 0; c = 0 }; entries = [] }

-- the page is this node now, and the bytes of its head that aren't read are as before
pub record Becomes (old new : List ℕ) (node : Node) : Type 0 where
  pub form : has_form new ≡ true
  pub node_is : node_in new ≡ node
  pub spare_kept : spare new ≡ spare old

-- the head counts the entries and the bytes that they take, and their keys rise
pub record IsCounted (n : Node) : Type 0 where
  pub count : n.head.count ≡ length n.entries
  pub used : n.head.used ≡ sizes n.entries
  pub rising : is_sorted key_cmp n.entries ≡ true

-- this is so of each entry page
abbrev pub AreCounted : Type 0
AreCounted = (bytes : List ℕ) → has_form bytes ≡ true → IsCounted (node_in bytes)
