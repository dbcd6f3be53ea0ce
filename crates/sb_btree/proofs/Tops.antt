-- Pages that are stored anew: the two halves of a page, and a root over a first and a second page.
use Rattle.std.proofs.Common.{◌≡◌, ℕ, suc, ◌+◌, List, [], ◌∷◌, length, Option, Some, None, IsSome, refl, ap, sym, ◌∙◌, subst, arith}
use Rattle.std.specs.Prelude.{IfSome}
use Rattle.std.proofs.lemmas.List.{length-replicate}
use Rattle.std.specs.FinMap.Entries.{put}
use Rattle.sb_bytes.specs.Bytes.{splice}
use Rattle.sb_bytes.specs.Field.{number_at}
use Rattle.sb_forms.specs.Pages.{zeros}
use Rattle.sb_ctx.proofs.ViewLaws.{IsFree-free_page, page_of-same, page_of-other, room_of-page, dropped-with_page}
use Rattle.sb_ctx.specs.Sound.{IsSound}
use Rattle.sb_ctx.specs.View.{View, page_of, room_of, free_page, with_page, dropped}
use Rattle.sb_node.specs.declared.head.Head.{Head}
use Rattle.sb_node.specs.Entries.{key_cmp}
use Rattle.sb_node.specs.Page.{Node, Becomes, node_in, node_of, with_entries, with_head, empty_node}
use Rattle.sb_node.proofs.Edited.{node_of-form}
use Rattle.sb_btree.specs.Inserts.{IsFree, IsTop, GrowsTo}
use Rattle.sb_btree.proofs.Edits.{edited}
use Rattle.sb_btree.proofs.Halved.{held_some, free_page_of}

pub taken_free : (c : View) (n : ℕ) → IsSound c → free_page c ≡ Some n → IsFree c n
taken_free c n sound is = let f = IsFree-free_page c n sound is in f.held ∙ (λ i. Some (record { given = f.given i; now = f.now i; fresh = f.fresh i }))

-- ---- rooms
pub room_held : (c : View) (n : ℕ) → room_of c n ≡ 4096 → IsSome (page_of c n)
room_held c n room = by (page_of c n) room
  where
    by : (o : Option (List ℕ)) → elim o as (λ x. ℕ) [ None ↦ 0 | Some bytes ↦ length bytes ] ≡ 4096 → IsSome o
    by None e = absurd (omega (arith, e))
    by (Some bytes) e = refl

room_other : (c : View) (n m : ℕ) (bytes : List ℕ) → (n ≡ m → ⊥) → room_of (with_page n bytes c) m ≡ room_of c m
room_other c n m bytes other = ap (λ o. elim o as (λ x. ℕ) [ None ↦ 0 | Some page ↦ length page ]) (page_of-other c n m bytes other)

room_same : (c : View) (n : ℕ) (bytes : List ℕ) → IsSome (page_of c n) → room_of (with_page n bytes c) n ≡ length bytes
room_same c n bytes held = room_of-page (with_page n bytes c) n bytes (page_of-same c n bytes held)

zeros_long : length zeros ≡ 4096
unfolding zeros
zeros_long = let nought : ℕ = 0 in length-replicate 4096 nought

-- ---- a fresh page is taken
pub record Takes (old new : View) (page next : ℕ) : Type 0 where
  pub free : IsFree old next
  pub other : next ≡ page → ⊥
  pub taken : new ≡ with_page next zeros old
  pub room : room_of new page ≡ 4096
  pub fresh_room : room_of new next ≡ 4096
  pub given : dropped new ≡ dropped old

pub takes : (old new : View) (page next : ℕ) → IsSound old → Some next ≡ free_page old → new ≡ with_page next zeros old → room_of old page ≡ 4096 → Takes old new page next
takes old new page next sound is taken room =
    let free = taken_free old next sound (sym is) in
    let other : next ≡ page → ⊥ = (λ e. let none = room_of-page old next [] (free_page_of old next free) in let same = ap (room_of old) e in omega (arith, none, same, room)) in
    record {
      free = free;
      other = other;
      taken = taken;
      room = ap (λ (c : View). room_of c page) taken ∙ room_other old next page zeros other ∙ room;
      fresh_room = ap (λ (c : View). room_of c next) taken ∙ room_same old next zeros (held_some old next [] (free_page_of old next free)) ∙ zeros_long;
      given = ap dropped taken ∙ dropped-with_page old next zeros;
    }

-- ---- pages are written whole
pub record Writes (old new : View) (page other : ℕ) (bytes : List ℕ) : Type 0 where
  pub changed : new ≡ with_page page bytes old
  pub room : room_of new other ≡ 4096
  pub given : dropped new ≡ dropped old

-- another page keeps its room
pub writes : (old new : View) (page other : ℕ) (bytes : List ℕ) → (page ≡ other → ⊥) → (room_of old page ≡ 4096) × (room_of old other ≡ 4096) → length bytes ≡ 4096 → IfSome (page_of old page) (λ was. new ≡ with_page page (splice 0 bytes was) old) → Writes old new page other bytes
writes old new page other bytes apart rooms long is =
    let changed = edited old new page bytes rooms.0 long is in
    record {
      changed = changed;
      room = ap (λ (c : View). room_of c other) changed ∙ room_other old page other bytes apart ∙ rooms.1;
      given = ap dropped changed ∙ dropped-with_page old page bytes;
    }

pub edit_given : (old new : View) (page : ℕ) (bytes : List ℕ) → room_of old page ≡ 4096 → length bytes ≡ 4096 → IfSome (page_of old page) (λ was. new ≡ with_page page (splice 0 bytes was) old) → dropped new ≡ dropped old
edit_given old new page bytes room long is = ap dropped (edited old new page bytes room long is) ∙ dropped-with_page old page bytes

-- ---- a root over two pages
pub top_made : (p p₁ p₂ p₃ : List ℕ) (level first : ℕ) (bound v : List ℕ) (next : ℕ) → Becomes p p₁ (empty_node 3 level) → Becomes p₁ p₂ (with_head (record { kind = 3; level = level; count = 0; used = 0; a = first; b = 0; c = 0 }) (node_in p₁))
    → Becomes p₂ p₃ (with_entries (put key_cmp bound v (node_in p₂).entries) (node_in p₂)) → length v ≡ 4 → number_at 4 v 0 ≡ next → IsTop (node_of p₃) level first bound next
top_made p p₁ p₂ p₃ level first bound v next clear set add long spelled =
    let head : Head = record { kind = 3; level = level; count = 0; used = 0; a = first; b = 0; c = 0 } in
    let two : node_in p₂ ≡ with_head head (empty_node 3 level) = set.node_is ∙ ap (with_head head) clear.node_is in
    let three : node_in p₃ ≡ with_entries ((bound, v) ∷ []) (with_head head (empty_node 3 level)) = add.node_is ∙ ap (λ (m : Node). with_entries (put key_cmp bound v m.entries) m) two in
    subst (λ o. IsTop o level first bound next) (sym (node_of-form p₃ add.form ∙ ap Some three)) (refl, refl, refl, v, refl, long, spelled)

pub grows : (old new : View) (root l first next : ℕ) (bound content top : List ℕ) → page_of old root ≡ Some content → IsFree old first → new ≡ with_page root top (with_page first content (with_page first zeros old)) → IsTop (node_of top) (l + 1) first bound next
    → GrowsTo old new root l bound next
grows old new root l first next bound content top was free changed is = by (node_of top) refl is
  where
    by : (o : Option Node) → node_of top ≡ o → IsTop o (l + 1) first bound next → GrowsTo old new root l bound next
    by None there t = absurd t
    by (Some n) there t =
        let up : l + 1 ≡ suc l = omega arith in
        record {
          content = content;
          was = was;
          first = first;
          free = free;
          top = top;
          v = t.3;
          node = n;
          changed = changed;
          node_is = there;
          kind_is = t.0;
          level_is = t.1 ∙ up;
          leftmost = t.2;
          entries_are = t.4;
          long = t.5;
          spelled = t.6;
        }
