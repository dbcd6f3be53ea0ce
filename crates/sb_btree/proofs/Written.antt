-- What it takes to write whole pages, and a fresh one with them.
use Rattle.std.proofs.Common.{◌≡◌, ◌≢◌, ℕ, ◌+◌, ◌-◌, ◌≤◌, List, [], length, Option, Some, None, refl, ap, sym, ◌∙◌, subst, arith, inl, inr, ◌⊎◌}
use Rattle.sb_forms.specs.Pages.{zeros}
use Rattle.sb_ctx.specs.View.{View, held_at, page_of, room_of, with_page, fresh_page, edits_of}
use Rattle.sb_btree.specs.Spending.{taken_of, written}
use Rattle.sb_btree.proofs.Tops.{Takes}
use Rattle.sb_btree.proofs.Weights.{Doubles, doubles-left, doubles-right, edits-page, edits-written, taken-written, edits-taken, edits-again, held-same, some_zeros, written-few, written-other}

long_some : (bytes : List ℕ) → length bytes ≡ 4096 → bytes ≢ []
long_some bytes long none = omega (arith, long, ap length none)

-- the bytes of a held page
record Holds (c : View) (n : ℕ) : Type 0 where
  bytes : List ℕ
  held : page_of c n ≡ Some bytes
  some : bytes ≢ []

holds : (c : View) (n : ℕ) → room_of c n ≡ 4096 → Holds c n
holds c n room = by (page_of c n) refl room
  where
    by : (o : Option (List ℕ)) → page_of c n ≡ o → elim o as (λ x. ℕ) [ None ↦ 0 | Some bytes ↦ length bytes ] ≡ 4096 → Holds c n
    by None is room = absurd (omega (arith, room))
    by (Some bytes) is room = record { bytes = bytes; held = is; some = long_some bytes room }

-- a page that is written whole
pub edits-whole : (c : View) (n : ℕ) (bytes : List ℕ) → room_of c n ≡ 4096 → length bytes ≡ 4096 → edits_of (with_page n bytes c) + written c n ≤ edits_of c + 1
edits-whole c n bytes room long = let h = holds c n room in edits-written c n h.bytes bytes h.held h.some (long_some bytes long)

pub edits-over : (c : View) (n : ℕ) (bytes : List ℕ) → room_of c n ≡ 4096 → length bytes ≡ 4096 → edits_of (with_page n bytes c) + written c n ≡ edits_of c + written (with_page n bytes c) n
edits-over c n bytes room long = let h = holds c n room in edits-page c n h.bytes bytes h.held h.some (long_some bytes long)

pub taken-whole : (c : View) (n : ℕ) (bytes : List ℕ) → room_of c n ≡ 4096 → length bytes ≡ 4096 → taken_of (with_page n bytes c) ≡ taken_of c
taken-whole c n bytes room long = let h = holds c n room in taken-written c n h.bytes bytes h.held h.some (long_some bytes long)

-- ---- two pages
module _ (old mid new : View) (page next : ℕ) (t : Takes old mid page next) where
  fresh_edits : edits_of mid ≤ edits_of old + 2
  fresh_edits = omega (arith, edits-taken old next zeros t.free some_zeros, ap edits_of t.taken)

  written_still : written mid page ≡ written old page
  written_still = ap (λ (c : View). written c page) t.taken ∙ written-other old next page zeros t.other

  -- a fresh page was taken, and then a page was written or none
  pub left_edits : (left : List ℕ) → length left ≡ 4096 → (new ≡ mid) ⊎ (new ≡ with_page page left mid) → edits_of new ≤ edits_of old + (3 - written old page)
  left_edits left long (inl is) = omega (arith, ap edits_of is, fresh_edits, written-few old page)
  left_edits left long (inr is) = omega (arith, ap edits_of is, edits-whole mid page left t.room long, fresh_edits, written_still, written-few old page)

  -- the fresh page was written, or none
  pub right_edits : (right : List ℕ) → length right ≡ 4096 → (new ≡ mid) ⊎ (new ≡ with_page next right mid) → edits_of new ≤ edits_of old + 3
  right_edits right long (inl is) = omega (arith, ap edits_of is, fresh_edits)
  right_edits right long (inr is) =
      let first = ap (λ (c : View). held_at c next) t.taken ∙ held-same old next zeros fresh_page t.free in
      omega (arith, ap edits_of is, edits-again mid next zeros right first some_zeros (long_some right long), fresh_edits)

  module _ (room : room_of old page ≡ 4096) (left right : List ℕ) (left_long : length left ≡ 4096) (right_long : length right ≡ 4096) where
    -- both were written
    pub halves_double : new ≡ with_page next right (with_page page left mid) → Doubles old new page
    halves_double is =
        let h = holds old page room in
        subst (λ c. Doubles old c page) (sym (is ∙ ap (λ (c : View). with_page next right (with_page page left c)) t.taken))
        (doubles-left old page next h.bytes left right h.held h.some t.free (long_some left left_long) (long_some right right_long))

    pub top_double : new ≡ with_page page left (with_page next right mid) → Doubles old new page
    top_double is =
        let h = holds old page room in
        subst (λ c. Doubles old c page) (sym (is ∙ ap (λ (c : View). with_page page left (with_page next right c)) t.taken))
        (doubles-right old page next h.bytes left right h.held h.some t.free (long_some left left_long) (long_some right right_long))
