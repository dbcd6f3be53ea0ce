-- The pages of a Ctx keep their sizes.
use Rattle.std.proofs.Common.{◌≡◌, ℕ, ◌<◌, ◌+◌, ◌≤◌, ◌==◌, ◌≢◌, Bool, true, false, cond, List, [], ◌∷◌, length, take, drop, ◌++◌, Option, Some, None, option_map, All, Result, Ok, Err, OnOk, OnErr, slice_get, set, refl, sym, ap, subst, ◌∙◌, arith, nat_cmp, eqb-true}
use Rattle.std.specs.FinMap.Entries.{put}
use Rattle.std.proofs.lemmas.List.Elements.{All-nil, All-append, All-take, All-drop, All-replicate}
use Rattle.std.proofs.lemmas.Option.{same_Some}
use Rattle.std.proofs.lemmas.List.{nil_from_length, length-replicate}
use Rattle.sb_forms.specs.Pages.{zeros}
use Rattle.sb_bytes.specs.Bytes.{splice}
use Rattle.sb_bytes.proofs.BytesLaws.{length-splice}
use Rattle.sb_ctx.specs.View.{HeldPage, bytes_put, as_given}
use Rattle.sb_ctx.specs.Held.{Entries, page_in, with_bytes, each}
use Rattle.sb_ctx.proofs.HeldLaws.{page_in-put, page_in-each, page_in-bytes_put, page_in-place}
use Rattle.sb_ctx.specs.Sound.{AreSound}
use Rattle.sb_ctx.specs.Sized.{IsSized, AreSized}
use Rattle.sb_ctx.proofs.HeldLemmas.{bytes_put-place}

abbrev IsByte : ℕ → Type 0
IsByte b = b < 256

pub AreSized-nil : AreSized []
AreSized-nil n h is = cc

pub AreSized-put : (held : Entries) (n : ℕ) (h : HeldPage) → IsSized h → AreSized held → AreSized (put nat_cmp n h held)
AreSized-put held n h sized all m g is = by (n == m) (sym (page_in-put held n m h) ∙ is)
  where
    by : (b : Bool) → cond b (Some h) (page_in held m) ≡ Some g → IsSized g
    by true here = subst IsSized (same_Some h g here) sized
    by false there = all m g there

pub AreSized-bytes_put : (held : Entries) (n : ℕ) (bytes : List ℕ) → ((h : HeldPage) → page_in held n ≡ Some h → IsSized (with_bytes bytes h)) → AreSized held → AreSized (bytes_put n bytes held)
AreSized-bytes_put held n bytes put all m g is =
    elim (n == m) as (λ b. n == m ≡ b → cond b (option_map (with_bytes bytes) (page_in held m)) (page_in held m) ≡ Some g → IsSized g) [
      | true ↦ λ same there. changed (eqb-true n m same) (page_in held m) refl there
      | false ↦ λ other there. all m g there
    ] refl (sym (page_in-bytes_put held n m bytes) ∙ is)
  where
    changed : n ≡ m → (o : Option HeldPage) → page_in held m ≡ o → option_map (with_bytes bytes) o ≡ Some g → IsSized g
    changed at None there is = cc
    changed at (Some h) there is = subst IsSized (same_Some (with_bytes bytes h) g is) (put h (ap (page_in held) at ∙ there))

as_given-sized : (h : HeldPage) → (h.fresh ≡ true → h.given ≡ []) → IsSized h → IsSized (as_given h)
as_given-sized h none sized = record { given = sized.given; bytes = sized.given; long = λ some. by h.fresh refl some }
  where
    by : (b : Bool) → h.fresh ≡ b → h.given ≢ [] → length h.given ≡ cond h.fresh 4096 (length h.given)
    by true is some = absurd (some (none is))
    by false is some = sym (ap (λ b. cond b 4096 (length h.given)) is)

pub AreSized-as_given : (held : Entries) → AreSound held → AreSized held → AreSized (each as_given held)
AreSized-as_given held sound all n h is = by (page_in held n) refl (sym (page_in-each as_given held n) ∙ is)
  where
    by : (o : Option HeldPage) → page_in held n ≡ o → option_map as_given o ≡ Some h → IsSized h
    by None there is = cc
    by (Some g) there is = subst IsSized (same_Some (as_given g) h is) (as_given-sized g (sound.fresh n g there) (all n g there))

-- ---- a page at its place has other bytes
-- bytes written over those of a page
pub splice-sized : (h : HeldPage) (offset : ℕ) (bytes : List ℕ) → offset + length bytes ≤ length h.now → All IsByte bytes → IsSized h → IsSized (with_bytes (splice offset bytes h.now) h)
splice-sized h offset bytes fits small sized = record {
  given = sized.given;
  bytes = All-append IsByte (take offset h.now ++ bytes) (drop (offset + length bytes) h.now) (All-append IsByte (take offset h.now) bytes (All-take IsByte offset h.now sized.bytes) small) (All-drop IsByte (offset + length bytes) h.now sized.bytes);
  long = λ some. length-splice offset bytes h.now fits ∙ by h.now refl some;
}
  where
    by : (now : List ℕ) → h.now ≡ now → splice offset bytes h.now ≢ [] → length h.now ≡ cond h.fresh 4096 (length h.given)
    by [] none some = absurd (some (nil_from_length (splice offset bytes h.now) (length-splice offset bytes h.now fits ∙ ap length none)))
    by (b ∷ now) is some = sized.long (λ none. absurd (nonempty b now (sym is ∙ none)))
      where
        nonempty : (b : ℕ) (now : List ℕ) → b ∷ now ≡ [] → ⊥
        nonempty b now e = cc

-- no bytes
pub freed-sized : (h : HeldPage) → IsSized h → IsSized (with_bytes [] h)
freed-sized h sized = record { given = sized.given; bytes = All-nil IsByte; long = λ some. absurd (some refl) }

-- the bytes of a new page
pub taken-sized : (h : HeldPage) (bytes : List ℕ) → h.fresh ≡ true → length bytes ≡ 4096 → All IsByte bytes → IsSized h → IsSized (with_bytes bytes h)
taken-sized h bytes fresh long small sized = record { given = sized.given; bytes = small; long = λ some. long ∙ sym (ap (λ b. cond b 4096 (length h.given)) fresh) }

pub AreSized-set : (held : Entries) (i : ℕ) (e y : ℕ × HeldPage) (bytes : List ℕ) → AreSound held → slice_get held i ≡ Some e → y ≡ (e.0, with_bytes bytes e.1) → IsSized (with_bytes bytes e.1) → AreSized held → AreSized (set held i y)
AreSized-set held i e y bytes sound there is sized all =
    subst AreSized (bytes_put-place held i e bytes sound.rises there ∙ ap (set held i) (sym is))
    (AreSized-bytes_put held e.0 bytes (λ h at. subst IsSized (ap (with_bytes bytes) (same_Some e.1 h (sym (page_in-place held i e sound.rises there) ∙ at))) sized) all)

-- the page at a place
pub IsSized-at : (held : Entries) (i : ℕ) (e : ℕ × HeldPage) → AreSound held → slice_get held i ≡ Some e → AreSized held → IsSized e.1
IsSized-at held i e sound there all = all e.0 e.1 (page_in-place held i e sound.rises there)

-- whether the bytes were written or not
pub AreSized-edited : {E : Type 0} (r : Result (Unit {0}) E) (held : Entries) (i : ℕ) (e y : ℕ × HeldPage) (bytes : List ℕ) → AreSound held → slice_get held i ≡ Some e → OnOk r (y ≡ (e.0, with_bytes bytes e.1)) → OnErr r (y ≡ e) →
    IsSized (with_bytes bytes e.1) → AreSized held → AreSized (set held i y)
AreSized-edited (Ok u) held i e y bytes sound there ok err sized all = AreSized-set held i e y bytes sound there ok sized all
AreSized-edited (Err d) held i e y bytes sound there ok err sized all = AreSized-set held i e y e.1.now sound there err (IsSized-at held i e sound there all) all

-- a new page
pub length-zeros : length zeros ≡ 4096
unfolding zeros
length-zeros = length-replicate {A = ℕ} 4096 0

pub zeros-bytes : All IsByte zeros
unfolding zeros
zeros-bytes = All-replicate IsByte 4096 0 (omega arith)
