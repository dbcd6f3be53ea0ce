-- What the writes of edited and freed pages make of each owner's pages.
use Rattle.std.proofs.Common.{◌≡◌, ◌≢◌, ℕ, ◌+◌, ◌<◌, ◌==◌, Bool, true, false, cond, not, ◌||◌, List, [], ◌∷◌, ◌++◌, length, map, take, All, Some, slice_get, refl, sym, ap, subst, ◌∙◌, arith, eqb-true, true≢false, append_assoc, length-append}
use Rattle.std.specs.List.{list_any}
use Rattle.std.proofs.lemmas.Bool.Decides.{nat_tests}
use Rattle.std.proofs.lemmas.List.{take_more, map-append, length-map}
use Rattle.std.proofs.lemmas.List.Elements.{All-push, All-append, All-map, All-weaker, All-get_or}
use Rattle.std.proofs.lemmas.List.Folds.{list_any-append}
use Rattle.std.proofs.lemmas.Option.{slice_get_within, get_or_from_slice_get}
use Rattle.sb_relation.specs.Fits.{is_empty}
use Rattle.sb_forms.specs.Pages.{Pages, IsWhole}
use Rattle.sb_ctx.specs.View.{HeldPage, View, held_at, edited_pages, freed_pages, edits_of, HoldsPart, stored}
use Rattle.sb_ctx.proofs.ListedLaws.{IsListed, edited-page, freed-page, stored-not_listed}
use Rattle.sb_ctx.specs.Sound.{IsSound}
use Rattle.sb_ctx.proofs.ViewLaws.{no_bytes}
use Rattle.sb_memory.specs.declared.slots.Write.{Write}
use Rattle.sb_drive.specs.Slots.{Slot, Slots, IsPage, nobodys, bytes_for, owned}
use Rattle.sb_drive.specs.Stores.{bytes_in}
use Rattle.sb_memory.specs.Stores.{Adds, IsPageIn, MayWrite, slot_of, writes_to}
use Rattle.sb_memory.specs.Writes.{written, AreAmong, ArePagesTo}
use Rattle.sb_drive.proofs.OwnedLemmas.{bytes_for-own, bytes_for-other, bytes_for-free}
use Rattle.sb_drive.proofs.OwnedLemmas.{bytes_for-nobodys}
use Rattle.sb_memory.proofs.WholeLemmas.{IsPage-nobodys}
use Rattle.sb_drive.specs.Stores.{bytes_in}
use Rattle.sb_drive.proofs.StoresLemmas.{listed-any, any-listed, bytes_in-stored}

abbrev pub write_of : ℕ → View → ℕ → Write
write_of owner c n = record { number = n; slot = slot_of owner (bytes_in c n) }

-- ---- the writes
pub Adds-more : (s : Slots) (owner : ℕ) (c : View) (ns : List ℕ) (i n : ℕ) (w : Write) (old mid new : List Write) → slice_get ns i ≡ Some n → w ≡ write_of owner c n → MayWrite s owner n → IsPageIn c n →
    Adds s owner c (take i ns) old mid → new ≡ mid ++ w ∷ [] → Adds s owner c (take (i + 1) ns) old new
Adds-more s owner c ns i n w old mid new at is may whole added made =
    let more : take (i + 1) ns ≡ take i ns ++ n ∷ [] =
    take_more ns i n (slice_get_within ns i n at) ∙ ap (λ (x : ℕ). take i ns ++ x ∷ []) (get_or_from_slice_get ns i n n at) in
    record {
      writes = made ∙ (λ j. added.writes j ++ is j ∷ []) ∙ append_assoc old (writes_to owner c (take i ns)) (write_of owner c n ∷ [])
          ∙ ap (λ (ws : List Write). old ++ ws) (sym (ap (writes_to owner c) more ∙ map-append (write_of owner c) (take i ns) (n ∷ [])));
      may = subst (λ (xs : List ℕ). All (MayWrite s owner) xs) (sym more) (All-push (MayWrite s owner) (take i ns) n added.may may);
      whole = subst (λ (xs : List ℕ). All (IsPageIn c) xs) (sym more) (All-push (IsPageIn c) (take i ns) n added.whole whole);
    }

pub Adds-append : (s : Slots) (owner : ℕ) (c : View) (ns ms : List ℕ) (old mid new : List Write) → Adds s owner c ns old mid → Adds s owner c ms mid new → Adds s owner c (ns ++ ms) old new
Adds-append s owner c ns ms old mid new first then = record {
  writes = then.writes ∙ ap (λ (ws : List Write). ws ++ writes_to owner c ms) first.writes ∙ append_assoc old (writes_to owner c ns) (writes_to owner c ms)
      ∙ ap (λ (ws : List Write). old ++ ws) (sym (map-append (write_of owner c) ns ms));
  may = All-append (MayWrite s owner) ns ms first.may then.may;
  whole = All-append (IsPageIn c) ns ms first.whole then.whole;
}

pub AreAmong-Adds : (s : Slots) (owner : ℕ) (c : View) (ns : List ℕ) (new : List Write) → Adds s owner c ns [] new → AreAmong 16384 new
AreAmong-Adds s owner c ns new added =
    subst (λ (ws : List Write). AreAmong 16384 ws) (sym added.writes)
    (All-map (λ w. w.number < 16384) (write_of owner c) ns (All-weaker (MayWrite s owner) (λ n. n < 16384) (λ n may. may.below) ns added.may))

-- ---- what is written is whole
slot_of-whole : (owner : ℕ) (bytes : List ℕ) → (bytes ≢ [] → IsWhole bytes) → IsPage (slot_of owner bytes)
slot_of-whole owner bytes whole = by (is_empty bytes)
  where
    by : (b : Bool) → IsPage (cond b nobodys (owner, bytes))
    by true = IsPage-nobodys
    by false = whole

pub ArePagesTo-Adds : (s : Slots) (owner : ℕ) (c : View) (ns : List ℕ) (new : List Write) → Adds s owner c ns [] new → ArePagesTo new
ArePagesTo-Adds s owner c ns new added =
    subst ArePagesTo (sym added.writes)
    (All-map (λ w. IsPage w.slot) (write_of owner c) ns (All-weaker (IsPageIn c) (λ n. IsPage (slot_of owner (bytes_in c n))) (λ n whole. slot_of-whole owner (bytes_in c n) whole) ns added.whole))

-- a page is as it was written last, or as it was
pub written-at : (f : ℕ → Slot) (ns : List ℕ) (s : Slots) (m : ℕ) → written (map (λ n. record { number = n; slot = f n }) ns) s m ≡ cond (list_any (λ n. n == m) ns) (f m) (s m)
written-at f [] s m = refl
written-at f (n ∷ ns) s m =
    written-at f ns (λ k. cond (n == k) (f n) (s k)) m
    ∙ elim (n == m) as (λ b. n == m ≡ b → cond (list_any (λ k. k == m) ns) (f m) (cond b (f n) (s m)) ≡ cond (b || list_any (λ k. k == m) ns) (f m) (s m)) [
      | true ↦ λ same. ap (λ (x : Slot). cond (list_any (λ k. k == m) ns) (f m) x) (ap f (eqb-true n m same)) ∙ both (list_any (λ k. k == m) ns) (f m)
      | false ↦ λ other. refl
    ] refl
  where
    both : (b : Bool) (x : Slot) → cond b x x ≡ x
    both true x = refl
    both false x = refl

pub All-listed : (P : ℕ → Type 0) (ns : List ℕ) (m : ℕ) → All P ns → IsListed ns m → P m
All-listed P ns m all at = subst P (get_or_from_slice_get ns at.0 m m at.1) (All-get_or P ns at.0 m (slice_get_within ns at.0 m at.1) all)

-- ---- the pages that are written
abbrev pub made_pages : View → List ℕ
made_pages c = edited_pages c ++ freed_pages c

abbrev pub is_made : View → ℕ → Bool
is_made c m = list_any (λ n. n == m) (made_pages c)

pub Adds-made : (s : Slots) (owner : ℕ) (c : View) (start mid ws : List Write) → start ≡ [] → Adds s owner c (edited_pages c) start mid → Adds s owner c (freed_pages c) mid ws → Adds s owner c (made_pages c) [] ws
Adds-made s owner c start mid ws none edited freed =
    Adds-append s owner c (edited_pages c) (freed_pages c) [] mid ws (subst (λ (old : List Write). Adds s owner c (edited_pages c) old mid) none edited) freed

-- a page that is written is held
pub held-made : (c : View) (m : ℕ) → IsSound c → is_made c m ≡ true → (h : HeldPage) × (held_at c m ≡ Some h)
held-made c m sound is = by (list_any (λ n. n == m) (edited_pages c)) refl (sym (list_any-append (λ n. n == m) (edited_pages c) (freed_pages c)) ∙ is)
  where
    by : (b : Bool) → list_any (λ n. n == m) (edited_pages c) ≡ b → (b || list_any (λ n. n == m) (freed_pages c)) ≡ true → (h : HeldPage) × (held_at c m ≡ Some h)
    by true edited either = let e = edited-page c m sound (listed-any (edited_pages c) m edited) in (e.page, e.held)
    by false other freed = let e = freed-page c m sound (listed-any (freed_pages c) m freed) in (e.page, e.held)

pub stored-not_made : (c : View) (P : Pages) (m : ℕ) → HoldsPart c P → is_made c m ≡ false → stored c P m ≡ P m
stored-not_made c P m part not = stored-not_listed c P m part
    (λ at. true≢false (sym (ap (λ b. b || list_any (λ n. n == m) (freed_pages c)) (any-listed (edited_pages c) m at)) ∙ sym (list_any-append (λ n. n == m) (edited_pages c) (freed_pages c)) ∙ not))
    (λ at. true≢false (sym (or_true (list_any (λ n. n == m) (edited_pages c)) (list_any (λ n. n == m) (freed_pages c)) (any-listed (freed_pages c) m at)) ∙ sym (list_any-append (λ n. n == m) (edited_pages c) (freed_pages c)) ∙ not))
  where
    or_true : (a b : Bool) → b ≡ true → (a || b) ≡ true
    or_true true b is = refl
    or_true false b is = is

pub slot_of-own : (owner : ℕ) (bytes : List ℕ) → owner ≢ 0 → bytes_for owner (slot_of owner bytes) ≡ bytes
slot_of-own owner bytes somebody = by (is_empty bytes) refl
  where
    by : (b : Bool) → is_empty bytes ≡ b → bytes_for owner (cond b nobodys (owner, bytes)) ≡ bytes
    by true none = bytes_for-nobodys owner ∙ sym (no_bytes bytes none)
    by false some = bytes_for-own owner bytes somebody

pub slot_of-other : (owner o : ℕ) (bytes : List ℕ) → (o ≡ owner → ⊥) → bytes_for o (slot_of owner bytes) ≡ []
slot_of-other owner o bytes other = by (is_empty bytes)
  where
    by : (b : Bool) → bytes_for o (cond b nobodys (owner, bytes)) ≡ []
    by true = bytes_for-nobodys o
    by false = bytes_for-other o (owner, bytes) (λ same. other (sym same))

-- a page that an owner may write isn't another one's
pub MayWrite-other : (s : Slots) (owner o m : ℕ) → MayWrite s owner m → (o ≡ owner → ⊥) → bytes_for o (s m) ≡ []
MayWrite-other s owner o m may other = by ((s m).0 == 0) refl
  where
    by : (b : Bool) → (s m).0 == 0 ≡ b → bytes_for o (s m) ≡ []
    by true free = bytes_for-free o (s m) (eqb-true (s m).0 0 free)
    by false somebodys = bytes_for-other o (s m) (λ same. other (sym same ∙ may.own (λ none. absurd (grind (arith, nat_tests)))))

-- ---- the whole of it
abbrev pub after_writes : ℕ → View → Slots → Slots
after_writes owner c s m = cond (is_made c m) (slot_of owner (bytes_in c m)) (s m)

pub written-made : (s : Slots) (owner : ℕ) (c : View) (ws : List Write) → Adds s owner c (made_pages c) [] ws → written ws s ≡ after_writes owner c s
written-made s owner c ws added = λ i m. (ap (λ (xs : List Write). written xs s m) added.writes ∙ written-at (λ n. slot_of owner (bytes_in c n)) (made_pages c) s m) i

pub owned-stored : (s : Slots) (owner : ℕ) (c : View) (ws : List Write) → IsSound c → HoldsPart c (owned s owner) → Adds s owner c (made_pages c) [] ws → owned (written ws s) owner ≡ stored c (owned s owner)
owned-stored s owner c ws sound part added = λ i m. (ap (λ (f : Slots). bytes_for owner (f m)) (written-made s owner c ws added) ∙ by m (is_made c m) refl) i
  where
    by : (m : ℕ) (b : Bool) → is_made c m ≡ b → bytes_for owner (cond b (slot_of owner (bytes_in c m)) (s m)) ≡ stored c (owned s owner) m
    by m true is =
        let held = held-made c m sound is in
        let may = All-listed (MayWrite s owner) (made_pages c) m added.may (listed-any (made_pages c) m is) in
        slot_of-own owner (bytes_in c m) may.somebody ∙ bytes_in-stored c (owned s owner) m held.0 held.1
    by m false not = sym (stored-not_made c (owned s owner) m part not)

pub owned-others : (s : Slots) (owner o : ℕ) (c : View) (ws : List Write) → Adds s owner c (made_pages c) [] ws → (o ≡ owner → ⊥) → owned (written ws s) o ≡ owned s o
owned-others s owner o c ws added other = λ i m. (ap (λ (f : Slots). bytes_for o (f m)) (written-made s owner c ws added) ∙ by m (is_made c m) refl) i
  where
    by : (m : ℕ) (b : Bool) → is_made c m ≡ b → bytes_for o (cond b (slot_of owner (bytes_in c m)) (s m)) ≡ bytes_for o (s m)
    by m true is = slot_of-other owner o (bytes_in c m) other ∙ sym (MayWrite-other s owner o m (All-listed (MayWrite s owner) (made_pages c) m added.may (listed-any (made_pages c) m is)) other)
    by m false not = refl

pub none_written : (s : Slots) (owner : ℕ) (c : View) (ws : List Write) → edits_of c ≡ 0 → Adds s owner c (made_pages c) [] ws → length ws ≡ 0
none_written s owner c ws none added =
    ap (λ (l : List Write). length l) added.writes ∙ length-map (made_pages c) (write_of owner c) ∙ omega (arith, none, length-append (edited_pages c) (freed_pages c))
