-- A Ctx that was given what it asked for.
use Rattle.std.proofs.Common.{◌≡◌, ℕ, ◌<◌, ◌==◌, Bool, true, false, cond, Some, None, option_map, refl, sym, ap, subst, ◌∙◌, arith, eqb-true, true≢false}
use Rattle.std.proofs.lemmas.Bool.{cond-false}
use Rattle.sb_ctx.specs.Pages.{ArePages}
use Rattle.sb_ctx.specs.View.{HeldPage, View, nothing, page_of, holds_fresh, next_of, as_given, dropped, with_held, given_page, fresh_page, HoldsPart, IsClean}
use Rattle.sb_ctx.proofs.DrivingLaws.{HoldsPart-nothing, HoldsPart-given, HoldsPart-fresh, HoldsPart-with_next, IsClean-given, IsClean-fresh, IsClean-with_next}
use Rattle.sb_ctx.proofs.HeldLaws.{page_in-each}
use Rattle.sb_ctx.proofs.ViewLaws.{not_held}
use Rattle.sb_drive.specs.declared.turns.Ask.{Ask}
use Rattle.sb_drive.specs.declared.turns.Ask.TheVariants.{Page, Fresh, After}
use Rattle.sb_drive.specs.Slots.{Slots, owned}
use Rattle.sb_drive.specs.Spaces.{AreFree, HoldsOf, IsGift, IsGivenIn}
use Rattle.sb_drive.specs.Turns.{IsNumbered}
use Rattle.sb_drive.proofs.MeasureLemmas.{to_ask, to_ask-with_held, to_ask-with_fresh, to_ask-with_next, to_ask-with_first, holds_fresh-with_held, holds_fresh-fresh}
use Rattle.sb_drive.proofs.OwnedLemmas.{bytes_for-free}

-- it isn't held yet
abbrev pub IsAsked : View → Ask → Type 0
IsAsked c (Page n) = page_of c n ≡ None
IsAsked c Fresh = Unit {0}
IsAsked c (After low) = next_of c low ≡ None

pub IsAsked-dropped : (c : View) (ask : Ask) → IsAsked c ask → IsAsked (dropped c) ask
IsAsked-dropped c (Page n) asked = ap (option_map (λ (h : HeldPage). h.now)) (page_in-each as_given c.held n ∙ ap (option_map as_given) (not_held c n asked))
IsAsked-dropped c Fresh asked = tt
IsAsked-dropped c (After low) asked = asked

pub IsClean-IsGift : (c new : View) (ask : Ask) → IsGift c ask new → IsClean c → IsClean new
IsClean-IsGift c new (Page n) gift clean = subst IsClean (sym gift.1.2) (IsClean-given c n gift.1.0 clean)
IsClean-IsGift c new Fresh gift clean = subst IsClean (sym gift.3) (IsClean-fresh c gift.0 clean)
IsClean-IsGift c new (After low) gift clean = subst IsClean (sym gift.1) (IsClean-with_next c low gift.0 clean)

pub found-IsGift : (c new : View) (ask : Ask) → IsGift c ask new → new.found ≡ c.found
found-IsGift c new (Page n) gift = ap (λ (v : View). v.found) gift.1.2
found-IsGift c new Fresh gift = ap (λ (v : View). v.found) gift.3
found-IsGift c new (After low) gift = ap (λ (v : View). v.found) gift.1

pub to_ask-IsGift : (c new : View) (ask : Ask) → IsNumbered ask → IsAsked c ask → IsGift c ask new → to_ask new < to_ask c
to_ask-IsGift c new (Page n) below asked gift = subst (λ (v : View). to_ask v < to_ask c) (sym gift.1.2) (to_ask-with_held c n (given_page gift.1.0) gift.0 asked)
to_ask-IsGift c new Fresh below asked gift = subst (λ (v : View). to_ask v < to_ask c) (sym gift.3) (to_ask-with_fresh c gift.0 (omega (arith, gift.1)) gift.2)
to_ask-IsGift c new (After None) below asked gift = subst (λ (v : View). to_ask v < to_ask c) (sym gift.1) (to_ask-with_first c gift.0 asked)
to_ask-IsGift c new (After (Some n)) below asked gift = subst (λ (v : View). to_ask v < to_ask c) (sym gift.1) (to_ask-with_next c n gift.0 below asked)

-- ---- of the pages that a space has
-- what is given is also what is given over these pages, so it is the same fresh page
fresh_same : (c : View) (n m : ℕ) → holds_fresh c n ≡ false → with_held n fresh_page c ≡ with_held m fresh_page c → n ≡ m
fresh_same c n m new same = by (m == n) refl
  where
    by : (b : Bool) → m == n ≡ b → n ≡ m
    by true is = sym (eqb-true m n is)
    by false is =
        let some : holds_fresh (with_held m fresh_page c) n ≡ true = ap (λ (v : View). holds_fresh v n) (sym same) ∙ holds_fresh-fresh c n in
        let other : holds_fresh (with_held m fresh_page c) n ≡ holds_fresh c n = holds_fresh-with_held c m fresh_page n ∙ cond-false (m == n) true (holds_fresh c n) is in
        absurd (true≢false (sym some ∙ other ∙ new))

pub HoldsPart-IsGivenIn : (total : ℕ) (s : Slots) (owner : ℕ) (c new : View) (ask : Ask) → IsGift c ask new → IsGivenIn total s owner c ask new → HoldsPart c (owned s owner) → HoldsPart new (owned s owner)
HoldsPart-IsGivenIn total s owner c new (Page n) gift given part = subst (λ (v : View). HoldsPart v (owned s owner)) (sym given) (HoldsPart-given c (owned s owner) n part)
HoldsPart-IsGivenIn total s owner c new Fresh gift given part =
    let same = fresh_same c given.0 gift.0 given.1.new (sym given.2 ∙ gift.3) in
    subst (λ (v : View). HoldsPart v (owned s owner)) (sym given.2) (HoldsPart-fresh c (owned s owner) given.0 (bytes_for-free owner (s given.0) given.1.free) (omega (arith, same, gift.1)) part)
HoldsPart-IsGivenIn total s owner c new (After low) gift given part =
    subst (λ (v : View). HoldsPart v (owned s owner)) (sym given.2) (HoldsPart-with_next c (owned s owner) low given.0 given.1 part)

-- ---- and the fresh ones are nobody's
AreFree-with_held : (s : Slots) (c : View) (n : ℕ) (h : HeldPage) → (h.fresh ≡ true → (s n).0 ≡ 0) → AreFree s c → AreFree s (with_held n h c)
AreFree-with_held s c n h free all m is = by (n == m) refl (sym (holds_fresh-with_held c n h m) ∙ is)
  where
    by : (b : Bool) → n == m ≡ b → cond b h.fresh (holds_fresh c m) ≡ true → (s m).0 ≡ 0
    by true same fresh = subst (λ k. (s k).0 ≡ 0) (eqb-true n m same) (free fresh)
    by false other fresh = all m fresh

pub AreFree-IsGivenIn : (total : ℕ) (s : Slots) (owner : ℕ) (c new : View) (ask : Ask) → IsGivenIn total s owner c ask new → AreFree s c → AreFree s new
AreFree-IsGivenIn total s owner c new (Page n) given free = subst (λ (v : View). AreFree s v) (sym given) (AreFree-with_held s c n (given_page (owned s owner n)) (λ fresh. cc) free)
AreFree-IsGivenIn total s owner c new Fresh given free = subst (λ (v : View). AreFree s v) (sym given.2) (AreFree-with_held s c given.0 fresh_page (λ fresh. given.1.free) free)
AreFree-IsGivenIn total s owner c new (After low) given free = subst (λ (v : View). AreFree s v) (sym given.2) free

pub HoldsOf-nothing : (s : Slots) (owner : ℕ) → ArePages (owned s owner) → HoldsOf s owner nothing
HoldsOf-nothing s owner pages = record { part = HoldsPart-nothing (owned s owner) pages; free = λ n is. cc }

pub HoldsOf-IsGivenIn : (total : ℕ) (s : Slots) (owner : ℕ) (c new : View) (ask : Ask) → IsGift c ask new → IsGivenIn total s owner c ask new → HoldsOf s owner c → HoldsOf s owner new
HoldsOf-IsGivenIn total s owner c new ask gift given holds = record {
  part = HoldsPart-IsGivenIn total s owner c new ask gift given holds.part;
  free = AreFree-IsGivenIn total s owner c new ask given holds.free;
}
