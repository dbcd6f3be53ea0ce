-- Pages without an Image, which are on the disk as they are now.
use Rattle.std.proofs.Common.{◌≡◌, ℕ, suc, zero, Bool, true, false, cond, ◌==◌, List, [], ◌∷◌, ◌++◌, refl, sym, ◌∙◌, ap, subst}
use Rattle.std.proofs.lemmas.Bool.{ne_eqb, both_ways, or_parts}
use Rattle.std.proofs.Math.Bool.{and-false}
use Rattle.sb_log.specs.Records.{Change, Record, Begin, Image, Changed, Back, Commit}
use Rattle.sb_log.specs.Standing.{keep, stood, stood_all, standing, committed}
use Rattle.sb_log.specs.Restored.{base, over, counting, restored, imaged, IsCoveredBy, IsCoveredBehind, IsCovered, IsHarmless}
use Rattle.sb_log.specs.Views.{Active, cut, counts, changes, IsPage}
use Rattle.sb_log.proofs.RestoredLemmas.{append_row, imaged-append, base-not_imaged}

-- none of the changes is of the page
abbrev pub NoPage : ℕ → List Change → Type 0
NoPage p [] = Unit {0}
NoPage p (c ∷ cs) = (c.page ≡ p → ⊥) × NoPage p cs

NoPage-append : (p : ℕ) (cs : List Change) (c : Change) → NoPage p cs → (c.page ≡ p → ⊥) → NoPage p (cs ++ c ∷ [])
NoPage-append p [] c none not = (not, tt)
NoPage-append p (k ∷ cs) c none not = (none.0, NoPage-append p cs c none.1 not)

NoPage-keep : (p tx n : ℕ) (cs : List Change) → NoPage p cs → NoPage p (keep tx n cs)
NoPage-keep p tx n [] none = tt
NoPage-keep p tx zero (c ∷ cs) none = by_test (c.tx == tx) (NoPage-keep p tx zero cs none.1)
  where
    by_test : (b : Bool) → NoPage p (keep tx zero cs) → NoPage p (cond b (keep tx zero cs) (c ∷ keep tx zero cs))
    by_test true more = more
    by_test false more = (none.0, more)
NoPage-keep p tx (suc n) (c ∷ cs) none = by_test (c.tx == tx) (NoPage-keep p tx n cs none.1) (NoPage-keep p tx (suc n) cs none.1)
  where
    by_test : (b : Bool) → NoPage p (keep tx n cs) → NoPage p (keep tx (suc n) cs) → NoPage p (cond b (c ∷ keep tx n cs) (c ∷ keep tx (suc n) cs))
    by_test true more less = (none.0, more)
    by_test false more less = (none.0, less)

NoPage-cut : (p : ℕ) (active : List Active) (cs : List Change) → NoPage p cs → NoPage p (cut active cs)
NoPage-cut p [] cs none = none
NoPage-cut p (o ∷ active) cs none = NoPage-cut p active (keep o.tx o.n cs) (NoPage-keep p o.tx o.n cs none)

NoPage-counting : (f : ℕ → Bool) (p : ℕ) (cs : List Change) → NoPage p cs → counting f p cs ≡ []
NoPage-counting f p [] none = refl
NoPage-counting f p (c ∷ cs) none = rw (ne_eqb c.page p none.0, and-false (f c.tx)) (NoPage-counting f p cs none.1)

-- covered records change no page of which they hold no Image
NoPage-stood_all : (p : ℕ) (past rs : List Record) (cs : List Change) → IsCoveredBehind past rs → imaged (past ++ rs) p ≡ false → NoPage p cs → NoPage p (stood_all cs rs)
NoPage-stood_all p past [] cs covered is none = none
NoPage-stood_all p past (r ∷ rs) cs covered is none =
    NoPage-stood_all p (past ++ r ∷ []) rs (stood cs r) covered.1 (subst (λ (l : List Record). imaged l p ≡ false) (append_row past r rs) is)
    (one r covered.0 (or_parts (imaged past p) (imaged (r ∷ rs) p) (sym (imaged-append past (r ∷ rs) p) ∙ is)).0)
  where
    one : (r : Record) → IsCoveredBy past r → imaged past p ≡ false → NoPage p (stood cs r)
    one (Begin t) needs out = none
    one (Image page bytes) needs out = none
    one (Changed c) needs out = NoPage-append p cs c none (λ e. both_ways (imaged past p) out (subst (λ (q : ℕ). imaged past q ≡ true) e needs))
    one (Back t n) needs out = NoPage-keep p t n cs none
    one (Commit t) needs out = none

pub changes-not_imaged : (recs : List Record) (active : List Active) (p : ℕ) → IsCovered recs → imaged recs p ≡ false → changes recs active p ≡ []
changes-not_imaged recs active p covered is = NoPage-counting (counts recs active) p (cut active (standing recs)) (NoPage-cut p active (standing recs) (NoPage-stood_all p [] recs [] covered is tt))

-- such a page is restored as the disk has it
pub restored-not_imaged : (recs : List Record) (p : ℕ) (disk : List ℕ) → IsCovered recs → imaged recs p ≡ false → restored recs p disk ≡ disk
restored-not_imaged recs p disk covered is = rw (NoPage-counting (committed recs) p (standing recs) (NoPage-stood_all p [] recs [] covered is tt)) (base-not_imaged p recs disk is)

-- and it is so now, whoever is active
pub now-not_imaged : (recs : List Record) (active : List Active) (p : ℕ) (disk now : List ℕ) → IsCovered recs → imaged recs p ≡ false → IsPage recs active (base p recs disk) now p → now ≡ disk
now-not_imaged recs active p disk now covered is page = sym page.is ∙ ap (λ (cs : List Change). over cs (base p recs disk)) (changes-not_imaged recs active p covered is) ∙ base-not_imaged p recs disk is

-- so the page now may be logged as its Image
pub IsHarmless-image : (recs : List Record) (active : List Active) (q p : ℕ) (disk now : List ℕ) → IsCovered recs → imaged recs q ≡ false → (q ≡ p → IsPage recs active (base p recs disk) now p) → IsHarmless recs p disk (Image q now)
IsHarmless-image recs active q p disk now covered is page = λ e. ap (λ (b : List ℕ). base p recs b) (now-not_imaged recs active p disk now covered (subst (λ (k : ℕ). imaged recs k ≡ false) e is) (page e))
