-- What records more make of a page.
use Rattle.std.proofs.Common.{◌≡◌, ℕ, suc, zero, Bool, true, false, cond, ◌&&◌, ◌||◌, ◌==◌, List, [], ◌∷◌, ◌++◌, refl, sym, ◌∙◌, ap, subst, arith, append_assoc}
use Rattle.std.proofs.lemmas.Bool.{eqb-true, both_ways}
use Rattle.std.proofs.Math.Bool.{or_assoc, or-false}
use Rattle.std.proofs.lemmas.List.{append-nil}
use Rattle.std.proofs.lemmas.List.Elements.{filter-append}
use Rattle.std.proofs.lemmas.Grind.{common_steps}
use Rattle.sb_bytes.specs.Bytes.{splice}
use Rattle.sb_log.specs.Records.{Change, Record, Begin, Image, Changed, Back, Commit}
use Rattle.sb_log.specs.Standing.{keep, stood_all, standing, committed}
use Rattle.sb_log.specs.Restored.{base, over, counting, restored, imaged, IsCoveredBehind, IsHarmless, AreHarmless}
use Rattle.sb_log.proofs.StandingLemmas.{stood_all-append, committed-append}

pub imaged-append : (a b : List Record) (p : ℕ) → imaged (a ++ b) p ≡ (imaged a p || imaged b p)
imaged-append [] b p = refl
imaged-append (Begin t ∷ a) b p = imaged-append a b p
imaged-append (Image page bytes ∷ a) b p = ap (λ (x : Bool). (page == p) || x) (imaged-append a b p) ∙ sym (or_assoc (page == p) (imaged a p) (imaged b p))
imaged-append (Changed c ∷ a) b p = imaged-append a b p
imaged-append (Back t n ∷ a) b p = imaged-append a b p
imaged-append (Commit t ∷ a) b p = imaged-append a b p

pub base-append : (p : ℕ) (a b : List Record) (disk : List ℕ) → base p (a ++ b) disk ≡ base p a (base p b disk)
base-append p [] b disk = refl
base-append p (Begin t ∷ a) b disk = base-append p a b disk
base-append p (Image page bytes ∷ a) b disk = ap (λ (x : List ℕ). cond (page == p) bytes x) (base-append p a b disk)
base-append p (Changed c ∷ a) b disk = base-append p a b disk
base-append p (Back t n ∷ a) b disk = base-append p a b disk
base-append p (Commit t ∷ a) b disk = base-append p a b disk

-- with an Image the disk's page doesn't matter
pub base-imaged : (p : ℕ) (recs : List Record) (a b : List ℕ) → imaged recs p ≡ true → base p recs a ≡ base p recs b
base-imaged p [] a b is = absurd (both_ways false refl is)
base-imaged p (Begin t ∷ recs) a b is = base-imaged p recs a b is
base-imaged p (Image page bytes ∷ recs) a b is = by_test (page == p) is (λ rest. base-imaged p recs a b rest)
  where
    by_test : (t : Bool) → (t || imaged recs p) ≡ true → (imaged recs p ≡ true → base p recs a ≡ base p recs b) → cond t bytes (base p recs a) ≡ cond t bytes (base p recs b)
    by_test true is more = refl
    by_test false is more = more is
base-imaged p (Changed c ∷ recs) a b is = base-imaged p recs a b is
base-imaged p (Back t n ∷ recs) a b is = base-imaged p recs a b is
base-imaged p (Commit t ∷ recs) a b is = base-imaged p recs a b is

-- and without one it is the base
pub base-not_imaged : (p : ℕ) (recs : List Record) (disk : List ℕ) → imaged recs p ≡ false → base p recs disk ≡ disk
base-not_imaged p [] disk is = refl
base-not_imaged p (Begin t ∷ recs) disk is = base-not_imaged p recs disk is
base-not_imaged p (Image page bytes ∷ recs) disk is = by_test (page == p) is (λ rest. base-not_imaged p recs disk rest)
  where
    by_test : (t : Bool) → (t || imaged recs p) ≡ false → (imaged recs p ≡ false → base p recs disk ≡ disk) → cond t bytes (base p recs disk) ≡ disk
    by_test true is more = absurd (both_ways true is refl)
    by_test false is more = more is
base-not_imaged p (Changed c ∷ recs) disk is = base-not_imaged p recs disk is
base-not_imaged p (Back t n ∷ recs) disk is = base-not_imaged p recs disk is
base-not_imaged p (Commit t ∷ recs) disk is = base-not_imaged p recs disk is

pub over-append : (a b : List Change) (bytes : List ℕ) → over (a ++ b) bytes ≡ over b (over a bytes)
over-append [] b bytes = refl
over-append (c ∷ a) b bytes = over-append a b (splice c.offset c.after bytes)

pub counting-append : (counts : ℕ → Bool) (p : ℕ) (a b : List Change) → counting counts p (a ++ b) ≡ counting counts p a ++ counting counts p b
counting-append counts p a b = filter-append (λ (c : Change). counts c.tx && (c.page == p)) a b

-- where a transaction doesn't count, it doesn't matter how many of its changes are kept
pub counting-keep : (counts : ℕ → Bool) (p tx n : ℕ) (cs : List Change) → counts tx ≡ false → counting counts p (keep tx n cs) ≡ counting counts p cs
counting-keep counts p tx n [] off = refl
counting-keep counts p tx zero (c ∷ cs) off = by_test (c.tx == tx) refl (counting-keep counts p tx zero cs off)
  where
    by_test : (t : Bool) → (c.tx == tx) ≡ t → counting counts p (keep tx zero cs) ≡ counting counts p cs → counting counts p (cond t (keep tx zero cs) (c ∷ keep tx zero cs)) ≡ counting counts p (c ∷ cs)
    by_test true is more =
        let gone : counts c.tx ≡ false = subst (λ (x : ℕ). counts x ≡ false) (sym (eqb-true c.tx tx is)) off in
        rw gone more
    by_test false is more = ap (λ (l : List Change). cond (counts c.tx && (c.page == p)) (c ∷ l) l) more
counting-keep counts p tx (suc n) (c ∷ cs) off = by_test (c.tx == tx) (counting-keep counts p tx n cs off) (counting-keep counts p tx (suc n) cs off)
  where
    by_test : (t : Bool) → counting counts p (keep tx n cs) ≡ counting counts p cs → counting counts p (keep tx (suc n) cs) ≡ counting counts p cs → counting counts p (cond t (c ∷ keep tx n cs) (c ∷ keep tx (suc n) cs)) ≡ counting counts p (c ∷ cs)
    by_test true more less = ap (λ (l : List Change). cond (counts c.tx && (c.page == p)) (c ∷ l) l) more
    by_test false more less = ap (λ (l : List Change). cond (counts c.tx && (c.page == p)) (c ∷ l) l) less

pub counting-agree : (f g : ℕ → Bool) (p : ℕ) (cs : List Change) → ((tx : ℕ) → f tx ≡ g tx) → counting f p cs ≡ counting g p cs
counting-agree f g p [] same = refl
counting-agree f g p (c ∷ cs) same = rw (same c.tx) (ap (λ (l : List Change). cond (g c.tx && (c.page == p)) (c ∷ l) l) (counting-agree f g p cs same))

-- records behind records
pub restored-append : (a b : List Record) (p : ℕ) (disk : List ℕ)
    → restored (a ++ b) p disk ≡ over (counting (λ tx. committed a tx || committed b tx) p (stood_all (standing a) b)) (base p a (base p b disk))
restored-append a b p disk = rw (base-append p a b disk, stood_all-append [] a b) (ap (λ (cs : List Change). over cs (base p a (base p b disk)))
    (counting-agree (committed (a ++ b)) (λ tx. committed a tx || committed b tx) p (stood_all (standing a) b) (λ tx. committed-append a b tx)))

same_live : (recs : List Record) (p : ℕ) (cs : List Change) → counting (λ tx. committed recs tx || false) p cs ≡ counting (committed recs) p cs
same_live recs p cs = counting-agree (λ tx. committed recs tx || false) (committed recs) p cs (λ tx. or-false (committed recs tx))

counting_one : (counts : ℕ → Bool) (p : ℕ) (c : Change) → counts c.tx ≡ false → counting counts p (c ∷ []) ≡ []
counting_one counts p c off = rw off refl

-- ---- records that change nothing yet
pub restored-harmless : (recs : List Record) (r : Record) (p : ℕ) (disk : List ℕ) → IsHarmless recs p disk r → restored (recs ++ r ∷ []) p disk ≡ restored recs p disk
restored-harmless recs (Begin t) p disk harmless = restored-append recs (Begin t ∷ []) p disk ∙ ap (λ (cs : List Change). over cs (base p recs disk)) (same_live recs p (standing recs))
restored-harmless recs (Image page bytes) p disk harmless =
    restored-append recs (Image page bytes ∷ []) p disk
    ∙ ap (λ (cs : List Change). over cs (base p recs (cond (page == p) bytes disk))) (same_live recs p (standing recs))
    ∙ ap (λ (b : List ℕ). over (counting (committed recs) p (standing recs)) b) (by_test (page == p) refl)
  where
    by_test : (t : Bool) → (page == p) ≡ t → base p recs (cond t bytes disk) ≡ base p recs disk
    by_test true is = harmless (eqb-true page p is)
    by_test false is = refl
restored-harmless recs (Changed c) p disk harmless =
    restored-append recs (Changed c ∷ []) p disk
    ∙ ap (λ (cs : List Change). over cs (base p recs disk))
    (same_live recs p (standing recs ++ c ∷ []) ∙ counting-append (committed recs) p (standing recs) (c ∷ [])
    ∙ ap (λ (cs : List Change). counting (committed recs) p (standing recs) ++ cs) (counting_one (committed recs) p c harmless)
    ∙ append-nil (counting (committed recs) p (standing recs)))
restored-harmless recs (Back t n) p disk harmless =
    restored-append recs (Back t n ∷ []) p disk
    ∙ ap (λ (cs : List Change). over cs (base p recs disk)) (same_live recs p (keep t n (standing recs)) ∙ counting-keep (committed recs) p t n (standing recs) harmless)
restored-harmless recs (Commit t) p disk harmless = absurd harmless

pub append_row : (recs : List Record) (r : Record) (rs : List Record) → recs ++ r ∷ rs ≡ (recs ++ r ∷ []) ++ rs
append_row recs r rs = grind (arith, common_steps)

pub restored-all_harmless : (recs rs : List Record) (p : ℕ) (disk : List ℕ) → AreHarmless recs p disk rs → restored (recs ++ rs) p disk ≡ restored recs p disk
restored-all_harmless recs [] p disk harmless = ap (λ (l : List Record). restored l p disk) (append-nil recs)
restored-all_harmless recs (r ∷ rs) p disk harmless =
    ap (λ (l : List Record). restored l p disk) (append_row recs r rs)
    ∙ restored-all_harmless (recs ++ r ∷ []) rs p disk harmless.1
    ∙ restored-harmless recs r p disk harmless.0

-- where a page has an Image, the disk's page doesn't matter
pub restored-imaged : (recs : List Record) (p : ℕ) (a b : List ℕ) → imaged recs p ≡ true → restored recs p a ≡ restored recs p b
restored-imaged recs p a b is = ap (λ (x : List ℕ). over (counting (committed recs) p (standing recs)) x) (base-imaged p recs a b is)

-- ---- covered records
pub IsCoveredBehind-parts : (past a b : List Record) → IsCoveredBehind past (a ++ b) → IsCoveredBehind past a × IsCoveredBehind (past ++ a) b
IsCoveredBehind-parts past [] b covered = (tt, subst (λ (l : List Record). IsCoveredBehind l b) (sym (append-nil past)) covered)
IsCoveredBehind-parts past (r ∷ a) b covered =
    let rest = IsCoveredBehind-parts (past ++ r ∷ []) a b covered.1 in
    ((covered.0, rest.0), subst (λ (l : List Record). IsCoveredBehind l b) (append_assoc past (r ∷ []) a) rest.1)

pub IsCoveredBehind-append : (past a b : List Record) → IsCoveredBehind past a → IsCoveredBehind (past ++ a) b → IsCoveredBehind past (a ++ b)
IsCoveredBehind-append past [] b first second = subst (λ (l : List Record). IsCoveredBehind l b) (append-nil past) second
IsCoveredBehind-append past (r ∷ a) b first second =
    (first.0, IsCoveredBehind-append (past ++ r ∷ []) a b first.1 (subst (λ (l : List Record). IsCoveredBehind l b) (sym (append_assoc past (r ∷ []) a)) second))

-- one record more behind those that change nothing yet
pub AreHarmless-append : (opened pending : List Record) (p : ℕ) (disk : List ℕ) (r : Record) → AreHarmless opened p disk pending → IsHarmless (opened ++ pending) p disk r → AreHarmless opened p disk (pending ++ r ∷ [])
AreHarmless-append opened [] p disk r plain more = (subst (λ (l : List Record). IsHarmless l p disk r) (append-nil opened) more, tt)
AreHarmless-append opened (q ∷ pending) p disk r plain more = (plain.0, AreHarmless-append (opened ++ q ∷ []) pending p disk r plain.1 (subst (λ (l : List Record). IsHarmless l p disk r) (sym (append_assoc opened (q ∷ []) pending)) more))
