-- Undos give back what was there.
use Rattle.std.proofs.Common.{◌≡◌, inl, inr, ⊎_elim, ℕ, ◌+◌, ◌≤◌, ◌==◌, Bool, true, false, cond, List, [], ◌∷◌, ◌++◌, length, map, refl, sym, ◌∙◌, ap, subst, arith}
use Rattle.std.proofs.lemmas.Bool.{eqb-true}
use Rattle.sb_bytes.specs.Bytes.{splice}
use Rattle.sb_bytes.proofs.BytesLaws.{length-splice}
use Rattle.sb_log.proofs.SpliceLemmas.{splice-back, splice-swap}
use Rattle.sb_pool.specs.Pages.{with_bytes}
use Rattle.sb_txn.specs.Book.{Undo}
use Rattle.sb_txn.specs.Clauses.{unwound}
use Rattle.sb_txn.specs.Laws.{IsUndoOf, Made, with_made, with_all_made, CanBeUndone, Step, Own, Other, with_steps, own_undos, with_others, IsWithin, AreApart, IsClearOf, AreClearSteps}

-- a write goes by the page alone
with_bytes-same : (page offset : ℕ) (bytes : List ℕ) (a b : ℕ → List ℕ) (p : ℕ) → a p ≡ b p → with_bytes page offset bytes a p ≡ with_bytes page offset bytes b p
with_bytes-same page offset bytes a b p same = ap (λ (x : List ℕ). cond (page == p) (splice offset bytes x) x) same

-- one change
undone_one : (u : Undo) (bytes : List ℕ) (pages : ℕ → List ℕ) (p : ℕ) → IsUndoOf u bytes pages → with_bytes u.page u.offset u.before (with_bytes u.page u.offset bytes pages) p ≡ pages p
undone_one u bytes pages p is = by_test (u.page == p) refl
  where
    by_test : (t : Bool) → (u.page == p) ≡ t → cond t (splice u.offset u.before (cond t (splice u.offset bytes (pages p)) (pages p))) (cond t (splice u.offset bytes (pages p)) (pages p)) ≡ pages p
    by_test false e = refl
    by_test true e = subst (λ (q : ℕ). splice u.offset u.before (splice u.offset bytes (pages q)) ≡ pages q) (eqb-true u.page p e) (splice-back u.offset bytes u.before (pages u.page) is.within is.size is.was)

pub last_is_undone : (us : List Undo) (u : Undo) (bytes : List ℕ) (pages : ℕ → List ℕ) → IsUndoOf u bytes pages → (p : ℕ) → unwound (us ++ u ∷ []) (with_bytes u.page u.offset bytes pages) p ≡ unwound us pages p
last_is_undone [] u bytes pages is p = undone_one u bytes pages p is
last_is_undone (v ∷ us) u bytes pages is p = with_bytes-same v.page v.offset v.before (unwound (us ++ u ∷ []) (with_bytes u.page u.offset bytes pages)) (unwound us pages) p (last_is_undone us u bytes pages is p)

pub all_are_undone : (ms : List Made) (pages : ℕ → List ℕ) → CanBeUndone ms pages → (p : ℕ) → unwound (map (λ (m : Made). m.undo) ms) (with_all_made ms pages) p ≡ pages p
all_are_undone [] pages can p = refl
all_are_undone (m ∷ ms) pages can p =
    with_bytes-same m.undo.page m.undo.offset m.undo.before (unwound (map (λ (x : Made). x.undo) ms) (with_all_made ms (with_made m pages))) (with_made m pages) p (all_are_undone ms (with_made m pages) can.1 p)
    ∙ undone_one m.undo m.bytes pages p can.0

-- ---- among the changes of others
-- pages stay as long as they are
long_made : (m : Made) (pages : ℕ → List ℕ) → IsWithin m → ((q : ℕ) → length (pages q) ≡ 4096) → (q : ℕ) → length (with_made m pages q) ≡ 4096
long_made m pages within long q = by_test (m.undo.page == q)
  where
    by_test : (t : Bool) → length (cond t (splice m.undo.offset m.bytes (pages q)) (pages q)) ≡ 4096
    by_test true = length-splice m.undo.offset m.bytes (pages q) (let h = long q in omega arith) ∙ long q
    by_test false = long q

-- writes go by the page alone
with_others-same : (steps : List Step) (a b : ℕ → List ℕ) → ((q : ℕ) → a q ≡ b q) → (p : ℕ) → with_others steps a p ≡ with_others steps b p
with_others-same [] a b same p = same p
with_others-same (Own m ∷ steps) a b same p = with_others-same steps a b same p
with_others-same (Other m ∷ steps) a b same p = with_others-same steps (with_made m a) (with_made m b) (λ q. with_bytes-same m.undo.page m.undo.offset m.bytes a b q (same q)) p

-- two writes whose ranges don't meet can change places
swapped : (m n : Made) (bytes : List ℕ) (pages : ℕ → List ℕ) → length bytes ≡ length m.bytes → IsWithin m → IsWithin n → AreApart m n → ((q : ℕ) → length (pages q) ≡ 4096) → (p : ℕ)
    → with_bytes m.undo.page m.undo.offset bytes (with_made n pages) p ≡ with_made n (with_bytes m.undo.page m.undo.offset bytes pages) p
swapped m n bytes pages size one other apart long p = by_test (m.undo.page == p) (n.undo.page == p) refl refl
  where
    by_test : (s t : Bool) → (m.undo.page == p) ≡ s → (n.undo.page == p) ≡ t
        → cond s (splice m.undo.offset bytes (cond t (splice n.undo.offset n.bytes (pages p)) (pages p))) (cond t (splice n.undo.offset n.bytes (pages p)) (pages p))
        ≡ cond t (splice n.undo.offset n.bytes (cond s (splice m.undo.offset bytes (pages p)) (pages p))) (cond s (splice m.undo.offset bytes (pages p)) (pages p))
    by_test false false e f = refl
    by_test false true e f = refl
    by_test true false e f = refl
    by_test true true e f =
        let here : m.undo.page ≡ n.undo.page = eqb-true m.undo.page p e ∙ sym (eqb-true n.undo.page p f) in
        let h = long p in
        splice-swap m.undo.offset bytes n.undo.offset n.bytes (pages p) (omega arith) (omega arith)
        (⊎_elim (λ (le : m.undo.offset + length m.bytes ≤ n.undo.offset). inl (omega arith)) (λ (le : n.undo.offset + length n.bytes ≤ m.undo.offset). inr le) (apart here))

-- the writes of the others lie within their pages
abbrev AreWithin : List Step → Type 0
AreWithin [] = Unit {0}
AreWithin (Own m ∷ steps) = AreWithin steps
AreWithin (Other m ∷ steps) = IsWithin m × AreWithin steps

within_all : (steps : List Step) (pages : ℕ → List ℕ) → AreClearSteps steps pages → AreWithin steps
within_all [] pages clear = tt
within_all (Own m ∷ steps) pages clear = within_all steps (with_made m pages) clear.3
within_all (Other m ∷ steps) pages clear = (clear.0, within_all steps (with_made m pages) clear.1)

-- a write in the range of a change that no other one meets can come last
comes_last : (m : Made) (bytes : List ℕ) (steps : List Step) (pages : ℕ → List ℕ) → length bytes ≡ length m.bytes → IsWithin m → IsClearOf m steps → AreWithin steps → ((q : ℕ) → length (pages q) ≡ 4096) → (p : ℕ)
    → with_bytes m.undo.page m.undo.offset bytes (with_others steps pages) p ≡ with_others steps (with_bytes m.undo.page m.undo.offset bytes pages) p
comes_last m bytes [] pages size within clear all long p = refl
comes_last m bytes (Own n ∷ steps) pages size within clear all long p = comes_last m bytes steps pages size within clear all long p
comes_last m bytes (Other n ∷ steps) pages size within clear all long p =
    comes_last m bytes steps (with_made n pages) size within clear.1 all.1 (long_made n pages all.0 long) p
    ∙ with_others-same steps (with_bytes m.undo.page m.undo.offset bytes (with_made n pages)) (with_made n (with_bytes m.undo.page m.undo.offset bytes pages))
    (λ q. swapped m n bytes pages size within all.0 clear.0 long q) p

pub others_stay : (steps : List Step) (pages : ℕ → List ℕ) → ((q : ℕ) → length (pages q) ≡ 4096) → AreClearSteps steps pages → (p : ℕ) → unwound (own_undos steps) (with_steps steps pages) p ≡ with_others steps pages p
others_stay [] pages long clear p = refl
others_stay (Other m ∷ steps) pages long clear p = others_stay steps (with_made m pages) (long_made m pages clear.0 long) clear.1 p
others_stay (Own m ∷ steps) pages long clear p =
    with_bytes-same m.undo.page m.undo.offset m.undo.before (unwound (own_undos steps) (with_steps steps (with_made m pages))) (with_others steps (with_made m pages)) p
    (others_stay steps (with_made m pages) (long_made m pages clear.0 long) clear.3 p)
    ∙ comes_last m m.undo.before steps (with_made m pages) clear.1.size clear.0 clear.2 (within_all steps (with_made m pages) clear.3) (long_made m pages clear.0 long) p
    ∙ with_others-same steps (with_bytes m.undo.page m.undo.offset m.undo.before (with_made m pages)) pages (λ q. undone_one m.undo m.bytes pages q clear.1) p
