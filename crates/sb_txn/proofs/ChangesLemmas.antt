-- What the records of a change make of a store.
use Rattle.std.proofs.Common.{◌≡◌, ℕ, suc, ◌<◌, ◌≤◌, Bool, true, false, ◌||◌, ◌==◌, not, List, [], ◌∷◌, ◌++◌, length, refl, sym, ◌∙◌, ap, subst, append_assoc, arith}
use Rattle.std.proofs.lemmas.Bool.{false≢true, eq-eqb, ne_eqb}
use Rattle.std.proofs.lemmas.List.{append-nil, length_push}
use Rattle.std.proofs.lemmas.List.Elements.{filter-append}
use Rattle.sb_log.specs.Records.{Change, Record, Begin, Image, Changed, Back}
use Rattle.sb_log.specs.Restored.{imaged}
use Rattle.sb_log.specs.Standing.{keep, standing, own_changes, count_of, IsBelow, AreBelow}
use Rattle.sb_log.proofs.RestoredLemmas.{imaged-append}
use Rattle.sb_log.proofs.StandingLemmas.{stood_all-append, keep-enough, count_of-keep, count_of-append, AreBelow-append}
use Rattle.sb_txn.specs.declared.changing.Wants.{Wants}
use Rattle.sb_txn.specs.Book.{Undo, ActiveTransaction, changed_transaction}
use Rattle.sb_txn.specs.Changing.{before, behind}
use Rattle.sb_txn.specs.Steps.{some}
use Rattle.sb_txn.specs.Tied.{IsUndo, AreUndos, UndoFits, UndosFit, IsTransactionOf}
use Rattle.sb_txn.proofs.ChangeLemmas.{imaged-some, standing-some, imaged-behind}

-- ---- one record more, where it is wanted
module _ (opened pending : List Record) where
  parts : (more : List Record) → opened ++ (pending ++ more) ≡ (opened ++ pending) ++ more
  parts more = sym (append_assoc opened pending more)

  or_right : (x y : Bool) → x ≡ true → (x || y) ≡ true
  or_right true y is = refl
  or_right false y is = absurd (false≢true is)

  imaged-still : (b : Bool) (r : Record) (q : ℕ) → imaged (opened ++ pending) q ≡ true → imaged (opened ++ (pending ++ some b r)) q ≡ true
  imaged-still true r q is = ap (λ (l : List Record). imaged l q) (parts (r ∷ [])) ∙ imaged-append (opened ++ pending) (r ∷ []) q ∙ or_right (imaged (opened ++ pending) q) (imaged (r ∷ []) q) is
  imaged-still false r q is = ap (λ (l : List Record). imaged (opened ++ l) q) (append-nil pending) ∙ is

  AreBelow-some : (next : ℕ) (b : Bool) (r : Record) → IsBelow next r → AreBelow next (opened ++ pending) → AreBelow next (opened ++ (pending ++ some b r))
  AreBelow-some next true r is below = subst (λ (l : List Record). AreBelow next l) (sym (parts (r ∷ []))) (AreBelow-append next (opened ++ pending) (r ∷ []) below (is, tt))
  AreBelow-some next false r is below = subst (λ (l : List Record). AreBelow next (opened ++ l)) (sym (append-nil pending)) below

  -- a Back, or all of the transaction's changes stand
  standing-back : (b : Bool) (tx n : ℕ) → (b ≡ false → count_of tx (standing (opened ++ pending)) ≤ n) → standing (opened ++ (pending ++ some b (Back tx n))) ≡ keep tx n (standing (opened ++ pending))
  standing-back true tx n few = ap (λ (l : List Record). standing l) (parts (Back tx n ∷ [])) ∙ stood_all-append [] (opened ++ pending) (Back tx n ∷ [])
  standing-back false tx n few = ap (λ (l : List Record). standing (opened ++ l)) (append-nil pending) ∙ sym (keep-enough tx n (standing (opened ++ pending)) (few refl))

  standing-changed : (c : Change) → standing (opened ++ (pending ++ Changed c ∷ [])) ≡ standing (opened ++ pending) ++ c ∷ []
  standing-changed c = ap (λ (l : List Record). standing l) (parts (Changed c ∷ [])) ∙ stood_all-append [] (opened ++ pending) (Changed c ∷ [])

-- ---- the records of a change
module _ (opened pending : List Record) (w : Wants) (tx n page : ℕ) (image : List ℕ) (c : Change) where
  abbrev begun : List Record
  begun = pending ++ some w.begin (Begin tx)

  abbrev backed : List Record
  backed = begun ++ some w.back (Back tx n)

  abbrev imaged_now : List Record
  imaged_now = backed ++ some w.image (Image page image)

  abbrev pub changed : List Record
  changed = behind pending (before w tx n page image) ++ Changed c ∷ []

  pub imaged-changed : (q : ℕ) → imaged (opened ++ pending) q ≡ true → imaged (opened ++ changed) q ≡ true
  imaged-changed q is = imaged-still opened imaged_now true (Changed c) q (imaged-still opened backed w.image (Image page image) q (imaged-still opened begun w.back (Back tx n) q (imaged-still opened pending w.begin (Begin tx) q is)))

  imaged-backed : (q : ℕ) → imaged (opened ++ backed) q ≡ imaged (opened ++ pending) q
  imaged-backed q = imaged-some opened begun w.back (Back tx n) q refl ∙ imaged-some opened pending w.begin (Begin tx) q refl

  pub imaged-other : (q : ℕ) → (page ≡ q → ⊥) → imaged (opened ++ changed) q ≡ imaged (opened ++ pending) q
  imaged-other q other = imaged-some opened imaged_now true (Changed c) q refl ∙ imaged-some opened backed w.image (Image page image) q (ap (λ (x : Bool). x || false) (ne_eqb page q other)) ∙ imaged-backed q

  pub imaged-page : imaged (opened ++ pending) page ≡ not w.image → imaged (opened ++ changed) page ≡ true
  imaged-page covered = imaged-some opened imaged_now true (Changed c) page refl ∙ imaged-behind opened backed w.image page image (λ off. imaged-backed page ∙ covered ∙ ap (λ (b : Bool). not b) off)

  pub AreBelow-changed : (next : ℕ) → tx < next → c.tx ≡ tx → AreBelow next (opened ++ pending) → AreBelow next (opened ++ changed)
  AreBelow-changed next lt own below = AreBelow-some opened imaged_now next true (Changed c) (omega arith)
      (AreBelow-some opened backed next w.image (Image page image) tt (AreBelow-some opened begun next w.back (Back tx n) lt (AreBelow-some opened pending next w.begin (Begin tx) lt below)))

  pub standing-all : (w.back ≡ false → count_of tx (standing (opened ++ pending)) ≤ n) → standing (opened ++ changed) ≡ keep tx n (standing (opened ++ pending)) ++ c ∷ []
  standing-all few =
      let begin_same : standing (opened ++ begun) ≡ standing (opened ++ pending) = standing-some opened pending w.begin (Begin tx) (λ cs. refl) in
      let few_begun : w.back ≡ false → count_of tx (standing (opened ++ begun)) ≤ n = λ off. subst (λ (cs : List Change). count_of tx cs ≤ n) (sym begin_same) (few off) in
      standing-changed opened imaged_now c
      ∙ ap (λ (cs : List Change). cs ++ c ∷ []) (standing-some opened backed w.image (Image page image) (λ cs. refl) ∙ standing-back opened begun w.back tx n few_begun ∙ ap (λ (cs : List Change). keep tx n cs) begin_same)

-- ---- the changes that can be undone
AreUndos-more : (us : List Undo) (cs : List Change) (u : Undo) (c : Change) → AreUndos us cs → IsUndo u c → AreUndos (us ++ u ∷ []) (cs ++ c ∷ [])
AreUndos-more [] [] u c are is = (is, tt)
AreUndos-more [] (d ∷ cs) u c are is = absurd are
AreUndos-more (v ∷ us) [] u c are is = absurd are
AreUndos-more (v ∷ us) (d ∷ cs) u c are is = (are.0, AreUndos-more us cs u c are.1 is)

UndosFit-more : (count : ℕ) (recs more : List Record) (us : List Undo) (u : Undo) → ((q : ℕ) → imaged recs q ≡ true → imaged more q ≡ true) → UndosFit count recs us → UndoFits count more u → UndosFit count more (us ++ u ∷ [])
UndosFit-more count recs more [] u keeps fit is = (is, tt)
UndosFit-more count recs more (v ∷ us) u keeps fit is = (record { page = fit.0.page; within = fit.0.within; covered = keeps v.page fit.0.covered }, UndosFit-more count recs more us u keeps fit.1 is)

own_last : (tx : ℕ) (cs : List Change) (c : Change) → c.tx ≡ tx → own_changes tx (cs ++ c ∷ []) ≡ own_changes tx cs ++ c ∷ []
own_last tx cs c own = filter-append (λ (d : Change). d.tx == tx) cs (c ∷ []) ∙ ap (λ (l : List Change). own_changes tx cs ++ l) (rw (eq-eqb c.tx tx own) refl)

module _ (count : ℕ) (opened pending : List Record) (next page : ℕ) (image : List ℕ) (o : ActiveTransaction) (w : Wants) (u : Undo) (c : Change) (back : w.back ≡ o.undone) (own : c.tx ≡ o.tx) (same : IsUndo u c) (is_one : IsTransactionOf count (opened ++ pending) next o) where
  abbrev n : ℕ
  n = length o.undos

  abbrev recs : List Record
  recs = opened ++ pending

  abbrev then : List Record
  then = opened ++ changed opened pending w o.tx (length o.undos) page image c

  stands : standing then ≡ keep o.tx n (standing recs) ++ c ∷ []
  stands = standing-all opened pending w o.tx n page image c (λ off. is_one.logged (sym back ∙ off))

  few : count_of o.tx (standing then) ≤ suc n
  few = subst (λ (cs : List Change). count_of o.tx cs ≤ suc n) (sym stands) (let a = count_of-append o.tx (keep o.tx n (standing recs)) c in let b = count_of-keep o.tx n (standing recs) in omega arith)

  long : length (o.undos ++ u ∷ []) ≡ suc n
  long = let e = length_push o.undos u in omega arith

  kept : own_changes o.tx (keep o.tx (length (o.undos ++ u ∷ [])) (standing then)) ≡ own_changes o.tx (keep o.tx n (standing recs)) ++ c ∷ []
  kept = ap (λ (m : ℕ). own_changes o.tx (keep o.tx m (standing then))) long
      ∙ ap (λ (cs : List Change). own_changes o.tx cs) (keep-enough o.tx (suc n) (standing then) few ∙ stands)
      ∙ own_last o.tx (keep o.tx n (standing recs)) c own

  pub IsTransactionOf-changed : UndoFits count then u → IsTransactionOf count then next (changed_transaction o u)
  IsTransactionOf-changed fits = record {
    undos = subst (λ (cs : List Change). AreUndos (o.undos ++ u ∷ []) cs) (sym kept) (AreUndos-more o.undos (own_changes o.tx (keep o.tx n (standing recs))) u c is_one.undos same);
    logged = λ off. omega (arith, few, long);
    none = λ off. absurd (false≢true (sym off));
    number = is_one.number;
    fit = UndosFit-more count recs then o.undos u (imaged-changed opened pending w o.tx n page image c) is_one.fit fits;
  }
