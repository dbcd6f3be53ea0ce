-- The active transactions beside that of a call.
use Rattle.std.proofs.Common.{◌≡◌, ◌⊎◌, inl, inr, ⊎_elim, ℕ, ◌+◌, ◌≤◌, Bool, true, false, cond, ◌&&◌, ◌==◌, List, [], ◌∷◌, ◌++◌, length, take, refl, sym, ◌∙◌, ap, subst, append_assoc, arith}
use Rattle.std.specs.List.{All}
use Rattle.std.proofs.lemmas.Bool.{false≢true, eq-eqb, ne_eqb, eqb-true, cases_eq}
use Rattle.std.proofs.lemmas.List.{append-nil}
use Rattle.std.proofs.lemmas.List.Elements.{filter-append, All-head, All-tail}
use Rattle.sb_log.specs.Records.{Change, Record, Begin, Image, Changed, Back, Commit}
use Rattle.sb_log.specs.Restored.{imaged, counting}
use Rattle.sb_log.specs.Standing.{keep, stood, standing, own_changes}
use Rattle.sb_log.specs.Undoing.{AreApart, IsFree}
use Rattle.sb_log.specs.Views.{Active, active_with, is_active, cut, changes, counts, IsInactive}
use Rattle.sb_log.proofs.StandingLemmas.{stood_all-append, own_changes-keep, own_changes-keep_other, count_of-own}
use Rattle.sb_txn.specs.declared.changing.Wants.{Wants}
use Rattle.sb_txn.specs.Book.{Undo, ActiveTransaction, views, IsClear, AreClear}
use Rattle.sb_txn.specs.Changing.{before, behind}
use Rattle.sb_txn.specs.Steps.{some}
use Rattle.sb_txn.specs.Tied.{AreUndos, UndosFit, IsTransactionOf, AreTransactionsOf, AreOnce}

-- ---- records of another transaction
-- one more, where it is wanted, leaves the transaction's own changes
own-some : (opened pending : List Record) (b : Bool) (r : Record) (t : ℕ) → ((cs : List Change) → own_changes t (stood cs r) ≡ own_changes t cs) → own_changes t (standing (opened ++ (pending ++ some b r))) ≡ own_changes t (standing (opened ++ pending))
own-some opened pending true r t same =
    ap (λ (l : List Record). own_changes t (standing l)) (sym (append_assoc opened pending (r ∷ []))) ∙ ap (λ (cs : List Change). own_changes t cs) (stood_all-append [] (opened ++ pending) (r ∷ [])) ∙ same (standing (opened ++ pending))
own-some opened pending false r t same = ap (λ (l : List Record). own_changes t (standing (opened ++ l))) (append-nil pending)

own-changed_other : (t : ℕ) (cs : List Change) (c : Change) → (c.tx ≡ t → ⊥) → own_changes t (cs ++ c ∷ []) ≡ own_changes t cs
own-changed_other t cs c other = filter-append (λ (d : Change). d.tx == t) cs (c ∷ []) ∙ ap (λ (l : List Change). own_changes t cs ++ l) (rw (ne_eqb c.tx t other) refl) ∙ append-nil (own_changes t cs)

module _ (opened pending : List Record) (t tx : ℕ) (other : tx ≡ t → ⊥) where
  module _ (w : Wants) (n page : ℕ) (image : List ℕ) where
    abbrev begun : List Record
    begun = pending ++ some w.begin (Begin tx)

    abbrev backed : List Record
    backed = begun ++ some w.back (Back tx n)

    -- those before a change
    pub own-behind : own_changes t (standing (opened ++ behind pending (before w tx n page image))) ≡ own_changes t (standing (opened ++ pending))
    own-behind = own-some opened backed w.image (Image page image) t (λ cs. refl) ∙ own-some opened begun w.back (Back tx n) t (λ cs. own_changes-keep_other t tx n cs other) ∙ own-some opened pending w.begin (Begin tx) t (λ cs. refl)

    -- with the change
    pub own-changed : (c : Change) → c.tx ≡ tx → own_changes t (standing (opened ++ (behind pending (before w tx n page image) ++ Changed c ∷ []))) ≡ own_changes t (standing (opened ++ pending))
    own-changed c own = own-some opened (behind pending (before w tx n page image)) true (Changed c) t (λ cs. own-changed_other t cs c (λ e. other (sym own ∙ e))) ∙ own-behind

  -- those of its end
  pub own-ended : (b : Bool) (n : ℕ) → own_changes t (standing (opened ++ ((pending ++ some b (Back tx n)) ++ Commit tx ∷ []))) ≡ own_changes t (standing (opened ++ pending))
  own-ended b n = own-some opened (pending ++ some b (Back tx n)) true (Commit tx) t (λ cs. refl) ∙ own-some opened pending b (Back tx n) t (λ cs. own_changes-keep_other t tx n cs other)

-- ---- it is active as before
UndosFit-still : (count : ℕ) (recs more : List Record) (us : List Undo) → ((q : ℕ) → imaged recs q ≡ true → imaged more q ≡ true) → UndosFit count recs us → UndosFit count more us
UndosFit-still count recs more [] keeps fit = tt
UndosFit-still count recs more (u ∷ us) keeps fit = (record { page = fit.0.page; within = fit.0.within; covered = keeps u.page fit.0.covered }, UndosFit-still count recs more us keeps fit.1)

IsTransactionOf-still : (count : ℕ) (recs more : List Record) (next : ℕ) (o : ActiveTransaction) → own_changes o.tx (standing more) ≡ own_changes o.tx (standing recs) → ((q : ℕ) → imaged recs q ≡ true → imaged more q ≡ true) → IsTransactionOf count recs next o → IsTransactionOf count more next o
IsTransactionOf-still count recs more next o same keeps is_one = record {
  undos = subst (λ (cs : List Change). AreUndos o.undos cs)
      (own_changes-keep o.tx (length o.undos) (standing recs) ∙ ap (λ (cs : List Change). take (length o.undos) cs) (sym same) ∙ sym (own_changes-keep o.tx (length o.undos) (standing more))) is_one.undos;
  logged = λ off. let e = count_of-own o.tx (standing more) in let f = count_of-own o.tx (standing recs) in let l = ap (λ (cs : List Change). length cs) same in let h = is_one.logged off in omega arith;
  none = is_one.none;
  number = is_one.number;
  fit = UndosFit-still count recs more o.undos keeps is_one.fit;
}

pub AreTransactionsOf-still : (count : ℕ) (recs more : List Record) (next tx : ℕ) (os : List ActiveTransaction) → IsInactive tx (views os) → ((t : ℕ) → (tx ≡ t → ⊥) → own_changes t (standing more) ≡ own_changes t (standing recs))
    → ((q : ℕ) → imaged recs q ≡ true → imaged more q ≡ true) → AreTransactionsOf count recs next os → AreTransactionsOf count more next os
AreTransactionsOf-still count recs more next tx [] idle same keeps is_one = tt
AreTransactionsOf-still count recs more next tx (o ∷ os) idle same keeps is_one =
    (IsTransactionOf-still count recs more next o (same o.tx (λ e. idle.0 (sym e))) keeps is_one.0, AreTransactionsOf-still count recs more next tx os idle.1 same keeps is_one.1)

-- ---- ranges that are clear
-- each of these changes is of another page, or apart
abbrev AllApart : Change → List Change → Type 0
AllApart c [] = Unit {0}
AllApart c (d ∷ ds) = (d.page ≡ c.page → AreApart d c) × AllApart c ds

AllApart-undos : (c : Change) (us : List Undo) (ds : List Change) → AreUndos us ds → All (IsClear c.page c.offset (length c.after)) us → AllApart c ds
AllApart-undos c [] [] are clear = tt
AllApart-undos c [] (d ∷ ds) are clear = absurd are
AllApart-undos c (u ∷ us) [] are clear = absurd are
AllApart-undos c (u ∷ us) (d ∷ ds) are clear =
    let is = are.0 in
    let page = is.page in
    let offset = is.offset in
    let size = is.size in
    let head = All-head (IsClear c.page c.offset (length c.after)) u us clear in (
      (λ here. ⊎_elim
          (λ (before : u.offset + length u.before ≤ c.offset). inl (omega arith))
          (λ (behind_it : c.offset + length c.after ≤ u.offset). inr (omega arith))
          (head (page ∙ here))),
      AllApart-undos c us ds are.1 (All-tail (IsClear c.page c.offset (length c.after)) u us clear),
    )

-- so it is with those that stand of each of these transactions
abbrev AreApartIn : Change → List ActiveTransaction → List Change → Type 0
AreApartIn c [] cs = Unit {0}
AreApartIn c (o ∷ os) cs = AllApart c (own_changes o.tx cs) × AreApartIn c os cs

-- so it is with the first of them, as long as its undo list
abbrev AreApartTaken : Change → List ActiveTransaction → List Change → Type 0
AreApartTaken c [] cs = Unit {0}
AreApartTaken c (o ∷ os) cs = AllApart c (take (length o.undos) (own_changes o.tx cs)) × AreApartTaken c os cs

own-cut_idle : (t : ℕ) (active : List Active) (cs : List Change) → IsInactive t active → own_changes t (cut active cs) ≡ own_changes t cs
own-cut_idle t [] cs idle = refl
own-cut_idle t (a ∷ active) cs idle = own-cut_idle t active (keep a.tx a.n cs) idle.1 ∙ own_changes-keep_other t a.tx a.n cs idle.0

AreApartTaken-same : (c : Change) (os : List ActiveTransaction) (tx : ℕ) (cs ds : List Change) → IsInactive tx (views os) → ((t : ℕ) → (tx ≡ t → ⊥) → own_changes t ds ≡ own_changes t cs) → AreApartTaken c os cs → AreApartTaken c os ds
AreApartTaken-same c [] tx cs ds idle same apart = tt
AreApartTaken-same c (o ∷ os) tx cs ds idle same apart =
    (subst (λ (l : List Change). AllApart c (take (length o.undos) l)) (sym (same o.tx (λ e. idle.0 (sym e)))) apart.0, AreApartTaken-same c os tx cs ds idle.1 same apart.1)

AreApartIn-cut : (c : Change) (os : List ActiveTransaction) (cs : List Change) → AreOnce os → AreApartTaken c os cs → AreApartIn c os (cut (views os) cs)
AreApartIn-cut c [] cs once apart = tt
AreApartIn-cut c (o ∷ os) cs once apart =
    let n = length o.undos in (
      subst (λ (l : List Change). AllApart c l) (sym (own-cut_idle o.tx (views os) (keep o.tx n cs) once.0 ∙ own_changes-keep o.tx n cs)) apart.0,
      AreApartIn-cut c os (keep o.tx n cs) once.1 (AreApartTaken-same c os o.tx cs (keep o.tx n cs) once.0 (λ t not. own_changes-keep_other t o.tx n cs not) apart.1),
    )

-- ---- no change of another stands in the way
AreApartIn-tail : (c : Change) (os : List ActiveTransaction) (d : Change) (cs : List Change) → AreApartIn c os (d ∷ cs) → AreApartIn c os cs
AreApartIn-tail c [] d cs apart = tt
AreApartIn-tail c (o ∷ os) d cs apart = (tail_of (d.tx == o.tx) (own_changes o.tx cs) apart.0, AreApartIn-tail c os d cs apart.1)
  where
    tail_of : (b : Bool) (l : List Change) → AllApart c (cond b (d ∷ l) l) → AllApart c l
    tail_of true l all = all.1
    tail_of false l all = all

-- a change of one of them is apart
apart_of : (c : Change) (os : List ActiveTransaction) (d : Change) (cs : List Change) → AreApartIn c os (d ∷ cs) → is_active (views os) d.tx ≡ true → d.page ≡ c.page → AreApart d c
apart_of c [] d cs apart is here = absurd (false≢true is)
apart_of c (o ∷ os) d cs apart is here = ⊎_elim
    (λ (own : d.tx ≡ o.tx). (rw (eq-eqb d.tx o.tx own) at apart.0).0 here)
    (λ (not : d.tx ≡ o.tx → ⊥). apart_of c os d cs apart.1 (rw (ne_eqb o.tx d.tx (λ e. not (sym e))) at is) here)
    (cases_eq d.tx o.tx)

and_right : (x y : Bool) → (x && y) ≡ true → y ≡ true
and_right true y is = is
and_right false y is = absurd (false≢true is)

IsFree-counting : (c : Change) (n : ℕ) (os : List ActiveTransaction) (f : ℕ → Bool) (cs : List Change) → AreApartIn c os cs → IsFree (is_active (active_with c.tx n ∷ views os)) c (counting f c.page cs)
IsFree-counting c n os f [] apart = tt
IsFree-counting c n os f (d ∷ cs) apart = by_test (f d.tx && (d.page == c.page)) refl (IsFree-counting c n os f cs (AreApartIn-tail c os d cs apart))
  where
    one : d.page ≡ c.page → is_active (active_with c.tx n ∷ views os) d.tx ≡ true → (c.tx ≡ d.tx) ⊎ AreApart d c
    one here is = ⊎_elim
        (λ (own : c.tx ≡ d.tx). inl own)
        (λ (not : c.tx ≡ d.tx → ⊥). inr (apart_of c os d cs apart (rw (ne_eqb c.tx d.tx not) at is) here))
        (cases_eq c.tx d.tx)

    by_test : (b : Bool) → (f d.tx && (d.page == c.page)) ≡ b → IsFree (is_active (active_with c.tx n ∷ views os)) c (counting f c.page cs)
        → IsFree (is_active (active_with c.tx n ∷ views os)) c (cond b (d ∷ counting f c.page cs) (counting f c.page cs))
    by_test true is more = (one (eqb-true d.page c.page (and_right (f d.tx) (d.page == c.page) is)), more)
    by_test false is more = more

module _ (count next : ℕ) (opened pending : List Record) (c : Change) where
  taken_now : (os : List ActiveTransaction) → AreTransactionsOf count (opened ++ pending) next os → AreClear c.page c.offset (length c.after) os → AreApartTaken c os (standing (opened ++ pending))
  taken_now [] is_one clear = tt
  taken_now (o ∷ os) is_one clear = (
    subst (λ (l : List Change). AllApart c l) (own_changes-keep o.tx (length o.undos) (standing (opened ++ pending)))
        (AllApart-undos c o.undos (own_changes o.tx (keep o.tx (length o.undos) (standing (opened ++ pending)))) is_one.0.undos (All-head (λ (x : ActiveTransaction). All (IsClear c.page c.offset (length c.after)) x.undos) o os clear)),
    taken_now os is_one.1 (All-tail (λ (x : ActiveTransaction). All (IsClear c.page c.offset (length c.after)) x.undos) o os clear),
  )

  -- A change whose range is clear of those of the other active ones may come next.
  pub IsFree-others : (n : ℕ) (rest : List ActiveTransaction) (w : Wants) (page : ℕ) (image : List ℕ) → AreTransactionsOf count (opened ++ pending) next rest → IsInactive c.tx (views rest) → AreOnce rest → AreClear c.page c.offset (length c.after) rest
      → IsFree (is_active (active_with c.tx n ∷ views rest)) c (changes (opened ++ behind pending (before w c.tx n page image)) (active_with c.tx n ∷ views rest) c.page)
  IsFree-others n rest w page image is_one idle once clear =
      let recs = opened ++ behind pending (before w c.tx n page image) in
      let left = keep c.tx n (standing recs) in
      IsFree-counting c n rest (counts recs (active_with c.tx n ∷ views rest)) (cut (views rest) left)
      (AreApartIn-cut c rest left once
      (AreApartTaken-same c rest c.tx (standing (opened ++ pending)) left idle
      (λ t not. own_changes-keep_other t c.tx n (standing recs) not ∙ own-behind opened pending t c.tx not w n page image) (taken_now rest is_one clear)))
