-- Calls one after another.
use Rattle.std.proofs.Common.{◌≡◌, ⊎_elim, ℕ, zero, suc, ◌+◌, ◌*◌, Bool, true, false, cond, ◌==◌, Option, is_some, List, [], ◌∷◌, ◌++◌, length, drop, inl, inr, refl, sym, ap, subst, ◌∙◌, arith}
use Rattle.std.proofs.lemmas.Bool.{false≢true}
use Rattle.std.proofs.lemmas.List.{length-append, append_assoc}
use Rattle.std.proofs.Math.Seq.{drop-length}
use Rattle.sb_disk.specs.Causes.{Rose}
use Rattle.sb_disk.proofs.CauseLemmas.{Rose-before, Rose-later}
use Rattle.sb_disk.specs.Disk.{Story}
use Rattle.sb_disk.specs.Moments.{LeavesOnly}
use Rattle.sb_disk.proofs.MomentLemmas.{and_then}
use Rattle.sb_forms.specs.Pages.{IsWhole}
use Rattle.sb_images.specs.Images.{Restores}
use Rattle.sb_images.specs.Store.{IfTold}
use Rattle.sb_log.specs.declared.geometry.Geometry.{Geometry}
use Rattle.sb_bytes.specs.Bytes.{splice}
use Rattle.sb_txn.specs.Book.{Undo}
use Rattle.sb_txn.specs.Clauses.{LeavesWanted, Grows, unwound}
use Rattle.sb_txn.specs.Parts.{Parts, parts}
use Rattle.sb_txn.specs.State.{State}
use Rattle.sb_txn.proofs.KeepsLemmas.{LeavesWanted-none}
use Rattle.sb_txn.proofs.RoomLemmas.{Grows-rest, Grows-sum}
use Rattle.sb_space.specs.Exact.{AreExact, IsExact}
use Rattle.sb_space.specs.Table.{AreWhole}
use Rattle.sb_space.specs.Works.{LeadsBack, Turns, Makes, Works, undos_of}
use Rattle.sb_space.specs.Telling.{told_so, told_both, told_as}

-- ---- undo lists
pub unwound-append : (us vs : List Undo) (pages : ℕ → List ℕ) (p : ℕ) → unwound (us ++ vs) pages p ≡ unwound us (unwound vs pages) p
unwound-append [] vs pages p = refl
unwound-append (u ∷ us) vs pages p = let same = unwound-append us vs pages p in λ i. cond (u.page == p) (splice u.offset u.before (same i)) (same i)

pub unwound-same : (us : List Undo) (a b : ℕ → List ℕ) (p : ℕ) → a p ≡ b p → unwound us a p ≡ unwound us b p
unwound-same [] a b p is = is
unwound-same (u ∷ us) a b p is = let same = unwound-same us a b p is in λ i. cond (u.page == p) (splice u.offset u.before (same i)) (same i)

-- pages that are the same are whole too
AreWhole-same : (count : ℕ) (a b : ℕ → List ℕ) → ((p : ℕ) → b p ≡ a p) → AreWhole count a → AreWhole count b
AreWhole-same count a b same whole p less = subst IsWhole (sym (same p)) (whole p less)

-- a change undone
pub LeadsBack-one : (count : ℕ) (u : Undo) (was now : ℕ → List ℕ) → AreWhole count was → AreWhole count now → ((p : ℕ) → unwound (u ∷ []) now p ≡ was p) → LeadsBack count (u ∷ []) was now
LeadsBack-one count u was now before after back = record { each = each; back = back }
  where
    each : (n : ℕ) → AreWhole count (unwound (drop n (u ∷ [])) now)
    each zero = AreWhole-same count was (unwound (u ∷ []) now) back before
    each (suc zero) = after
    each (suc (suc n)) = after

pub LeadsBack-none : (count : ℕ) (now : ℕ → List ℕ) → AreWhole count now → LeadsBack count [] now now
LeadsBack-none count now whole = record { each = each; back = λ p. refl }
  where
    each : (n : ℕ) → AreWhole count (unwound (drop n []) now)
    each zero = whole
    each (suc n) = whole

-- the pages now are whole
pub LeadsBack-now : (count : ℕ) (us : List Undo) (was now : ℕ → List ℕ) → LeadsBack count us was now → AreWhole count now
LeadsBack-now count us was now leads = subst (λ (vs : List Undo). AreWhole count (unwound vs now)) (drop-length us) (leads.each (length us))

-- and so are those that were
pub LeadsBack-was : (count : ℕ) (us : List Undo) (was now : ℕ → List ℕ) → LeadsBack count us was now → AreWhole count was
LeadsBack-was count us was now leads = AreWhole-same count (unwound us now) was (λ p. sym (leads.back p)) (leads.each zero)

-- an undo list before another, at each step
module _ (count : ℕ) (vs : List Undo) (mid now : ℕ → List ℕ) (two : LeadsBack count vs mid now) where
  each_of : (us : List Undo) → ((n : ℕ) → AreWhole count (unwound (drop n us) mid)) → (n : ℕ) → AreWhole count (unwound (drop n (us ++ vs)) now)
  each_of [] one n = two.each n
  each_of (u ∷ us) one zero =
      AreWhole-same count (unwound (u ∷ us) mid) (unwound ((u ∷ us) ++ vs) now) (λ p. unwound-append (u ∷ us) vs now p ∙ unwound-same (u ∷ us) (unwound vs now) mid p (two.back p)) (one zero)
  each_of (u ∷ us) one (suc n) = each_of us (λ m. one (suc m)) n

  pub LeadsBack-then : (us : List Undo) (was : ℕ → List ℕ) → LeadsBack count us was mid → LeadsBack count (us ++ vs) was now
  LeadsBack-then us was one = record {
    each = each_of us one.each;
    back = λ p. unwound-append us vs now p ∙ unwound-same us (unwound vs now) mid p (two.back p) ∙ one.back p;
  }

-- with the last of them undone, those before lead back still
module _ (count : ℕ) (vs : List Undo) (now : ℕ → List ℕ) where
  each_before : (us : List Undo) → ((n : ℕ) → AreWhole count (unwound (drop n (us ++ vs)) now)) → (n : ℕ) → AreWhole count (unwound (drop n us) (unwound vs now))
  each_before [] all zero = all zero
  each_before [] all (suc n) = all zero
  each_before (u ∷ us) all zero = AreWhole-same count (unwound ((u ∷ us) ++ vs) now) (unwound (u ∷ us) (unwound vs now)) (λ p. sym (unwound-append (u ∷ us) vs now p)) (all zero)
  each_before (u ∷ us) all (suc n) = each_before us (λ m. all (suc m)) n

  pub LeadsBack-before : (us : List Undo) (was : ℕ → List ℕ) → LeadsBack count (us ++ vs) was now → LeadsBack count us was (unwound vs now)
  LeadsBack-before us was leads = record {
    each = each_before us leads.each;
    back = λ p. sym (unwound-append us vs now p) ∙ leads.back p;
  }

-- ---- exact changes
AreExact-append : (count : ℕ) (us vs : List Undo) (now : ℕ → List ℕ) → AreExact count us (unwound vs now) → AreExact count vs now → AreExact count (us ++ vs) now
AreExact-append count [] vs now one two = two
AreExact-append count (u ∷ us) vs now one two = (
  subst (λ (before : List ℕ). IsExact count u.page u.offset (length u.before) before (unwound (us ++ vs) now u.page)) (sym (unwound-append (u ∷ us) vs now u.page))
      (subst (λ (after : List ℕ). IsExact count u.page u.offset (length u.before) (unwound (u ∷ us) (unwound vs now) u.page) after) (sym (unwound-append us vs now u.page)) one.0),
  AreExact-append count us vs now one.1 two,
)

-- exact changes, and others behind them
AreExact-then : (count : ℕ) (us vs : List Undo) (mid now : ℕ → List ℕ) → LeadsBack count vs mid now → AreExact count us mid → AreExact count vs now → AreExact count (us ++ vs) now
AreExact-then count us vs mid now back one two =
    let same : unwound vs now ≡ mid = λ i p. back.back p i in
    AreExact-append count us vs now (subst (λ (pages : ℕ → List ℕ). AreExact count us pages) (sym same) one) two

-- ---- nothing
pub nothing_more : (us : List Undo) → us ≡ us ++ []
nothing_more [] = refl
nothing_more (u ∷ us) = ap (λ (rest : List Undo). u ∷ rest) (nothing_more us)

pub Makes-none : (tx : ℕ) (p : Parts) → Makes tx 0 p p
Makes-none tx p = record {
  undos = [];
  few = omega arith;
  own = nothing_more (undos_of tx p.store.book.actives);
  others = refl;
  pages = λ want now store. record {
    pages = now;
    store = store;
    back = told_so p.told (AreWhole p.store.pool.geometry.pages now → LeadsBack p.store.pool.geometry.pages [] now now) (LeadsBack-none p.store.pool.geometry.pages now);
    exact = told_so p.told (AreWhole p.store.pool.geometry.pages now → AreExact p.store.pool.geometry.pages [] now) (λ whole. tt);
  };
  grows = Grows-rest p.store p.store (inl refl);
}

-- ---- one behind the other
-- what is said of whole pages
abbrev LeadsExactly : ℕ → List Undo → (ℕ → List ℕ) → (ℕ → List ℕ) → Type 0
LeadsExactly count us was now = AreWhole count was → LeadsBack count us was now × AreExact count us now

both_of : (told : Option Story) (count : ℕ) (us : List Undo) (was now : ℕ → List ℕ) → IfTold told (AreWhole count was → LeadsBack count us was now) → IfTold told (AreWhole count was → AreExact count us now) → IfTold told (LeadsExactly count us was now)
both_of told count us was now back exact =
    told_both told (AreWhole count was → LeadsBack count us was now) (AreWhole count was → AreExact count us now) (LeadsExactly count us was now) (λ b e whole. (b whole, e whole)) back exact

module _ (tx : ℕ) (k l : ℕ) (a b c : Parts) (pages_same : b.store.pool.geometry.pages ≡ a.store.pool.geometry.pages) where
  Turns-then : (want now : ℕ → List ℕ) (us vs : List Undo) → is_some a.told ≡ is_some b.told → (one : Turns want now us a b) → Turns want one.pages vs b c → Turns want now (us ++ vs) a c
  Turns-then want now us vs tells one two = record {
    pages = two.pages;
    store = two.store;
    back = told_both a.told
        (AreWhole a.store.pool.geometry.pages now → LeadsBack a.store.pool.geometry.pages us now one.pages)
        (AreWhole b.store.pool.geometry.pages one.pages → LeadsBack b.store.pool.geometry.pages vs one.pages two.pages)
        (AreWhole a.store.pool.geometry.pages now → LeadsBack a.store.pool.geometry.pages (us ++ vs) now two.pages)
        (λ first second whole.
        let f = first whole in
        let mid = LeadsBack-now a.store.pool.geometry.pages us now one.pages f in
        let s = second (subst (λ (n : ℕ). AreWhole n one.pages) (sym pages_same) mid) in
        LeadsBack-then a.store.pool.geometry.pages vs one.pages two.pages (subst (λ (n : ℕ). LeadsBack n vs one.pages two.pages) pages_same s) us now f)
        one.back (told_as a.told b.told (AreWhole b.store.pool.geometry.pages one.pages → LeadsBack b.store.pool.geometry.pages vs one.pages two.pages) tells two.back);
    exact = told_both a.told (LeadsExactly a.store.pool.geometry.pages us now one.pages) (LeadsExactly b.store.pool.geometry.pages vs one.pages two.pages)
        (AreWhole a.store.pool.geometry.pages now → AreExact a.store.pool.geometry.pages (us ++ vs) two.pages)
        (λ first second whole.
        let f = first whole in
        let s = second (subst (λ (n : ℕ). AreWhole n one.pages) (sym pages_same) (LeadsBack-now a.store.pool.geometry.pages us now one.pages f.0)) in
        AreExact-then a.store.pool.geometry.pages us vs one.pages two.pages (subst (λ (n : ℕ). LeadsBack n vs one.pages two.pages) pages_same s.0) f.1
        (subst (λ (n : ℕ). AreExact n vs two.pages) pages_same s.1))
        (both_of a.told a.store.pool.geometry.pages us now one.pages one.back one.exact)
        (told_as a.told b.told (LeadsExactly b.store.pool.geometry.pages vs one.pages two.pages) tells (both_of b.told b.store.pool.geometry.pages vs one.pages two.pages two.back two.exact));
  }

  pub Makes-then : LeavesWanted a b → Makes tx k a b → Makes tx l b c → Makes tx (k + l) a c
  Makes-then leaves one two = record {
    undos = one.undos ++ two.undos;
    few = let len = length-append one.undos two.undos in omega (arith, len, one.few, two.few);
    own = two.own ∙ ap (λ (us : List Undo). us ++ two.undos) one.own ∙ append_assoc (undos_of tx a.store.book.actives) one.undos two.undos;
    others = two.others ∙ one.others;
    pages = λ want now store. let first = one.pages want now store in Turns-then want now one.undos two.undos (leaves.each want now store).tells first (two.pages want first.pages first.store);
    grows =
        let sum = Grows-sum a.store b.store c.store (12400 * k) (3 * k) (12400 * l) (3 * l) one.grows two.grows in
        let bytes : 12400 * k + 12400 * l ≡ 12400 * (k + l) = omega arith in
        let gates : 3 * k + 3 * l ≡ 3 * (k + l) = omega arith in
        subst (λ (n : ℕ). Grows a.store c.store n (3 * (k + l))) bytes (subst (λ (n : ℕ). Grows a.store c.store (12400 * k + 12400 * l) n) gates sum);
  }

module _ {D : Type 0} (told : D → Option Story) (len faults : D → ℕ) (tx : ℕ) where
  pub Works-none : (d : D) (s : State) → Works told len faults tx 0 d d s s
  Works-none d s = record {
    size = refl;
    later = omega arith;
    geometry = refl;
    leaves = LeavesWanted-none (parts told len d s);
    down = λ on. (refl, refl);
    fell = λ on. inl on;
    makes = λ up. Makes-none tx (parts told len d s);
  }

  module _ (k l : ℕ) (d e f : D) (s t u : State) (one : Works told len faults tx k d e s t) (two : Works told len faults tx l e f t u) where
    -- where the store went down in the first call, the second one left all as it was
    leaves_then : (b : Bool) → t.book.down ≡ b → LeavesWanted (parts told len d s) (parts told len f u)
    leaves_then true on =
        let still = two.down on in
        subst (λ (x : D). LeavesWanted (parts told len d s) (parts told len x u)) (sym still.0)
        (subst (λ (x : State). LeavesWanted (parts told len d s) (parts told len e x)) (sym still.1) one.leaves)
    leaves_then false off = record {
      each = λ want now store.
          let first = (one.makes off).pages want now store in
          and_then (told d) (told e) (told f) (Restores s.pool.geometry want) (one.leaves.each want now store)
          (subst (λ (g : Geometry). LeavesOnly (told e) (told f) (Restores g want)) one.geometry (two.leaves.each want first.pages first.store));
    }

    -- a store that is up at the end was up in the middle
    up_before : (b : Bool) → t.book.down ≡ b → u.book.down ≡ false → t.book.down ≡ false
    up_before false off up = off
    up_before true on up = absurd (false≢true (sym up ∙ ap (λ (x : State). x.book.down) (two.down on).1 ∙ on))

    pub Works-then : Works told len faults tx (k + l) d f s u
    Works-then = record {
      size = two.size ∙ one.size;
      later = omega (arith, one.later, two.later);
      geometry = two.geometry ∙ one.geometry;
      leaves = leaves_then t.book.down refl;
      down = λ on.
          let first = one.down on in
          let second = two.down (ap (λ (x : State). x.book.down) first.1 ∙ on) in
          (second.0 ∙ first.0, second.1 ∙ first.1);
      fell = λ on. ⊎_elim
          (λ (was : t.book.down ≡ true). ⊎_elim
          (λ (first : s.book.down ≡ true). inl first)
          (λ (rose : Rose (faults d) (faults e)). inr (Rose-before (faults d) (faults e) (faults f) rose two.later))
          (one.fell was))
          (λ (rose : Rose (faults e) (faults f)). inr (Rose-later (faults d) (faults e) (faults f) one.later rose))
          (two.fell on);
      makes = λ up.
          let off = up_before t.book.down refl up in
          Makes-then tx k l (parts told len d s) (parts told len e t) (parts told len f u) (ap (λ (g : Geometry). g.pages) one.geometry) one.leaves (one.makes off) (two.makes up);
    }
