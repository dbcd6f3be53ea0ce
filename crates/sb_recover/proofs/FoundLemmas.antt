-- One record more is found.
use Rattle.std.proofs.Common.{◌≡◌, ⊎_elim, ℕ, ◌+◌, ◌^◌, ◌-◌, ◌<◌, ◌≤◌, min, Bool, true, false, cond, ◌==◌, ◌||◌, Some, List, [], ◌∷◌, ◌++◌, length, refl, sym, ◌∙◌, ap, subst, arith, Vec, Global}
use Rattle.std.specs.Ordering.{nat_cmp}
use Rattle.std.specs.Cmp.{unsigned_tied}
use Rattle.std.specs.BTreeSet.{BTreeSet, contains_by}
use Rattle.std.specs.BTreeSet as set
use Rattle.std.specs.BTreeMap.{BTreeMap}
use Rattle.std.specs.BTreeMap as map
use Rattle.std.proofs.lemmas.Bool.{eq-eqb, ne_eqb, cases_eq}
use Rattle.std.proofs.lemmas.List.{length-reverse}
use Rattle.sb_log.specs.Records.{Change, Record, Begin, Image, Changed, Back, Commit}
use Rattle.sb_log.specs.Standing.{keep, stood, standing, committed}
use Rattle.sb_log.specs.Restored.{base, imaged}
use Rattle.sb_log.proofs.StandingLemmas.{stood_all-append, committed-append, or_false}
use Rattle.sb_log.proofs.RestoredLemmas.{imaged-append, base-append}
use Rattle.sb_recover.specs.declared.change.Change.{Change as Lent}
use Rattle.sb_recover.specs.declared.found.Found.{Found}
use Rattle.sb_recover.specs.Changes.{change_of, changes_of, newest_first, limits_of, with_limit, taken, AreNumbered, AllFit, IsCut}
use Rattle.sb_recover.specs.Frames.{texts, or_else, is_some, frame_at, has, held, HoldsFirst}
use Rattle.sb_recover.specs.Found.{IsFound, Takes}
use Rattle.sb_recover.proofs.ChangeLemmas.{taken-same, AreNumbered-fewer, taken-more, AreNumbered-more, taken-kept, taken-all, limits-few, limits_of-updates, newest_first-more}
use Rattle.sb_recover.proofs.FrameLemmas.{length-texts}

-- what a record more asks of what is found then
record Asks (f g : Found) (recs : List Record) (r : Record) : Type 0 where
  stand : taken (limits_of g.counts) (newest_first g.changes.items) ≡ stood (standing recs) r
  numbered : AreNumbered (limits_of g.counts) (newest_first g.changes.items)
  done : (tx : ℕ) → contains_by (nat_cmp tx) g.committed ≡ (committed recs tx || committed (r ∷ []) tx)
  bases : (p : ℕ) (disk : List ℕ) → p < length g.frames.items → held (texts g.frames.items) p disk ≡ base p recs (base p (r ∷ []) disk)
  logged : (p : ℕ) → p < length g.frames.items → has (texts g.frames.items) p ≡ (imaged recs p || imaged (r ∷ []) p)

asked : (f g : Found) (recs : List Record) (r : Record) → Asks f g recs r → IsFound g (recs ++ r ∷ [])
asked f g recs r t = record {
  stand = t.stand ∙ sym (stood_all-append [] recs (r ∷ []));
  numbered = t.numbered;
  done = λ tx. t.done tx ∙ sym (committed-append recs (r ∷ []) tx);
  bases = λ p disk lt. t.bases p disk lt ∙ sym (base-append p recs (r ∷ []) disk);
  logged = λ p lt. t.logged p lt ∙ sym (imaged-append recs (r ∷ []) p);
}

pub Takes-begin : (f : Found) (tx : ℕ) → Takes f f (Begin tx ∷ [])
Takes-begin f tx = record {
  found = λ recs h. asked f f recs (Begin tx) (record {
    stand = h.stand;
    numbered = h.numbered;
    done = λ t. h.done t ∙ sym (or_false (committed recs t));
    bases = h.bases;
    logged = λ p lt. h.logged p lt ∙ sym (or_false (imaged recs p));
  });
  sound = λ pages sound. sound;
}

-- a Back
module _ (f : Found) (counts : BTreeMap ℕ ℕ) (tx n : ℕ) (cut : IsCut tx n (limits_of f.counts) (limits_of counts)) where
  cut_stand : (recs : List Record) → IsFound f recs → taken (limits_of counts) (newest_first f.changes.items) ≡ keep tx n (standing recs)
  cut_stand recs h = ⊎_elim
      (λ (fewer : (n < limits_of f.counts tx) × ((t : ℕ) → limits_of counts t ≡ with_limit (limits_of f.counts) tx n t)).
      taken-same (limits_of counts) (with_limit (limits_of f.counts) tx n) (newest_first f.changes.items) fewer.1
      ∙ taken-kept (limits_of f.counts) (newest_first f.changes.items) tx n h.numbered (let lt = fewer.0 in omega (arith, lt)) ∙ ap (λ (cs : List Change). keep tx n cs) h.stand)
      (λ (all : (limits_of f.counts tx ≤ n) × ((t : ℕ) → limits_of counts t ≡ limits_of f.counts t)).
      taken-same (limits_of counts) (limits_of f.counts) (newest_first f.changes.items) all.1
      ∙ taken-all (limits_of f.counts) (newest_first f.changes.items) tx n h.numbered all.0 ∙ ap (λ (cs : List Change). keep tx n cs) h.stand)
      cut

  cut_fewer : (t : ℕ) → limits_of counts t ≤ limits_of f.counts t
  cut_fewer t = ⊎_elim
      (λ (fewer : (n < limits_of f.counts tx) × ((t : ℕ) → limits_of counts t ≡ with_limit (limits_of f.counts) tx n t)).
      let is = fewer.1 t in let lt = fewer.0 in ⊎_elim
      (λ (e : tx ≡ t). let here = ap (λ (b : Bool). cond b n (limits_of f.counts t)) (eq-eqb tx t e) in let same = ap (limits_of f.counts) e in omega (arith, is, lt, here, same))
      (λ (o : tx ≡ t → ⊥). let there = ap (λ (b : Bool). cond b n (limits_of f.counts t)) (ne_eqb tx t o) in omega (arith, is, there))
      (cases_eq tx t))
      (λ (all : (limits_of f.counts tx ≤ n) × ((t : ℕ) → limits_of counts t ≡ limits_of f.counts t)). let is = all.1 t in omega (arith, is))
      cut

  pub Takes-back : (g : Found) → g ≡ record f { counts = counts } → Takes f g (Back tx n ∷ [])
  Takes-back g is = rw is (record {
    found = λ recs h. asked f (record f { counts = counts }) recs (Back tx n) (record {
      stand = cut_stand recs h;
      numbered = AreNumbered-fewer (limits_of f.counts) (limits_of counts) (newest_first f.changes.items) cut_fewer h.numbered;
      done = λ t. h.done t ∙ sym (or_false (committed recs t));
      bases = h.bases;
      logged = λ p lt. h.logged p lt ∙ sym (or_false (imaged recs p));
    });
    sound = λ pages sound. record { fit = sound.fit; frames = sound.frames };
  })

pub changes_of-append : (a b : List Lent) → changes_of (a ++ b) ≡ changes_of a ++ changes_of b
changes_of-append [] b = refl
changes_of-append (c ∷ a) b = ap (λ (l : List Change). change_of c ∷ l) (changes_of-append a b)

AllFit-more : (cs : List Change) (c : Change) → AllFit cs → c.offset + length c.after ≤ 4096 → AllFit (cs ++ c ∷ [])
AllFit-more [] c fit one = (one, tt)
AllFit-more (d ∷ cs) c fit one = (fit.0, AllFit-more cs c fit.1 one)

-- a change
module _ (f : Found) (counts : BTreeMap ℕ ℕ) (changes : Vec Lent Global) (c : Lent) (more : ℕ) (index : c.index ≡ limits_of f.counts c.tx) (is_more : more ≡ min (c.index + 1) (2 ^ 64 - 1))
    (updates : map.Updates nat_cmp f.counts counts c.tx (Some more)) (pushed : changes.items ≡ f.changes.items ++ c ∷ []) (few : length f.changes.items < 2 ^ 63) where
  newest : newest_first changes.items ≡ c ∷ newest_first f.changes.items
  newest = ap newest_first pushed ∙ newest_first-more f.changes.items c

  one_more : (recs : List Record) → IsFound f recs → (t : ℕ) → limits_of counts t ≡ with_limit (limits_of f.counts) c.tx (c.index + 1) t
  one_more recs h t =
      let most = limits-few (limits_of f.counts) (newest_first f.changes.items) c.tx h.numbered in
      let len = length-reverse f.changes.items in
      let small : more ≡ c.index + 1 = omega (arith, most, len, index, is_more, few) in
      limits_of-updates f.counts counts c.tx more updates t ∙ ap (λ (n : ℕ). with_limit (limits_of f.counts) c.tx n t) small

  change_stand : (recs : List Record) → IsFound f recs → taken (limits_of counts) (newest_first changes.items) ≡ standing recs ++ change_of c ∷ []
  change_stand recs h =
      ap (λ (l : List Lent). taken (limits_of counts) l) newest
      ∙ taken-more (limits_of f.counts) (limits_of counts) c (newest_first f.changes.items) index (one_more recs h) ∙ ap (λ (l : List Change). l ++ change_of c ∷ []) h.stand

  change_numbered : (recs : List Record) → IsFound f recs → AreNumbered (limits_of counts) (newest_first changes.items)
  change_numbered recs h = subst (λ (l : List Lent). AreNumbered (limits_of counts) l) (sym newest)
      (AreNumbered-more (limits_of f.counts) (limits_of counts) c (newest_first f.changes.items) index (one_more recs h) h.numbered)

  pub Takes-change : (g : Found) → g ≡ record f { counts = counts; changes = changes } → c.offset + length c.after.now ≤ 4096 → Takes f g (Changed (change_of c) ∷ [])
  Takes-change g is fits = rw is (record {
    found = λ recs h. asked f (record f { counts = counts; changes = changes }) recs (Changed (change_of c)) (record {
      stand = change_stand recs h;
      numbered = change_numbered recs h;
      done = λ t. h.done t ∙ sym (or_false (committed recs t));
      bases = h.bases;
      logged = λ p lt. h.logged p lt ∙ sym (or_false (imaged recs p));
    });
    sound = λ pages sound. record {
      fit = subst AllFit (sym (ap changes_of pushed ∙ changes_of-append f.changes.items (c ∷ []))) (AllFit-more (changes_of f.changes.items) (change_of c) sound.fit fits);
      frames = sound.frames;
    };
  })

-- a Commit
cond_or : (a b : Bool) → cond a true b ≡ (b || (a || false))
cond_or true true = refl
cond_or true false = refl
cond_or false true = refl
cond_or false false = refl

pub Takes-commit : (f g : Found) (done : BTreeSet ℕ) (tx : ℕ) → g ≡ record f { committed = done } → set.Updates nat_cmp f.committed done tx true → Takes f g (Commit tx ∷ [])
Takes-commit f g done tx is up = rw is (record {
  found = λ recs h. asked f (record f { committed = done }) recs (Commit tx) (record {
    stand = h.stand;
    numbered = h.numbered;
    done = λ t. up.0 t ∙ ap (λ (b : Bool). cond b true (contains_by (nat_cmp t) f.committed)) (unsigned_tied tx t) ∙ ap (λ (b : Bool). cond (tx == t) true b) (h.done t) ∙ cond_or (tx == t) (committed recs t);
    bases = h.bases;
    logged = λ p lt. h.logged p lt ∙ sym (or_false (imaged recs p));
  });
  sound = λ pages sound. record { fit = sound.fit; frames = sound.frames };
})

-- an Image
or_else-twice : (a b c : List ℕ) → or_else (or_else a b) c ≡ or_else a (or_else b c)
or_else-twice [] b c = refl
or_else-twice (x ∷ a) b c = refl

is_some-or_else : (a b : List ℕ) → is_some b ≡ true → is_some (or_else a b) ≡ (is_some a || true)
is_some-or_else [] b some = some
is_some-or_else (x ∷ a) b some = refl

long_some : (b : List ℕ) → length b ≡ 4096 → is_some b ≡ true
long_some [] long = absurd (omega (arith, long))
long_some (x ∷ b) long = refl

long_or_else : (b c : List ℕ) → length b ≡ 4096 → or_else b c ≡ b
long_or_else [] c long = absurd (omega (arith, long))
long_or_else (x ∷ b) c long = refl

module _ (f : Found) (frames : Vec (Vec ℕ Global) Global) (page : ℕ) (bytes : List ℕ) (holds : HoldsFirst page bytes (texts f.frames.items) (texts frames.items)) (long : length bytes ≡ 4096) where
  below_old : (p : ℕ) → p < length frames.items → p < length f.frames.items
  below_old p lt = let a = length-texts frames.items in let b = length-texts f.frames.items in let e = holds.count in omega (arith, lt, a, b, e)

  below_texts : (p : ℕ) → p < length frames.items → p < length (texts f.frames.items)
  below_texts p lt = let b = length-texts f.frames.items in let lt_old = below_old p lt in omega (arith, lt_old, b)

  image_bases : (recs : List Record) → IsFound f recs → (p : ℕ) (disk : List ℕ) → p < length frames.items → held (texts frames.items) p disk ≡ base p recs (cond (page == p) bytes disk)
  image_bases recs h p disk lt = ap (λ (l : List ℕ). or_else l disk) (holds.each p (below_texts p lt)) ∙ ⊎_elim
      (λ (e : page ≡ p). rw (eq-eqb page p e) (or_else-twice (frame_at (texts f.frames.items) p) bytes disk ∙ ap (λ (l : List ℕ). or_else (frame_at (texts f.frames.items) p) l) (long_or_else bytes disk long) ∙ h.bases p bytes (below_old p lt)))
      (λ (o : page ≡ p → ⊥). rw (ne_eqb page p o) (h.bases p disk (below_old p lt)))
      (cases_eq page p)

  image_logged : (recs : List Record) → IsFound f recs → (p : ℕ) → p < length frames.items → has (texts frames.items) p ≡ (imaged recs p || ((page == p) || false))
  image_logged recs h p lt = ap is_some (holds.each p (below_texts p lt)) ∙ ⊎_elim
      (λ (e : page ≡ p). rw (eq-eqb page p e) (is_some-or_else (frame_at (texts f.frames.items) p) bytes (long_some bytes long) ∙ ap (λ (b : Bool). b || true) (h.logged p (below_old p lt))))
      (λ (o : page ≡ p → ⊥). rw (ne_eqb page p o) (h.logged p (below_old p lt) ∙ sym (or_false (imaged recs p))))
      (cases_eq page p)

  pub Takes-image : (g : Found) → g ≡ record f { frames = frames } → Takes f g (Image page bytes ∷ [])
  Takes-image g is = rw is (record {
    found = λ recs h. asked f (record f { frames = frames }) recs (Image page bytes) (record {
      stand = h.stand;
      numbered = h.numbered;
      done = λ t. h.done t ∙ sym (or_false (committed recs t));
      bases = image_bases recs h;
      logged = image_logged recs h;
    });
    sound = λ pages sound. record {
      fit = sound.fit;
      frames = record {
        count_is = holds.count ∙ sound.frames.count_is;
        whole = holds.whole long sound.frames.whole;
      };
    };
  })
