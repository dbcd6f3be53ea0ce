-- Owners of instances, when one comes that had no page, or when some are held aside.
use Rattle.std.proofs.Common.{◌≡◌, ◌≢◌, inl, inr, ℕ, zero, suc, ◌+◌, ◌<◌, ◌≤◌, ◌==◌, Bool, true, false, cond, List, [], ◌∷◌, ◌++◌, All, refl, sym, ap, subst, ◌∙◌, arith, eqb-true, true≢false}
use Rattle.std.proofs.lemmas.Bool.{eq-eqb}
use Rattle.std.proofs.lemmas.List.Elements.{All-tail}
use Rattle.sb_rows.specs.Pages.{Pages}
use Rattle.sb_rows.specs.Instances.{IsLeastOwner}
use Rattle.sb_rows.specs.Slots.{Slots, owned}
use Rattle.sb_standing.specs.Tables.{KeepsOthers}
use Rattle.sb_standing.specs.Standing.{IsOwner, IsAmong, HasPage, Own}
use Rattle.sb_standing.specs.TableLaws.{Comes, Freed}
use Rattle.sb_standing.proofs.TimesLemmas.{times, times-append, times-among, among-times, All-times, times-All, apart-times, times-apart}
use Rattle.sb_standing.proofs.FrameLemmas.{All-both, All-right, HasPage-same}

-- ---- an owner that comes
-- an owner that has a page isn't it
pub Comes-other : (s t : Slots) (owner o : ℕ) → Comes s t owner → 2 < o → HasPage s o → o ≡ owner → ⊥
Comes-other s t owner o comes some (inl none) same = absurd (omega (arith, some, none))
Comes-other s t owner o comes some (inr page) same = page.1 (subst (λ (x : ℕ). owned s x page.0 ≡ []) (sym same) (comes.none page.0))

-- so its pages stay
pub Comes-same : (s t : Slots) (owner o : ℕ) → Comes s t owner → IsOwner o → HasPage s o → owned t o ≡ owned s o
Comes-same s t owner o comes (inl none) has = subst (λ (n : ℕ). owned t n ≡ owned s n) (sym none) refl
Comes-same s t owner o comes (inr some) has = comes.others o (Comes-other s t owner o comes some has) (λ two. absurd (omega (arith, some, two)))

-- it is none of those that stand
none_of : (n : ℕ) → (0 < n → ⊥) → n ≡ 0
none_of zero no_more = refl
none_of (suc n) no_more = absurd (no_more (omega arith))

Comes-new : (s t : Slots) (owner : ℕ) (owners : List ℕ) → Comes s t owner → (owner ≡ 0 → ⊥) → All (HasPage s) owners → times owner owners ≡ 0
Comes-new s t owner owners comes some pages = none_of (times owner owners) (λ there. by comes.is (All-times (HasPage s) owners pages owner there))
  where
    by : IsOwner owner → HasPage s owner → ⊥
    by (inl none) has = some none
    by (inr more) has = Comes-other s t owner owner comes more has refl

one_more : (o owner : ℕ) → (o ≡ owner → ⊥) → times o (owner ∷ []) ≡ 0
one_more o owner other = by (o == owner) refl
  where
    by : (b : Bool) → (o == owner) ≡ b → cond b (suc (times o [])) (times o []) ≡ 0
    by true is = absurd (other (eqb-true o owner is))
    by false is = refl

-- instances don't share pages with that which comes
pub Own-comes : (s t : Slots) (owners gone all : List ℕ) (owner : ℕ) → Own s owners gone → All (HasPage s) (owners ++ gone) → Comes s t owner →
    ((o : ℕ) → times o (all ++ gone) ≡ times o (owner ∷ []) + times o (owners ++ gone)) → Own t all gone
Own-comes s t owners gone all owner own pages comes same = record {
  apart = times-apart (all ++ gone) (λ o some. once o some (o == owner) refl);
  each = times-All IsOwner (all ++ gone) (λ o there. each o there (o == owner) refl);
  left = All-both IsOwner (HasPage s) (HasPage t) (λ o is has. HasPage-same s t o (λ some. Comes-same s t owner o comes is has) is has) gone (All-right IsOwner owners gone own.each) own.left;
  known = λ o some none n.
      ap (λ (P : Pages). P n) (comes.others o (λ e. none (among-times o (all ++ gone) (itself o e))) (λ two. absurd (omega (arith, some, two))))
      ∙ own.known o some (λ there. none (among-times o (all ++ gone) (before o (times-among o (owners ++ gone) there)))) n;
}
  where
    added : (a b c : ℕ) → c ≡ a + b → 0 < b → 0 < c
    added a b c is some = omega arith

    before : (o : ℕ) → 0 < times o (owners ++ gone) → 0 < times o (all ++ gone)
    before o some = added (times o (owner ∷ [])) (times o (owners ++ gone)) (times o (all ++ gone)) (same o) some

    first : (a b c : ℕ) → c ≡ a + b → 0 < a → 0 < c
    first a b c is some = omega arith

    itself : (o : ℕ) → o ≡ owner → 0 < times o (all ++ gone)
    itself o e = first (times o (owner ∷ [])) (times o (owners ++ gone)) (times o (all ++ gone)) (same o) (times-among o (owner ∷ []) (inl e))

    one : (n : ℕ) (b : Bool) → n ≡ 0 → cond b (suc 0) 0 + n ≤ 1
    one n true e = omega arith
    one n false e = omega arith

    counted : (a b c : ℕ) → c ≡ a + b → a ≡ 0 → b ≤ 1 → c ≤ 1
    counted a b c is none less = omega arith

    once : (o : ℕ) → (o ≡ 0 → ⊥) → (b : Bool) → (o == owner) ≡ b → times o (all ++ gone) ≤ 1
    once o some true is =
        let e : o ≡ owner = eqb-true o owner is in
        let new : times o (owners ++ gone) ≡ 0 = ap (λ x. times x (owners ++ gone)) e ∙ Comes-new s t owner (owners ++ gone) comes (λ z. some (e ∙ z)) pages in
        subst (λ n. n ≤ 1) (sym (same o)) (one (times o (owners ++ gone)) (o == owner) new)
    once o some false is =
        counted (times o (owner ∷ [])) (times o (owners ++ gone)) (times o (all ++ gone)) (same o) (ap (λ b. cond b (suc 0) 0) is) (apart-times (owners ++ gone) own.apart o some)

    later : (a b c : ℕ) → c ≡ a + b → a ≡ 0 → 0 < c → 0 < b
    later a b c is none some = omega arith

    each : (o : ℕ) → 0 < times o (all ++ gone) → (b : Bool) → (o == owner) ≡ b → IsOwner o
    each o there true is = subst IsOwner (sym (eqb-true o owner is)) comes.is
    each o there false is =
        All-times IsOwner (owners ++ gone) own.each o (later (times o (owner ∷ [])) (times o (owners ++ gone)) (times o (all ++ gone)) (same o) (ap (λ b. cond b (suc 0) 0) is) there)

-- ---- owners that are held aside
-- the same owners as before, and those behind the catalogue keep their pages
pub Own-moved : (s t : Slots) (owners gone all aside : List ℕ) → Own s owners gone → ((o : ℕ) → 2 < o → owned t o ≡ owned s o) → All (HasPage s) aside →
    ((o : ℕ) → times o (all ++ aside) ≡ times o (owners ++ gone)) → Own t all aside
Own-moved s t owners gone all aside own stays pages same = record {
  apart = times-apart (all ++ aside) (λ o some. subst (λ n. n ≤ 1) (sym (same o)) (apart-times (owners ++ gone) own.apart o some));
  each = each;
  left = All-both IsOwner (HasPage s) (HasPage t) (λ o is has. HasPage-same s t o (stays o) is has) aside (All-right IsOwner all aside each) pages;
  known = λ o some none n. ap (λ (P : Pages). P n) (stays o some) ∙ own.known o some (λ there. none (among-times o (all ++ aside) (subst (λ n. 0 < n) (sym (same o)) (times-among o (owners ++ gone) there)))) n;
}
  where
    each : All IsOwner (all ++ aside)
    each = times-All IsOwner (all ++ aside) (λ o there. All-times IsOwner (owners ++ gone) own.each o (subst (λ n. 0 < n) (same o) there))

-- ---- an owner whose pages go
times-freed : (o owner : ℕ) (owners gone : List ℕ) → times o (owners ++ owner ∷ gone) ≡ times o (owner ∷ []) + times o (owners ++ gone)
times-freed o owner owners gone =
    moved (times o (owners ++ owner ∷ gone)) (times o owners) (times o (owner ∷ gone)) (times o (owner ∷ [])) (times o gone) (times o (owners ++ gone))
    (times-append o owners (owner ∷ gone)) (times-append o (owner ∷ []) gone) (times-append o owners gone)
  where
    moved : (a b c d e f : ℕ) → a ≡ b + c → c ≡ d + e → f ≡ b + e → a ≡ d + f
    moved a b c d e f one two three = omega arith

fewer : (a b c : ℕ) → a ≡ b + c → a ≤ 1 → c ≤ 1
fewer a b c is less = omega arith

more : (a b c : ℕ) → a ≡ b + c → 0 < c → 0 < a
more a b c is some = omega arith

-- it is none of the others
Freed-other : (s : Slots) (o owner : ℕ) (owners gone : List ℕ) → Own s owners (owner ∷ gone) → (o ≡ 0 → ⊥) → 0 < times o (owners ++ gone) → o ≡ owner → ⊥
Freed-other s o owner owners gone own some there same =
    never (times o (owners ++ owner ∷ gone)) (times o (owner ∷ [])) (times o (owners ++ gone)) (times-freed o owner owners gone) (apart-times (owners ++ owner ∷ gone) own.apart o some)
    (times-among o (owner ∷ []) (inl same)) there
  where
    never : (a b c : ℕ) → a ≡ b + c → a ≤ 1 → 0 < b → 0 < c → ⊥
    never a b c is less one two = absurd (omega (arith, is, less, one, two))

-- so their pages stay
pub Freed-same : (s t : Slots) (owner : ℕ) (owners gone : List ℕ) → Own s owners (owner ∷ gone) → Freed s t owner → All (λ o. owned t o ≡ owned s o) (owners ++ gone)
Freed-same s t owner owners gone own freed =
    times-All (λ o. owned t o ≡ owned s o) (owners ++ gone) (λ o there. by o there (All-times IsOwner (owners ++ owner ∷ gone) own.each o
    (more (times o (owners ++ owner ∷ gone)) (times o (owner ∷ [])) (times o (owners ++ gone)) (times-freed o owner owners gone) there)))
  where
    by : (o : ℕ) → 0 < times o (owners ++ gone) → IsOwner o → owned t o ≡ owned s o
    by o there (inl none) = subst (λ (n : ℕ). owned t n ≡ owned s n) (sym none) refl
    by o there (inr some) = freed.others o (Freed-other s o owner owners gone own (λ none. absurd (omega (arith, some, none))) there)

pub Own-freed : (s t : Slots) (owner : ℕ) (owners gone : List ℕ) → Own s owners (owner ∷ gone) → Freed s t owner → Own t owners gone
Own-freed s t owner owners gone own freed = record {
  apart = times-apart (owners ++ gone) (λ o some.
      fewer (times o (owners ++ owner ∷ gone)) (times o (owner ∷ [])) (times o (owners ++ gone)) (times-freed o owner owners gone) (apart-times (owners ++ owner ∷ gone) own.apart o some));
  each = each;
  left = All-both (λ o. IsOwner o × (owned t o ≡ owned s o)) (HasPage s) (HasPage t) (λ o is has. HasPage-same s t o (λ some. is.1) is.0 has) gone
      (All-right (λ o. IsOwner o × (owned t o ≡ owned s o)) owners gone
      (All-both IsOwner (λ o. owned t o ≡ owned s o) (λ o. IsOwner o × (owned t o ≡ owned s o)) (λ o is same. (is, same)) (owners ++ gone) each (Freed-same s t owner owners gone own freed)))
      (All-tail (HasPage s) owner gone own.left);
  known = λ o some none n. known o some none n (o == owner) refl;
}
  where
    each : All IsOwner (owners ++ gone)
    each = times-All IsOwner (owners ++ gone) (λ o there. All-times IsOwner (owners ++ owner ∷ gone) own.each o
        (more (times o (owners ++ owner ∷ gone)) (times o (owner ∷ [])) (times o (owners ++ gone)) (times-freed o owner owners gone) there))

    later : (a b c : ℕ) → a ≡ b + c → b ≡ 0 → 0 < a → 0 < c
    later a b c is none some = omega arith

    known : (o : ℕ) → 2 < o → (IsAmong o (owners ++ gone) → ⊥) → (n : ℕ) → (b : Bool) → (o == owner) ≡ b → owned t o n ≡ []
    known o some none n true is = subst (λ (x : ℕ). owned t x n ≡ []) (sym (eqb-true o owner is)) (freed.none n)
    known o some none n false is =
        ap (λ (P : Pages). P n) (freed.others o (λ e. true≢false (sym (eq-eqb o owner e) ∙ is)))
        ∙ own.known o some (λ there. none (among-times o (owners ++ gone)
        (later (times o (owners ++ owner ∷ gone)) (times o (owner ∷ [])) (times o (owners ++ gone)) (times-freed o owner owners gone) (ap (λ b. cond b (suc 0) 0) is) (times-among o (owners ++ owner ∷ gone) there)))) n

-- ---- an owner that no page has
pub none-unused : (s : Slots) (owner : ℕ) → ((n : ℕ) → (s n).0 ≢ owner) → (n : ℕ) → owned s owner n ≡ []
none-unused s owner unused n = by (owner == 0) ((s n).0 == owner) refl
  where
    by : (a b : Bool) → ((s n).0 == owner) ≡ b → cond a [] (cond b (s n).1 []) ≡ []
    by true b is = refl
    by false true is = absurd (unused n (eqb-true (s n).0 owner is))
    by false false is = refl

pub Comes-least : (s t : Slots) (taken : List ℕ) (owner : ℕ) → IsLeastOwner s taken owner → ((o : ℕ) → (o ≡ owner → ⊥) → (o ≡ 2 → ⊥) → owned t o ≡ owned s o) → Comes s t owner
Comes-least s t taken owner least others = record { is = inr (omega (arith, least.from)); none = none-unused s owner least.unused; others = others }

-- an instance without pages has no owner
pub Comes-nobody : (s t : Slots) → KeepsOthers 2 s t → Comes s t 0
Comes-nobody s t others = record { is = inl refl; none = λ n. refl; others = λ o other two. others o two }
