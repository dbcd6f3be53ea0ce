-- What is so of a relation's attachments, each with the one that its descriptor has in its place.
use Rattle.std.proofs.Common.{◌≡◌, ℕ, zero, suc, ◌≤◌, true, false, not, List, [], ◌∷◌, map, All, length, Some, refl, sym, ap, subst, ◌∙◌, inl, inr, arith}
use Rattle.std.specs.List.{list_all, slice_get}
use Rattle.std.proofs.lemmas.Bool.{and_parts, not-true}
use Rattle.std.proofs.lemmas.List.Elements.{All-nil, All-cons, All-head, All-tail, All-weaker}
use Rattle.std.proofs.lemmas.Option.{same_Some}
use Rattle.sb_relation.specs.Db
use Rattle.sb_catalog.specs.declared.descriptor.Attached.{Attached}
use Rattle.sb_standing.specs.Asked.{SplitRules}
use Rattle.sb_standing.specs.Standing.{EachRule, AreApart, IsAmong, is_join}
use Rattle.sb_standing.proofs.OwnersLemmas.{All-among, attached_among}

-- ---- of each of them
-- it follows from what is so of each, of each of the descriptor's and of each of the relation's
pub EachRule-weaker : (P Q : Attached → Db.Attached → Type 0) (A : Attached → Type 0) (B : Db.Attached → Type 0) → ((d : Attached) (a : Db.Attached) → A d → B a → P d a → Q d a) →
    (ds : List Attached) (others : List Db.Attached) → All A ds → All B others → EachRule P ds others → EachRule Q ds others
EachRule-weaker P Q A B weaker [] [] own theirs each = tt
EachRule-weaker P Q A B weaker (d ∷ ds) [] own theirs each = absurd each
EachRule-weaker P Q A B weaker [] (a ∷ others) own theirs each = absurd each
EachRule-weaker P Q A B weaker (d ∷ ds) (a ∷ others) own theirs each =
    (weaker d a (All-head A d ds own) (All-head B a others theirs) each.0, EachRule-weaker P Q A B weaker ds others (All-tail A d ds own) (All-tail B a others theirs) each.1)

pub EachRule-map : (P : Attached → Db.Attached → Type 0) (f : Db.Attached → Db.Attached) (ds : List Attached) (others : List Db.Attached) → EachRule (λ d a. P d (f a)) ds others → EachRule P ds (map f others)
EachRule-map P f [] [] each = tt
EachRule-map P f (d ∷ ds) [] each = absurd each
EachRule-map P f [] (a ∷ others) each = absurd each
EachRule-map P f (d ∷ ds) (a ∷ others) each = (each.0, EachRule-map P f ds others each.1)

pub EachRule-length : (P : Attached → Db.Attached → Type 0) (ds : List Attached) (others : List Db.Attached) → EachRule P ds others → length ds ≡ length others
EachRule-length P [] [] each = refl
EachRule-length P (d ∷ ds) [] each = absurd each
EachRule-length P [] (a ∷ others) each = absurd each
EachRule-length P (d ∷ ds) (a ∷ others) each = ap suc (EachRule-length P ds others each.1)

-- ---- of the first ones, and of those behind
pub SplitRules-weaker : (F G F' G' : Attached → Db.Attached → Type 0) (A : Attached → Type 0) → ((d : Attached) (a : Db.Attached) → A d → F d a → F' d a) → ((d : Attached) (a : Db.Attached) → A d → G d a → G' d a) →
    (i : ℕ) (ds : List Attached) (others : List Db.Attached) → All A ds → SplitRules F G i ds others → SplitRules F' G' i ds others
SplitRules-weaker F G F' G' A first behind zero ds others own split =
    EachRule-weaker G G' A (λ a. Unit {0}) (λ d a is _ so. behind d a is so) ds others own (λ i d in'. tt) split
SplitRules-weaker F G F' G' A first behind (suc i) [] [] own split = tt
SplitRules-weaker F G F' G' A first behind (suc i) (d ∷ ds) [] own split = absurd split
SplitRules-weaker F G F' G' A first behind (suc i) [] (a ∷ others) own split = absurd split
SplitRules-weaker F G F' G' A first behind (suc i) (d ∷ ds) (a ∷ others) own split =
    (first d a (All-head A d ds own) split.0, SplitRules-weaker F G F' G' A first behind i ds others (All-tail A d ds own) split.1)

-- the first one behind
pub SplitRules-at : (F G : Attached → Db.Attached → Type 0) (i : ℕ) (ds : List Attached) (others : List Db.Attached) (d : Attached) → slice_get ds i ≡ Some d → SplitRules F G i ds others →
    (a : Db.Attached) × (slice_get others i ≡ Some a) × G d a
SplitRules-at F G zero [] others d at split = absurd (cc)
SplitRules-at F G zero (x ∷ ds) [] d at split = absurd split
SplitRules-at F G zero (x ∷ ds) (a ∷ others) d at split = (a, refl, subst (λ (y : Attached). G y a) (same_Some x d at) split.0)
SplitRules-at F G (suc i) [] others d at split = absurd (cc)
SplitRules-at F G (suc i) (x ∷ ds) [] d at split = absurd split
SplitRules-at F G (suc i) (x ∷ ds) (a ∷ others) d at split = SplitRules-at F G i ds others d at split.1

-- none is behind
pub SplitRules-end : (F G : Attached → Db.Attached → Type 0) (i : ℕ) (ds : List Attached) (others : List Db.Attached) → length ds ≤ i → SplitRules F G i ds others → EachRule F ds others
SplitRules-end F G zero [] [] end split = tt
SplitRules-end F G zero [] (a ∷ others) end split = absurd split
SplitRules-end F G zero (d ∷ ds) others end split = absurd (omega arith)
SplitRules-end F G (suc i) [] [] end split = tt
SplitRules-end F G (suc i) (d ∷ ds) [] end split = absurd split
SplitRules-end F G (suc i) [] (a ∷ others) end split = absurd split
SplitRules-end F G (suc i) (d ∷ ds) (a ∷ others) end split = (split.0, SplitRules-end F G i ds others (omega arith) split.1)

pub SplitRules-length : (F G : Attached → Db.Attached → Type 0) (i : ℕ) (ds : List Attached) (others : List Db.Attached) → SplitRules F G i ds others → length ds ≡ length others
SplitRules-length F G zero ds others split = EachRule-length G ds others split
SplitRules-length F G (suc i) [] [] split = refl
SplitRules-length F G (suc i) (d ∷ ds) [] split = absurd split
SplitRules-length F G (suc i) [] (a ∷ others) split = absurd split
SplitRules-length F G (suc i) (d ∷ ds) (a ∷ others) split = ap suc (SplitRules-length F G i ds others split.1)

-- ---- one more of the first ones
pub slice_get-among : (ds : List Attached) (i : ℕ) (d : Attached) → slice_get ds i ≡ Some d → IsAmong d.owner (map (λ a. a.owner) ds)
slice_get-among [] i d at = absurd (cc)
slice_get-among (x ∷ ds) zero d at = inl (ap (λ (y : Attached). y.owner) (sym (same_Some x d at)))
slice_get-among (x ∷ ds) (suc i) d at = inr (slice_get-among ds i d at)

-- an attachment has no pages of this owner
abbrev pub IsApart : ℕ → Attached → Type 0
IsApart owner d = (d.owner ≡ owner) → (d.owner ≡ 0)

pub AreApart-attached : (owner : ℕ) (ds : List Attached) → All (λ o. (o ≡ owner) → (o ≡ 0)) (map (λ a. a.owner) ds) → All (IsApart owner) ds
AreApart-attached owner ds apart =
    All-weaker (λ (d : Attached). IsAmong d.owner (map (λ a. a.owner) ds)) (IsApart owner) (λ d is. All-among (λ o. (o ≡ owner) → (o ≡ 0)) (map (λ a. a.owner) ds) d.owner apart is) ds (attached_among ds)

-- with what is so of this one then, and what stays so of those without its owner
pub SplitRules-step : (F G F' G' : Attached → Db.Attached → Type 0) (d : Attached) (a : Db.Attached) →
    ((x : Attached) (y : Db.Attached) → IsApart d.owner x → F x y → F' x y) → ((x : Attached) (y : Db.Attached) → IsApart d.owner x → G x y → G' x y) → F' d a →
    (i : ℕ) (ds : List Attached) (others : List Db.Attached) → AreApart (map (λ z. z.owner) ds) → slice_get ds i ≡ Some d → slice_get others i ≡ Some a → SplitRules F G i ds others → SplitRules F' G' (suc i) ds others
SplitRules-step F G F' G' d a first behind so zero [] others apart at has split = absurd (cc)
SplitRules-step F G F' G' d a first behind so zero (x ∷ ds) [] apart at has split = absurd split
SplitRules-step F G F' G' d a first behind so zero (x ∷ ds) (y ∷ others) apart at has split =
    let here = same_Some x d at in
    let others_apart = subst (λ (z : Attached). All (IsApart z.owner) ds) here (AreApart-attached x.owner ds apart.0) in (
      subst (λ (z : Attached). F' z y) (sym here) (subst (F' d) (sym (same_Some y a has)) so),
      EachRule-weaker G G' (IsApart d.owner) (λ z. Unit {0}) (λ z w is _ each. behind z w is each) ds others others_apart (λ i z in'. tt) split.1,
    )
SplitRules-step F G F' G' d a first behind so (suc i) [] others apart at has split = absurd (cc)
SplitRules-step F G F' G' d a first behind so (suc i) (x ∷ ds) [] apart at has split = absurd split
SplitRules-step F G F' G' d a first behind so (suc i) (x ∷ ds) (y ∷ others) apart at has split =
    let later = All-among (λ o. (o ≡ x.owner) → (o ≡ 0)) (map (λ z. z.owner) ds) d.owner apart.0 (slice_get-among ds i d at) in
    (first x y (λ e. e ∙ later (sym e)) split.0, SplitRules-step F G F' G' d a first behind so i ds others apart.1 at has split.1)

-- ---- joins
pub no_joins : (others : List Db.Attached) → list_all (λ a. not (is_join a.rule)) others ≡ true → All (λ a. is_join a.rule ≡ false) others
no_joins [] none = All-nil (λ (a : Db.Attached). is_join a.rule ≡ false)
no_joins (a ∷ others) none =
    let parts = and_parts (not (is_join a.rule)) (list_all (λ x. not (is_join x.rule)) others) none in
    All-cons (λ (x : Db.Attached). is_join x.rule ≡ false) a others (not-true (is_join a.rule) parts.0) (no_joins others parts.1)
