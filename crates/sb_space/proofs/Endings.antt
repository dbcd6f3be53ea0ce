-- How the three parts of storing end together.
use Rattle.std.proofs.Common.{◌≡◌, Result, Ok, Err, OnOk, [], ℕ, sym, subst, ◌∙◌}
use Rattle.std.specs.Result.{IsErrAnd}
use Rattle.sb_ctx.specs.View.{View, edited_pages, fresh_pages, freed_pages, HoldsPart, stored}
use Rattle.sb_ctx.specs.Sound.{IsSound}
use Rattle.sb_drive.specs.declared.space.SpaceFault.{SpaceFault}
use Rattle.sb_drive.specs.Slots.{Slots, owned}
use Rattle.sb_drive.specs.Spaces.{UnlessDown, Wanted}
use Rattle.sb_drive.specs.Stores.{bytes_in}
use Rattle.sb_txn.specs.Parts.{Parts}
use Rattle.sb_space.specs.Stored.{taken_in, Ends, Touches, AreSet}
use Rattle.sb_space.specs.Works.{HasPages}
use Rattle.sb_space.proofs.Calling.{UnlessDown-map}
use Rattle.sb_space.proofs.Keeping.{Ends-map}
use Rattle.sb_space.proofs.Listing.{Ends-handed}
use Rattle.sb_space.proofs.Whole.{owned-stored}

-- what is said of pages that are read or stored
abbrev Ending : ℕ → Parts → Parts → (Slots → Slots → Type 0) → Type 0
Ending owner p q A = (want : Wanted) (s : Slots) → HasPages want s p → Ends owner want s q (A s)

-- the same, where the Ctx holds a part of them
abbrev Stores : ℕ → View → Parts → Parts → (Slots → Slots → Type 0) → Type 0
Stores owner c p q A = (want : Wanted) (s : Slots) → HasPages want s p → HoldsPart c (owned s owner) → Ends owner want s q (A s)

pub first_ended : (owner : ℕ) (c : View) (p q : Parts) (e : SpaceFault) (r : Result (Unit {0}) SpaceFault) → IsErrAnd r (λ f. f ≡ e) → (A : Slots → Slots → Type 0) → UnlessDown {T = Unit {0}} (Err e) ((want : Wanted) (s : Slots) → HasPages want s p → Ends owner want s q (A s))
    → UnlessDown r ((want : Wanted) (s : Slots) → HasPages want s p → HoldsPart c (owned s owner) → Ends owner want s q (λ t. OnOk r (owned t owner ≡ stored c (owned s owner))))
first_ended owner c p q e (Ok done) is A last = absurd is
first_ended owner c p q e (Err f) is A last =
    UnlessDown-map {T = Unit {0}} (Err f) (Ending owner p q A) (Stores owner c p q (λ s t. Unit {0})) (λ ends want s has part. Ends-map owner want s q (A s) (λ t. Unit {0}) (λ t x. tt) (ends want s has))
    (subst (λ (x : SpaceFault). UnlessDown {T = Unit {0}} (Err x) (Ending owner p q A)) (sym is) last)

pub second_ended : (owner : ℕ) (c : View) (o p q : Parts) (e : SpaceFault) (r : Result (Unit {0}) SpaceFault) → IsErrAnd r (λ f. f ≡ e) → (A B : Slots → Slots → Type 0)
    → ((want : Wanted) (s : Slots) → HasPages want s o → Ends owner want s p (A s)) → UnlessDown {T = Unit {0}} (Err e) ((want : Wanted) (s : Slots) → HasPages want s p → Ends owner want s q (B s))
    → UnlessDown r ((want : Wanted) (s : Slots) → HasPages want s o → HoldsPart c (owned s owner) → Ends owner want s q (λ t. OnOk r (owned t owner ≡ stored c (owned s owner))))
second_ended owner c o p q e r is A B first last =
    UnlessDown-map r ((want : Wanted) (s : Slots) → HasPages want s o → Ends owner want s q (λ t. OnOk r (owned t owner ≡ stored c (owned s owner))))
    ((want : Wanted) (s : Slots) → HasPages want s o → HoldsPart c (owned s owner) → Ends owner want s q (λ t. OnOk r (owned t owner ≡ stored c (owned s owner)))) (λ ends want s has part. ends want s has)
    (Ends-handed owner o p q e r is B A (λ s t. owned t owner ≡ stored c (owned s owner)) last first)

pub all_ended : (owner : ℕ) (c : View) (o p q z : Parts) (r : Result (Unit {0}) SpaceFault) → IsSound c
    → ((want : Wanted) (s : Slots) → HasPages want s o → Ends owner want s p (λ t. Touches owner (taken_in (fresh_pages c)) s t))
    → ((want : Wanted) (s : Slots) → HasPages want s p → Ends owner want s q (λ t. AreSet owner (edited_pages c) (bytes_in c) s t))
    → UnlessDown r ((want : Wanted) (s : Slots) → HasPages want s q → Ends owner want s z (λ t. OnOk r (AreSet owner (freed_pages c) (λ m. []) s t)))
    → UnlessDown r ((want : Wanted) (s : Slots) → HasPages want s o → HoldsPart c (owned s owner) → Ends owner want s z (λ t. OnOk r (owned t owner ≡ stored c (owned s owner))))
all_ended owner c o p q z r sound taken edited freed =
    UnlessDown-map r ((want : Wanted) (s : Slots) → HasPages want s q → Ends owner want s z (λ t. OnOk r (AreSet owner (freed_pages c) (λ m. []) s t)))
    ((want : Wanted) (s : Slots) → HasPages want s o → HoldsPart c (owned s owner) → Ends owner want s z (λ t. OnOk r (owned t owner ≡ stored c (owned s owner))))
    (λ last want s has part.
    let first = taken want s has in
    let second = edited want first.slots first.has in
    let third = last want second.slots second.has in
    record {
      slots = third.slots;
      has = third.has;
      others = λ k other. third.others k other ∙ second.others k other ∙ first.others k other;
      is = by r first.slots second.slots third.slots s part first.is second.is third.is;
    }) freed
  where
    by : (r : Result (Unit {0}) SpaceFault) (t u v s : Slots) → HoldsPart c (owned s owner) → Touches owner (taken_in (fresh_pages c)) s t → AreSet owner (edited_pages c) (bytes_in c) t u → OnOk r (AreSet owner (freed_pages c) (λ m. []) u v)
        → OnOk r (owned v owner ≡ stored c (owned s owner))
    by (Ok done) t u v s part one two three = owned-stored owner c s t u v sound part one two three
    by (Err e) t u v s part one two three = tt
