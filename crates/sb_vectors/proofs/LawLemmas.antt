-- What becomes of codes when boxes move.
use Rattle.std.proofs.Common.{◌≡◌, ℕ, ◌+◌, ◌≤◌, ◌==◌, Bool, true, false, cond, List, [], ◌∷◌, ◌++◌, map, Some, None, is_some, arith, refl, ap, subst, ◌∙◌}
use Rattle.std.specs.List.{AllByRecursion, find}
use Rattle.std.specs.Option.{option_or}
use Rattle.std.proofs.lemmas.List.{map-append}
use Rattle.sb_registry.specs.Method.{Method}
use Rattle.sb_registry.specs.Attachment.{Attachment}
use Rattle.sb_registry.specs.Boxes.{Meanings, repeated_in}
use Rattle.sb_registry.specs.Codes.{first_repeat}
use Rattle.sb_vectors.specs.Vectors.{Registers, Retires, codes_in}
use Rattle.sb_vectors.specs.Laws.{RegisteringMoves, RegisteringStays, RetiringMoves, RetiringStays}
use Rattle.sb_vectors.proofs.CodesLemmas.{AreSingle, both_none, codes_come, codes_left, single-from, single-none, times, times-append, times_moved}

abbrev method_code : Method → ℕ
method_code m = m.rules.code

abbrev attachment_code : Attachment → ℕ
attachment_code a = a.rules.code

-- ---- codes that don't repeat
record AreUnique (m : Meanings) : Type 0 where
  methods : AreSingle (codes_in m true true ++ codes_in m false true)
  attachments : AreSingle (codes_in m true false ++ codes_in m false false)

unique_from : (m : Meanings) → repeated_in m ≡ None → AreUnique m
unique_from m none =
    let both = both_none (first_repeat [] (map method_code (m.methods ++ m.spare_methods))) (first_repeat [] (map attachment_code (m.attachments ++ m.spare_attachments))) none in
    record {
      methods = subst AreSingle (map-append method_code m.methods m.spare_methods) (single-from [] (map method_code (m.methods ++ m.spare_methods)) both.0 nothing);
      attachments = subst AreSingle (map-append attachment_code m.attachments m.spare_attachments) (single-from [] (map attachment_code (m.attachments ++ m.spare_attachments)) both.1 nothing);
    }
  where
    nothing : AreSingle []
    nothing c = omega arith

unique_none : (m : Meanings) → AreUnique m → repeated_in m ≡ None
unique_none m unique =
    let methods : first_repeat [] (map method_code (m.methods ++ m.spare_methods)) ≡ None =
    ap (first_repeat []) (map-append method_code m.methods m.spare_methods) ∙ single-none [] (codes_in m true true ++ codes_in m false true) unique.methods in
    let attachments : first_repeat [] (map attachment_code (m.attachments ++ m.spare_attachments)) ≡ None =
    ap (first_repeat []) (map-append attachment_code m.attachments m.spare_attachments) ∙ single-none [] (codes_in m true false ++ codes_in m false false) unique.attachments in
    ap (λ o. option_or o (first_repeat [] (map attachment_code (m.attachments ++ m.spare_attachments)))) methods ∙ attachments

-- each code stands as often as before
abbrev AreAsMany : Meanings → Meanings → Bool → Type 0
AreAsMany old new method = (c : ℕ) → times c (codes_in new true method) + times c (codes_in new false method) ≡ times c (codes_in old true method) + times c (codes_in old false method)

single_still : (live spare lives spares : List ℕ) → ((c : ℕ) → times c lives + times c spares ≡ times c live + times c spare) → AreSingle (live ++ spare) → AreSingle (lives ++ spares)
single_still live spare lives spares same single c = omega (arith, same c, single c, times-append c live spare, times-append c lives spares)

unique_still : (old new : Meanings) → AreAsMany old new true → AreAsMany old new false → repeated_in old ≡ None → repeated_in new ≡ None
unique_still old new methods attachments none =
    let unique = unique_from old none in
    unique_none new (record {
      methods = single_still (codes_in old true true) (codes_in old false true) (codes_in new true true) (codes_in new false true) methods unique.methods;
      attachments = single_still (codes_in old true false) (codes_in old false false) (codes_in new true false) (codes_in new false false) attachments unique.attachments;
    })

same_times : {B : Type 0} (code_in : B → ℕ) (live spare lives spares : List B) → lives ≡ live → spares ≡ spare → (c : ℕ)
    → times c (map code_in lives) + times c (map code_in spares) ≡ times c (map code_in live) + times c (map code_in spare)
same_times code_in live spare lives spares a b c = λ i. times c (map code_in (a i)) + times c (map code_in (b i))

swapped : (a b c d : ℕ) → a + b ≡ c + d → b + a ≡ d + c
swapped a b c d e = omega (arith, e)

pub registers_unique : (method : Bool) (code : ℕ) (moved : Bool) (old new : Meanings) → Registers method code moved old new → repeated_in old ≡ None → repeated_in new ≡ None
registers_unique true code moved old new is =
    unique_still old new (λ c. times_moved method_code code old.spare_methods old.methods new.spare_methods new.methods moved c is.0)
    (same_times attachment_code old.attachments old.spare_attachments new.attachments new.spare_attachments is.1 is.2)
registers_unique false code moved old new is =
    unique_still old new (same_times method_code old.methods old.spare_methods new.methods new.spare_methods is.1 is.2)
    (λ c. times_moved attachment_code code old.spare_attachments old.attachments new.spare_attachments new.attachments moved c is.0)

pub retires_unique : (method : Bool) (code : ℕ) (moved : Bool) (old new : Meanings) → Retires method code moved old new → repeated_in old ≡ None → repeated_in new ≡ None
retires_unique true code moved old new is =
    unique_still old new (λ c. swapped _ _ _ _ (times_moved method_code code old.methods old.spare_methods new.methods new.spare_methods moved c is.0))
    (same_times attachment_code old.attachments old.spare_attachments new.attachments new.spare_attachments is.1 is.2)
retires_unique false code moved old new is =
    unique_still old new (same_times method_code old.methods old.spare_methods new.methods new.spare_methods is.1 is.2)
    (λ c. swapped _ _ _ _ (times_moved attachment_code code old.attachments old.spare_attachments new.attachments new.spare_attachments moved c is.0))

-- ---- the codes of a list once
first_few : (code : ℕ) (xs ys : List ℕ) → AreSingle (xs ++ ys) → times code xs ≤ 1
first_few code xs ys single = omega (arith, single code, times-append code xs ys)

last_few : (code : ℕ) (xs ys : List ℕ) → AreSingle (xs ++ ys) → times code ys ≤ 1
last_few code xs ys single = omega (arith, single code, times-append code xs ys)

-- where none has a code, none is found
none_found : {B : Type 0} (p : B → Bool) (xs : List B) → AllByRecursion (λ b. p b ≡ false) xs → is_some (find p xs) ≡ false
none_found p [] none = refl
none_found p (x ∷ xs) none = ap (λ t. is_some (cond t (Some x) (find p xs))) none.0 ∙ none_found p xs none.1

-- ---- the laws
pub registering_moves : RegisteringMoves
registering_moves true code old new unique is = (
  λ i. record { methods = codes_come method_code code old.spare_methods old.methods new.spare_methods new.methods is.0 i; attachments = map attachment_code (is.1 i) },
  λ i. record {
    methods = codes_left method_code code old.spare_methods old.methods new.spare_methods new.methods is.0
        (last_few code (codes_in old true true) (codes_in old false true) (unique_from old unique).methods) i;
    attachments = map attachment_code (is.2 i);
  },
)
registering_moves false code old new unique is = (
  λ i. record { methods = map method_code (is.1 i); attachments = codes_come attachment_code code old.spare_attachments old.attachments new.spare_attachments new.attachments is.0 i },
  λ i. record {
    methods = map method_code (is.2 i);
    attachments = codes_left attachment_code code old.spare_attachments old.attachments new.spare_attachments new.attachments is.0
        (last_few code (codes_in old true false) (codes_in old false false) (unique_from old unique).attachments) i;
  },
)

pub registering_stays : RegisteringStays
registering_stays true code old new is = (
  none_found (λ (m : Method). m.rules.code == code) old.spare_methods is.0.none,
  λ i. record { methods = is.0.to_same i; attachments = is.1 i; spare_methods = is.0.from_same i; spare_attachments = is.2 i },
)
registering_stays false code old new is = (
  none_found (λ (a : Attachment). a.rules.code == code) old.spare_attachments is.0.none,
  λ i. record { methods = is.1 i; attachments = is.0.to_same i; spare_methods = is.2 i; spare_attachments = is.0.from_same i },
)

pub retiring_moves : RetiringMoves
retiring_moves true code old new unique is = (
  λ i. record {
    methods = codes_left method_code code old.methods old.spare_methods new.methods new.spare_methods is.0
        (first_few code (codes_in old true true) (codes_in old false true) (unique_from old unique).methods) i;
    attachments = map attachment_code (is.1 i);
  },
  λ i. record { methods = codes_come method_code code old.methods old.spare_methods new.methods new.spare_methods is.0 i; attachments = map attachment_code (is.2 i) },
)
retiring_moves false code old new unique is = (
  λ i. record {
    methods = map method_code (is.1 i);
    attachments = codes_left attachment_code code old.attachments old.spare_attachments new.attachments new.spare_attachments is.0
        (first_few code (codes_in old true false) (codes_in old false false) (unique_from old unique).attachments) i;
  },
  λ i. record { methods = map method_code (is.2 i); attachments = codes_come attachment_code code old.attachments old.spare_attachments new.attachments new.spare_attachments is.0 i },
)

pub retiring_stays : RetiringStays
retiring_stays true code old new is = (
  none_found (λ (m : Method). m.rules.code == code) old.methods is.0.none,
  λ i. record { methods = is.0.from_same i; attachments = is.1 i; spare_methods = is.0.to_same i; spare_attachments = is.2 i },
)
retiring_stays false code old new is = (
  none_found (λ (a : Attachment). a.rules.code == code) old.attachments is.0.none,
  λ i. record { methods = is.1 i; attachments = is.0.from_same i; spare_methods = is.2 i; spare_attachments = is.0.to_same i },
)
