-- What the tests of a command say of codes and descriptors.
use Rattle.std.proofs.Common.{◌≡◌, ℕ, ◌+◌, ◌==◌, ◌≤◌, Bool, true, false, true≢false, cond, List, length, Option, Some, None, refl, sym, ap, ◌∙◌, arith}
use Rattle.std.specs.Prelude.{not}
use Rattle.std.proofs.lemmas.Bool.{eqb-true, ltb-false}
use Rattle.sb_rule.specs.declared.rule.Rule.{Rule}
use Rattle.sb_rule.specs.declared.rule.Rule.TheVariants.{TreeIndex, HashIndex, JoinIndex, Stats, Check, Refers, Trigger, Foreign}
use Rattle.sb_rule.specs.Spelling.{rule_code, rule_spelling}
use Rattle.sb_relation.specs.Build.{mirror_of, with_rule}
use Rattle.sb_relation.specs.Db.{Name, Relation, Db, relation_at}
use Rattle.sb_relation.specs.Keys.{Picked, Coded, Counted, keying_of}
use Rattle.sb_relation.specs.Limits.{descriptor_len, has_large_descriptor}
use Rattle.sb_plain.specs.Refusing.{code_where}
use Rattle.sb_plain.specs.State.{Codes, State, has_code}
use Rattle.sb_refusals.specs.Lengths.{attached_len, is_over}
use Rattle.sb_refusals.proofs.Growing.{one_over}
use Rattle.sb_registry.specs.Boxes.{Meanings}
use Rattle.sb_vectors.specs.Vectors.{has_box, live_codes}
use Rattle.sb_vectors.proofs.BoxLemmas.{has_box-codes}
use Rattle.sb_statements.specs.Standing.{is_join}

-- ---- codes
pub passed_code : (codes : List ℕ) (code : ℕ) → code_where (not (has_code codes code)) code ≡ None → has_code codes code ≡ true
passed_code codes code none = of_test (has_code codes code) none
  where
    of_test : (b : Bool) → code_where (not b) code ≡ None → b ≡ true
    of_test true none = refl
    of_test false none = absurd (cc)

module _ (m : Meanings) (s : State) (live : s.live ≡ live_codes m) (code : ℕ) where
  pub no_method : has_box m true true code ≡ false → has_code s.live.methods code ≡ false
  no_method none = ap (λ (c : Codes). has_code c.methods code) live ∙ sym (has_box-codes m true true code) ∙ none

  pub no_attachment : has_box m true false code ≡ false → has_code s.live.attachments code ≡ false
  no_attachment none = ap (λ (c : Codes). has_code c.attachments code) live ∙ sym (has_box-codes m true false code) ∙ none

-- another code than one that isn't there
pub is_other : (codes : List ℕ) (code none : ℕ) → has_code codes code ≡ true → has_code codes none ≡ false → code ≡ none → ⊥
is_other codes code none there absent same = true≢false (sym there ∙ ap (has_code codes) same ∙ absent)

-- temp alone counts
pub counts_temp : (method : ℕ) → keying_of method ≡ Counted → method ≡ 3
counts_temp method counted = of_tests (method == 2) (method == 3) refl counted
  where
    of_tests : (two three : Bool) → (method == 3) ≡ three → cond two Coded (cond three Counted Picked) ≡ Counted → method ≡ 3
    of_tests true three is e = absurd (cc)
    of_tests false true is e = eqb-true method 3 is
    of_tests false false is e = absurd (cc)

-- ---- rules of one relation
pub is_alone : (relation : Name) (rule : Rule) → (rule_code rule ≡ 3 → ⊥) → (rule_code rule ≡ 6 → ⊥) → (is_join rule ≡ false) × (mirror_of relation rule ≡ None)
is_alone relation (TreeIndex columns unique) no_join no_reference = (refl, refl)
is_alone relation (HashIndex columns) no_join no_reference = (refl, refl)
is_alone relation (JoinIndex side columns other others) no_join no_reference = absurd (no_join refl)
is_alone relation (Stats column low width) no_join no_reference = (refl, refl)
is_alone relation (Check pred deferred) no_join no_reference = (refl, refl)
is_alone relation (Refers side columns other others mode deferred) no_join no_reference = absurd (no_reference refl)
is_alone relation (Trigger on pred act deferred) no_join no_reference = (refl, refl)
is_alone relation (Foreign code desc) no_join no_reference = (refl, refl)

-- where the descriptor isn't large with a rule, the rule is short
pub short_rule : (db : Db) (relation name : Name) (rule : Rule) (r : Relation) → relation_at db relation ≡ Some r → (rule_code rule ≡ 3 → ⊥) → (rule_code rule ≡ 6 → ⊥)
    → has_large_descriptor relation rule (with_rule db relation name rule) ≡ false → length (rule_spelling rule) ≤ 65535
short_rule db relation name rule r there no_join no_reference small =
    let over : is_over (Some r) (attached_len name rule) ≡ false = ap (λ (o : Option Relation). is_over o (attached_len name rule)) (sym there)
    ∙ one_over db relation name rule (λ side columns other others is. no_join (ap rule_code is)) (λ side columns other others mode deferred is. no_reference (ap rule_code is))
    ∙ small in
    let within : descriptor_len r + attached_len name rule ≤ 1900 = ltb-false 1900 (descriptor_len r + attached_len name rule) over in
    omega arith
