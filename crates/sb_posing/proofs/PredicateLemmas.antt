-- Which terms and predicates a line says: they can be stored where no text is long.
use Rattle.std.proofs.Common.{◌≡◌, ℕ, zero, suc, List, codes, length, false, inl, inr, subst}
use Rattle.std.proofs.lemmas.Bool.{ltb-false, or_parts}
use Rattle.std.proofs.lemmas.Str.{IsUtf8-from_is_utf8}
use Rattle.sb_value.specs.declared.value.Value.{Value}
use Rattle.sb_value.specs.declared.value.Value.TheVariants as value
use Rattle.sb_value.specs.Spelling.{IsStorable}
use Rattle.sb_pred.specs.declared.predicate.Term.{Term}
use Rattle.sb_pred.specs.declared.predicate.Term.TheVariants.{Const, New, Old}
use Rattle.sb_pred.specs.Spelling.{IsStorablePred, IsStorableTerm}
use Rattle.sb_pred.specs.Tree.{Tree, Always, Compare, Both, Either, Fails}
use Rattle.sb_relation.specs.Limits.{has_long_text, is_long_text}
use Rattle.sb_tokens.specs.declared.token.Sign.TheVariants.{Open, Close}
use Rattle.sb_tokens.specs.declared.token.Token.{Token}
use Rattle.sb_tokens.specs.declared.token.Token.TheVariants as token
use Rattle.sb_language.specs.Lang.{◌⨾◌, ◌∣◌}
use Rattle.sb_grammar.specs.Grammar.{bare_term, conjunction, constant, disjunction, full_term, mark, negation, plain_unit, predicate, unit_within}
use Rattle.sb_printer.proofs.Printed.{EachProper}
use Rattle.sb_posing.proofs.PieceLemmas.{Bounds, grouped_in, number_in, split, word_in, word_stored}

-- ---- terms
abbrev pub StoresTerm : Term → Type 0
StoresTerm t = is_long_text t ≡ false → IsStorableTerm t

value_in : (v : Value) (tokens : List Token) → EachProper tokens → constant v tokens → is_long_text (Const v) ≡ false → IsStorable v
value_in (value.Int n) tokens h s short = number_in n tokens h s
value_in (value.Text text) tokens h s short = (IsUtf8-from_is_utf8 text (subst EachProper s h).0, ltb-false 255 (length text) short)

pub bare_in : Bounds bare_term StoresTerm
bare_in (Const v) tokens h s short = value_in v tokens h s short
bare_in (New column) tokens h s short = word_stored column (word_in column tokens h s)
bare_in (Old column) tokens h s short = absurd s

pub full_in : Bounds full_term StoresTerm
full_in (Const v) tokens h s short = value_in v tokens h s short
full_in (New column) tokens h s short =
    let a = split tokens h s in
    let b = split a.back a.back_proper a.is_back in
    word_stored column (word_in column b.back b.back_proper b.is_back)
full_in (Old column) tokens h s short =
    let a = split tokens h s in
    let b = split a.back a.back_proper a.is_back in
    word_stored column (word_in column b.back b.back_proper b.is_back)

-- ---- predicates
abbrev pub StoresPred : Tree → Type 0
StoresPred p = has_long_text p ≡ false → IsStorablePred p

both_stored : (p q : Tree) → StoresPred p → StoresPred q → StoresPred (Both p q)
both_stored p q a b short = let each = or_parts (has_long_text p) (has_long_text q) short in (a each.0, b each.1)

either_stored : (p q : Tree) → StoresPred p → StoresPred q → StoresPred (Either p q)
either_stored p q a b short = let each = or_parts (has_long_text p) (has_long_text q) short in (a each.0, b each.1)

module _ (unit : Tree → List Token → Type 0) (each : Bounds unit StoresPred) where
  negation_in : Bounds (negation unit) StoresPred
  negation_in Always tokens h s = absurd s
  negation_in (Compare op x y) tokens h s = absurd s
  negation_in (Both p q) tokens h s = absurd s
  negation_in (Either p q) tokens h s = absurd s
  negation_in (Fails p) tokens h s = let a = split tokens h s in each p a.back a.back_proper a.is_back

  disjunction_in : Bounds (disjunction unit) StoresPred
  disjunction_in = grouped_in (conjunction unit) StoresPred (grouped_in unit StoresPred each Both (token.Word (codes "and")) both_stored) Either (token.Word (codes "or")) either_stored

module _ (term : Term → List Token → Type 0) (each : Bounds term StoresTerm) where
  plain_in : Bounds (plain_unit term) StoresPred
  plain_in Always tokens h s = λ short. tt
  plain_in (Compare op x y) tokens h s =
      let a = split tokens h s in
      let b = split a.back a.back_proper a.is_back in
      λ short.
      let terms = or_parts (is_long_text x) (is_long_text y) short in
      (each x a.front a.front_proper a.is_front terms.0, each y b.back b.back_proper b.is_back terms.1)
  plain_in (Both p q) tokens h s = absurd s
  plain_in (Either p q) tokens h s = absurd s
  plain_in (Fails p) tokens h s = absurd s

  one_in : (unit : Tree → List Token → Type 0) → Bounds unit StoresPred → (p : Tree) (tokens : List Token) → EachProper tokens
      → (negation unit p ∣ (mark Open ⨾ disjunction unit p ⨾ mark Close) ∣ plain_unit term p) tokens → StoresPred p
  one_in unit inner p tokens h (inl s) = negation_in unit inner p tokens h s
  one_in unit inner p tokens h (inr (inl s)) =
      let a = split tokens h s in
      let b = split a.back a.back_proper a.is_back in
      disjunction_in unit inner p b.front b.front_proper b.is_front
  one_in unit inner p tokens h (inr (inr s)) = plain_in p tokens h s

  unit_in : (n : ℕ) → Bounds (unit_within term n) StoresPred
  unfolding unit_within
  unit_in zero p tokens h s = plain_in p tokens h s
  unit_in (suc n) p tokens h s = one_in (unit_within term n) (unit_in n) p tokens h s

  pub predicate_in : Bounds (predicate term) StoresPred
  predicate_in = disjunction_in (unit_within term 16) (unit_in 16)
