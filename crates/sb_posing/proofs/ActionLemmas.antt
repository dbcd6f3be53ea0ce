-- Which actions a line says: they can be stored where no text is long.
use Rattle.std.proofs.Common.{◌≡◌, ℕ, Bool, false, List, [], ◌∷◌, codes, All, arith}
use Rattle.std.specs.List.{list_any}
use Rattle.std.proofs.lemmas.Bool.{or_parts}
use Rattle.std.proofs.lemmas.List.Elements.{All-nil, All-cons, All-head, All-tail}
use Rattle.sb_pred.specs.declared.predicate.Term.{Term}
use Rattle.sb_pred.specs.Spelling.{IsStorableTerm}
use Rattle.sb_rule.specs.declared.action.Action.{Action}
use Rattle.sb_rule.specs.declared.action.Action.TheVariants as action
use Rattle.sb_rule.specs.Spelling.{IsShortList, IsStorableAction, IsStorablePair}
use Rattle.sb_relation.specs.Limits.{has_long_pair, has_long_term, is_long_text}
use Rattle.sb_tokens.specs.declared.token.Token.{Token}
use Rattle.sb_tokens.specs.declared.token.Token.TheVariants as token
use Rattle.sb_grammar.specs.Grammar.{full_term, matching, matching_action, pair, triggered}
use Rattle.sb_printer.proofs.Printed.{EachProper}
use Rattle.sb_posing.proofs.PieceLemmas.{Bounds, items_in, listed_in, named, split, word_stored}
use Rattle.sb_posing.proofs.PredicateLemmas.{StoresTerm, full_in}

-- each is stored where none of them is long
each_stored : {A : Type 0} (is_long : A → Bool) (Stored : A → Type 0) (items : List A) → All (λ x. is_long x ≡ false → Stored x) items → list_any is_long items ≡ false → All Stored items
each_stored is_long Stored [] all short = All-nil Stored
each_stored is_long Stored (x ∷ items) all short =
    let parts = or_parts (is_long x) (list_any is_long items) short in
    All-cons Stored x items (All-head (λ y. is_long y ≡ false → Stored y) x items all parts.0)
    (each_stored is_long Stored items (All-tail (λ y. is_long y ≡ false → Stored y) x items all) parts.1)

-- ---- pairs
abbrev StoresPair : List ℕ × Term → Type 0
StoresPair p = is_long_text p.1 ≡ false → IsStorablePair p

abbrev pub StoresAction : Action → Type 0
StoresAction a = has_long_term a ≡ false → IsStorableAction a

module _ (term : Term → List Token → Type 0) (each : Bounds term StoresTerm) where
  pair_in : Bounds (pair term) StoresPair
  pair_in p tokens h s short =
      let a = split tokens h s in
      let b = split a.back a.back_proper a.is_back in
      (word_stored p.0 (named p.0 a), each p.1 b.back b.back_proper b.is_back short)

  pairs_in : (pairs : List (List ℕ × Term)) (tokens : List Token) → EachProper tokens → matching term pairs tokens → has_long_pair pairs ≡ false → IsShortList IsStorablePair pairs
  pairs_in [] tokens h s short = (omega arith, All-nil IsStorablePair)
  pairs_in (p ∷ pairs) tokens h s short =
      let a = split tokens h s in
      let list = items_in (pair term) StoresPair pair_in 3 (token.Word (codes "and")) (p ∷ pairs) a.back a.back_proper a.is_back in
      (omega (arith, list.1), each_stored (λ (q : List ℕ × Term). is_long_text q.1) IsStorablePair (p ∷ pairs) list.2 short)

  -- ---- actions
  matching_in : Bounds (matching_action term) StoresAction
  matching_in (action.Insert relation terms) tokens h s short = absurd s
  matching_in (action.Delete relation pairs) tokens h s short =
      let a = split tokens h s in
      let b = split a.back a.back_proper a.is_back in
      (word_stored relation (named relation b), pairs_in pairs b.back b.back_proper b.is_back short)
  matching_in (action.Set relation column new pairs) tokens h s short =
      let a = split tokens h s in
      let b = split a.back a.back_proper a.is_back in
      let c = split b.back b.back_proper b.is_back in
      let d = split c.back c.back_proper c.is_back in
      let e = split d.back d.back_proper d.is_back in
      let parts = or_parts (is_long_text new) (has_long_pair pairs) short in (
        word_stored relation (named relation b),
        word_stored column (named column c),
        each new e.front e.front_proper e.is_front parts.0,
        pairs_in pairs e.back e.back_proper e.is_back parts.1,
      )
  matching_in (action.Add relation column new pairs) tokens h s short =
      let a = split tokens h s in
      let b = split a.back a.back_proper a.is_back in
      let c = split b.back b.back_proper b.is_back in
      let d = split c.back c.back_proper c.is_back in
      let e = split d.back d.back_proper d.is_back in
      let parts = or_parts (is_long_text new) (has_long_pair pairs) short in (
        word_stored relation (named relation b),
        word_stored column (named column c),
        each new e.front e.front_proper e.is_front parts.0,
        pairs_in pairs e.back e.back_proper e.is_back parts.1,
      )

pub triggered_in : Bounds triggered StoresAction
triggered_in (action.Insert relation terms) tokens h s short =
    let a = split tokens h s in
    let b = split a.back a.back_proper a.is_back in
    let c = split b.back b.back_proper b.is_back in
    let list = listed_in full_term StoresTerm full_in terms c.back c.back_proper c.is_back in
    (word_stored relation (named relation b), (omega (arith, list.1), each_stored is_long_text IsStorableTerm terms list.2 short))
triggered_in (action.Delete relation pairs) tokens h s short = matching_in full_term full_in (action.Delete relation pairs) tokens h s short
triggered_in (action.Set relation column new pairs) tokens h s short = matching_in full_term full_in (action.Set relation column new pairs) tokens h s short
triggered_in (action.Add relation column new pairs) tokens h s short = matching_in full_term full_in (action.Add relation column new pairs) tokens h s short
