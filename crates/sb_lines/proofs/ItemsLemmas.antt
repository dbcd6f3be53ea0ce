-- What lines say, as more of them come.
use Rattle.std.proofs.Common.{◌≡◌, ℕ, true, false, Bool, cond, List, [], ◌∷◌, ◌++◌, refl, sym, ◌∙◌, ap, subst, append_assoc}
use Rattle.std.proofs.lemmas.List.{append-nil}
use Rattle.sb_grammar.specs.Columns.{Item, IsItem}
use Rattle.sb_lines.specs.Lines.{whole_lines, without_return, asks, asking, AreItems, AreFirstItems}
use Rattle.sb_lines.proofs.CutLemmas.{whole_lines-grow}

-- ---- lines that ask for a reply
pub asking-append : (lines more : List (List ℕ)) → asking (lines ++ more) ≡ asking lines ++ asking more
asking-append [] more = refl
asking-append (line ∷ lines) more =
    elim (asks (without_return line)) as (λ p. cond p (without_return line ∷ asking (lines ++ more)) (asking (lines ++ more)) ≡ cond p (without_return line ∷ asking lines) (asking lines) ++ asking more) [
      | true ↦ ap (λ (ls : List (List ℕ)). without_return line ∷ ls) (asking-append lines more)
      | false ↦ asking-append lines more
    ]

pub asking-passed : (lines : List (List ℕ)) (line : List ℕ) → asks (without_return line) ≡ false → asking (lines ++ line ∷ []) ≡ asking lines
asking-passed lines line passed = asking-append lines (line ∷ []) ∙ ap (λ (p : Bool). asking lines ++ cond p (without_return line ∷ []) []) passed ∙ append-nil (asking lines)

pub asking-said : (lines : List (List ℕ)) (line : List ℕ) → asks (without_return line) ≡ true → asking (lines ++ line ∷ []) ≡ asking lines ++ without_return line ∷ []
asking-said lines line said = asking-append lines (line ∷ []) ∙ ap (λ (p : Bool). asking lines ++ cond p (without_return line ∷ []) []) said

-- ---- items
pub AreItems-push : (lines : List (List ℕ)) (items : List Item) (line : List ℕ) (item : Item) → AreItems lines items → IsItem line item → AreItems (lines ++ line ∷ []) (items ++ item ∷ [])
AreItems-push [] [] line item are is = (is, tt)
AreItems-push [] (i ∷ items) line item are is = absurd are
AreItems-push (l ∷ lines) [] line item are is = absurd are
AreItems-push (l ∷ lines) (i ∷ items) line item are is = (are.0, AreItems-push lines items line item are.1 is)

-- a line that is passed over says nothing
pub AreItems-passed : (lines : List (List ℕ)) (items : List Item) (line : List ℕ) → AreItems (asking lines) items → asks (without_return line) ≡ false → AreItems (asking (lines ++ line ∷ [])) items
AreItems-passed lines items line are passed = subst (λ (ls : List (List ℕ)). AreItems ls items) (sym (asking-passed lines line passed)) are

-- one that asks for a reply says one item more
pub AreItems-said : (lines : List (List ℕ)) (items : List Item) (line : List ℕ) (item : Item) →
    AreItems (asking lines) items → asks (without_return line) ≡ true → IsItem (without_return line) item → AreItems (asking (lines ++ line ∷ [])) (items ++ item ∷ [])
AreItems-said lines items line item are said is =
    subst (λ (ls : List (List ℕ)). AreItems ls (items ++ item ∷ [])) (sym (asking-said lines line said)) (AreItems-push (asking lines) items (without_return line) item are is)

-- ---- the first items
pub AreFirstItems-all : (lines : List (List ℕ)) (items : List Item) → AreItems lines items → AreFirstItems lines items
AreFirstItems-all lines items are = record { first = lines; others = []; are = are; whole = sym (append-nil lines) }

pub AreFirstItems-more : (lines others : List (List ℕ)) (items : List Item) → AreFirstItems lines items → AreFirstItems (lines ++ others) items
AreFirstItems-more lines others items are = record {
  first = are.first;
  others = are.others ++ others;
  are = are.are;
  whole = ap (λ (ls : List (List ℕ)). ls ++ others) are.whole ∙ append_assoc are.first are.others others;
}

-- they stay so behind more lines
pub AreFirstItems-asking : (lines others : List (List ℕ)) (items : List Item) → AreFirstItems (asking lines) items → AreFirstItems (asking (lines ++ others)) items
AreFirstItems-asking lines others items are = subst (λ (ls : List (List ℕ)). AreFirstItems ls items) (sym (asking-append lines others)) (AreFirstItems-more (asking lines) (asking others) items are)

-- and as more bytes come
pub AreFirstItems-grow : (bytes more : List ℕ) (items : List Item) → AreFirstItems (asking (whole_lines bytes)) items → AreFirstItems (asking (whole_lines (bytes ++ more))) items
AreFirstItems-grow bytes more items are =
    let g = whole_lines-grow bytes more in
    subst (λ (ls : List (List ℕ)). AreFirstItems (asking ls) items) (sym g.is) (AreFirstItems-asking (whole_lines bytes) g.others items are)
