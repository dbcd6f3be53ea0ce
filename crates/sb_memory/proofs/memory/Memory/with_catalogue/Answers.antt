use Rattle.std.proofs.Common.{◌≡◌, List, [], ◌∷◌, ◌++◌, replicate, ap, ◌∙◌, rules}
use Rattle.sb_forms.specs.Pages.{zeros}
use Rattle.sb_drive.specs.Slots.{Slot}
use Rattle.sb_memory.proofs.WholeLemmas.{IsMemory-root, pages_of-root, pages_of-beside_root}
use Rattle.sb_memory.proofs.memory.Memory.with_catalogue.Goals as goal

pub invariant_of-result : goal.invariant_of-result
unfolding zeros
invariant_of-result c =
    let bytes : c.in_ok-vec.field-0.items ≡ replicate 4096 0 = search rules in
    let slot : c.new.result ≡ (2, zeros) = c.new.ensures ∙ (λ i. ((c.catalogue-owner.ensures i).0, bytes i)) in
    let is : c.push.new.self.items ≡ (2, zeros) ∷ [] =
    c.in_ok-push.ensures.items ∙ ap (λ (l : List Slot). l ++ c.new.result ∷ []) c.new-pages.ensures.items ∙ ap (λ (x : Slot). x ∷ []) slot in
    IsMemory-root c.push.new.self.items c.new-2.result.items 2 is c.new-2.ensures.items

pub returns-clause-root : goal.returns-clause-root
unfolding zeros
returns-clause-root c =
    let bytes : c.in_ok-vec.field-0.items ≡ replicate 4096 0 = search rules in
    let slot : c.new.result ≡ (2, zeros) = c.new.ensures ∙ (λ i. ((c.catalogue-owner.ensures i).0, bytes i)) in
    let is : c.push.new.self.items ≡ (2, zeros) ∷ [] =
    c.in_ok-push.ensures.items ∙ ap (λ (l : List Slot). l ++ c.new.result ∷ []) c.new-pages.ensures.items ∙ ap (λ (x : Slot). x ∷ []) slot in
    pages_of-root c.push.new.self.items is

pub returns-clause-others : goal.returns-clause-others
unfolding zeros
returns-clause-others c = λ o n other.
    let bytes : c.in_ok-vec.field-0.items ≡ replicate 4096 0 = search rules in
    let slot : c.new.result ≡ (2, zeros) = c.new.ensures ∙ (λ i. ((c.catalogue-owner.ensures i).0, bytes i)) in
    let is : c.push.new.self.items ≡ (2, zeros) ∷ [] =
    c.in_ok-push.ensures.items ∙ ap (λ (l : List Slot). l ++ c.new.result ∷ []) c.new-pages.ensures.items ∙ ap (λ (x : Slot). x ∷ []) slot in
    pages_of-beside_root c.push.new.self.items o n is other
