use Rattle.std.proofs.Common.{◌≡◌, ℕ, List, [], ◌∷◌, ◌++◌, replicate, ap, ◌∙◌, rules}
use Rattle.sb_forms.specs.Pages.{zeros}
use Rattle.sb_drive.specs.Instances.{IsLeastOwner, IsLeastFree}
use Rattle.sb_drive.specs.Slots.{Slot, Slots, owned, with_slot}
use Rattle.sb_memory.specs.Contents.{slots}
use Rattle.sb_memory.specs.Writes.{written}
use Rattle.sb_memory.specs.declared.slots.Write.{Write}
use Rattle.sb_drive.proofs.OwnedLemmas.{owned-new, owned-beside}
use Rattle.sb_memory.proofs.WholeLemmas.{ArePagesTo-new}
use Rattle.sb_memory.proofs.memory.Memory.new_instance.Goals as goal

pub write-requires-clause-whole : goal.write-requires-clause-whole
unfolding zeros
write-requires-clause-whole c =
    let owner = c.in_ok-owner.owner in
    let root = c.in_ok-root.root in
    let bytes : c.in_ok-vec.field-0.items ≡ replicate 4096 0 = search rules in
    let slot : c.new-slot.result ≡ (owner, zeros) = c.new-slot.ensures ∙ ap (λ (l : List ℕ). (owner, l)) bytes in
    ArePagesTo-new c.push.new.self.items root owner
    (c.in_ok-push.ensures.items ∙ ap (λ (ws : List Write). ws ++ record { number = root; slot = c.new-slot.result } ∷ []) c.new-writes.ensures.items ∙ ap (λ (x : Slot). record { number = root; slot = x } ∷ []) slot)

pub returns-clause-pages : goal.returns-clause-pages
unfolding zeros
returns-clause-pages c =
    let s = slots c.args.self.now.now in
    let owner = c.in_ok-owner.owner in
    let root = c.in_ok-root.root in
    let own : IsLeastOwner s c.args.taken.now owner = search rules in
    let bytes : c.in_ok-vec.field-0.items ≡ replicate 4096 0 = search rules in
    let slot : c.new-slot.result ≡ (owner, zeros) = c.new-slot.ensures ∙ ap (λ (l : List ℕ). (owner, l)) bytes in
    let writes : c.push.new.self.items ≡ record { number = root; slot = c.new-slot.result } ∷ [] = c.in_ok-push.ensures.items ∙ ap (λ (ws : List Write). ws ++ record { number = root; slot = c.new-slot.result } ∷ []) c.new-writes.ensures.items in
    let made : slots c.write.new.self.now ≡ with_slot root (owner, zeros) s =
    c.in_ok-write.ensures.now ∙ ap (λ (ws : List Write). written ws s) writes ∙ ap (λ (x : Slot). with_slot root x s) slot in
    ap (λ (f : Slots). owned f owner) made ∙ owned-new s c.args.taken.now owner root own

pub returns-clause-others : goal.returns-clause-others
returns-clause-others c =
    let s = slots c.args.self.now.now in
    let owner = c.in_ok-owner.owner in
    let root = c.in_ok-root.root in
    let free : IsLeastFree s root = search rules in
    let writes : c.push.new.self.items ≡ record { number = root; slot = c.new-slot.result } ∷ [] = c.in_ok-push.ensures.items ∙ ap (λ (ws : List Write). ws ++ record { number = root; slot = c.new-slot.result } ∷ []) c.new-writes.ensures.items in
    let made : slots c.write.new.self.now ≡ with_slot root (owner, c.in_ok-vec.field-0.items) s =
    c.in_ok-write.ensures.now ∙ ap (λ (ws : List Write). written ws s) writes ∙ ap (λ (x : Slot). with_slot root x s) c.new-slot.ensures in
    record {
      others = λ o other. ap (λ (f : Slots). owned f o) made ∙ owned-beside s owner root o c.in_ok-vec.field-0.items free.free other;
      grows = c.in_ok-write.ensures.grows;
    }
