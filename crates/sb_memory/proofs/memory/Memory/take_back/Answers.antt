use Rattle.std.proofs.Common.{◌≡◌, ◌<◌, [], ◌∷◌, ◌++◌, Some, length, set, subst}
use Rattle.std.proofs.lemmas.List.Elements.{All-pop}
use Rattle.sb_memory.specs.Contents.{Contents, stack}
use Rattle.sb_memory.proofs.SlotsLemmas.{seen}
use Rattle.sb_memory.proofs.WholeLemmas.{IsMemory-last}
use Rattle.sb_memory.proofs.StackLemmas.{stack-last}
use Rattle.sb_memory.proofs.memory.Memory.take_back.Goals as goal

pub invariant_of-self : goal.invariant_of-self
invariant_of-self c = IsMemory-last c.self.inside.pages.items c.self.inside.undo.items c.pop.new.self.items c.in-Some.write c.self.invariant c.in-Some.ensures.items

pub returns-in-Some : goal.returns-in-Some
returns-in-Some c =
    let pages = c.self.inside.pages.items in
    let undo = c.self.inside.undo.items in
    let rest = c.pop.new.self.items in
    let w = c.in-Some.write in
    let within = (All-pop (λ x. x.number < length pages) undo rest (Some w) c.in-Some.ensures.items c.self.invariant.among).1 in
    subst (λ (m : Contents). stack m ≡ stack (seen (set pages w.number w.slot) rest) ++ m.now ∷ []) c.self.view_is (stack-last pages undo rest w c.in-Some.ensures.items within)
