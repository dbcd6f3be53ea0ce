use Rattle.std.proofs.Common.{◌≡◌, ◌+◌, ◌++◌, ◌∷◌, [], List, sym, subst, ◌∙◌}
use Rattle.sb_drive.specs.Slots.{nobodys}
use Rattle.sb_memory.specs.Contents.{slots}
use Rattle.sb_memory.specs.declared.slots.Write.{Write}
use Rattle.sb_memory.proofs.Freeing.{FreesBelow, FreesBelow-kept, FreesBelow-more}
use Rattle.sb_memory.proofs.owners.freeing.Goals as goal
use Rattle.sb_memory.proofs.owners.freeing.Goals.{then-owner_of-owner+in_ok-push, else-owner_of-owner}

pub loop-number-preserved : goal.loop-number-preserved
loop-number-preserved c =
    let s = slots c.args.memory.now.now in
    let n = c.loop-number.number in
    let old = c.loop-number.writes.items in
    let new = c.if-owner_of-owner.writes.items in
    elim c.if-owner_of-owner.branch [
      | then-owner_of-owner+in_ok-push w ↦
          let made : new ≡ old ++ record { number = n; slot = nobodys } ∷ [] = cc (w.writes-is, w.in_ok-push.ensures.items, w.nobodys-slot.ensures) in
          FreesBelow-more c.args.owner n s old c.loop-number.invariant new c.loop-number-test.true (sym c.owner_of.ensures ∙ w.if-owner_of-owner.true) made
      | else-owner_of-owner w ↦
          let same : new ≡ old = cc w.writes-is in
          subst (λ (ws : List Write). FreesBelow c.args.owner (n + 1) s ws) (sym same)
          (FreesBelow-kept c.args.owner n s old c.loop-number.invariant (λ is. w.if-owner_of-owner.false (c.owner_of.ensures ∙ is)))
    ]
