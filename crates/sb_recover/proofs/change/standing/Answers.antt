use Rattle.std.proofs.Common.{ℕ, ◌≡◌, ◌-◌, ◌++◌, List, length, take, reverse, get_or, sym, ◌∙◌, ap, subst, arith}
use Rattle.std.proofs.lemmas.List.{take_all, append-nil}
use Rattle.sb_recover.specs.declared.change.Change.{Change as Lent}
use Rattle.sb_recover.specs.Changes.{changes_of, limits_of, newest_first, taken}
use Rattle.sb_recover.proofs.ChangeLemmas.{limits_of-updates, take_last, taken-next, taken-skip, no_change}
use Rattle.sb_recover.proofs.change.standing.Goals as goal

pub loop-left-init : goal.loop-left-init
loop-left-init c = record {
  within = omega arith;
  so_far =
      ap (λ (l : List Lent). taken (limits_of c.args.counts.now) (newest_first l)) (sym (take_all (length c.args.changes.now) c.args.changes.now (omega arith)))
      ∙ sym (append-nil (taken (limits_of c.args.counts.now) (newest_first (take (length c.args.changes.now) c.args.changes.now))))
      ∙ ap (λ (l : List Lent). taken (limits_of c.args.counts.now) (newest_first (take (length c.args.changes.now) c.args.changes.now)) ++ changes_of (reverse l)) (sym c.new-found.ensures.items);
}

pub loop-left-preserved-in-Continue-branch-2 : goal.loop-left-preserved-in-Continue-branch-2
loop-left-preserved-in-Continue-branch-2 c =
    let within = c.loop-left.invariant.within in let some = c.loop-left-test.true in
    let alive = c.if-change-count_of.true in let count = c.count_of.ensures in
    let last = take_last c.args.changes.now c.loop-left.left no_change (omega (arith, some)) within in
    let change : Lent = get_or c.args.changes.now (c.loop-left.left - 1) no_change in
    record {
      within = omega (arith, within);
      so_far = subst (λ (l : List Lent). taken (limits_of c.args.counts.now) (newest_first c.args.changes.now) ≡ taken (limits_of c.insert.new.self) (newest_first (take (c.loop-left.left - 1) c.args.changes.now)) ++ changes_of (reverse l)) (sym c.in_ok-push.ensures.items)
          (taken-next (limits_of c.loop-left.counts) _ (take (c.loop-left.left - 1) c.args.changes.now) c.loop-left.found.items change (limits_of c.insert.new.self)
          (omega (arith, alive, count)) (limits_of-updates c.loop-left.counts c.insert.new.self change.tx change.index c.in_ok-insert.ensures.updates)
          (c.loop-left.invariant.so_far ∙ ap (λ (l : List Lent). taken (limits_of c.loop-left.counts) (newest_first l) ++ changes_of (reverse c.loop-left.found.items)) last));
    }

pub loop-left-preserved : goal.loop-left-preserved
loop-left-preserved c =
    let within = c.loop-left.invariant.within in let some = c.loop-left-test.true in
    let dead = c.if-change-count_of.false in let count = c.count_of.ensures in
    let last = take_last c.args.changes.now c.loop-left.left no_change (omega (arith, some)) within in
    let change : Lent = get_or c.args.changes.now (c.loop-left.left - 1) no_change in
    record {
      within = omega (arith, within);
      so_far = taken-skip (limits_of c.loop-left.counts) _ (take (c.loop-left.left - 1) c.args.changes.now) c.loop-left.found.items change (omega (arith, dead, count))
          (c.loop-left.invariant.so_far ∙ ap (λ (l : List Lent). taken (limits_of c.loop-left.counts) (newest_first l) ++ changes_of (reverse c.loop-left.found.items)) last);
    }

pub returns : goal.returns
returns c =
    let none : c.loop-left.left ≡ 0 = let t = c.loop-left-test.false in omega (arith, t) in
    ap changes_of c.reverse.ensures.items ∙ sym (c.loop-left.invariant.so_far ∙ ap (λ (n : ℕ). taken (limits_of c.loop-left.counts) (newest_first (take n c.args.changes.now)) ++ changes_of (reverse c.loop-left.found.items)) none)
