use Rattle.std.proofs.Common.{arith, ap, sym, ◌∙◌, Some, option_map}
use Rattle.sb_btree.specs.Leaves.{in_leaf}
use Rattle.sb_btree.proofs.Placing.{find-ok, passed-ok}
use Rattle.sb_btree.proofs.lookup.leaf_value.Goals as goal

pub entry-requires-clause-within : goal.entry-requires-clause-within
entry-requires-clause-within c = omega (arith, (passed-ok c.args.page.now c.args.key.now c.in-Ok.i c.requires (sym c.place.ensures ∙ c.in-Ok.is)).1)

pub returns : goal.returns
returns c =
    let key = c.from_vec-key.ensures ∙ c.in_ok-copied.ensures in
    let value = c.from_vec-value.ensures ∙ c.in_ok-copied-2.ensures in
    (λ i. Some (in_leaf c.args.leaf (key i, value i)))
    ∙ sym (ap (λ o. option_map (in_leaf c.args.leaf) (option_map (λ v. (c.args.key.now, v)) o)) (find-ok c.args.page.now c.args.key.now c.in-Ok.i (c.entry.result.0.now, c.entry.result.1.now) c.requires (sym c.place.ensures ∙ c.in-Ok.is) c.entry.ensures))
