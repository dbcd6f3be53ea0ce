use Rattle.std.proofs.Common.{[], ◌∷◌, ◌∙◌}
use Rattle.std.specs.Int.{w64}
use Rattle.std.proofs.lemmas.Int.{to_z-of_z}
use Rattle.sb_value.specs.declared.value.Value.TheVariants.{Int, Text}
use Rattle.sb_heap.proofs.ExampleLaws.{MayBeHeld-fitting}
use Rattle.sb_method_tests.proofs.rows.row.Goals as goal

pub returns : goal.returns
returns g c =
    let items = rw c.expect-values.ensures at c.vec.ensures.items in
    MayBeHeld-fitting c.from_vec.result (record {
      number = c.args.number;
      first = c.first-x.result.now;
      last = c.last.result.now;
      is = c.from_vec.ensures ∙ items
          ∙ (λ i. Int (to_z-of_z w64 c.args.number c.ranges.number i) ∷ Text (c.text.ensures i) ∷ Text (c.text-2.ensures i) ∷ Text (c.text-3.ensures i) ∷ Text (c.text-4.ensures i) ∷ []);
      fits = c.ranges.number;
      utf8 = (c.first-x.utf8, c.last.utf8);
      short = (c.first-x.ensures, c.last.ensures);
    })
