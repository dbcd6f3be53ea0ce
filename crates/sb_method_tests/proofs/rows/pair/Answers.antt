use Rattle.std.proofs.Common.{[], ◌∷◌, ◌∙◌}
use Rattle.std.specs.Int.{w64}
use Rattle.std.proofs.lemmas.Int.{to_z-of_z}
use Rattle.sb_value.specs.declared.value.Value.TheVariants.{Int, Text}
use Rattle.sb_method_tests.proofs.Pairing.{MayBePair-from}
use Rattle.sb_method_tests.proofs.rows.pair.Goals as goal

pub returns : goal.returns
returns g c =
    let items = rw c.expect-values.ensures at c.vec.ensures.items in
    MayBePair-from c.from_vec.result (record {
      number = c.args.number;
      word = c.args.word.now;
      is = c.from_vec.ensures ∙ items ∙ (λ i. Int (to_z-of_z w64 c.args.number c.ranges.number i) ∷ Text (c.text.ensures i) ∷ []);
      fits = c.ranges.number;
      utf8 = c.utf8.word;
      short = c.requires;
    })
