use Rattle.std.proofs.Common.{[], ◌∷◌, ◌∙◌}
use Rattle.std.specs.Int.{w64}
use Rattle.std.proofs.lemmas.Int.{to_z-of_z}
use Rattle.sb_value.specs.declared.value.Value.TheVariants.{Int, Text}
use Rattle.sb_treemethod.proofs.ExampleLaws.{MayBeHeld-short}
use Rattle.sb_catalog_tests.proofs.trees.row.Goals as goal

pub returns : goal.returns
returns c =
    MayBeHeld-short c.from_vec.result (record {
      number = c.args.number;
      text = c.args.words.now;
      is = c.from_vec.ensures ∙ c.in_ok-vec.ensures.items ∙ (λ i. Int (to_z-of_z w64 c.args.number c.ranges.number i) ∷ Text (c.in_ok-text.ensures i) ∷ []);
      fits = c.ranges.number;
      utf8 = c.utf8.words;
      short = c.requires;
    })
