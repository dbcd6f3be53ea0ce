use Rattle.sb_pred.proofs.Typed.{sides_have_values}
use Rattle.sb_pred.proofs.truth.well_typed_sides_have_values.Goals as goal

pub returns : goal.returns
returns c = sides_have_values
