-- What the attachments have in common.
use Rattle.std.specs.Prelude.{Bool, true, false, cond, Option, Some, None}
use Rattle.sb_relation.specs.Content.{Content}
use Rattle.sb_relation.specs.Fits.{is_empty}
use Rattle.sb_forms.specs.Pages.{Pages}
use Rattle.sb_ctx.specs.declared.instance.Instance.{Instance}
use Rattle.sb_ctx.specs.declared.moves.Move.{Move}
use Rattle.sb_ctx.specs.declared.moves.Move.TheVariants.{Done, Veto}

-- the end of a call that admits a row or doesn't
abbrev pub verdict_of : Bool → Move
verdict_of true = Done
verdict_of false = Veto

-- the same content always, of an instance whose root has bytes
abbrev pub always : Content → Instance → Pages → Option Content
always content inst P = cond (is_empty (P inst.root)) None (Some content)
