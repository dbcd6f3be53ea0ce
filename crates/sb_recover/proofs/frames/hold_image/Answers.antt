use Rattle.std.proofs.Common.{◌<◌, length, sym, ◌∙◌, arith}
use Rattle.sb_recover.specs.Frames.{texts}
use Rattle.sb_recover.proofs.FrameLemmas.{length-texts, frame_at-empty, frame_at-some, HoldsFirst-put, HoldsFirst-passed}
use Rattle.sb_recover.proofs.frames.hold_image.Goals.{else-page-len-via-then-page-len+else-is_empty, else-page-len-via-else-page-len}
use Rattle.sb_recover.proofs.frames.hold_image.Goals as goal

pub returns-in_ok-frames : goal.returns-in_ok-frames
returns-in_ok-frames c =
    let below = c.if-page-len.true in let len = c.len.ensures in
    let within : c.args.page < length c.args.frames.now.items = omega (arith, below, len) in
    HoldsFirst-put c.args.frames.now.items c.args.page c.in_ok-frames.field-0 c.args.bytes.now within
    (frame_at-empty c.args.frames.now.items c.args.page c.index.result.now within c.index.ensures c.is_empty.result c.is_empty.ensures c.if-is_empty.true)
    c.in_ok-frames.ensures.items

pub returns-else-page-len : goal.returns-else-page-len
returns-else-page-len c = elim c.else-page-len.branch [
  | else-page-len-via-then-page-len+else-is_empty w ↦ HoldsFirst-passed (texts c.args.frames.now.items) c.args.page c.args.bytes.now (λ lt none.
      let l = length-texts c.args.frames.now.items in
      let some = frame_at-some c.args.frames.now.items c.args.page w.index.result.now (omega (arith, lt, l)) w.index.ensures w.is_empty.result w.is_empty.ensures w.if-is_empty.false in
      some.1 (sym some.0 ∙ none))
  | else-page-len-via-else-page-len w ↦ HoldsFirst-passed (texts c.args.frames.now.items) c.args.page c.args.bytes.now (λ lt none.
      let past = w.if-page-len.false in let len = c.len.ensures in let l = length-texts c.args.frames.now.items in
      absurd (omega (arith, past, len, lt, l)))
]
