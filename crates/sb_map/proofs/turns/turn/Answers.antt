use Rattle.sb_ctx.specs.View.{dropped}
use Rattle.sb_drive.specs.declared.turns.Ask.TheVariants.{Page, Fresh}
use Rattle.sb_drive.specs.Slots.{Slots}
use Rattle.sb_drive.specs.Spaces.{IsFull, Wanted}
use Rattle.sb_drive.proofs.SpacesLemmas.{IfErr-passed}
use Rattle.sb_map.proofs.Turning.{IsAnswered-gift, IsFull-page, asked_page}
use Rattle.sb_map.proofs.turns.turn.Goals as goal

pub returns-in_err-answer-in-Need-clause-full : goal.returns-in_err-answer-in-Need-clause-full
returns-in_err-answer-in-Need-clause-full g c =
    let space = c.args.space.now in
    let fault = c.in_err-answer-in-Need.field-0.0 in
    let durable = g.S.PageSpace.durable space in
    let total = g.S.PageSpace.total space in
    IfErr-passed c.from_residual.result fault (λ e. (want : Wanted) (s : Slots) → g.S.PageSpace.has want s space → IsFull durable total s (dropped c.args.ctx.now) Fresh e) c.from_residual.ensures.1
    (λ want s has. IsFull-page durable total s (dropped c.args.ctx.now) c.in-Need.n fault (c.in_err-answer-in-Need.ensures.full want s has))

pub returns-in_ok-answer-in-Need-clause-turned : goal.returns-in_ok-answer-in-Need-clause-turned
returns-in_ok-answer-in-Need-clause-turned g c =
    let answer = c.in_ok-answer-in-Need.ensures in
    IsAnswered-gift g.S.PageSpace.has (g.S.PageSpace.total c.args.space.now) c.args.owner c.args.space.now c.args.ctx.now c.answer.new.ctx (Page c.in-Need.n) answer.gift.0
    (asked_page c.args.ctx.now c.args.walk c.in-Need.n c.in-Need.is c.requires.asks) answer.gift answer.given

pub returns-in_ok-answer-in-Fresh-clause-turned : goal.returns-in_ok-answer-in-Fresh-clause-turned
returns-in_ok-answer-in-Fresh-clause-turned g c =
    let answer = c.in_ok-answer-in-Fresh.ensures in
    IsAnswered-gift g.S.PageSpace.has (g.S.PageSpace.total c.args.space.now) c.args.owner c.args.space.now c.args.ctx.now c.answer-in-Fresh.new.ctx Fresh tt tt answer.gift answer.given
