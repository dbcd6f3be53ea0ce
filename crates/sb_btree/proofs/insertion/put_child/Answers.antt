use Rattle.std.proofs.Common.{◌≡◌, length, ◌∷◌, [], ap, ◌∙◌, arith}
use Rattle.std.proofs.lemmas.Result.{err_from_is_err_and}
use Rattle.sb_bytes.specs.Field.{number_at}
use Rattle.sb_bytes.proofs.FieldLaws.{reads_back}
use Rattle.sb_ctx.specs.View.{page_of}
use Rattle.sb_btree.specs.Broken.{held_node}
use Rattle.sb_btree.proofs.Edits.{child_full, put_child}
use Rattle.sb_btree.proofs.insertion.put_child.Goals as goal

pub returns-in_err-done-clause-put : goal.returns-in_err-done-clause-put
returns-in_err-done-clause-put c =
    let p = err_from_is_err_and c.from_residual.result c.from_residual.ensures.1 in
    let long : length c.put_u32.new.b ≡ 4 = omega arith in
    let spelled = ap (λ b. number_at 4 b 0) c.put_u32.ensures ∙ reads_back 4 0 c.args.child (0 ∷ 0 ∷ 0 ∷ 0 ∷ []) (omega arith) (omega arith) in
    rw (p.1, p.2) (c.put_u32.new.b, long, spelled, c.in_err-done.ensures.put)

pub returns-in-Kept-clause-put : goal.returns-in-Kept-clause-put
returns-in-Kept-clause-put c =
    let long : length c.put_u32.new.b ≡ 4 = omega arith in
    let spelled = ap (λ b. number_at 4 b 0) c.put_u32.ensures ∙ reads_back 4 0 c.args.child (0 ∷ 0 ∷ 0 ∷ 0 ∷ []) (omega arith) (omega arith) in
    (c.put_u32.new.b, long, spelled, child_full c.args.ctx.now c.put_at.new.ctx c.args.level c.args.page (held_node (page_of c.args.ctx.now c.args.page)) c.args.bound.now c.put_u32.new.b c.put_at.result c.put_at.ensures.put)

pub returns-in_default-clause-put : goal.returns-in_default-clause-put
returns-in_default-clause-put c =
    let long : length c.put_u32.new.b ≡ 4 = omega arith in
    let spelled = ap (λ b. number_at 4 b 0) c.put_u32.ensures ∙ reads_back 4 0 c.args.child (0 ∷ 0 ∷ 0 ∷ 0 ∷ []) (omega arith) (omega arith) in
    put_child c.args.ctx.now c.put_at.new.ctx c.args.level c.args.page (held_node (page_of c.args.ctx.now c.args.page)) c.args.bound.now c.args.child c.put_u32.new.b c.in_ok-done.done long spelled c.in_default.not-Kept c.in_ok-done.ensures.put
