use Rattle.std.proofs.Common.{◌∷◌, [], ap, ◌∙◌, arith}
use Rattle.sb_bytes.specs.Field.{number_at}
use Rattle.sb_bytes.proofs.FieldLaws.{reads_back}
use Rattle.sb_btree.proofs.Tops.{top_made}
use Rattle.sb_btree.proofs.insertion.make_top.Goals as goal

pub returns : goal.returns
returns c =
    top_made c.args.page.now c.clear.new.page c.set_head.new.page c.add.new.page c.args.level c.args.first c.args.bound.now c.put_u32.new.b c.args.next c.clear.ensures c.set_head.ensures c.add.ensures (omega arith)
    (ap (λ b. number_at 4 b 0) c.put_u32.ensures ∙ reads_back 4 0 c.args.next (0 ∷ 0 ∷ 0 ∷ 0 ∷ []) (omega arith) (omega arith))
