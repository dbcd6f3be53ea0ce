use Rattle.std.proofs.Common.{ℕ, cond, Bool, List, sym, ap, ◌∙◌, eq-eqb, arith}
use Rattle.sb_bytes.specs.Field.{number_at}
use Rattle.sb_bytes.proofs.FieldLaws.{reads_back, leaves_others}
use Rattle.sb_space.proofs.entries.clear_entry.Goals as goal

pub returns-then-get_u16-owner-clause-here : goal.returns-then-get_u16-owner-clause-here
returns-then-get_u16-owner-clause-here c =
    let was = c.args.table.now in
    let at = c.args.at in
    ap (λ (bytes : List ℕ). number_at 2 bytes at) c.put_u16.ensures ∙ reads_back 2 at 0 was c.requires (omega arith)
    ∙ ap (λ (b : Bool). cond b 0 (number_at 2 was at)) (sym (eq-eqb (number_at 2 was at) c.args.owner (sym c.get_u16.ensures ∙ c.if-get_u16-owner.true)))

pub returns-then-get_u16-owner-clause-others : goal.returns-then-get_u16-owner-clause-others
returns-then-get_u16-owner-clause-others c = λ place apart.
    ap (λ (bytes : List ℕ). number_at 2 bytes place) c.put_u16.ensures ∙ leaves_others 2 c.args.at 0 2 place c.args.table.now c.requires apart
