use Rattle.std.proofs.Common.{ℕ, List, [], ◌∷◌, ◌++◌, append-nil, sym, ap, ◌∙◌}
use Rattle.sb_showing.proofs.LinesLemmas.{attachment_lines-main, attachment_lines-mirror}
use Rattle.sb_showing.proofs.lines.add_attachment.Goals as goal

pub returns-then-is_mirror : goal.returns-then-is_mirror
returns-then-is_mirror c =
    sym (append-nil c.args.lines.now.items) ∙ ap (λ (more : List (List ℕ)). c.args.lines.now.items ++ more) (sym (attachment_lines-mirror c.args.relation.now c.args.attached.now (sym c.is_mirror.ensures ∙ c.if-is_mirror.true)))

pub returns : goal.returns
returns c =
    let main = attachment_lines-main c.args.relation.now c.args.attached.now (sym c.is_mirror.ensures ∙ c.if-is_mirror.false) in
    c.in_ok-push.ensures.items ∙ ap (λ (line : List ℕ). c.args.lines.now.items ++ line ∷ []) c.in_ok-line.ensures ∙ ap (λ (more : List (List ℕ)). c.args.lines.now.items ++ more) (sym main)
