use Rattle.std.proofs.Common.{◌≡◌, ℕ, List, [], ◌∷◌, ◌++◌, All, sym, ap, subst, ◌∙◌}
use Rattle.std.specs.List.{flat_map}
use Rattle.sb_catalog.specs.declared.descriptor.Attached.{Attached}
use Rattle.sb_catalog.specs.Descriptors.{IsStorableAttached}
use Rattle.sb_showing.specs.Lines.{attachment_lines}
use Rattle.sb_showing.proofs.LinesLemmas.{descriptor_lines-made}
use Rattle.sb_showing.proofs.lines.lines_of.Goals as goal

pub add_attachments-requires : goal.add_attachments-requires
add_attachments-requires c = record { storable = subst (λ (ds : List Attached). All IsStorableAttached ds) (sym c.as_slice.ensures) c.requires.storable.attachments.1 }

pub returns : goal.returns
returns c =
    let made : c.from_vec.result ≡ c.push.new.self.items ++ flat_map (attachment_lines c.args.relation.now) c.as_slice.result.now = c.from_vec.ensures ∙ c.in_ok-add_attachments.ensures in
    descriptor_lines-made c.args.relation.now c.args.descriptor.now c.in_ok-first.first c.from_vec.result c.in_ok-first.ensures
    (made ∙ ap (λ (ds : List Attached). c.push.new.self.items ++ flat_map (attachment_lines c.args.relation.now) ds) c.as_slice.ensures ∙ ap (λ (ls : List (List ℕ)). ls ++ flat_map (attachment_lines c.args.relation.now) c.args.descriptor.now.attachments) (c.in_ok-push.ensures.items ∙ ap (λ (ls : List (List ℕ)). ls ++ c.in_ok-first.first ∷ []) c.new-lines.ensures.items))
