use Rattle.std.proofs.Common.{◌≡◌, List, not, ap, ◌∙◌, bytes_eq, rules}
use Rattle.std.specs.List.{filter}
use Rattle.std.proofs.lemmas.Fn.{filter_same}
use Rattle.sb_catalog.specs.declared.descriptor.Attached.{Attached}
use Rattle.sb_standing.specs.Standing.{without_described}
use Rattle.sb_tables.proofs.descriptors.without_named.Goals as goal

pub returns : goal.returns
returns c =
    let kept : c.retain.new.self.items ≡ filter (λ (d : Attached). not (bytes_eq d.name c.args.label.now)) c.into_vec-left.result.items =
    filter_same _ _ _ (λ x b f' k. search rules) _ _ c.retain.ensures.filtered in
    ap (λ (ds : List Attached). record c.args.descriptor { attachments = ds })
    (c.from_vec.ensures ∙ kept ∙ ap (λ (ds : List Attached). without_described c.args.label.now ds) c.into_vec-left.ensures)
