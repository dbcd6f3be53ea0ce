use Rattle.std.proofs.Common.{◌≡◌, ◌∙◌, List, ap, insert, nat_lt}
use Rattle.std.specs.List.{position_or_len}
use Rattle.sb_catalog.specs.declared.descriptor.Attached.{Attached}
use Rattle.sb_standing.specs.Standing.{with_described}
use Rattle.sb_building.proofs.PlaceLemmas.{insert-described}
use Rattle.sb_building.proofs.placing.with_attached.Goals as goal

pub returns : goal.returns
returns c =
    let new = c.args.attached in
    let list = c.args.descriptor.attachments in
    let at : c.place_for-at.result ≡ position_or_len (λ (d : Attached). nat_lt new.code d.code) list =
    c.place_for-at.ensures.place ∙ ap (position_or_len (λ (d : Attached). nat_lt new.code d.code)) (c.deref.ensures.value ∙ c.into_vec-list.ensures) in
    let is : c.from_vec.result ≡ with_described new list =
    c.from_vec.ensures ∙ c.in_ok-insert.ensures.items ∙ (λ i. insert (c.into_vec-list.ensures i) (at i) new) ∙ insert-described new list in
    ap (λ (l : List Attached). record c.args.descriptor { attachments = l }) is
