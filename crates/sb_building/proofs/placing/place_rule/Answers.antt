use Rattle.std.proofs.Common.{◌≡◌, ◌<◌, Some, map, length, true≢false, sym, subst, ◌∙◌}
use Rattle.std.specs.FinMap.Entries.{put}
use Rattle.std.proofs.lemmas.Result.{IfErr-weaker}
use Rattle.sb_node.specs.Entries.{key_cmp}
use Rattle.sb_forms.specs.Maps.{map_in}
use Rattle.sb_drive.specs.Spaces.{Leaves}
use Rattle.sb_drive.proofs.SpacesLemmas.{LeadsWithin-none}
use Rattle.sb_tables.specs.Changes.{IsSmall}
use Rattle.sb_catalog.specs.declared.descriptor.Descriptor.{Descriptor}
use Rattle.sb_catalog.specs.Descriptors.{descriptor_spelling, IsShortDescriptor}
use Rattle.sb_catalog.proofs.Storable.{IsShortDescriptor_from_storable}
use Rattle.sb_standing.specs.Standing.{with_described}
use Rattle.sb_standing.specs.Tables.{entry_of}
use Rattle.sb_building.proofs.CallLemmas.{OnOk-so, OnOk-then}
use Rattle.sb_building.proofs.PlaceLemmas.{IsSmall-roomy, storable-with}
use Rattle.sb_building.proofs.placing.place_rule.Goals as goal

pub enter-entered-requires-clause-short : goal.enter-entered-requires-clause-short
enter-entered-requires-clause-short g c =
    let d = c.args.descriptor in
    let few : length d.attachments < 16 = (c.has_room.ensures.0 c.if-not-has_room.false).0 in
    subst IsShortDescriptor (sym c.in_ok-new.ensures)
    (IsShortDescriptor_from_storable (record d { attachments = with_described c.args.attached d.attachments }) (storable-with d c.args.attached few c.requires.storable c.requires.attached))

pub returns-clause-placed : goal.returns-clause-placed
returns-clause-placed g c =
    OnOk-then c.enter-entered.result _ _ (λ entered x has tree.
    subst (λ (d : Descriptor). Leaves g.S.PageSpace.has 2 x.want x.slots c.enter-entered.new.space (λ after. map_in c.args.place.root after ≡ Some (put key_cmp c.args.name.now (descriptor_spelling d) (map entry_of x.kept)))) c.in_ok-new.ensures
    (entered x.want x.slots (map entry_of x.kept) has tree)) c.enter-entered.ensures.entered

pub returns-clause-storable : goal.returns-clause-storable
returns-clause-storable g c =
    let d = c.args.descriptor in
    let few : length d.attachments < 16 = (c.has_room.ensures.0 c.if-not-has_room.false).0 in
    OnOk-so c.enter-entered.result _ (storable-with d c.args.attached few c.requires.storable c.requires.attached)

pub returns-clause-refused : goal.returns-clause-refused
returns-clause-refused g c =
    IfErr-weaker c.enter-entered.result _ _ (λ e refused x has tree roomy.
    refused x.want x.slots (map entry_of x.kept) has tree
    (subst (λ (d : Descriptor). IsSmall c.args.name.now (descriptor_spelling d)) (sym c.in_ok-new.ensures) (IsSmall-roomy c.args.name.now c.args.descriptor c.args.attached roomy))) c.enter-entered.ensures.refused

pub returns-clause-full : goal.returns-clause-full
returns-clause-full g c = IfErr-weaker c.enter-entered.result _ _ (λ e full x has tree. full x.want x.slots (map entry_of x.kept) has tree) c.enter-entered.ensures.full

pub returns-then-not-has_room-clause-refused : goal.returns-then-not-has_room-clause-refused
returns-then-not-has_room-clause-refused g c = λ x has tree roomy. absurd (true≢false (sym (c.has_room.ensures.1 (roomy.few, roomy.short)) ∙ c.if-not-has_room.true))

-- ---- what it costs
pub returns-then-not-has_room-clause-costs : goal.returns-then-not-has_room-clause-costs
returns-then-not-has_room-clause-costs g c = λ x has tree. LeadsWithin-none g.S.PageSpace.leads _ c.args.space.now c.args.space.now (g.met.S.PageSpace.stays c.args.space.now)

pub returns-in_err-new-clause-costs : goal.returns-in_err-new-clause-costs
returns-in_err-new-clause-costs g c = λ x has tree. LeadsWithin-none g.S.PageSpace.leads _ c.args.space.now c.args.space.now (g.met.S.PageSpace.stays c.args.space.now)

pub returns-clause-costs : goal.returns-clause-costs
returns-clause-costs g c = λ x has tree. c.enter-entered.ensures.costs x.want x.slots (map entry_of x.kept) has tree
