use Rattle.std.proofs.Common.{◌≡◌, ℕ, ◌*◌, List, length, Some, sym, ap, subst, ◌∙◌}
use Rattle.std.specs.FinMap.Entries.{put}
use Rattle.sb_node.specs.Entries.{key_cmp}
use Rattle.sb_forms.specs.Maps.{map_in}
use Rattle.sb_drive.specs.Slots.{owned}
use Rattle.sb_drive.specs.Spaces.{Leaves}
use Rattle.sb_drive.proofs.SpacesLemmas.{IfErr-passed, LeadsWithin-none, Leaves-so}
use Rattle.sb_catalog.specs.Descriptors.{descriptor_spelling}
use Rattle.sb_standing.specs.Lacking.{IsShort}
use Rattle.sb_engine.proofs.RefusedLemmas.{refused_cause}
use Rattle.sb_tables.proofs.KeepingLemmas.{if_err, if_err_both, on_ok, own_cause, sound_undamaged}
use Rattle.sb_tables.proofs.LicenceLemmas.{catalogue-short, own_short}
use Rattle.sb_tables.proofs.descriptors.enter.Goals as goal

pub returns-in_err-bytes-clause-refused : goal.returns-in_err-bytes-clause-refused
returns-in_err-bytes-clause-refused g c =
    IfErr-passed c.from_residual.result c.in_err-bytes.field-0.0 _ c.from_residual.ensures.1
    (λ want s es has read small. own_cause g.S.PageSpace.fails c.in_err-bytes.field-0.0 c.args.space.now c.in_err-bytes.ensures.own (c.in_err-bytes.ensures.undamaged small))

pub returns-clause-entered : goal.returns-clause-entered
returns-clause-entered g c =
    let top = c.args.place.root in
    let spelled : c.as_slice.result.now ≡ descriptor_spelling c.args.descriptor.now = c.as_slice.ensures ∙ c.in_ok-bytes.ensures.spelled in
    on_ok c.put.result (λ becomes want s es has read.
    let left = becomes want s es has (subst (λ (o : ℕ). map_in top (owned s o) ≡ Some es) (sym c.requires.owner) read) in
    Leaves-so g.S.PageSpace.has 2 want s c.put.new.space (λ after. map_in top after ≡ Some (put key_cmp c.as_bytes.result.now c.as_slice.result.now es))
    (λ after. map_in top after ≡ Some (put key_cmp c.args.name.now (descriptor_spelling c.args.descriptor.now) es))
    (λ after is. is ∙ ap (λ (key : List ℕ). Some (put key_cmp key c.as_slice.result.now es)) c.as_bytes.ensures ∙ ap (λ (value : List ℕ). Some (put key_cmp c.args.name.now value es)) spelled)
    (subst (λ (o : ℕ). Leaves g.S.PageSpace.has o want s c.put.new.space (λ after. map_in top after ≡ Some (put key_cmp c.as_bytes.result.now c.as_slice.result.now es))) c.requires.owner left))
    c.put.ensures.put

pub returns-clause-refused : goal.returns-clause-refused
returns-clause-refused g c =
    if_err_both _ _ _ c.put.result (λ e refused whole want s es has read small.
    refused_cause g.S.PageSpace.fails _ c.args.space.now c.put.new.space e refused
    (sound_undamaged e (whole want s has es (subst (λ (o : ℕ). map_in c.args.place.root (owned s o) ≡ Some es) (sym c.requires.owner) read))))
    c.put.ensures.works.refused c.put.ensures.whole

pub returns-in_err-bytes-clause-full : goal.returns-in_err-bytes-clause-full
returns-in_err-bytes-clause-full g c =
    IfErr-passed c.from_residual.result c.in_err-bytes.field-0.0 _ c.from_residual.ensures.1
    (λ want s es has read. own_short c.in_err-bytes.field-0.0 (IsShort s 2 (2 * length es)) c.in_err-bytes.ensures.own)

pub returns-clause-full : goal.returns-clause-full
returns-clause-full g c =
    if_err _ _ c.put.result (λ e full want s es has read.
    catalogue-short g.S.PageSpace.leads g.S.PageSpace.durable g.S.PageSpace.total c.args.place c.args.space.now s es c.requires.owner read e (full want s has))
    c.put.ensures.works.full

pub returns-in_err-bytes-clause-costs : goal.returns-in_err-bytes-clause-costs
returns-in_err-bytes-clause-costs g c = λ want s es has read. LeadsWithin-none g.S.PageSpace.leads _ c.args.space.now c.args.space.now (g.met.S.PageSpace.stays c.args.space.now)

pub returns-clause-costs : goal.returns-clause-costs
returns-clause-costs g c = λ want s es has read.
    c.put.ensures.works.costs want s has es (subst (λ (o : ℕ). map_in c.args.place.root (owned s o) ≡ Some es) (sym c.requires.owner) read)
