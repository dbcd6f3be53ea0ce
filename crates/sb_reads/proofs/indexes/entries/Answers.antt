use Rattle.std.proofs.Common.{◌∙◌, true≢false, is_some, Option, Bor, option_copied, sym, ap}
use Rattle.sb_drive.proofs.SpacesLemmas.{IfErr-passed}
use Rattle.sb_ctx.specs.declared.instance.Instance.{Instance}
use Rattle.sb_registry.specs.Live.{IsLiveRule}
use Rattle.sb_plain.specs.declared.reply.Reply.TheVariants.{Entries as Listed}
use Rattle.sb_reads.proofs.StoresLemmas.{All-beside, IsRule-named, image-is, unnamed}
use Rattle.sb_reads.proofs.indexes.entries.Goals as goal

pub returns-in_default-clause-undamaged : goal.returns-in_default-clause-undamaged
returns-in_default-clause-undamaged g c = λ want s kept r has keeps there.
    let none = unnamed _ c.args.place.root s kept r c.args.opened.now c.args.name.now keeps c.requires.open (sym c.instance_named.ensures ∙ ap (λ (x : Option (Bor Instance)). option_copied x) c.in_default.is) in
    true≢false (sym there ∙ ap is_some none)

pub image_of-requires-clause-live : goal.image_of-requires-clause-live
image_of-requires-clause-live g c =
    let o = c.args.opened.now in
    All-beside (IsLiveRule (g.B.Boxes.meanings c.args.boxes.now)) o.descriptor.attachments o.rules.items c.args.name.now c.in-Some.inst.now c.requires.open.live_rules (sym c.instance_named.ensures ∙ ap (λ (x : Option (Bor Instance)). option_copied x) c.in-Some.is)

pub returns-in_err-image-clause-undamaged : goal.returns-in_err-image-clause-undamaged
returns-in_err-image-clause-undamaged g c =
    IfErr-passed c.from_residual.result c.in_err-image.field-0.0 _ c.from_residual.ensures.1 (λ want s kept r has keeps there.
    let rule = IsRule-named _ c.args.place.root s kept r c.args.opened.now c.args.name.now c.in-Some.inst.now keeps c.requires.open (sym c.instance_named.ensures ∙ ap (λ (x : Option (Bor Instance)). option_copied x) c.in-Some.is) in
    c.in_err-image.ensures.undamaged want s kept rule.content has rule.has)

pub returns-clause-reply : goal.returns-clause-reply
returns-clause-reply g c = λ want s kept r has keeps ext boxes there.
    let rule = IsRule-named _ c.args.place.root s kept r c.args.opened.now c.args.name.now c.in-Some.inst.now keeps c.requires.open (sym c.instance_named.ensures ∙ ap (λ (x : Option (Bor Instance)). option_copied x) c.in-Some.is) in
    ap Listed (image-is _ c.args.place.root s kept r c.args.opened.now c.args.name.now c.in-Some.inst.now ext c.in_ok-image.image rule boxes (c.in_ok-image.ensures.entries want s kept rule.content has rule.has)
    (c.in_ok-image.ensures.sums want s kept rule.content has rule.has))
