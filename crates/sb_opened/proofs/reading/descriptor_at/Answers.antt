use Rattle.std.proofs.Common.{◌≡◌, Some, map, sym, ap, ◌∙◌}
use Rattle.std.specs.FinMap.Entries.{find}
use Rattle.sb_node.specs.Entries.{key_cmp}
use Rattle.sb_drive.proofs.SpacesLemmas.{IfErr-passed}
use Rattle.sb_standing.specs.Tables.{entry_of}
use Rattle.sb_opened.proofs.Entries.{at-found, at-none, at-sound}
use Rattle.sb_opened.proofs.Faults.{catalogue-at}
use Rattle.sb_opened.proofs.reading.descriptor_at.Goals as goal

pub returns-in_default-clause-found : goal.returns-in_default-clause-found
returns-in_default-clause-found g c = λ m want s kept has tables.
    let value = c.in_ok-bytes.ensures.value want s has (map entry_of kept) (catalogue-at c.args.place s kept c.requires.owner tables.catalogue) in
    at-none kept c.args.name.now (sym c.in_default.is ∙ (value ∙ ap (λ key. find key_cmp key (map entry_of kept)) c.as_bytes.ensures))

pub returns-in_err-descriptor-clause-undamaged : goal.returns-in_err-descriptor-clause-undamaged
returns-in_err-descriptor-clause-undamaged g c =
    IfErr-passed c.from_residual-in_err-descriptor.result c.in_err-descriptor.field-0.0 _ c.from_residual-in_err-descriptor.ensures.1
    (λ m want s kept has tables.
    let value = c.in_ok-bytes.ensures.value want s has (map entry_of kept) (catalogue-at c.args.place s kept c.requires.owner tables.catalogue) in
    at-sound m c.args.place.root s kept c.args.name.now c.in-Some.bytes c.in_err-descriptor.field-0.0 tables
    (sym c.in-Some.is ∙ (value ∙ ap (λ key. find key_cmp key (map entry_of kept)) c.as_bytes.ensures)) c.in_err-descriptor.ensures.undamaged)

pub returns-clause-found : goal.returns-clause-found
returns-clause-found g c = λ m want s kept has tables.
    let value = c.in_ok-bytes.ensures.value want s has (map entry_of kept) (catalogue-at c.args.place s kept c.requires.owner tables.catalogue) in
    at-found m c.args.place.root s kept c.args.name.now c.in-Some.bytes c.in_ok-descriptor.descriptor tables
    (sym c.in-Some.is ∙ (value ∙ ap (λ key. find key_cmp key (map entry_of kept)) c.as_bytes.ensures)) c.in_ok-descriptor.ensures.storable c.in_ok-descriptor.ensures.read
