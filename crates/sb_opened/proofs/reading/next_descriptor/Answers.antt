use Rattle.std.proofs.Common.{◌≡◌, List, ℕ, Option, Some, map, option_copied, option_map, sym, ap, ◌∙◌}
use Rattle.std.specs.List.{find as first}
use Rattle.sb_map.specs.Ways.{is_behind}
use Rattle.sb_drive.proofs.SpacesLemmas.{IfErr-passed}
use Rattle.sb_standing.specs.Tables.{entry_of}
use Rattle.sb_opened.proofs.Entries.{first-found, first-none, first-sound}
use Rattle.sb_opened.proofs.Faults.{catalogue-at}
use Rattle.sb_opened.proofs.reading.next_descriptor.Goals as goal

pub returns-in_default-clause-found : goal.returns-in_default-clause-found
returns-in_default-clause-found g c = λ m want s kept has tables.
    let entry = c.in_ok-key.ensures.entry want s has (map entry_of kept) (catalogue-at c.args.place s kept c.requires.owner tables.catalogue) in
    first-none kept (option_copied c.args.after) (sym c.in_default.is ∙ (entry ∙ ap (λ low. first (is_behind low) (map entry_of kept)) c.bytes_of.ensures))

pub returns-in_err-entry-clause-undamaged : goal.returns-in_err-entry-clause-undamaged
returns-in_err-entry-clause-undamaged g c =
    IfErr-passed c.from_residual-in_err-entry.result c.in_err-entry.field-0.0 _ c.from_residual-in_err-entry.ensures.1
    (λ m want s kept has tables.
    let entry = c.in_ok-key.ensures.entry want s has (map entry_of kept) (catalogue-at c.args.place s kept c.requires.owner tables.catalogue) in
    first-sound m c.args.place.root s kept (option_copied c.args.after) (c.in-Some.key, c.in-Some.bytes) c.in_err-entry.field-0.0 tables
    (sym c.in-Some.is ∙ (entry ∙ ap (λ low. first (is_behind low) (map entry_of kept)) c.bytes_of.ensures)) c.in_err-entry.ensures.undamaged)

pub returns-clause-found : goal.returns-clause-found
returns-clause-found g c = λ m want s kept has tables.
    let entry = c.in_ok-key.ensures.entry want s has (map entry_of kept) (catalogue-at c.args.place s kept c.requires.owner tables.catalogue) in
    first-found m c.args.place.root s kept (option_copied c.args.after) (c.in-Some.key, c.in-Some.bytes) c.in_ok-entry.entry.0 c.in_ok-entry.entry.1 tables
    (sym c.in-Some.is ∙ (entry ∙ ap (λ low. first (is_behind low) (map entry_of kept)) c.bytes_of.ensures)) c.in_ok-entry.ensures.name c.in_ok-entry.ensures.storable c.in_ok-entry.ensures.read
