use Rattle.std.proofs.Common.{◌-◌, ◌^◌, min, length, ap, ◌∙◌, arith}
use Rattle.sb_rule.specs.Spelling.{names_spelling}
use Rattle.sb_catalog.specs.Descriptors.{columns_spelling, attachments_spelling}
use Rattle.sb_catalog.proofs.Counts.{length-descriptor, short_descriptor}
use Rattle.sb_catalog.proofs.lengths.descriptor_len.Goals as goal

pub returns-clause-len : goal.returns-clause-len
returns-clause-len c =
    omega (
      arith,
      c.saturating_add.ensures,
      c.saturating_add-2.ensures,
      c.saturating_add-3.ensures,
      length-descriptor c.args.descriptor.now,
      c.columns_len.ensures ∙ ap (λ l. min (length (columns_spelling l)) (2 ^ 64 - 1)) c.as_slice.ensures,
      c.names_len.ensures ∙ ap (λ l. min (length (names_spelling l)) (2 ^ 64 - 1)) c.as_slice-2.ensures,
      c.attachments_len.ensures ∙ ap (λ l. min (length (attachments_spelling l)) (2 ^ 64 - 1)) c.as_slice-3.ensures,
    )

pub returns-clause-exact : goal.returns-clause-exact
returns-clause-exact c short =
    omega (
      arith,
      c.saturating_add.ensures,
      c.saturating_add-2.ensures,
      c.saturating_add-3.ensures,
      length-descriptor c.args.descriptor.now,
      short_descriptor c.args.descriptor.now short,
      c.columns_len.ensures ∙ ap (λ l. min (length (columns_spelling l)) (2 ^ 64 - 1)) c.as_slice.ensures,
      c.names_len.ensures ∙ ap (λ l. min (length (names_spelling l)) (2 ^ 64 - 1)) c.as_slice-2.ensures,
      c.attachments_len.ensures ∙ ap (λ l. min (length (attachments_spelling l)) (2 ^ 64 - 1)) c.as_slice-3.ensures,
    )
