use Rattle.std.proofs.Common.{All, sym, subst}
use Rattle.sb_catalog.specs.Descriptors.{IsStorableAttached}
use Rattle.sb_drive.proofs.SpacesLemmas.{IfErr-passed}
use Rattle.sb_standing.specs.Standing.{EachRule, StandsRule}
use Rattle.sb_standing.specs.Tables.{db_of}
use Rattle.sb_opened.specs.Opened.{rule_of}
use Rattle.sb_opened.proofs.opening.open.Goals as goal

pub returns-in_err-check_rules-clause-undamaged : goal.returns-in_err-check_rules-clause-undamaged
returns-in_err-check_rules-clause-undamaged g c =
    IfErr-passed c.from_residual-in_err-check_rules.result c.in_err-check_rules.field-0.0 _ c.from_residual-in_err-check_rules.ensures.1
    (λ want s kept has tables may.
    c.in_err-check_rules.ensures.undamaged want s kept has tables may.attachments
    (subst (λ ds. EachRule (λ d a. StandsRule (g.B.Boxes.meanings c.args.boxes.now) (rule_of c.args.name c.args.descriptor d) a (db_of kept)) ds may.attachments) (sym c.as_slice-attachments.ensures) may.rules))

pub rule_instances-requires : goal.rule_instances-requires
rule_instances-requires g c = subst (λ ds. All IsStorableAttached ds) (sym c.as_slice-attachments.ensures) c.requires.storable.attachments.1
