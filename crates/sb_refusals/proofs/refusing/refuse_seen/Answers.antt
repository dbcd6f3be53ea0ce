use Rattle.std.proofs.Common.{◌∙◌, ap}
use Rattle.sb_fold.specs.Extensions.{Extensions}
use Rattle.sb_plain.specs.Refusing.{first_of}
use Rattle.sb_refusals.specs.Refusing.{kind_tests}
use Rattle.sb_refusals.proofs.InOrder.{by_names, by_codes, by_kinds}
use Rattle.sb_refusals.proofs.refusing.refuse_seen.Goals as goal

pub returns-in-Some-clause-refused : goal.returns-in-Some-clause-refused
returns-in-Some-clause-refused g c s sees seen =
    (by_names (g.C.Catalogue.extensions c.args.catalogue.now) s c.args.command.now c.in_ok-refusal.field-0 c.in-Some.refusal (c.in_ok-refusal.ensures.refused s sees seen) c.in-Some.is, sees)

pub returns-in-Some-2-clause-refused : goal.returns-in-Some-2-clause-refused
returns-in-Some-2-clause-refused g c s sees seen =
    let codes = c.in_ok-refusal-2.ensures.refused s sees in (
      by_codes (g.C.Catalogue.extensions c.args.catalogue.now) s c.args.command.now c.in_ok-refusal.field-0 c.in_ok-refusal-2.field-0 c.in-Some-2.refusal
          (c.in_ok-refusal.ensures.refused s sees seen) c.in_default.is codes.0 c.in-Some-2.is,
      codes.1,
    )

pub returns-clause-refused : goal.returns-clause-refused
returns-clause-refused g c s sees seen =
    let codes = c.in_ok-refusal-2.ensures.refused s sees in
    let same = g.met.C.Catalogue.same c.args.catalogue.now c.refuse_codes.new.catalogue c.refuse_codes.ensures.leads in (
      by_kinds (g.C.Catalogue.extensions c.args.catalogue.now) s c.args.command.now c.in_ok-refusal.field-0 c.in_ok-refusal-2.field-0 c.refuse_kinds.result
          (c.in_ok-refusal.ensures.refused s sees seen) c.in_default.is codes.0 c.in_default-2.is
          (c.refuse_kinds.ensures.refused s codes.1 seen ∙ ap (λ (ext : Extensions). first_of (kind_tests ext s c.args.command.now)) same),
      codes.1,
    )
