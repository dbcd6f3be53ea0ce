use Rattle.std.proofs.Common.{◌≡◌, None, Some, sym, ◌∙◌, ap}
use Rattle.sb_codec.specs.Tuples.{IsTuple, tuple_spelling}
use Rattle.sb_value.specs.Fits.{first_misfit}
use Rattle.sb_relation.specs.Db.{Row}
use Rattle.sb_pred.specs.Truth.{truth}
use Rattle.sb_rules.proofs.Calls.{Looks-passed, Looks-asked}
use Rattle.sb_rules.proofs.Entries.{not_none_is, one_row, at_some, misfit_not_none, fits_so}
use Rattle.sb_rules.proofs.check.CheckAttachment.late_check.Goals as goal
use Rattle.sb_rules.proofs.check.CheckAttachment.late_check.Goals.{then-is_err-via-then-is_err, then-is_err-via-else-is_err+then-eval}

pub returns-in_default-spelled : goal.returns-in_default-spelled
returns-in_default-spelled c =
    Looks-passed c.args.inst.now c.args.entry.now c.args.ctx.now c.in-Ok.kept.pred c.in-Ok.kept.deferred c.in-Ok.ensures
    (λ row is spelled. absurd (not_none_is c.in-Ok-decode_tuple.spelled row c.in_default-spelled.is (c.in-Ok-decode_tuple.ensures.only row is.tuple (c.as_slice.ensures ∙ spelled))))

pub returns-then-is_err : goal.returns-then-is_err
returns-then-is_err c =
    Looks-passed c.args.inst.now c.args.entry.now c.args.ctx.now c.in-Ok.kept.pred c.in-Ok.kept.deferred c.in-Ok.ensures
    (λ row is spelled.
    let same : row ≡ c.in-Some.row = one_row c.in-Ok-decode_tuple.spelled row c.in-Some.row (c.in-Ok-decode_tuple.ensures.only row is.tuple (c.as_slice.ensures ∙ spelled)) c.in-Some.is in
    elim c.then-is_err.branch [
      | then-is_err-via-then-is_err w ↦ absurd (misfit_not_none (first_misfit c.args.inst.now.schema c.in-Some.row) c.fits.result c.fits.ensures (sym c.is_err.ensures.value ∙ w.if-is_err.true)
          (ap (first_misfit c.args.inst.now.schema) (sym same) ∙ is.fits))
      | then-is_err-via-else-is_err+then-eval w ↦ ap (λ (r : Row). truth c.args.inst.now.schema None (Some r) c.in-Ok.kept.pred) same ∙ sym w.eval.ensures ∙ w.if-eval.true
    ])

pub returns : goal.returns
returns c =
    let P : Row → Type 0 = λ t. IsTuple t × (c.as_slice.result.now ≡ tuple_spelling t) in
    let read = at_some c.in-Ok-decode_tuple.spelled P c.in-Some.row c.in-Some.is c.in-Ok-decode_tuple.ensures.found in
    Looks-asked c.args.inst.now c.args.entry.now c.args.ctx.now c.in-Ok.kept.pred c.in-Ok.kept.deferred c.in-Some.row c.none_stands.result
    c.in-Ok.ensures (record {
      tuple = read.0;
      spelled = sym c.as_slice.ensures ∙ read.1;
      fits = fits_so (first_misfit c.args.inst.now.schema c.in-Some.row) c.fits.result c.fits.ensures (sym c.is_err.ensures.value ∙ c.if-is_err.false);
      fails = sym c.eval.ensures ∙ c.if-eval.false;
    }) c.none_stands.ensures.answers c.none_stands.ensures.asks
