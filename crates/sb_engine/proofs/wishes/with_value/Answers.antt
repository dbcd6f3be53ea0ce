use Rattle.std.proofs.Common.{◌≡◌, Some, None, set}
use Rattle.std.specs.declared.alloc.AllocError.{AllocError}
use Rattle.std.proofs.lemmas.Result.{IfOk-weaker}
use Rattle.sb_relation.specs.Db.{Row}
use Rattle.sb_fold.specs.Wishes.{with_value}
use Rattle.sb_engine.proofs.ValueLemmas.{with_value-at}
use Rattle.sb_engine.proofs.wishes.with_value.Goals as goal

pub returns-in-Some : goal.returns-in-Some
returns-in-Some c =
    IfOk-weaker {X = Row} {Y = AllocError} c.set_value.result (λ new. new ≡ set c.args.row.now c.in-Some.place c.args.value.now) (λ new. new ≡ with_value c.args.schema.now c.args.column.now c.args.value.now c.args.row.now)
    (λ new is. with_value-at c.args.schema.now c.args.column.now c.args.value.now c.args.row.now new (Some c.in-Some.place) c.in-Some.ensures is) c.set_value.ensures

pub returns-in-None : goal.returns-in-None
returns-in-None c =
    IfOk-weaker {X = Row} {Y = AllocError} c.copy.result (λ new. new ≡ c.args.row.now) (λ new. new ≡ with_value c.args.schema.now c.args.column.now c.args.value.now c.args.row.now)
    (λ new is. with_value-at c.args.schema.now c.args.column.now c.args.value.now c.args.row.now new None c.in-None.ensures is) c.copy.ensures
