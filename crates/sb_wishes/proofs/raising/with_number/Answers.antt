use Rattle.std.proofs.Common.{◌≡◌, Some, None, arith, set}
use Rattle.std.specs.declared.alloc.AllocError.{AllocError}
use Rattle.std.proofs.lemmas.Int.{to_z-of_z}
use Rattle.std.proofs.lemmas.Result.{IfOk-weaker}
use Rattle.sb_value.specs.declared.value.Value.TheVariants.{Int}
use Rattle.sb_relation.specs.Db.{Row}
use Rattle.sb_fold.specs.Wishes.{with_value}
use Rattle.sb_wishes.proofs.RaisedLemmas.{with_value-at}
use Rattle.sb_wishes.proofs.raising.with_number.Goals as goal

pub returns-in-Some : goal.returns-in-Some
returns-in-Some c =
    IfOk-weaker {X = Row} {Y = AllocError} c.set_number.result (λ new. new ≡ set c.args.row.now c.in-Some.place (Int c.args.number)) (λ new. new ≡ with_value c.args.schema.now c.args.column.now (Int c.args.number) c.args.row.now)
    (λ new is. with_value-at c.args.schema.now c.args.column.now (Int c.args.number) c.args.row.now new (Some c.in-Some.place) c.in-Some.ensures is) (grind (arith, to_z-of_z, c.set_number.ensures))

pub returns-in-None : goal.returns-in-None
returns-in-None c =
    IfOk-weaker {X = Row} {Y = AllocError} c.copy.result (λ new. new ≡ c.args.row.now) (λ new. new ≡ with_value c.args.schema.now c.args.column.now (Int c.args.number) c.args.row.now)
    (λ new is. with_value-at c.args.schema.now c.args.column.now (Int c.args.number) c.args.row.now new None c.in-None.ensures is) c.copy.ensures
