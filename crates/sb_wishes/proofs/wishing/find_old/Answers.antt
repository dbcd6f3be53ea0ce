use Rattle.std.proofs.Common.{◌≡◌, ◌<◌, Option, length, arith}
use Rattle.std.proofs.lemmas.Result.{IfOk-weaker}
use Rattle.sb_cascade.specs.Wishes.{wish_of}
use Rattle.sb_relation.specs.Db.{Row, Rows, row_at}
use Rattle.sb_drive.specs.declared.space.SpaceFault.{SpaceFault}
use Rattle.sb_drive.specs.Slots.{Slots}
use Rattle.sb_drive.specs.Spaces.{Wanted}
use Rattle.sb_standing.specs.Live.{HasRows}
use Rattle.sb_wishes.specs.Wished.{row_wished}
use Rattle.sb_wishes.proofs.WishedLemmas.{row_wished-at, row_wished-long}
use Rattle.sb_wishes.proofs.wishing.find_old.Goals as goal

pub returns-then-len-gt-MOST_KEY-clause-old : goal.returns-then-len-gt-MOST_KEY-clause-old
returns-then-len-gt-MOST_KEY-clause-old g c = λ want s rows has h.
    let long : 200 < length c.in-Some.key.now = omega (arith, c.len.ensures, c.if-len-gt-MOST_KEY.true) in
    row_wished-long (g.B.Boxes.meanings c.args.boxes.now) s c.args.table.now rows (wish_of c.args.wish.now) c.in-Some.key.now h c.in-Some.ensures long

pub returns-clause-old : goal.returns-clause-old
returns-clause-old g c =
    IfOk-weaker {X = Option Row} {Y = SpaceFault} c.get_row.result
    (λ old. (want : Wanted) (s : Slots) (rows : Rows) → g.S.PageSpace.has want s c.args.space.now → HasRows (g.B.Boxes.meanings c.args.boxes.now) s c.args.table.now rows → old ≡ row_at rows c.in-Some.key.now)
    (λ old. (want : Wanted) (s : Slots) (rows : Rows) → g.S.PageSpace.has want s c.args.space.now → HasRows (g.B.Boxes.meanings c.args.boxes.now) s c.args.table.now rows → old ≡ row_wished rows (wish_of c.args.wish.now))
    (λ old is want s rows has h. row_wished-at rows (wish_of c.args.wish.now) c.in-Some.key.now old c.in-Some.ensures (is want s rows has h))
    c.get_row.ensures.row
