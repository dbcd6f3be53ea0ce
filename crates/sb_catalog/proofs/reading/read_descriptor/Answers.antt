use Rattle.std.proofs.Common.{◌≡◌, Some, length, ap, arith}
use Rattle.std.proofs.lemmas.Bool.Decides.{nat_tests}
use Rattle.sb_catalog.proofs.Parts.{only_one}
use Rattle.sb_catalog.proofs.reading.read_descriptor.Goals as goal

pub returns-then-is_empty-clause-only : goal.returns-then-is_empty-clause-only
returns-then-is_empty-clause-only c d storable spelled =
    let found = rw c.in-Some.is at c.in_ok-descriptor.ensures in
    ap Some (only_one c.args.bytes.now c.in-Some.rest.now c.in-Some.descriptor d found.0 found.1 storable spelled).0

pub returns-else-is_empty-clause-only : goal.returns-else-is_empty-clause-only
returns-else-is_empty-clause-only c d storable spelled =
    let found = rw c.in-Some.is at c.in_ok-descriptor.ensures in
    let same = only_one c.args.bytes.now c.in-Some.rest.now c.in-Some.descriptor d found.0 found.1 storable spelled in
    let empty : length c.in-Some.rest.now ≡ 0 = ap length same.1 in
    absurd (grind (arith, nat_tests))
