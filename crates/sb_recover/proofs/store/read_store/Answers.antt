use Rattle.std.proofs.Common.{rules, ◌≡◌, ◌∙◌, ◌≤◌, sym, length, arith}
use Rattle.sb_recover.proofs.GeometryLemmas.{HoldsNone-told, IsStoreIn-found}
use Rattle.sb_recover.proofs.store.read_store.Goals as goal

pub returns-in-Some-clause-ok : goal.returns-in-Some-clause-ok
returns-in-Some-clause-ok g c =
    let long : length c.read_at.new.buffer ≡ 4096 = search rules in
    let size = c.len-have.ensures in let more = c.if-have.false in
    let room : 4096 ≤ g.D.Disk.len c.args.disk.now = omega (arith, size, more) in
    IsStoreIn-found (g.D.Disk.len c.args.disk.now) (g.D.Disk.clock c.args.disk.now) c.read_at.new.buffer long room c.found_in.result
    (λ image super size. c.found_in.ensures image super (size ∙ sym c.len-have.ensures)) (g.D.Disk.told c.args.disk.now) c.in-Some.g (g.met.D.Disk.fits c.args.disk.now) c.in_ok-read_at.ensures.ok c.in-Some.is

pub returns-in-None-clause-refused : goal.returns-in-None-clause-refused
returns-in-None-clause-refused g c =
    let long : length c.read_at.new.buffer ≡ 4096 = search rules in
    let size = c.len-have.ensures in let more = c.if-have.false in
    let room : 4096 ≤ g.D.Disk.len c.args.disk.now = omega (arith, size, more) in
    HoldsNone-told (g.D.Disk.len c.args.disk.now) (g.D.Disk.clock c.args.disk.now) c.read_at.new.buffer long room c.found_in.result
    (λ image super size. c.found_in.ensures image super (size ∙ sym c.len-have.ensures)) (g.D.Disk.told c.args.disk.now) (g.met.D.Disk.fits c.args.disk.now) c.in_ok-read_at.ensures.ok c.in-None.is
