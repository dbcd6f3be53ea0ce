use Rattle.std.proofs.Common.{Ok, Err}
use Rattle.sb_space.proofs.Transacting.{Kept-ok, the_one, none_else, none-ended, HasPages-committed, LeavesOnly-commit}
use Rattle.sb_space.proofs.transactions.Space.commit.Goals as goal

pub returns-in-Ok-clause-commits : goal.returns-in-Ok-clause-commits
returns-in-Ok-clause-commits g c =
    let told = g.D.Disk.told in
    let len = g.D.Disk.len in
    let faults = g.D.Disk.faults in
    let d = c.args.disk.now in
    let e = c.commit.new.disk in
    let s = c.args.self.now.store in
    let t = c.commit.new.self in
    let keeps = c.in-Ok.ensures.keeps in
    let only = c.requires.ready.alone in
    let tx = c.args.tx.store.number in
    let found = the_one told len faults tx d e s t keeps only in
    let commits = c.in-Ok.ensures.commits found.0 found.1 in
    HasPages-committed told len faults tx d e s t keeps only c.in-Ok.ensures.alone commits

pub returns-in-Ok-clause-any_moment : goal.returns-in-Ok-clause-any_moment
returns-in-Ok-clause-any_moment g c =
    LeavesOnly-commit g.D.Disk.told g.D.Disk.len g.D.Disk.faults c.args.tx.store.number c.args.disk.now c.commit.new.disk c.args.self.now.store c.commit.new.self (Ok tt) c.in-Ok.ensures.keeps c.requires.ready.alone c.in-Ok.ensures.alone

pub returns-in-Err-clause-any_moment : goal.returns-in-Err-clause-any_moment
returns-in-Err-clause-any_moment g c =
    LeavesOnly-commit {T = Unit {0}} g.D.Disk.told g.D.Disk.len g.D.Disk.faults c.args.tx.store.number c.args.disk.now c.commit.new.disk c.args.self.now.store c.commit.new.self (Err c.in-Err.fault) c.in-Err.ensures.keeps c.requires.ready.alone c.in-Err.ensures.alone

pub returns-in-Ok-clause-none : goal.returns-in-Ok-clause-none
returns-in-Ok-clause-none g c =
    let told = g.D.Disk.told in
    let len = g.D.Disk.len in
    let faults = g.D.Disk.faults in
    let d = c.args.disk.now in
    let e = c.commit.new.disk in
    let s = c.args.self.now.store in
    let t = c.commit.new.self in
    let keeps = c.in-Ok.ensures.keeps in
    let only = c.requires.ready.alone in
    let tx = c.args.tx.store.number in
    let found = the_one told len faults tx d e s t keeps only in
    let commits = c.in-Ok.ensures.commits found.0 found.1 in
    none-ended told len faults tx d e s t keeps only _ (none_else told len faults tx d e s t keeps only) commits.book

pub returns-in-Ok-clause-grows : goal.returns-in-Ok-clause-grows
returns-in-Ok-clause-grows g c =
    let told = g.D.Disk.told in
    let len = g.D.Disk.len in
    let faults = g.D.Disk.faults in
    let d = c.args.disk.now in
    let e = c.commit.new.disk in
    let s = c.args.self.now.store in
    let t = c.commit.new.self in
    let keeps = c.in-Ok.ensures.keeps in
    let only = c.requires.ready.alone in
    let tx = c.args.tx.store.number in
    let found = the_one told len faults tx d e s t keeps only in
    let commits = c.in-Ok.ensures.commits found.0 found.1 in
    commits.grows

pub returns-in-Ok-clause-keeps : goal.returns-in-Ok-clause-keeps
returns-in-Ok-clause-keeps g c =
    Kept-ok g.D.Disk.told g.D.Disk.len g.D.Disk.faults c.args.disk.now c.commit.new.disk c.args.self.now.store c.commit.new.self tt tt c.in-Ok.ensures.keeps
