use Rattle.std.proofs.Common.{◌≡◌, refl}
use Rattle.sb_txn.specs.Parts.{parts}
use Rattle.sb_standing.specs.Standing.{owners_in}
use Rattle.sb_opening.specs.Naming.{named_in}
use Rattle.sb_opening.specs.Owners.{HasNoStray}
use Rattle.sb_opening.proofs.OwnerLemmas.{TellsStray-down}
use Rattle.sb_opening.proofs.SpaceLemmas.{IsLook-begin, IsLook-ended, IsLookErr-begin, IsLookErr-ended, RestsStill-ended, found-ended, stray-ended}
use Rattle.sb_opening.proofs.looking.named_codes.Goals as goal

-- ---- the begin is refused
pub returns-in-Err-clause-stray : goal.returns-in-Err-clause-stray
returns-in-Err-clause-stray g c = λ m want s kept has tables. rw c.fault_of.ensures (TellsStray-down s (owners_in kept) c.in-Err.fault c.in-Err.ensures.err)

pub returns-in-Err-clause-err : goal.returns-in-Err-clause-err
returns-in-Err-clause-err g c =
    rw c.fault_of.ensures
    (IsLookErr-begin g.D.Disk.told g.D.Disk.len g.D.Disk.faults c.args.disk.now c.begin.new.disk c.args.space.now.store c.begin.new.self.store c.in-Err.fault c.in-Err.ensures.err c.in-Err.ensures.keeps c.requires.up)

pub returns-in-Err-clause-look : goal.returns-in-Err-clause-look
returns-in-Err-clause-look g c =
    IsLook-begin g.D.Disk.told g.D.Disk.len g.D.Disk.faults c.args.disk.now c.begin.new.disk c.args.space.now.store c.begin.new.self.store c.in-Err.fault c.in-Err.ensures.err c.in-Err.ensures.keeps c.in-Err.ensures.any_moment

-- ---- it is ended
pub returns-clause-named : goal.returns-clause-named
returns-clause-named g c =
    rw c.found_at_end.ensures
    (found-ended c.args.place.root (parts g.D.Disk.told g.D.Disk.len c.args.disk.now c.args.space.now.store) (parts g.D.Disk.told g.D.Disk.len c.begin.new.disk c.begin.new.self.store) c.in-Ok.ensures.pages
    (λ named s kept. named.items ≡ named_in kept) c.codes_within-found.result c.abort-ended.result c.codes_within-found.ensures.codes)

pub returns-clause-known : goal.returns-clause-known
returns-clause-known g c =
    rw c.found_at_end.ensures
    (found-ended c.args.place.root (parts g.D.Disk.told g.D.Disk.len c.args.disk.now c.args.space.now.store) (parts g.D.Disk.told g.D.Disk.len c.begin.new.disk c.begin.new.self.store) c.in-Ok.ensures.pages
    (λ named s kept. HasNoStray s (owners_in kept)) c.codes_within-found.result c.abort-ended.result c.codes_within-found.ensures.known)

pub returns-clause-stray : goal.returns-clause-stray
returns-clause-stray g c =
    rw c.found_at_end.ensures
    (stray-ended c.args.place.root (parts g.D.Disk.told g.D.Disk.len c.args.disk.now c.args.space.now.store) (parts g.D.Disk.told g.D.Disk.len c.begin.new.disk c.begin.new.self.store) c.in-Ok.ensures.pages
    c.codes_within-found.result c.abort-ended.result c.codes_within-found.ensures.stray c.abort-ended.ensures.err)

pub returns-clause-rests : goal.returns-clause-rests
returns-clause-rests g c =
    rw c.found_at_end.ensures
    (RestsStill-ended g.D.Disk.told g.D.Disk.len g.D.Disk.faults c.args.disk.now c.begin.new.disk c.codes_within-found.new.disk c.abort-ended.new.disk c.args.space.now.store c.begin.new.self.store c.codes_within-found.new.space.store c.abort-ended.new.self.store
    c.in-Ok.tx.store.number c.in-Ok.ensures.begins c.in-Ok.ensures.any_moment c.in-Ok.tx c.in-Ok.ensures.keeps c.codes_within-found.ensures.looks.works c.abort-ended.result c.abort-ended.ensures.keeps c.abort-ended.ensures.any_moment
    c.codes_within-found.result c.abort-ended.result refl c.abort-ended.ensures.none c.in-Ok.ensures.pages c.codes_within-found.ensures.looks.same c.abort-ended.ensures.alone c.abort-ended.ensures.wanted)

pub returns-clause-err : goal.returns-clause-err
returns-clause-err g c =
    rw c.found_at_end.ensures
    (IsLookErr-ended g.D.Disk.told g.D.Disk.len g.D.Disk.faults c.args.disk.now c.begin.new.disk c.codes_within-found.new.disk c.abort-ended.new.disk c.args.space.now.store c.begin.new.self.store c.codes_within-found.new.space.store c.abort-ended.new.self.store
    c.in-Ok.tx.store.number c.in-Ok.ensures.begins c.in-Ok.ensures.any_moment c.in-Ok.tx c.in-Ok.ensures.keeps c.codes_within-found.ensures.looks.works c.abort-ended.result c.abort-ended.ensures.keeps c.abort-ended.ensures.any_moment
    c.requires.up c.codes_within-found.result c.codes_within-found.ensures.looks.reads c.codes_within-found.ensures.looks.fails c.abort-ended.result c.abort-ended.ensures.err c.abort-ended.ensures.keeps.fails)

pub returns-clause-look : goal.returns-clause-look
returns-clause-look g c =
    IsLook-ended g.D.Disk.told g.D.Disk.len g.D.Disk.faults c.args.disk.now c.begin.new.disk c.codes_within-found.new.disk c.abort-ended.new.disk c.args.space.now.store c.begin.new.self.store c.codes_within-found.new.space.store c.abort-ended.new.self.store
    c.in-Ok.tx.store.number c.in-Ok.ensures.begins c.in-Ok.ensures.any_moment c.in-Ok.tx c.in-Ok.ensures.keeps c.codes_within-found.ensures.looks.works c.abort-ended.result c.abort-ended.ensures.keeps c.abort-ended.ensures.any_moment

-- ---- calls
pub begin-requires-clause-none : goal.begin-requires-clause-none
begin-requires-clause-none g c = λ up. c.requires.none

pub codes_within-found-requires-clause-ready : goal.codes_within-found-requires-clause-ready
codes_within-found-requires-clause-ready g c = c.in-Ok.ensures.begun.0

pub abort-ended-requires : goal.abort-ended-requires
abort-ended-requires g c = record { ready = c.codes_within-found.ensures.looks.ready }
