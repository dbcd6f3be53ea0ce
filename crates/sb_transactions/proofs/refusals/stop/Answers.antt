use Rattle.std.proofs.Common.{inl, inr, refl, sym, ap, ◌∙◌}
use Rattle.std.proofs.lemmas.Bool.{false≢true}
use Rattle.sb_transactions.specs.Commits.{is_wanting}
use Rattle.sb_transactions.proofs.CallLemmas.{Remains-answered, up-later}
use Rattle.sb_transactions.proofs.refusals.stop.Goals as goal

pub returns-in-Ok-clause-refused : goal.returns-in-Ok-clause-refused
returns-in-Ok-clause-refused g c =
    inl refl

pub returns-in-Ok-clause-back : goal.returns-in-Ok-clause-back
returns-in-Ok-clause-back g c =
    let told = g.D.Disk.told in
    let len = g.D.Disk.len in
    let faults = g.D.Disk.faults in
    let d = c.args.disk.now in
    let s = c.args.space.now.store in
    let f = c.back_to.new.disk in
    let u = c.back_to.new.space.store in
    record {
      up = up-later told len faults d f s u tt c.in-Ok.ensures.remains;
      usable = c.in-Ok.ensures.usable;
      back = c.in-Ok.ensures.back;
      earlier = c.in-Ok.ensures.earlier;
      stand = c.in-Ok.ensures.stand;
      begun = c.in-Ok.ensures.begun;
      wanted = c.in-Ok.ensures.any_moment.stays (up-later told len faults d f s u tt c.in-Ok.ensures.remains);
      spent = c.in-Ok.ensures.spent;
    }

pub returns-in-Ok-clause-aborted : goal.returns-in-Ok-clause-aborted
returns-in-Ok-clause-aborted g c =
    λ none. absurd (cc)

pub returns-in-Ok-clause-none : goal.returns-in-Ok-clause-none
returns-in-Ok-clause-none g c =
    λ none. absurd (cc)

pub returns-in-Ok-clause-remains : goal.returns-in-Ok-clause-remains
returns-in-Ok-clause-remains g c =
    let told = g.D.Disk.told in
    let len = g.D.Disk.len in
    let faults = g.D.Disk.faults in
    let d = c.args.disk.now in
    let s = c.args.space.now.store in
    let f = c.back_to.new.disk in
    let u = c.back_to.new.space.store in
    Remains-answered told len faults d f s u tt _ c.in-Ok.ensures.remains

pub returns-in-Err-clause-refused : goal.returns-in-Err-clause-refused
returns-in-Err-clause-refused g c =
    inr (record { only = c.in-Err.ensures.err; cause = c.in-Err.ensures.cause })

pub returns-in-Err-clause-wanting : goal.returns-in-Err-clause-wanting
returns-in-Err-clause-wanting g c =
    sym (ap is_wanting c.in-Err.ensures.err.is)

pub returns-in-Err-clause-aborted : goal.returns-in-Err-clause-aborted
returns-in-Err-clause-aborted g c =
    λ none up. absurd (false≢true (sym up ∙ c.in-Err.ensures.err.down))

pub returns-in-Err-clause-none : goal.returns-in-Err-clause-none
returns-in-Err-clause-none g c =
    λ none up. absurd (false≢true (sym up ∙ c.in-Err.ensures.err.down))

pub returns-in-Err-clause-remains : goal.returns-in-Err-clause-remains
returns-in-Err-clause-remains g c =
    c.in-Err.ensures.remains

pub returns-in-Err-abort-clause-refused : goal.returns-in-Err-abort-clause-refused
returns-in-Err-abort-clause-refused g c =
    inr (record { only = c.in-Err-abort.ensures.err; cause = c.in-Err-abort.ensures.cause })

pub returns-in-Err-abort-clause-wanting : goal.returns-in-Err-abort-clause-wanting
returns-in-Err-abort-clause-wanting g c =
    sym (ap is_wanting c.in-Err-abort.ensures.err.is)

pub returns-in-Err-abort-clause-aborted : goal.returns-in-Err-abort-clause-aborted
returns-in-Err-abort-clause-aborted g c =
    λ none up. absurd (false≢true (sym up ∙ c.in-Err-abort.ensures.err.down))

pub returns-in-Err-abort-clause-none : goal.returns-in-Err-abort-clause-none
returns-in-Err-abort-clause-none g c =
    λ none up. absurd (false≢true (sym up ∙ c.in-Err-abort.ensures.err.down))

pub returns-in-Err-abort-clause-remains : goal.returns-in-Err-abort-clause-remains
returns-in-Err-abort-clause-remains g c =
    c.in-Err-abort.ensures.remains

pub returns-in-Ok-abort-clause-refused : goal.returns-in-Ok-abort-clause-refused
returns-in-Ok-abort-clause-refused g c =
    inl refl

pub returns-in-Ok-abort-clause-aborted : goal.returns-in-Ok-abort-clause-aborted
returns-in-Ok-abort-clause-aborted g c =
    λ none up. c.in-Ok-abort.ensures.rests

pub returns-in-Ok-abort-clause-none : goal.returns-in-Ok-abort-clause-none
returns-in-Ok-abort-clause-none g c =
    λ none up. c.in-Ok-abort.ensures.none

pub returns-in-Ok-abort-clause-remains : goal.returns-in-Ok-abort-clause-remains
returns-in-Ok-abort-clause-remains g c =
    let told = g.D.Disk.told in
    let len = g.D.Disk.len in
    let faults = g.D.Disk.faults in
    let d = c.args.disk.now in
    let s = c.args.space.now.store in
    let f = c.abort.new.disk in
    let u = c.abort.new.space.store in
    Remains-answered told len faults d f s u tt _ c.in-Ok-abort.ensures.remains
