use Rattle.std.proofs.Common.{rules, ◌≡◌, ℕ, false, length, sym, ◌∙◌, ap, subst, arith}
use Rattle.sb_disk.specs.Disk.{WhereTold, wrote, FailedWrite}
use Rattle.sb_journal.specs.State.{State, Appended, after_append}
use Rattle.sb_journal.proofs.InsideLemmas.{ready, place_is, fits_log, sound_more}
use Rattle.sb_journal.proofs.AppendLemmas.{append_none, append_leaves_ok, append_leaves_err, append_ok, Appended-StandsOn}
use Rattle.sb_journal.proofs.journal.Journal.append.Goals as goal

pub returns-then-used-need-clause-any_moment : goal.returns-then-used-need-clause-any_moment
returns-then-used-need-clause-any_moment g c =
    append_none _ _ _ _ (ready _ _ _ _ _ c.self.view_is c.self.invariant (g.met.D.Disk.fits c.args.disk.now) c.requires.stands c.requires.lies)

pub returns-in-Ok-clause-any_moment : goal.returns-in-Ok-clause-any_moment
returns-in-Ok-clause-any_moment g c =
    let is = c.self.view_is in
    let wrote_is = subst (λ (at : ℕ). g.D.Disk.told c.write_at.new.self ≡ wrote at c.args.bytes.now (g.D.Disk.told c.args.disk.now)) (place_is c.self.inside c.args.self.now is c.self.invariant) c.in-Ok.ensures.ok in
    append_leaves_ok _ _ _ _ _ _ (ready _ _ _ _ _ is c.self.invariant (g.met.D.Disk.fits c.args.disk.now) c.requires.stands c.requires.lies)
    (fits_log c.self.inside c.args.self.now (length c.args.bytes.now) c.used-used.result c.needed-need.result is c.self.invariant (search rules) (search rules) (omega arith)) wrote_is

pub returns-in-Err-clause-any_moment : goal.returns-in-Err-clause-any_moment
returns-in-Err-clause-any_moment g c =
    let is = c.self.view_is in
    let failed = subst (λ (at : ℕ). FailedWrite at (length c.args.bytes.now) (g.D.Disk.told c.args.disk.now) (g.D.Disk.told c.write_at.new.self)) (place_is c.self.inside c.args.self.now is c.self.invariant) c.in-Err.ensures.err in
    append_leaves_err _ _ _ _ _ _ (ready _ _ _ _ _ is c.self.invariant (g.met.D.Disk.fits c.args.disk.now) c.requires.stands c.requires.lies)
    (fits_log c.self.inside c.args.self.now (length c.args.bytes.now) c.used-used.result c.needed-need.result is c.self.invariant (search rules) (search rules) (omega arith)) failed

pub returns-in-Ok-clause-appended : goal.returns-in-Ok-clause-appended
returns-in-Ok-clause-appended g c =
    let is = c.self.view_is in
    let up : c.args.self.now.failed ≡ false = ap (λ (j : State). j.failed) (sym is) ∙ c.if-self.false in
    let wrote_is = subst (λ (at : ℕ). g.D.Disk.told c.write_at.new.self ≡ wrote at c.args.bytes.now (g.D.Disk.told c.args.disk.now)) (place_is c.self.inside c.args.self.now is c.self.invariant) c.in-Ok.ensures.ok in
    let done = append_ok _ _ _ _ _ _ (ready _ _ _ _ _ is c.self.invariant (g.met.D.Disk.fits c.args.disk.now) c.requires.stands c.requires.lies)
    (fits_log c.self.inside c.args.self.now (length c.args.bytes.now) c.used-used.result c.needed-need.result is c.self.invariant (search rules) (search rules) (omega arith)) up wrote_is in
    subst (λ (k : State). WhereTold (g.D.Disk.told c.args.disk.now) (g.D.Disk.told c.write_at.new.self) (Appended c.args.bytes.now c.args.self.now k)) (ap (after_append (length c.args.bytes.now)) (sym is)) done

pub returns-in-Ok-clause-keeps : goal.returns-in-Ok-clause-keeps
returns-in-Ok-clause-keeps g c = record {
  size = search rules;
  later = search rules;
  cause = λ is. search rules;
  gates = search rules;
  log = search rules;
  sound = record {
    gates = search rules;
    most = search rules;
    log = sound_more c.self.inside (length c.args.bytes.now) c.used-used.result c.needed-need.result c.self.invariant c.requires.some (search rules) (search rules) (omega arith);
    short = search rules;
  };
  stands = Appended-StandsOn c.args.bytes.now _ _ c.args.self.now _ (returns-in-Ok-clause-appended g c);
}
