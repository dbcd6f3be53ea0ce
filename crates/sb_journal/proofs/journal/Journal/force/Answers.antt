use Rattle.std.proofs.Common.{rules, ◌≡◌, ◌+◌, ◌^◌, ◌<◌, ◌≤◌, false, List, [], ◌∷◌, ◌++◌, length, refl, sym, ◌∙◌, ap, subst, arith}
use Rattle.std.specs.Prelude.{vec_capacity}
use Rattle.sb_disk.specs.Disk.{WhereTold}
use Rattle.sb_disk.specs.Moments.{RanOk, RanErr, Step}
use Rattle.sb_journal.specs.State.{State, Forced, after_force, counted}
use Rattle.sb_journal.proofs.InsideLemmas.{ready, steps_are, after_is, counted_more, kept_after, place_free}
use Rattle.sb_journal.proofs.ForceLemmas.{force_none, force_leaves_ok, force_leaves_err, force_ok, Forced-StandsOn}
use Rattle.sb_journal.proofs.journal.Journal.force.Goals as goal

pub returns-then-self-eq0-clause-any_moment : goal.returns-then-self-eq0-clause-any_moment
returns-then-self-eq0-clause-any_moment g c =
    force_none _ _ _ _ (ready _ _ _ _ _ c.self.view_is c.self.invariant (g.met.D.Disk.fits c.args.disk.now) c.requires.stands c.requires.lies)

pub returns-then-count-self-clause-any_moment : goal.returns-then-count-self-clause-any_moment
returns-then-count-self-clause-any_moment g c =
    force_none _ _ _ _ (ready _ _ _ _ _ c.self.view_is c.self.invariant (g.met.D.Disk.fits c.args.disk.now) c.requires.stands c.requires.lies)

pub returns-in-Ok-clause-any_moment : goal.returns-in-Ok-clause-any_moment
returns-in-Ok-clause-any_moment g c =
    let is = c.self.view_is in
    let count : c.len-count.result ≡ length c.self.inside.lens.items = search rules in
    let ran = subst (λ (steps : List Step). RanOk steps (g.D.Disk.told c.args.disk.now) (g.D.Disk.told c.seal.new.disk)) (steps_are c.self.inside c.args.self.now is c.self.invariant c.len-count.result count) c.in-Ok.ensures.ran in
    let some : 0 < c.args.self.now.pending = omega (arith, ap (λ (j : State). j.pending) is) in
    let free : length c.args.self.now.lens < c.args.self.now.gates.len = omega (arith, ap (λ (j : State). length j.lens) is, ap (λ (j : State). j.gates.len) is) in
    force_leaves_ok _ _ _ _ _ (ready _ _ _ _ _ is c.self.invariant (g.met.D.Disk.fits c.args.disk.now) c.requires.stands c.requires.lies) c.requires.clean some free ran

pub returns-in-Err-clause-any_moment : goal.returns-in-Err-clause-any_moment
returns-in-Err-clause-any_moment g c =
    let is = c.self.view_is in
    let count : c.len-count.result ≡ length c.self.inside.lens.items = search rules in
    let ran = subst (λ (steps : List Step). RanErr steps (g.D.Disk.told c.args.disk.now) (g.D.Disk.told c.seal.new.disk)) (steps_are c.self.inside c.args.self.now is c.self.invariant c.len-count.result count) c.in-Err.ensures.ran_err in
    let some : 0 < c.args.self.now.pending = omega (arith, ap (λ (j : State). j.pending) is) in
    let free : length c.args.self.now.lens < c.args.self.now.gates.len = omega (arith, ap (λ (j : State). length j.lens) is, ap (λ (j : State). j.gates.len) is) in
    force_leaves_err _ _ _ _ _ (ready _ _ _ _ _ is c.self.invariant (g.met.D.Disk.fits c.args.disk.now) c.requires.stands c.requires.lies) c.requires.clean some free ran

pub unwrap-requires-in-Ok : goal.unwrap-requires-in-Ok
unwrap-requires-in-Ok g c =
    let kept = c.self.invariant in
    let free : length c.self.inside.lens.items < c.self.inside.gates.len = search rules in
    let place = place_free c.self.inside kept free in
    search rules

pub invariant_of-self : goal.invariant_of-self
invariant_of-self g c =
    let items : c.push.new.self.items ≡ c.self.inside.lens.items ++ c.self.inside.pending ∷ [] = search rules in
    let memory : vec_capacity c.self.inside.lens ≤ vec_capacity c.push.new.self = search rules in
    let free : length c.self.inside.lens.items < c.self.inside.gates.len = search rules in
    let some : 0 < c.self.inside.pending = omega arith in
    let kept = c.self.invariant in
    let short : c.self.inside.used < 2 ^ 32 = (let u = kept.used in let l = kept.sound.log in let s = kept.sound.short in omega arith) in
    let places : c.push-in-Ok.new.self.items ≡ c.self.inside.places.items ++ c.self.inside.used ∷ [] = search rules in
    let place_memory : vec_capacity c.self.inside.places ≤ vec_capacity c.push-in-Ok.new.self = search rules in
    kept_after c.self.inside _ c.self.invariant some free refl refl items places refl refl memory place_memory

pub returns-in-Ok-clause-forced : goal.returns-in-Ok-clause-forced
returns-in-Ok-clause-forced g c =
    let is = c.self.view_is in
    let up : c.args.self.now.failed ≡ false = ap (λ (j : State). j.failed) (sym is) ∙ c.if-self.false in
    let count : c.len-count.result ≡ length c.self.inside.lens.items = search rules in
    let ran = subst (λ (steps : List Step). RanOk steps (g.D.Disk.told c.args.disk.now) (g.D.Disk.told c.seal.new.disk)) (steps_are c.self.inside c.args.self.now is c.self.invariant c.len-count.result count) c.in-Ok.ensures.ran in
    let some : 0 < c.args.self.now.pending = omega (arith, ap (λ (j : State). j.pending) is) in
    let free : length c.args.self.now.lens < c.args.self.now.gates.len = omega (arith, ap (λ (j : State). length j.lens) is, ap (λ (j : State). j.gates.len) is) in
    let done = force_ok _ _ _ _ _ (ready _ _ _ _ _ is c.self.invariant (g.met.D.Disk.fits c.args.disk.now) c.requires.stands c.requires.lies) c.requires.clean some free up ran in
    let items : c.push.new.self.items ≡ c.self.inside.lens.items ++ c.self.inside.pending ∷ [] = search rules in
    let some_inside : 0 < c.self.inside.pending = omega arith in
    let once : c.saturating_add-self-inside.result ≡ counted 1 c.self.inside.forces = search rules in
    let forces : c.saturating_add-self-inside.result ≡ counted c.self.inside.pending c.self.inside.forces = once ∙ sym (counted_more c.self.inside.pending c.self.inside.forces some_inside) in
    let new = after_is c.self.inside (record { gates = c.self.inside.gates; log = c.self.inside.log; lens = c.push.new.self; places = c.push-in-Ok.new.self; used = c.self.inside.used + (4 + c.self.inside.pending); pending = 0; forces = c.saturating_add-self-inside.result; clean = c.self.inside.clean; failed = c.self.inside.failed }) some_inside refl refl items refl forces refl refl in
    subst (λ (k : State). WhereTold (g.D.Disk.told c.args.disk.now) (g.D.Disk.told c.seal.new.disk) (Forced c.args.self.now k)) (ap after_force (sym is) ∙ new) done

pub returns-in-Ok-clause-keeps : goal.returns-in-Ok-clause-keeps
returns-in-Ok-clause-keeps g c = record {
  size = search rules;
  later = search rules;
  cause = λ is. search rules;
  gates = search rules;
  log = search rules;
  sound = (invariant_of-self g c).sound;
  stands = Forced-StandsOn _ _ c.args.self.now _ (returns-in-Ok-clause-forced g c);
}
