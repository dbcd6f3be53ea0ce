use Rattle.std.proofs.Common.{rules, ◌≡◌, ◌+◌, ◌-◌, ◌<◌, ◌≤◌, Result, Ok, Err, OnOk, ℕ, [], length, Option, sym, ◌∙◌, ap, subst, arith}
use Rattle.std.proofs.lemmas.List.{nil_from_length}
use Rattle.sb_disk.specs.Disk.{Story, WhereTold}
use Rattle.sb_disk.specs.Moments.{LeavesOnly, LeavesTorn}
use Rattle.sb_journal.specs.declared.journal.Journal.TheInside.{Inside}
use Rattle.sb_journal.specs.State.{State}
use Rattle.sb_journal.specs.View.{state_of}
use Rattle.sb_journal.specs.Closing.{Zeroed}
use Rattle.sb_journal.proofs.InsideLemmas.{ready}
use Rattle.sb_journal.proofs.RegionLemmas.{Ready}
use Rattle.sb_journal.proofs.CloseLemmas.{IsFirst, close_none, close_first, close_rest, closed_on, half_none_on, half_zeroed_on}
use Rattle.sb_journal.proofs.journal.close_gates.Goals as goal

on_ok : {T E : Type 0} (result : Result T E) (A B : Type 0) → (A → B) → OnOk result A → OnOk result B
on_ok (Ok x) A B leads ok = leads ok
on_ok (Err e) A B leads ok = tt

torn_at : (a b : Option Story) (at place n m : ℕ) → at ≡ place → n ≡ m → LeavesOnly a b (LeavesTorn at n a) → LeavesOnly a b (LeavesTorn place m a)
torn_at a b at place n m e f run = subst (λ (k : ℕ). LeavesOnly a b (LeavesTorn place k a)) f (subst (λ (k : ℕ). LeavesOnly a b (LeavesTorn k n a)) e run)

zeroed_at : (a b : Option Story) (at place n m : ℕ) → at ≡ place → n ≡ m → WhereTold a b (Zeroed at n) → WhereTold a b (Zeroed place m)
zeroed_at a b at place n m e f zeroed = subst (λ (k : ℕ). WhereTold a b (Zeroed place k)) f (subst (λ (k : ℕ). WhereTold a b (Zeroed k n)) e zeroed)

is_first : (a : Inside) (j : State) (first : ℕ) → state_of a ≡ j → first ≤ 1 → first ≤ a.gates.len → (0 < a.gates.len → first ≡ 1) → IsFirst j first
is_first a j first is most fits one = subst (λ (k : State). IsFirst k first) is (record { most = most; fits = fits; one = one })

pub returns-then-is_empty-clause-any_moment : goal.returns-then-is_empty-clause-any_moment
returns-then-is_empty-clause-any_moment g c =
    let is = c.journal.view_is in
    let set : Ready (g.D.Disk.told c.args.disk.now) (g.D.Disk.len c.args.disk.now) (g.D.Disk.clock c.args.disk.now) c.args.journal.now = ready _ _ _ _ _ is c.journal.invariant (g.met.D.Disk.fits c.args.disk.now) c.requires.stands c.requires.lies in
    let none : c.args.journal.now.lens ≡ [] = ap (λ (k : State). k.lens) (sym is) ∙ nil_from_length c.journal.inside.lens.items (search rules) in
    let first = is_first c.journal.inside c.args.journal.now c.min-first.result is (search rules) (search rules) (search rules) in
    close_rest _ (g.D.Disk.told c.args.disk.now) _ c.args.journal.now c.min-first.result first (half_none_on _ _ c.requires.stands c.requires.up none) (close_none _ _ _ _ set)
    (torn_at _ _ _ _ _ _ (ap (λ (k : State). k.gates.start + c.min-first.result) is) (ap (λ (k : State). k.gates.len - c.min-first.result) is) c.zero.ensures.any_moment)

pub returns-then-is_empty-clause-closed : goal.returns-then-is_empty-clause-closed
returns-then-is_empty-clause-closed g c =
    let is = c.journal.view_is in
    let none : c.args.journal.now.lens ≡ [] = ap (λ (k : State). k.lens) (sym is) ∙ nil_from_length c.journal.inside.lens.items (search rules) in
    let first = is_first c.journal.inside c.args.journal.now c.min-first.result is (search rules) (search rules) (search rules) in
    on_ok c.zero.result _ _ (λ zeroed. closed_on _ (g.D.Disk.told c.args.disk.now) _ c.args.journal.now c.min-first.result first (half_none_on _ _ c.requires.stands c.requires.up none)
    (zeroed_at _ _ _ _ _ _ (ap (λ (k : State). k.gates.start + c.min-first.result) is) (ap (λ (k : State). k.gates.len - c.min-first.result) is) zeroed)) c.zero.ensures.zeroed

pub returns-in_err-zero-clause-any_moment : goal.returns-in_err-zero-clause-any_moment
returns-in_err-zero-clause-any_moment g c =
    let is = c.journal.view_is in
    let set : Ready (g.D.Disk.told c.args.disk.now) (g.D.Disk.len c.args.disk.now) (g.D.Disk.clock c.args.disk.now) c.args.journal.now = ready _ _ _ _ _ is c.journal.invariant (g.met.D.Disk.fits c.args.disk.now) c.requires.stands c.requires.lies in
    let inside : 0 < length c.journal.inside.lens.items = search rules in
    let some : 0 < length c.args.journal.now.lens = omega (arith, ap (λ (k : State). length k.lens) is) in
    let gates = c.journal.invariant.sound.gates in
    let one : c.min-first.result ≡ 1 = search rules in
    close_first _ _ _ _ c.args.journal.now set some (torn_at _ _ _ _ _ 1 (ap (λ (k : State). k.gates.start) is) one c.zero-2.ensures.any_moment)

pub returns-clause-any_moment : goal.returns-clause-any_moment
returns-clause-any_moment g c =
    let is = c.journal.view_is in
    let set : Ready (g.D.Disk.told c.args.disk.now) (g.D.Disk.len c.args.disk.now) (g.D.Disk.clock c.args.disk.now) c.args.journal.now = ready _ _ _ _ _ is c.journal.invariant (g.met.D.Disk.fits c.args.disk.now) c.requires.stands c.requires.lies in
    let inside : 0 < length c.journal.inside.lens.items = search rules in
    let some : 0 < length c.args.journal.now.lens = omega (arith, ap (λ (k : State). length k.lens) is) in
    let gates = c.journal.invariant.sound.gates in
    let gate : 0 < c.args.journal.now.gates.len = omega (arith, ap (λ (k : State). k.gates.len) is) in
    let one : c.min-first.result ≡ 1 = search rules in
    let first = is_first c.journal.inside c.args.journal.now c.min-first.result is (search rules) (search rules) (search rules) in
    let begun = close_first _ _ _ _ c.args.journal.now set some (torn_at _ _ _ _ _ 1 (ap (λ (k : State). k.gates.start) is) one c.zero-2.ensures.any_moment) in
    let half = half_zeroed_on _ _ c.args.journal.now gate (zeroed_at _ _ _ _ _ 1 (ap (λ (k : State). k.gates.start) is) one c.in_ok-zero.ensures.zeroed) in
    close_rest _ (g.D.Disk.told c.zero-2.new.disk) _ c.args.journal.now c.min-first.result first half begun
    (torn_at _ _ _ _ _ _ (ap (λ (k : State). k.gates.start + c.min-first.result) is) (ap (λ (k : State). k.gates.len - c.min-first.result) is) c.zero-3.ensures.any_moment)

pub returns-clause-closed : goal.returns-clause-closed
returns-clause-closed g c =
    let is = c.journal.view_is in
    let inside : 0 < length c.journal.inside.lens.items = search rules in
    let gates = c.journal.invariant.sound.gates in
    let gate : 0 < c.args.journal.now.gates.len = omega (arith, ap (λ (k : State). k.gates.len) is) in
    let one : c.min-first.result ≡ 1 = search rules in
    let first = is_first c.journal.inside c.args.journal.now c.min-first.result is (search rules) (search rules) (search rules) in
    let half = half_zeroed_on _ _ c.args.journal.now gate (zeroed_at _ _ _ _ _ 1 (ap (λ (k : State). k.gates.start) is) one c.in_ok-zero.ensures.zeroed) in
    on_ok c.zero-3.result _ _ (λ zeroed. closed_on _ (g.D.Disk.told c.zero-2.new.disk) _ c.args.journal.now c.min-first.result first half
    (zeroed_at _ _ _ _ _ _ (ap (λ (k : State). k.gates.start + c.min-first.result) is) (ap (λ (k : State). k.gates.len - c.min-first.result) is) zeroed)) c.zero-3.ensures.zeroed
