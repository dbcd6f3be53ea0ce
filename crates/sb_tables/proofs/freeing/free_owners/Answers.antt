use Rattle.std.proofs.Common.{◌≡◌, ℕ, ◌+◌, List, [], ◌∷◌, length, drop, get_or, ap, subst, arith}
use Rattle.sb_drive.proofs.SpacesLemmas.{LeadsWithin-more, LeadsWithin-none}
use Rattle.sb_standing.specs.Standing.{Keeps}
use Rattle.sb_engine.specs.Opened.{IsDurable}
use Rattle.sb_tables.specs.Freeing.{LeavesGone, free_most}
use Rattle.sb_tables.proofs.KeepingLemmas.{drop_all, drop_number}
use Rattle.sb_tables.proofs.SpendingLemmas.{free_cons, within_then}
use Rattle.sb_tables.proofs.freeing.free_owners.Goals as goal

pub loop-owner-init : goal.loop-owner-init
loop-owner-init g c = record {
  ready = c.requires.ready;
  leads = (0, LeadsWithin-none g.S.PageSpace.leads 0 c.args.space.now c.args.space.now (g.met.S.PageSpace.stays c.args.space.now), omega arith);
  freed = λ m root kept want s has keeps. record { slots = s; has = has; keeps = keeps };
}

pub returns-in_err-free_owner-clause-leads : goal.returns-in_err-free_owner-clause-leads
returns-in_err-free_owner-clause-leads g c =
    let first = c.loop-owner.invariant.leads in
    let owners = c.args.owners.now in
    let i = c.loop-owner.owner-index in
    let owner : ℕ = get_or owners i 0 in
    within_then g.S.PageSpace.leads g.met.S.PageSpace.goes_on first.0 (free_most (owner ∷ [])) _ c.args.space.now c.loop-owner.space c.free_owner.new.space
    (omega (arith, first.2, ap free_most (drop_number owners i c.loop-owner-test.true), free_cons owner (drop (i + 1) owners))) first.1 c.in_err-free_owner.ensures.leads

pub returns-in_err-free_owner-clause-idle : goal.returns-in_err-free_owner-clause-idle
returns-in_err-free_owner-clause-idle g c = λ none.
    let over = c.loop-owner-test.true in
    let empty : length c.args.owners.now ≡ 0 = ap (λ (l : List ℕ). length l) none in
    absurd (omega (arith, over, empty))

pub loop-owner-preserved : goal.loop-owner-preserved
loop-owner-preserved g c =
    let before = c.loop-owner.invariant in
    let done = c.in_ok-free_owner.ensures in
    let owners = c.args.owners.now in
    let i = c.loop-owner.owner-index in
    let one = drop_number owners i c.loop-owner-test.true in
    let owner : ℕ = get_or owners i 0 in
    record {
      ready = done.ready;
      leads = (
        before.leads.0 + free_most (owner ∷ []),
        within_then g.S.PageSpace.leads g.met.S.PageSpace.goes_on before.leads.0 (free_most (owner ∷ [])) _ c.args.space.now c.loop-owner.space c.free_owner.new.space (omega arith) before.leads.1 done.leads,
        omega (arith, before.leads.2, ap free_most one, free_cons owner (drop (i + 1) owners)),
      );
      freed = λ m root kept want s has keeps.
          let left = before.freed m root kept want s has keeps in
          done.freed m root kept want left.slots (drop (i + 1) owners) left.has (subst (λ (l : List ℕ). Keeps m IsDurable root left.slots l kept) one left.keeps);
    }

pub returns-clause-freed : goal.returns-clause-freed
returns-clause-freed g c = λ m root kept want s has keeps.
    subst (λ (l : List ℕ). LeavesGone g.S.PageSpace.has m root kept want l c.loop-owner.space) (drop_all c.args.owners.now c.loop-owner.owner-index c.loop-owner-test.false)
    (c.loop-owner.invariant.freed m root kept want s has keeps)

pub returns-clause-leads : goal.returns-clause-leads
returns-clause-leads g c =
    let all = c.loop-owner.invariant.leads in
    LeadsWithin-more g.S.PageSpace.leads all.0 _ c.args.space.now c.loop-owner.space (omega (arith, all.2)) all.1

pub returns-clause-ready : goal.returns-clause-ready
returns-clause-ready g c = c.loop-owner.invariant.ready
