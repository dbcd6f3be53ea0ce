use Rattle.std.proofs.Common.{sym, subst}
use Rattle.std.proofs.lemmas.Result.{IfErr-weaker}
use Rattle.sb_ctx.specs.View.{View}
use Rattle.sb_ctx.specs.declared.moves.Move.TheVariants.{Fresh}
use Rattle.sb_drive.specs.MethodCalls.{HasRoomFor, IsAsking, promise_of}
use Rattle.sb_drive.specs.Slots.{Slots, owned}
use Rattle.sb_drive.specs.Spaces.{HoldsOf, IsFullFor, Wanted, WhereFull}
use Rattle.sb_drive.proofs.AsksLemmas.{HoldsOf-nothing}
use Rattle.sb_drive.proofs.MethodLemmas.{CostsBy-promised}
use Rattle.sb_drive.proofs.SpacesLemmas.{ArePages-few, WhereFull-within}
use Rattle.sb_drive.proofs.methods.run_method.Goals as goal

pub run_call-requires-clause-holds : goal.run_call-requires-clause-holds
run_call-requires-clause-holds g c = λ want s has.
    let owner = c.args.inst.now.owner in
    let pages = ArePages-few s owner (g.met.S.PageSpace.whole want s c.args.space.now has) (g.met.S.PageSpace.few want s c.args.space.now has) in
    subst (λ (v : View). HoldsOf s owner v) (sym c.new-ctx.ensures) (HoldsOf-nothing s owner pages)

-- over pages that hold rows what it spends is within its room
pub returns-clause-full : goal.returns-clause-full
returns-clause-full g c =
    let m = (goal.StorageMethod-dyn g c.args.boxed.now).method c.args.boxed.now.1 in
    let inst = c.args.inst.now in
    let call = c.args.call.now in
    let spends = λ (s : Slots) (v : View). (promise_of m inst call).Spends (owned s inst.owner) v Fresh in
    IfErr-weaker c.run_call.result
    (λ e. (want : Wanted) (s : Slots) → g.S.PageSpace.has want s c.args.space.now
    → WhereFull e (IsFullFor g.S.PageSpace.leads g.S.PageSpace.durable g.S.PageSpace.total inst.owner (IsAsking m inst call) (spends s) c.args.space.now s e))
    (λ e. (want : Wanted) (s : Slots) → g.S.PageSpace.has want s c.args.space.now
    → WhereFull e (IsFullFor g.S.PageSpace.leads g.S.PageSpace.durable g.S.PageSpace.total inst.owner (IsAsking m inst call) (HasRoomFor m inst call (owned s inst.owner)) c.args.space.now s e))
    (λ e full want s has. WhereFull-within g.S.PageSpace.leads g.S.PageSpace.durable g.S.PageSpace.total inst.owner (IsAsking m inst call) (spends s) (HasRoomFor m inst call (owned s inst.owner)) c.args.space.now s e
    (λ v within. within) (full want s has))
    c.run_call.ensures.full

pub returns-clause-costs : goal.returns-clause-costs
returns-clause-costs g c =
    CostsBy-promised g.S.PageSpace.has g.S.PageSpace.leads ((goal.StorageMethod-dyn g c.args.boxed.now).method c.args.boxed.now.1) c.args.inst.now c.args.call.now c.args.space.now
    c.run_call.new.space c.run_call.result c.run_call.ensures.costs
