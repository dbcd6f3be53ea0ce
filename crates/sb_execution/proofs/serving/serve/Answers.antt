use Rattle.std.proofs.Common.{◌∙◌, Option, IfSome, sym, subst}
use Rattle.sb_fold.specs.declared.refusal.Refusal.{Refusal}
use Rattle.sb_cascade.specs.Runs.{OnFault}
use Rattle.sb_engine.specs.Working.{extensions_of}
use Rattle.sb_engine.proofs.PaidLemmas.{paid_looking}
use Rattle.sb_engine.proofs.RefusedLemmas.{of_fault, on_fault}
use Rattle.sb_execution.specs.Serving.{Looked, Tested}
use Rattle.sb_execution.proofs.ReplyLemmas.{refused_given}
use Rattle.sb_execution.proofs.ServeLemmas.{given_stop, roomless_stop, tested_opened, tested_served, tested_unserved}
use Rattle.sb_execution.proofs.WorkLemmas.{looks_works, works_behind}
use Rattle.sb_execution.proofs.serving.serve.Goals as goal

pub returns-in-Ok-None-clause-served : goal.returns-in-Ok-None-clause-served
returns-in-Ok-None-clause-served g c =
    tested_served g.S.PageSpace.has g.S.PageSpace.spent g.S.PageSpace.leads g.S.PageSpace.fails g.S.PageSpace.table (g.B.Boxes.meanings c.args.boxes.now) c.args.place.root c.args.inside c.args.points.now c.args.command.now
    c.args.space.now c.refusal_over.new.space c.carry_out.new.space c.args.work.now c.carry_out.new.work
    (λ s h stands seen. sym c.in-Ok-None.field-0-is ∙ c.in-Ok-None.ensures.refused s h stands seen) c.in-Ok-None.ensures.stands c.carry_out.result c.carry_out.ensures.served

pub returns-in-Ok-None-clause-refused : goal.returns-in-Ok-None-clause-refused
returns-in-Ok-None-clause-refused g c =
    tested_unserved g.S.PageSpace.has g.S.PageSpace.spent g.S.PageSpace.leads g.S.PageSpace.fails g.S.PageSpace.table (g.B.Boxes.meanings c.args.boxes.now) c.args.place.root c.args.inside c.args.points.now c.args.command.now
    c.args.space.now c.refusal_over.new.space c.carry_out.new.space c.args.work.now c.carry_out.new.work
    (λ s h stands seen. sym c.in-Ok-None.field-0-is ∙ c.in-Ok-None.ensures.refused s h stands seen) c.in-Ok-None.ensures.stands c.carry_out.result c.carry_out.ensures.refused

pub returns-in-Ok-Some-clause-refused : goal.returns-in-Ok-Some-clause-refused
returns-in-Ok-Some-clause-refused g c = λ s h stands seen posed.
    let m = g.B.Boxes.meanings c.args.boxes.now in
    let is = sym (c.in-Ok-Some.ensures.refused s h stands seen) ∙ c.in-Ok-Some.field-0-is in
    Tested is
    (given_stop g.S.PageSpace.has g.S.PageSpace.spent g.S.PageSpace.leads g.S.PageSpace.fails g.S.PageSpace.table m h c.in-Ok-Some.refusal c.refusal_over.new.space
    (refused_given (extensions_of m) s c.args.command.now c.in-Ok-Some.refusal is) (c.in-Ok-Some.ensures.stands s h stands seen).paid)

pub returns-in-Err-clause-refused : goal.returns-in-Err-clause-refused
returns-in-Err-clause-refused g c = λ s h stands seen posed.
    Looked c.in-Err.ensures.free c.in-Err.ensures.room
    (roomless_stop g.S.PageSpace.has g.S.PageSpace.spent g.S.PageSpace.leads g.S.PageSpace.fails g.S.PageSpace.table (g.B.Boxes.meanings c.args.boxes.now) h c.in-Err.refusal c.refusal_over.new.space
    c.in-Err.ensures.room (c.in-Err.ensures.cause s h stands seen)
    (paid_looking g.S.PageSpace.spent g.S.PageSpace.leads g.met.S.PageSpace.spends c.args.space.now c.refusal_over.new.space c.in-Err.ensures.leads stands.paid))

pub returns-in-Ok-None-clause-opened : goal.returns-in-Ok-None-clause-opened
returns-in-Ok-None-clause-opened g c =
    tested_opened g.S.PageSpace.has g.S.PageSpace.leads (g.B.Boxes.meanings c.args.boxes.now) c.args.place.root c.args.space.now c.refusal_over.new.space c.carry_out.new.space c.args.work.now c.carry_out.new.work
    c.in-Ok-None.ensures.leads c.carry_out.ensures.works.leads c.carry_out.result c.carry_out.ensures.opened

pub returns-in-Ok-None-clause-reads : goal.returns-in-Ok-None-clause-reads
returns-in-Ok-None-clause-reads g c = c.carry_out.ensures.reads

-- ---- calls
pub returns-in-Ok-None-clause-works : goal.returns-in-Ok-None-clause-works
returns-in-Ok-None-clause-works g c =
    works_behind g.S.PageSpace.leads g.met.S.PageSpace.goes_on c.args.space.now c.refusal_over.new.space c.carry_out.new.space c.args.work.now c.carry_out.new.work c.in-Ok-None.ensures.leads c.carry_out.ensures.works

pub returns-in-Ok-Some-clause-works : goal.returns-in-Ok-Some-clause-works
returns-in-Ok-Some-clause-works g c = looks_works g.S.PageSpace.leads c.args.space.now c.refusal_over.new.space c.args.work.now c.in-Ok-Some.ensures.leads

pub returns-in-Err-clause-works : goal.returns-in-Err-clause-works
returns-in-Err-clause-works g c = looks_works g.S.PageSpace.leads c.args.space.now c.refusal_over.new.space c.args.work.now c.in-Err.ensures.leads

-- ---- it can be called
pub refusal_over-requires : goal.refusal_over-requires
refusal_over-requires g c = record { ready = c.requires.ready }

pub carry_out-requires : goal.carry_out-requires
carry_out-requires g c = record {
  ready = record { ready = c.in-Ok-None.ensures.ready; owner = c.requires.ready.owner; opened = c.requires.ready.opened; within = c.requires.ready.within };
}

pub returns-in-Ok-None-clause-ready : goal.returns-in-Ok-None-clause-ready
returns-in-Ok-None-clause-ready g c = c.carry_out.ensures.ready

pub returns-in-Ok-Some-clause-ready : goal.returns-in-Ok-Some-clause-ready
returns-in-Ok-Some-clause-ready g c = record { ready = c.in-Ok-Some.ensures.ready; owner = c.requires.ready.owner; opened = c.requires.ready.opened; within = c.requires.ready.within }

pub returns-in-Err-clause-ready : goal.returns-in-Err-clause-ready
returns-in-Err-clause-ready g c = record { ready = c.in-Err.ensures.ready; owner = c.requires.ready.owner; opened = c.requires.ready.opened; within = c.requires.ready.within }

-- ---- whatever the pages keep
pub returns-in-Ok-None-clause-answer : goal.returns-in-Ok-None-clause-answer
returns-in-Ok-None-clause-answer g c = c.carry_out.ensures.answer

pub returns-in-Ok-None-clause-fault : goal.returns-in-Ok-None-clause-fault
returns-in-Ok-None-clause-fault g c = c.carry_out.ensures.fault

pub returns-in-Ok-Some-clause-fault : goal.returns-in-Ok-Some-clause-fault
returns-in-Ok-Some-clause-fault g c =
    let tested = subst (λ (o : Option Refusal). IfSome o (λ r. OnFault r ⊥)) c.in-Ok-Some.field-0-is c.in-Ok-Some.ensures.tested in
    on_fault c.in-Ok-Some.refusal _ (λ is. absurd (of_fault c.in-Ok-Some.refusal ⊥ tested is))

pub returns-in-Err-clause-fault : goal.returns-in-Err-clause-fault
returns-in-Err-clause-fault g c = c.in-Err.ensures.fault
