use Rattle.std.proofs.Common.{◌∙◌, true≢false, Option, IfSome, is_some, sym, ap, subst}
use Rattle.sb_plain.specs.declared.reply.Reply.{Reply}
use Rattle.sb_engine.proofs.PaidLemmas.{paid_looking}
use Rattle.sb_engine.proofs.RefusedLemmas.{refused_fault}
use Rattle.sb_engine.proofs.StandingLemmas.{keeping_of}
use Rattle.sb_reads.specs.Reads.{IsAnswer}
use Rattle.sb_statements.proofs.OpenLemmas.{stands_opened}
use Rattle.sb_execution.specs.Serving.{Worked}
use Rattle.sb_execution.proofs.ServeLemmas.{look_refused, was_read, works_may}
use Rattle.sb_execution.proofs.WorkLemmas.{opens_works, works_behind, works_opened}
use Rattle.sb_execution.proofs.serving.carry_out.Goals as goal

pub returns-in-Ok-Some-clause-served : goal.returns-in-Ok-Some-clause-served
returns-in-Ok-Some-clause-served g c = λ s h stands may.
    let has = g.S.PageSpace.has in
    let spent = g.S.PageSpace.spent in
    let m = g.B.Boxes.meanings c.args.boxes.now in
    let root = c.args.place.root in
    let x = c.args.space.now in
    let w = c.args.work.now in
    let looks = c.in-Ok-Some.ensures.looks in
    let keeping = keeping_of has spent m root h x c.read.new.space w stands in (
      may.passed,
      was_read has spent m root x w c.args.command.now s h stands may c.in-Ok-Some.field-0 c.in-Ok-Some.ensures.reply ∙ c.in-Ok-Some.field-0-is,
      stands_opened has spent m root h x c.read.new.space w stands c.read.new.opened looks.same (paid_looking spent g.S.PageSpace.leads g.met.S.PageSpace.spends x c.read.new.space looks.leads stands.paid)
          (c.read.ensures.opened stands.want stands.slots stands.kept keeping),
    )

pub returns-in-Ok-clause-served : goal.returns-in-Ok-clause-served
returns-in-Ok-clause-served g c = λ s h stands may.
    let has = g.S.PageSpace.has in
    let spent = g.S.PageSpace.spent in
    let m = g.B.Boxes.meanings c.args.boxes.now in
    let root = c.args.place.root in
    let x = c.args.space.now in
    let w = c.args.work.now in
    let looks = c.in-Ok-None.ensures.looks in
    let keeping = keeping_of has spent m root h x c.read.new.space w stands in (
      may.passed,
      was_read has spent m root x w c.args.command.now s h stands may c.in-Ok-None.field-0 c.in-Ok-None.ensures.reply ∙ c.in-Ok-None.field-0-is,
      c.in-Ok.ensures.made h
          (stands_opened has spent m root h x c.read.new.space w stands c.read.new.opened looks.same (paid_looking spent g.S.PageSpace.leads g.met.S.PageSpace.spends x c.read.new.space looks.leads stands.paid)
          (c.read.ensures.opened stands.want stands.slots stands.kept keeping))
          (works_may has spent m root x w c.args.command.now s h stands may),
    )

pub returns-in-Err-work_over-clause-refused : goal.returns-in-Err-work_over-clause-refused
returns-in-Err-work_over-clause-refused g c = λ s h stands may.
    let has = g.S.PageSpace.has in
    let spent = g.S.PageSpace.spent in
    let m = g.B.Boxes.meanings c.args.boxes.now in
    let root = c.args.place.root in
    let x = c.args.space.now in
    let w = c.args.work.now in
    let looks = c.in-Ok-None.ensures.looks in
    let keeping = keeping_of has spent m root h x c.read.new.space w stands in
    Worked may.passed (was_read has spent m root x w c.args.command.now s h stands may c.in-Ok-None.field-0 c.in-Ok-None.ensures.reply ∙ c.in-Ok-None.field-0-is)
    (c.in-Err-work_over.ensures.refused h
    (stands_opened has spent m root h x c.read.new.space w stands c.read.new.opened looks.same (paid_looking spent g.S.PageSpace.leads g.met.S.PageSpace.spends x c.read.new.space looks.leads stands.paid)
    (c.read.ensures.opened stands.want stands.slots stands.kept keeping))
    (works_may has spent m root x w c.args.command.now s h stands may))

pub returns-in-Err-clause-refused : goal.returns-in-Err-clause-refused
returns-in-Err-clause-refused g c = λ s h stands may.
    look_refused g.S.PageSpace.has g.S.PageSpace.spent (g.B.Boxes.meanings c.args.boxes.now) c.args.place.root c.args.space.now c.args.work.now c.args.command.now s h stands may
    g.S.PageSpace.leads g.met.S.PageSpace.spends g.S.PageSpace.fails g.S.PageSpace.table c.read.new.space c.in-Err.fault c.refusal_of.result c.refusal_of.ensures c.in-Err.ensures.looks.fault
    c.in-Err.ensures.looks.refused c.in-Err.ensures.looks.leads c.in-Err.ensures.undamaged

-- ---- what it reads
pub returns-in-Ok-Some-clause-reads : goal.returns-in-Ok-Some-clause-reads
returns-in-Ok-Some-clause-reads g c = sym (ap (λ (o : Option Reply). is_some o) c.in-Ok-Some.field-0-is) ∙ c.in-Ok-Some.ensures.reads

pub returns-in-Ok-clause-reads : goal.returns-in-Ok-clause-reads
returns-in-Ok-clause-reads g c = sym (ap (λ (o : Option Reply). is_some o) c.in-Ok-None.field-0-is) ∙ c.in-Ok-None.ensures.reads

-- what is open then
pub returns-in-Ok-Some-clause-opened : goal.returns-in-Ok-Some-clause-opened
returns-in-Ok-Some-clause-opened g c = λ read want s kept keeping.
    record { has = c.in-Ok-Some.ensures.looks.same want s keeping.has; tables = keeping.tables; opened = c.read.ensures.opened want s kept keeping }

pub returns-in-Ok-clause-opened : goal.returns-in-Ok-clause-opened
returns-in-Ok-clause-opened g c = λ read. absurd (true≢false (sym read))

-- ---- calls
pub returns-in-Ok-Some-clause-works : goal.returns-in-Ok-Some-clause-works
returns-in-Ok-Some-clause-works g c = opens_works g.S.PageSpace.leads c.args.space.now c.read.new.space c.args.work.now c.read.new.opened c.in-Ok-Some.ensures.looks.leads

pub returns-in-Err-clause-works : goal.returns-in-Err-clause-works
returns-in-Err-clause-works g c = opens_works g.S.PageSpace.leads c.args.space.now c.read.new.space c.args.work.now c.read.new.opened c.in-Err.ensures.looks.leads

pub returns-in-Ok-clause-works : goal.returns-in-Ok-clause-works
returns-in-Ok-clause-works g c =
    works_behind g.S.PageSpace.leads g.met.S.PageSpace.goes_on c.args.space.now c.read.new.space c.work_over.new.space c.args.work.now c.work_over.new.work c.in-Ok-None.ensures.looks.leads
    (works_opened g.S.PageSpace.leads c.read.new.space c.work_over.new.space c.args.work.now c.work_over.new.work c.read.new.opened c.in-Ok.ensures.works)

pub returns-in-Err-work_over-clause-works : goal.returns-in-Err-work_over-clause-works
returns-in-Err-work_over-clause-works g c =
    works_behind g.S.PageSpace.leads g.met.S.PageSpace.goes_on c.args.space.now c.read.new.space c.work_over.new.space c.args.work.now c.work_over.new.work c.in-Ok-None.ensures.looks.leads
    (works_opened g.S.PageSpace.leads c.read.new.space c.work_over.new.space c.args.work.now c.work_over.new.work c.read.new.opened c.in-Err-work_over.ensures.works)

-- ---- it can be called
pub read-requires-clause-ready : goal.read-requires-clause-ready
read-requires-clause-ready g c = c.requires.ready.ready

pub read-requires-clause-owner : goal.read-requires-clause-owner
read-requires-clause-owner g c = c.requires.ready.owner

pub read-requires-clause-are_open : goal.read-requires-clause-are_open
read-requires-clause-are_open g c = c.requires.ready.opened

pub work_over-requires : goal.work_over-requires
work_over-requires g c = record {
  ready = record { ready = c.in-Ok-None.ensures.ready; owner = c.requires.ready.owner; opened = c.read.ensures.are_open; within = c.requires.ready.within };
}

pub returns-in-Ok-Some-clause-ready : goal.returns-in-Ok-Some-clause-ready
returns-in-Ok-Some-clause-ready g c = record { ready = c.in-Ok-Some.ensures.ready; owner = c.requires.ready.owner; opened = c.read.ensures.are_open; within = c.requires.ready.within }

pub returns-in-Err-clause-ready : goal.returns-in-Err-clause-ready
returns-in-Err-clause-ready g c = record { ready = c.in-Err.ensures.ready; owner = c.requires.ready.owner; opened = c.read.ensures.are_open; within = c.requires.ready.within }

pub returns-in-Ok-clause-ready : goal.returns-in-Ok-clause-ready
returns-in-Ok-clause-ready g c = c.in-Ok.ensures.ready

pub returns-in-Err-work_over-clause-ready : goal.returns-in-Err-work_over-clause-ready
returns-in-Err-work_over-clause-ready g c = c.in-Err-work_over.ensures.ready

-- ---- whatever the pages keep
pub returns-in-Ok-Some-clause-answer : goal.returns-in-Ok-Some-clause-answer
returns-in-Ok-Some-clause-answer g c = subst (λ (o : Option Reply). IfSome o IsAnswer) c.in-Ok-Some.field-0-is c.in-Ok-Some.ensures.answer

pub returns-in-Err-work_over-clause-fault : goal.returns-in-Err-work_over-clause-fault
returns-in-Err-work_over-clause-fault g c = c.in-Err-work_over.ensures.fault

pub returns-in-Err-clause-fault : goal.returns-in-Err-clause-fault
returns-in-Err-clause-fault g c =
    rw c.refusal_of.ensures (refused_fault g.S.PageSpace.fails (g.S.PageSpace.leads 0 c.args.space.now c.read.new.space) c.args.space.now c.read.new.space c.in-Err.fault c.in-Err.ensures.looks.refused)
