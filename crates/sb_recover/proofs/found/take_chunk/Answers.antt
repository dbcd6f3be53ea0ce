use Rattle.std.proofs.Common.{◌≡◌, ◌-◌, ℕ, List, Option, length, drop, take, sym, subst, arith}
use Rattle.std.proofs.lemmas.List.{take_all}
use Rattle.sb_log.specs.Records.{Begins}
use Rattle.sb_log.specs.Rec.{record_of, Answers}
use Rattle.sb_log.specs.declared.record.Rec.{Rec}
use Rattle.sb_recover.specs.Found.{TakesFront}
use Rattle.sb_recover.proofs.ChunkLemmas.{Begins-within, TakesFront-more, TakesChunk-front}
use Rattle.sb_recover.proofs.found.take_chunk.Goals as goal

pub loop-r-preserved : goal.loop-r-preserved
loop-r-preserved c =
    let begins : Begins c.loop-r.rest.now (record_of c.in-Some.r) c.in-Some.n = c.in-Some.ensures.found in
    let within = Begins-within c.loop-r.rest.now (record_of c.in-Some.r) c.in-Some.n begins in
    let whole : take (length c.loop-r.rest.now - c.in-Some.n) (drop c.in-Some.n c.loop-r.rest.now) ≡ drop c.in-Some.n c.loop-r.rest.now =
    take_all (length c.loop-r.rest.now - c.in-Some.n) (drop c.in-Some.n c.loop-r.rest.now) (let w = within.1 in omega (arith, w)) in
    subst (λ (l : List ℕ). TakesFront c.args.found.now c.take_rec.new.found c.args.chunk.now l) (sym whole)
    (TakesFront-more c.args.found.now c.loop-r.found c.take_rec.new.found c.args.chunk.now c.loop-r.rest.now (record_of c.in-Some.r) c.in-Some.n c.loop-r.invariant begins c.in_ok-take_rec.ensures)

pub returns : goal.returns
returns c = TakesChunk-front c.args.found.now c.loop-r.found c.args.chunk.now c.loop-r.rest.now c.loop-r.invariant
    (λ r n begins. subst (λ (o : Option (Rec × ℕ)). Answers o r n) c.in_default.is (c.read_rec.ensures.only r n begins))
