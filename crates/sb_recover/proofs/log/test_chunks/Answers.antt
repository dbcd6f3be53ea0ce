use Rattle.std.proofs.Common.{◌≡◌, ℕ, List, length, sym, ◌∙◌, ap, subst, arith, Vec, Global}
use Rattle.sb_log.specs.Records.{HasRecords, IsBadAt}
use Rattle.sb_recover.specs.Frames.{texts, frame_at}
use Rattle.sb_recover.proofs.FrameLemmas.{length-texts, frame_at-texts}
use Rattle.sb_recover.proofs.LogLemmas.{AreShort-at, AreRows-next, AreRows-all}
use Rattle.sb_recover.proofs.log.test_chunks.Goals as goal

pub count_records-requires : goal.count_records-requires
count_records-requires c =
    let lt = c.loop-i-test.true in let l = length-texts c.args.chunks.now in
    let is : c.deref.result.now ≡ frame_at (texts c.args.chunks.now) c.loop-i.i =
    c.deref.ensures.value ∙ ap (λ (v : Vec ℕ Global). v.items) c.index-chunks-i.is ∙ sym (frame_at-texts c.args.chunks.now c.loop-i.i c.index-chunks-i.result lt) in
    let short = AreShort-at (texts c.args.chunks.now) c.loop-i.i (omega (arith, lt, l)) c.requires.short in let same = ap (λ (b : List ℕ). length b) is in omega (arith, short, same)

pub returns-in-Err-clause-bad : goal.returns-in-Err-clause-bad
returns-in-Err-clause-bad c =
    let lt = c.loop-i-test.true in let l = length-texts c.args.chunks.now in
    let is : c.deref.result.now ≡ frame_at (texts c.args.chunks.now) c.loop-i.i =
    c.deref.ensures.value ∙ ap (λ (v : Vec ℕ Global). v.items) c.index-chunks-i.is ∙ sym (frame_at-texts c.args.chunks.now c.loop-i.i c.index-chunks-i.result lt) in
    record { within = omega (arith, lt, l); rows = c.loop-i.invariant; bad = subst (λ (b : List ℕ). IsBadAt b c.in-Err.bad.offset) is c.in-Err.ensures.err }

pub loop-i-preserved : goal.loop-i-preserved
loop-i-preserved c =
    let lt = c.loop-i-test.true in let l = length-texts c.args.chunks.now in
    let is : c.deref.result.now ≡ frame_at (texts c.args.chunks.now) c.loop-i.i =
    c.deref.ensures.value ∙ ap (λ (v : Vec ℕ Global). v.items) c.index-chunks-i.is ∙ sym (frame_at-texts c.args.chunks.now c.loop-i.i c.index-chunks-i.result lt) in
    AreRows-next (texts c.args.chunks.now) c.loop-i.i c.in_default.field-0 (omega (arith, lt, l)) c.loop-i.invariant (subst (λ (b : List ℕ). HasRecords b c.in_default.field-0) is c.in_default.ensures.ok)

pub returns-clause-ok : goal.returns-clause-ok
returns-clause-ok c =
    let past = c.loop-i-test.false in let l = length-texts c.args.chunks.now in
    AreRows-all (texts c.args.chunks.now) c.loop-i.i (omega (arith, past, l)) c.loop-i.invariant
