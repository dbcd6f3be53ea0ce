use Rattle.std.proofs.Common.{rules, ◌≡◌, ◌<◌, ℕ, Option, None, List, length, map, get_or, sym, ◌∙◌, ap, subst, arith}
use Rattle.std.proofs.lemmas.List.{get_or-map, length-map}
use Rattle.sb_disk.specs.Disk.{Story}
use Rattle.sb_pool.specs.declared.frame.Frame.{Frame}
use Rattle.sb_pool.specs.Frames.{held_of, put_out, HasFailed}
use Rattle.sb_pool.specs.State.{Held}
use Rattle.sb_pool.proofs.CallLemmas.{on_err}
use Rattle.sb_pool.proofs.RunLemmas.{RunsOn-put, RunsOn-failed}
use Rattle.sb_pool.proofs.flushing.put_all_out.Goals as goal

held_at : (frames : List Frame) (p : ℕ) (f : Frame) → p < length frames → f ≡ get_or frames p f → held_of f ≡ get_or (map held_of frames) p None
held_at frames p f below is = ap held_of is ∙ sym (get_or-map held_of frames p f None below)

put_at : (at place : ℕ) (h k : Option Held) (a b : Option Story) → at ≡ place → h ≡ k → b ≡ put_out at h a → b ≡ put_out place k a
put_at at place h k a b e f is = subst (λ (x : Option Held). b ≡ put_out place x a) f (subst (λ (n : ℕ). b ≡ put_out n h a) e is)

failed_at : (at place : ℕ) (h k : Option Held) (a b : Option Story) → at ≡ place → h ≡ k → HasFailed at h a b → HasFailed place k a b
failed_at at place h k a b e f failed = subst (λ (x : Option Held). HasFailed place x a b) f (subst (λ (n : ℕ). HasFailed n h a b) e failed)

pub returns-in_err-put_out-clause-ran_err : goal.returns-in_err-put_out-clause-ran_err
returns-in_err-put_out-clause-ran_err g c =
    let hs : List (Option Held) = map held_of c.args.frames.now in
    let below : c.loop-page.page < length hs = omega (arith, length-map c.args.frames.now held_of) in
    let is = held_at c.args.frames.now c.loop-page.page c.index-frames-page.result (search rules) c.index-frames-page.is in
    on_err c.from_residual.result _ (RunsOn-failed c.args.geometry _ c.loop-page.page hs below _ _ c.loop-page.invariant.runs _
    (failed_at c.place_of.result _ _ _ _ _ c.place_of.ensures is c.in_err-put_out.ensures.err))

pub loop-page-preserved : goal.loop-page-preserved
loop-page-preserved g c =
    let hs : List (Option Held) = map held_of c.args.frames.now in
    let below : c.loop-page.page < length hs = omega (arith, length-map c.args.frames.now held_of) in
    let is = held_at c.args.frames.now c.loop-page.page c.index-frames-page.result (search rules) c.index-frames-page.is in
    record {
      runs = RunsOn-put c.args.geometry _ c.loop-page.page hs below _ _ c.loop-page.invariant.runs _
          (put_at c.place_of.result _ _ _ _ _ c.place_of.ensures is c.in_ok-put_out.ensures.ok);
      len = search rules;
      later = search rules;
    }
