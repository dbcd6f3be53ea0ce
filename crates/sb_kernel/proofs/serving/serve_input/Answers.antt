use Rattle.std.proofs.Common.{◌≡◌, ℕ, ◌+◌, ◌-◌, length, subst, arith}
use Rattle.std.proofs.lemmas.List.{length-take}
use Rattle.sb_kernel.specs.World.{at, world}
use Rattle.sb_kernel.specs.Serving.{counted, HasEnded}
use Rattle.sb_kernel.proofs.Served.{ServesSome-more, ends_with_most, NeverFall-then}
use Rattle.sb_kernel.proofs.serving.serve_input.Goals as goal

pub loop-taken-preserved : goal.loop-taken-preserved
loop-taken-preserved g c =
    let w = world g.B.Boxes.meanings g.D.Disk.told g.D.Disk.len g.D.Disk.clock g.D.Disk.faults in
    let taken = c.loop-taken.taken in
    let room = c.args.most - taken in
    let now = at c.serve_piece.new.disk c.serve_piece.new.dialogue.session (g.K.Sink.held c.serve_piece.new.sink) c.serve_piece.new.dialogue.starts in
    let first_counts = counted (g.S.Source.faults c.args.source.now) (g.K.Sink.faults c.args.sink.now) (g.D.Disk.faults c.args.disk.now) in
    let old_counts = counted (g.S.Source.faults c.loop-taken.source) (g.K.Sink.faults c.loop-taken.sink) (g.D.Disk.faults c.loop-taken.disk) in
    let new_counts = counted (g.S.Source.faults c.serve_piece.new.source) (g.K.Sink.faults c.serve_piece.new.sink) (g.D.Disk.faults c.serve_piece.new.disk) in
    record {
      serves = λ m left first fresh.
          let some = c.loop-taken.invariant.serves m left first fresh in
          ServesSome-more w m taken c.in-Continue.count room some.bytes left (g.S.Source.left c.serve_piece.new.source) c.serve_piece.new.dialogue.line first now some.count_is
          (c.in-Continue.ensures.leads m some.bytes left first room (omega (arith, length-take {A = ℕ})) some.serves);
      runs = c.serve_piece.ensures.runs;
      up = c.in-Continue.ensures.up;
      within = omega (arith, c.in-Continue.ensures.progress.1, length-take {A = ℕ});
      counts = NeverFall-then first_counts old_counts new_counts c.loop-taken.invariant.counts c.serve_piece.ensures.counts;
    }

pub returns-in-Break-clause-ended : goal.returns-in-Break-clause-ended
returns-in-Break-clause-ended g c = λ m left first fresh.
    let w = world g.B.Boxes.meanings g.D.Disk.told g.D.Disk.len g.D.Disk.clock g.D.Disk.faults in
    let room = c.args.most - c.loop-taken.taken in
    let some = c.loop-taken.invariant.serves m left first fresh in
    let all : length some.bytes + room ≡ c.args.most = omega (arith, some.count_is) in
    let now = at c.serve_piece.new.disk c.serve_piece.new.dialogue.session (g.K.Sink.held c.serve_piece.new.sink) c.serve_piece.new.dialogue.starts in
    subst (λ (most : ℕ). HasEnded w m most left (g.S.Source.left c.serve_piece.new.source) c.in-Break.ending first now) all
    (c.in-Break.ensures.leads m some.bytes left first room (omega (arith, length-take {A = ℕ})) some.serves)

pub returns-clause-ended : goal.returns-clause-ended
returns-clause-ended g c = λ m left first fresh.
    let w = world g.B.Boxes.meanings g.D.Disk.told g.D.Disk.len g.D.Disk.clock g.D.Disk.faults in
    let all : c.loop-taken.taken ≡ c.args.most = omega (arith, c.loop-taken.invariant.within, c.loop-taken-test.false) in
    let now = at c.loop-taken.disk c.loop-taken.dialogue.session (g.K.Sink.held c.loop-taken.sink) c.loop-taken.dialogue.starts in
    ends_with_most w m c.loop-taken.taken c.args.most left (g.S.Source.left c.loop-taken.source) c.loop-taken.dialogue.line first now all (c.loop-taken.invariant.serves m left first fresh)
