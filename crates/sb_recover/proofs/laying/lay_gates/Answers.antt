use Rattle.std.proofs.Common.{rules, ◌≡◌, ◌+◌, ◌*◌, ℕ, List, length, ◌∙◌, ap, subst, arith}
use Rattle.sb_disk.specs.Disk.{FailedWrite}
use Rattle.sb_recover.specs.FirstPages.{free_page}
use Rattle.sb_recover.proofs.FirstPageLemmas.{length-free_page}
use Rattle.sb_recover.proofs.LayingLemmas.{Lays-none, Lays-failed, Lays-more}
use Rattle.sb_recover.proofs.laying.lay_gates.Goals as goal

pub loop-k-init : goal.loop-k-init
loop-k-init g c = record { lays = Lays-none 4096 16 (λ k. free_page) _; len = search rules; faults = search rules }

pub write_at-requires : goal.write_at-requires
write_at-requires g c =
    let long : length c.args.zeros.now ≡ 4096 = ap (λ (l : List ℕ). length l) c.requires.zeros ∙ length-free_page in
    let len = c.loop-k.invariant.len in
    let room = c.requires.room in
    omega arith

pub returns-in_err-write_at-clause-any_moment : goal.returns-in_err-write_at-clause-any_moment
returns-in_err-write_at-clause-any_moment g c =
    let long : length c.args.zeros.now ≡ 4096 = ap (λ (l : List ℕ). length l) c.requires.zeros ∙ length-free_page in
    let len = c.loop-k.invariant.len in
    let room = c.requires.room in
    Lays-failed 4096 16 (λ k. free_page) (g.D.Disk.len c.loop-k.disk) (g.D.Disk.clock c.loop-k.disk) c.loop-k.k _ (g.D.Disk.told c.loop-k.disk) _ (g.met.D.Disk.fits c.loop-k.disk) (omega arith) (omega arith) c.loop-k.invariant.lays
    (subst (λ (n : ℕ). FailedWrite (4096 + 4096 * c.loop-k.k) n (g.D.Disk.told c.loop-k.disk) (g.D.Disk.told c.write_at.new.self)) long c.in_err-write_at.ensures.err)

pub loop-k-preserved : goal.loop-k-preserved
loop-k-preserved g c =
    let long : length c.args.zeros.now ≡ 4096 = ap (λ (l : List ℕ). length l) c.requires.zeros ∙ length-free_page in
    let len = c.loop-k.invariant.len in
    let room = c.requires.room in
    record {
      lays = Lays-more 4096 16 (λ k. free_page) (g.D.Disk.len c.loop-k.disk) (g.D.Disk.clock c.loop-k.disk) c.loop-k.k _ (g.D.Disk.told c.loop-k.disk) _ (g.met.D.Disk.fits c.loop-k.disk) (omega arith) (omega arith) c.loop-k.invariant.lays
          c.args.zeros.now long c.requires.zeros c.in_ok-write_at.ensures.ok;
      len = search rules;
      faults = search rules;
    }
