use Rattle.std.proofs.Common.{◌≡◌, ◌∷◌, [], Option, List, take, get_or, sym, ◌∙◌, subst, arith}
use Rattle.std.specs.Ordering.{nat_cmp}
use Rattle.std.specs.BTreeSet.{contains_by}
use Rattle.sb_disk.specs.Disk.{Story}
use Rattle.sb_log.specs.Records.{Change}
use Rattle.sb_recover.specs.Changes.{change_of, changes_of}
use Rattle.sb_recover.specs.Frames.{texts, ChangedOn}
use Rattle.sb_recover.proofs.ChangeLemmas.{no_change}
use Rattle.sb_recover.proofs.RestoredLemmas.{AllFit-at, changes_of-next, ChangedOn-both}
use Rattle.sb_recover.proofs.restored.write_changes.Goals as goal

pub write_change-requires-clause-fits : goal.write_change-requires-clause-fits
write_change-requires-clause-fits g c = AllFit-at c.args.changes.now c.loop-change.change-index no_change c.loop-change-test.true c.requires.fit

pub loop-change-preserved : goal.loop-change-preserved
loop-change-preserved g c =
    let told : g.D.Disk.told c.loop-change.disk ≡ g.D.Disk.told c.args.disk.now = c.loop-change.invariant.reads.story in
    let first = c.loop-change.invariant.reads in let next = c.write_change.ensures.reads in
    let later = first.later in let later_too = next.later in
    record {
      changed = subst (λ (cs : List Change). ChangedOn (g.D.Disk.told c.args.disk.now) c.args.g.now (λ tx. contains_by (nat_cmp tx) c.args.committed.now) cs (texts c.args.frames.now.items) (texts c.write_change.new.frames.items))
          (sym (changes_of-next c.args.changes.now c.loop-change.change-index no_change c.loop-change-test.true))
          (ChangedOn-both (g.D.Disk.told c.args.disk.now) c.args.g.now (λ tx. contains_by (nat_cmp tx) c.args.committed.now) (changes_of (take c.loop-change.change-index c.args.changes.now)) (change_of (get_or c.args.changes.now c.loop-change.change-index no_change) ∷ [])
          (texts c.args.frames.now.items) (texts c.loop-change.frames.items) (texts c.write_change.new.frames.items) c.loop-change.invariant.changed
          (subst (λ (t : Option Story). ChangedOn t c.args.g.now (λ tx. contains_by (nat_cmp tx) c.args.committed.now) (change_of (get_or c.args.changes.now c.loop-change.change-index no_change) ∷ []) (texts c.loop-change.frames.items) (texts c.write_change.new.frames.items)) told c.in_ok-write_change.ensures.changed));
      frames = c.in_ok-write_change.ensures.frames;
      reads = record { story = next.story ∙ first.story; size = next.size ∙ first.size; later = omega (arith, later, later_too) };
    }
