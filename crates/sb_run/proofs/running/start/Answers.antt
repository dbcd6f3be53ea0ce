use Rattle.sb_sound_plays.specs.World.{world}
use Rattle.sb_run.specs.Run.{tells}
use Rattle.sb_run.proofs.StartLemmas.{makes, not_made, opens}
use Rattle.sb_run.proofs.running.start.Goals as goal

pub returns-then-words-clause-started : goal.returns-then-words-clause-started
returns-then-words-clause-started g c =
    makes (world g.B.Boxes.meanings g.D.Disk.told g.D.Disk.len g.D.Disk.clock g.D.Disk.faults) (g.B.Boxes.meanings c.args.boxes) c.args.words.now c.args.words.now.create
    c.args.disk.now c.create.new.disk c.create.ensures.later c.create.result c.if-words.true
    c.create.ensures.stands c.create.ensures.live c.create.ensures.place c.create.ensures.sizes c.create.ensures.before c.create.ensures.any_moment

pub returns-else-words-clause-started : goal.returns-else-words-clause-started
returns-else-words-clause-started g c =
    opens (world g.B.Boxes.meanings g.D.Disk.told g.D.Disk.len g.D.Disk.clock g.D.Disk.faults) (g.B.Boxes.meanings c.args.boxes) c.args.words.now c.args.words.now.create
    c.args.disk.now c.open.new.disk c.open.ensures.later c.open.result c.if-words.false c.open.ensures.present
    c.open.ensures.stands c.open.ensures.live c.open.ensures.place c.open.ensures.sizes c.open.ensures.any_moment c.open.ensures.outside c.open.ensures.wanted

pub returns-then-words-clause-refused : goal.returns-then-words-clause-refused
returns-then-words-clause-refused g c =
    not_made (tells g.D.Disk.told g.D.Disk.len g.D.Disk.faults) (g.B.Boxes.meanings c.args.boxes) c.args.words.now c.args.words.now.create
    c.args.disk.now c.create.new.disk c.create.result c.if-words.true
    c.create.ensures.small c.create.ensures.refused c.create.ensures.keeps_store c.create.ensures.any_moment c.create.ensures.fault
