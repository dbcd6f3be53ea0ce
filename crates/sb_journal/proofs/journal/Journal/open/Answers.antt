use Rattle.std.proofs.Common.{rules, ◌≡◌, ◌+◌, length, sym, ◌∙◌, subst, Option, ℕ}
use Rattle.sb_disk.specs.Disk.{Story}
use Rattle.sb_journal.specs.Opening.{AllShut, opened}
use Rattle.sb_journal.specs.State.{StandsOn}
use Rattle.sb_journal.specs.View.{range_of}
use Rattle.sb_journal.proofs.OpenLemmas.{opens}
use Rattle.sb_journal.proofs.journal.Journal.open.Goals as goal

pub returns-clause-stands : goal.returns-clause-stands
returns-clause-stands g c = λ settled.
    let same : g.D.Disk.told c.read_lens.new.disk ≡ g.D.Disk.told c.args.disk.now = c.read_lens.ensures.reads.story in
    let counted : c.len.result ≡ length c.read_lens.new.lens.items = search rules in
    let shut = subst (λ (o : Option Story). AllShut o (c.args.gates.start + length c.read_lens.new.lens.items) (c.args.gates.start + c.args.gates.len) c.in_ok-clean.clean) same
    (subst (λ (n : ℕ). AllShut (g.D.Disk.told c.read_lens.new.disk) (c.args.gates.start + n) (c.args.gates.start + c.args.gates.len) c.in_ok-clean.clean) counted c.in_ok-clean.ensures.shut) in
    subst (λ (o : Option Story). StandsOn o (opened (range_of c.args.gates) (range_of c.args.log) c.read_lens.new.lens.items c.in_ok-clean.clean)) (sym (c.all_shut.ensures.told ∙ same))
    (opens (g.D.Disk.told c.args.disk.now) (range_of c.args.gates) (range_of c.args.log) c.read_lens.new.lens.items c.in_ok-clean.clean c.in_ok-used.ensures.ok.read shut settled)
