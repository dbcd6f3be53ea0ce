use Rattle.std.proofs.Common.{◌≡◌, Some, Vec, Global, [], inr, refl, sym, ap, ◌∙◌}
use Rattle.sb_value.proofs.Truths.{is_some-none}
use Rattle.sb_plain.specs.declared.command.Command.TheVariants as command
use Rattle.sb_transactions.specs.OpenRelation.{OpenRelation}
use Rattle.sb_txn.specs.Parts.{parts}
use Rattle.sb_session.specs.declared.session.Session.{Session}
use Rattle.sb_session.proofs.Carried.{IsSame-itself}
use Rattle.sb_session.proofs.Commands.{Carried-begin, Carried-misplaced}
use Rattle.sb_session.proofs.WantLemmas.{KeepsWanted-none}
use Rattle.sb_session.proofs.session.Session.begin.Goals as goal

-- what is the same as one without items has none
closed : (a b : Vec OpenRelation Global) → a ≡ b → b.items ≡ [] → a.items ≡ []
closed a b same none = ap (λ (v : Vec OpenRelation Global). v.items) same ∙ none

pub returns-then-self-clause-any_moment : goal.returns-then-self-clause-any_moment
returns-then-self-clause-any_moment g c =
    KeepsWanted-none (parts g.D.Disk.told g.D.Disk.len c.args.disk.now c.args.self.now.space.store)

pub returns-then-is_some-clause-ends : goal.returns-then-is_some-clause-ends
returns-then-is_some-clause-ends g c =
    let meanings = g.B.Boxes.meanings in
    let told = g.D.Disk.told in
    let len = g.D.Disk.len in
    let faults = g.D.Disk.faults in
    let x = c.args.self.now in
    let d = c.args.disk.now in
    (Carried-misplaced meanings told len faults d x c.requires.runs c.if-self.false command.Begin x (IsSame-itself meanings x) (λ s inside. inside ∙ sym c.is_some.ensures ∙ c.if-is_some.true)).ends

pub returns-then-is_some-clause-any_moment : goal.returns-then-is_some-clause-any_moment
returns-then-is_some-clause-any_moment g c =
    KeepsWanted-none (parts g.D.Disk.told g.D.Disk.len c.args.disk.now c.args.self.now.space.store)

pub returns-in-Ok-clause-ends : goal.returns-in-Ok-clause-ends
returns-in-Ok-clause-ends g c =
    let meanings = g.B.Boxes.meanings in
    let told = g.D.Disk.told in
    let len = g.D.Disk.len in
    let faults = g.D.Disk.faults in
    let x = c.args.self.now in
    let d = c.args.disk.now in
    let y : Session g.row.B.Denot = record { boxes = x.boxes; space = c.begin.new.space; place = x.place; opened = c.replace-opened.new.dest; «open» = Some (record { transaction = c.in-Ok.transaction; points = c.new-in-Ok.result }); down = x.down } in
    (Carried-begin meanings told len faults d x c.requires.runs c.if-self.false c.begin.new.disk y c.begin.new.space refl refl refl refl (inr (closed c.replace-opened.new.dest c.new.result c.replace-opened.ensures.after c.new.ensures.items)) c.in-Ok.transaction
    (record { transaction = c.in-Ok.transaction; points = c.new-in-Ok.result }) c.replace-opened.result.items (ap (λ (v : Vec OpenRelation Global). v.items) c.replace-opened.ensures.value) c.in-Ok.ensures.remains (is_some-none x.open (sym c.is_some.ensures ∙ c.if-is_some.false)) refl refl c.new-in-Ok.ensures.items
    c.in-Ok.ensures.usable c.in-Ok.ensures.begun c.in-Ok.ensures.at c.in-Ok.ensures.spent).ends

pub returns-in-Ok-clause-runs : goal.returns-in-Ok-clause-runs
returns-in-Ok-clause-runs g c =
    let meanings = g.B.Boxes.meanings in
    let told = g.D.Disk.told in
    let len = g.D.Disk.len in
    let faults = g.D.Disk.faults in
    let x = c.args.self.now in
    let d = c.args.disk.now in
    let y : Session g.row.B.Denot = record { boxes = x.boxes; space = c.begin.new.space; place = x.place; opened = c.replace-opened.new.dest; «open» = Some (record { transaction = c.in-Ok.transaction; points = c.new-in-Ok.result }); down = x.down } in
    (Carried-begin meanings told len faults d x c.requires.runs c.if-self.false c.begin.new.disk y c.begin.new.space refl refl refl refl (inr (closed c.replace-opened.new.dest c.new.result c.replace-opened.ensures.after c.new.ensures.items)) c.in-Ok.transaction
    (record { transaction = c.in-Ok.transaction; points = c.new-in-Ok.result }) c.replace-opened.result.items (ap (λ (v : Vec OpenRelation Global). v.items) c.replace-opened.ensures.value) c.in-Ok.ensures.remains (is_some-none x.open (sym c.is_some.ensures ∙ c.if-is_some.false)) refl refl c.new-in-Ok.ensures.items
    c.in-Ok.ensures.usable c.in-Ok.ensures.begun c.in-Ok.ensures.at c.in-Ok.ensures.spent).runs
