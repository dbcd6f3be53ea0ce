use Rattle.std.proofs.Common.{◌≡◌, List, Option, None, Vec, Global, IfSome, not, is_some, refl, sym, ap, ◌∙◌, subst}
use Rattle.sb_plain.specs.declared.command.Command.TheVariants as command
use Rattle.sb_txn.specs.Parts.{parts}
use Rattle.sb_txn.proofs.KeepsLemmas.{LeavesWanted-none}
use Rattle.sb_session.specs.declared.session.Session.{Session}
use Rattle.sb_relation.specs.Db.{Key}
use Rattle.sb_fold.specs.declared.refusal.Refusal.{Refusal}
use Rattle.sb_fold.specs.declared.refusal.Refusal.TheVariants as refusal
use Rattle.sb_plain.specs.declared.reply.Reply.TheVariants.{Done, Refused}
use Rattle.sb_plain.specs.State.{State}
use Rattle.sb_drive.specs.Spaces.{Wanted}
use Rattle.sb_transactions.specs.OpenRelation.{OpenRelation}
use Rattle.sb_transactions.specs.Working.{extensions_of}
use Rattle.sb_transactions.specs.declared.transactions.Transaction.{Transaction}
use Rattle.sb_transactions.specs.Commits.{StaysOpen}
use Rattle.sb_session.specs.Ends.{Ends, IsStep}
use Rattle.sb_session.specs.Sessions.{HasFailed, IsFor, Lacks, StandsBehind, WantsRoom, sizes_of}
use Rattle.sb_session.proofs.Carried.{IsSame, SameOpen-none, keeps-for}
use Rattle.sb_session.proofs.Commands.{Carried-down, Carried-misplaced}
use Rattle.sb_session.proofs.CommitLemmas.{Committed-carried, Committed-ok, Committed-over, Committed-wanting, WantsRoom-commit}
use Rattle.sb_session.proofs.WantLemmas.{KeepsWanted-none}
use Rattle.sb_session.proofs.session.Session.commit.Goals as goal

pub returns-then-self-clause-ends : goal.returns-then-self-clause-ends
returns-then-self-clause-ends g c =
    let meanings = g.B.Boxes.meanings in
    let told = g.D.Disk.told in
    let len = g.D.Disk.len in
    let faults = g.D.Disk.faults in
    let x = c.args.self.now in
    let d = c.args.disk.now in
    (Committed-carried meanings told len faults d d x x (Refused refusal.Down) (LeavesWanted-none (parts told len d x.space.store)) (Carried-down meanings told len faults d x c.requires.runs command.Commit c.if-self.true)).ends

pub returns-in_default-clause-ends : goal.returns-in_default-clause-ends
returns-in_default-clause-ends g c =
    let meanings = g.B.Boxes.meanings in
    let told = g.D.Disk.told in
    let len = g.D.Disk.len in
    let faults = g.D.Disk.faults in
    let x = c.args.self.now in
    let d = c.args.disk.now in
    let y : Session g.row.B.Denot = record { boxes = x.boxes; space = x.space; place = x.place; opened = x.opened; «open» = c.take.new.self; down = x.down } in
    let none : x.open ≡ None = sym c.take.ensures.value ∙ c.in_default.is in
    let same : IsSame meanings x y = record { boxes = refl; space = refl; place = refl; down = refl; opened = SameOpen-none x.open y.open none c.take.ensures.after; opened_same = refl } in
    (Committed-carried meanings told len faults d d x y (Refused refusal.State) (LeavesWanted-none (parts told len d x.space.store))
    (Carried-misplaced meanings told len faults d x c.requires.runs c.if-self.false command.Commit y same (λ s inside. ap not (inside ∙ ap is_some none)))).ends

pub returns-in-Ok-clause-ends : goal.returns-in-Ok-clause-ends
returns-in-Ok-clause-ends g c =
    let meanings = g.B.Boxes.meanings in
    let told = g.D.Disk.told in
    let len = g.D.Disk.len in
    let faults = g.D.Disk.faults in
    let x = c.args.self.now in
    let d = c.args.disk.now in
    let y : Session g.row.B.Denot = record { boxes = x.boxes; space = c.commit.new.space; place = x.place; opened = c.in-Ok.committed.opened; «open» = c.take.new.self; down = x.down } in
    subst (λ (picks : List Key). (want : Wanted) (s : State) → IsFor meanings told len want s d x
    → IsStep (StandsBehind meanings told len want (extensions_of (meanings x.boxes)) s command.Commit d c.commit.new.disk x y) (extensions_of (meanings x.boxes)) s command.Commit (Done None picks)) (sym c.from_vec.ensures)
    (Committed-ok meanings told len faults d c.commit.new.disk x y c.requires.runs c.if-self.false c.in-Some.current (sym c.take.ensures.value ∙ c.in-Some.is) c.commit.new.space refl refl refl c.in-Ok.committed c.in-Ok.committed.picks.items c.in-Ok.ensures.remains refl c.take.ensures.after c.in-Ok.ensures.done c.in-Ok.ensures.opened (c.in-Ok.ensures.none tt)).ends

pub returns-in-Some-transaction-clause-ends : goal.returns-in-Some-transaction-clause-ends
returns-in-Some-transaction-clause-ends g c =
    let meanings = g.B.Boxes.meanings in
    let told = g.D.Disk.told in
    let len = g.D.Disk.len in
    let faults = g.D.Disk.faults in
    let x = c.args.self.now in
    let d = c.args.disk.now in
    let y = c.refused.new.self in
    subst (λ (r : Refusal). (want : Wanted) (s : State) → IsFor meanings told len want s d x
    → Ends (StandsBehind meanings told len want (extensions_of (meanings x.boxes)) s command.Commit d c.commit.new.disk x y) (Lacks (sizes_of x)) (HasFailed faults d c.commit.new.disk) (extensions_of (meanings x.boxes)) s command.Commit (Refused r)) (sym c.refused.ensures.same)
    (Committed-wanting meanings told len faults d c.commit.new.disk x y c.requires.runs c.if-self.false c.in-Some.current (sym c.take.ensures.value ∙ c.in-Some.is) c.commit.new.space c.refused.ensures.space (ap meanings c.refused.ensures.boxes) c.refused.ensures.place _ c.in-Err.uncommitted.refusal c.in-Err.ensures.remains c.refused.ensures.down c.in-Err.ensures.refused (λ not. (c.in-Err.ensures.kept not).leaves) c.in-Err.ensures.any_moment
    (sym c.in-Err.ensures.wanting ∙ ap is_some c.in-Some-transaction.is) c.in-Some-transaction.transaction c.refused.ensures.open (ap (λ (v : Vec OpenRelation Global). v.items) c.refused.ensures.opened)
    (subst (λ (o : Option Transaction). IfSome o (λ t. t.tx ≡ c.in-Some.current.transaction.tx)) c.in-Some-transaction.is c.in-Err.ensures.tx)
    (subst (λ (o : Option Transaction). IfSome o (λ t. StaysOpen c.in-Some.current.transaction.tx.store.number (parts told len d x.space.store) (parts told len c.commit.new.disk c.commit.new.space.store)
    c.in-Some.current.transaction.work t.work)) c.in-Some-transaction.is c.in-Err.ensures.stays) c.in-Err.ensures.quiet c.in-Err.ensures.room).ends

pub returns-in-Some-transaction-clause-runs : goal.returns-in-Some-transaction-clause-runs
returns-in-Some-transaction-clause-runs g c =
    let meanings = g.B.Boxes.meanings in
    let told = g.D.Disk.told in
    let len = g.D.Disk.len in
    let faults = g.D.Disk.faults in
    let x = c.args.self.now in
    let d = c.args.disk.now in
    let y = c.refused.new.self in
    (Committed-wanting meanings told len faults d c.commit.new.disk x y c.requires.runs c.if-self.false c.in-Some.current (sym c.take.ensures.value ∙ c.in-Some.is) c.commit.new.space c.refused.ensures.space (ap meanings c.refused.ensures.boxes) c.refused.ensures.place _ c.in-Err.uncommitted.refusal c.in-Err.ensures.remains c.refused.ensures.down c.in-Err.ensures.refused (λ not. (c.in-Err.ensures.kept not).leaves) c.in-Err.ensures.any_moment
    (sym c.in-Err.ensures.wanting ∙ ap is_some c.in-Some-transaction.is) c.in-Some-transaction.transaction c.refused.ensures.open (ap (λ (v : Vec OpenRelation Global). v.items) c.refused.ensures.opened)
    (subst (λ (o : Option Transaction). IfSome o (λ t. t.tx ≡ c.in-Some.current.transaction.tx)) c.in-Some-transaction.is c.in-Err.ensures.tx)
    (subst (λ (o : Option Transaction). IfSome o (λ t. StaysOpen c.in-Some.current.transaction.tx.store.number (parts told len d x.space.store) (parts told len c.commit.new.disk c.commit.new.space.store)
    c.in-Some.current.transaction.work t.work)) c.in-Some-transaction.is c.in-Err.ensures.stays) c.in-Err.ensures.quiet c.in-Err.ensures.room).runs

pub returns-in-None-clause-ends : goal.returns-in-None-clause-ends
returns-in-None-clause-ends g c =
    let meanings = g.B.Boxes.meanings in
    let told = g.D.Disk.told in
    let len = g.D.Disk.len in
    let faults = g.D.Disk.faults in
    let x = c.args.self.now in
    let d = c.args.disk.now in
    let y = c.refused-in-None.new.self in
    subst (λ (r : Refusal). (want : Wanted) (s : State) → IsFor meanings told len want s d x
    → Ends (StandsBehind meanings told len want (extensions_of (meanings x.boxes)) s command.Commit d c.commit.new.disk x y) (Lacks (sizes_of x)) (HasFailed faults d c.commit.new.disk) (extensions_of (meanings x.boxes)) s command.Commit (Refused r)) (sym c.refused-in-None.ensures.same)
    (Committed-over meanings told len faults d c.commit.new.disk x y c.requires.runs c.if-self.false c.in-Some.current (sym c.take.ensures.value ∙ c.in-Some.is) c.commit.new.space c.refused-in-None.ensures.space (ap meanings c.refused-in-None.ensures.boxes) c.refused-in-None.ensures.place _ c.in-Err.uncommitted.refusal c.in-Err.ensures.remains c.refused-in-None.ensures.down c.in-Err.ensures.refused (λ not. (c.in-Err.ensures.kept not).leaves) c.in-Err.ensures.any_moment
    (sym c.in-Err.ensures.wanting ∙ ap is_some c.in-None.is) (c.refused-in-None.ensures.open ∙ c.take.ensures.after) (ap (λ (v : Vec OpenRelation Global). v.items) c.refused-in-None.ensures.opened) c.in-Err.ensures.fault (c.in-Err.ensures.aborted c.in-None.is)
    (c.in-Err.ensures.none c.in-None.is)).ends

pub returns-in-None-clause-runs : goal.returns-in-None-clause-runs
returns-in-None-clause-runs g c =
    let meanings = g.B.Boxes.meanings in
    let told = g.D.Disk.told in
    let len = g.D.Disk.len in
    let faults = g.D.Disk.faults in
    let x = c.args.self.now in
    let d = c.args.disk.now in
    let y = c.refused-in-None.new.self in
    (Committed-over meanings told len faults d c.commit.new.disk x y c.requires.runs c.if-self.false c.in-Some.current (sym c.take.ensures.value ∙ c.in-Some.is) c.commit.new.space c.refused-in-None.ensures.space (ap meanings c.refused-in-None.ensures.boxes) c.refused-in-None.ensures.place _ c.in-Err.uncommitted.refusal c.in-Err.ensures.remains c.refused-in-None.ensures.down c.in-Err.ensures.refused (λ not. (c.in-Err.ensures.kept not).leaves) c.in-Err.ensures.any_moment
    (sym c.in-Err.ensures.wanting ∙ ap is_some c.in-None.is) (c.refused-in-None.ensures.open ∙ c.take.ensures.after) (ap (λ (v : Vec OpenRelation Global). v.items) c.refused-in-None.ensures.opened) c.in-Err.ensures.fault (c.in-Err.ensures.aborted c.in-None.is)
    (c.in-Err.ensures.none c.in-None.is)).runs

pub returns-then-self-clause-kept : goal.returns-then-self-clause-kept
returns-then-self-clause-kept g c = λ not. KeepsWanted-none (parts g.D.Disk.told g.D.Disk.len c.args.disk.now c.args.self.now.space.store)

pub returns-in_default-clause-kept : goal.returns-in_default-clause-kept
returns-in_default-clause-kept g c = λ not. KeepsWanted-none (parts g.D.Disk.told g.D.Disk.len c.args.disk.now c.args.self.now.space.store)

pub returns-in-Some-transaction-clause-kept : goal.returns-in-Some-transaction-clause-kept
returns-in-Some-transaction-clause-kept g c = λ not.
    keeps-for g.B.Boxes.meanings g.D.Disk.told g.D.Disk.len c.args.disk.now c.commit.new.disk c.args.self.now c.refused.new.self c.commit.new.space c.refused.ensures.space
    (c.in-Err.ensures.kept (λ fault. not (c.refused.ensures.same ∙ fault)))

pub returns-in-None-clause-kept : goal.returns-in-None-clause-kept
returns-in-None-clause-kept g c = λ not.
    keeps-for g.B.Boxes.meanings g.D.Disk.told g.D.Disk.len c.args.disk.now c.commit.new.disk c.args.self.now c.refused-in-None.new.self c.commit.new.space c.refused-in-None.ensures.space
    (c.in-Err.ensures.kept (λ fault. not (c.refused-in-None.ensures.same ∙ fault)))

pub returns-in-Some-transaction-clause-room : goal.returns-in-Some-transaction-clause-room
returns-in-Some-transaction-clause-room g c =
    let meanings = g.B.Boxes.meanings in
    let told = g.D.Disk.told in
    let len = g.D.Disk.len in
    let faults = g.D.Disk.faults in
    let x = c.args.self.now in
    let d = c.args.disk.now in
    let y = c.refused.new.self in
    subst (λ (r : Refusal). (want : Wanted) (s : State) → IsFor meanings told len want s d x → WantsRoom (meanings x.boxes) (sizes_of x).pages s command.Commit (Refused r)) (sym c.refused.ensures.same)
    (WantsRoom-commit meanings told len faults d c.commit.new.disk x y c.requires.runs c.if-self.false c.in-Some.current (sym c.take.ensures.value ∙ c.in-Some.is) c.commit.new.space c.refused.ensures.space (ap meanings c.refused.ensures.boxes) c.refused.ensures.place _ c.in-Err.uncommitted.refusal c.in-Err.ensures.remains c.refused.ensures.down c.in-Err.ensures.refused (λ not. (c.in-Err.ensures.kept not).leaves) c.in-Err.ensures.any_moment)

pub returns-in-None-clause-room : goal.returns-in-None-clause-room
returns-in-None-clause-room g c =
    let meanings = g.B.Boxes.meanings in
    let told = g.D.Disk.told in
    let len = g.D.Disk.len in
    let faults = g.D.Disk.faults in
    let x = c.args.self.now in
    let d = c.args.disk.now in
    let y = c.refused-in-None.new.self in
    subst (λ (r : Refusal). (want : Wanted) (s : State) → IsFor meanings told len want s d x → WantsRoom (meanings x.boxes) (sizes_of x).pages s command.Commit (Refused r)) (sym c.refused-in-None.ensures.same)
    (WantsRoom-commit meanings told len faults d c.commit.new.disk x y c.requires.runs c.if-self.false c.in-Some.current (sym c.take.ensures.value ∙ c.in-Some.is) c.commit.new.space c.refused-in-None.ensures.space (ap meanings c.refused-in-None.ensures.boxes) c.refused-in-None.ensures.place _ c.in-Err.uncommitted.refusal c.in-Err.ensures.remains c.refused-in-None.ensures.down c.in-Err.ensures.refused (λ not. (c.in-Err.ensures.kept not).leaves) c.in-Err.ensures.any_moment)
