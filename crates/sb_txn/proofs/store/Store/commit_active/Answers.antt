use Rattle.std.proofs.Common.{rules, ◌≡◌, ◌∷◌, ⊎_elim, false, true, Err, refl, sym, ◌∙◌, ap, subst, arith}
use Rattle.sb_disk.specs.Causes.{Rose}
use Rattle.sb_txn.specs.Book.{Book, others, with_actives}
use Rattle.sb_txn.specs.Clauses.{Commits}
use Rattle.sb_txn.specs.Parts.{parts}
use Rattle.sb_txn.specs.State.{together}
use Rattle.sb_txn.proofs.CalledLemmas.{transaction_with-among}
use Rattle.sb_txn.proofs.EndLemmas.{Commits-idle, LeavesCommit-idle, Finishes, LeavesFinish, Commits-finish, LeavesCommit-finish, Commits-first, LeavesCommit-first, of_found, room_finish, standing_few}
use Rattle.sb_txn.proofs.KeepsLemmas.{not_both, StaysReady-ok, StaysReady-fault}
use Rattle.sb_txn.proofs.OrderLemmas.{Holds-first}
use Rattle.sb_txn.proofs.store.Store.commit_active.Goals as goal

-- ---- no record
pub returns-then-not-is_begun-clause-any_moment : goal.returns-then-not-is_begun-clause-any_moment
returns-then-not-is_begun-clause-any_moment g c o is = LeavesCommit-idle _ (g.D.Disk.len c.args.disk.now) c.args.self.now.journal c.args.self.now.pool c.args.self.now.book c.args.self.now.book o

pub returns-then-not-is_begun-clause-commits : goal.returns-then-not-is_begun-clause-commits
returns-then-not-is_begun-clause-commits g c o is =
    let rest = others c.args.tx c.args.self.now.book.actives in
    let front = with_actives c.args.self.now.book (o ∷ rest) in
    let off : o.begun ≡ false = sym (c.is_begun.ensures o is) ∙ c.if-not-is_begun.true in
    subst (λ (b : Book). Commits (parts g.D.Disk.told g.D.Disk.len c.args.disk.now c.args.self.now) (parts g.D.Disk.told g.D.Disk.len c.args.disk.now (together c.args.self.now.journal c.args.self.now.pool b)) o rest) (sym c.end.ensures)
    (Commits-first (g.D.Disk.told c.args.disk.now) (g.D.Disk.len c.args.disk.now) c.args.self.now.journal c.args.self.now.pool c.args.self.now.book c.args.tx o is _
    (Commits-idle (g.D.Disk.told c.args.disk.now) (g.D.Disk.len c.args.disk.now) c.args.self.now.journal c.args.self.now.pool front o rest refl off))

pub returns-then-not-is_begun-clause-keeps : goal.returns-then-not-is_begun-clause-keeps
returns-then-not-is_begun-clause-keeps g c =
    let up = c.requires.up in
    let found = transaction_with-among c.args.tx c.args.self.now.book.actives c.requires.among in
    let still : c.end.new.self.down ≡ false = ap (λ (b : Book). b.down) c.end.ensures ∙ up in
    let store = c.requires.ready up in
    StaysReady-ok g.D.Disk.told g.D.Disk.len g.D.Disk.faults tt c.args.disk.now c.args.disk.now c.args.self.now (together c.args.self.now.journal c.args.self.now.pool c.end.new.self) up still refl refl (search rules)
    (λ _. (_, store.1, (returns-then-not-is_begun-clause-commits g c found.0 found.1).pages store.0 store.1 store.2.0 store.2.1 store.2.2))

-- ---- the records of its end
pub overflow_cast-standing_of : goal.overflow_cast-standing_of
overflow_cast-standing_of g c =
    let few = standing_few (parts g.D.Disk.told g.D.Disk.len c.args.disk.now c.args.self.now) c.args.tx c.requires.up c.requires.ready in
    omega (arith, few, c.standing_of.ensures)

pub returns-in-Err-clause-keeps : goal.returns-in-Err-clause-keeps
returns-in-Err-clause-keeps g c =
    let up = c.requires.up in
    let s = c.args.self.now in
    let told = g.D.Disk.told c.args.disk.now in
    let size = g.D.Disk.len c.args.disk.now in
    let found = transaction_with-among c.args.tx s.book.actives c.requires.among in
    let rest = others c.args.tx s.book.actives in
    let begun : found.0.begun ≡ true = sym (c.is_begun.ensures found.0 found.1) ∙ c.if-not-is_begun.false in
    let store = c.requires.ready up in
    let holds = Holds-first store.0 store.1 told size s.journal s.pool s.book store.2.0 store.2.1 c.args.tx found.0 found.1 store.2.2 in
    let room = room_finish store.0 store.1 told size s.journal s.pool (with_actives s.book (found.0 ∷ rest)) found.0 rest refl store.2.0 store.2.1 holds begun in
    let call = c.in-Err.ensures in
    let rose = ⊎_elim (λ (on : s.journal.failed ≡ true). not_both s.journal.failed holds.up on) (λ (is : Rose (g.D.Disk.faults c.args.disk.now) (g.D.Disk.faults c.finish.new.disk)). is) (call.cause (ap Err (call.err room.0 room.1))) in
    StaysReady-fault g.D.Disk.told g.D.Disk.len g.D.Disk.faults _ _ s (together c.finish.new.journal s.pool c.fail.new.self) up (ap (λ (b : Book). b.down) c.fail.ensures) call.stays.size refl call.stays.later rose

pub returns-in-Err-clause-any_moment : goal.returns-in-Err-clause-any_moment
returns-in-Err-clause-any_moment g c o is =
    let up = c.requires.up in
    let leaves = of_found (λ tx n undone. LeavesFinish (g.D.Disk.told c.args.disk.now) (g.D.Disk.told c.finish.new.disk) c.args.self.now.journal tx n undone) c.args.tx c.args.self.now.book.actives o is c.standing_of.result c.is_undone.result
    c.standing_of.ensures (c.is_undone.ensures o is) (record { each = c.finish.ensures.any_moment }) in
    let rest = others c.args.tx c.args.self.now.book.actives in
    let front = with_actives c.args.self.now.book (o ∷ rest) in
    LeavesCommit-first (g.D.Disk.told c.args.disk.now) (g.D.Disk.len c.args.disk.now) c.args.self.now.journal c.args.self.now.pool c.args.self.now.book c.args.tx o is
    (parts g.D.Disk.told g.D.Disk.len c.finish.new.disk (together c.finish.new.journal c.args.self.now.pool c.args.self.now.book))
    (LeavesCommit-finish _ _ (g.D.Disk.len c.args.disk.now) (g.D.Disk.len c.finish.new.disk) c.args.self.now.journal c.finish.new.journal c.args.self.now.pool front c.args.self.now.book o rest refl leaves)

pub returns-in-Ok-clause-any_moment : goal.returns-in-Ok-clause-any_moment
returns-in-Ok-clause-any_moment g c o is =
    let up = c.requires.up in
    let leaves = of_found (λ tx n undone. LeavesFinish (g.D.Disk.told c.args.disk.now) (g.D.Disk.told c.finish.new.disk) c.args.self.now.journal tx n undone) c.args.tx c.args.self.now.book.actives o is c.standing_of.result c.is_undone.result
    c.standing_of.ensures (c.is_undone.ensures o is) (record { each = c.finish.ensures.any_moment }) in
    let rest = others c.args.tx c.args.self.now.book.actives in
    let front = with_actives c.args.self.now.book (o ∷ rest) in
    LeavesCommit-first (g.D.Disk.told c.args.disk.now) (g.D.Disk.len c.args.disk.now) c.args.self.now.journal c.args.self.now.pool c.args.self.now.book c.args.tx o is
    (parts g.D.Disk.told g.D.Disk.len c.finish.new.disk (together c.finish.new.journal c.args.self.now.pool c.args.self.now.book))
    (LeavesCommit-finish _ _ (g.D.Disk.len c.args.disk.now) (g.D.Disk.len c.finish.new.disk) c.args.self.now.journal c.finish.new.journal c.args.self.now.pool front c.args.self.now.book o rest refl leaves)

pub returns-in-Ok-clause-commits : goal.returns-in-Ok-clause-commits
returns-in-Ok-clause-commits g c o is =
    let rest = others c.args.tx c.args.self.now.book.actives in
    let front = with_actives c.args.self.now.book (o ∷ rest) in
    let up = c.requires.up in
    let begun : o.begun ≡ true = sym (c.is_begun.ensures o is) ∙ c.if-not-is_begun.false in
    let call = c.in-Ok.ensures in
    let finish = of_found (λ tx n undone. Finishes (g.D.Disk.told c.args.disk.now) (g.D.Disk.told c.finish.new.disk) c.args.self.now.journal c.finish.new.journal tx n undone) c.args.tx c.args.self.now.book.actives o is c.standing_of.result c.is_undone.result
    c.standing_of.ensures (c.is_undone.ensures o is) (record { done = call.done; pages = call.pages; stands = call.stays.stands; store = call.store }) in
    subst (λ (b : Book). Commits (parts g.D.Disk.told g.D.Disk.len c.args.disk.now c.args.self.now) (parts g.D.Disk.told g.D.Disk.len c.finish.new.disk (together c.finish.new.journal c.args.self.now.pool b)) o rest) (sym c.end-in-Ok.ensures)
    (Commits-first (g.D.Disk.told c.args.disk.now) (g.D.Disk.len c.args.disk.now) c.args.self.now.journal c.args.self.now.pool c.args.self.now.book c.args.tx o is _
    (Commits-finish (g.D.Disk.told c.args.disk.now) (g.D.Disk.told c.finish.new.disk) (g.D.Disk.len c.args.disk.now) (g.D.Disk.len c.finish.new.disk) c.args.self.now.journal c.finish.new.journal c.args.self.now.pool front o rest refl begun call.stays.size finish))

pub returns-in-Ok-clause-keeps : goal.returns-in-Ok-clause-keeps
returns-in-Ok-clause-keeps g c =
    let up = c.requires.up in
    let found = transaction_with-among c.args.tx c.args.self.now.book.actives c.requires.among in
    let still : c.end-in-Ok.new.self.down ≡ false = ap (λ (b : Book). b.down) c.end-in-Ok.ensures ∙ up in
    let store = c.requires.ready up in
    let call = c.in-Ok.ensures in
    StaysReady-ok g.D.Disk.told g.D.Disk.len g.D.Disk.faults tt c.args.disk.now c.finish.new.disk c.args.self.now (together c.finish.new.journal c.args.self.now.pool c.end-in-Ok.new.self) up still call.stays.size refl call.stays.later
    (λ _. (_, store.1, (returns-in-Ok-clause-commits g c found.0 found.1).pages store.0 store.1 store.2.0 store.2.1 store.2.2))
