use Rattle.std.proofs.Common.{ℕ, suc, List, [], ◌∷◌, ◌++◌, subst, sym, ◌∙◌}
use Rattle.sb_images.specs.Store.{IsStoreOn}
use Rattle.sb_images.proofs.StoreLemmas.{IsStoreOn-ready}
use Rattle.sb_log.specs.declared.geometry.Geometry.{Geometry}
use Rattle.sb_log.specs.Records.{Change, Record}
use Rattle.sb_log.specs.Views.{Active, active_with}
use Rattle.sb_log.specs.Whole.{with_range}
use Rattle.sb_txn.specs.Steps.{Steps}
use Rattle.sb_txn.specs.Changing.{before, IsNext, behind}
use Rattle.sb_txn.proofs.LogLemmas.{HasSamePages-then}
use Rattle.sb_txn.proofs.ChangeLemmas.{begun, backed, begin_step, back_step, image_step, change_step, Reached, Reached-none, Reached-next, LeavesOnly-next}
use Rattle.sb_txn.proofs.changing.log_change.Given.{Over}
use Rattle.sb_txn.proofs.changing.log_change.Goals as goal
use Rattle.sb_txn.proofs.changing.log_change.Goals.{After-append_if-2, After-append_if-3, After-append_rec}

-- ---- the store behind each of the records that are wanted
module _ (g : Over) (want now : ℕ → List ℕ) (h : Geometry) (opened pending : List Record) (rest : List Active) (ch : Change) where
  begun_at : (c : After-append_if-2 g) → IsStoreOn want now (g.D.Disk.told c.args.disk.now) c.args.journal.now h opened pending (active_with c.args.tx c.args.n ∷ rest) → IsNext (before c.args.wants c.args.tx c.args.n c.args.page c.args.image.now) now opened pending rest ch
      → Reached want now (g.D.Disk.told c.args.disk.now) h opened (active_with c.args.tx c.args.n ∷ rest) (g.D.Disk.told c.append_if.new.disk) c.append_if.new.journal (begun pending (before c.args.wants c.args.tx c.args.n c.args.page c.args.image.now))
  begun_at c store next =
      let b = before c.args.wants c.args.tx c.args.n c.args.page c.args.image.now in
      let active = active_with c.args.tx c.args.n ∷ rest in
      Reached-next want now (g.D.Disk.told c.args.disk.now) h opened active _ _ c.args.journal.now c.append_if.new.journal pending (begun pending b) (Reached-none want now (g.D.Disk.told c.args.disk.now) h opened active c.args.journal.now pending store) (c.append_if.ensures.any_moment want h opened pending)
      (λ at. c.in_ok-append_if.ensures.store want now h opened pending active at (begin_step b now opened pending rest ch next h))

  backed_at : (c : After-append_if-3 g) → Reached want now (g.D.Disk.told c.args.disk.now) h opened (active_with c.args.tx c.args.n ∷ rest) (g.D.Disk.told c.append_if.new.disk) c.append_if.new.journal (begun pending (before c.args.wants c.args.tx c.args.n c.args.page c.args.image.now)) → IsNext (before c.args.wants c.args.tx c.args.n c.args.page c.args.image.now) now opened pending rest ch
      → Reached want now (g.D.Disk.told c.args.disk.now) h opened (active_with c.args.tx c.args.n ∷ rest) (g.D.Disk.told c.append_if-2.new.disk) c.append_if-2.new.journal (backed pending (before c.args.wants c.args.tx c.args.n c.args.page c.args.image.now))
  backed_at c so_far next =
      let b = before c.args.wants c.args.tx c.args.n c.args.page c.args.image.now in
      let active = active_with c.args.tx c.args.n ∷ rest in
      Reached-next want now (g.D.Disk.told c.args.disk.now) h opened active _ _ c.append_if.new.journal c.append_if-2.new.journal (begun pending b) (backed pending b) so_far (c.append_if-2.ensures.any_moment want h opened (begun pending b))
      (λ at. c.in_ok-append_if-2.ensures.store want now h opened (begun pending b) active at (back_step b now opened pending rest ch next h))

  behind_at : (c : After-append_rec g) → Reached want now (g.D.Disk.told c.args.disk.now) h opened (active_with c.args.tx c.args.n ∷ rest) (g.D.Disk.told c.append_if-2.new.disk) c.append_if-2.new.journal (backed pending (before c.args.wants c.args.tx c.args.n c.args.page c.args.image.now)) → IsNext (before c.args.wants c.args.tx c.args.n c.args.page c.args.image.now) now opened pending rest ch
      → Reached want now (g.D.Disk.told c.args.disk.now) h opened (active_with c.args.tx c.args.n ∷ rest) (g.D.Disk.told c.append_if-3.new.disk) c.append_if-3.new.journal (behind pending (before c.args.wants c.args.tx c.args.n c.args.page c.args.image.now))
  behind_at c so_far next =
      let b = before c.args.wants c.args.tx c.args.n c.args.page c.args.image.now in
      let active = active_with c.args.tx c.args.n ∷ rest in
      Reached-next want now (g.D.Disk.told c.args.disk.now) h opened active _ _ c.append_if-2.new.journal c.append_if-3.new.journal (backed pending b) (behind pending b) so_far (c.append_if-3.ensures.any_moment want h opened (backed pending b))
      (λ at. c.in_ok-append_if-3.ensures.store want now h opened (backed pending b) active at (image_step b now opened pending rest ch next h))

-- ---- a crash leaves what the store restores
pub returns-in_err-append_if-clause-any_moment : goal.returns-in_err-append_if-clause-any_moment
returns-in_err-append_if-clause-any_moment g c want now h opened pending rest ch is next store =
    c.append_if.ensures.any_moment want h opened pending (IsStoreOn-ready want now _ c.args.journal.now h opened pending (active_with c.args.tx c.args.n ∷ rest) store)

pub returns-in_err-append_if-2-clause-any_moment : goal.returns-in_err-append_if-2-clause-any_moment
returns-in_err-append_if-2-clause-any_moment g c want now h opened pending rest ch is next store =
    let b = before c.args.wants c.args.tx c.args.n c.args.page c.args.image.now in
    let at = goal.at.returns-in_err-append_if-2-clause-any_moment g c in
    LeavesOnly-next want now _ h opened (active_with c.args.tx c.args.n ∷ rest) _ _ c.append_if.new.journal (begun pending b) (begun_at g want now h opened pending rest ch at.After-append_if-2 store next) (c.append_if-2.ensures.any_moment want h opened (begun pending b))

pub returns-in_err-append_if-3-clause-any_moment : goal.returns-in_err-append_if-3-clause-any_moment
returns-in_err-append_if-3-clause-any_moment g c want now h opened pending rest ch is next store =
    let b = before c.args.wants c.args.tx c.args.n c.args.page c.args.image.now in
    let at = goal.at.returns-in_err-append_if-3-clause-any_moment g c in
    LeavesOnly-next want now _ h opened (active_with c.args.tx c.args.n ∷ rest) _ _ c.append_if-2.new.journal (backed pending b) (backed_at g want now h opened pending rest ch at.After-append_if-3 (begun_at g want now h opened pending rest ch at.After-append_if-2 store next) next) (c.append_if-3.ensures.any_moment want h opened (backed pending b))

pub returns-in_err-append_rec-clause-any_moment : goal.returns-in_err-append_rec-clause-any_moment
returns-in_err-append_rec-clause-any_moment g c want now h opened pending rest ch is next store =
    let b = before c.args.wants c.args.tx c.args.n c.args.page c.args.image.now in
    let at = goal.at.returns-in_err-append_rec-clause-any_moment g c in
    LeavesOnly-next want now _ h opened (active_with c.args.tx c.args.n ∷ rest) _ _ c.append_if-3.new.journal (behind pending b) (behind_at g want now h opened pending rest ch at.After-append_rec
    (backed_at g want now h opened pending rest ch at.After-append_if-3 (begun_at g want now h opened pending rest ch at.After-append_if-2 store next) next) next) (c.append_rec.ensures.any_moment want h opened (behind pending b))

pub returns-clause-any_moment : goal.returns-clause-any_moment
returns-clause-any_moment g c want now h opened pending rest ch is next store =
    let b = before c.args.wants c.args.tx c.args.n c.args.page c.args.image.now in
    let at = goal.at.returns-clause-any_moment g c in
    LeavesOnly-next want now _ h opened (active_with c.args.tx c.args.n ∷ rest) _ _ c.append_if-3.new.journal (behind pending b) (behind_at g want now h opened pending rest ch at.After-append_rec
    (backed_at g want now h opened pending rest ch at.After-append_if-3 (begun_at g want now h opened pending rest ch at.After-append_if-2 store next) next) next) (c.append_rec.ensures.any_moment want h opened (behind pending b))

-- ---- behind the change
pub returns-clause-store : goal.returns-clause-store
returns-clause-store g c want now h opened pending rest ch is next store =
    let b = before c.args.wants c.args.tx c.args.n c.args.page c.args.image.now in
    let at = goal.at.returns-clause-store g c in
    let so_far = behind_at g want now h opened pending rest ch at.After-append_rec
    (backed_at g want now h opened pending rest ch at.After-append_if-3 (begun_at g want now h opened pending rest ch at.After-append_if-2 store next) next) next in
    let then = with_range ch ch.after now in
    let active = active_with c.args.tx c.args.n ∷ rest in
    let after = active_with c.args.tx (suc c.args.n) ∷ rest in
    let step = subst (λ (r : Record). Steps h now then opened (behind pending b) r active after) (sym is) (change_step b now opened pending rest ch next h) in
    subst (λ (r : Record). IsStoreOn want then (g.D.Disk.told c.append_rec.new.disk) c.append_rec.new.journal h opened (behind pending b ++ r ∷ []) after) is
    (c.in_ok-append_rec.ensures.store want now then h opened (behind pending b) active after so_far.store step)

pub returns-clause-pages : goal.returns-clause-pages
returns-clause-pages g c h gates log =
    let one = c.append_if.ensures.stays in
    let two = c.append_if-2.ensures.stays in
    let three = c.append_if-3.ensures.stays in
    HasSamePages-then h (g.D.Disk.told c.args.disk.now) (g.D.Disk.told c.append_if.new.disk) _ (c.in_ok-append_if.ensures.pages h gates log)
    (HasSamePages-then h (g.D.Disk.told c.append_if.new.disk) (g.D.Disk.told c.append_if-2.new.disk) _ (c.in_ok-append_if-2.ensures.pages h (one.gates ∙ gates) (one.log ∙ log))
    (HasSamePages-then h (g.D.Disk.told c.append_if-2.new.disk) (g.D.Disk.told c.append_if-3.new.disk) _ (c.in_ok-append_if-3.ensures.pages h (two.gates ∙ one.gates ∙ gates) (two.log ∙ one.log ∙ log))
    (c.in_ok-append_rec.ensures.pages h (three.gates ∙ two.gates ∙ one.gates ∙ gates) (three.log ∙ two.log ∙ one.log ∙ log))))
