-- A session over a store that was just made, and why there is none.
use Rattle.std.proofs.Common.{◌≡◌, ⊎_elim, inr, ℕ, ◌+◌, true, Option, Some, None, is_some, Result, Ok, Err, IfErr, IfOk, List, [], ◌∷◌, ◌++◌, length, refl, sym, ap, subst, ◌∙◌, arith}
use Rattle.std.proofs.lemmas.Bool.{false≢true}
use Rattle.sb_disk.specs.Disk.{Story, WhereTold}
use Rattle.sb_disk.specs.Moments.{LeavesOnly}
use Rattle.sb_disk.proofs.MomentLemmas.{Leaves-reads, and_then, at_end, weaker}
use Rattle.sb_journal.specs.Chunks.{IsOpen}
use Rattle.sb_journal.specs.Opening.{Begins}
use Rattle.sb_images.specs.Images.{Restores}
use Rattle.sb_images.specs.Layout.{gates_of, log_of}
use Rattle.sb_images.specs.Store.{AreShut, IfTold, IsMounted, IsStoreOn}
use Rattle.sb_images.proofs.LayoutLemmas.{one_geometry}
use Rattle.sb_log.specs.declared.geometry.Geometry.{Geometry}
use Rattle.sb_recover.specs.BadLog.{IsBadLog, IsNoRow, IsPast}
use Rattle.sb_recover.specs.FirstPages.{first_page}
use Rattle.sb_recover.specs.Formatting.{IsFormatting, IsNew, KeepsStore}
use Rattle.sb_recover.specs.Geometries.{HoldsNone}
use Rattle.sb_recover.specs.Laying.{KeepsLog}
use Rattle.sb_recover.specs.Restarted.{WasBad}
use Rattle.sb_recover.specs.declared.fault.OpenFault.{OpenFault}
use Rattle.sb_recover.specs.declared.fault.OpenFault.TheVariants.{Fault, TooSmall, NotStore, BadLog, MissingExtension, Damaged, BadExtensions, AlreadyStore, NoMemory}
use Rattle.sb_relation.specs.Db.{Db}
use Rattle.sb_registry.specs.Boxes.{Meanings}
use Rattle.sb_drive.specs.Spaces.{Wanted}
use Rattle.sb_standing.specs.Tables.{Kept}
use Rattle.sb_txn.specs.Book.{views}
use Rattle.sb_txn.specs.Parts.{Parts}
use Rattle.sb_space.specs.Works.{Stands}
use Rattle.sb_session.specs.declared.session.Open.{Open}
use Rattle.sb_session.specs.declared.session.Session.{Session}
use Rattle.sb_session.specs.Sessions.{IsFor, IsOpenFor, parts_of}
use Rattle.sb_opening.specs.Creating.{CreateErr, IsMadeOnly, IsOutside}
use Rattle.sb_opening.specs.Naming.{named_in}
use Rattle.sb_opening.specs.Opening.{IsStored, MayRefuse, OpeningErr, opened}
use Rattle.sb_opening.proofs.NewLemmas.{kept-new, stored-new}
use Rattle.sb_opening.proofs.OpenLemmas.{told_by}

-- ---- a new store has no bad log, and it is one
-- behind a gate that is open the first one is
first_open : (s : Story) (g : Geometry) (lens : List ℕ) (n : ℕ) → Begins (Some s) (gates_of g) (log_of g) (lens ++ n ∷ []) → IsOpen s.now.reads 4096
first_open s g [] n begins = begins.1
first_open s g (x ∷ lens) n begins = begins.1

-- a bad log has an open gate
bad_opens : (s : Story) (g h : Geometry) (chunk offset : ℕ) → AreShut (Some s) g → IsBadLog s h chunk offset → ⊥
bad_opens s g h chunk offset shut bad = ⊎_elim
    (λ (past : (offset ≡ 0) × IsPast s h bad.lens).
    let count = bad.count in
    let gate = bad.gate in
    shut (4096 + length bad.lens) (omega arith) (omega (arith, count, gate)) past.1.is_open)
    (λ (row : IsNoRow s h bad.lens offset). shut 4096 (omega arith) (omega arith) (first_open s h bad.lens row.n row.begins))
    bad.bad

not_bad : (told : Option Story) (g : Geometry) (chunk offset : ℕ) → is_some told ≡ true → AreShut told g → WasBad told chunk offset → ⊥
not_bad None g chunk offset tells shut bad = false≢true tells
not_bad (Some s) g chunk offset tells shut bad = bad_opens s g bad.0 chunk offset shut bad.2

not_none : (told : Option Story) (g : Geometry) (want : ℕ → List ℕ) → is_some told ≡ true → IsMounted want told g → HoldsNone told → ⊥
not_none None g want tells mounted none = false≢true tells
not_none (Some s) g want tells mounted none = none g mounted.1.store

tells_where : (a b : Option Story) (R : Story → Story → Type 0) → WhereTold a b R → is_some a ≡ true → is_some b ≡ true
tells_where None b R has tells = absurd (false≢true tells)
tells_where (Some s) None R has tells = absurd has
tells_where (Some s) (Some t) R has tells = refl

none_keeps : (old last : Option Story) → HoldsNone old → KeepsStore old last
none_keeps None last none = tt
none_keeps (Some s) last none = λ g store. absurd (none g store)

-- of no relations nothing is missing, and a new store isn't refused itself
outside_only : (n : Meanings) (mid last : Option Story) (g : Geometry) (e : OpenFault) → is_some mid ≡ true → IsMounted (first_page g.pages) mid g → AreShut mid g
    → OpeningErr e mid last → MayRefuse n [] e → IsOutside e
outside_only n mid last g Fault tells mounted shut err may = tt
outside_only n mid last g NoMemory tells mounted shut err may = tt
outside_only n mid last g (Damaged page) tells mounted shut err may = may
outside_only n mid last g (MissingExtension code) tells mounted shut err may = absurd (cc)
outside_only n mid last g (TooSmall have need) tells mounted shut err may = err
outside_only n mid last g NotStore tells mounted shut err may = not_none mid g (first_page g.pages) tells mounted err.0
outside_only n mid last g (BadLog chunk offset) tells mounted shut err may = not_bad mid g chunk offset tells shut err.0
outside_only n mid last g (BadExtensions code) tells mounted shut err may = err
outside_only n mid last g AlreadyStore tells mounted shut err may = err

-- ---- behind the making
pub ok_then : {T E : Type 0} (r : Result T E) (P Q : T → Type 0) → IfOk r P → ((x : T) → P x → Q x) → IfOk r Q
ok_then (Ok x) P Q has leads = leads x has
ok_then (Err e) P Q has leads = tt

module _ (g : Geometry) (old mid : Option Story) (new : IsNew g old mid) where
  tells-made : is_some old ≡ true → is_some mid ≡ true
  tells-made tells = tells_where old mid (KeepsLog g) new.log tells

  -- what an opening says of contents that stand for a database
  pub if_stored : (m : Meanings) (IsSo : Type 0) → ((stored : IsStored m mid g (first_page g.pages) []) → named_in stored.committed.kept ≡ [] → IsSo) → IfTold old IsSo
  if_stored m IsSo leads = told_by old IsSo (λ tells. leads (stored-new m mid g (tells-made tells) new.mounted) (ap named_in (kept-new m mid g (tells-made tells) new.mounted)))

  pub leaves-made : (last : Option Story) → LeavesOnly old mid (IsFormatting g) → LeavesOnly mid last (Restores g (first_page g.pages)) → LeavesOnly old last (IsFormatting g)
  leaves-made last first behind = and_then old mid last (IsFormatting g) first (weaker mid last (Restores g (first_page g.pages)) (IsFormatting g) (λ image is. inr is) behind)

  pub keeps-made : (last : Option Story) → KeepsStore old last
  keeps-made last = none_keeps old last new.before

  outside : (n : Meanings) (last : Option Story) (e : OpenFault) → OpeningErr e mid last
      → ((m : Meanings) (h : Geometry) (want : Wanted) (db : Db) (stored : IsStored m mid h want db) → MayRefuse n (named_in stored.committed.kept) e) → IfTold old (IsOutside e)
  outside n last e err may = told_by old (IsOutside e)
      (λ tells. let told = tells-made tells in
      let stored = stored-new n mid g told new.mounted in
      outside_only n mid last g e told new.mounted new.shut err
      (subst (λ (kept : List Kept). MayRefuse n (named_in kept) e) (kept-new n mid g told new.mounted) (may n g (first_page g.pages) [] stored)))

  pub made_only : {T : Type 0} (n : Meanings) (last : Option Story) (r : Result T OpenFault) → LeavesOnly mid last (Restores g (first_page g.pages)) → IfErr r (λ e. OpeningErr e mid last)
      → IfErr r (λ e. (m : Meanings) (h : Geometry) (want : Wanted) (db : Db) (stored : IsStored m mid h want db) → MayRefuse n (named_in stored.committed.kept) e)
      → IfErr r (λ e. IsMadeOnly e g old last)
  made_only n last (Ok x) leaves err may = tt
  made_only n last (Err e) leaves err may = record { between = mid; made = new; refused = err; leaves = leaves; outside = outside n last e err may }

pub created : {T D : Type 0} (r : Result T OpenFault) (told : D → Option Story) (size : ℕ) (g : Geometry) (old new : D) → IfErr r (λ e. IsMadeOnly e g (told old) (told new))
    → IfErr r (λ e. CreateErr told e size g old new)
created (Ok x) told size g old new made = tt
created (Err e) told size g old new made = inr made

-- ---- its sizes
-- the pages wanted are those of the store that a crash leaves
pub size_told : (p : Parts) (want now : ℕ → List ℕ) (g : Geometry) → Stands want now p → (mid : Option Story) → LeavesOnly mid p.told (Restores g want) → p.store.pool.geometry ≡ g
size_told p want now g stands mid leaves = by p.told refl
  where
    by : (told : Option Story) → p.told ≡ told → p.store.pool.geometry ≡ g
    by None at = absurd (false≢true (ap is_some (sym at) ∙ stands.tells))
    by (Some s) at =
        let of = stands.store.2.store in
        let store = subst (λ (told : Option Story). IsStoreOn want now told p.store.journal p.store.pool.geometry stands.store.0 stands.store.1 (views p.store.book.actives)) at of in
        let restores = at_end mid (Some s) (Restores g want) (subst (λ (told : Option Story). LeavesOnly mid told (Restores g want)) at leaves) s.now.reads (Leaves-reads s.now) in
        one_geometry p.store.pool.geometry g s.now.reads store.ready.holds.placed.store restores.store

pub size-made : {B D : Type 0} (meanings : B → Meanings) (told : D → Option Story) (len : D → ℕ) (want : Wanted) (g : Geometry) (db : Db) (f : D) (x : Session B)
    → IsFor meanings told len want (opened (meanings x.boxes) db) f x → (mid : Option Story) → LeavesOnly mid (told f) (Restores g want) → x.space.store.pool.geometry ≡ g
size-made {B} {D} meanings told len want g db f x of mid leaves = by db x.«open» (of.stands refl)
  where
    by : (db : Db) (o : Option Open) → IsOpenFor (meanings x.boxes) x.place want db (parts_of told len f x) o None → x.space.store.pool.geometry ≡ g
    by db None rests = size_told (parts_of told len f x) want rests.has.now g rests.has.stands mid leaves
    by db (Some o) inside = absurd inside
