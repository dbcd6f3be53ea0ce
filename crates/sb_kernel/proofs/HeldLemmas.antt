-- Images that hold the last commit of a session.
use Rattle.std.proofs.Common.{◌≡◌, ℕ, false, Option, Some, None, List, sym, subst}
use Rattle.sb_disk.specs.Disk.{Story}
use Rattle.sb_disk.specs.Moments.{IsSettled, LeavesOnly, contents}
use Rattle.sb_disk.proofs.MomentLemmas.{at_end, weaker}
use Rattle.sb_images.specs.Images.{Restores}
use Rattle.sb_images.specs.Store.{IsMounted}
use Rattle.sb_log.specs.declared.geometry.Geometry.{Geometry}
use Rattle.sb_relation.specs.Db.{Db}
use Rattle.sb_plain.specs.declared.reply.Reply.{Reply}
use Rattle.sb_plain.specs.State.{State, Transaction as PlainTransaction, committed}
use Rattle.sb_registry.specs.Boxes.{Meanings}
use Rattle.sb_drive.specs.Spaces.{Wanted}
use Rattle.sb_opening.specs.Place.{Place}
use Rattle.sb_txn.specs.Clauses.{HoldsPages, LeavesWanted}
use Rattle.sb_txn.specs.Parts.{Parts}
use Rattle.sb_txn.proofs.KeepsLemmas.{LeavesWanted-none}
use Rattle.sb_opening.specs.Calls.{KeepsWanted}
use Rattle.sb_opening.specs.Table.{table_len}
use Rattle.sb_opening.specs.Transactions.{IsCommitted}
use Rattle.sb_vectors.specs.Vectors.{AreSameBoxes}
use Rattle.sb_opening.specs.Naming.{all_live, named_in}
use Rattle.sb_opening.proofs.CommittedLemmas.{committed-by-all, committed-by-same, same-named}
use Rattle.sb_opening.specs.Open.{Open}
use Rattle.sb_opening.specs.Session.{Session}
use Rattle.sb_opening.specs.Sessions.{IsFor, IsOpenFor, KeepsSession, parts_of}
use Rattle.sb_kernel.specs.World.{World, IsNow}
use Rattle.sb_kernel.specs.Crashes.{HoldsDatabase}
use Rattle.sb_kernel.specs.Answering.{Closes}
use Rattle.sb_kernel.specs.Laws.{HeldIsStored, RestsHeld}

same_back : (m n : Meanings) → AreSameBoxes m n → AreSameBoxes n m
same_back m n same = record { methods = λ code. sym (same.methods code); attachments = λ code. sym (same.attachments code) }

-- ---- what keeps a database
-- what was committed with the boxes now is so with those at first, all live
pub Holds-restored : (m n : Meanings) (g : Geometry) (root : ℕ) (want : Wanted) (db : Db) → AreSameBoxes m n → root ≡ table_len g.pages → IsCommitted n root g.pages want db
    → (image : List ℕ) → Restores g want image → HoldsDatabase m image db
Holds-restored m n g root want db same at of image restores = record {
  geometry = g;
  want = want;
  restores = restores;
  committed =
      let all : IsCommitted (all_live n) (table_len g.pages) g.pages want db =
      subst (λ (r : ℕ). IsCommitted (all_live n) r g.pages want db) at (committed-by-all n root g.pages want db of) in
      committed-by-same n m (table_len g.pages) g.pages want db all (same-named n m (named_in all.kept) (same_back m n same));
}

-- the pages wanted keep the committed database, within a transaction too
committed_for : (m : Meanings) (place : Place) (want : Wanted) (db : Db) (p : Parts) (o : Option Open) (t : Option PlainTransaction) → IsOpenFor m place want db p o t
    → IsCommitted m place.root p.store.pool.geometry.pages want db
committed_for m place want db p None None rests = rests.committed
committed_for m place want db p (Some o) (Some t) inside = inside.begun.committed
committed_for m place want db p None (Some t) none = absurd none
committed_for m place want db p (Some o) None none = absurd none

-- there are pages now beside them
store_for : (m : Meanings) (place : Place) (want : Wanted) (db : Db) (p : Parts) (o : Option Open) (t : Option PlainTransaction) → IsOpenFor m place want db p o t
    → (now : ℕ → List ℕ) × HoldsPages want now p
store_for m place want db p None None rests = (rests.has.now, rests.has.stands.store)
store_for m place want db p (Some o) (Some t) inside = (inside.at.has.now, inside.at.has.stands.store)
store_for m place want db p None (Some t) none = absurd none
store_for m place want db p (Some o) None none = absurd none

-- ---- a session that isn't down
module _ {B D : Type 0} (w : World B D) (m : Meanings) (d : D) (x : Session B) (s : State) (now : IsNow w m d x s) (up : s.down ≡ false) where
  -- what restores the pages wanted holds the last commit
  pub Holds-last : (want : Wanted) → IsFor w.meanings w.told w.len want s d x → (image : List ℕ) → Restores x.space.store.pool.geometry want image → HoldsDatabase m image (committed s)
  Holds-last want for =
      Holds-restored m (w.meanings x.boxes) x.space.store.pool.geometry x.place.root want (committed s) now.same now.root
      (committed_for (w.meanings x.boxes) x.place want (committed s) (parts_of w.told w.len d x) x.open s.transaction (for.stands up))

  -- while the pages wanted are left, it is
  pub leaves-last : (q : Parts) → LeavesWanted (parts_of w.told w.len d x) q → LeavesOnly (w.told d) q.told (λ image. HoldsDatabase m image (committed s))
  leaves-last q leaves =
      let want = now.stands.want in
      let for = now.stands.is in
      let store = store_for (w.meanings x.boxes) x.place want (committed s) (parts_of w.told w.len d x) x.open s.transaction (for.stands up) in
      weaker (w.told d) q.told (Restores x.space.store.pool.geometry want) (λ image. HoldsDatabase m image (committed s)) (Holds-last want for) (leaves.each want store.0 store.1)

  pub leaves-still : LeavesOnly (w.told d) (w.told d) (λ image. HoldsDatabase m image (committed s))
  leaves-still = leaves-last (parts_of w.told w.len d x) (LeavesWanted-none (parts_of w.told w.len d x))

pub rests-held : {B D : Type 0} (w : World B D) → RestsHeld w
rests-held w m disk x s image now up left = at_end (w.told disk) (w.told disk) (λ image. HoldsDatabase m image (committed s)) (leaves-still w m disk x s now up) image left

-- an abort leaves what was wanted
pub Closes-wanted : {B D : Type 0} (w : World B D) (old new : D) (x y : Session B) (reply : Reply) → KeepsSession w.len w.faults old new x y reply
    → KeepsWanted (parts_of w.told w.len old x) (parts_of w.told w.len new y) → Closes w old new x
Closes-wanted w old new x y reply keeps wanted = record {
  later = keeps.later;
  leaves = λ m s now up. leaves-last w m old x s now up (parts_of w.told w.len new y) wanted.leaves;
  wanted = record { each = wanted.leaves.each };
  ended = λ down. (keeps.ended down).0;
}

-- ---- the next run
mounted_of : (told : Option Story) (g : Geometry) (want : Wanted) (image : List ℕ) → IsSettled told → contents told ≡ image → Restores g want image → IsMounted want told g
mounted_of None g want image settled is restores = tt
mounted_of (Some s) g want image settled is restores = (settled, subst (λ (bytes : List ℕ). Restores g want bytes) (sym is) restores)

pub held-stored : HeldIsStored
held-stored m n image db told holds same tells settled is = record {
  geometry = holds.geometry;
  want = holds.want;
  stored = record {
    tells = tells;
    mounted = mounted_of told holds.geometry holds.want image settled is holds.restores;
    committed = committed-by-same m n (table_len holds.geometry.pages) holds.geometry.pages holds.want db holds.committed same;
  };
}
