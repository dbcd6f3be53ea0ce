-- What a commit of the pages leaves.
use Rattle.std.proofs.Common.{◌≡◌, ℕ, List, [], refl, sym, ap, subst}
use Rattle.std.proofs.lemmas.List.Elements.{All-nil}
use Rattle.sb_relation.specs.Db.{Db, Key}
use Rattle.sb_fold.specs.Finish.{freed}
use Rattle.sb_fold.specs.Outcome.{Going}
use Rattle.sb_deferred.specs.Complete.{IsComplete}
use Rattle.sb_deferred.specs.Waiting.{nothing}
use Rattle.sb_deferred.proofs.CommitLemmas.{first-complete}
use Rattle.sb_cascade.specs.Fitting.{IsFitting}
use Rattle.sb_disk.specs.Moments.{LeavesOnly}
use Rattle.sb_images.specs.Images.{IsOldOrNew}
use Rattle.sb_log.specs.declared.geometry.Geometry.{Geometry}
use Rattle.sb_registry.specs.Boxes.{Meanings}
use Rattle.sb_drive.specs.Slots.{Slots}
use Rattle.sb_drive.specs.Spaces.{Wanted}
use Rattle.sb_map.specs.declared.place.Place.{Place}
use Rattle.sb_tables.specs.Tables.{Tables, db_of}
use Rattle.sb_tables.specs.Standing.{Keeps}
use Rattle.sb_tables.specs.OpenRelation.{OpenRelation}
use Rattle.sb_tables.specs.Opened.{IsDurable}
use Rattle.sb_txn.specs.Parts.{Parts}
use Rattle.sb_space.specs.Table.{slots_in}
use Rattle.sb_space.specs.Works.{HasPages}
use Rattle.sb_tables.specs.Work.{Work}
use Rattle.sb_tables.specs.Working.{extensions_of}
use Rattle.sb_transactions.specs.Commits.{IsDone, LeavesEither}
use Rattle.sb_transactions.specs.Transactions.{IsAt, IsCommitted, IsFinished, IsSettled, MayStayOpen}
use Rattle.sb_transactions.proofs.StayLemmas.{MayStayOpen-as, MayStayOpen-over}

-- work of which nothing is left keeps its database for a commit
module _ (m : Meanings) (place : Place) (want : Wanted) (tx : ℕ) (g : Going) (p : Parts) (w : Work) (at : IsAt m place want tx g p w) (finished : IsFinished m g w) where
  settled : IsSettled m at.kept nothing
  settled = record {
    lasting = at.settled.lasting;
    mirrored = at.settled.mirrored;
    paired = at.settled.paired;
    apart = at.settled.apart;
    complete = subst (λ (db : Db). IsComplete db nothing) at.db (first-complete (extensions_of m) g.db finished.holds);
    rules = at.settled.rules;
    fit = All-nil (IsFitting (db_of at.kept));
  }

  pub IsCommitted-now : IsCommitted m place.root p.store.pool.geometry.pages at.has.now g.db
  IsCommitted-now = record {
    formed = record { whole = at.has.stands.whole; table = at.has.table };
    kept = at.kept;
    is = at.db;
    keeps = subst (λ (s : Slots). Keeps m IsDurable place.root s [] at.kept) at.has.slots
        (subst (λ (gone : List ℕ). Keeps m IsDurable place.root at.slots gone at.kept) finished.gone at.keeps);
    settled = settled;
  }

  -- whose relations that are open may stay so
  stays : MayStayOpen m place.root p.store.pool.geometry.pages at.has.now w.opened.items
  stays =
      MayStayOpen-over m place.root p.store.pool.geometry.pages at.has.now at.kept w.opened.items
      (subst (λ (s : Slots). Tables m IsDurable place.root s at.kept) at.has.slots at.keeps.tables) at.opened

  pub LeavesEither-commit : (q : Parts) → ((want : Wanted) (s : Slots) (has : HasPages want s p) → LeavesOnly p.told q.told (IsOldOrNew p.store.pool.geometry want has.now)) → LeavesEither m place.root want p g q
  LeavesEither-commit q leaves = record { pages = at.has.now; committed = IsCommitted-now; leaves = leaves want at.slots at.has }

  pub IsDone-commit : (q : Parts) → q.store.pool.geometry ≡ p.store.pool.geometry → ((want : Wanted) (s : Slots) (has : HasPages want s p) → HasPages has.now s q)
      → ((want : Wanted) (s : Slots) (has : HasPages want s p) → LeavesOnly p.told q.told (IsOldOrNew p.store.pool.geometry want has.now)) → IsDone m place.root want w.picks.items w.opened.items p g q
  IsDone-commit q sizes commits leaves =
      let same : p.store.pool.geometry.pages ≡ q.store.pool.geometry.pages = ap (λ (g : Geometry). g.pages) (sym sizes) in
      record {
        now = at.has.now;
        rests = record {
          has = subst (λ (n : ℕ). HasPages at.has.now (slots_in n at.has.now) q) same (subst (λ (s : Slots). HasPages at.has.now s q) at.has.slots (commits want at.slots at.has));
          committed = subst (λ (n : ℕ). IsCommitted m place.root n at.has.now g.db) same IsCommitted-now;
        };
        opened = MayStayOpen-as m place.root at.has.now p.store.pool.geometry q.store.pool.geometry w.opened.items w.opened.items sizes refl stays;
        picked = at.picked;
        leaves = leaves want at.slots at.has;
      }

-- to give back the pages of what went changes nothing of that
module _ (m : Meanings) (root : ℕ) (want : Wanted) (g : Going) (p q : Parts) where
  pub IsDone-freed : (picks : List Key) (opened : List OpenRelation) → IsDone m root want picks opened p g q → IsDone m root want picks opened p (freed g) q
  IsDone-freed picks opened done = record { now = done.now; rests = done.rests; opened = done.opened; picked = done.picked; leaves = done.leaves }

  pub LeavesEither-freed : LeavesEither m root want p g q → LeavesEither m root want p (freed g) q
  LeavesEither-freed either = record { pages = either.pages; committed = either.committed; leaves = either.leaves }
