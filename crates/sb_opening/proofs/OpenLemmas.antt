-- A session that is opened, or isn't.
use Rattle.std.proofs.Common.{◌≡◌, ◌⊎◌, ⊎_elim, inl, inr, ℕ, ◌<◌, ◌≤◌, true, false, Option, Some, None, is_some, Result, IsErrOf, List, [], All, Vec, Global, refl, sym, ap, subst, ◌∙◌}
use Rattle.std.specs.Result.{IsErrAnd}
use Rattle.std.proofs.lemmas.Bool.{false≢true}
use Rattle.std.proofs.lemmas.List.Elements.{All-nil}
use Rattle.sb_disk.specs.Causes.{Rose}
use Rattle.sb_disk.specs.Disk.{Story, WhereTold}
use Rattle.sb_disk.specs.Moments.{LeavesOnly}
use Rattle.sb_disk.proofs.CauseLemmas.{Rose-later}
use Rattle.sb_disk.proofs.MomentLemmas.{and_then, at_end, started}
use Rattle.sb_images.specs.Images.{Restores}
use Rattle.sb_images.specs.Store.{IfTold, IsMounted}
use Rattle.sb_log.specs.declared.geometry.Geometry.{Geometry}
use Rattle.sb_recover.specs.Restarted.{IsRestarted}
use Rattle.sb_recover.specs.declared.fault.OpenFault.{OpenFault}
use Rattle.sb_recover.specs.declared.fault.OpenFault.TheVariants.{Fault, TooSmall, NotStore, BadLog, MissingExtension, Damaged, BadExtensions, AlreadyStore, NoMemory}
use Rattle.sb_relation.specs.Db.{Db}
use Rattle.sb_registry.specs.Boxes.{Meanings}
use Rattle.sb_drive.specs.Slots.{Slots}
use Rattle.sb_drive.specs.Spaces.{Wanted}
use Rattle.sb_map.specs.declared.place.Place.{Place}
use Rattle.sb_standing.specs.Standing.{owners_in}
use Rattle.sb_standing.specs.Tables.{Kept, Tables}
use Rattle.sb_session.specs.OpenRelation.{OpenRelation}
use Rattle.sb_session.specs.Opened.{IsDurable, IsOpen}
use Rattle.sb_txn.specs.Book.{Book}
use Rattle.sb_txn.specs.Clauses.{HoldsPages}
use Rattle.sb_txn.specs.Parts.{Parts, parts, stored}
use Rattle.sb_txn.specs.Opened.{IsOpened}
use Rattle.sb_txn.specs.State.{State}
use Rattle.sb_space.specs.Opening.{IsFirstDamaged, IsSpace, NamesDamage, SpaceErr}
use Rattle.sb_space.specs.Table.{IsTable, slots_in, table_len}
use Rattle.sb_space.specs.Telling.{told_from, told_map}
use Rattle.sb_space.specs.Transactions.{AreFormed}
use Rattle.sb_space.specs.Works.{HasPages}
use Rattle.sb_space.proofs.TablePages.{tables_by_pages}
use Rattle.sb_session.specs.Transactions.{IsCommitted, Rests}
use Rattle.sb_session.specs.declared.session.Session.{Session}
use Rattle.sb_session.specs.Sessions.{CanRun, IsFor}
use Rattle.sb_session.proofs.StayLemmas.{MayStayOpen-none}
use Rattle.sb_opening.specs.declared.codes.Named.{Named}
use Rattle.sb_opening.specs.Looking.{IsLook, IsLookErr, OverCatalogue, RestsStill}
use Rattle.sb_opening.specs.Naming.{HasLive, IsAbsent, all_live, first_absent, named_in}
use Rattle.sb_opening.specs.Opening.{IsCatalogued, IsStored, MayRefuse, NamesEntry, NamesMissing, NamesTable, OpeningErr, Wants, WasLookedAt, opened}
use Rattle.sb_opening.specs.Owners.{HasNoStray, TellsStray}
use Rattle.sb_opening.proofs.CommittedLemmas.{committed-live}
use Rattle.sb_opening.proofs.OwnerLemmas.{none-stray}

-- ---- the space isn't opened
was_looked_at : (old new : Option Story) → ((want : ℕ → List ℕ) (g : Geometry) → IsMounted want old g → LeavesOnly old new (Restores g want)) → (g : Geometry) → WhereTold old new (IsRestarted g) → WasLookedAt old new
was_looked_at old new leaves g restarted = record {
  between = new;
  restarted = (g, restarted);
  leaves = λ want h mounted. started new (Restores h want) (at_end old new (Restores h want) (leaves want h mounted));
}

module _ (old new : Option Story) where
  pub OpeningErr-space : (e : OpenFault) → ((want : ℕ → List ℕ) (g : Geometry) → IsMounted want old g → LeavesOnly old new (Restores g want)) → SpaceErr e old new → OpeningErr e old new
  OpeningErr-space (Damaged page) leaves err = was_looked_at old new leaves err.0 err.1
  OpeningErr-space (MissingExtension code) leaves err = absurd err
  OpeningErr-space NoMemory leaves (inl same) = inl same
  OpeningErr-space NoMemory leaves (inr restarted) = inr (was_looked_at old new leaves restarted.0 restarted.1)
  OpeningErr-space Fault leaves err = err
  OpeningErr-space (TooSmall have need) leaves err = err
  OpeningErr-space NotStore leaves err = err
  OpeningErr-space (BadLog chunk offset) leaves err = err
  OpeningErr-space (BadExtensions code) leaves err = err
  OpeningErr-space AlreadyStore leaves err = err

  pub NamesTable-space : (e : OpenFault) → NamesDamage e old → NamesTable e old
  NamesTable-space (Damaged page) names = λ want g mounted.
      told_map old (IsFirstDamaged g.pages want page) ((IsTable g.pages want → ⊥) → IsFirstDamaged g.pages want page) (λ first not. first) (names want g mounted)
  NamesTable-space (MissingExtension code) names = tt
  NamesTable-space NoMemory names = tt
  NamesTable-space Fault names = tt
  NamesTable-space (TooSmall have need) names = tt
  NamesTable-space NotStore names = tt
  NamesTable-space (BadLog chunk offset) names = tt
  NamesTable-space (BadExtensions code) names = tt
  NamesTable-space AlreadyStore names = tt

  -- an owner table that has its form isn't damaged itself
  pub NamesEntry-space : (e : OpenFault) → NamesDamage e old → SpaceErr e old new → NamesEntry e old
  NamesEntry-space (Damaged page) names err = λ g want kept of table.
      let first = told_from old (IsFirstDamaged g.pages want page) of.tells (names want g of.mounted) in
      absurd (first.damaged ((tables_by_pages g.pages want).0 table page first.within))
  NamesEntry-space (MissingExtension code) names err = absurd err
  NamesEntry-space NoMemory names err = λ g want kept of table. tt
  NamesEntry-space Fault names err = λ g want kept of table. tt
  NamesEntry-space (TooSmall have need) names err = λ g want kept of table. tt
  NamesEntry-space NotStore names err = λ g want kept of table. tt
  NamesEntry-space (BadLog chunk offset) names err = λ g want kept of table. tt
  NamesEntry-space (BadExtensions code) names err = λ g want kept of table. tt
  NamesEntry-space AlreadyStore names err = λ g want kept of table. tt

  -- nothing is damaged where the contents stand for a database
  never-damaged : (page : ℕ) (m : Meanings) (g : Geometry) (want : Wanted) (db : Db) → IsStored m old g want db → NamesDamage (Damaged page) old → ⊥
  never-damaged page m g want db stored names =
      let first = told_from old (IsFirstDamaged g.pages want page) stored.tells (names want g stored.mounted) in
      first.damaged ((tables_by_pages g.pages want).0 stored.committed.formed.table page first.within)

  pub MayRefuse-space : (n : Meanings) (e : OpenFault) → NamesDamage e old → SpaceErr e old new → (m : Meanings) (g : Geometry) (want : Wanted) (db : Db) (stored : IsStored m old g want db)
      → MayRefuse n (named_in stored.committed.kept) e
  MayRefuse-space n (Damaged page) names err m g want db stored = never-damaged page m g want db stored names
  MayRefuse-space n (MissingExtension code) names err m g want db stored = absurd err
  MayRefuse-space n NoMemory names err m g want db stored = tt
  MayRefuse-space n Fault names err m g want db stored = tt
  MayRefuse-space n (TooSmall have need) names err m g want db stored = tt
  MayRefuse-space n NotStore names err m g want db stored = tt
  MayRefuse-space n (BadLog chunk offset) names err m g want db stored = tt
  MayRefuse-space n (BadExtensions code) names err m g want db stored = tt
  MayRefuse-space n AlreadyStore names err m g want db stored = tt

-- ---- it is opened
-- a disk that tells nothing leaves nothing
leaves_none : (a b : Option Story) (P Q : List ℕ → Type 0) → a ≡ None → LeavesOnly a b P → LeavesOnly a b Q
leaves_none a None P Q none run = record { tells = run.tells; later = run.later; before = run.before; since = λ t image late left. absurd left }
leaves_none a (Some s) P Q none run = absurd (false≢true (ap is_some (sym none) ∙ run.tells))

told_or : (o : Option Story) (A : Type 0) → IfTold o A → (o ≡ None) ⊎ A
told_or None A has = inl refl
told_or (Some s) A has = inr has

pub told_by : (o : Option Story) (A : Type 0) → (is_some o ≡ true → A) → IfTold o A
told_by None A has = tt
told_by (Some s) A has = has refl

tells_then : (a b : Option Story) (g : Geometry) → WhereTold a b (IsRestarted g) → is_some a ≡ true → is_some b ≡ true
tells_then None b g restart tells = absurd (false≢true tells)
tells_then (Some s) None g restart tells = absurd restart
tells_then (Some s) (Some t) g restart tells = refl

none_then : (a b : Option Story) (g : Geometry) → WhereTold a b (IsRestarted g) → a ≡ None → b ≡ None
none_then None b g restart none = restart
none_then (Some s) b g restart none = absurd (false≢true (sym (ap is_some none)))

-- contents that stand for a database have a catalogue
catalogued : (m : Meanings) (told : Option Story) (g : Geometry) (want : Wanted) (db : Db) (stored : IsStored m told g want db) → IsCatalogued told g want stored.committed.kept
catalogued m told g want db stored = record {
  tells = stored.tells;
  mounted = stored.mounted;
  whole = stored.committed.formed.whole;
  boxes = all_live m;
  tables = stored.committed.keeps.tables;
}

module _ {D : Type 0} (told : D → Option Story) (len faults : D → ℕ) (d e : D) (s : State) (was : IsOpened (parts told len d s) (parts told len e s)) (space : IsSpace (parts told len e s)) where
  abbrev mid : Parts
  mid = parts told len e s

  pub up-opened : s.book.down ≡ false
  up-opened = ap (λ (b : Book). b.down) was.book

  -- and behind calls that keep its sizes
  pub sizes-opened : (t : State) → t.pool.geometry ≡ s.pool.geometry → (want : ℕ → List ℕ) (g : Geometry) → IsMounted want (told d) g → IfTold (told d) (t.pool.geometry ≡ g)
  sizes-opened t same want g mounted = told_map (told d) (g ≡ s.pool.geometry) (t.pool.geometry ≡ g) (λ is. same ∙ sym is) (was.sizes want g mounted)

  size_of : (want : ℕ → List ℕ) (g : Geometry) → IsMounted want (told d) g → is_some (told d) ≡ true → g ≡ s.pool.geometry
  size_of want g mounted tells = told_from (told d) (g ≡ s.pool.geometry) tells (was.sizes want g mounted)

  store_of : (want : ℕ → List ℕ) (g : Geometry) → IsMounted want (told d) g → HoldsPages want want mid
  store_of want g mounted = ([], [], was.pages want g mounted)

  -- behind a look too
  pub wanted-opened : (q : Parts) → RestsStill mid q → (want : ℕ → List ℕ) (g : Geometry) → IsMounted want (told d) g → Wants want q
  wanted-opened q still want g mounted = still.wanted want want (store_of want g mounted)

  -- ---- a disk whose contents have a catalogue
  module _ (g : Geometry) (want : Wanted) (kept : List Kept) (of : IsCatalogued (told d) g want kept) where
    size_at : g ≡ s.pool.geometry
    size_at = size_of want g of.mounted of.tells

    pub has-catalogued : HasPages want (slots_in s.pool.geometry.pages want) mid
    has-catalogued =
        space.has want want (store_of want g of.mounted) (tells_then (told d) (told e) s.pool.geometry was.restart of.tells)
        (λ n less. (of.whole n (subst (λ (x : Geometry). n < x.pages) (sym size_at) less)).small)

    pub over-catalogued : (root : ℕ) (IsSo : Slots → List Kept → Type 0) → root ≡ table_len s.pool.geometry.pages → OverCatalogue root mid IsSo → IsSo (slots_in g.pages want) kept
    over-catalogued root IsSo is over =
        subst (λ (x : Geometry). IsSo (slots_in x.pages want) kept) (sym size_at)
        (over of.boxes want (slots_in s.pool.geometry.pages want) kept has-catalogued
        (subst (λ (n : ℕ). Tables of.boxes IsDurable n (slots_in s.pool.geometry.pages want) kept) (sym is)
        (subst (λ (x : Geometry). Tables of.boxes IsDurable (table_len x.pages) (slots_in x.pages want) kept) size_at of.tables)))

  -- ---- a disk whose contents stand for a database
  module _ (m : Meanings) (g : Geometry) (want : Wanted) (db : Db) (stored : IsStored m (told d) g want db) where
    size : g ≡ s.pool.geometry
    size = size_of want g stored.mounted stored.tells

    pub has-stored : HasPages want (slots_in s.pool.geometry.pages want) mid
    has-stored = has-catalogued g want stored.committed.kept (catalogued m (told d) g want db stored)

    formed-stored : AreFormed s.pool.geometry.pages want
    formed-stored = subst (λ (x : Geometry). AreFormed x.pages want) size stored.committed.formed

    pub over-stored : (root : ℕ) (IsSo : Slots → List Kept → Type 0) → root ≡ table_len s.pool.geometry.pages → OverCatalogue root mid IsSo → IsSo (slots_in g.pages want) stored.committed.kept
    over-stored = over-catalogued g want stored.committed.kept (catalogued m (told d) g want db stored)

    pub rests-stored : (n : Meanings) (root : ℕ) (f : D) (t : State) → t.pool.geometry ≡ s.pool.geometry → root ≡ table_len s.pool.geometry.pages → RestsStill mid (parts told len f t)
        → HasLive m (named_in stored.committed.kept) n → Rests n root want db (parts told len f t)
    rests-stored n root f t same is still live = record {
      has = still.has want (slots_in s.pool.geometry.pages want) formed-stored has-stored;
      committed =
          subst (λ (r : ℕ). IsCommitted n r t.pool.geometry.pages want db) (sym is)
          (subst (λ (x : Geometry). IsCommitted n (table_len s.pool.geometry.pages) x.pages want db) (sym same)
          (subst (λ (x : Geometry). IsCommitted n (table_len x.pages) x.pages want db) size (committed-live m n (table_len g.pages) g.pages want db stored.committed live)));
    }

  -- ---- the look at it
  module _ (f : D) (t : State) (look : IsLook told len faults e f s t) where
    leaves_between : (want : ℕ → List ℕ) (g : Geometry) → IsMounted want (told d) g → LeavesOnly (told e) (told f) (Restores g want)
    leaves_between want g mounted =
        let leaves : LeavesOnly (told e) (told f) (Restores s.pool.geometry want) = look.leaves.each want want (store_of want g mounted) in
        ⊎_elim
        (λ (none : told d ≡ None). leaves_none (told e) (told f) (Restores s.pool.geometry want) (Restores g want) (none_then (told d) (told e) s.pool.geometry was.restart none) leaves)
        (λ (same : g ≡ s.pool.geometry). subst (λ (x : Geometry). LeavesOnly (told e) (told f) (Restores x want)) (sym same) leaves)
        (told_or (told d) (g ≡ s.pool.geometry) (was.sizes want g mounted))

    pub leaves-looked : ((want : ℕ → List ℕ) (g : Geometry) → IsMounted want (told d) g → LeavesOnly (told d) (told e) (Restores g want))
        → (want : ℕ → List ℕ) (g : Geometry) → IsMounted want (told d) g → LeavesOnly (told d) (told f) (Restores g want)
    leaves-looked first want g mounted = and_then (told d) (told e) (told f) (Restores g want) (first want g mounted) (leaves_between want g mounted)

    looked-at : WasLookedAt (told d) (told f)
    looked-at = record { between = told e; restarted = (s.pool.geometry, was.restart); leaves = leaves_between }

    -- it was refused
    pub OpeningErr-looked : (a b : ℕ) (x : OpenFault) → IsLookErr a b x → OpeningErr x (told d) (told f)
    OpeningErr-looked a b Fault err = tt
    OpeningErr-looked a b (Damaged page) err = looked-at
    OpeningErr-looked a b NoMemory err = inr looked-at
    OpeningErr-looked a b (MissingExtension code) err = absurd err
    OpeningErr-looked a b (TooSmall have need) err = absurd err
    OpeningErr-looked a b NotStore err = absurd err
    OpeningErr-looked a b (BadLog chunk offset) err = absurd err
    OpeningErr-looked a b (BadExtensions code) err = absurd err
    OpeningErr-looked a b AlreadyStore err = absurd err

    -- a box was missing
    pub OpeningErr-absent : (absent : Option ℕ) (x : OpenFault) → IsAbsent absent x → OpeningErr x (told d) (told f)
    OpeningErr-absent absent (MissingExtension code) err = looked-at
    OpeningErr-absent absent NoMemory err = inr looked-at
    OpeningErr-absent absent Fault err = absurd err
    OpeningErr-absent absent (Damaged page) err = absurd err
    OpeningErr-absent absent (TooSmall have need) err = absurd err
    OpeningErr-absent absent NotStore err = absurd err
    OpeningErr-absent absent (BadLog chunk offset) err = absurd err
    OpeningErr-absent absent (BadExtensions code) err = absurd err
    OpeningErr-absent absent AlreadyStore err = absurd err

  -- the owner table has its form
  pub NamesTable-opened : (x : OpenFault) → NamesTable x (told d)
  NamesTable-opened (Damaged page) = λ want g mounted.
      told_by (told d) ((IsTable g.pages want → ⊥) → IsFirstDamaged g.pages want page)
      (λ tells not. absurd (not (subst (λ (x : Geometry). IsTable x.pages want) (sym (size_of want g mounted tells))
      (space.table want want (store_of want g mounted) (tells_then (told d) (told e) s.pool.geometry was.restart tells)))))
  NamesTable-opened (MissingExtension code) = tt
  NamesTable-opened NoMemory = tt
  NamesTable-opened Fault = tt
  NamesTable-opened (TooSmall have need) = tt
  NamesTable-opened NotStore = tt
  NamesTable-opened (BadLog chunk offset) = tt
  NamesTable-opened (BadExtensions code) = tt
  NamesTable-opened AlreadyStore = tt

  -- ---- the session
  -- no relation is open between transactions
  module _ {B : Type 0} (meanings : B → Meanings) (boxes : B) (f : D) (t : State) (place : Place) (ones : Vec OpenRelation Global) (none : ones.items ≡ []) (same : t.pool.geometry ≡ s.pool.geometry)
      (still : RestsStill mid (parts told len f t)) where
    abbrev session : Session B
    session = record { boxes = boxes; space = record { store = t }; place = place; opened = ones; «open» = None; down = false }

    pub IsFor-opened : (m : Meanings) (g : Geometry) (want : Wanted) (db : Db) (stored : IsStored m (told d) g want db) → place.root ≡ table_len s.pool.geometry.pages
        → HasLive m (named_in stored.committed.kept) (meanings boxes) → IsFor meanings told len want (opened (meanings boxes) db) f session
    IsFor-opened m g want db stored root live = record {
      down = refl;
      live = refl;
      spare = refl;
      stands = λ up. rests-stored m g want db stored (meanings boxes) place.root f t same root still live;
      opened = λ up. MayStayOpen-none (meanings boxes) place.root t.pool.geometry.pages want ones.items none;
    }

    pub CanRun-opened : place.owner ≡ 2 → (old : Meanings) (named : List Named) → HasLive old named (meanings boxes) → CanRun meanings told len f session
    CanRun-opened owner old named live = record {
      ready = still.ready;
      few = subst (λ (x : Geometry). x.pages ≤ 65536) (sym same) space.few;
      owner = owner;
      unique = live.unique;
      opened = λ up. subst (λ (os : List OpenRelation). All (IsOpen (meanings boxes)) os) (sym none) (All-nil (IsOpen (meanings boxes)));
      up = λ up. still.up;
      goes = λ up. still.none;
    }

-- ---- refusals behind the opening of the space
pub MayRefuse-looked : (n : Meanings) (m : Meanings) (told : Option Story) (g : Geometry) (want : Wanted) (db : Db) (stored : IsStored m told g want db) (a b : ℕ) (x : OpenFault) → IsLookErr a b x
    → TellsStray (slots_in g.pages want) (owners_in stored.committed.kept) x → MayRefuse n (named_in stored.committed.kept) x
MayRefuse-looked n m told g want db stored a b Fault err stray = tt
MayRefuse-looked n m told g want db stored a b (Damaged page) err stray =
    none-stray g.pages want (owners_in stored.committed.kept) page stored.committed.formed.whole stored.committed.keeps.own.known stray
MayRefuse-looked n m told g want db stored a b NoMemory err stray = tt
MayRefuse-looked n m told g want db stored a b (MissingExtension code) err stray = absurd err
MayRefuse-looked n m told g want db stored a b (TooSmall have need) err stray = tt
MayRefuse-looked n m told g want db stored a b NotStore err stray = tt
MayRefuse-looked n m told g want db stored a b (BadLog chunk offset) err stray = tt
MayRefuse-looked n m told g want db stored a b (BadExtensions code) err stray = tt
MayRefuse-looked n m told g want db stored a b AlreadyStore err stray = tt

-- a box is missing, where no entry is stray
pub TellsStray-absent : (s : Slots) (owners : List ℕ) (absent : Option ℕ) (x : OpenFault) → HasNoStray s owners → IsAbsent absent x → TellsStray s owners x
TellsStray-absent s owners absent (MissingExtension code) known err = known
TellsStray-absent s owners absent NoMemory known err = tt
TellsStray-absent s owners absent Fault known err = absurd err
TellsStray-absent s owners absent (Damaged page) known err = absurd err
TellsStray-absent s owners absent (TooSmall have need) known err = absurd err
TellsStray-absent s owners absent NotStore known err = absurd err
TellsStray-absent s owners absent (BadLog chunk offset) known err = absurd err
TellsStray-absent s owners absent (BadExtensions code) known err = absurd err
TellsStray-absent s owners absent AlreadyStore known err = absurd err

absent_same : (n : Meanings) (named : List Named) (x : OpenFault) → IsAbsent (first_absent n named) x → MayRefuse n named x
absent_same n named (MissingExtension code) err = err
absent_same n named NoMemory err = tt
absent_same n named Fault err = tt
absent_same n named (Damaged page) err = err
absent_same n named (TooSmall have need) err = tt
absent_same n named NotStore err = tt
absent_same n named (BadLog chunk offset) err = tt
absent_same n named (BadExtensions code) err = tt
absent_same n named AlreadyStore err = tt

pub MayRefuse-absent : (n : Meanings) (found named : List Named) (x : OpenFault) → found ≡ named → IsAbsent (first_absent n found) x → MayRefuse n named x
MayRefuse-absent n found named x same err = subst (λ (ns : List Named). MayRefuse n ns x) same (absent_same n found x err)

-- ---- codes that are called missing
pub NamesMissing-space : (n : Meanings) (old new : Option Story) (e : OpenFault) → SpaceErr e old new → NamesMissing n e old
NamesMissing-space n old new (MissingExtension code) err = absurd err
NamesMissing-space n old new NoMemory err = tt
NamesMissing-space n old new Fault err = tt
NamesMissing-space n old new (TooSmall have need) err = tt
NamesMissing-space n old new NotStore err = tt
NamesMissing-space n old new (BadLog chunk offset) err = tt
NamesMissing-space n old new (BadExtensions code) err = tt
NamesMissing-space n old new AlreadyStore err = tt
NamesMissing-space n old new (Damaged page) err = tt

pub NamesMissing-looked : (n : Meanings) (told : Option Story) (a b : ℕ) (x : OpenFault) → IsLookErr a b x → NamesMissing n x told
NamesMissing-looked n told a b (MissingExtension code) err = absurd err
NamesMissing-looked n told a b NoMemory err = tt
NamesMissing-looked n told a b Fault err = tt
NamesMissing-looked n told a b (TooSmall have need) err = tt
NamesMissing-looked n told a b NotStore err = tt
NamesMissing-looked n told a b (BadLog chunk offset) err = tt
NamesMissing-looked n told a b (BadExtensions code) err = tt
NamesMissing-looked n told a b AlreadyStore err = tt
NamesMissing-looked n told a b (Damaged page) err = tt

pub NamesMissing-absent : (n : Meanings) (named : List Named) (told : Option Story) (x : OpenFault) → IsAbsent (first_absent n named) x
    → ((g : Geometry) (want : Wanted) (kept : List Kept) → IsCatalogued told g want kept → named ≡ named_in kept) → NamesMissing n x told
NamesMissing-absent n named told (MissingExtension code) err is = λ g want kept of. ap (λ (ns : List Named). first_absent n ns) (sym (is g want kept of)) ∙ err
NamesMissing-absent n named told NoMemory err is = tt
NamesMissing-absent n named told Fault err is = absurd err
NamesMissing-absent n named told (TooSmall have need) err is = absurd err
NamesMissing-absent n named told NotStore err is = absurd err
NamesMissing-absent n named told (BadLog chunk offset) err is = absurd err
NamesMissing-absent n named told (BadExtensions code) err is = absurd err
NamesMissing-absent n named told AlreadyStore err is = absurd err
NamesMissing-absent n named told (Damaged page) err is = absurd err

-- ---- faults
handed : {T : Type 0} (r : Result T OpenFault) (x y : OpenFault) → IsErrAnd r (λ f. f ≡ x) → IsErrOf r y → x ≡ y
handed {T} r x y is err = let same : y ≡ x = subst (λ (q : Result T OpenFault). IsErrAnd q (λ f. f ≡ x)) err is in sym same

pub fault-looked : {T : Type 0} (r : Result T OpenFault) (a b c : ℕ) (x : OpenFault) → IsErrAnd r (λ f. f ≡ x) → a ≤ b → IsLookErr b c x → IsErrOf r Fault → Rose a c
fault-looked r a b c x is before err fault = Rose-later a b c before (subst (λ (y : OpenFault). IsLookErr b c y) (handed r x Fault is fault) err)

pub fault-absent : {T : Type 0} {A : Type 0} (r : Result T OpenFault) (absent : Option ℕ) (x : OpenFault) → IsErrAnd r (λ f. f ≡ x) → IsAbsent absent x → IsErrOf r Fault → A
fault-absent r absent x is err fault = absurd (subst (λ (y : OpenFault). IsAbsent absent y) (handed r x Fault is fault) err)

pub fault-space : {T : Type 0} (r : Result T OpenFault) (a b : ℕ) (x : OpenFault) → IsErrAnd r (λ f. f ≡ x) → (x ≡ Fault → Rose a b) → IsErrOf r Fault → Rose a b
fault-space r a b x is rose fault = rose (handed r x Fault is fault)
