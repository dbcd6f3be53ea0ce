-- What a call over one half says of both.
use Rattle.std.proofs.Common.{◌≡◌, ℕ, [], Bool, true, false, Option, Result, IfOk, IfErr, OnOk, OnErr, sym, subst, arith}
use Rattle.std.proofs.lemmas.Result.{IfOk-weaker}
use Rattle.sb_ctx.specs.View.{nothing}
use Rattle.sb_disk.specs.Disk.{Story}
use Rattle.sb_drive.specs.Instances.{IsLeastFree, IsLeastOwner}
use Rattle.sb_drive.specs.Slots.{Slots}
use Rattle.sb_drive.specs.Spaces.{IsFull, Leaves, UnlessDown, Wanted}
use Rattle.sb_drive.specs.declared.space.SpaceFault.{SpaceFault}
use Rattle.sb_drive.specs.declared.turns.Ask.TheVariants.{Fresh}
use Rattle.sb_memory.specs.Contents.{Contents}
use Rattle.sb_memory.specs.MemorySpaces as memory
use Rattle.sb_memory.specs.MemorySpaces.{Grows-same, IsMemoryFault}
use Rattle.sb_owners.specs.Instances.{HasCome, HasNone}
use Rattle.sb_txn.specs.Clauses.{LeavesWanted}
use Rattle.sb_txn.specs.Parts.{parts}
use Rattle.sb_txn.specs.State.{State}
use Rattle.sb_space.specs.Composing.{Works-none}
use Rattle.sb_space.specs.Durable.{Leads, Lent}
use Rattle.sb_space.specs.Instances.{IsNewInstance}
use Rattle.sb_space.specs.Works.{HasPages}
use Rattle.sb_space.proofs.Calling.{UnlessDown-map}
use Rattle.sb_space.proofs.Coming.{HasCome-new}
use Rattle.sb_space.proofs.GoingBack.{KeepsChanges-driven, WasAt-driven}
use Rattle.sb_halves.specs.Both.{Both, parts_of, HasPagesIn, total_in, KeepsSavepoints, WorksIn}

-- the store and its disk are lent for the transaction
pub record IsLent {D : Type 0} (disk : D) (store : State) (tx : ℕ) (a : Lent D) : Type 0 where
  pub store_is : a.store.now ≡ store
  pub disk_is : a.disk.now ≡ disk
  pub tx_is : a.tx ≡ tx

abbrev beside : {D : Type 0} → D → State → Contents → Both D
beside d s m = record { disk = d; store = s; memory = m }

module _ {D : Type 0} (told : D → Option Story) (len faults : D → ℕ) where
  -- ---- what is said of one half, by which one it is
  abbrev IsMadeIn : Both D → Both D → Result (ℕ × ℕ) SpaceFault → Bool → Type 0
  IsMadeIn old new r durable = IfOk r (λ made. (want : Wanted) (s : Slots) → HasPagesIn told len durable want s old → HasCome (HasPagesIn told len durable) want s made.0 made.1 new)

  abbrev HasOwnerIn : Both D → Result (ℕ × ℕ) SpaceFault → Bool → Type 0
  HasOwnerIn old r durable = IfOk r (λ made. (want : Wanted) (s : Slots) → HasPagesIn told len durable want s old → IsLeastOwner s [] made.0)

  abbrev HasRootIn : Both D → Result (ℕ × ℕ) SpaceFault → Bool → Type 0
  HasRootIn old r durable = IfOk r (λ made. (want : Wanted) (s : Slots) → HasPagesIn told len durable want s old → IsLeastFree s made.1)

  abbrev IsSameIn : Both D → Both D → Result (ℕ × ℕ) SpaceFault → Bool → Type 0
  IsSameIn old new r durable = UnlessDown r ((want : Wanted) (s : Slots) → HasPagesIn told len durable want s old → OnErr r (HasPagesIn told len durable want s new))

  abbrev IsFullIn : Both D → Result (ℕ × ℕ) SpaceFault → Bool → Type 0
  IsFullIn old r durable = IfErr r (λ e. (want : Wanted) (s : Slots) → HasPagesIn told len durable want s old → IsFull durable (total_in durable old) s nothing Fresh e)

  abbrev IsFreedIn : ℕ → Both D → Both D → Result (Unit {0}) SpaceFault → Bool → Type 0
  IsFreedIn owner old new r durable =
      UnlessDown r ((want : Wanted) (s : Slots) → HasPagesIn told len durable want s old → Leaves (HasPagesIn told len durable) owner want s new (λ after. OnOk r (HasNone after)))

  -- ---- the durable half is lent, and given back
  module _ {disk : D} {store : State} {tx : ℕ} {a : Lent D} (b : Lent D) (is : IsLent disk store tx a) (e : D) (same : e ≡ b.disk.now) (m : Contents) where
    abbrev old : Both D
    old = beside disk store m

    abbrev new : Both D
    new = beside e b.store.now m

    given_back : (P : ℕ → Both D → Both D → Type 0) → P a.tx (beside a.disk.now a.store.now m) (beside b.disk.now b.store.now m) → P tx old new
    given_back P so =
        subst (λ (d : D). P tx old (beside d b.store.now m)) (sym same)
        (subst (λ (n : ℕ). P n old (beside b.disk.now b.store.now m)) is.tx_is
        (subst (λ (s : State). P a.tx (beside disk s m) (beside b.disk.now b.store.now m)) is.store_is
        (subst (λ (d : D). P a.tx (beside d a.store.now m) (beside b.disk.now b.store.now m)) is.disk_is so)))

    pub savepoints-durable : (k : ℕ) → Leads told len faults k a b → KeepsSavepoints told len tx old new
    savepoints-durable k leads = given_back (λ n x y. KeepsSavepoints told len n x y) (record {
      changes = KeepsChanges-driven told len faults k a b leads;
      was = λ up want s n was. WasAt-driven told len faults k a b leads up want s n was;
      writes = omega arith;
      stack = Grows-same m;
    })

    abbrev IsNew : Result (ℕ × ℕ) SpaceFault → Both D → Both D → Type 0
    IsNew r x y = IfOk r (λ made. (want : Wanted) (s : Slots) → HasPages want s (parts_of told len x) → IsNewInstance want s x.store.pool.geometry.pages made.0 made.1 (parts_of told len y))

    pub least-durable : (r : Result (ℕ × ℕ) SpaceFault) → IsNew r (beside a.disk.now a.store.now m) (beside b.disk.now b.store.now m) → IsNew r old new
    least-durable r made = given_back (λ n x y. IsNew r x y) made

    pub made-durable : (durable : Bool) → durable ≡ true → (r : Result (ℕ × ℕ) SpaceFault) → IsNew r (beside a.disk.now a.store.now m) (beside b.disk.now b.store.now m) → IsMadeIn old new r durable
    made-durable durable on r made =
        subst (λ (t : Bool). IsMadeIn old new r t) (sym on)
        (IfOk-weaker r _ _ (λ one is_new want s has. HasCome-new (parts_of told len) want s one.0 new store.pool.geometry.pages one.1 (is_new want s has)) (least-durable r made))

    pub owner-durable : (durable : Bool) → durable ≡ true → (r : Result (ℕ × ℕ) SpaceFault) → IsNew r (beside a.disk.now a.store.now m) (beside b.disk.now b.store.now m) → HasOwnerIn old r durable
    owner-durable durable on r made = subst (λ (t : Bool). HasOwnerIn old r t) (sym on) (IfOk-weaker r _ _ (λ one is_new want s has. (is_new want s has).least) (least-durable r made))

    pub root-durable : (durable : Bool) → durable ≡ true → (r : Result (ℕ × ℕ) SpaceFault) → IsNew r (beside a.disk.now a.store.now m) (beside b.disk.now b.store.now m) → HasRootIn old r durable
    root-durable durable on r made = subst (λ (t : Bool). HasRootIn old r t) (sym on) (IfOk-weaker r _ _ (λ one is_new want s has. (is_new want s has).free) (least-durable r made))

    pub same-durable : (durable : Bool) → durable ≡ true → (r : Result (ℕ × ℕ) SpaceFault) → IsSameIn (beside a.disk.now a.store.now m) (beside b.disk.now b.store.now m) r true → IsSameIn old new r durable
    same-durable durable on r stays = subst (λ (t : Bool). IsSameIn old new r t) (sym on) (given_back (λ n x y. IsSameIn x y r true) stays)

  -- ---- the volatile half
  -- no call on the disk was made
  pub idle : (disk : D) (store : State) → LeavesWanted (parts told len disk store) (parts told len disk store)
  idle disk store = (Works-none told len faults 0 disk store).leaves

  module _ (disk : D) (store : State) (tx : ℕ) (m n : Contents) (durable : Bool) (off : durable ≡ false) where
    abbrev was : Both D
    was = beside disk store m

    abbrev is : Both D
    is = beside disk store n

    abbrev HasMemory : Wanted → Slots → Contents → Type 0
    HasMemory want s x = memory.HasPages s x

    pub made-volatile : (r : Result (ℕ × ℕ) SpaceFault) → IfOk r (λ made. (want : Wanted) (s : Slots) → memory.HasPages s m → HasCome HasMemory want s made.0 made.1 n) → IsMadeIn was is r durable
    made-volatile r made =
        subst (λ (t : Bool). IsMadeIn was is r t) (sym off)
        (IfOk-weaker r _ _ (λ one come want s has. let x = come want s has in record { slots = x.slots; has = x.has; from = x.from; none = x.none; pages = x.pages; others = x.others }) made)

    pub owner-volatile : (r : Result (ℕ × ℕ) SpaceFault) → IfOk r (λ made. (want : Wanted) (s : Slots) → memory.HasPages s m → IsLeastOwner s [] made.0) → HasOwnerIn was r durable
    owner-volatile r owner = subst (λ (t : Bool). HasOwnerIn was r t) (sym off) owner

    pub root-volatile : (r : Result (ℕ × ℕ) SpaceFault) → IfOk r (λ made. (want : Wanted) (s : Slots) → memory.HasPages s m → IsLeastFree s made.1) → HasRootIn was r durable
    root-volatile r root = subst (λ (t : Bool). HasRootIn was r t) (sym off) root

    pub full-volatile : (r : Result (ℕ × ℕ) SpaceFault) → IfErr r (λ e. (want : Wanted) (s : Slots) → memory.HasPages s m → IsFull false 16384 s nothing Fresh e) → IsFullIn was r durable
    full-volatile r full = subst (λ (t : Bool). IsFullIn was r t) (sym off) full

    pub freed-volatile : (owner : ℕ) (r : Result (Unit {0}) SpaceFault) → UnlessDown r ((want : Wanted) (s : Slots) → memory.HasPages s m → Leaves HasMemory owner want s n (λ after. OnOk r (HasNone after)))
        → IsFreedIn owner was is r durable
    freed-volatile owner r freed =
        subst (λ (t : Bool). IsFreedIn owner was is r t) (sym off)
        (UnlessDown-map r _ _ (λ leaves want s has. let x = leaves want s has in record { slots = x.slots; has = x.has; others = x.others; own = x.own }) freed)

    pub works-volatile : {T : Type 0} (k : ℕ) (r : Result T SpaceFault) (A : Type 0) → UnlessDown r A → IfErr r (λ e. (n ≡ m) × IsMemoryFault e) → WorksIn told len faults tx durable k was is r
    works-volatile k r A so fails = subst (λ (t : Bool). WorksIn told len faults tx t k was is r) (sym off) (record {
      works = Works-none told len faults tx disk store;
      up = UnlessDown-map r A (store.book.down ≡ true → store.book.down ≡ true) (λ a on. on) so;
      fails = fails;
    })
