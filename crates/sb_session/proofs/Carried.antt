-- What each way in which a command ends leaves of a session.
use Rattle.std.proofs.Common.{◌≡◌, ◌⊎◌, ⊎_elim, inl, ℕ, ◌+◌, ◌≤◌, ◌||◌, Bool, true, false, List, [], All, Option, Some, None, Ok, Err, Result, refl, sym, ap, ◌∙◌, subst, arith}
use Rattle.std.proofs.lemmas.Bool.{false≢true}
use Rattle.std.proofs.lemmas.List.Elements.{All-nil}
use Rattle.std.proofs.Math.Bool.{or-false}
use Rattle.sb_disk.specs.Causes.{Rose}
use Rattle.sb_disk.specs.Disk.{Story}
use Rattle.sb_fold.specs.declared.refusal.Refusal.{Refusal}
use Rattle.sb_fold.specs.declared.refusal.Room.{Room}
use Rattle.sb_fold.specs.Extensions.{Extensions}
use Rattle.sb_fold.specs.declared.refusal.Refusal.TheVariants as refusal
use Rattle.sb_cascade.specs.Runs.{is_free}
use Rattle.sb_relation.specs.Db.{Db}
use Rattle.sb_log.specs.declared.geometry.Geometry.{Geometry}
use Rattle.sb_plain.specs.declared.command.Command.{Command}
use Rattle.sb_plain.specs.declared.reply.Reply.{Reply}
use Rattle.sb_plain.specs.declared.reply.Reply.TheVariants.{Refused}
use Rattle.sb_plain.specs.Licences.{may_want_memory}
use Rattle.sb_plain.specs.State.{downed}
use Rattle.sb_plain.specs.Step.{Steps}
use Rattle.sb_plain.specs.State.{State, Transaction as PlainTransaction, committed}
use Rattle.sb_plain.specs.Step.{if_up, ok}
use Rattle.sb_registry.specs.Boxes.{Meanings, repeated_in}
use Rattle.sb_drive.specs.Spaces.{Wanted}
use Rattle.sb_transactions.specs.OpenRelation.{OpenRelation}
use Rattle.sb_transactions.specs.Opened.{IsOpen}
use Rattle.sb_transactions.specs.Place.{Place}
use Rattle.sb_txn.specs.Clauses.{IsReady, LeavesWanted}
use Rattle.sb_txn.specs.Parts.{Parts, parts}
use Rattle.sb_txn.proofs.KeepsLemmas.{LeavesWanted-none}
use Rattle.sb_transactions.specs.Space.{Space}
use Rattle.sb_transactions.specs.declared.transactions.Transaction.{Transaction}
use Rattle.sb_transactions.specs.Calls.{IsOnlyFault, Remains}
use Rattle.sb_transactions.specs.Transactions.{IsPointOf, IsUsable, MayStayOpen}
use Rattle.sb_transactions.specs.Working.{extensions_of}
use Rattle.sb_vectors.specs.Vectors.{live_codes, spare_codes}
use Rattle.sb_transactions.specs.Calls.{KeepsWanted}
use Rattle.sb_session.specs.declared.session.Open.{Open}
use Rattle.sb_session.specs.declared.session.Savepoint.{Savepoint}
use Rattle.sb_session.specs.declared.session.Session.{Session}
use Rattle.sb_session.specs.Ends.{Ends, IsStep, ends_with, is_end}
use Rattle.sb_session.specs.Sessions.{AreInOrder, CanGoOn, CanRun, HasFailed, IsFor, IsOpenFor, KeepsSession, Lacks, parts_of, sizes_of}
use Rattle.sb_transactions.proofs.StayLemmas.{MayStayOpen-none}
use Rattle.sb_session.proofs.OpenLemmas.{IsInside-same, IsOpenFor-spent}
use Rattle.sb_session.proofs.Stepped.{Stepped}
use Rattle.sb_session.proofs.StepLemmas.{at_fields}

-- ---- refusals that a definition gives
-- they don't end a session
pub end_of_given : (r : Refusal) → is_free r ≡ false → is_end r ≡ false
end_of_given (refusal.Syntax column) given = refl
end_of_given refusal.Down given = refl
end_of_given refusal.State given = refl
end_of_given (refusal.NoRelation name) given = refl
end_of_given (refusal.Exists name) given = refl
end_of_given (refusal.NoName name) given = refl
end_of_given (refusal.NoExtension code) given = refl
end_of_given (refusal.InUse relation name) given = refl
end_of_given refusal.Mistyped given = refl
end_of_given (refusal.TooLong relation) given = refl
end_of_given refusal.Mixed given = refl
end_of_given refusal.Limit given = refl
end_of_given (refusal.NoRecord relation) given = refl
end_of_given (refusal.Duplicate relation) given = refl
end_of_given (refusal.Veto relation name) given = refl
end_of_given (refusal.Range relation) given = refl
end_of_given refusal.Depth given = refl
end_of_given refusal.DeferLimit given = refl
end_of_given (refusal.Room room) given = absurd (false≢true (sym given))
end_of_given (refusal.Damaged page) given = absurd (false≢true (sym given))
end_of_given refusal.Fault given = absurd (false≢true (sym given))
end_of_given refusal.NoMemory given = absurd (false≢true (sym given))

module _ (StandsFor : State → Type 0) (Lacks : Room → Type 0) (HasFailed : Type 0) (ext : Extensions) (s : State) (c : Command) where
  pub Ends-given : (r : Refusal) → is_free r ≡ false → IsStep StandsFor ext s c (Refused r) → Ends StandsFor Lacks HasFailed ext s c (Refused r)
  Ends-given (refusal.Syntax column) given step = step
  Ends-given refusal.Down given step = step
  Ends-given refusal.State given step = step
  Ends-given (refusal.NoRelation name) given step = step
  Ends-given (refusal.Exists name) given step = step
  Ends-given (refusal.NoName name) given step = step
  Ends-given (refusal.NoExtension code) given step = step
  Ends-given (refusal.InUse relation name) given step = step
  Ends-given refusal.Mistyped given step = step
  Ends-given (refusal.TooLong relation) given step = step
  Ends-given refusal.Mixed given step = step
  Ends-given refusal.Limit given step = step
  Ends-given (refusal.NoRecord relation) given step = step
  Ends-given (refusal.Duplicate relation) given step = step
  Ends-given (refusal.Veto relation name) given step = step
  Ends-given (refusal.Range relation) given step = step
  Ends-given refusal.Depth given step = step
  Ends-given refusal.DeferLimit given step = step
  Ends-given (refusal.Room room) given step = absurd (false≢true (sym given))
  Ends-given (refusal.Damaged page) given step = absurd (false≢true (sym given))
  Ends-given refusal.Fault given step = absurd (false≢true (sym given))
  Ends-given refusal.NoMemory given step = absurd (false≢true (sym given))

-- ---- sessions that differ in nothing that a state tells
abbrev pub SameOpen : Option Open → Option Open → Type 0
SameOpen None None = Unit {0}
SameOpen (Some a) (Some b) = (b.transaction ≡ a.transaction) × (b.points.items ≡ a.points.items)
SameOpen _ _ = ⊥

pub record IsSame {B : Type 0} (meanings : B → Meanings) (x y : Session B) : Type 0 where
  pub boxes : meanings y.boxes ≡ meanings x.boxes
  pub space : y.space ≡ x.space
  pub place : y.place ≡ x.place
  pub down : y.down ≡ x.down
  pub opened : SameOpen x.open y.open
  pub opened_same : y.opened.items ≡ x.opened.items

same_open : (o : Option Open) → SameOpen o o
same_open None = tt
same_open (Some o) = (refl, refl)

pub IsSame-itself : {B : Type 0} (meanings : B → Meanings) (x : Session B) → IsSame meanings x x
IsSame-itself meanings x = record { boxes = refl; space = refl; place = refl; down = refl; opened = same_open x.open; opened_same = refl }

-- the transaction was taken out and put back
pub SameOpen-put : (a b : Open) (from to : Option Open) → from ≡ Some a → to ≡ Some b → b.transaction ≡ a.transaction → b.points.items ≡ a.points.items → SameOpen from to
SameOpen-put a b from to e f same points =
    subst (λ (o : Option Open). SameOpen o to) (sym e) (subst (λ (o : Option Open). SameOpen (Some a) o) (sym f) (same, points))

pub SameOpen-none : (from to : Option Open) → from ≡ None → to ≡ None → SameOpen from to
SameOpen-none from to e f = subst (λ (o : Option Open). SameOpen o to) (sym e) (subst (λ (o : Option Open). SameOpen None o) (sym f) tt)

module _ (m : Meanings) (place : Place) where
  IsOpenFor-same : (want : Wanted) (db : Db) (p : Parts) (a b : Option Open) (t : Option PlainTransaction) → SameOpen a b → IsOpenFor m place want db p a t → IsOpenFor m place want db p b t
  IsOpenFor-same want db p None None t same opened = opened
  IsOpenFor-same want db p (Some a) (Some b) None same opened = opened
  IsOpenFor-same want db p (Some a) (Some b) (Some t) same opened = IsInside-same m place want db p a b t same.0 same.1 opened
  IsOpenFor-same want db p None (Some b) t same opened = absurd same
  IsOpenFor-same want db p (Some a) None t same opened = absurd same

  CanGoOn-same : (p : Parts) (a b : Option Open) → SameOpen a b → CanGoOn m place p a → CanGoOn m place p b
  CanGoOn-same p None None same can = can
  CanGoOn-same p (Some a) (Some b) same can =
      subst (λ (x : Transaction). IsUsable m place x.tx.store.number p x.work × All (λ one. IsPointOf x.tx.store.number one.point p x.work) b.points.items × AreInOrder b.points.items) (sym same.0)
      (subst (λ (ones : List Savepoint). IsUsable m place a.transaction.tx.store.number p a.transaction.work
      × All (λ one. IsPointOf a.transaction.tx.store.number one.point p a.transaction.work) ones × AreInOrder ones) (sym same.1) can)
  CanGoOn-same p None (Some b) same can = absurd same
  CanGoOn-same p (Some a) None same can = absurd same

-- ---- what is open between transactions
-- it stays open, or nothing is open
abbrev pub StayOpen : List OpenRelation → List OpenRelation → Type 0
StayOpen ones others = (others ≡ ones) ⊎ (others ≡ [])

module _ (m : Meanings) (ones others : List OpenRelation) (stay : StayOpen ones others) where
  MayStayOpen-stay : (root pages : ℕ) (want : Wanted) → MayStayOpen m root pages want ones → MayStayOpen m root pages want others
  MayStayOpen-stay root pages want may =
      ⊎_elim
      (λ (same : others ≡ ones). subst (λ (os : List OpenRelation). MayStayOpen m root pages want os) (sym same) may)
      (λ (none : others ≡ []). MayStayOpen-none m root pages want others none) stay

  AllOpen-stay : All (IsOpen m) ones → All (IsOpen m) others
  AllOpen-stay all =
      ⊎_elim
      (λ (same : others ≡ ones). subst (λ (os : List OpenRelation). All (IsOpen m) os) (sym same) all)
      (λ (none : others ≡ []). subst (λ (os : List OpenRelation). All (IsOpen m) os) (sym none) (All-nil (IsOpen m))) stay

-- ---- what a session stands for
module _ {B D : Type 0} (meanings : B → Meanings) (told : D → Option Story) (len : D → ℕ) where
  module _ (want : Wanted) (s : State) (d e : D) (x y : Session B) (is : IsFor meanings told len want s d x) where
    pub IsFor-as : (other : Wanted) (after : State) (opened : Option Open) (p : Parts) → meanings y.boxes ≡ meanings x.boxes → y.place ≡ x.place → y.open ≡ opened → parts_of told len e y ≡ p → y.down ≡ after.down
        → after.live ≡ s.live → after.spare ≡ s.spare → (after.down ≡ false → IsOpenFor (meanings x.boxes) x.place other (committed after) p opened after.transaction)
        → (after.down ≡ false → MayStayOpen (meanings x.boxes) x.place.root p.store.pool.geometry.pages other y.opened.items)
        → IsFor meanings told len other after e y
    IsFor-as other after opened p boxes place same parts down live spare opens stay = record {
      down = down;
      live = live ∙ is.live ∙ ap live_codes (sym boxes);
      spare = spare ∙ is.spare ∙ ap spare_codes (sym boxes);
      stands = λ up.
          subst (λ (m : Meanings). IsOpenFor m y.place other (committed after) (parts_of told len e y) y.open after.transaction) (sym boxes)
          (subst (λ (a : Place). IsOpenFor (meanings x.boxes) a other (committed after) (parts_of told len e y) y.open after.transaction) (sym place)
          (subst (λ (o : Option Open). IsOpenFor (meanings x.boxes) x.place other (committed after) (parts_of told len e y) o after.transaction) (sym same)
          (subst (λ (q : Parts). IsOpenFor (meanings x.boxes) x.place other (committed after) q opened after.transaction) (sym parts) (opens up))));
      opened = λ up.
          subst (λ (m : Meanings). MayStayOpen m y.place.root (sizes_of y).pages other y.opened.items) (sym boxes)
          (subst (λ (a : Place). MayStayOpen (meanings x.boxes) a.root (sizes_of y).pages other y.opened.items) (sym place)
          (subst (λ (q : Parts). MayStayOpen (meanings x.boxes) x.place.root q.store.pool.geometry.pages other y.opened.items) (sym parts) (stay up)));
    }

  -- the command was paid for
  abbrev PaysFor : Wanted → D → Session B → State → Type 0
  PaysFor want d x s = IsFor meanings told len want s d x → IsFor meanings told len want (if_up s) d x

  paid_for : (want : Wanted) (d : D) (x : Session B) (s : State) (t : Option PlainTransaction) (b : Bool) → PaysFor want d x (record s { transaction = t; down = b })
  paid_for want d x s None true is = is
  paid_for want d x s None false is = is
  paid_for want d x s (Some t) true is = is
  paid_for want d x s (Some t) false is = record {
    down = is.down;
    live = is.live;
    spare = is.spare;
    stands = λ up. IsOpenFor-spent (meanings x.boxes) x.place want (committed s) (parts_of told len d x) (t.spent + 1) x.open t (omega arith) (is.stands up);
    opened = is.opened;
  }

  pub IsFor-paid : (want : Wanted) (d : D) (x : Session B) (s : State) → IsFor meanings told len want s d x → IsFor meanings told len want (if_up s) d x
  IsFor-paid want d x s = at_fields (PaysFor want d x) s s.transaction s.down refl refl (paid_for want d x s s.transaction s.down)

  module _ (d : D) (x y : Session B) (same : IsSame meanings x y) where
    pub same_parts : parts_of told len d y ≡ parts_of told len d x
    same_parts = ap (λ (a : Space). parts told len d a.store) same.space

    pub IsFor-same : (want : Wanted) (s : State) → IsFor meanings told len want s d x → IsFor meanings told len want s d y
    IsFor-same want s is =
        IsFor-as want s d d x y is want s y.open (parts_of told len d x) same.boxes same.place refl same_parts (same.down ∙ is.down) refl refl
        (λ up. IsOpenFor-same (meanings x.boxes) x.place want (committed s) (parts_of told len d x) x.open y.open s.transaction same.opened (is.stands up))
        (λ up. subst (λ (ones : List OpenRelation). MayStayOpen (meanings x.boxes) x.place.root (sizes_of x).pages want ones) (sym same.opened_same) (is.opened up))

  -- ---- that further commands can be carried out
  pub CanRun-as : (d e : D) (x y : Session B) (opened : Option Open) (p : Parts) → CanRun meanings told len d x → meanings y.boxes ≡ meanings x.boxes → y.place ≡ x.place → y.open ≡ opened → parts_of told len e y ≡ p
      → p.store.pool.geometry ≡ x.space.store.pool.geometry → IsReady p → (y.down ≡ false → p.store.book.down ≡ false) → (y.down ≡ false → CanGoOn (meanings x.boxes) x.place p opened)
      → (y.down ≡ false → All (IsOpen (meanings x.boxes)) y.opened.items) → CanRun meanings told len e y
  CanRun-as d e x y opened p runs boxes place same parts sizes ready up goes stay = record {
    ready = subst IsReady (sym parts) ready;
    few = subst (λ (q : Parts). q.store.pool.geometry.pages ≤ 65536) (sym parts) (subst (λ (g : Geometry). g.pages ≤ 65536) (sym sizes) runs.few);
    owner = ap (λ (a : Place). a.owner) place ∙ runs.owner;
    unique = ap repeated_in boxes ∙ runs.unique;
    opened = λ on. subst (λ (m : Meanings). All (IsOpen m) y.opened.items) (sym boxes) (stay on);
    up = λ on. subst (λ (q : Parts). q.store.book.down ≡ false) (sym parts) (up on);
    goes = λ on.
        subst (λ (m : Meanings). CanGoOn m y.place (parts_of told len e y) y.open) (sym boxes)
        (subst (λ (a : Place). CanGoOn (meanings x.boxes) a (parts_of told len e y) y.open) (sym place)
        (subst (λ (o : Option Open). CanGoOn (meanings x.boxes) x.place (parts_of told len e y) o) (sym same)
        (subst (λ (q : Parts). CanGoOn (meanings x.boxes) x.place q opened) (sym parts) (goes on))));
  }

  pub CanRun-same : (d : D) (x y : Session B) → IsSame meanings x y → CanRun meanings told len d x → CanRun meanings told len d y
  CanRun-same d x y same runs =
      CanRun-as d d x y y.open (parts_of told len d x) runs same.boxes same.place refl (same_parts d x y same) refl runs.ready (λ up. runs.up (sym same.down ∙ up))
      (λ up. CanGoOn-same (meanings x.boxes) x.place (parts_of told len d x) x.open y.open same.opened (runs.goes (sym same.down ∙ up)))
      (λ up. subst (λ (ones : List OpenRelation). All (IsOpen (meanings x.boxes)) ones) (sym same.opened_same) (runs.opened (sym same.down ∙ up)))

  -- ---- what a crash leaves
  pub leaves-same : (d : D) (x y : Session B) → IsSame meanings x y → LeavesWanted (parts_of told len d x) (parts_of told len d y)
  leaves-same d x y same = subst (λ (p : Parts). LeavesWanted (parts_of told len d x) p) (sym (same_parts d x y same)) (LeavesWanted-none (parts_of told len d x))

  pub keeps-for : (d e : D) (x y : Session B) (space : Space) → y.space ≡ space → KeepsWanted (parts_of told len d x) (parts told len e space.store)
      → KeepsWanted (parts_of told len d x) (parts_of told len e y)
  keeps-for d e x y space same = subst (λ (a : Space). KeepsWanted (parts_of told len d x) (parts told len e a.store)) (sym same)

-- ---- what a command leaves
-- all that is said of it
pub record Carried {B D : Type 0} (meanings : B → Meanings) (told : D → Option Story) (len faults : D → ℕ) (c : Command) (d e : D) (x y : Session B) (reply : Reply) : Type 0 where
  pub ends : (want : Wanted) (s : State) → IsFor meanings told len want s d x
      → Ends (λ t. IsFor meanings told len want t e y) (Lacks (sizes_of x)) (HasFailed faults d e) (extensions_of (meanings x.boxes)) s c reply
  pub keeps : KeepsSession len faults d e x y reply
  pub runs : CanRun meanings told len e y

module _ {B D : Type 0} (meanings : B → Meanings) (told : D → Option Story) (len faults : D → ℕ) (c : Command) where
  -- ---- nothing has changed
  module _ (d : D) (x y : Session B) (same : IsSame meanings x y) (ended : x.down ≡ true → y ≡ x) (runs : CanRun meanings told len d x) where
    unchanged : (reply : Reply) → ends_with reply ≡ false
        → ((want : Wanted) (s : State) → IsFor meanings told len want s d x
        → Ends (λ t. IsFor meanings told len want t d y) (Lacks (sizes_of x)) (HasFailed faults d d) (extensions_of (meanings x.boxes)) s c reply)
        → Carried meanings told len faults c d d x y reply
    unchanged reply goes_on ends = record {
      ends = ends;
      keeps = record {
        size = refl;
        later = omega arith;
        geometry = ap (λ (a : Space). a.store.pool.geometry) same.space;
        place = same.place;
        down = same.down ∙ sym (or-false x.down) ∙ ap (λ (b : Bool). x.down || b) (sym goes_on);
        fault = λ is. absurd (false≢true (sym goes_on ∙ ap (λ (r : Reply). ends_with r) is));
        ended = λ down. (refl, ended down);
      };
      runs = CanRun-same meanings told len d x y same runs;
    }

    pub Carried-given : (r : Refusal) → is_free r ≡ false
        → ((want : Wanted) (s : State) → IsFor meanings told len want s d x → Steps (extensions_of (meanings x.boxes)) s c (Refused r) (if_up s))
        → Carried meanings told len faults c d d x y (Refused r)
    Carried-given r given steps =
        unchanged (Refused r) (end_of_given r given)
        (λ want s is. Ends-given (λ t. IsFor meanings told len want t d y) (Lacks (sizes_of x)) (HasFailed faults d d) (extensions_of (meanings x.boxes)) s c r given
        (record { after = if_up s; steps = steps want s is; stands = IsFor-same meanings told len d x y same want (if_up s) (IsFor-paid meanings told len want d x s is) }))

    -- memory was wanting
    pub Carried-memory : x.down ≡ false → ((want : Wanted) (s : State) → IsFor meanings told len want s d x → may_want_memory s c ≡ true)
        → Carried meanings told len faults c d d x y (Refused refusal.NoMemory)
    Carried-memory up may =
        unchanged (Refused refusal.NoMemory) refl
        (λ want s is. record {
          up = sym is.down ∙ up;
          cause = may want s is;
          after = s;
          left = inl refl;
          stands = IsFor-same meanings told len d x y same want s is;
        })

  -- ---- the disk failed
  module _ (d e : D) (x y : Session B) (space : Space) (same : y.space ≡ space) (boxes : meanings y.boxes ≡ meanings x.boxes) (place : y.place ≡ x.place) (up : x.down ≡ false) (runs : CanRun meanings told len d x) where
    pub now : parts_of told len e y ≡ parts told len e space.store
    now = ap (λ (a : Space). parts told len e a.store) same

    pub Carried-fault : {T : Type 0} (result : Result T Refusal) (r q : Refusal) → Remains told len faults d e x.space.store space.store result → IsOnlyFault r space.store
        → y.down ≡ (x.down || is_end r) → q ≡ r → Carried meanings told len faults c d e x y (Refused q)
    Carried-fault result r q remains only down is = subst (λ (q : Refusal). Carried meanings told len faults c d e x y (Refused q)) (sym (is ∙ only.is)) (record {
      ends = λ want s for. record {
        up = sym for.down ∙ up;
        cause = failed;
        stands = IsFor-as meanings told len want s d e x y for want (downed s) y.open (parts_of told len e y) boxes place refl refl off refl refl (λ on. absurd (false≢true (sym on)))
            (λ on. absurd (false≢true (sym on)));
      };
      keeps = record {
        size = remains.size;
        later = remains.later;
        geometry = ap (λ (a : Space). a.store.pool.geometry) same ∙ remains.geometry;
        place = place;
        down = down ∙ ap (λ (r : Refusal). x.down || is_end r) only.is;
        fault = λ _. failed;
        ended = λ was. absurd (false≢true (sym up ∙ was));
      };
      runs = CanRun-as meanings told len d e x y y.open (parts told len e space.store) runs boxes place refl now remains.geometry remains.ready
          (λ on. absurd (false≢true (sym on ∙ off))) (λ on. absurd (false≢true (sym on ∙ off))) (λ on. absurd (false≢true (sym on ∙ off)));
    })
      where
        off : y.down ≡ true
        off = down ∙ ap (λ (r : Refusal). x.down || is_end r) only.is ∙ ap (λ (b : Bool). b || true) up

        failed : Rose (faults d) (faults e)
        failed = ⊎_elim (λ (was : x.space.store.book.down ≡ true). absurd (false≢true (sym (runs.up up) ∙ was))) (λ (rose : Rose (faults d) (faults e)). rose) (remains.fell only.down)

    -- ---- it went through
    -- it was paid for, and there is the transaction of the state behind it
    pub Carried-ok : {T : Type 0} (done : T) (opened : Option Open) → Remains told len faults d e x.space.store space.store (Ok done) → y.down ≡ x.down → y.open ≡ opened → StayOpen x.opened.items y.opened.items
        → CanGoOn (meanings x.boxes) x.place (parts told len e space.store) opened
        → ((want : Wanted) (s : State) → IsFor meanings told len want s d x → Stepped (extensions_of (meanings x.boxes)) (meanings x.boxes) x.place want (parts told len e space.store) opened s c ok)
        → Carried meanings told len faults c d e x y ok
    Carried-ok done opened remains down is stay goes steps = record {
      ends = λ want s for. let to = steps want s for in record {
        after = to.after;
        steps = to.steps;
        stands = IsFor-as meanings told len want s d e x y for want to.after opened (parts told len e space.store) boxes place is now (down ∙ up ∙ sym to.up) to.live to.spare (λ on. to.stands)
            (λ on. MayStayOpen-stay (meanings x.boxes) x.opened.items y.opened.items stay x.place.root space.store.pool.geometry.pages want
            (subst (λ (g : Geometry). MayStayOpen (meanings x.boxes) x.place.root g.pages want x.opened.items) (sym remains.geometry) (for.opened (sym for.down ∙ up))));
      };
      keeps = record {
        size = remains.size;
        later = remains.later;
        geometry = ap (λ (a : Space). a.store.pool.geometry) same ∙ remains.geometry;
        place = place;
        down = down ∙ sym (or-false x.down);
        fault = λ is. absurd (false≢true (ap (λ (r : Reply). ends_with r) is));
        ended = λ was. absurd (false≢true (sym up ∙ was));
      };
      runs = CanRun-as meanings told len d e x y opened (parts told len e space.store) runs boxes place is now remains.geometry remains.ready
          (λ on. not_down space.store.book.down refl) (λ on. goes) (λ on. AllOpen-stay (meanings x.boxes) x.opened.items y.opened.items stay (runs.opened up));
    }
      where
        not_down : (b : Bool) → space.store.book.down ≡ b → space.store.book.down ≡ false
        not_down false is = is
        not_down true is = absurd (let e : Ok done ≡ Err refusal.Fault = remains.up is in cc)
