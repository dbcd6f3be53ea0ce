-- What becomes of a session, command by command.
use Rattle.std.proofs.Common.{◌≡◌, ℕ, ◌+◌, ◌<◌, nat_le, true, false, not, List, [], ◌∷◌, ◌++◌, length, take, get_or, All, Option, Some, None, Ok, Err, Result, IfErr, OnErr, OnOk, is_some, inl, refl, sym, ap, ◌∙◌, subst, arith}
use Rattle.std.proofs.lemmas.Bool.{false≢true, le-leb, lt-leb}
use Rattle.std.specs.List.{list_any, position}
use Rattle.std.proofs.lemmas.List.Quantifiers.{position-Some}
use Rattle.std.proofs.lemmas.List.Elements.{All-nil, All-push, All-take}
use Rattle.sb_disk.specs.Disk.{Story}
use Rattle.sb_relation.specs.Db.{Name, Db}
use Rattle.sb_fold.specs.declared.refusal.Refusal.{Refusal}
use Rattle.sb_fold.specs.declared.refusal.Refusal.TheVariants as refusal
use Rattle.sb_fold.specs.Outcome.{Going}
use Rattle.sb_plain.specs.declared.command.Command.{Command}
use Rattle.sb_plain.specs.declared.command.Command.TheVariants as command
use Rattle.sb_plain.specs.declared.reply.Reply.TheVariants.{Refused}
use Rattle.sb_plain.specs.Step.{Steps}
use Rattle.sb_plain.specs.Refusing.{is_misplaced}
use Rattle.sb_plain.specs.State.{Point as PlainPoint, State, Transaction as PlainTransaction, committed, is_inside, is_point, points_of, points_to}
use Rattle.sb_plain.specs.Step.{first_spent, if_up, ok, with_savepoint}
use Rattle.sb_registry.specs.Boxes.{Meanings}
use Rattle.sb_drive.specs.Spaces.{Wanted}
use Rattle.sb_transactions.specs.OpenRelation.{OpenRelation}
use Rattle.sb_transactions.specs.Opened.{IsOpen}
use Rattle.sb_transactions.specs.Place.{Place}
use Rattle.sb_txn.specs.Parts.{Parts, parts}
use Rattle.sb_transactions.specs.Working.{extensions_of}
use Rattle.sb_transactions.specs.Space.{Space}
use Rattle.sb_transactions.specs.Spent.{HasSpent}
use Rattle.sb_transactions.specs.Tx.{Tx}
use Rattle.sb_transactions.specs.declared.transactions.Point.{Point}
use Rattle.sb_transactions.specs.declared.transactions.Transaction.{Transaction}
use Rattle.sb_transactions.specs.Calls.{Remains}
use Rattle.sb_transactions.specs.Transactions.{IsAt, IsFirst, IsNotBehind, IsPointOf, IsUsable, MayStayOpen, Rests, WasBegun, WasSo, unused}
use Rattle.sb_session.specs.declared.session.Open.{Open}
use Rattle.sb_session.specs.declared.session.Savepoint.{Savepoint}
use Rattle.sb_session.specs.declared.session.Session.{Session}
use Rattle.sb_session.specs.Ends.{reply_of}
use Rattle.sb_session.specs.Points.{IsSaved, NotSaved, NotThere, is_named}
use Rattle.sb_session.specs.Sessions.{AreInOrder, AreSavepoints, CanGoOn, CanRun, IsFor, IsOpenFor, going_at, going_in, parts_of, sizes_of}
use Rattle.sb_session.proofs.Carried.{Carried, Carried-given, Carried-memory, Carried-ok, IsSame, IsSame-itself, SameOpen-put, StayOpen}
use Rattle.sb_session.proofs.OpenLemmas.{Inside, IsAt-same, Outside, inside, outside}
use Rattle.sb_session.proofs.PointLemmas.{AreInOrder-push, AreInOrder-take, AreSavepoints-back, AreSavepoints-push, found, names_known, not_behind, same_length}
use Rattle.sb_session.proofs.Stepped.{Stepped, Stepped-abort, Stepped-begin, Stepped-checkpoint, Stepped-rollback, Stepped-savepoint, at_point}
use Rattle.sb_session.proofs.StepLemmas.{Steps-down, Steps-exists, Steps-limit, Steps-misplaced, Steps-no_name}

-- a session is within a transaction where the state is
inside_both : (m : Meanings) (place : Place) (want : Wanted) (db : Db) (p : Parts) (o : Option Open) (t : Option PlainTransaction) → IsOpenFor m place want db p o t → is_some t ≡ is_some o
inside_both m place want db p None None opened = refl
inside_both m place want db p (Some o) (Some t) opened = refl
inside_both m place want db p None (Some t) opened = absurd opened
inside_both m place want db p (Some o) None opened = absurd opened

module _ {B D : Type 0} (meanings : B → Meanings) (told : D → Option Story) (len faults : D → ℕ) (d : D) (x : Session B) (runs : CanRun meanings told len d x) where
  -- ---- sessions that are down
  pub Carried-down : (c : Command) → x.down ≡ true → Carried meanings told len faults c d d x x (Refused refusal.Down)
  Carried-down c down =
      Carried-given meanings told len faults c d x x (IsSame-itself meanings x) (λ down. refl) runs refusal.Down refl
      (λ want s is. Steps-down (extensions_of (meanings x.boxes)) s c (sym is.down ∙ down))

  module _ (up : x.down ≡ false) where
    not_down : {A : Type 0} → x.down ≡ true → A
    not_down down = absurd (false≢true (sym up ∙ down))

    up_state : (want : Wanted) (s : State) → IsFor meanings told len want s d x → s.down ≡ false
    up_state want s is = sym is.down ∙ up

    open_for : (want : Wanted) (s : State) → IsFor meanings told len want s d x → IsOpenFor (meanings x.boxes) x.place want (committed s) (parts_of told len d x) x.open s.transaction
    open_for want s is = is.stands (up_state want s is)

    inside_as : (want : Wanted) (s : State) → IsFor meanings told len want s d x → is_inside s ≡ is_some x.open
    inside_as want s is = inside_both (meanings x.boxes) x.place want (committed s) (parts_of told len d x) x.open s.transaction (open_for want s is)

    pub outside_for : x.open ≡ None → (want : Wanted) (s : State) → IsFor meanings told len want s d x
        → Outside (meanings x.boxes) x.place want (committed s) (parts_of told len d x) s.transaction
    outside_for none want s is = outside (meanings x.boxes) x.place want (committed s) (parts_of told len d x) x.open s.transaction none (open_for want s is)

    pub inside_for : (o : Open) → x.open ≡ Some o → (want : Wanted) (s : State) → IsFor meanings told len want s d x
        → Inside (meanings x.boxes) x.place want (committed s) (parts_of told len d x) o s.transaction
    inside_for o some want s is = inside (meanings x.boxes) x.place want (committed s) (parts_of told len d x) o x.open s.transaction some (open_for want s is)

    -- ---- commands that have no place here
    pub Carried-misplaced : (c : Command) (y : Session B) → IsSame meanings x y → ((s : State) → is_inside s ≡ is_some x.open → is_misplaced s c ≡ true)
        → Carried meanings told len faults c d d x y (Refused refusal.State)
    Carried-misplaced c y same misplaced =
        Carried-given meanings told len faults c d x y same not_down runs refusal.State refl
        (λ want s is. Steps-misplaced (extensions_of (meanings x.boxes)) s c (up_state want s is) (misplaced s (inside_as want s is)))

    -- ---- transactions
    module _ (e : D) (y : Session B) (space : Space) (now : y.space ≡ space) (boxes : meanings y.boxes ≡ meanings x.boxes) (place : y.place ≡ x.place) (down : y.down ≡ x.down)
        (stay : StayOpen x.opened.items y.opened.items) where
      pub Carried-begin : (t : Transaction) (o : Open) (ones : List OpenRelation) → ones ≡ x.opened.items → Remains told len faults d e x.space.store space.store (Ok t) → x.open ≡ None → y.open ≡ Some o → o.transaction ≡ t → o.points.items ≡ []
          → ((m : Meanings) (place : Place) → place.owner ≡ 2 → All (IsOpen m) ones → IsUsable m place t.tx.store.number (parts told len e space.store) t.work)
          → ((m : Meanings) (root : ℕ) (want : Wanted) (db : Db) → Rests m root want db (parts_of told len d x) → WasBegun m root want db t.tx.store.number (parts told len e space.store))
          → ((m : Meanings) (place : Place) (want : Wanted) (g : Going) → place.owner ≡ 2 → IsFirst g → Rests m place.root want g.db (parts_of told len d x)
          → MayStayOpen m place.root (sizes_of x).pages want ones → IsAt m place want t.tx.store.number g (parts told len e space.store) t.work)
          → HasSpent 0 space.store → Carried meanings told len faults command.Begin d e x y ok
      Carried-begin t o ones are remains none is same points usable begun at spent =
          let m : Meanings = meanings x.boxes in
          let q : Parts = parts told len e space.store in
          Carried-ok meanings told len faults command.Begin d e x y space now boxes place up runs t (Some o) remains down is stay (
            subst (λ (t : Transaction). IsUsable m x.place t.tx.store.number q t.work) (sym same) (usable m x.place runs.owner (subst (λ (os : List OpenRelation). All (IsOpen m) os) (sym are) (runs.opened up))),
            subst (λ (ones : List Savepoint). All (λ one. IsPointOf o.transaction.tx.store.number one.point q o.transaction.work) ones) (sym points)
                (All-nil (λ one. IsPointOf o.transaction.tx.store.number one.point q o.transaction.work)),
            subst (λ (ones : List Savepoint). AreInOrder ones) (sym points) tt,
          )
          (λ want s for.
          let out = outside_for none want s for in
          Stepped-begin (extensions_of m) m x.place want q s (up_state want s for) out.none o (record {
            at = subst (λ (t : Transaction). IsAt m x.place want t.tx.store.number (going_in (first_spent s)) q t.work) (sym same)
                (at m x.place want (going_in (first_spent s)) runs.owner (record { queue = refl; used = refl }) out.rests
                (subst (λ (os : List OpenRelation). MayStayOpen m x.place.root (sizes_of x).pages want os) (sym are) (for.opened (up_state want s for))));
            begun = subst (λ (t : Transaction). WasBegun m x.place.root want (committed s) t.tx.store.number q) (sym same) (begun m x.place.root want (committed s) out.rests);
            points = subst (λ (ones : List Savepoint). AreSavepoints m x.place want o.transaction.tx.store.number q o.transaction.work ones []) (sym points) tt;
            spent = record { changes = 0; within = omega arith; spent = spent };
          }))

      pub Carried-abort : (o : Open) → Remains {T = Unit {0}} told len faults d e x.space.store space.store (Ok tt) → x.open ≡ Some o → y.open ≡ None → space.store.book.actives ≡ []
          → ((m : Meanings) (root : ℕ) (want : Wanted) (db : Db) → WasBegun m root want db o.transaction.tx.store.number (parts_of told len d x) → Rests m root want db (parts told len e space.store))
          → Carried meanings told len faults command.Abort d e x y ok
      Carried-abort o remains some none out rests =
          let m : Meanings = meanings x.boxes in
          let q : Parts = parts told len e space.store in
          Carried-ok meanings told len faults command.Abort d e x y space now boxes place up runs tt None remains down none stay out
          (λ want s for.
          let within = inside_for o some want s for in
          Stepped-abort (extensions_of m) m x.place want q s (up_state want s for) within.of within.is (rests m x.place.root want (committed s) within.inside.begun))

      pub Carried-checkpoint : Remains {T = Unit {0}} told len faults d e x.space.store space.store (Ok tt) → x.open ≡ None → y.open ≡ None → space.store.book.actives ≡ []
          → ((m : Meanings) (root : ℕ) (want : Wanted) (db : Db) → Rests m root want db (parts_of told len d x) → Rests m root want db (parts told len e space.store))
          → Carried meanings told len faults command.Checkpoint d e x y ok
      Carried-checkpoint remains none is out rests =
          let m : Meanings = meanings x.boxes in
          let q : Parts = parts told len e space.store in
          Carried-ok meanings told len faults command.Checkpoint d e x y space now boxes place up runs tt None remains down is stay out
          (λ want s for.
          let out = outside_for none want s for in
          Stepped-checkpoint (extensions_of m) m x.place want q s (up_state want s for) out.none (rests m x.place.root want (committed s) out.rests))

      -- ---- the way back to a savepoint
      module _ (name : Name) (old new : Open) (i : ℕ) (one : Savepoint) (mark : Point) (some : x.open ≡ Some old) (is : y.open ≡ Some new)
          (first : position (is_named name) old.points.items ≡ Some i) (marked : (get_or old.points.items i one).point ≡ mark)
          (kept : new.points.items ≡ take (i + 1) old.points.items) (tx : new.transaction.tx ≡ old.transaction.tx) where
        abbrev number : ℕ
        number = old.transaction.tx.store.number

        abbrev from : Parts
        from = parts_of told len d x

        abbrev to : Parts
        to = parts told len e space.store

        same : new.transaction.tx.store.number ≡ number
        same = ap (λ (t : Tx). t.store.number) tx

        found_first : (i < length old.points.items) × (is_named name (get_or old.points.items i one) ≡ true) × ((k : ℕ) → k < i → is_named name (get_or old.points.items k one) ≡ false)
        found_first = position-Some (is_named name) old.points.items i one first

        less : AreInOrder old.points.items → All (λ other. IsNotBehind other.point mark) (take (i + 1) old.points.items)
        less order = subst (λ (last : Point). All (λ other. IsNotBehind other.point last) (take (i + 1) old.points.items)) marked (not_behind old.points.items i one found_first.0 order)

        module _ (back : (m : Meanings) (place : Place) (want : Wanted) (g : Going) → place.owner ≡ 2 → WasSo m place want number g mark from old.transaction.work
            → IsAt m place want number (unused g) to new.transaction.work)
            (earlier : (m : Meanings) (place : Place) (want : Wanted) (g : Going) (other : Point) → IsNotBehind other mark → WasSo m place want number g other from old.transaction.work
            → WasSo m place want number g other to new.transaction.work)
            (stand : (other : Point) → IsNotBehind other mark → IsPointOf number other from old.transaction.work → IsPointOf number other to new.transaction.work)
            (begun : (m : Meanings) (root : ℕ) (want : Wanted) (db : Db) → WasBegun m root want db number from → WasBegun m root want db number to)
            (usable : (m : Meanings) (place : Place) → place.owner ≡ 2 → IsUsable m place number to new.transaction.work)
            (spent : (n : ℕ) → HasSpent n x.space.store → HasSpent n space.store) where
          can_go : CanGoOn (meanings x.boxes) x.place from (Some old) → CanGoOn (meanings x.boxes) x.place to (Some new)
          can_go goes = (
            subst (λ (n : ℕ). IsUsable (meanings x.boxes) x.place n to new.transaction.work) (sym same) (usable (meanings x.boxes) x.place runs.owner),
            subst (λ (n : ℕ). All (λ other. IsPointOf n other.point to new.transaction.work) new.points.items) (sym same)
                (subst (λ (ones : List Savepoint). All (λ other. IsPointOf number other.point to new.transaction.work) ones) (sym kept)
                (λ k d h. stand (get_or (take (i + 1) old.points.items) k d).point (less goes.2 k d h)
                (All-take (λ other. IsPointOf number other.point from old.transaction.work) (i + 1) old.points.items goes.1 k d h))),
            subst (λ (ones : List Savepoint). AreInOrder ones) (sym kept) (AreInOrder-take (i + 1) old.points.items goes.2),
          )

          steps_back : (want : Wanted) (s : State) → IsFor meanings told len want s d x → AreInOrder old.points.items
              → Inside (meanings x.boxes) x.place want (committed s) from old s.transaction
              → Stepped (extensions_of (meanings x.boxes)) (meanings x.boxes) x.place want to (Some new) s (command.Rollback name) ok
          steps_back want s for order within =
              let m : Meanings = meanings x.boxes in
              let at_first = found m x.place want number from old.transaction.work name old.points.items within.of.points i one within.inside.points
              found_first.0 found_first.1 found_first.2 in
              Stepped-rollback (extensions_of m) m x.place want to s (up_state want s for) within.of within.is name new at_first.point at_first.known at_first.goes (record {
                at = subst (λ (n : ℕ). IsAt m x.place want n (going_in (at_point name at_first.point within.of)) to new.transaction.work) (sym same)
                    (IsAt-same m x.place want number (unused (going_at at_first.point)) (going_in (at_point name at_first.point within.of)) to new.transaction.work refl refl refl refl
                    (back m x.place want (going_at at_first.point) runs.owner
                    (subst (λ (last : Point). WasSo m x.place want number (going_at at_first.point) last from old.transaction.work) marked at_first.is.was)));
                begun = subst (λ (n : ℕ). WasBegun m x.place.root want (committed s) n to) (sym same) (begun m x.place.root want (committed s) within.inside.begun);
                points = subst (λ (n : ℕ). AreSavepoints m x.place want n to new.transaction.work new.points.items (points_to name within.of.points)) (sym same)
                    (subst (λ (ones : List Savepoint). AreSavepoints m x.place want number to new.transaction.work ones (points_to name within.of.points)) (sym kept)
                    (AreSavepoints-back m x.place want number from to old.transaction.work new.transaction.work mark (earlier m x.place want) (take (i + 1) old.points.items)
                    (points_to name within.of.points) (less order) at_first.kept));
                spent =
                    let paid = within.inside.spent in
                    record { changes = paid.changes; within = paid.within; spent = spent paid.changes paid.spent };
              })

          pub Carried-rollback : Remains {T = Unit {0}} told len faults d e x.space.store space.store (Ok tt) → Carried meanings told len faults (command.Rollback name) d e x y ok
          Carried-rollback remains =
              let goes : CanGoOn (meanings x.boxes) x.place from (Some old) = subst (λ (o : Option Open). CanGoOn (meanings x.boxes) x.place from o) some (runs.goes up) in
              Carried-ok meanings told len faults (command.Rollback name) d e x y space now boxes place up runs tt (Some new) remains down is stay (can_go goes)
              (λ want s for. steps_back want s for goes.2 (inside_for old some want s for))

    -- ---- savepoints
    module _ (name : Name) (old : Open) (some : x.open ≡ Some old) where
      known_for : (want : Wanted) (s : State) → IsFor meanings told len want s d x → list_any (is_point name) (points_of s) ≡ list_any (is_named name) old.points.items
      known_for want s for =
          let within = inside_for old some want s for in
          ap (λ (t : Option PlainTransaction). list_any (is_point name) (elim t as (λ c. List PlainPoint) [ None ↦ [] | Some t ↦ t.points ])) within.is
          ∙ sym (names_known (meanings x.boxes) x.place want old.transaction.tx.store.number (parts_of told len d x) old.transaction.work name old.points.items within.of.points within.inside.points)

      length_for : (want : Wanted) (s : State) → IsFor meanings told len want s d x → length (points_of s) ≡ length old.points.items
      length_for want s for =
          let within = inside_for old some want s for in
          ap (λ (t : Option PlainTransaction). length (elim t as (λ c. List PlainPoint) [ None ↦ [] | Some t ↦ t.points ])) within.is
          ∙ sym (same_length (meanings x.boxes) x.place want old.transaction.tx.store.number (parts_of told len d x) old.transaction.work name old.points.items within.of.points within.inside.points)

      within_for : (want : Wanted) (s : State) → IsFor meanings told len want s d x → is_inside s ≡ true
      within_for want s for = ap is_some (inside_for old some want s for).is

      module _ (y : Session B) (same : IsSame meanings x y) where
        pub Carried-not_there : (r : Refusal) → NotThere old.points.items name r → Carried meanings told len faults (command.Rollback name) d d x y (Refused r)
        Carried-not_there (refusal.NoName other) none =
            Carried-given meanings told len faults (command.Rollback name) d x y same not_down runs (refusal.NoName other) refl
            (λ want s for. subst (λ (n : Name). Steps (extensions_of (meanings x.boxes)) s (command.Rollback name) (Refused (refusal.NoName n)) (if_up s)) (sym none.0)
            (Steps-no_name (extensions_of (meanings x.boxes)) s (up_state want s for) name (within_for want s for) (known_for want s for ∙ none.1)))
        Carried-not_there refusal.NoMemory none =
            Carried-memory meanings told len faults (command.Rollback name) d x y same not_down runs up (λ want s for. ap not (known_for want s for ∙ none))
        Carried-not_there (refusal.Syntax column) none = absurd none
        Carried-not_there refusal.Down none = absurd none
        Carried-not_there refusal.State none = absurd none
        Carried-not_there (refusal.NoRelation other) none = absurd none
        Carried-not_there (refusal.Exists other) none = absurd none
        Carried-not_there (refusal.NoExtension code) none = absurd none
        Carried-not_there (refusal.InUse relation other) none = absurd none
        Carried-not_there refusal.Mistyped none = absurd none
        Carried-not_there (refusal.TooLong relation) none = absurd none
        Carried-not_there refusal.Mixed none = absurd none
        Carried-not_there refusal.Limit none = absurd none
        Carried-not_there (refusal.NoRecord relation) none = absurd none
        Carried-not_there (refusal.Duplicate relation) none = absurd none
        Carried-not_there (refusal.Veto relation other) none = absurd none
        Carried-not_there (refusal.Range relation) none = absurd none
        Carried-not_there refusal.Depth none = absurd none
        Carried-not_there refusal.DeferLimit none = absurd none
        Carried-not_there (refusal.Room room) none = absurd none
        Carried-not_there (refusal.Damaged page) none = absurd none
        Carried-not_there refusal.Fault none = absurd none

        pub Carried-not_saved : (r : Refusal) → NotSaved old.points.items name r → Carried meanings told len faults (command.Savepoint name) d d x y (Refused r)
        Carried-not_saved (refusal.Exists other) why =
            Carried-given meanings told len faults (command.Savepoint name) d x y same not_down runs (refusal.Exists other) refl
            (λ want s for. subst (λ (n : Name). Steps (extensions_of (meanings x.boxes)) s (command.Savepoint name) (Refused (refusal.Exists n)) (if_up s)) (sym why.0)
            (Steps-exists (extensions_of (meanings x.boxes)) s (up_state want s for) name (within_for want s for) (known_for want s for ∙ why.1)))
        Carried-not_saved refusal.Limit why =
            Carried-given meanings told len faults (command.Savepoint name) d x y same not_down runs refusal.Limit refl
            (λ want s for. Steps-limit (extensions_of (meanings x.boxes)) s (up_state want s for) name (within_for want s for) (known_for want s for ∙ why.0)
            (ap (λ (n : ℕ). nat_le 64 n) (length_for want s for) ∙ le-leb 64 (length old.points.items) why.1))
        Carried-not_saved refusal.NoMemory why =
            Carried-memory meanings told len faults (command.Savepoint name) d x y same not_down runs up (λ want s for. refl)
        Carried-not_saved (refusal.Syntax column) why = absurd why
        Carried-not_saved refusal.Down why = absurd why
        Carried-not_saved refusal.State why = absurd why
        Carried-not_saved (refusal.NoRelation other) why = absurd why
        Carried-not_saved (refusal.NoName other) why = absurd why
        Carried-not_saved (refusal.NoExtension code) why = absurd why
        Carried-not_saved (refusal.InUse relation other) why = absurd why
        Carried-not_saved refusal.Mistyped why = absurd why
        Carried-not_saved (refusal.TooLong relation) why = absurd why
        Carried-not_saved refusal.Mixed why = absurd why
        Carried-not_saved (refusal.NoRecord relation) why = absurd why
        Carried-not_saved (refusal.Duplicate relation) why = absurd why
        Carried-not_saved (refusal.Veto relation other) why = absurd why
        Carried-not_saved (refusal.Range relation) why = absurd why
        Carried-not_saved refusal.Depth why = absurd why
        Carried-not_saved refusal.DeferLimit why = absurd why
        Carried-not_saved (refusal.Room room) why = absurd why
        Carried-not_saved (refusal.Damaged page) why = absurd why
        Carried-not_saved refusal.Fault why = absurd why

      -- one that was made
      module _ (y : Session B) (new : Open) (is : y.open ≡ Some new) (same : new.transaction ≡ old.transaction) (boxes : meanings y.boxes ≡ meanings x.boxes) (space : y.space ≡ x.space)
          (place : y.place ≡ x.place) (down : y.down ≡ x.down) (opened : y.opened.items ≡ x.opened.items) (saved : IsSaved x.space.store name old new) where
        abbrev here : Parts
        here = parts_of told len d x

        abbrev tx_number : ℕ
        tx_number = old.transaction.tx.store.number

        abbrev last : Savepoint
        last = record { name = name; point = saved.point }

        remains_here : Remains {T = Unit {0}} told len faults d d x.space.store x.space.store (Ok tt)
        remains_here = record {
          size = refl;
          later = omega arith;
          geometry = refl;
          ready = runs.ready;
          down = λ on. absurd (false≢true (sym (runs.up up) ∙ on));
          up = λ on. absurd (false≢true (sym (runs.up up) ∙ on));
          fell = λ on. inl on;
        }

        can_save : CanGoOn (meanings x.boxes) x.place here (Some old) → CanGoOn (meanings x.boxes) x.place here (Some new)
        can_save goes =
            let of : IsPointOf tx_number saved.point here old.transaction.work = saved.of (told d) (len d) in
            subst (λ (t : Transaction). IsUsable (meanings x.boxes) x.place t.tx.store.number here t.work
            × All (λ one. IsPointOf t.tx.store.number one.point here t.work) new.points.items × AreInOrder new.points.items) (sym same)
            (subst (λ (ones : List Savepoint). IsUsable (meanings x.boxes) x.place tx_number here old.transaction.work
            × All (λ one. IsPointOf tx_number one.point here old.transaction.work) ones × AreInOrder ones) (sym saved.points) (
              goes.0,
              All-push (λ one. IsPointOf tx_number one.point here old.transaction.work) old.points.items last goes.1 of,
              AreInOrder-push old.points.items last goes.2
                  (λ k d' h. saved.behind (runs.up up) (get_or old.points.items k d').point (told d) (len d) (goes.1 k d' h)),
            ))

        steps_on : (want : Wanted) (s : State) → IsFor meanings told len want s d x → Inside (meanings x.boxes) x.place want (committed s) here old s.transaction
            → Stepped (extensions_of (meanings x.boxes)) (meanings x.boxes) x.place want here (Some new) s (command.Savepoint name) ok
        steps_on want s for within =
            let m : Meanings = meanings x.boxes in
            let t : PlainTransaction = within.of in
            let point : PlainPoint = record { name = name; db = t.db; queue = t.queue; gone = t.gone } in
            let at_mark : IsAt m x.place want tx_number (going_at point) here old.transaction.work =
            IsAt-same m x.place want tx_number (going_in t) (going_at point) here old.transaction.work refl refl refl refl within.inside.at in
            Stepped-savepoint (extensions_of m) m x.place want here s (up_state want s for) t within.is name new
            (sym (names_known m x.place want tx_number here old.transaction.work name old.points.items t.points within.inside.points) ∙ saved.fresh)
            (ap (λ (n : ℕ). nat_le 64 n) (sym (same_length m x.place want tx_number here old.transaction.work name old.points.items t.points within.inside.points))
            ∙ lt-leb 64 (length old.points.items) saved.few)
            (record {
              at = subst (λ (a : Transaction). IsAt m x.place want a.tx.store.number (going_in (with_savepoint name t)) here a.work) (sym same) within.inside.at;
              begun = subst (λ (a : Transaction). WasBegun m x.place.root want (committed s) a.tx.store.number here) (sym same) within.inside.begun;
              points = subst (λ (a : Transaction). AreSavepoints m x.place want a.tx.store.number here a.work new.points.items (t.points ++ point ∷ [])) (sym same)
                  (subst (λ (ones : List Savepoint). AreSavepoints m x.place want tx_number here old.transaction.work ones (t.points ++ point ∷ [])) (sym saved.points)
                  (AreSavepoints-push m x.place want tx_number here old.transaction.work old.points.items t.points last point within.inside.points
                  (record { name = refl; was = saved.was m x.place want (going_at point) (told d) (len d) at_mark })));
              spent = within.inside.spent;
            })

        pub Carried-savepoint : Carried meanings told len faults (command.Savepoint name) d d x y ok
        Carried-savepoint =
            let goes : CanGoOn (meanings x.boxes) x.place here (Some old) = subst (λ (o : Option Open). CanGoOn (meanings x.boxes) x.place here o) some (runs.goes up) in
            Carried-ok meanings told len faults (command.Savepoint name) d d x y x.space space boxes place up runs tt (Some new) remains_here down is (inl opened) (can_save goes)
            (λ want s for. steps_on want s for (inside_for old some want s for))

    -- whatever making one answers
    module _ (name : Name) (old new : Open) (y : Session B) (some : x.open ≡ Some old) (is : y.open ≡ Some new) (boxes : meanings y.boxes ≡ meanings x.boxes) (space : y.space ≡ x.space)
        (place : y.place ≡ x.place) (down : y.down ≡ x.down) (opened : y.opened.items ≡ x.opened.items) (same : new.transaction ≡ old.transaction) where
      pub Carried-saved : (result : Result (Unit {0}) Refusal) → OnOk result (IsSaved x.space.store name old new) → IfErr result (λ r. NotSaved old.points.items name r)
          → OnErr result (new.points.items ≡ old.points.items) → Carried meanings told len faults (command.Savepoint name) d d x y (reply_of result)
      Carried-saved (Ok done) saved why kept = Carried-savepoint name old some y new is same boxes space place down opened saved
      Carried-saved (Err r) saved why kept =
          Carried-not_saved name old some y (record { boxes = boxes; space = space; place = place; down = down; opened = SameOpen-put old new x.open y.open some is same kept; opened_same = opened }) r why
