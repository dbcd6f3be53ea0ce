-- The ways in which work in an open transaction ends, by what the calls on the way promise.
use Rattle.std.proofs.Common.{◌≡◌, ℕ, true, false, List, Option, Some, Result, Ok, Err, refl, sym, ap, ◌∙◌, subst}
use Rattle.sb_disk.specs.Disk.{Story}
use Rattle.sb_relation.specs.Db.{Db}
use Rattle.sb_fold.specs.declared.refusal.Refusal.{Refusal}
use Rattle.sb_fold.specs.declared.refusal.Refusal.TheVariants as refusal
use Rattle.sb_cascade.specs.Runs.{OnFault}
use Rattle.sb_fold.specs.Outcome.{Going}
use Rattle.sb_engine.specs.declared.running.Work.{Work as EngineWork}
use Rattle.sb_plain.specs.declared.command.Command.{Command}
use Rattle.sb_plain.specs.declared.reply.Reply.{Reply}
use Rattle.sb_plain.specs.State.{State, committed}
use Rattle.sb_registry.specs.Boxes.{Meanings}
use Rattle.sb_drive.specs.Spaces.{Wanted}
use Rattle.sb_map.specs.declared.place.Place.{Place}
use Rattle.sb_space.specs.Spent.{HasSpent}
use Rattle.sb_txn.specs.Parts.{Parts, parts}
use Rattle.sb_txn.specs.State.{State as StoreState}
use Rattle.sb_space.specs.declared.transactions.Tx.{Tx}
use Rattle.sb_session.specs.Point.{Point}
use Rattle.sb_session.specs.Transaction.{Transaction}
use Rattle.sb_session.specs.Calls.{IsOnlyFault, KeepsWanted, Remains}
use Rattle.sb_session.specs.Commits.{IsLed}
use Rattle.sb_session.specs.Transactions.{IsAt, IsNotBehind, IsPointOf, IsTrimmed, IsUsable, WasBegun, WasSo, unused}
use Rattle.sb_session.proofs.CallLemmas.{up-earlier, up-later}
use Rattle.sb_session.proofs.EndLemmas.{Remains-behind, Remains-stopped}
use Rattle.sb_execution.specs.Serving.{HasPaid, IsAnswered, IsPosedIn, IsSeenIn, IsServed, IsUnservedOn, is_managing}
use Rattle.sb_session.specs.declared.session.Open.{Open}
use Rattle.sb_session.specs.declared.session.Savepoint.{Savepoint}
use Rattle.sb_session.specs.Sessions.{CanGoOn, going_in}
use Rattle.sb_session.proofs.CommitSteps.{going_on}
use Rattle.sb_session.proofs.OpenLemmas.{Inside, IsAt-same, inside_at}
use Rattle.sb_execution.specs.declared.serving.Served.{Served}
use Rattle.sb_execution.specs.Endings.{EndsInside, IsOf, IsReplied}
use Rattle.sb_execution.proofs.CallLemmas.{Remains-led, leaves_behind, not_both, ok_err}
use Rattle.sb_execution.proofs.EndLemmas.{seen_inside}
use Rattle.sb_execution.proofs.InsideLemmas.{EndsInside-done, EndsInside-fault, EndsInside-refused, Reaches, Stays-replied, reaches}
use Rattle.sb_execution.proofs.ReplyLemmas.{replied_no_fault}
use Rattle.sb_execution.proofs.StandingLemmas.{Stays, Stays-beside, Stays-then}

module _ {D : Type 0} (told : D → Option Story) (len faults : D → ℕ) (m : Meanings) (place : Place) (c : Command) (works : is_managing c ≡ false)
    (d e : D) (s t : StoreState) (o : Open) (x y : Transaction) (up : s.book.down ≡ false) (goes : CanGoOn m place (parts told len d s) (Some o))
    -- the work was settled
    (same : x.tx ≡ o.transaction.tx) (trimmed : IsTrimmed o.transaction.work x.work)
    (settled : (m : Meanings) (place : Place) (want : Wanted) (g : Going) (p : Parts) → IsAt m place want o.transaction.tx.store.number g p o.transaction.work
    → IsAt m place want o.transaction.tx.store.number (unused g) p x.work)
    (usable : (m : Meanings) (place : Place) (p : Parts) → IsUsable m place o.transaction.tx.store.number p o.transaction.work → IsUsable m place o.transaction.tx.store.number p x.work)
    -- the command was served
    (tx : y.tx ≡ x.tx) (serves : IsUsable m place x.tx.store.number (parts told len e t) y.work)
    (led : IsLed told len faults x.tx.store.number (record { disk = d; store = s }) (record { disk = e; store = t })) (leaves : KeepsWanted (parts told len d s) (parts told len e t)) where
  abbrev from : Parts
  from = parts told len d s

  abbrev here : Parts
  here = parts told len e t

  abbrev n : ℕ
  n = x.tx.store.number

  abbrev first : ℕ
  first = o.transaction.tx.store.number

  number : n ≡ first
  number = ap (λ (a : Tx). a.store.number) same

  last_number : y.tx.store.number ≡ n
  last_number = ap (λ (a : Tx). a.store.number) tx

  -- the store is down
  pub EndsInside-down : (now : Open) → t.book.down ≡ true → EndsInside told len faults m place c d e s t o now (Err refusal.Fault)
  EndsInside-down now down =
      EndsInside-fault told len faults m place c works d e s t o now up leaves refusal.Fault
      (Remains-led told len faults n d e s t led (Err refusal.Fault) up serves.ready.ready (λ on. refl)) (record { is = refl; down = down })

  -- ---- what stands
  stays_settled : Stays m place first from from o.transaction.work x.work
  stays_settled = Stays-beside m place first from o.transaction.work x.work trimmed.queue trimmed.gone (usable m place from goes.0)

  at_work : (want : Wanted) (g : Going) → IsAt m place want first g from o.transaction.work → IsAt m place want n (unused g) from x.work
  at_work want g at = subst (λ (k : ℕ). IsAt m place want k (unused g) from x.work) (sym number) (settled m place want g from at)

  abbrev within : (want : Wanted) (a : State) → IsOf m place want a from (Some o) → Inside m place want (committed a) from o a.transaction
  within want a of = inside_at m place want (committed a) from o a.transaction of.stands

  at_command : (want : Wanted) (a : State) (of : IsOf m place want a from (Some o)) → HasPaid m place want n x.work (going_on (within want a of).of) from
  at_command want a of =
      let in_it = within want a of in (
        at_work want (going_on in_it.of) (IsAt-same m place want first (going_in in_it.of) (going_on in_it.of) from o.transaction.work refl refl refl refl in_it.inside.at),
        in_it.inside.spent,
      )

  seen : (points : List Savepoint) → points ≡ o.points.items → (want : Wanted) (a : State) (of : IsOf m place want a from (Some o)) → IsSeenIn m true points a (going_on (within want a of).of)
  seen points listed want a of =
      let in_it = within want a of in
      seen_inside m place want a from o in_it.of points listed of in_it.is in_it.inside

  module _ (points : t.book.down ≡ false → (m : Meanings) (want : Wanted) (g : Going) (point : Point) → WasSo m place want n g point from x.work → WasSo m place want n g point here y.work)
      (stand : (point : Point) → IsPointOf n point from x.work → IsPointOf n point here y.work)
      (begun : t.book.down ≡ false → (m : Meanings) (root : ℕ) (want : Wanted) (db : Db) → WasBegun m root want db n from → WasBegun m root want db n here) where
    -- ---- it was served
    module _ (ones : List Savepoint) (listed : ones ≡ o.points.items) (sv : Served) (r : Reply) (now : Open) (still : t.book.down ≡ false)
        (served : t.book.down ≡ false → (want : Wanted) (a : State) (g : Going) → HasPaid m place want n x.work g from → IsSeenIn m true ones a g → IsPosedIn m a c
        → IsServed (HasPaid m place want n y.work) m a c g sv here)
        (replies : IsReplied sv y.work now.transaction.work r) (put : now.transaction.tx ≡ y.tx) (kept : now.points.items ≡ o.points.items) (answers : IsAnswered sv) where
      stays_served : Stays m place n from here x.work y.work
      stays_served = record { usable = serves; begun = λ want db is. begun still m place.root want db is; was = λ want g one so. points still m want g one so; stand = stand }

      stays_replied : Stays m place first from here o.transaction.work now.transaction.work
      stays_replied =
          Stays-then m place first from from here o.transaction.work x.work now.transaction.work stays_settled
          (subst (λ (k : ℕ). Stays m place k from here x.work now.transaction.work) number
          (Stays-replied m place n from here x.work y.work now.transaction.work r sv replies stays_served))

      pub EndsInside-served : EndsInside told len faults m place c d e s t o now (Ok r)
      EndsInside-served =
          EndsInside-done told len faults m place c works d e s t o now up leaves (ap (λ (a : Tx). a.store.number) (put ∙ tx ∙ same)) kept stays_replied goes r
          (replied_no_fault sv y.work now.transaction.work r replies answers)
          (Remains-led told len faults n d e s t led (Ok r) up serves.ready.ready (λ on. not_both t.book.down still on))
          (λ want a of posed.
          let in_it = within want a of in
          subst (λ (k : ℕ). Reaches m place want k c a in_it.of here now.transaction.work r) number
          (reaches m place want n c works a of.up in_it.of in_it.is here y.work now.transaction.work r sv
          (served still want a (going_on in_it.of) (at_command want a of) (seen ones listed want a of) posed) replies))

    -- ---- it was refused
    module _ (point : Point) (f : D) (u : StoreState) (z : Transaction)
        (latest : s.book.down ≡ false → (one : Point) → IsPointOf n one from x.work → IsNotBehind one point)
        (marked : (m : Meanings) (place : Place) (want : Wanted) (g : Going) → IsAt m place want n g from x.work → WasSo m place want n g point from x.work)
        (after : KeepsWanted here (parts told len f u)) where
      abbrev there : Parts
      there = parts told len f u

      all_leaves : {T : Type 0} (a : Result T Refusal) → Remains told len faults e f t u a → KeepsWanted from there
      all_leaves a remains = leaves_behind told len faults n d e s t led f u a remains after

      -- the disk failed on the way back
      pub EndsInside-failed : (now : Open) (r : Refusal) → Remains {T = Unit {0}} told len faults e f t u (Err r) → IsOnlyFault r u → EndsInside told len faults m place c d f s u o now (Err r)
      EndsInside-failed now r remains only =
          EndsInside-fault told len faults m place c works d f s u o now up (all_leaves (Err r) remains) r
          (Remains-stopped told len faults m place n d e f s t u y.work led r remains) only

      -- it is back
      module _ (remains : Remains {T = Unit {0}} told len faults e f t u (Ok tt)) (back_tx : z.tx ≡ y.tx)
          (back : (m : Meanings) (place : Place) (want : Wanted) (g : Going) → place.owner ≡ 2 → WasSo m place want y.tx.store.number g point here y.work → IsAt m place want y.tx.store.number (unused g) there z.work)
          (earlier : (m : Meanings) (place : Place) (want : Wanted) (g : Going) (one : Point) → IsNotBehind one point → WasSo m place want y.tx.store.number g one here y.work → WasSo m place want y.tx.store.number g one there z.work)
          (back_stand : (one : Point) → IsNotBehind one point → IsPointOf y.tx.store.number one here y.work → IsPointOf y.tx.store.number one there z.work)
          (back_begun : (m : Meanings) (root : ℕ) (want : Wanted) (db : Db) → WasBegun m root want db y.tx.store.number here → WasBegun m root want db y.tx.store.number there)
          (back_usable : (m : Meanings) (place : Place) → place.owner ≡ 2 → IsUsable m place y.tx.store.number there z.work) (back_spent : (k : ℕ) → HasSpent k t → HasSpent k u) (owner : place.owner ≡ 2) where
        still : t.book.down ≡ false
        still = up-earlier told len faults e f t u (Ok tt) remains (up-later told len faults e f t u tt remains)

        at_last : (P : ℕ → Type 0) → P n → P y.tx.store.number
        at_last P is = subst P (sym last_number) is

        at_first : (P : ℕ → Type 0) → P y.tx.store.number → P n
        at_first P is = subst P last_number is

        stays_back : Stays m place n from there x.work z.work
        stays_back = record {
          usable = at_first (λ k. IsUsable m place k there z.work) (back_usable m place owner);
          begun = λ want db is. at_first (λ k. WasBegun m place.root want db k there) (back_begun m place.root want db (at_last (λ k. WasBegun m place.root want db k here) (begun still m place.root want db is)));
          was = λ want g one so. at_first (λ k. WasSo m place want k g one there z.work)
              (earlier m place want g one (latest up one so.of) (at_last (λ k. WasSo m place want k g one here y.work) (points still m want g one so)));
          stand = λ one of. at_first (λ k. IsPointOf k one there z.work) (back_stand one (latest up one of) (at_last (λ k. IsPointOf k one here y.work) (stand one of)));
        }

        pub EndsInside-back : (now : Open) (ones : List Savepoint) → ones ≡ o.points.items → now.transaction ≡ z → now.points.items ≡ o.points.items → (r : Refusal) → OnFault r (t.book.down ≡ true)
            → ((want : Wanted) (a : State) (g : Going) → HasPaid m place want n x.work g from → IsSeenIn m true ones a g → IsPosedIn m a c → IsUnservedOn faults m a c g r (record { disk = e; store = t }))
            → EndsInside told len faults m place c d f s u o now (Err r)
        EndsInside-back now ones listed is kept r faulted refused =
            EndsInside-refused told len faults m place c works d f s u o now up (all_leaves (Ok tt) remains) (ap (λ (a : Transaction). a.tx.store.number) is ∙ ap (λ (a : Tx). a.store.number) (back_tx ∙ tx ∙ same)) kept
            (subst (λ (w : EngineWork). Stays m place first from there o.transaction.work w) (sym (ap (λ (a : Transaction). a.work) is))
            (Stays-then m place first from from there o.transaction.work x.work z.work stays_settled (subst (λ (k : ℕ). Stays m place k from there x.work z.work) number stays_back)))
            goes r (Remains-behind told len faults m place n d e f s t u y.work led (Ok tt) (Err r) (λ fault. ok_err tt refusal.Fault fault) remains)
            (record { disk = e; store = t }) still led.1.geometry faulted
            (λ want g at. subst (λ (w : EngineWork). IsAt m place want first (unused g) there w) (sym (ap (λ (a : Transaction). a.work) is))
            (subst (λ (k : ℕ). IsAt m place want k (unused g) there z.work) number
            (at_first (λ k. IsAt m place want k (unused g) there z.work)
            (back m place want (unused g) owner (at_last (λ k. WasSo m place want k (unused g) point here y.work) (points still m want (unused g) point (marked m place want (unused g) (at_work want g at))))))))
            back_spent
            (λ want a of posed. refused want a (going_on (within want a of).of) (at_command want a of) (seen ones listed want a of) posed)
