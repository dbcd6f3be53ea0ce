-- The ways in which a transaction of one command ends, by what the calls on the way promise.
use Rattle.std.proofs.Common.{◌≡◌, inl, ℕ, true, false, List, [], Option, Some, None, Result, Ok, Err, refl, sym, ap, ◌∙◌, subst, arith}
use Rattle.std.proofs.lemmas.Bool.{false≢true}
use Rattle.sb_disk.specs.Disk.{Story}
use Rattle.sb_disk.specs.Moments.{LeavesOnly}
use Rattle.sb_images.specs.Images.{Restores}
use Rattle.sb_log.specs.declared.geometry.Geometry.{Geometry}
use Rattle.sb_relation.specs.Db.{Db}
use Rattle.sb_fold.specs.declared.refusal.Refusal.{Refusal}
use Rattle.sb_fold.specs.declared.refusal.Refusal.TheVariants as refusal
use Rattle.sb_fold.specs.Outcome.{Going}
use Rattle.sb_cascade.specs.Runs.{MadeFrom, OnFault, is_free, is_room}
use Rattle.sb_engine.specs.OpenRelation.{OpenRelation}
use Rattle.sb_engine.specs.Refusals.{HasRefusalCause}
use Rattle.sb_engine.proofs.RefusedLemmas.{of_fault, on_fault}
use Rattle.sb_engine.specs.Working.{AreOpened, extensions_of}
use Rattle.sb_plain.specs.declared.command.Command.{Command}
use Rattle.sb_plain.specs.declared.reply.Reply.{Reply}
use Rattle.sb_plain.specs.declared.reply.Reply.TheVariants.{Refused}
use Rattle.sb_plain.specs.Licences.{may_want_memory, may_want_room}
use Rattle.sb_plain.specs.Step.{Steps}
use Rattle.sb_plain.specs.Refusing.{refused}
use Rattle.sb_plain.specs.State.{State, committed, view}
use Rattle.sb_plain.specs.Step.{work_of}
use Rattle.sb_registry.specs.Boxes.{Meanings}
use Rattle.sb_drive.specs.Spaces.{Wanted}
use Rattle.sb_map.specs.declared.place.Place.{Place}
use Rattle.sb_space.specs.Spent.{HasSpent}
use Rattle.sb_space.specs.Table.{slots_in}
use Rattle.sb_space.specs.Works.{HasPages}
use Rattle.sb_space.proofs.Transacting.{HasPages-stays}
use Rattle.sb_txn.specs.Clauses.{Leads}
use Rattle.sb_txn.specs.Parts.{Parts, parts}
use Rattle.sb_txn.specs.State.{State as StoreState}
use Rattle.sb_space.specs.declared.transactions.Tx.{Tx}
use Rattle.sb_session.specs.Transaction.{Transaction}
use Rattle.sb_session.specs.Calls.{IsOnlyFault, KeepsWanted, Remains}
use Rattle.sb_session.specs.Commits.{FailsOn, IsLed}
use Rattle.sb_session.specs.Sessions.{WantsRoom}
use Rattle.sb_session.specs.Transactions.{IsAt, IsFirst, IsUsable, MayStayOpen, Rests, WasBegun, last_open}
use Rattle.sb_session.proofs.CallLemmas.{Remains-answered, up-earlier, up-later}
use Rattle.sb_statements.specs.declared.answers.Answer as code
use Rattle.sb_execution.specs.Serving.{HasPaid, IsAnswered, IsPosedIn, IsSeenIn, IsServed, IsUnservedOn, KeepsOpened, is_managing, is_read}
use Rattle.sb_statements.specs.Statements.{answer_of}
use Rattle.sb_session.specs.declared.session.Savepoint.{Savepoint}
use Rattle.sb_session.proofs.OpenLemmas.{Outside, outside_at}
use Rattle.sb_execution.specs.declared.serving.Served.{Served}
use Rattle.sb_execution.specs.declared.serving.Served.TheVariants as served
use Rattle.sb_reads.specs.Reads.{is_reading}
use Rattle.sb_execution.specs.Endings.{ComesAlone, EndsAlone, HasAnswered, IsAlone, IsOf, Passes, going_alone}
use Rattle.sb_execution.proofs.AloneLemmas.{EndsAlone-done, EndsAlone-fault, EndsAlone-refused, leaves_alone, leaves_so_far, left_by, read_so, remains_alone, same_size}
use Rattle.sb_session.proofs.StayLemmas.{AreOpened-last, MayStayOpen-as, MayStayOpen-none}
use Rattle.sb_execution.proofs.CallLemmas.{Remains-err, Remains-led, Remains-then, not_both, ok_err}
use Rattle.sb_execution.proofs.EndLemmas.{at_some, free_room, may_want_memory-works, roomless, seen_alone, unserved_alone, unserved_cause, unserved_room, unserved_wants_alone, work_there}
use Rattle.sb_execution.proofs.PagesLemmas.{room_roomless}
use Rattle.sb_execution.proofs.ReplyLemmas.{answer_no_fault, read_given, refused_given}
use Rattle.sb_execution.proofs.StepsOf.{Steps-read_alone, Steps-refused_alone, with_open}

-- a transaction is begun with what was open
pub begins_so : (m : Meanings) (root pages : ℕ) (ones began : List OpenRelation) → began ≡ ones → (want : Wanted) → MayStayOpen m root pages want ones → MayStayOpen m root pages want began
begins_so m root pages ones began same want may = subst (λ (l : List OpenRelation). MayStayOpen m root pages want l) (sym same) may

-- or with nothing
pub begins_closed : (m : Meanings) (root pages : ℕ) (ones began : List OpenRelation) → began ≡ [] → (want : Wanted) → MayStayOpen m root pages want ones → MayStayOpen m root pages want began
begins_closed m root pages ones began closed want may = MayStayOpen-none m root pages want began closed

-- no transaction was begun
pub EndsAlone-not_begun : {D : Type 0} (told : D → Option Story) (len faults : D → ℕ) (m : Meanings) (place : Place) (c : Command) (d e : D) (s t : StoreState) → s.book.down ≡ false → (ones others : List OpenRelation) (r : Refusal)
    → Remains {T = Transaction} told len faults d e s t (Err r) → IsOnlyFault r t → KeepsWanted (parts told len d s) (parts told len e t) → EndsAlone told len faults m place c d e s t ones others (Err r)
EndsAlone-not_begun told len faults m place c d e s t up ones others r remains only leaves =
    EndsAlone-fault told len faults m place c d e s t up ones others r (Remains-err told len faults {T = Transaction} {U = Reply} d e s t r remains) only leaves

module _ {D : Type 0} (told : D → Option Story) (len faults : D → ℕ) (m : Meanings) (place : Place) (c : Command)
    (d b e : D) (s bs t : StoreState) (a y : Transaction) (up : s.book.down ≡ false) (owner : place.owner ≡ 2)
    -- these were open before, and with those the transaction was begun
    (ones began : List OpenRelation) (may_begin : (want : Wanted) → MayStayOpen m place.root s.pool.geometry.pages want ones → MayStayOpen m place.root s.pool.geometry.pages want began)
    (first : Remains told len faults d b s bs (Ok a)) (leaves_first : KeepsWanted (parts told len d s) (parts told len b bs))
    (pages_first : Leads (parts told len d s) (parts told len b bs) (λ now. now))
    (begun : (m : Meanings) (root : ℕ) (want : Wanted) (db : Db) → Rests m root want db (parts told len d s) → WasBegun m root want db a.tx.store.number (parts told len b bs))
    (at : (m : Meanings) (place : Place) (want : Wanted) (g : Going) → place.owner ≡ 2 → IsFirst g → Rests m place.root want g.db (parts told len d s)
    → MayStayOpen m place.root s.pool.geometry.pages want began → IsAt m place want a.tx.store.number g (parts told len b bs) a.work)
    (fresh : HasSpent 0 bs)
    -- the command was served
    (tx : y.tx ≡ a.tx) (serves : IsUsable m place a.tx.store.number (parts told len e t) y.work)
    (led : IsLed told len faults a.tx.store.number (record { disk = b; store = bs }) (record { disk = e; store = t }))
    (begun_then : t.book.down ≡ false → (m : Meanings) (root : ℕ) (want : Wanted) (db : Db) → WasBegun m root want db a.tx.store.number (parts told len b bs) → WasBegun m root want db a.tx.store.number (parts told len e t)) where
  abbrev from : Parts
  from = parts told len d s

  abbrev here : Parts
  here = parts told len e t

  abbrev n : ℕ
  n = a.tx.store.number

  abbrev last : ℕ
  last = y.tx.store.number

  last_number : last ≡ n
  last_number = ap (λ (a : Tx). a.store.number) tx

  out : (want : Wanted) (x : State) → IsOf m place want x from None → Outside m place want (committed x) from x.transaction
  out want x of = outside_at m place want (committed x) from x.transaction of.stands

  at_command : (want : Wanted) (x : State) → IsAlone m place want x from ones → HasPaid m place want n a.work (going_alone x) (parts told len b bs)
  at_command want x alone =
      (at m place want (going_alone x) owner (record { queue = refl; used = refl }) (out want x alone.of).rests (may_begin want alone.opened), record { changes = 0; within = omega arith; spent = fresh })

  pub comes : ComesAlone told len faults m place d e s t last
  comes = subst (λ (k : ℕ). ComesAlone told len faults m place d e s t k) (sym last_number) (record {
    mid = record { disk = b; store = bs };
    first = Remains-answered told len faults d b s bs a (Ok tt) first;
    leaves = leaves_first;
    led = led;
    pages = pages_first;
    begun = λ off want x of. begun_then off m place.root want (committed x) (begun m place.root want (committed x) (out want x of).rests);
  })

  -- ---- what was read
  -- the pages are those wanted where the transaction was begun
  has_begun : (want : Wanted) (x : State) → IsOf m place want x from None → HasPages want (slots_in s.pool.geometry.pages want) (parts told len b bs)
  has_begun want x of =
      HasPages-stays from (parts told len b bs) (ap (λ (g : Geometry). g.pages) first.geometry) leaves_first.leaves pages_first want (slots_in s.pool.geometry.pages want) (out want x of).rests.has

  -- what is open of them is open of them still
  stays_open : a.work.opened.items ≡ last_open began → KeepsOpened HasPages m place.root (parts told len b bs) here a.work y.work → (want : Wanted) (x : State) → IsAlone m place want x from ones
      → MayStayOpen m place.root s.pool.geometry.pages want y.work.opened.items
  stays_open last_ones keeps want x alone = λ kept tables.
      (keeps want (slots_in s.pool.geometry.pages want) kept (record {
        has = has_begun want x alone.of;
        tables = tables;
        opened = subst (λ (l : List OpenRelation). AreOpened m kept l) (sym last_ones) (AreOpened-last m kept began (may_begin want alone.opened kept tables));
      })).opened

  -- ---- the store is down
  pub EndsAlone-down : (others : List OpenRelation) → t.book.down ≡ true → EndsAlone told len faults m place c d e s t ones others (Err refusal.Fault)
  EndsAlone-down others down =
      EndsAlone-fault told len faults m place c d e s t up ones others refusal.Fault
      (Remains-then told len faults {T = Transaction} {U = Reply} {V = Reply} d b e s bs t (Ok a) (Err refusal.Fault) (Err refusal.Fault) (up-later told len faults d b s bs a first) (λ is. is) first
      (Remains-led told len faults n b e bs t led {T = Reply} (Err refusal.Fault) (up-later told len faults d b s bs a first) serves.ready.ready (λ on. refl)))
      (record { is = refl; down = down })
      (leaves_so_far told len faults m place d e s t last comes)

  -- ---- the transaction was aborted
  module _ (f : D) (u : StoreState) (leaves : KeepsWanted here (parts told len f u)) where
    abbrev there : Parts
    there = parts told len f u

    -- whatever that answered
    pub leaves_aborted : {T : Type 0} (r : Result T Refusal) → Remains told len faults e f t u r → KeepsWanted from there
    leaves_aborted r remains = leaves_alone told len faults m place d e s t last comes f u r remains leaves

    -- and the disk failed in that
    pub EndsAlone-failed : (others : List OpenRelation) (r : Refusal) → Remains {T = Unit {0}} told len faults e f t u (Err r) → IsOnlyFault r u → EndsAlone told len faults m place c d f s u ones others (Err r)
    EndsAlone-failed others r remains only =
        EndsAlone-fault told len faults m place c d f s u up ones others r
        (remains_alone told len faults m place d e s t last comes y.work {T = Reply} {U = Reply} f u (Err r) (Err r) (λ is. is) (Remains-err told len faults {T = Unit {0}} {U = Reply} e f t u r remains)) only
        (leaves_alone told len faults m place d e s t last comes {T = Unit {0}} f u (Err r) remains leaves)

    module _ (remains : Remains {T = Unit {0}} told len faults e f t u (Ok tt)) (none : u.book.actives ≡ [])
        (rests : (m : Meanings) (root : ℕ) (want : Wanted) (db : Db) → WasBegun m root want db last here → Rests m root want db there) where
      still : t.book.down ≡ false
      still = up-earlier told len faults e f t u (Ok tt) remains (up-later told len faults e f t u tt remains)

      rests_so : (want : Wanted) (x : State) → IsOf m place want x from None → Rests m place.root want (committed x) there
      rests_so want x of = rests m place.root want (committed x) (comes.begun still want x of)

      moments : KeepsWanted from there
      moments = leaves_alone told len faults m place d e s t last comes {T = Unit {0}} f u (Ok tt) remains leaves

      moments_so : (want : Wanted) (x : State) → IsAlone m place want x from ones → LeavesOnly (told d) (told f) (Restores s.pool.geometry want)
      moments_so want x alone = left_by told len faults m place c d f s u up ones ones moments want x alone

      sizes : u.pool.geometry ≡ s.pool.geometry
      sizes = remains.geometry ∙ same_size told len faults m place d e s t last comes

      -- what might stay open before may so still
      still_open : (want : Wanted) → MayStayOpen m place.root s.pool.geometry.pages want ones → MayStayOpen m place.root u.pool.geometry.pages want ones
      still_open want may = MayStayOpen-as m place.root want s.pool.geometry u.pool.geometry ones ones sizes refl may

      module _ (points : List Savepoint) (listed : points ≡ []) where
        seen : (want : Wanted) (x : State) → IsOf m place want x from None → IsSeenIn m false points x (going_alone x)
        seen want x of = seen_alone m place want x from points listed of (out want x of).none

        -- behind a refusal, for a reason of the definitions or of the store
        EndsAlone-behind : (others : List OpenRelation)
            → ((want : Wanted) → MayStayOpen m place.root s.pool.geometry.pages want ones → MayStayOpen m place.root u.pool.geometry.pages want others)
            → ((x : State) → may_want_memory x c ≡ true) → (r : Refusal) → OnFault r (t.book.down ≡ true)
            → ((want : Wanted) (x : State) → IsAlone m place want x from ones → IsPosedIn m x c
            → (is_free r ≡ false → Steps (extensions_of m) x c (Refused r) (with_open x None)) × (is_free r ≡ true → HasRefusalCause (FailsOn faults) r (record { disk = e; store = t }))
            × (is_room r ≡ true → may_want_room x c ≡ true) × WantsRoom m s.pool.geometry.pages x c (Refused r))
            → EndsAlone told len faults m place c d f s u ones others (Err r)
        EndsAlone-behind others stays may r faulted why =
            EndsAlone-refused told len faults m place c d f s u up ones others may r
            (remains_alone told len faults m place d e s t last comes y.work {T = Unit {0}} {U = Reply} f u (Ok tt) (Err r) (λ is. ok_err tt refusal.Fault is) remains)
            (on_fault r (u.book.down ≡ true) (λ is. not_both t.book.down still (of_fault r (t.book.down ≡ true) faulted is)))
            (λ not. moments) (λ want x alone posed. inl (moments_so want x alone)) (λ off. none) stays (λ off want x alone. rests_so want x alone.of)
            (λ want x alone posed.
            let both = why want x alone posed in
            record {
              given = both.0;
              there = record { disk = e; store = t };
              cause = both.1;
              sizes = λ room. same_size told len faults m place d e s t last comes;
              lacks = both.2;
              room = both.3;
            })

        -- the command wasn't served, and nothing stays open
        pub EndsAlone-back : (others : List OpenRelation) → others ≡ [] → is_managing c ≡ false → (r : Refusal) → OnFault r (t.book.down ≡ true)
            → ((want : Wanted) (x : State) (g : Going) → HasPaid m place want n a.work g (parts told len b bs) → IsSeenIn m false points x g → IsPosedIn m x c
            → IsUnservedOn faults m x c g r (record { disk = e; store = t })) → EndsAlone told len faults m place c d f s u ones others (Err r)
        EndsAlone-back others closed works r faulted unserved =
            EndsAlone-behind others (λ want may. MayStayOpen-none m place.root u.pool.geometry.pages want others closed) (λ x. may_want_memory-works x c works) r faulted
            (λ want x alone posed.
            let why = unserved want x (going_alone x) (at_command want x alone) (seen want x alone.of) posed in (
              λ given. unserved_alone faults m x c works r (record { disk = e; store = t }) alone.of.up given (out want x alone.of).none why,
              unserved_cause faults m x c works r (record { disk = e; store = t }) (going_alone x) why,
              unserved_room faults m x c works r (record { disk = e; store = t }) (going_alone x) why,
              unserved_wants_alone faults m x c works r (record { disk = e; store = t }) alone.of.up s.pool.geometry.pages
                  (λ room. ap (λ (g : Geometry). g.pages) (same_size told len faults m place d e s t last comes)) still (out want x alone.of).none why,
            ))

        -- a test refuses it
        pub EndsAlone-tested : ((x : State) → may_want_memory x c ≡ true) → (r : Refusal) → OnFault r ⊥
            → ((want : Wanted) (x : State) (g : Going) → HasPaid m place want n a.work g (parts told len b bs) → IsSeenIn m false points x g → Some r ≡ refused (extensions_of m) x c)
            → EndsAlone told len faults m place c d f s u ones ones (Err r)
        EndsAlone-tested may r tested refuses =
            EndsAlone-behind ones still_open may r (on_fault r (t.book.down ≡ true) (λ is. absurd (of_fault r ⊥ tested is)))
            (λ want x alone posed.
            let is : refused (extensions_of m) x c ≡ Some r = sym (refuses want x (going_alone x) (at_command want x alone) (seen want x alone.of)) in (
              λ given. Steps-refused_alone (extensions_of m) x c alone.of.up (out want x alone.of).none r is,
              λ free. absurd (false≢true (sym (refused_given (extensions_of m) x c r is) ∙ free)),
              λ room. absurd (false≢true (sym (refused_given (extensions_of m) x c r is) ∙ free_room r room)),
              room_roomless m s.pool.geometry.pages x c r (roomless r (refused_given (extensions_of m) x c r is)),
            ))

        -- a look of the tests was refused
        pub EndsAlone-looked : ((x : State) → may_want_memory x c ≡ true) → (r : Refusal) → OnFault r (t.book.down ≡ true) → is_free r ≡ true → is_room r ≡ false
            → ((want : Wanted) (x : State) (g : Going) → HasPaid m place want n a.work g (parts told len b bs) → IsSeenIn m false points x g → HasRefusalCause (FailsOn faults) r (record { disk = e; store = t }))
            → EndsAlone told len faults m place c d f s u ones ones (Err r)
        EndsAlone-looked may r faulted free none_lacks cause =
            EndsAlone-behind ones still_open may r faulted
            (λ want x alone posed. (
              λ given. absurd (false≢true (sym given ∙ free)),
              λ also. cause want x (going_alone x) (at_command want x alone) (seen want x alone.of),
              λ room. absurd (false≢true (sym none_lacks ∙ room)),
              room_roomless m s.pool.geometry.pages x c r none_lacks,
            ))

        -- no test refuses it, and nothing was open
        pub Passes-alone : ones ≡ [] → ((want : Wanted) (x : State) (g : Going) → HasPaid m place want n a.work g (parts told len b bs) → IsSeenIn m false points x g → None ≡ refused (extensions_of m) x c)
            → Passes told len faults m place c d f s u
        Passes-alone closed passed = record {
          passed = λ want x of.
              let alone : IsAlone m place want x from ones = record { of = of; opened = MayStayOpen-none m place.root s.pool.geometry.pages want ones closed } in
              sym (passed want x (going_alone x) (at_command want x alone) (seen want x of));
          rests = rests_so;
          none = none;
          remains = remains_alone told len faults m place d e s t last comes y.work {T = Unit {0}} {U = Unit {0}} f u (Ok tt) (Ok tt) (λ is. is) remains;
        }

        -- behind a reading: what is open are relations of the pages wanted still
        pub EndsAlone-reads : a.work.opened.items ≡ last_open began → (others : List OpenRelation) → others ≡ y.work.opened.items → (r : Reply) (came : Served) → came ≡ served.Read r → IsAnswered came
            → (t.book.down ≡ false → is_read came ≡ true → KeepsOpened HasPages m place.root (parts told len b bs) here a.work y.work)
            → (t.book.down ≡ false → (want : Wanted) (x : State) (g : Going) → HasPaid m place want n a.work g (parts told len b bs) → IsSeenIn m false points x g → IsPosedIn m x c
            → IsServed (HasPaid m place want n y.work) m x c g came here) → EndsAlone told len faults m place c d f s u ones others (Ok r)
        EndsAlone-reads last_ones others same r came is answers keeps serves_so =
            EndsAlone-done told len faults m place c d f s u up ones others r
            (answer_no_fault r (subst (λ (one : Served). IsAnswered one) is answers))
            (remains_alone told len faults m place d e s t last comes y.work {T = Unit {0}} {U = Reply} f u (Ok tt) (Ok r) (λ is. ok_err tt refusal.Fault is) remains)
            (λ not. moments) (λ off. none)
            (λ want x alone posed.
            let did : IsServed (HasPaid m place want n y.work) m x c (going_alone x) (served.Read r) here =
            subst (λ (one : Served). IsServed (HasPaid m place want n y.work) m x c (going_alone x) one here) is (serves_so still want x (going_alone x) (at_command want x alone) (seen want x alone.of) posed) in
            let reads : is_read came ≡ true = ap (λ (one : Served). is_read one) is in
            read_so told len faults m place c d f s u up ones others r want x (rests_so want x alone.of)
            (MayStayOpen-as m place.root want s.pool.geometry u.pool.geometry y.work.opened.items others sizes same (stays_open last_ones (keeps still reads) want x alone))
            (moments_so want x alone) (read_given (extensions_of m) (view x) c r did.1)
            (Steps-read_alone (extensions_of m) x c alone.of.up (out want x alone.of).none r did.0 did.1))

  -- ---- the command was answered
  pub has_answered : is_managing c ≡ false → is_reading c ≡ false → (points : List Savepoint) → points ≡ [] → (answer : code.Answer) (came : Served) → came ≡ served.Worked answer → t.book.down ≡ false
      → (t.book.down ≡ false → (want : Wanted) (x : State) (g : Going) → HasPaid m place want n a.work g (parts told len b bs) → IsSeenIn m false points x g → IsPosedIn m x c
      → IsServed (HasPaid m place want n y.work) m x c g came here)
      → HasAnswered told len faults m place c d e s t last y.work ones (answer_of answer)
  has_answered works changes points listed answer came is still serves_so = record {
    works = works;
    changes = changes;
    up = still;
    comes = comes;
    answers = λ want x alone posed.
        let did : IsServed (HasPaid m place want n y.work) m x c (going_alone x) (served.Worked answer) here =
        subst (λ (one : Served). IsServed (HasPaid m place want n y.work) m x c (going_alone x) one here) is
        (serves_so still want x (going_alone x) (at_command want x alone) (seen_alone m place want x from points listed alone.of (out want x alone.of).none) posed) in
        let there = work_there (extensions_of m) (view x) c works did.1 in
        record {
          passed = did.0;
          work = there.0;
          is = there.1;
          run = subst (λ (k : ℕ). MadeFrom (HasPaid m place want k y.work) there.0 (going_alone x) (answer_of answer) here) (sym last_number)
              (at_some (work_of (extensions_of m) c) there.0 (λ work. MadeFrom (HasPaid m place want n y.work) work (going_alone x) (answer_of answer) here) there.1 did.2);
        };
  }
