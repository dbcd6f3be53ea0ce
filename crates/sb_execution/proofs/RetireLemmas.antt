-- What becomes of a session whose command went through its tests in a transaction of its own.
use Rattle.std.proofs.Common.{◌≡◌, ℕ, false, List, All, Option, None, Ok, inl, refl, sym, ap, ◌∙◌, subst}
use Rattle.std.proofs.lemmas.Bool.{false≢true}
use Rattle.std.proofs.Math.Bool.{or-false}
use Rattle.sb_disk.specs.Disk.{Story}
use Rattle.sb_disk.specs.Moments.{LeavesOnly}
use Rattle.sb_disk.proofs.CauseLemmas.{Rose-later}
use Rattle.sb_images.specs.Images.{Restores}
use Rattle.sb_log.specs.declared.geometry.Geometry.{Geometry}
use Rattle.sb_engine.specs.OpenRelation.{OpenRelation}
use Rattle.sb_engine.specs.Opened.{IsOpen}
use Rattle.sb_engine.specs.Working.{extensions_of}
use Rattle.sb_fold.specs.declared.refusal.Refusal.TheVariants as refusal
use Rattle.sb_plain.specs.declared.command.Command.{Command}
use Rattle.sb_plain.specs.declared.reply.Reply.{Reply}
use Rattle.sb_plain.specs.Licences.{may_want_room}
use Rattle.sb_plain.specs.Refusing.{refused}
use Rattle.sb_plain.specs.State.{State, Transaction as PlainTransaction, committed}
use Rattle.sb_plain.specs.Step.{ok}
use Rattle.sb_registry.specs.Boxes.{Meanings}
use Rattle.sb_drive.specs.Spaces.{Wanted}
use Rattle.sb_session.specs.Calls.{KeepsWanted}
use Rattle.sb_txn.specs.Parts.{Parts, parts}
use Rattle.sb_space.specs.declared.transactions.Space.{Space}
use Rattle.sb_vectors.specs.Vectors.{AreSameBoxes}
use Rattle.sb_session.specs.declared.session.Open.{Open}
use Rattle.sb_session.specs.declared.session.Session.{Session}
use Rattle.sb_session.specs.Ends.{Ends, ends_with}
use Rattle.sb_session.specs.Sessions.{CanRun, HasFailed, IsFor, IsOpenFor, KeepsSession, Lacks, StandsBehind, parts_of, sizes_of}
use Rattle.sb_session.proofs.Carried.{CanRun-as, IsFor-as}
use Rattle.sb_session.proofs.Commands.{outside_for}
use Rattle.sb_execution.specs.Endings.{Executed, IsOf, Passes}
use Rattle.sb_session.proofs.StayLemmas.{MayStayOpen-as}
use Rattle.sb_execution.proofs.CallLemmas.{ok_err, still_up}
use Rattle.sb_execution.proofs.EndLemmas.{Ends-as, Ends-since}
use Rattle.sb_execution.proofs.ExecLemmas.{KeepsSession-then}
use Rattle.sb_execution.proofs.PagesLemmas.{room_unwanted}

module _ {B D : Type 0} (meanings : B → Meanings) (told : D → Option Story) (len faults : D → ℕ) (c : Command) (d e : D) (x y : Session B)
    (runs : CanRun meanings told len d x) (up : x.down ≡ false) (none : x.open ≡ None)
    (boxes : y.boxes ≡ x.boxes) (place : y.place ≡ x.place) (down : y.down ≡ x.down) (opened : y.open ≡ x.open) (listed : y.opened.items ≡ x.opened.items)
    (passes : Passes told len faults (meanings x.boxes) x.place c d e x.space.store y.space.store) (leaves : KeepsWanted (parts_of told len d x) (parts_of told len e y))
    (unwanted : (s : State) → may_want_room s c ≡ false) where
  abbrev m : Meanings
  m = meanings x.boxes

  abbrev p : Parts
  p = parts_of told len d x

  abbrev q : Parts
  q = parts_of told len e y

  of_state : (want : Wanted) (s : State) → IsFor meanings told len want s d x → IsOf m x.place want s p None
  of_state want s for =
      let up_state : s.down ≡ false = sym for.down ∙ up in
      record {
        up = up_state;
        live = for.live;
        spare = for.spare;
        stands = subst (λ (o : Option Open). IsOpenFor m x.place want (committed s) p o s.transaction) none (for.stands up_state);
      }

  -- it stands for the same state
  pub IsFor-tested : (want : Wanted) (s : State) → IsFor meanings told len want s d x → IsFor meanings told len want s e y
  IsFor-tested want s for =
      IsFor-as meanings told len want s d e x y for want s None q (ap meanings boxes) place (opened ∙ none) refl (down ∙ for.down) refl refl
      (λ on. subst (λ (a : Option PlainTransaction). IsOpenFor m x.place want (committed s) q None a) (sym (outside_for meanings told len faults d x runs up none want s for).none)
      (passes.rests want s (of_state want s for)))
      (λ on. MayStayOpen-as m x.place.root want (sizes_of x) (sizes_of y) x.opened.items y.opened.items passes.remains.geometry listed (for.opened on))

  pub runs_tested : CanRun meanings told len e y
  runs_tested =
      CanRun-as meanings told len d e x y None q runs (ap meanings boxes) place (opened ∙ none) refl passes.remains.geometry passes.remains.ready
      (λ on. still_up told len faults {T = Unit {0}} d e x.space.store y.space.store (Ok tt) passes.remains (λ is. ok_err tt refusal.Fault is)) (λ on. passes.none)
      (λ on. subst (λ (l : List OpenRelation). All (IsOpen m) l) (sym listed) (runs.opened up))

  keeps_tested : KeepsSession len faults d e x y ok
  keeps_tested = record {
    size = passes.remains.size;
    later = passes.remains.later;
    geometry = passes.remains.geometry;
    place = place;
    down = down ∙ sym (or-false x.down);
    fault = λ is. absurd (false≢true (ap (λ (r : Reply). ends_with r) is));
    ended = λ on. absurd (false≢true (sym up ∙ on));
  }

  left_tested : (want : Wanted) (s : State) → IsFor meanings told len want s d x → LeavesOnly (told d) (told e) (Restores x.space.store.pool.geometry want)
  left_tested want s for =
      let rests = (outside_for meanings told len faults d x runs up none want s for).rests in
      leaves.leaves.each want rests.has.now rests.has.stands.store

  -- and the command goes on, and asks nothing of the disk
  pub Executed-tested : (f : D) (z : Session B) (r : Reply) → f ≡ e → z.space ≡ y.space → AreSameBoxes (meanings y.boxes) (meanings z.boxes) → KeepsSession len faults e f y z r → CanRun meanings told len f z
      → ((want : Wanted) (s : State) → IsFor meanings told len want s e y → refused (extensions_of m) s c ≡ None
      → Ends (λ t. IsFor meanings told len want t f z) (Lacks (sizes_of y)) (HasFailed faults e f) (extensions_of (meanings y.boxes)) s c r)
      → Executed meanings told len faults c d f x z r
  Executed-tested f z r disk space same keeps runs_on ends = record {
    room = λ want s for posed. room_unwanted _ _ _ _ m (sizes_of x).pages s c r (unwanted s) (ends want s (IsFor-tested want s for) (passes.passed want s (of_state want s for)));
    ends = λ want s for posed.
        Ends-as (λ t. IsFor meanings told len want t f z) (StandsBehind meanings told len want (extensions_of m) s c d f x z) (Lacks (sizes_of x)) (HasFailed faults d f) (extensions_of m) s c
        (λ t is. record {
          stands = record { want = want; is = is };
          leaves = λ on. inl (subst (λ (g : D). LeavesOnly (told d) (told g) (Restores x.space.store.pool.geometry want)) (sym disk) (left_tested want s for));
        }) r
        (Ends-since (λ t. IsFor meanings told len want t f z) (Lacks (sizes_of x)) (HasFailed faults e f) (HasFailed faults d f) (extensions_of m) s c
        (Rose-later (faults d) (faults e) (faults f) passes.remains.later) r
        (subst (λ (g : Geometry). Ends (λ t. IsFor meanings told len want t f z) (Lacks g) (HasFailed faults e f) (extensions_of m) s c r) passes.remains.geometry
        (subst (λ (b : B). Ends (λ t. IsFor meanings told len want t f z) (Lacks (sizes_of y)) (HasFailed faults e f) (extensions_of (meanings b)) s c r) boxes
        (ends want s (IsFor-tested want s for) (passes.passed want s (of_state want s for))))));
    leaves = λ not. subst (λ (a : Space). KeepsWanted p (parts told len f a.store)) (sym space) (subst (λ (g : D). KeepsWanted p (parts told len g y.space.store)) (sym disk) leaves);
    same = subst (λ (b : B). AreSameBoxes (meanings b) (meanings z.boxes)) boxes same;
    keeps = KeepsSession-then len faults d e f x y z ok r up down keeps_tested keeps;
    runs = runs_on;
  }
