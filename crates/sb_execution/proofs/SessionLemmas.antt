-- What becomes of a session in a command on relations.
use Rattle.std.proofs.Common.{◌≡◌, ◌||◌, ℕ, Bool, true, false, List, All, Option, Some, None, Result, refl, sym, ap, ◌∙◌, subst}
use Rattle.std.proofs.lemmas.Bool.{false≢true}
use Rattle.sb_disk.specs.Disk.{Story}
use Rattle.sb_fold.specs.declared.refusal.Refusal.{Refusal}
use Rattle.sb_fold.specs.declared.refusal.Refusal.TheVariants.{Fault}
use Rattle.sb_engine.specs.OpenRelation.{OpenRelation}
use Rattle.sb_engine.specs.Opened.{IsOpen}
use Rattle.sb_engine.specs.Working.{extensions_of}
use Rattle.sb_plain.specs.declared.command.Command.{Command}
use Rattle.sb_plain.specs.declared.reply.Reply.{Reply}
use Rattle.sb_plain.specs.declared.reply.Reply.TheVariants.{Refused}
use Rattle.sb_plain.specs.State.{State, committed}
use Rattle.sb_registry.specs.Boxes.{Meanings}
use Rattle.sb_drive.specs.Spaces.{Wanted}
use Rattle.sb_txn.specs.Parts.{Parts, parts}
use Rattle.sb_space.specs.declared.transactions.Space.{Space}
use Rattle.sb_session.specs.Calls.{KeepsWanted, Remains}
use Rattle.sb_execution.specs.Serving.{IsPosedIn}
use Rattle.sb_session.specs.declared.session.Open.{Open}
use Rattle.sb_session.specs.declared.session.Session.{Session}
use Rattle.sb_session.specs.Ends.{Ends, ends_with}
use Rattle.sb_session.specs.Sessions.{CanRun, HasFailed, IsFor, IsOpenFor, KeepsSession, Lacks, LeavesOldOrNext, StandsBehind, WantsRoom, parts_of, sizes_of}
use Rattle.sb_session.proofs.Carried.{CanRun-as, IsFor-as, keeps-for}
use Rattle.sb_execution.specs.Endings.{EndsAlone, EndsInside, IsAlone, IsLeft, IsLeftAlone, IsOf, reply_by}
use Rattle.sb_session.proofs.StayLemmas.{MayStayOpen-as}
use Rattle.sb_execution.proofs.CallLemmas.{has_failed, still_up}
use Rattle.sb_execution.proofs.EndLemmas.{Ends-as}

module _ {B D : Type 0} (meanings : B → Meanings) (told : D → Option Story) (len faults : D → ℕ) (c : Command) (d e : D) (x y : Session B)
    (runs : CanRun meanings told len d x) (up : x.down ≡ false) (space : Space) (same : y.space ≡ space) (boxes : y.boxes ≡ x.boxes) (place : y.place ≡ x.place)
    (result : Result Reply Refusal) (r : Reply) (replies : r ≡ reply_by result) (down : y.down ≡ (x.down || ends_with r)) where
  abbrev m : Meanings
  m = meanings x.boxes

  abbrev p : Parts
  p = parts_of told len d x

  abbrev q : Parts
  q = parts told len e space.store

  same_boxes : meanings y.boxes ≡ meanings x.boxes
  same_boxes = ap meanings boxes

  now : parts_of told len e y ≡ q
  now = ap (λ (a : Space). parts told len e a.store) same

  ends : y.down ≡ ends_with (reply_by result)
  ends = down ∙ ap (λ (b : Bool). b || ends_with r) up ∙ ap (λ (r : Reply). ends_with r) replies

  of_state : (o : Option Open) → x.open ≡ o → (want : Wanted) (s : State) → IsFor meanings told len want s d x → IsOf m x.place want s p o
  of_state o is want s for =
      let up_state : s.down ≡ false = sym for.down ∙ up in
      record {
        up = up_state;
        live = for.live;
        spare = for.spare;
        stands = subst (λ (o : Option Open). IsOpenFor m x.place want (committed s) p o s.transaction) is (for.stands up_state);
      }

  pub leaves_session : KeepsWanted p q → KeepsWanted p (parts_of told len e y)
  leaves_session leaves = keeps-for meanings told len d e x y space same leaves

  module _ (remains : Remains told len faults d e x.space.store space.store result) where
    stays_up : y.down ≡ false → space.store.book.down ≡ false
    stays_up on =
        still_up told len faults d e x.space.store space.store result remains
        (λ fault. absurd (false≢true (sym on ∙ ends ∙ ap (λ (a : Result Reply Refusal). ends_with (reply_by a)) fault)))

    pub keeps_session : (reply_by result ≡ Refused Fault → space.store.book.down ≡ true) → KeepsSession len faults d e x y r
    keeps_session faulted = record {
      size = remains.size;
      later = remains.later;
      geometry = ap (λ (a : Space). a.store.pool.geometry) same ∙ remains.geometry;
      place = place;
      down = down;
      fault = λ is. has_failed told len faults d e x.space.store space.store result remains (runs.up up) (faulted (sym replies ∙ is));
      ended = λ on. absurd (false≢true (sym up ∙ on));
    }

    -- ---- within a transaction, which leaves what is open between them
    module _ (before after : Open) (some : x.open ≡ Some before) (put : y.open ≡ Some after) (listed : y.opened.items ≡ x.opened.items)
        (ended : EndsInside told len faults m x.place c d e x.space.store space.store before after result) where
      pub ends_inside : (want : Wanted) (s : State) → IsFor meanings told len want s d x → IsPosedIn m s c
          → Ends (λ t. IsFor meanings told len want t e y) (Lacks (sizes_of x)) (HasFailed faults d e) (extensions_of m) s c r
      ends_inside want s for posed =
          subst (λ (r : Reply). Ends (λ t. IsFor meanings told len want t e y) (Lacks (sizes_of x)) (HasFailed faults d e) (extensions_of m) s c r) (sym replies)
          (Ends-as (IsLeft m x.place want s q (Some after) (reply_by result)) (λ t. IsFor meanings told len want t e y) (Lacks (sizes_of x)) (HasFailed faults d e) (extensions_of m) s c
          (λ t left. IsFor-as meanings told len want s d e x y for want t (Some after) q same_boxes place put now (ends ∙ sym left.down) left.live left.spare left.stands
          (λ on. MayStayOpen-as m x.place.root want (sizes_of x) space.store.pool.geometry x.opened.items y.opened.items remains.geometry listed (for.opened (sym for.down ∙ up))))
          (reply_by result) (ended.ends want s (of_state (Some before) some want s for) posed))

      pub room_within : (want : Wanted) (s : State) → IsFor meanings told len want s d x → IsPosedIn m s c → WantsRoom m (sizes_of x).pages s c r
      room_within want s for posed =
          subst (λ (r : Reply). WantsRoom m (sizes_of x).pages s c r) (sym replies) (ended.room want s (of_state (Some before) some want s for) posed)

      pub runs_inside : CanRun meanings told len e y
      runs_inside = CanRun-as meanings told len d e x y (Some after) q runs same_boxes place put now remains.geometry remains.ready stays_up (λ on. ended.goes (sym ends ∙ on))
          (λ on. subst (λ (l : List OpenRelation). All (IsOpen m) l) (sym listed) (runs.opened up))

    -- ---- outside of one, which leaves the others open
    module _ (none : x.open ≡ None) (still : y.open ≡ None) (others : List OpenRelation) (listed : y.opened.items ≡ others)
        (ended : EndsAlone told len faults m x.place c d e x.space.store space.store x.opened.items others result) where
      abbrev Behind : Wanted → State → State → Type 0
      Behind want s t = StandsBehind meanings told len want (extensions_of m) s c d e x y t

      alone_state : (want : Wanted) (s : State) → IsFor meanings told len want s d x → IsAlone m x.place want s p x.opened.items
      alone_state want s for = record { of = of_state None none want s for; opened = for.opened (sym for.down ∙ up) }

      pub ends_alone : (want : Wanted) (s : State) → IsFor meanings told len want s d x → IsPosedIn m s c
          → Ends (Behind want s) (Lacks (sizes_of x)) (HasFailed faults d e) (extensions_of m) s c r
      ends_alone want s for posed =
          subst (λ (r : Reply). Ends (Behind want s) (Lacks (sizes_of x)) (HasFailed faults d e) (extensions_of m) s c r) (sym replies)
          (Ends-as (IsLeftAlone m x.place want s c p q others (reply_by result)) (Behind want s) (Lacks (sizes_of x)) (HasFailed faults d e) (extensions_of m) s c
          (λ t left. record {
            stands = record {
              want = left.now;
              is = IsFor-as meanings told len want s d e x y for left.now t None q same_boxes place still now (ends ∙ sym left.is.down) left.is.live left.is.spare left.is.stands
                  (λ on. MayStayOpen-as m x.place.root left.now space.store.pool.geometry space.store.pool.geometry others y.opened.items refl listed (left.opened on));
            };
            leaves = λ on. subst (λ (q : Parts). LeavesOldOrNext m x.place.root want (extensions_of m) s c t p q) (sym now) left.leaves;
          })
          (reply_by result) (ended.ends want s (alone_state want s for) posed))

      pub room_outside : (want : Wanted) (s : State) → IsFor meanings told len want s d x → IsPosedIn m s c → WantsRoom m (sizes_of x).pages s c r
      room_outside want s for posed =
          subst (λ (r : Reply). WantsRoom m (sizes_of x).pages s c r) (sym replies) (ended.room want s (alone_state want s for) posed)

      pub runs_alone : All (IsOpen m) others → CanRun meanings told len e y
      runs_alone are_open = CanRun-as meanings told len d e x y None q runs same_boxes place still now remains.geometry remains.ready stays_up (λ on. ended.none (stays_up on))
          (λ on. subst (λ (l : List OpenRelation). All (IsOpen m) l) (sym listed) are_open)
