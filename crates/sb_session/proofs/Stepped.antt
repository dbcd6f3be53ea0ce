-- The states that steps lead to, each with its transaction.
use Rattle.std.proofs.Common.{◌≡◌, ◌+◌, nat_le, true, false, length, Option, Some, None, refl, sym, subst, arith}
use Rattle.std.specs.List.{list_any}
use Rattle.sb_relation.specs.Db.{Name}
use Rattle.sb_fold.specs.Extensions.{Extensions}
use Rattle.sb_plain.specs.declared.command.Command.{Command}
use Rattle.sb_plain.specs.declared.command.Command.TheVariants as command
use Rattle.sb_plain.specs.declared.reply.Reply.{Reply}
use Rattle.sb_plain.specs.Step.{Steps}
use Rattle.sb_plain.specs.State.{Point as PlainPoint, State, Transaction as PlainTransaction, committed, is_point, points_to}
use Rattle.sb_plain.specs.Step.{back_to, begin, first_spent, ok, with_savepoint}
use Rattle.sb_registry.specs.Boxes.{Meanings}
use Rattle.sb_drive.specs.Spaces.{Wanted}
use Rattle.sb_transactions.specs.Place.{Place}
use Rattle.sb_txn.specs.Parts.{Parts}
use Rattle.sb_transactions.specs.Transactions.{Rests}
use Rattle.sb_session.specs.declared.session.Open.{Open}
use Rattle.sb_session.specs.Sessions.{IsInside, IsOpenFor}
use Rattle.sb_session.proofs.OpenLemmas.{IsInside-spent}
use Rattle.sb_session.proofs.StepLemmas.{at_fields, Steps-abort, Steps-begin, Steps-checkpoint, Steps-rollback, Steps-savepoint}

-- a step with this reply leads to a state of the same codes that isn't down, and of whose transaction this is so
pub record Stepped (ext : Extensions) (m : Meanings) (place : Place) (want : Wanted) (p : Parts) (opened : Option Open) (s : State) (c : Command) (reply : Reply) : Type 0 where
  pub after : State
  pub steps : Steps ext s c reply after
  pub up : after.down ≡ false
  pub live : after.live ≡ s.live
  pub spare : after.spare ≡ s.spare
  pub stands : IsOpenFor m place want (committed after) p opened after.transaction

-- the transaction at the point of this name
abbrev pub at_point : Name → PlainPoint → PlainTransaction → PlainTransaction
at_point name point t = record t { db = point.db; queue = point.queue; gone = point.gone; points = points_to name t.points }

module _ (ext : Extensions) (m : Meanings) (place : Place) (want : Wanted) (p : Parts) (s : State) (up : s.down ≡ false) where
  -- ---- outside of a transaction
  module _ (none : s.transaction ≡ None) where
    pub Stepped-begin : (o : Open) → IsInside m place want (committed s) p o (first_spent s) → Stepped ext m place want p (Some o) s command.Begin ok
    Stepped-begin o = at_fields (λ (s : State). IsInside m place want (committed s) p o (first_spent s) → Stepped ext m place want p (Some o) s command.Begin ok) s None false none up
        (λ inside. let r : State = record s { transaction = None; down = false } in record {
          after = begin r;
          steps = Steps-begin ext r refl refl;
          up = refl;
          live = refl;
          spare = refl;
          stands = inside;
        })

    pub Stepped-checkpoint : Rests m place.root want (committed s) p → Stepped ext m place want p None s command.Checkpoint ok
    Stepped-checkpoint = at_fields (λ (s : State). Rests m place.root want (committed s) p → Stepped ext m place want p None s command.Checkpoint ok) s None false none up
        (λ rests. let r : State = record s { transaction = None; down = false } in record {
          after = r;
          steps = Steps-checkpoint ext r refl refl;
          up = refl;
          live = refl;
          spare = refl;
          stands = rests;
        })

  -- ---- within one
  module _ (t : PlainTransaction) (inside : s.transaction ≡ Some t) where
    abbrev within : State
    within = record s { transaction = Some t; down = false }

    abbrev later : PlainTransaction
    later = record t { spent = t.spent + 1 }

    pub Stepped-abort : Rests m place.root want (committed s) p → Stepped ext m place want p None s command.Abort ok
    Stepped-abort = at_fields (λ (s : State). Rests m place.root want (committed s) p → Stepped ext m place want p None s command.Abort ok) s (Some t) false inside up
        (λ rests. record {
          after = record within { transaction = None };
          steps = Steps-abort ext within refl refl;
          up = refl;
          live = refl;
          spare = refl;
          stands = rests;
        })

    module _ (name : Name) (o : Open) where
      pub Stepped-savepoint : list_any (is_point name) t.points ≡ false → nat_le 64 (length t.points) ≡ false → IsInside m place want (committed s) p o (with_savepoint name t)
          → Stepped ext m place want p (Some o) s (command.Savepoint name) ok
      Stepped-savepoint fresh few =
          at_fields (λ (s : State). IsInside m place want (committed s) p o (with_savepoint name t) → Stepped ext m place want p (Some o) s (command.Savepoint name) ok) s (Some t) false inside up
          (λ made. record {
            after = record within { transaction = Some (with_savepoint name later) };
            steps = Steps-savepoint ext within refl name refl fresh few;
            up = refl;
            live = refl;
            spare = refl;
            stands = IsInside-spent m place want (committed within) p (t.spent + 1) o (with_savepoint name t) (omega arith) made;
          })

      -- where to go back to the name is to go back to this point
      pub Stepped-rollback : (point : PlainPoint) → list_any (is_point name) t.points ≡ true → ((u : PlainTransaction) → back_to name t.points u ≡ at_point name point u)
          → IsInside m place want (committed s) p o (at_point name point t) → Stepped ext m place want p (Some o) s (command.Rollback name) ok
      Stepped-rollback point known goes =
          at_fields (λ (s : State). IsInside m place want (committed s) p o (at_point name point t) → Stepped ext m place want p (Some o) s (command.Rollback name) ok) s (Some t) false inside up
          (λ back. record {
            after = record within { transaction = Some (back_to name t.points later) };
            steps = Steps-rollback ext within refl name refl known;
            up = refl;
            live = refl;
            spare = refl;
            stands = subst (λ (u : PlainTransaction). IsInside m place want (committed within) p o u) (sym (goes later))
                (IsInside-spent m place want (committed within) p (t.spent + 1) o (at_point name point t) (omega arith) back);
          })
