-- What was begun where a space refuses it.
use Rattle.std.proofs.Common.{◌≡◌, ◌⊎◌, ⊎_elim, inl, inr, ℕ, false, List, ap, sym, subst}
use Rattle.sb_rule.specs.declared.change.Change.TheVariants as change
use Rattle.sb_relation.specs.Db.{Key, Row, Relation}
use Rattle.sb_fold.specs.Outcome.{Work, made, ◌>>=◌}
use Rattle.sb_fold.specs.Wishes.{Wish, Edit, Adds, Takes, Turns, edit_of, wished}
use Rattle.sb_rule.specs.declared.change.Change.{Change}
use Rattle.sb_ctx.specs.declared.instance.Instance.{Instance}
use Rattle.sb_ctx.specs.declared.calls.MethodCall.TheVariants as call
use Rattle.sb_ctx.specs.MethodAnswers.{GetsKey}
use Rattle.sb_drive.specs.Slots.{Slots}
use Rattle.sb_drive.specs.Spaces.{LeadsWithin}
use Rattle.sb_drive.proofs.SpacesLemmas.{GoesOn, LeadsWithin-none, LeadsWithin-on}
use Rattle.sb_registry.specs.Boxes.{Meanings}
use Rattle.sb_standing.specs.Live.{HasRows}
use Rattle.sb_catalog.specs.declared.descriptor.Attached.{Attached}
use Rattle.sb_ctx.specs.Method.{call_of}
use Rattle.sb_wishes.specs.Edits.{settled}
use Rattle.sb_wishes.specs.Outcomes.{Begins, IsBegun}
use Rattle.sb_wishes.specs.Wished.{IsTableOf, is_long_in}
use Rattle.sb_wishes.proofs.LackingLemmas.{given_add, given_take, given_turn}

-- so much was changed, whatever was begun
pub begun_within : {S : Type 0} (Ways : ℕ → S → S → Type 0) {Gets : Type 0} (most : ℕ) (old new : S) → Ways 0 old new ⊎ (Gets × LeadsWithin Ways most old new)
    → LeadsWithin Ways most old new
begun_within Ways {Gets} most old new = ⊎_elim (λ (none : Ways 0 old new). LeadsWithin-none Ways most old new none) (λ (some : Gets × LeadsWithin Ways most old new). some.1)

module _ {S : Type 0} (Ways : ℕ → S → S → Type 0) (m : Meanings) (s : Slots) (inst : Instance) (r : Relation) (has : HasRows m s inst r.rows) (old new : S) where
  pub begins_add : (rules : List Attached) (row copy : Row) → copy ≡ row → IsTableOf inst rules r → is_long_in inst rules row ≡ false
      → Ways 0 old new ⊎ (GetsKey has.live.box inst (call.Insert copy) r.rows × LeadsWithin Ways (has.live.box.cost (call.Insert copy) r.rows) old new)
      → Begins Ways m s inst r has (settled inst.relation r (Adds row)) old new
  begins_add rules row copy copied t short = ⊎_elim (λ (none : Ways 0 old new). inl none)
      (λ (some : GetsKey has.live.box inst (call.Insert copy) r.rows × LeadsWithin Ways (has.live.box.cost (call.Insert copy) r.rows) old new).
      let given = given_add m s inst r has 0 rules row copy copied t short some.0 in
      inr (record {
        change = change.Insert given.0 row;
        picks = given.2.0;
        wished = given.2.1;
        cost = subst (λ (x : Row). LeadsWithin Ways (has.live.box.cost (call.Insert x) r.rows) old new) copied some.1;
      }))

  pub begins_take : (key at : Key) (row : Row) → at ≡ key → Ways 0 old new ⊎ (Unit {0} × LeadsWithin Ways (has.live.box.cost (call.Delete at) r.rows) old new)
      → Begins Ways m s inst r has (settled inst.relation r (Takes key row)) old new
  begins_take key at row copied = ⊎_elim (λ (none : Ways 0 old new). inl none)
      (λ (some : Unit {0} × LeadsWithin Ways (has.live.box.cost (call.Delete at) r.rows) old new).
      let given = given_take m s inst r has 0 key row in
      inr (record {
        change = change.Delete key row;
        picks = given.0;
        wished = given.1;
        cost = subst (λ (k : Key). LeadsWithin Ways (has.live.box.cost (call.Delete k) r.rows) old new) copied some.1;
      }))

  pub begins_turn : (rules : List Attached) (from at : Key) (row after copy : Row) → at ≡ from → copy ≡ after → IsTableOf inst rules r → is_long_in inst rules after ≡ false
      → Ways 0 old new ⊎ (GetsKey has.live.box inst (call.Update at copy) r.rows × LeadsWithin Ways (has.live.box.cost (call.Update at copy) r.rows) old new)
      → Begins Ways m s inst r has (settled inst.relation r (Turns from row after)) old new
  begins_turn rules from at row after copy at_is copied t short = ⊎_elim (λ (none : Ways 0 old new). inl none)
      (λ (some : GetsKey has.live.box inst (call.Update at copy) r.rows × LeadsWithin Ways (has.live.box.cost (call.Update at copy) r.rows) old new).
      let given = given_turn m s inst r has 0 rules from at row after copy at_is copied t short some.0 in
      inr (record {
        change = change.Update from row given.0 after;
        picks = given.2.0;
        wished = given.2.1;
        cost = subst (λ (x : Row). LeadsWithin Ways (has.live.box.cost (call.Update from x) r.rows) old new) copied
            (subst (λ (k : Key). LeadsWithin Ways (has.live.box.cost (call.Update k copy) r.rows) old new) at_is some.1);
      }))

  -- the same of what is wished, by the edit that it comes to, and from an earlier moment
  pub begins_wished : (earlier : S) (wish : Wish) (edit : Edit) → edit_of inst.relation r wish ≡ made edit → GoesOn Ways → Ways 0 earlier old
      → Begins Ways m s inst r has (settled inst.relation r edit) old new → Begins Ways m s inst r has (wished inst.relation r wish) earlier new
  begins_wished earlier wish edit is goes_on first = ⊎_elim (λ (none : Ways 0 old new). inl (goes_on 0 0 earlier old new first none))
      (λ (begun : IsBegun Ways m s inst r has (settled inst.relation r edit) old new).
      subst (λ (w : Work Change). Begins Ways m s inst r has w earlier new) (sym (ap (λ (w : Work Edit). w >>= settled inst.relation r) is))
      (inr (record {
        change = begun.change;
        picks = begun.picks;
        wished = begun.wished;
        cost = LeadsWithin-on Ways (has.live.box.cost (call_of begun.change) r.rows) earlier old new goes_on first begun.cost;
      })))
