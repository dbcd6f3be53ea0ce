-- What items leave of a store, one behind the other.
use Rattle.std.proofs.Common.{◌≡◌, ℕ, suc, Bool, true, false, not, ◌&&◌, is_some, List, [], ◌∷◌, ◌++◌, length, refl, sym, ap, subst, ◌∙◌, arith}
use Rattle.sb_disk.proofs.MomentLemmas.{and_then}
use Rattle.sb_images.specs.Images.{Restores}
use Rattle.sb_log.specs.declared.geometry.Geometry.{Geometry}
use Rattle.sb_disk.specs.Moments.{LeavesOnly}
use Rattle.sb_plain.specs.declared.command.Command.{Command}
use Rattle.sb_plain.specs.declared.reply.Reply.{Reply}
use Rattle.sb_grammar.specs.Columns.{Item, Says, Bad}
use Rattle.sb_txn.specs.Clauses.{LeavesWanted}
use Rattle.sb_txn.proofs.KeepsLemmas.{LeavesWanted-none}
use Rattle.sb_opening.specs.Calls.{KeepsWanted}
use Rattle.sb_opening.specs.Ends.{is_open_behind}
use Rattle.sb_opening.specs.Session.{Session}
use Rattle.sb_opening.specs.Sessions.{parts_of, sizes_of}
use Rattle.sb_execution.specs.Serving.{may_have_committed}
use Rattle.sb_kernel.specs.World.{World, At}
use Rattle.sb_kernel.specs.Answering.{Closes}
use Rattle.sb_kernel.specs.Keeping.{Keeps, KeepsOut, commit_none, is_open_after, is_open_by, may_commit}

-- ---- items behind others
pub open_behind : (inside : Bool) (items more : List Item) (replies others : List Reply) → length replies ≡ length items
    → is_open_after inside (items ++ more) (replies ++ others) ≡ is_open_after (is_open_after inside items replies) more others
open_behind inside [] more [] others same = refl
open_behind inside [] more (reply ∷ replies) others same = absurd (omega (arith, same))
open_behind inside (item ∷ items) more [] others same = absurd (omega (arith, same))
open_behind inside (item ∷ items) more (reply ∷ replies) others same = open_behind (is_open_by item inside reply) items more replies others (omega (arith, same))

pub none_behind : (inside : Bool) (items more : List Item) (replies others : List Reply) → length replies ≡ length items
    → commit_none inside (items ++ more) (replies ++ others) ≡ (commit_none inside items replies && commit_none (is_open_after inside items replies) more others)
none_behind inside [] more [] others same = refl
none_behind inside [] more (reply ∷ replies) others same = absurd (omega (arith, same))
none_behind inside (item ∷ items) more [] others same = absurd (omega (arith, same))
none_behind inside (item ∷ items) more (reply ∷ replies) others same =
    ap (λ (b : Bool). not (may_commit item inside reply) && b) (none_behind (is_open_by item inside reply) items more replies others (omega (arith, same)))
    ∙ by (not (may_commit item inside reply))
  where
    one : Bool
    one = commit_none (is_open_by item inside reply) items replies

    two : Bool
    two = commit_none (is_open_after (is_open_by item inside reply) items replies) more others

    by : (b : Bool) → (b && (one && two)) ≡ ((b && one) && two)
    by true = refl
    by false = refl

-- ---- what they leave
pub Keeps-none : {B D : Type 0} (w : World B D) (d : D) (x : Session B) → Keeps w [] [] d d x x
Keeps-none w d x = record {
  sizes = refl;
  opened = λ up. refl;
  wanted = λ none. record {
    leaves = LeavesWanted-none (parts_of w.told w.len d x);
    stays = λ up want now holds. (now, holds);
  };
}

module _ {B D : Type 0} (w : World B D) (items more : List Item) (replies others : List Reply) (first mid now : D) (x y z : Session B)
    (same : length replies ≡ length items) (up : y.down ≡ false) (book : y.space.store.book.down ≡ false)
    (one : Keeps w items replies first mid x y) (two : Keeps w more others mid now y z) where
  abbrev inside : Bool
  inside = is_some x.open

  between : is_some y.open ≡ is_open_after inside items replies
  between = one.opened up

  both : (a b : Bool) → (a && b) ≡ true → (a ≡ true) × (b ≡ true)
  both true true is = (refl, refl)
  both true false is = absurd (let e = is in cc)
  both false b is = absurd (let e = is in cc)

  pub Keeps-then : Keeps w (items ++ more) (replies ++ others) first now x z
  Keeps-then = record {
    sizes = two.sizes ∙ one.sizes;
    opened = λ on. two.opened on ∙ ap (λ (b : Bool). is_open_after b more others) between ∙ sym (open_behind inside items more replies others same);
    wanted = λ none.
        let parted = both (commit_none inside items replies) (commit_none (is_open_after inside items replies) more others)
        (sym (none_behind inside items more replies others same) ∙ none) in
        let before = one.wanted parted.0 in
        let behind = two.wanted (ap (λ (b : Bool). commit_none b more others) between ∙ parted.1) in
        record {
          leaves = record {
            each = λ want was store.
                let then = before.stays book want was store in
                and_then (w.told first) (w.told mid) (w.told now) (Restores (sizes_of x) want) (before.leaves.each want was store)
                (subst (λ (g : Geometry). LeavesOnly (w.told mid) (w.told now) (Restores g want)) one.sizes (behind.leaves.each want then.0 then.1));
          };
          stays = λ on want was store. let then = before.stays book want was store in behind.stays on want then.0 then.1;
        };
  }

-- ---- one item
pub Keeps-bad : {B D : Type 0} (w : World B D) (column : ℕ) (reply : Reply) (d : D) (x : Session B) → Keeps w (Bad column ∷ []) (reply ∷ []) d d x x
Keeps-bad w column reply d x = record {
  sizes = refl;
  opened = λ up. refl;
  wanted = λ none. record {
    leaves = LeavesWanted-none (parts_of w.told w.len d x);
    stays = λ up want now holds. (now, holds);
  };
}

none_committed : (b : Bool) → (not b && true) ≡ true → b ≡ false
none_committed false is = refl
none_committed true is = absurd (let e = is in cc)

pub Keeps-command : {B D : Type 0} (w : World B D) (c : Command) (old new : D) (x y : Session B) (reply : Reply) → sizes_of y ≡ sizes_of x
    → (y.down ≡ false → is_some y.open ≡ is_open_behind c (is_some x.open) reply)
    → (may_have_committed c (is_some x.open) reply ≡ false → KeepsWanted (parts_of w.told w.len old x) (parts_of w.told w.len new y))
    → Keeps w (Says c ∷ []) (reply ∷ []) old new x y
Keeps-command w c old new x y reply sizes opened wanted = record {
  sizes = sizes;
  opened = opened;
  wanted = λ none. wanted (none_committed (may_have_committed c (is_some x.open) reply) none);
}

-- ---- once the session is closed
module _ {B D : Type 0} (w : World B D) (items : List Item) (replies : List Reply) (first now : At B D) (last : D)
    (ready : now.session.down ≡ false → now.session.space.store.book.down ≡ false)
    (keeps : Keeps w items replies first.disk now.disk first.session now.session) (closes : Closes w now.disk last now.session) where
  pub KeepsOut-closed : KeepsOut w items replies first last
  KeepsOut-closed none = by now.session.down refl
    where
      kept : KeepsWanted (parts_of w.told w.len first.disk first.session) (parts_of w.told w.len now.disk now.session)
      kept = keeps.wanted none

      by : (b : Bool) → now.session.down ≡ b → LeavesWanted (parts_of w.told w.len first.disk first.session) (parts_of w.told w.len last first.session)
      by true down = record {
        each = λ want was store.
            subst (λ (d : D). LeavesOnly (w.told first.disk) (w.told d) (Restores (sizes_of first.session) want)) (sym (closes.ended down)) (kept.leaves.each want was store);
      }
      by false up = record {
        each = λ want was store.
            let then = kept.stays (ready up) want was store in
            and_then (w.told first.disk) (w.told now.disk) (w.told last) (Restores (sizes_of first.session) want) (kept.leaves.each want was store)
            (subst (λ (g : Geometry). LeavesOnly (w.told now.disk) (w.told last) (Restores g want)) keeps.sizes (closes.wanted.each want then.0 then.1));
      }
