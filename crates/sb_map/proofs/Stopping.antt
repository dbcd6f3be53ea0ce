-- Why a walk over the pages of an owner stops.
use Rattle.std.proofs.Common.{◌≡◌, ℕ, ◌+◌, ◌*◌, ◌<◌, ◌≤◌, Bool, true≢false, List, length, Some, Result, Ok, Err, IfErr, sym, ap, subst, ◌∙◌, arith}
use Rattle.std.specs.Result.{IsErrAnd}
use Rattle.sb_ctx.specs.Costs.{tree_cost}
use Rattle.sb_node.specs.Entries.{Entry}
use Rattle.sb_forms.specs.Pages.{Pages}
use Rattle.sb_forms.specs.Read.{read_tree}
use Rattle.sb_forms.proofs.Maps.{map_tree}
use Rattle.sb_forms.specs.TreePages.{tree_met}
use Rattle.sb_ctx.specs.Sound.{IsSound}
use Rattle.sb_ctx.specs.View.{View, HoldsPart, dropped, edits_of, page_of, stored}
use Rattle.sb_ctx.proofs.ViewLaws.{given-page, stored-clean}
use Rattle.sb_btree.specs.Broken.{breaks}
use Rattle.sb_btree.specs.Inserts.{MayAsk, OverTrees}
use Rattle.sb_btree.specs.Spending.{AsksWithin, taken_of}
use Rattle.sb_btree.specs.Walks.{Breaks}
use Rattle.sb_btree.specs.declared.walk.Walk.{Walk}
use Rattle.sb_btree.specs.declared.walk.Walk.TheVariants as walk
use Rattle.sb_btree.proofs.Whole.{trees_are_whole}
use Rattle.sb_drive.specs.declared.space.SpaceFault.{SpaceFault}
use Rattle.sb_drive.specs.declared.space.SpaceFault.TheVariants.{DataFull, TempFull, Damaged}
use Rattle.sb_drive.specs.declared.turns.Ask.TheVariants as ask
use Rattle.sb_drive.specs.Slots.{Slots, owned}
use Rattle.sb_drive.specs.Spaces.{HoldsOf, IsFull, IsFullFor, Wanted, WhereFull}
use Rattle.sb_drive.proofs.SpacesLemmas.{IfErr-passed}
use Rattle.sb_drive.proofs.StoresLemmas.{edits_of-clean}
use Rattle.sb_map.specs.Calls.{IsAsking, IsWithin}
use Rattle.sb_map.specs.declared.place.Place.{Place}
use Rattle.sb_map.specs.Maps.{OverMap, OverPages}
use Rattle.sb_map.specs.Refusals.{HasCause, IsUndamaged}
use Rattle.sb_map.specs.Turns.{StopsBy}
use Rattle.sb_map.proofs.Walking.{Walking}

-- ---- a page that is called broken
pub HasCause-stop : {T : Type 0} (root : ℕ) (P : Pages) (c : View) (w : Walk T) (e : SpaceFault) → dropped c ≡ c → HoldsPart c P → Breaks (breaks root (page_of c)) w → StopsBy w e → HasCause root P e
HasCause-stop {T} root P c w (Damaged n) clean part broken stops = record {
  held = page_of c;
  given = λ m bytes is. given-page c P m bytes clean part is;
  breaks = subst (λ (v : Walk T). Breaks (breaks root (page_of c)) v) stops broken;
}
HasCause-stop root P c w e clean part broken stops = tt

pub IsUndamaged-tree : (root : ℕ) (P : Pages) (es : List Entry) (e : SpaceFault) → read_tree root P ≡ Some es → HasCause root P e → IsUndamaged e
IsUndamaged-tree root P es (Damaged n) read cause = true≢false (sym cause.breaks ∙ trees_are_whole P root es read cause.held n cause.given)
IsUndamaged-tree root P es e read cause = tt

pub damaged : {S T U : Type 0} (Has : Wanted → Slots → S → Type 0) (Leads : ℕ → S → S → Type 0) (place : Place) (first now : S) (c : View) (w : Walk T) (r : Result U SpaceFault) (e : SpaceFault)
    → Walking Has Leads place.owner first now c → Breaks (breaks place.root (page_of c)) w → IsErrAnd r (λ x. x ≡ e) → ((want : Wanted) (s : Slots) → Has want s now → StopsBy w e)
    → IfErr r (λ x. OverPages Has place first (λ P. HasCause place.root P x))
damaged Has Leads place first now c w r e before broken is stops =
    IfErr-passed r e (λ x. OverPages Has place first (λ P. HasCause place.root P x)) is
    (λ want s has. HasCause-stop place.root (owned s place.owner) c w e before.clean.unchanged (before.holds want s has).part broken (stops want s (before.has want s has)))

-- pages that are a tree have no such page
pub whole : {S U : Type 0} (Has : Wanted → Slots → S → Type 0) (place : Place) (first : S) (r : Result U SpaceFault)
    → IfErr r (λ x. OverPages Has place first (λ P. HasCause place.root P x)) → IfErr r (λ x. OverMap Has place first (λ es. IsUndamaged x))
whole Has place first (Ok u) cause = tt
whole Has place first (Err e) cause = λ want s has es read. IsUndamaged-tree place.root (owned s place.owner) es e (map_tree place.root (owned s place.owner) es read) (cause want s has)

-- ---- a page that is wanting
-- a walk asks for a fresh page
IsAsking-walk : {T : Type 0} (root : ℕ) (c walked : View) (w : Walk T) → w ≡ walk.Fresh → dropped walked ≡ c → dropped c ≡ c → IsSound c → MayAsk walked w → OverTrees c root (λ Q es. edits_of walked ≤ edits_of c + tree_cost (length es))
    → OverTrees c root (λ Q es. AsksWithin (2 * length es) (length (tree_met root (stored c Q))) c walked w) → IsAsking root walked
IsAsking-walk {T} root c walked w is given clean sound asks edits room = record {
  taken = subst (λ (v : Walk T). MayAsk walked v) is asks;
  edits = subst (λ (v : View). OverTrees v root (λ Q es. edits_of walked ≤ tree_cost (length es))) (sym given)
      (λ Q es read. omega (arith, edits Q es read, edits_of-clean c sound clean));
  room = subst (λ (v : View). OverTrees v root (λ Q es. length (tree_met root (stored v Q)) + taken_of walked < 2 * length es)) (sym given)
      (λ Q es read.
      let few = subst (λ (v : Walk T). AsksWithin (2 * length es) (length (tree_met root (stored c Q))) c walked v) is (room Q es read) in
      let none : taken_of c ≡ 0 = omega (arith, edits_of-clean c sound clean) in
      omega (arith, few, none));
}

-- and is within its room over the pages of which it was given a part
within : (root : ℕ) (P : Pages) (c : View) → stored (dropped c) P ≡ P → IsAsking root c → IsWithin root P c
within root P c same asking = λ es read. subst (λ (Q : Pages). length (tree_met root Q) + taken_of c < 2 * length es) same (asking.room P es (ap (read_tree root) same ∙ read))

-- where it stops for want of a page, it asked for one
WhereFull-stop : {T : Type 0} (w : Walk T) (IsSo : SpaceFault → Type 0) (e : SpaceFault) → StopsBy w e → (w ≡ walk.Fresh → IsSo e) → WhereFull e (IsSo e)
WhereFull-stop w IsSo (DataFull used of) fresh so = so fresh
WhereFull-stop w IsSo (TempFull used of) fresh so = so fresh
WhereFull-stop w IsSo e fresh so = tt

pub full : {S T U : Type 0} (Has : Wanted → Slots → S → Type 0) (Leads : ℕ → S → S → Type 0) (durable : S → Bool) (total : S → ℕ) (place : Place) (first now : S) (c walked : View) (w : Walk T) (r : Result U SpaceFault) (e : SpaceFault)
    → Walking Has Leads place.owner first now c → IsSound c → dropped walked ≡ dropped c → MayAsk walked w → OverTrees c place.root (λ Q es. edits_of walked ≤ edits_of c + tree_cost (length es))
    → OverTrees c place.root (λ Q es. AsksWithin (2 * length es) (length (tree_met place.root (stored c Q))) c walked w) → IsErrAnd r (λ x. x ≡ e) → StopsBy w e
    → ((want : Wanted) (s : Slots) → Has want s now → IsFull (durable now) (total now) s (dropped walked) ask.Fresh e)
    → IfErr r (λ x. (want : Wanted) (s : Slots) → Has want s first → WhereFull x (IsFullFor Leads durable total place.owner (IsAsking place.root) (IsWithin place.root (owned s place.owner)) first s x))
full Has Leads durable total place first now c walked w r e before sound given asks edits room is stops fulls =
    let owner = place.owner in
    let clean = before.clean.unchanged in
    let back : dropped walked ≡ c = given ∙ clean in
    IfErr-passed r e (λ x. (want : Wanted) (s : Slots) → Has want s first → WhereFull x (IsFullFor Leads durable total owner (IsAsking place.root) (IsWithin place.root (owned s owner)) first s x)) is
    (λ want s has. WhereFull-stop w (λ x. IsFullFor Leads durable total owner (IsAsking place.root) (IsWithin place.root (owned s owner)) first s x) e stops
    (λ fresh.
    let P = owned s owner in
    let asking = IsAsking-walk place.root c walked w fresh back clean sound asks edits room in
    record {
      space = now;
      ctx = walked;
      leads = before.leads;
      holds = subst (HoldsOf s owner) (sym back) (before.holds want s has);
      asks = asking;
      within = within place.root P walked (ap (λ (v : View). stored v P) back ∙ stored-clean c P clean (before.holds want s has).part) asking;
      full = fulls want s (before.has want s has);
    }))

-- a walk that asks for no fresh page doesn't
pub never_full : {S T U : Type 0} (Has : Wanted → Slots → S → Type 0) (first : S) (IsSo : Slots → SpaceFault → Type 0) (w : Walk T) (r : Result U SpaceFault) (e : SpaceFault) → (w ≡ walk.Fresh → ⊥) → IsErrAnd r (λ x. x ≡ e) → StopsBy w e
    → IfErr r (λ x. (want : Wanted) (s : Slots) → Has want s first → WhereFull x (IsSo s x))
never_full Has first IsSo w r e never is stops =
    IfErr-passed r e (λ x. (want : Wanted) (s : Slots) → Has want s first → WhereFull x (IsSo s x)) is (λ want s has. WhereFull-stop w (IsSo s) e stops (λ fresh. absurd (never fresh)))
