-- A new map.
use Rattle.std.proofs.Common.{◌≡◌, ◌≢◌, ℕ, true≢false, cond, List, [], length, Option, Some, None, IsSome, is_some, Result, IfErr, refl, sym, ap, subst, ◌∙◌, eq-eqb}
use Rattle.std.specs.Result.{IsErrAnd}
use Rattle.sb_node.specs.Page.{node_of}
use Rattle.sb_forms.specs.Maps.{map_in}
use Rattle.sb_forms.specs.Pages.{ArePages, Pages, zeros}
use Rattle.sb_forms.proofs.Maps.{MeetsAll-one, is_all-met, map_from}
use Rattle.sb_ctx.specs.View.{View, HoldsPart, dropped, page_of, room_of, stored, with_page}
use Rattle.sb_ctx.proofs.ViewLaws.{given-page, room_of-page, stored-clean, stored-other, stored-same}
use Rattle.sb_btree.specs.Inserts.{MayAsk}
use Rattle.sb_btree.specs.Prepared.{Prepares}
use Rattle.sb_btree.specs.declared.walk.Walk.{Walk}
use Rattle.sb_btree.specs.declared.walk.Walk.TheVariants.{Ready}
use Rattle.sb_btree.proofs.Edits.{held_still}
use Rattle.sb_btree.proofs.OneLeaf.{IsOneLeaf, one_leaf}
use Rattle.sb_drive.specs.declared.space.SpaceFault.{SpaceFault}
use Rattle.sb_drive.specs.declared.space.SpaceFault.TheVariants.{Damaged}
use Rattle.sb_drive.specs.Slots.{Slots, owned}
use Rattle.sb_drive.specs.Spaces.{Wanted}
use Rattle.sb_drive.proofs.SpacesLemmas.{IfErr-passed}
use Rattle.sb_map.specs.declared.place.Place.{Place}
use Rattle.sb_map.specs.Making.{IsAlone, IsNew, MakesEmpty}
use Rattle.sb_map.specs.Maps.{OverPages}
use Rattle.sb_map.specs.Refusals.{IsUndamaged}
use Rattle.sb_map.specs.Turns.{StopsBy}
use Rattle.sb_map.proofs.Mapping.{there_low}
use Rattle.sb_map.proofs.Walking.{Walking}

-- ---- the root is a leaf without entries
map_one : (root : ℕ) (P Q : Pages) → ArePages P → IsOneLeaf root Q → ((n : ℕ) → (root ≡ n → ⊥) → Q n ≡ P n) → IsAlone root P → map_in root Q ≡ Some []
map_one root P Q are leaf others alone =
    map_from root Q [] leaf.tree
    (is_all-met root Q (MeetsAll-one root Q leaf.met_is (there_low P root are alone.there) (λ n ne. others n (λ same. ne (sym same)) ∙ alone.only n ne)))

pub MakesEmpty-ended : (root : ℕ) (P : Pages) (c walked : View) (w : Walk (Unit {0})) (end : Unit {0}) → dropped c ≡ c → HoldsPart c P → Prepares c walked root w → w ≡ Ready end → MakesEmpty root walked P
MakesEmpty-ended root P c walked w end clean part prepares is =
    let made = subst (Prepares c walked root) is prepares in
    let now : stored walked P ≡ stored (with_page root made.leaf c) P = ap (λ (v : View). stored v P) made.changed in
    let leaf : stored walked P root ≡ made.leaf = ap (λ (Q : Pages). Q root) now ∙ stored-same c P root made.leaf (ap is_some made.held) in
    let one = one_leaf root (stored walked P) (ap node_of leaf ∙ made.node_is) in
    record {
      tree = one.tree;
      map = map_one root P (stored walked P) part.are_pages one
          (λ n other. ap (λ (Q : Pages). Q n) now ∙ stored-other c P root n made.leaf other ∙ ap (λ (Q : Pages). Q n) (stored-clean c P clean part));
    }

-- ---- a new root has the bytes of a page
long_zeros : length zeros ≡ 4096
unfolding zeros
long_zeros = refl

not_short : (root : ℕ) (P : Pages) (c : View) → dropped c ≡ c → HoldsPart c P → IsNew root P → IsSome (page_of c root) → room_of c root ≢ 4096 → ⊥
not_short root P c clean part new there short = by (page_of c root) refl there
  where
    by : (o : Option (List ℕ)) → page_of c root ≡ o → IsSome o → ⊥
    by None is some = true≢false (sym some)
    by (Some bytes) is some =
        short (room_of-page c root bytes is ∙ ap length (sym (given-page c P root bytes clean part is) ∙ new root ∙ ap (λ b. cond b zeros []) (eq-eqb root root refl)) ∙ long_zeros)

IsUndamaged-new : (root : ℕ) (P : Pages) (c walked : View) (w : Walk (Unit {0})) (e : SpaceFault) → dropped c ≡ c → HoldsPart c P → dropped walked ≡ dropped c → Prepares c walked root w → MayAsk walked w → StopsBy w e → IsNew root P → IsUndamaged e
IsUndamaged-new root P c walked w (Damaged n) clean part given prepares asks stops new =
    let broken = subst (Prepares c walked root) stops prepares in
    let there = held_still walked c n (sym given) (subst (λ (v : Walk (Unit {0})). MayAsk walked v) stops asks) in
    not_short root P c clean part new (subst (λ m. IsSome (page_of c m)) broken.0 there) broken.1
IsUndamaged-new root P c walked w e clean part given prepares asks stops new = tt

pub whole_new : {S U : Type 0} (Has : Wanted → Slots → S → Type 0) (Leads : ℕ → S → S → Type 0) (place : Place) (first now : S) (c walked : View) (w : Walk (Unit {0})) (r : Result U SpaceFault) (e : SpaceFault)
    → Walking Has Leads place.owner first now c → dropped walked ≡ dropped c → Prepares c walked place.root w → MayAsk walked w → IsErrAnd r (λ x. x ≡ e) → ((want : Wanted) (s : Slots) → Has want s now → StopsBy w e)
    → IfErr r (λ x. OverPages Has place first (λ P. IsNew place.root P → IsUndamaged x))
whole_new Has Leads place first now c walked w r e before given prepares asks is stops =
    IfErr-passed r e (λ x. OverPages Has place first (λ P. IsNew place.root P → IsUndamaged x)) is
    (λ want s has. IsUndamaged-new place.root (owned s place.owner) c walked w e before.clean.unchanged (before.holds want s has).part given prepares asks (stops want s (before.has want s has)))
