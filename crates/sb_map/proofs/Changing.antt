-- What a walk made that changes a tree.
use Rattle.std.proofs.Common.{◌≡◌, ℕ, ◌+◌, ◌≤◌, Bool, true, false, true≢false, cond, List, [], ◌∷◌, length, Option, Some, None, IsSome, is_some, Less, Equal, Greater, Ordering, refl, ap, sym, subst, ◌∙◌, arith}
use Rattle.std.specs.FinMap.Entries.{find, put}
use Rattle.std.specs.Ordering.{is_eq}
use Rattle.sb_ctx.specs.Costs.{tree_cost}
use Rattle.sb_node.specs.Entries.{Entry, key_cmp}
use Rattle.sb_forms.specs.Maps.{map_in}
use Rattle.sb_forms.specs.Pages.{Pages}
use Rattle.sb_forms.proofs.Maps.{map_tree}
use Rattle.sb_ctx.specs.View.{View, HoldsPart, dropped, edits_of}
use Rattle.sb_ctx.specs.Sound.{IsSound}
use Rattle.sb_btree.specs.Inserts.{Inserts, OverTrees, Replaces}
use Rattle.sb_btree.specs.Removes.{Removes, entries_without}
use Rattle.sb_btree.specs.declared.walk.Walk.{Walk}
use Rattle.sb_btree.specs.declared.walk.Walk.TheVariants.{Ready, Need, Fresh, Broken, NoMemory}
use Rattle.sb_btree.proofs.Without.{apart_less, apart_more}
use Rattle.sb_drive.proofs.StoresLemmas.{edits_of-clean}
use Rattle.sb_map.specs.Changes.{IsMade, Makes, OverMaps, changed, is_change}
use Rattle.sb_map.proofs.Finding.{reads_still}
use Rattle.sb_map.proofs.Mapping.{map_grown, map_shrunk}

-- ---- entries without a key that they haven't
without_none : (key : List ℕ) (es : List Entry) → find key_cmp key es ≡ None → entries_without key es ≡ es
without_none key [] none = refl
without_none key (e ∷ es) none = by (key_cmp key e.0) refl none (without_none key es)
  where
    by : (o : Ordering) → key_cmp key e.0 ≡ o → cond (is_eq o) (Some e.1) (find key_cmp key es) ≡ None → (find key_cmp key es ≡ None → entries_without key es ≡ es) → entries_without key (e ∷ es) ≡ e ∷ es
    by Less is none rest = ap (λ b. cond b (e ∷ entries_without key es) (entries_without key es)) (apart_more key e.0 is) ∙ ap (λ r. e ∷ r) (rest none)
    by Equal is none rest = cc
    by Greater is none rest = ap (λ b. cond b (e ∷ entries_without key es) (entries_without key es)) (apart_less key e.0 is) ∙ ap (λ r. e ∷ r) (rest none)

-- where there is nothing to change, nothing is changed
pub changed-none : (key : List ℕ) (value : Option (List ℕ)) (es : List Entry) → is_change key value es ≡ false → changed key value es ≡ es
changed-none key (Some value) es none = absurd (true≢false none)
changed-none key None es none = without_none key es (by (find key_cmp key es) none)
  where
    by : (o : Option (List ℕ)) → is_some o ≡ false → o ≡ None
    by None is = refl
    by (Some v) is = absurd (true≢false is)

-- ---- the end of a walk over a Ctx of which nothing was made
pub IsMade-ended : (key : List ℕ) (value : Option (List ℕ)) (root : ℕ) (P : Pages) (es : List Entry) (c walked : View) (w : Walk Bool) (done : Bool) → IsSound c → dropped c ≡ c → HoldsPart c P
    → OverMaps c root (λ P es. Makes key value root P es walked w) → OverTrees c root (λ P es. edits_of walked ≤ edits_of c + tree_cost (length es)) → w ≡ Ready done → map_in root P ≡ Some es
    → IsMade key value root P es walked done
IsMade-ended key value root P es c walked w done sound clean part makes edits is read =
    let still = reads_still root c P es clean part (map_tree root P es read) in
    let made = subst (λ (v : Walk Bool). Makes key value root P es walked v) is (makes P es part read) in
    record { is = made.0; tree = made.1; edits = omega (arith, edits P es still, edits_of-clean c sound clean) }

-- ---- what a walk over a tree makes of a map
pub Makes-inserted : (old new : View) (root : ℕ) (key value : List ℕ) (P : Pages) (es : List Entry) (done : Bool) → dropped old ≡ old → HoldsPart old P → map_in root P ≡ Some es → Inserts old new root key value P es (Ready done)
    → done ≡ true → Makes key (Some value) root P es new (Ready done)
Makes-inserted old new root key value P es true clean part is made same = (refl, λ done. map_grown old new root P es (put key_cmp key value es) clean part is made.1 made.2)
Makes-inserted old new root key value P es false clean part is made other = absurd (true≢false (sym other))

pub Makes-replaced : (old new : View) (root : ℕ) (key value : List ℕ) (P : Pages) (es : List Entry) (w : Walk Bool) → dropped old ≡ old → HoldsPart old P → map_in root P ≡ Some es → Replaces old new root key value P es w
    → IsSome (find key_cmp key es) → Makes key (Some value) root P es new w
Makes-replaced old new root key value P es (Ready true) clean part is made there =
    (refl, λ done. map_grown old new root P es (put key_cmp key value es) clean part is made.1 made.2)
Makes-replaced old new root key value P es (Ready false) clean part is made there = absurd (true≢false (sym there ∙ ap is_some made.0))
Makes-replaced old new root key value P es (Need n) clean part is made there = tt
Makes-replaced old new root key value P es Fresh clean part is made there = tt
Makes-replaced old new root key value P es (Broken n) clean part is made there = tt
Makes-replaced old new root key value P es NoMemory clean part is made there = tt

pub Makes-removed : (old new : View) (root : ℕ) (key : List ℕ) (P : Pages) (es : List Entry) (w : Walk Bool) → dropped old ≡ old → HoldsPart old P → map_in root P ≡ Some es → Removes old new root key P es w
    → Makes key None root P es new w
Makes-removed old new root key P es (Ready true) clean part is made =
    (sym made.0, λ done. map_shrunk old new root P es (entries_without key es) clean part is made.1 made.2)
Makes-removed old new root key P es (Ready false) clean part is made = (sym (ap is_some made.0), λ done. absurd (true≢false (sym done)))
Makes-removed old new root key P es (Need n) clean part is made = tt
Makes-removed old new root key P es Fresh clean part is made = tt
Makes-removed old new root key P es (Broken n) clean part is made = tt
Makes-removed old new root key P es NoMemory clean part is made = tt
