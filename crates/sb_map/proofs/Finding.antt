-- What a walk found that reads.
use Rattle.std.proofs.Common.{◌≡◌, ℕ, List, Option, Some, None, option_map, ap, subst, ◌∙◌}
use Rattle.std.specs.FinMap.Entries.{find}
use Rattle.std.specs.List.{find as first}
use Rattle.sb_node.specs.Entries.{Entry, key_cmp}
use Rattle.sb_forms.specs.Maps.{map_in}
use Rattle.sb_forms.specs.Pages.{Pages}
use Rattle.sb_forms.specs.Read.{read_tree}
use Rattle.sb_forms.proofs.Maps.{map_tree}
use Rattle.sb_ctx.specs.View.{View, HoldsPart, dropped, stored}
use Rattle.sb_ctx.proofs.ViewLaws.{stored-clean}
use Rattle.sb_btree.specs.Leaves.{entry_at, entry_in}
use Rattle.sb_btree.specs.Walks.{Gives, OverTree}
use Rattle.sb_btree.specs.Ways.{is_behind}
use Rattle.sb_btree.specs.declared.lookup.LeafEntry.{LeafEntry}
use Rattle.sb_btree.specs.declared.walk.Walk.{Walk}
use Rattle.sb_btree.specs.declared.walk.Walk.TheVariants.{Ready}

-- a Ctx of which nothing was made shows the tree of the pages
pub reads_still : (root : ℕ) (c : View) (P : Pages) (es : List Entry) → dropped c ≡ c → HoldsPart c P → read_tree root P ≡ Some es → read_tree root (stored c P) ≡ Some es
reads_still root c P es clean part read = ap (read_tree root) (stored-clean c P clean part) ∙ read

entry_value : (found : Option LeafEntry) (key : List ℕ) (value : Option (List ℕ)) → option_map entry_in found ≡ option_map (λ v. (key, v)) value → option_map (λ e. e.value) found ≡ value
entry_value None key None is = ap (option_map (λ (e : Entry). e.1)) is
entry_value None key (Some v) is = ap (option_map (λ (e : Entry). e.1)) is
entry_value (Some f) key None is = ap (option_map (λ (e : Entry). e.1)) is
entry_value (Some f) key (Some v) is = ap (option_map (λ (e : Entry). e.1)) is

pub got : (root : ℕ) (P : Pages) (c : View) (key : List ℕ) (es : List Entry) (w : Walk (Option LeafEntry)) (found : Option LeafEntry) → dropped c ≡ c → HoldsPart c P
    → OverTree c root (λ es. Gives (λ f. option_map entry_in f ≡ entry_at key es) w) → w ≡ Ready found → map_in root P ≡ Some es → option_map (λ e. e.value) found ≡ find key_cmp key es
got root P c key es w found clean part gives is read =
    entry_value found key (find key_cmp key es)
    (subst (λ (v : Walk (Option LeafEntry)). Gives (λ f. option_map entry_in f ≡ entry_at key es) v) is (gives P es (reads_still root c P es clean part (map_tree root P es read))))

pub stepped : (root : ℕ) (P : Pages) (c : View) (after : Option (List ℕ)) (es : List Entry) (w : Walk (Option LeafEntry)) (found : Option LeafEntry) → dropped c ≡ c → HoldsPart c P
    → OverTree c root (λ es. Gives (λ f. option_map entry_in f ≡ first (is_behind after) es) w) → w ≡ Ready found → map_in root P ≡ Some es → option_map entry_in found ≡ first (is_behind after) es
stepped root P c after es w found clean part gives is read =
    subst (λ (v : Walk (Option LeafEntry)). Gives (λ f. option_map entry_in f ≡ first (is_behind after) es) v) is (gives P es (reads_still root c P es clean part (map_tree root P es read)))
