-- Maps stay maps, and have few pages.
use Rattle.std.proofs.Common.{◌≡◌, ℕ, ◌<◌, ◌≢◌, nat_lt, true, false, List, [], Some, Bool, refl, subst, arith}
use Rattle.std.proofs.lemmas.Bool.{ltb-true, ltb-false}
use Rattle.sb_node.specs.Entries.{Entry}
use Rattle.sb_forms.specs.Maps.{map_in}
use Rattle.sb_forms.specs.Pages.{ArePages, Pages}
use Rattle.sb_forms.specs.Read.{read_tree}
use Rattle.sb_forms.proofs.Maps.{is_all-met, map_all, map_from, map_tree, meets_all}
use Rattle.sb_ctx.specs.View.{View, HoldsPart, dropped, stored}
use Rattle.sb_ctx.proofs.ViewLaws.{stored-clean}
use Rattle.sb_btree.specs.Inserts.{Grew}
use Rattle.sb_btree.specs.Removes.{Shrank}
use Rattle.sb_btree.proofs.Meeting.{MeetsAll-grown, MeetsAll-shrunk}
use Rattle.sb_btree.proofs.PageCounts.{all_few}
use Rattle.sb_btree.proofs.Spending.{trees_are_small}
use Rattle.sb_map.specs.Maps.{MapsAreSmall}

-- ---- how many pages a map has
pub maps_are_small : MapsAreSmall
maps_are_small root P es is =
    let few = all_few root P (meets_all root P (map_all root P es is)).all in
    omega (arith, few, trees_are_small P root es (map_tree root P es is))

-- ---- an entry more, or less
pub map_grown : (c new : View) (root : ℕ) (P : Pages) (es fs : List Entry) → dropped c ≡ c → HoldsPart c P → map_in root P ≡ Some es → read_tree root (stored new P) ≡ Some fs → Grew c root (stored c P) (stored new P)
    → map_in root (stored new P) ≡ Some fs
map_grown c new root P es fs clean part is tree grew =
    let went = subst (λ (Q : Pages). Grew c root Q (stored new P)) (stored-clean c P clean part) grew in
    map_from root (stored new P) fs tree (is_all-met root (stored new P) (MeetsAll-grown c root P P (stored new P) part went (meets_all root P (map_all root P es is))))

pub map_shrunk : (c new : View) (root : ℕ) (P : Pages) (es fs : List Entry) → dropped c ≡ c → HoldsPart c P → map_in root P ≡ Some es → read_tree root (stored new P) ≡ Some fs → Shrank c root (stored c P) (stored new P)
    → map_in root (stored new P) ≡ Some fs
map_shrunk c new root P es fs clean part is tree shrank =
    let went = subst (λ (Q : Pages). Shrank c root Q (stored new P)) (stored-clean c P clean part) shrank in
    map_from root (stored new P) fs tree (is_all-met root (stored new P) (MeetsAll-shrunk c root P P (stored new P) part went (meets_all root P (map_all root P es is))))

-- ---- a page's number
pub there_low : (P : Pages) (n : ℕ) → ArePages P → P n ≢ [] → n < 65536
there_low P n are there = by (nat_lt n 65536) refl
  where
    by : (b : Bool) → nat_lt n 65536 ≡ b → n < 65536
    by true e = ltb-true n 65536 e
    by false e = absurd (there (are.below n (ltb-false n 65536 e)))
