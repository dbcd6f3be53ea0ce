-- A page whose entries are split over two.
use Rattle.std.specs.Prelude.{ℕ, ◌≡◌, ◌+◌, ◌-◌, ◌<◌, ◌≤◌, ◌++◌, suc, cond, nat_eq, List, [], ◌∷◌, length}
use Rattle.std.specs.List.{AllByRecursion}
use Rattle.std.specs.FinMap.Entries.{put}
use Rattle.sb_node.specs.Entries.{Entry, key_cmp, size_of, sizes}
use Rattle.sb_node.specs.Page.{Becomes, node_in, with_entries}

-- how many entries at the front take so many bytes, or all
abbrev pub halfway : ℕ → List Entry → ℕ
halfway left [] = 0
halfway left (e ∷ es) = cond (nat_eq left 0) 0 (suc (halfway (left - size_of e) es))

-- Two pages have the entries of one and a new one: the lesser ones stay, and the others are in the other page.
pub record Halves (old new other_old other_new : List ℕ) (key value : List ℕ) : Type 0 where
  pub lesser : List Entry
  pub greater : List Entry
  pub parts : put key_cmp key value (node_in old).entries ≡ lesser ++ greater
  pub stays : Becomes old new (with_entries lesser (node_in old))
  pub moves : Becomes other_old other_new (with_entries greater (node_in other_old))
  pub some : 0 < length lesser
  pub wide : (most : ℕ) → AllByRecursion (λ e. size_of e ≤ most) (put key_cmp key value (node_in old).entries) → 4072 < sizes greater + 2036 + most
  pub more : 0 < length greater
