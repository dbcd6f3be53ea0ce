-- An empty leaf is a tree without entries.
use Rattle.std.proofs.Common.{◌≡◌, ℕ, ◌≤◌, List, [], ◌∷◌, Some, refl, ap, sym, ◌∙◌, subst, arith}
use Rattle.sb_node.specs.Page.{empty_node}
use Rattle.sb_forms.specs.Pages.{Pages}
use Rattle.sb_forms.specs.Tree.{nodes, met, items, level_of, tree_items, IsTree, IsLeaf, IsRoot, Apart, entries_of}
use Rattle.sb_forms.specs.Read.{read_tree}
use Rattle.sb_forms.specs.TreePages.{tree_met}
use Rattle.sb_btree.proofs.Reading.{reads_trees}

-- it meets its root alone
pub record IsOneLeaf (root : ℕ) (P : Pages) : Type 0 where
  pub tree : read_tree root P ≡ Some []
  pub met_is : tree_met root P ≡ root ∷ []

pub one_leaf : (root : ℕ) (P : Pages) → nodes P root ≡ Some (empty_node 2 0) → IsOneLeaf root P
one_leaf root P is =
    let zero_level : level_of (nodes P root) ≡ 0 = ap level_of is in
    let met_root : met (level_of (nodes P root)) (nodes P) root ≡ root ∷ [] = ap (λ l. met l (nodes P) root) zero_level in
    let is_root : IsRoot (nodes P) root = record {
      tree = subst (λ l. IsTree l (nodes P) root) (sym zero_level) (subst IsLeaf (sym is) (refl, refl, tt));
      shallow = subst (λ l. l ≤ 16) (sym zero_level) (omega arith);
      apart = subst (λ (l : List ℕ). Apart l) (sym met_root) (absurd, tt);
    } in
    let none : tree_items (nodes P) root ≡ [] = ap (λ l. items l (nodes P) root) zero_level ∙ ap entries_of is in
    record { tree = (reads_trees P root).0 is_root ∙ ap Some none; met_is = met_root }
