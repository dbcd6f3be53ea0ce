-- A tree of rows stays one: a new one, one with an entry more.
use Rattle.std.proofs.Common.{◌≡◌, ℕ, ◌<◌, ◌≤◌, ◌==◌, true, false, cond, not, List, [], ◌∷◌, Some, refl, ap, sym, ◌∙◌, subst, arith, eqb-true, true≢false, inl, inr}
use Rattle.std.specs.FinMap.Entries.{put}
use Rattle.std.specs.Str.{bytes_eq}
use Rattle.std.proofs.lemmas.Bool.{true_from_ne_false, eqb-false, ne_eqb}
use Rattle.sb_value.specs.declared.schema.Column.{Column}
use Rattle.sb_relation.specs.Db.{Name}
use Rattle.sb_relation.specs.Fits.{is_empty}
use Rattle.sb_node.specs.Entries.{Entry, key_cmp}
use Rattle.sb_node.specs.Page.{node_of, empty_node}
use Rattle.sb_forms.specs.Pages.{Pages, zeros, new_pages}
use Rattle.sb_forms.specs.Read.{has, read_tree}
use Rattle.sb_forms.specs.TreePages.{is_row_entry, tree_met}
use Rattle.sb_ctx.specs.View.{View, HoldsPart}
use Rattle.sb_btree.specs.Inserts.{Grew}
use Rattle.sb_btree.specs.Removes.{Shrank, entries_without}
use Rattle.sb_btree.proofs.Meeting.{grown_low, grown_met, shrunk_low, shrunk_met}
use Rattle.sb_btree.proofs.OneLeaf.{one_leaf}
use Rattle.sb_btree.proofs.Order.{same_key}
use Rattle.sb_btree.proofs.Reading.{has_says}
use Rattle.sb_treemethod.proofs.RowsOf.{all-put, all-where}
use Rattle.sb_treemethod.proofs.TreeRows.{TreeOf}

-- ---- an entry more
pub TreeOf-grown : (root : ℕ) (schema : List Column) (names : List Name) (c : View) (R P Q : Pages) (es : List Entry) (key value : List ℕ) → HoldsPart c R → TreeOf root schema names P es → is_row_entry schema names (key, value) ≡ true
    → read_tree root Q ≡ Some (put key_cmp key value es) → Grew c root P Q → TreeOf root schema names Q (put key_cmp key value es)
TreeOf-grown root schema names c R P Q es key value part t entry reads grew = record {
  tree = reads;
  entries = all-put (is_row_entry schema names) key value es (λ k same. subst (λ (x : List ℕ). is_row_entry schema names (x, value) ≡ true) (same_key key k same) entry) entry t.entries;
  all = λ n some. grown_met c root P Q n grew (t.all n) some;
  low = λ n is. grown_low c root R P Q n part grew (t.low n) is;
}

-- ---- an entry less
pub TreeOf-shrunk : (root : ℕ) (schema : List Column) (names : List Name) (c : View) (R P Q : Pages) (es : List Entry) (key : List ℕ) → HoldsPart c R → TreeOf root schema names P es
    → read_tree root Q ≡ Some (entries_without key es) → Shrank c root P Q → TreeOf root schema names Q (entries_without key es)
TreeOf-shrunk root schema names c R P Q es key part t reads shrank = record {
  tree = reads;
  entries = all-where (is_row_entry schema names) (λ k. not (bytes_eq k key)) es t.entries;
  all = λ n some. shrunk_met c root P Q n shrank (t.all n) some;
  low = λ n is. shrunk_low c root R P Q n part shrank (t.low n) is;
}

-- ---- a new tree
pub TreeOf-prepared : (root : ℕ) (schema : List Column) (names : List Name) (P Q : Pages) → root < 65536 → ((n : ℕ) → P n ≡ new_pages root n) → node_of (Q root) ≡ Some (empty_node 2 0) → ((n : ℕ) → (root ≡ n → ⊥) → Q n ≡ P n)
    → TreeOf root schema names Q []
TreeOf-prepared root schema names P Q low new leaf other =
    let one = one_leaf root Q leaf in
    record {
      tree = one.tree;
      entries = refl;
      all = λ n some. elim (root == n) as (λ b. (root == n) ≡ b → has n (tree_met root Q) ≡ true) [
        | true ↦ λ same. ap (has n) one.met_is ∙ (has_says n (root ∷ [])).1 (inl (sym (eqb-true root n same)))
        | false ↦ λ differs. absurd (true≢false (sym (ap is_empty (other n (eqb-false root n differs) ∙ new n) ∙ none n differs) ∙ some))
      ] refl;
      low = λ n is. elim ((has_says n (root ∷ [])).0 (ap (has n) (sym one.met_is) ∙ is)) [ inl same ↦ subst (λ m. m < 65536) (sym same) low | inr none ↦ absurd none ];
    }
  where
    none : (n : ℕ) → (root == n) ≡ false → is_empty (new_pages root n) ≡ true
    none n differs = ap (λ b. is_empty (cond b zeros [])) (ne_eqb n root (λ same. eqb-false root n differs (sym same)))
