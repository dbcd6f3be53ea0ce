-- What is found at a root, as the contract of the checker says it.
use Rattle.std.proofs.Common.{◌≡◌, ℕ, false, Option, Some, None, option_map, refl}
use Rattle.std.specs.Prelude.{IfOk, IsSome, ◌↔◌, Result, Ok, Err}
use Rattle.sb_forms.specs.Pages.{Pages}
use Rattle.sb_forms.specs.Read.{is_root, read_tree}
use Rattle.sb_forms.specs.Tree.{IsRoot, nodes, tree_items}
use Rattle.sb_forms.specs.TreePages.{tree_met}
use Rattle.sb_btree.proofs.Reading.{root_says}
use Rattle.sb_method_tests.specs.Checker.{entries_in, found_in}
use Rattle.sb_method_tests.specs.Found.{root_found}
use Rattle.sb_method_tests.specs.declared.checker.Tree.{Tree}
use Rattle.sb_method_tests.proofs.Checking.{entries_read, none_cond, some_cond}

pub if_ok : {T E : Type 0} (P Q : T → Type 0) → ((x : T) → P x → Q x) → (r : Result T E) → IfOk r P → IfOk r Q
if_ok P Q f (Ok x) h = f x h
if_ok P Q f (Err e) h = tt

pub entries_are : (root : ℕ) (P : Pages) (o : Option Tree) → option_map found_in o ≡ root_found root P → option_map entries_in o ≡ read_tree root P
entries_are root P None e = entries_read root P None e
entries_are root P (Some t) e = entries_read root P (Some (found_in t)) e

false_root : (root : ℕ) (P : Pages) → is_root (nodes P) root ≡ false → IsRoot (nodes P) root → ⊥
false_root root P isnt r = let is = (root_says (nodes P) root).1 r in absurd (cc)

pub is_exact : (root : ℕ) (P : Pages) (o : Option Tree) → option_map found_in o ≡ root_found root P → IsSome o ↔ IsRoot (nodes P) root
is_exact root P None e = (λ h. absurd (cc), λ r. absurd (false_root root P (none_cond (is_root (nodes P) root) (tree_items (nodes P) root, tree_met root P) e) r))
is_exact root P (Some t) e =
    let is = some_cond (is_root (nodes P) root) (tree_items (nodes P) root, tree_met root P) (found_in t) e in
    (λ h. (root_says (nodes P) root).0 is.0, λ r. refl)
