-- From a walk over nodes to one over the pages of an instance.
use Rattle.std.proofs.Common.{◌≡◌, ℕ, Bool, true, cond, List, Option, Some, None, IsSome, refl, ap, sym, ◌∙◌, subst, true≢false}
use Rattle.std.specs.Prelude.{nat_eq, Err}
use Rattle.std.proofs.lemmas.Bool.{eq-eqb}
use Rattle.sb_forms.specs.Pages.{Pages}
use Rattle.sb_ctx.specs.View.{View, HeldPages, page_of, stored}
use Rattle.sb_ctx.proofs.ViewLaws.{stored-page}
use Rattle.sb_node.specs.Entries.{Entry}
use Rattle.sb_node.specs.Page.{node_of}
use Rattle.sb_forms.specs.Tree.{Nodes, nodes, items, IsTree, level_of}
use Rattle.sb_forms.specs.Read.{read_tree}
use Rattle.sb_btree.specs.Broken.{held_node, is_no_root, breaks_below, breaks}
use Rattle.sb_btree.specs.Held.{IsRootPage, Lacks}
use Rattle.sb_btree.specs.Walks.{as_walk, Breaks, Gives, Needs, Leads, OverTree, OnTree, OverNodes, Shows}
use Rattle.sb_btree.specs.declared.walk.Stop.{Stop}
use Rattle.sb_btree.specs.declared.walk.Stop.TheVariants as stop
use Rattle.sb_btree.specs.declared.walk.Walk.{Walk}
use Rattle.sb_btree.specs.declared.walk.Walk.TheVariants.{Ready, Need, Fresh, Broken, NoMemory}
use Rattle.sb_btree.proofs.Reading.{read_root}
use Rattle.sb_btree.proofs.Whole.{root_whole}

-- the nodes of the stored pages have those that are held
pub stored_shows : (c : View) (P : Pages) → Shows c (nodes (stored c P))
stored_shows c P n bytes is = ap node_of (stored-page c P n bytes is)

-- the root of a tree has the level of the held page
held_level : (c : View) (N : Nodes) (root l : ℕ) → Shows c N → IsRootPage (page_of c root) l → l ≡ level_of (N root)
held_level c N root l shows page = page.level_is ∙ by (page_of c root) page.is_held (shows root)
  where
    by : (o : Option (List ℕ)) → IsSome o → ((bytes : List ℕ) → o ≡ Some bytes → N root ≡ node_of bytes) → level_of (held_node o) ≡ level_of (N root)
    by None is at = absurd (true≢false (sym is))
    by (Some bytes) is at = ap level_of (sym (at bytes refl))

pub record AtRoot (c : View) (P : Pages) (root l : ℕ) (es : List Entry) : Type 0 where
  pub tree : IsTree l (nodes (stored c P)) root
  pub items_are : items l (nodes (stored c P)) root ≡ es
  pub level_is : l ≡ level_of (nodes (stored c P) root)

pub at_root : (c : View) (P : Pages) (root l : ℕ) (es : List Entry) → IsRootPage (page_of c root) l → read_tree root (stored c P) ≡ Some es → AtRoot c P root l es
at_root c P root l es page read =
    let r = read_root (stored c P) root es read in
    let level = held_level c (nodes (stored c P)) root l (stored_shows c P) page in
    record {
      tree = subst (λ k. IsTree k (nodes (stored c P)) root) (sym level) r.0.tree;
      items_are = ap (λ k. items k (nodes (stored c P)) root) level ∙ sym r.1;
      level_is = level;
    }

pub root_gives : {T : Type 0} (c : View) (root l : ℕ) (IsSo : List Entry → T → Type 0) (may : ℕ → Nodes → ℕ → Bool) (w : Walk T) → IsRootPage (page_of c root) l
    → OverNodes c l root (λ N. Leads (IsSo (items l N root)) (may l N) w) → OverTree c root (λ es. Gives (IsSo es) w)
root_gives c root l IsSo may w page leads P es read =
    let at = at_root c P root l es page read in
    subst (λ xs. Gives (IsSo xs) w) at.items_are (leads (nodes (stored c P)) (stored_shows c P) at.tree).0

pub root_needs : {T : Type 0} (c : View) (root l : ℕ) (IsSo : List Entry → T → Type 0) (may : ℕ → Nodes → ℕ → Bool) (w : Walk T) → IsRootPage (page_of c root) l
    → OverNodes c l root (λ N. Leads (IsSo (items l N root)) (may l N) w) → OnTree c root (λ P. Needs (may (level_of (nodes P root)) (nodes P)) w)
root_needs c root l IsSo may w page leads P es read =
    let at = at_root c P root l es page read in
    subst (λ k. Needs (may k (nodes (stored c P))) w) at.level_is (leads (nodes (stored c P)) (stored_shows c P) at.tree).1

pub root_breaks : {T : Type 0} (held : HeldPages) (root l : ℕ) (w : Walk T) → IsRootPage (held root) l → Breaks (breaks_below l held root) w → Breaks (breaks root held) w
root_breaks held root l (Ready r) page b = tt
root_breaks held root l (Need n) page b = tt
root_breaks held root l Fresh page b = tt
root_breaks held root l (Broken n) page b =
    ap (λ t. cond t (nat_eq root n) (breaks_below (level_of (held_node (held root))) held root n)) page.shallow ∙ ap (λ k. breaks_below k held root n) (sym page.level_is) ∙ b
root_breaks held root l NoMemory page b = tt

-- ---- a root that stops the walk
pub no_root_breaks : (T : Type 0) (held : HeldPages) (root : ℕ) (s : Stop) → Lacks (held root) (is_no_root (held root)) root s → Breaks {T = T} (breaks root held) (as_walk (Err s))
no_root_breaks T held root (stop.Need n) lacks = tt
no_root_breaks T held root stop.Fresh lacks = tt
no_root_breaks T held root (stop.Broken n) lacks =
    ap (λ t. cond t (nat_eq root n) (breaks_below (level_of (held_node (held root))) held root n)) lacks.1 ∙ eq-eqb root n (sym lacks.0)
no_root_breaks T held root stop.NoMemory lacks = tt

no_root : (c : View) (P : Pages) (root : ℕ) (es : List Entry) → is_no_root (page_of c root) ≡ true → read_tree root (stored c P) ≡ Some es → ⊥
no_root c P root es is read =
    true≢false (sym is ∙ root_whole (nodes (stored c P)) root (page_of c root) (read_root (stored c P) root es read).0 (stored_shows c P root))

pub no_root_gives : (T : Type 0) (c : View) (root : ℕ) (IsSo : List Entry → T → Type 0) (s : Stop) → Lacks (page_of c root) (is_no_root (page_of c root)) root s → OverTree c root (λ es. Gives (IsSo es) (as_walk (Err s)))
no_root_gives T c root IsSo (stop.Need n) lacks P es read = tt
no_root_gives T c root IsSo stop.Fresh lacks P es read = lacks
no_root_gives T c root IsSo (stop.Broken n) lacks P es read = no_root c P root es lacks.1 read
no_root_gives T c root IsSo stop.NoMemory lacks P es read = tt

pub no_root_needs : (T : Type 0) (c : View) (root : ℕ) (may : Pages → ℕ → Bool) (s : Stop) → Lacks (page_of c root) (is_no_root (page_of c root)) root s → ((P : Pages) → may P root ≡ true)
    → OnTree c root (λ P. Needs {T = T} (may P) (as_walk (Err s)))
no_root_needs T c root may (stop.Need n) lacks first P es read = ap (may (stored c P)) lacks.0 ∙ first (stored c P)
no_root_needs T c root may stop.Fresh lacks first P es read = tt
no_root_needs T c root may (stop.Broken n) lacks first P es read = tt
no_root_needs T c root may stop.NoMemory lacks first P es read = tt
