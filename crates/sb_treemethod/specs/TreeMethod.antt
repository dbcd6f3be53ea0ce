-- What the box means, and rows as entries of a tree.
use Rattle.std.specs.Prelude.{◌≡◌, ℕ, ◌*◌, Bool, true, not, ◌&&◌, ◌||◌, nat_eq, List, length, Some}
use Rattle.std.specs.List.{list_all}
use Rattle.sb_codec.specs.Tuples.{tuple_spelling}
use Rattle.sb_relation.specs.Db.{Key, Row}
use Rattle.sb_relation.specs.Foreign.{MethodRules}
use Rattle.sb_ctx.specs.Bounds.{plain_bound}
use Rattle.sb_ctx.specs.Costs.{tree_cost}
use Rattle.sb_forms.specs.Pages.{Pages}
use Rattle.sb_forms.specs.Read.{has}
use Rattle.sb_forms.specs.Tree.{entries_of}
use Rattle.sb_forms.specs.TreePages.{is_row_entry, tree_met, tree_rows}
use Rattle.sb_btree.specs.Broken.{breaks, held_node}
use Rattle.sb_btree.specs.Leaves.{leads_to}
use Rattle.sb_btree.specs.Removes.{is_on_removal_way}
use Rattle.sb_btree.specs.Ways.{is_on_way, is_on_next_ways}
use Rattle.sb_ctx.specs.declared.calls.MethodCall.{MethodCall}
use Rattle.sb_ctx.specs.declared.calls.MethodCall.TheVariants as call
use Rattle.sb_ctx.specs.declared.instance.Instance.{Instance}
use Rattle.sb_ctx.specs.Method.{Method, code_of, plain_method}
use Rattle.sb_ctx.specs.View.{HeldPages}

-- durable, and for all relations with a key
abbrev pub tree_rules : MethodRules
tree_rules = record { code = 2; durable = true; fits = λ schema key. true }

-- how many pages a call edits at most, where there are so many rows: an update is two operations on the tree, and a new tree is one page
abbrev pub call_cost : MethodCall → ℕ → ℕ
call_cost call.Prepare rows = 1
call_cost (call.Insert row) rows = tree_cost rows
call_cost (call.Delete key) rows = tree_cost rows
call_cost (call.Update key row) rows = 2 * tree_cost rows
call_cost (call.Get key) rows = 0
call_cost (call.Next low) rows = 0

-- the pages that a call may ask for: those on the way down to its key; those beside them too, where a row is taken out; and any page of the tree, where a row is put in another's place
abbrev pub is_on_call_path : Instance → Pages → MethodCall → ℕ → Bool
is_on_call_path inst P call.Prepare n = nat_eq n inst.root
is_on_call_path inst P (call.Insert row) n = is_on_way inst.root P (Some (code_of inst row)) n
is_on_call_path inst P (call.Delete key) n = is_on_removal_way inst.root P key n
is_on_call_path inst P (call.Update key row) n = has n (tree_met inst.root P)
is_on_call_path inst P (call.Get key) n = is_on_way inst.root P (Some key) n
is_on_call_path inst P (call.Next low) n = is_on_next_ways inst.root P low n

-- a leaf to which the held pages lead has an entry that is none of a row of the relation
abbrev pub has_stray : Instance → HeldPages → ℕ → Bool
has_stray inst held n = leads_to inst.root held n && not (list_all (is_row_entry inst.schema inst.key) (entries_of (held_node (held n))))

-- Its rows are those of the tree at the root, which has at most two pages for each row, and three more.
abbrev pub tree_method : Method
tree_method = record (plain_method tree_rules (λ inst P. tree_rows inst.root inst.schema inst.key P)) {
  may_break = λ inst held n. breaks inst.root held n || has_stray inst held n;
  bound = plain_bound;
  cost = λ c rows. call_cost c (length rows);
  path = is_on_call_path;
}

-- a row's key and value in the tree: the ordered code of its key columns, and its spelling
pub record IsEntryOf (inst : Instance) (row : Row) (key : Key) (value : List ℕ) : Type 0 where
  pub key_is : key ≡ code_of inst row
  pub value_is : value ≡ tuple_spelling row
