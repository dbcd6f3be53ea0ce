-- What the box means: its rows, what a call takes, and which pages it may ask for.
use Rattle.std.specs.Prelude.{ℕ, Bool, true, cond, not, ◌&&◌, ◌==◌, nat_eq, nat_lt, List, [], ◌∷◌, ◌++◌, length, take, filter, Option, Some, None, option_map, replicate}
use Rattle.sb_bytes.specs.Field.{number_at}
use Rattle.sb_relation.specs.Db.{Key}
use Rattle.sb_relation.specs.Foreign.{MethodRules}
use Rattle.sb_fold.specs.Bounds.{plain_bound}
use Rattle.sb_forms.specs.Pages.{Pages, page_numbers}
use Rattle.sb_forms.specs.Tree.{nodes}
use Rattle.sb_forms.specs.Read.{has}
use Rattle.sb_forms.specs.HeapPages.{heap_rows, first_of, after_of, before_of}
use Rattle.sb_ctx.specs.declared.calls.MethodCall.{MethodCall}
use Rattle.sb_ctx.specs.declared.calls.MethodCall.TheVariants.{Prepare, Insert, Delete, Update, Get, Next}
use Rattle.sb_ctx.specs.Method.{Method, plain_method}
use Rattle.sb_heap.specs.Broken.{breaks}

-- durable; that its relations have no key is a matter of its code
abbrev pub heap_rules : MethodRules
heap_rules = record { code = 1; durable = true; fits = λ schema key. true }

-- how many pages a call edits at most
abbrev pub heap_cost : MethodCall → ℕ
heap_cost Prepare = 1
heap_cost (Insert row) = 10
heap_cost (Delete key) = 10
heap_cost (Update key row) = 10
heap_cost (Get key) = 0
heap_cost (Next low) = 0

-- ---- the pages that a call may ask for
-- the page of a record key; none where it hasn't six bytes
abbrev pub key_page : Key → List ℕ
key_page key = cond (length key == 6) (number_at 4 key 0 ∷ []) []

-- a page of the list and those beside it
abbrev pub beside : Pages → ℕ → List ℕ
beside P n = n ∷ after_of (nodes P n) ∷ before_of (nodes P n) ∷ []

abbrev pub each_beside : Pages → List ℕ → List ℕ
each_beside P [] = []
each_beside P (n ∷ ns) = beside P n ++ each_beside P ns

-- the root, the first page of the list and the page behind it
abbrev pub front : ℕ → Pages → List ℕ
front root P =
    let first : ℕ = first_of (nodes P root) in
    root ∷ first ∷ after_of (nodes P first) ∷ []

-- the page of a low key: its first four bytes, and zeros where it has fewer
abbrev pub low_page : Key → ℕ
low_page low = number_at 4 (low ++ replicate 4 0) 0

abbrev pub low_pages : Option Key → List ℕ
low_pages None = []
low_pages (Some low) = low_page low ∷ []

abbrev pub is_behind : Option ℕ → ℕ → Bool
is_behind None n = true
is_behind (Some low) n = nat_lt low n

-- the first two pages of the instance behind that of a low key, or of all
unfoldable pub next_pages : Option Key → Pages → List ℕ
next_pages low P = take 2 (filter (is_behind (option_map low_page low)) (page_numbers P))

abbrev pub path_pages : ℕ → Pages → MethodCall → List ℕ
path_pages root P Prepare = root ∷ []
path_pages root P (Insert row) = front root P
path_pages root P (Delete key) = each_beside P (key_page key) ++ front root P
path_pages root P (Update key row) = each_beside P (key_page key) ++ front root P
path_pages root P (Get key) = key_page key
path_pages root P (Next low) = low_pages low ++ next_pages low P

-- page 0 is never asked for
abbrev pub heap_path : ℕ → Pages → MethodCall → ℕ → Bool
heap_path root P c n = not (nat_eq n 0) && has n (path_pages root P c)

-- ---- the box
abbrev pub heap_method : Method
heap_method = record (plain_method heap_rules (λ inst P. heap_rows inst.root inst.schema P)) {
  may_break = λ inst held n. breaks inst.schema inst.root held n;
  bound = plain_bound;
  cost = λ c rows. heap_cost c;
  path = λ inst P c n. heap_path inst.root P c n;
}
