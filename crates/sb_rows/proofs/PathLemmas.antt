-- The row of a record key that a test fixes.
use Rattle.std.proofs.Common.{◌≡◌, ℕ, zero, suc, ◌+◌, ◌<◌, nat_lt, Bool, true, false, true≢false, cond, ◌&&◌, List, [], ◌∷◌, ◌++◌, length, take, map, get_or, Option, Some, None, IfSome, T, All, Less, Equal, is_lt, arith, refl, sym, ap, subst, ◌∙◌}
use Rattle.std.specs.List.{cons_option, filter, filter_map, list_all}
use Rattle.std.specs.Ordering.{eq_by_cmp, is_eq}
use Rattle.std.specs.FinMap.Entries.{is_sorted, below_all}
use Rattle.std.specs.Cmp.Lexicographic.{nat_list_cmp_total, texts_ties}
use Rattle.std.proofs.lemmas.Bool.{and_parts, ltb-false, ltb-true}
use Rattle.std.proofs.lemmas.Cmp.{tied_itself}
use Rattle.std.proofs.lemmas.List.{take_all, take_more}
use Rattle.std.proofs.lemmas.List.Elements.{All-nil, All-cons, All-head, All-tail}
use Rattle.sb_value.specs.declared.value.Value.{Value}
use Rattle.sb_value.specs.declared.schema.Column.{Column}
use Rattle.sb_value.specs.Code.{ordered_code}
use Rattle.sb_value.specs.Equal.{bytes_same}
use Rattle.sb_value.specs.Order.{bytes_cmp}
use Rattle.sb_pred.specs.Columns.{column_value}
use Rattle.sb_relation.specs.Db.{Key, Name, Row, Rows, row_at, values_in}
use Rattle.sb_relation.specs.Keys.{is_record_key}
use Rattle.sb_relation.specs.Lawful.{IsRow}
use Rattle.sb_node.specs.Entries.{Entry}
use Rattle.sb_treemethod.specs.Stored.{row_in}
use Rattle.sb_treemethod.specs.TreePages.{is_row_entry, rows_of}
use Rattle.sb_treemethod.specs.Instance.{Instance}
use Rattle.sb_treemethod.specs.Method.{code_of}
use Rattle.sb_treemethod.specs.MethodAnswers.{IsRowOf, is_above}
use Rattle.sb_treemethod.proofs.Entries.{row_entry}
use Rattle.sb_treemethod.proofs.TreeRows.{formed}
use Rattle.sb_registry.specs.Boxes.{Meanings}
use Rattle.sb_registry.specs.Slots.{Slots, owned}
use Rattle.sb_value.proofs.Truths.{T-less, T-parts}
use Rattle.sb_rows.specs.Live.{HasRows}
use Rattle.sb_rows.specs.Paths.{FixesKey, is_wanted, kept, rows_under}
use Rattle.sb_rows.specs.Scans.{rows_above}

-- ---- what a test fixes in some columns
filter_map-more : {A B : Type 0} (f : A → Option B) (xs : List A) (x : A) (y : B) → f x ≡ Some y → filter_map f (xs ++ x ∷ []) ≡ filter_map f xs ++ y ∷ []
filter_map-more {A} {B} f [] x y is = ap (λ (o : Option B). cons_option o []) is
filter_map-more {A} {B} f (z ∷ xs) x y is = by (f z) (filter_map-more f xs x y is)
  where
    by : (o : Option B) → filter_map f (xs ++ x ∷ []) ≡ filter_map f xs ++ y ∷ [] → cons_option o (filter_map f (xs ++ x ∷ [])) ≡ cons_option o (filter_map f xs) ++ y ∷ []
    by None rest = rest
    by (Some v) rest = ap (λ (l : List B). v ∷ l) rest

-- one column more
pub values_in-more : (schema : List Column) (row : Row) (names : List Name) (i : ℕ) (name : Name) (value copy : Value) (values new : List Value) → name ≡ get_or names i name → i < length names →
    column_value schema (Some row) name ≡ Some value → copy ≡ value → new ≡ values ++ copy ∷ [] → values_in schema row (take i names) ≡ values → values_in schema row (take (i + 1) names) ≡ new
values_in-more schema row names i name value copy values new at within fixed same more before =
    ap (λ (l : List Name). values_in schema row l) (take_more names i name within ∙ ap (λ (x : Name). take i names ++ x ∷ []) (sym at))
    ∙ filter_map-more (λ (x : Name). column_value schema (Some row) x) (take i names) name value fixed
    ∙ ap (λ (l : List Value). l ++ value ∷ []) before ∙ ap (λ (v : Value). values ++ v ∷ []) (sym same) ∙ sym more

-- ---- the rows of a tree stand under the codes of their key columns
each_code : (schema : List Column) (key : List Name) (es : List Entry) → list_all (is_row_entry schema key) es ≡ true → All (λ row. ordered_code (values_in schema row.1 key) ≡ row.0) (rows_of es)
each_code schema key [] all = All-nil (λ row. ordered_code (values_in schema row.1 key) ≡ row.0)
each_code schema key (e ∷ es) all =
    let both = and_parts (is_row_entry schema key e) (list_all (is_row_entry schema key) es) all in
    let row : Key × Row = (e.0, row_in e.1) in
    All-cons (λ row. ordered_code (values_in schema row.1 key) ≡ row.0) row (rows_of es) (sym (row_entry schema key e both.0).key_is) (each_code schema key es both.1)

coded : (m : Meanings) (s : Slots) (inst : Instance) (rows : Rows) → inst.code ≡ 2 → HasRows m s inst rows → All (λ row. code_of inst row.1 ≡ row.0) rows
coded m s inst rows tree h =
    let is = h.live.law.tree (sym h.live.may.code ∙ tree) in
    let f = formed inst.root inst.schema inst.key (owned s inst.owner) rows (sym (is.rows inst (owned s inst.owner)) ∙ h.holds) in
    subst (λ (l : Rows). All (λ row. code_of inst row.1 ≡ row.0) l) (sym f.same) (each_code inst.schema inst.key f.es f.entries)

-- ---- rising rows under their codes, where each row that passes has one code
module _ (passes : Row → Bool) (code : Row → Key) (key : Key) (fixed : (row : Row) → passes row ≡ true → code row ≡ key) where
  -- the key of one that passes
  same_code : (x : Key × Row) (rows : Rows) → All (λ row. code row.1 ≡ row.0) (x ∷ rows) → passes x.1 ≡ true → key ≡ x.0
  same_code x rows codes is = sym (fixed x.1 is) ∙ All-head (λ row. code row.1 ≡ row.0) x rows codes

  -- none behind the key
  filter-behind : (rows : Rows) → All (λ row. code row.1 ≡ row.0) rows → T (below_all bytes_cmp key rows) → filter (λ row. passes row.1) rows ≡ []
  filter-behind [] codes below = refl
  filter-behind (x ∷ rows) codes below =
      let both = T-parts (is_lt (bytes_cmp key x.0)) (below_all bytes_cmp key rows) below in
      by (passes x.1) refl (T-less (bytes_cmp key x.0) both.0) (filter-behind rows (All-tail (λ row. code row.1 ≡ row.0) x rows codes) both.1)
    where
      by : (b : Bool) → passes x.1 ≡ b → bytes_cmp key x.0 ≡ Less → filter (λ row. passes row.1) rows ≡ [] → cond b (x ∷ filter (λ row. passes row.1) rows) (filter (λ row. passes row.1) rows) ≡ []
      by true is apart rest =
          let tied : Less ≡ Equal = sym apart ∙ ap (λ (k : Key). bytes_cmp key k) (sym (same_code x rows codes is)) ∙ tied_itself nat_list_cmp_total key in
          absurd (true≢false (ap is_lt tied))
      by false is apart rest = rest

  -- none where the key is too long
  filter-long : (rows : Rows) → All (λ row. code row.1 ≡ row.0) rows → All (λ row. is_record_key row.0 ≡ true) rows → is_record_key key ≡ false → filter (λ row. passes row.1) rows ≡ []
  filter-long [] codes keys long = refl
  filter-long (x ∷ rows) codes keys long =
      by (passes x.1) refl (filter-long rows (All-tail (λ row. code row.1 ≡ row.0) x rows codes) (All-tail (λ row. is_record_key row.0 ≡ true) x rows keys) long)
    where
      by : (b : Bool) → passes x.1 ≡ b → filter (λ row. passes row.1) rows ≡ [] → cond b (x ∷ filter (λ row. passes row.1) rows) (filter (λ row. passes row.1) rows) ≡ []
      by true is rest = absurd (true≢false (sym (All-head (λ row. is_record_key row.0 ≡ true) x rows keys) ∙ ap is_record_key (sym (same_code x rows codes is)) ∙ long))
      by false is rest = rest

  -- they are the row of that key, where it passes
  filter-fixed : (rows : Rows) → All (λ row. code row.1 ≡ row.0) rows → T (is_sorted bytes_cmp rows) → filter (λ row. passes row.1) rows ≡ rows_under key (kept passes (row_at rows key))
  filter-fixed [] codes rises = refl
  filter-fixed (x ∷ rows) codes rises =
      let both = T-parts (below_all bytes_cmp x.0 rows) (is_sorted bytes_cmp rows) rises in
      let rest = All-tail (λ row. code row.1 ≡ row.0) x rows codes in
      by (passes x.1) refl (eq_by_cmp bytes_cmp key x.0) refl
      (λ same. filter-behind rows rest (subst (λ (k : Key). T (below_all bytes_cmp k rows)) (sym same) both.0))
      (filter-fixed rows rest both.1)
    where
      F : Rows
      F = filter (λ row. passes row.1) rows

      by : (b : Bool) → passes x.1 ≡ b → (t : Bool) → eq_by_cmp bytes_cmp key x.0 ≡ t → (key ≡ x.0 → F ≡ []) → F ≡ rows_under key (kept passes (row_at rows key))
          → cond b (x ∷ F) F ≡ rows_under key (kept passes (cond t (Some x.1) (row_at rows key)))
      by true is true ties behind rest =
          let same = same_code x rows codes is in
          ap (λ (l : Rows). x ∷ l) (behind same) ∙ ap (λ (k : Key). (k, x.1) ∷ []) (sym same) ∙ ap (λ (b : Bool). rows_under key (cond b (Some x.1) None)) (sym is)
      by true is false ties behind rest =
          let tied = ap (λ (k : Key). is_eq (bytes_cmp key k)) (same_code x rows codes is) in
          absurd (true≢false (sym (ap is_eq (tied_itself nat_list_cmp_total key)) ∙ tied ∙ ties))
      by false is true ties behind rest = behind ((bytes_same key x.0).0 (texts_ties key x.0 ∙ ties)) ∙ ap (λ (b : Bool). rows_under key (cond b (Some x.1) None)) (sym is)
      by false is false ties behind rest = rest

-- ---- the rows of a relation that pass a test which fixes their key
pub rows-fixed : (m : Meanings) (s : Slots) (inst : Instance) (rows : Rows) (passes : Row → Bool) (key : Key) → FixesKey passes inst key → HasRows m s inst rows →
    filter (λ row. passes row.1) rows ≡ rows_under key (kept passes (row_at rows key))
rows-fixed m s inst rows passes key fixes h =
    let law = (h.live.law.formed inst (owned s inst.owner) rows h.holds).lawful in
    filter-fixed passes (code_of inst) key fixes.code rows (coded m s inst rows fixes.tree h) law.rising

pub rows-long : (m : Meanings) (s : Slots) (inst : Instance) (rows : Rows) (passes : Row → Bool) (key : Key) → FixesKey passes inst key → is_record_key key ≡ false → HasRows m s inst rows →
    filter (λ row. passes row.1) rows ≡ []
rows-long m s inst rows passes key fixes long h =
    let law = (h.live.law.formed inst (owned s inst.owner) rows h.holds).lawful in
    filter-long passes (code_of inst) key fixes.code rows (coded m s inst rows fixes.tree h) law.keys long

-- ---- one row
pub IsRowOf-kept : (passes : Row → Bool) (inst : Instance) (key : Key) (row : Option Row) → is_record_key key ≡ true → IfSome row (IsRow inst.schema) → IfSome (kept passes row) (IsRowOf inst key)
IsRowOf-kept passes inst key None is_key is = tt
IsRowOf-kept passes inst key (Some row) is_key is = by (passes row)
  where
    by : (b : Bool) → IfSome (cond b (Some row) None) (IsRowOf inst key)
    by true = record { is_key = is_key; is_row = is }
    by false = tt

pub rows_under-each : (inst : Instance) (key : Key) (row : Option Row) → IfSome row (IsRowOf inst key) → All (λ r. IsRowOf inst r.0 r.1) (rows_under key row)
rows_under-each inst key None is = All-nil (λ r. IsRowOf inst r.0 r.1)
rows_under-each inst key (Some row) is =
    let one : Key × Row = (key, row) in
    All-cons (λ r. IsRowOf inst r.0 r.1) one [] is (All-nil (λ r. IsRowOf inst r.0 r.1))

pub rows_under-keys : (inst : Instance) (key : Key) (row : Option Row) → IfSome row (IsRowOf inst key) → All (λ k. is_record_key k ≡ true) (map (λ r. r.0) (rows_under key row))
rows_under-keys inst key None is = All-nil (λ k. is_record_key k ≡ true)
rows_under-keys inst key (Some row) is = All-cons (λ k. is_record_key k ≡ true) key [] is.is_key (All-nil (λ k. is_record_key k ≡ true))

-- ---- those above a low key
-- two tests in either order
filter-turned : {A : Type 0} (p q : A → Bool) (xs : List A) → filter p (filter q xs) ≡ filter q (filter p xs)
filter-turned p q [] = refl
filter-turned {A} p q (x ∷ xs) = by (p x) refl (q x) refl (filter-turned p q xs)
  where
    P : List A
    P = filter p xs

    Q : List A
    Q = filter q xs

    by : (a : Bool) → p x ≡ a → (b : Bool) → q x ≡ b → filter p Q ≡ filter q P → filter p (cond b (x ∷ Q) Q) ≡ filter q (cond a (x ∷ P) P)
    by true is_p true is_q rest =
        ap (λ (t : Bool). cond t (x ∷ filter p Q) (filter p Q)) is_p ∙ ap (λ (l : List A). x ∷ l) rest ∙ sym (ap (λ (t : Bool). cond t (x ∷ filter q P) (filter q P)) is_q)
    by true is_p false is_q rest = rest ∙ sym (ap (λ (t : Bool). cond t (x ∷ filter q P) (filter q P)) is_q)
    by false is_p true is_q rest = ap (λ (t : Bool). cond t (x ∷ filter p Q) (filter p Q)) is_p ∙ rest
    by false is_p false is_q rest = rest

-- the row that is wanted, or none
taken : (key : Key) (row : Option Row) (low : Option Key) (limit : ℕ) (b : Bool) → is_wanted key low limit ≡ b → take limit (rows_above low (rows_under key row)) ≡ cond b (rows_under key row) []
taken key None low limit b is = by b
  where
    none : Rows
    none = []

    by : (b : Bool) → take limit none ≡ cond b none []
    by true = take_all limit none (omega arith)
    by false = take_all limit none (omega arith)
taken key (Some row) low limit b is = by (nat_lt 0 limit) refl (is_above low key) refl is
  where
    one : Rows
    one = (key, row) ∷ []

    no_more : (n : ℕ) → nat_lt 0 n ≡ false → (l : Rows) → take n l ≡ []
    no_more zero none l = refl
    no_more (suc n) none l = absurd (omega (arith, ltb-false 0 (suc n) none))

    by : (p : Bool) → nat_lt 0 limit ≡ p → (q : Bool) → is_above low key ≡ q → (p && q) ≡ b → take limit (cond q one []) ≡ cond b one []
    by true some true up same = take_all limit one (omega (arith, ltb-true 0 limit some)) ∙ ap (λ (t : Bool). cond t one []) same
    by true some false up same = take_all limit [] (omega arith) ∙ ap (λ (t : Bool). cond t one []) same
    by false none q up same = no_more limit none (cond q one []) ∙ ap (λ (t : Bool). cond t one []) same

pub rows_above-fixed : (m : Meanings) (s : Slots) (inst : Instance) (rows : Rows) (passes : Row → Bool) (key : Key) (low : Option Key) (limit : ℕ) (b : Bool) → FixesKey passes inst key → HasRows m s inst rows →
    is_wanted key low limit ≡ b → take limit (filter (λ row. passes row.1) (rows_above low rows)) ≡ cond b (filter (λ row. passes row.1) rows) []
rows_above-fixed m s inst rows passes key low limit b fixes h is =
    let found = rows-fixed m s inst rows passes key fixes h in
    ap (take limit) (filter-turned (λ (row : Key × Row). passes row.1) (λ (row : Key × Row). is_above low row.0) rows ∙ ap (rows_above low) found)
    ∙ taken key (kept passes (row_at rows key)) low limit b is
    ∙ ap (λ (l : Rows). cond b l []) (sym found)
