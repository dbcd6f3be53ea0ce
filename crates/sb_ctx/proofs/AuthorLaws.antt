-- What the author of an attachment cites: its rule, the rows after a change, the database behind it, and the edits of one page.
use Rattle.std.proofs.Common.{◌≡◌, ◌≢◌, ℕ, ◌+◌, ◌≤◌, ◌<◌, ◌==◌, Bool, true, false, cond, not, ◌&&◌, T, List, [], ◌∷◌, length, filter, Option, Some, None, IsSome, is_some, option_map, refl, sym, ap, ◌∙◌, arith, true≢false, eqb-true, bytes_eq, ◌⊎◌, inl, inr, zero, suc, Equal}
use Rattle.std.specs.FinMap.Entries.{find-put, find-where_key, length-put, length_without, is_sorted, is_sorted-where_key}
use Rattle.std.specs.List.{range_with_len}
use Rattle.std.specs.Ordering.{eq_by_cmp, is_eq}
use Rattle.std.proofs.lemmas.Bool.{and_parts}
use Rattle.std.proofs.lemmas.Cmp.{tied_itself, nat_list_cmp_total}
use Rattle.std.proofs.lemmas.List.{length-map}
use Rattle.std.proofs.lemmas.Map.Text.{is_eq-slice_cmp}
use Rattle.std.proofs.lemmas.Option.{same_Some}
use Rattle.sb_value.specs.Equal.{bytes_same}
use Rattle.sb_value.specs.Order.{bytes_cmp}
use Rattle.sb_rule.specs.declared.change.Change.{Change}
use Rattle.sb_rule.specs.declared.rule.Rule.{Rule}
use Rattle.sb_rule.specs.declared.rule.Rule.TheVariants.{TreeIndex, HashIndex, JoinIndex, Stats, Check, Refers, Trigger, Foreign}
use Rattle.sb_rule.specs.Spelling.{SpellsRule}
use Rattle.sb_forms.specs.Changes.{changed, changed_rows, with_change}
use Rattle.sb_forms.specs.Db.{Name, Key, Row, Rows, Relation, Db, relation_at, row_at, rows_at, with_relation, with_row, with_rows, without_row}
use Rattle.sb_forms.specs.Fits.{is_empty}
use Rattle.sb_forms.specs.Pages.{Pages, page_numbers, page_count}
use Rattle.sb_ctx.specs.View.{HeldPage, View, held_at, given_at, is_edited, is_freed, edits_of, dropped, page_of, with_page, HoldsPart, stored}
use Rattle.sb_ctx.specs.Held.{with_bytes}
use Rattle.sb_ctx.proofs.HeldLaws.{page_in-bytes_put}
use Rattle.sb_ctx.specs.Sized.{IsCtx}
use Rattle.sb_ctx.proofs.ViewLaws.{as_it_was, stored-with_page, stored-clean}
use Rattle.sb_ctx.proofs.BoundLaws.{count_below, count_of_one, edits_of-clean, length-taken}

-- ---- the rule of a foreign code
-- its bytes spell no other rule
pub foreign_rule : (code : ℕ) (desc : List ℕ) (rule : Rule) → 1000 ≤ code → SpellsRule code desc rule → rule ≡ Foreign code desc
foreign_rule code desc (Foreign other bytes) high spells = λ i. Foreign (sym spells.coded i) (sym spells.spelled i)
foreign_rule code desc (TreeIndex columns unique) high spells = absurd (omega (arith, high, spells.coded))
foreign_rule code desc (HashIndex columns) high spells = absurd (omega (arith, high, spells.coded))
foreign_rule code desc (JoinIndex side columns other others) high spells = absurd (omega (arith, high, spells.coded))
foreign_rule code desc (Stats column low width) high spells = absurd (omega (arith, high, spells.coded))
foreign_rule code desc (Check pred deferred) high spells = absurd (omega (arith, high, spells.coded))
foreign_rule code desc (Refers side columns other others mode deferred) high spells = absurd (omega (arith, high, spells.coded))
foreign_rule code desc (Trigger event pred action deferred) high spells = absurd (omega (arith, high, spells.coded))

-- ---- the database with other rows in a relation
pub relation_at-with_rows : (db : Db) (name : Name) (rows : Rows) (r : Relation) → relation_at db name ≡ Some r → relation_at (with_rows db name rows) name ≡ Some (record r { rows = rows })
relation_at-with_rows db name rows r there =
    ap (λ (o : Option Relation). relation_at (elim o [ None ↦ db | Some q ↦ with_relation db name (record q { rows = rows }) ]) name) there
    ∙ find-put bytes_cmp nat_list_cmp_total name name (record r { rows = rows }) db
    ∙ ap (λ o. cond (is_eq o) (Some (record r { rows = rows })) (relation_at db name)) (tied_itself nat_list_cmp_total name)

-- its rows are those
pub rows_at-with_rows : (db : Db) (name : Name) (rows : Rows) (r : Relation) → relation_at db name ≡ Some r → rows_at (with_rows db name rows) name ≡ rows
rows_at-with_rows db name rows r there = ap (λ (o : Option Relation). elim o [ None ↦ [] | Some q ↦ q.rows ]) (relation_at-with_rows db name rows r there)

-- a change of a relation that is there leaves its columns, with the changed rows
pub relation_at-changed : (db : Db) (name : Name) (c : Change) (r : Relation) → relation_at db name ≡ Some r → relation_at (changed db name c) name ≡ Some (with_change r c (changed_rows r.rows c))
relation_at-changed db name c r there =
    ap (λ (o : Option Relation). relation_at (elim o [ None ↦ db | Some q ↦ with_relation db name (with_change q c (changed_rows q.rows c)) ]) name) there
    ∙ find-put bytes_cmp nat_list_cmp_total name name (with_change r c (changed_rows r.rows c)) db
    ∙ ap (λ o. cond (is_eq o) (Some (with_change r c (changed_rows r.rows c))) (relation_at db name)) (tied_itself nat_list_cmp_total name)

-- ---- rows after a change
-- one row more
pub length-with_row : (rows : Rows) (key : Key) (row : Row) → T (is_sorted bytes_cmp rows) → row_at rows key ≡ None → length (with_row rows key row) ≡ length rows + 1
length-with_row rows key row rises none =
    length-put bytes_cmp nat_list_cmp_total key row rows rises ∙ ap (λ (o : Option Row). cond (is_some o) (length rows) (length rows + 1)) none

same_key : (k key : Key) → not (bytes_eq k key) ≡ not (eq_by_cmp bytes_cmp key k)
same_key k key = ap not (turned (bytes_eq k key) (bytes_eq key k) (λ e. yes key k (sym ((bytes_same k key).0 e))) (λ e. yes k key (sym ((bytes_same key k).0 e))) ∙ sym (is_eq-slice_cmp key k))
  where
    yes : (a b : Key) → a ≡ b → bytes_eq a b ≡ true
    yes a b e = (bytes_same a b).1 e

    turned : (s t : Bool) → (s ≡ true → t ≡ true) → (t ≡ true → s ≡ true) → s ≡ t
    turned true t there back = sym (there refl)
    turned false true there back = back refl
    turned false false there back = refl

-- one row less
pub length-without_row : (rows : Rows) (key : Key) (old : Row) → T (is_sorted bytes_cmp rows) → row_at rows key ≡ Some old → length (without_row rows key) + 1 ≡ length rows
length-without_row rows key old rises there =
    let without : length (without_row rows key) ≡ length (filter (λ e. not (eq_by_cmp bytes_cmp key e.0)) rows) = (λ i. length (filter (λ (e : Key × Row). same_key e.0 key i) rows)) in
    let one = ap (λ (o : Option Row). cond {A = ℕ} (is_some o) 1 0) there in
    omega (arith, without, one, length_without bytes_cmp nat_list_cmp_total key rows rises)

row_at-without_row : (rows : Rows) (key k : Key) → row_at (without_row rows key) k ≡ cond (not (bytes_eq k key)) (row_at rows k) None
row_at-without_row rows key k = find-where_key bytes_cmp (λ x. not (bytes_eq x key)) k (λ x tie. ap (λ (y : Key). not (bytes_eq y key)) (sym (tied x tie))) rows
  where
    tied : (x : Key) → bytes_cmp k x ≡ Equal → k ≡ x
    tied x tie = (bytes_same k x).0 (sym (is_eq-slice_cmp k x) ∙ ap is_eq tie)

-- the new key of a changed row is free once the row is out
pub row_at-freed : (rows : Rows) (from to : Key) → ((to ≡ from → ⊥) → row_at rows to ≡ None) → row_at (without_row rows from) to ≡ None
row_at-freed rows from to free = row_at-without_row rows from to ∙ by (bytes_eq to from) refl
  where
    by : (b : Bool) → bytes_eq to from ≡ b → cond (not b) (row_at rows to) None ≡ None
    by true is = refl
    by false is = free (λ same. true≢false (sym ((bytes_same to from).1 same) ∙ is))

-- as many rows
pub length-moved_row : (rows : Rows) (from to : Key) (old new : Row) → T (is_sorted bytes_cmp rows) → row_at rows from ≡ Some old → ((to ≡ from → ⊥) → row_at rows to ≡ None) → length (with_row (without_row rows from) to new) ≡ length rows
length-moved_row rows from to old new rises there free =
    length-with_row (without_row rows from) to new (is_sorted-where_key bytes_cmp (λ x. not (bytes_eq x from)) rows rises) (row_at-freed rows from to free)
    ∙ length-without_row rows from old rises there

-- ---- the edits of a call that writes one page of the instance
-- a page is the one that is written, which isn't fresh, or is as it was given
abbrev IsWritten : ℕ → List ℕ → ℕ → HeldPage → Type 0
IsWritten n bytes m h = (m ≡ n) × (h.now ≡ bytes) × (h.given ≢ [])

written_or_not : (c : View) (P : Pages) (n : ℕ) (bytes : List ℕ) → dropped c ≡ c → HoldsPart c P → P n ≢ [] → (m : ℕ) (h : HeldPage) → held_at (with_page n bytes c) m ≡ Some h → IsWritten n bytes m h ⊎ (h.now ≡ h.given)
written_or_not c P n bytes clean part some m h is = by (n == m) refl (held_at c m) refl (sym (page_in-bytes_put c.held n m bytes) ∙ is)
  where
    by : (b : Bool) → n == m ≡ b → (o : Option HeldPage) → held_at c m ≡ o → cond b (option_map (with_bytes bytes) o) o ≡ Some h → IsWritten n bytes m h ⊎ (h.now ≡ h.given)
    by true same None there is = cc
    by true same (Some g) there is =
        let made : with_bytes bytes g ≡ h = same_Some (with_bytes bytes g) h is in
        let at : n ≡ m = eqb-true n m same in
        inl (sym at, ap (λ (x : HeldPage). x.now) (sym made), λ none. some (ap P at ∙ part.pages m g there ∙ ap (λ (x : HeldPage). x.given) made ∙ none))
    by false other None there is = cc
    by false other (Some g) there is = inr (as_it_was c m h clean (there ∙ is))

edited-written : (n : ℕ) (bytes : List ℕ) (m : ℕ) (h : HeldPage) → IsWritten n bytes m h ⊎ (h.now ≡ h.given) → is_edited h ≡ true → m ≡ n
edited-written n bytes m h (inl written) edited = written.0
edited-written n bytes m h (inr same) edited = absurd (true≢false (sym edited ∙ ap (λ (l : List ℕ). not (is_empty h.now) && not (bytes_eq h.now l)) (sym same) ∙ never (is_empty h.now) (bytes_eq h.now h.now) ((bytes_same h.now h.now).1 refl)))
  where
    never : (a b : Bool) → b ≡ true → (not a && not b) ≡ false
    never a true is = by a
      where
        by : (a : Bool) → (not a && false) ≡ false
        by true = refl
        by false = refl
    never a false is = absurd (true≢false (sym is))

no_bytes : (bytes : List ℕ) → is_empty bytes ≡ true → bytes ≡ []
no_bytes [] is = refl
no_bytes (b ∷ bytes) is = cc

some_bytes : (bytes : List ℕ) → not (is_empty bytes) ≡ true → bytes ≢ []
some_bytes [] is none = true≢false (sym is)
some_bytes (b ∷ bytes) is none = cc

none_freed : (n : ℕ) (bytes : List ℕ) (m : ℕ) (h : HeldPage) → bytes ≢ [] → IsWritten n bytes m h ⊎ (h.now ≡ h.given) → is_freed h ≡ true → ⊥
none_freed n bytes m h some is freed =
    let parts = and_parts (is_empty h.now) (not (is_empty h.given)) freed in
    by is (no_bytes h.now parts.0) (some_bytes h.given parts.1)
  where
    by : IsWritten n bytes m h ⊎ (h.now ≡ h.given) → h.now ≡ [] → h.given ≢ [] → ⊥
    by (inl written) none given = some (sym written.1 ∙ none)
    by (inr same) none given = given (sym same ∙ none)

none_taken : (n : ℕ) (bytes : List ℕ) (m : ℕ) (h : HeldPage) → (h.fresh ≡ true → h.given ≡ []) → IsWritten n bytes m h ⊎ (h.now ≡ h.given) → (h.fresh && not (is_empty h.now)) ≡ true → ⊥
none_taken n bytes m h fresh is taken =
    let parts = and_parts h.fresh (not (is_empty h.now)) taken in
    by is (fresh parts.0) (some_bytes h.now parts.1)
  where
    by : IsWritten n bytes m h ⊎ (h.now ≡ h.given) → h.given ≡ [] → h.now ≢ [] → ⊥
    by (inl written) none now = written.2 none
    by (inr same) none now = now (same ∙ none)

-- one page is edited, and none is taken or freed
pub edits_of-one : (c : View) (P : Pages) (n : ℕ) (bytes : List ℕ) → dropped c ≡ c → HoldsPart c P → P n ≢ [] → bytes ≢ [] → IsCtx (with_page n bytes c) → edits_of (with_page n bytes c) ≤ 1
edits_of-one c P n bytes clean part some written is =
    let new = with_page n bytes c in
    let all = written_or_not c P n bytes clean part some in
    let edited = count_of_one is_edited new.held n is.sound.rises (λ m h there edited. edited-written n bytes m h (all m h there) edited) in
    let freed = count_below is_freed new.held 0 is.sound.rises (λ m h there freed. absurd (none_freed n bytes m h written (all m h there) freed)) in
    let taken = count_below (λ h. h.fresh && not (is_empty h.now)) new.held 0 is.sound.rises (λ m h there taken. absurd (none_taken n bytes m h (is.sound.fresh m h there) (all m h there) taken)) in
    omega (arith, edited, freed, taken, length-taken new.held, length-map (filter (λ e. is_edited e.1) new.held) (λ e. e.0), length-map (filter (λ e. is_freed e.1) new.held) (λ e. e.0))

-- where nothing is made of it, nothing is edited
pub edits_of-none : (c : View) (P : Pages) → dropped c ≡ c → IsCtx c → HoldsPart c P → edits_of c ≤ 0
edits_of-none c P clean is part = edits_of-clean c clean is

-- ---- how many pages an instance has
-- numbers that pass and are all the same one
none_past : (p : ℕ → Bool) (root a k : ℕ) → ((n : ℕ) → p n ≡ true → n ≡ root) → root < a → length (filter p (range_with_len a k)) ≤ 0
none_past p root a zero all past = omega arith
none_past p root a (suc k) all past =
    elim (p a) as (λ b. p a ≡ b → length (cond b (a ∷ filter p (range_with_len (a + 1) k)) (filter p (range_with_len (a + 1) k))) ≤ 0) [
      | true ↦ λ passes. absurd (omega (arith, past, all a passes))
      | false ↦ λ fails. none_past p root (a + 1) k all (omega (arith, past))
    ] refl

one_of : (p : ℕ → Bool) (root a k : ℕ) → ((n : ℕ) → p n ≡ true → n ≡ root) → length (filter p (range_with_len a k)) ≤ 1
one_of p root a zero all = omega arith
one_of p root a (suc k) all =
    elim (p a) as (λ b. p a ≡ b → length (cond b (a ∷ filter p (range_with_len (a + 1) k)) (filter p (range_with_len (a + 1) k))) ≤ 1) [
      | true ↦ λ passes. omega (arith, none_past p root (a + 1) k all (omega (arith, all a passes)))
      | false ↦ λ fails. one_of p root (a + 1) k all
    ] refl

-- where no page but one has bytes
pub page_count-one : (P : Pages) (root : ℕ) → ((n : ℕ) → P n ≢ [] → n ≡ root) → page_count P ≤ 1
unfolding page_numbers
page_count-one P root all = one_of (λ n. not (is_empty (P n))) root 0 65536 (λ n some. all n (some_bytes (P n) some))

-- where the same pages have bytes
pub page_count-same : (P Q : Pages) → ((n : ℕ) → is_empty (P n) ≡ is_empty (Q n)) → page_count P ≡ page_count Q
unfolding page_numbers
page_count-same P Q same = λ i. length (filter (λ n. not (same n i)) (range_with_len 0 65536))

-- a page of the instance is written
pub page_count-written : (c : View) (P : Pages) (n : ℕ) (bytes : List ℕ) → dropped c ≡ c → HoldsPart c P → IsSome (page_of c n) → P n ≢ [] → bytes ≢ [] → page_count (stored (with_page n bytes c) P) ≡ page_count P
page_count-written c P n bytes clean part held some written = page_count-same (stored (with_page n bytes c) P) P same
  where
    full : (l : List ℕ) → l ≢ [] → is_empty l ≡ false
    full [] none = absurd (none refl)
    full (b ∷ l) none = refl

    same : (m : ℕ) → is_empty (stored (with_page n bytes c) P m) ≡ is_empty (P m)
    same m =
        ap is_empty (stored-with_page c P n m bytes held) ∙ elim (n == m) as (λ b. n == m ≡ b → is_empty (cond b bytes (stored c P m)) ≡ is_empty (P m)) [
          | true ↦ λ at. full bytes written ∙ sym (ap (λ (k : ℕ). is_empty (P k)) (sym (eqb-true n m at)) ∙ full (P n) some)
          | false ↦ λ other. ap (λ (Q : Pages). is_empty (Q m)) (stored-clean c P clean part)
        ] refl

-- a page that is held, as it was given
pub given_at-page : (c : View) (n : ℕ) (page : List ℕ) → dropped c ≡ c → page_of c n ≡ Some page → given_at c n ≡ Some page
given_at-page c n page clean is = by (held_at c n) refl is
  where
    by : (o : Option HeldPage) → held_at c n ≡ o → option_map (λ (h : HeldPage). h.now) o ≡ Some page → option_map (λ (h : HeldPage). h.given) o ≡ Some page
    by None there is = cc
    by (Some h) there is = ap Some (sym (as_it_was c n h clean there)) ∙ is
