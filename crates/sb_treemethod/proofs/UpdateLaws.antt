-- What is answered when a row is put in place of another.
use Rattle.std.proofs.Common.{◌≡◌, ℕ, ◌+◌, ◌*◌, ◌<◌, ◌≤◌, Bool, true, false, cond, not, ◌||◌, List, length, Option, Some, None, IsSome, is_some, is_none, option_map, refl, ap, sym, ◌∙◌, subst, arith, T, true≢false, inl, inr}
use Rattle.std.specs.FinMap.Entries.{find, put, find-put, find-where_key, is_sorted, is_sorted-put, is_sorted-where_key, length-put, same_entries}
use Rattle.std.specs.declared.cmp.Ordering.{Ordering}
use Rattle.std.specs.declared.cmp.Ordering.TheVariants.{Less, Equal, Greater}
use Rattle.std.specs.Ordering.{is_eq}
use Rattle.sb_value.specs.Equal.{bytes_same}
use Rattle.std.specs.Str.{bytes_eq}
use Rattle.std.proofs.lemmas.Cmp.{nat_list_cmp_total}
use Rattle.std.proofs.lemmas.Map.Text.{is_eq-slice_cmp}
use Rattle.sb_value.proofs.Truths.{or_true}
use Rattle.sb_ctx.specs.Costs.{digits, tree_cost}
use Rattle.sb_relation.specs.Db.{Key, Row, Rows, row_at, with_row, without_row}
use Rattle.sb_relation.specs.Keys.{is_free}
use Rattle.sb_node.specs.Entries.{Entry, key_cmp}
use Rattle.sb_forms.specs.Pages.{Pages}
use Rattle.sb_forms.specs.Stored.{row_in}
use Rattle.sb_forms.specs.TreePages.{rows_of, tree_met}
use Rattle.sb_ctx.specs.declared.instance.Instance.{Instance}
use Rattle.sb_ctx.specs.declared.calls.MethodCall.TheVariants as call
use Rattle.sb_ctx.specs.declared.moves.Move.TheVariants.{NoRecord, Duplicate, Key as Keyed}
use Rattle.sb_ctx.specs.View.{HeldPage, View, page_of, edits_of, dropped, HoldsPart, stored}
use Rattle.sb_ctx.proofs.ViewLaws.{HoldsPart-from_dropped}
use Rattle.sb_ctx.specs.Method.{code_of, MayHold}
use Rattle.sb_ctx.specs.MethodAnswers.{Changes, Updated}
use Rattle.sb_btree.specs.Broken.{breaks}
use Rattle.sb_btree.specs.Inserts.{Inserts, MayAsk, OverTrees, Replaces}
use Rattle.sb_btree.specs.Leaves.{entry_at, entry_in}
use Rattle.sb_btree.specs.declared.lookup.LeafEntry.{LeafEntry}
use Rattle.sb_btree.specs.Removes.{Removes, entries_without, is_on_removal_way}
use Rattle.sb_btree.specs.Spending.{AsksWithin}
use Rattle.sb_btree.specs.Walks.{AsksFor as MayAskFor, Breaks, Gives, Needs, OnTree, OverTree}
use Rattle.sb_btree.specs.declared.walk.Walk.{Walk}
use Rattle.sb_btree.specs.declared.walk.Walk.TheVariants as walk
use Rattle.sb_btree.proofs.Counting.{digits_next}
use Rattle.sb_btree.proofs.Edits.{held_still}
use Rattle.sb_btree.proofs.Order.{same_key}
use Rattle.sb_btree.proofs.Replacing.{put_over}
use Rattle.sb_btree.proofs.Whole.{removal_ways_met}
use Rattle.sb_btree.proofs.Without.{same_bytes}
use Rattle.sb_treemethod.specs.TreeMethod.{tree_method, IsEntryOf, is_on_call_path}
use Rattle.sb_treemethod.specs.Answered.{question_of, was_broken, was_done, was_found, missing_move, put_move, replace_move}
use Rattle.sb_treemethod.proofs.Changing.{TreeOf-grown, TreeOf-shrunk}
use Rattle.sb_treemethod.proofs.Counted.{clean_edits, grown_few}
use Rattle.sb_treemethod.proofs.MethodLaws.{OverOld, changes, Changes-question, none_found}
use Rattle.sb_treemethod.proofs.PutLaws.{asked_put, given_key, got_key, got_none, grew_from, kept_put, row_is_entry, row_under, short_key, some_under, value_read}
use Rattle.sb_treemethod.proofs.RemoveLaws.{none_there, row_there, rows_still}
use Rattle.sb_treemethod.proofs.RowsOf.{with_row-rows_of, without_row-rows_of}
use Rattle.sb_treemethod.proofs.TreeRows.{Formed, TreeOf, formed, rising, rows_from, tree_of}
use Rattle.sb_treemethod.proofs.Within.{AskedBy, Bounds, GetsWhere, KeepsRefused, Within, reads_still, tree_bounds, within}

-- ---- entries
other_key : (key code q : Key) → bytes_eq code key ≡ false → is_eq (key_cmp q code) ≡ true → not (bytes_eq q key) ≡ true
other_key key code q other is =
    ap not (sym (is_eq-slice_cmp q key) ∙ ap (λ k. is_eq (key_cmp k key)) (tied (is_eq (key_cmp q code)) refl is) ∙ is_eq-slice_cmp code key ∙ other)
  where
    tied : (b : Bool) → is_eq (key_cmp q code) ≡ b → b ≡ true → q ≡ code
    tied b e f = same_key q code (is_tie (key_cmp q code) (e ∙ f))
      where
        is_tie : (o : Ordering) → is_eq o ≡ true → o ≡ Equal
        is_tie Less is = absurd (true≢false (sym is))
        is_tie Equal is = refl
        is_tie Greater is = absurd (true≢false (sym is))

-- ---- rows
turned : (a b : Key) → bytes_eq a b ≡ false → bytes_eq b a ≡ false
turned a b other = elim (bytes_eq b a) as (λ t. bytes_eq b a ≡ t → t ≡ false) [
  | true ↦ λ same. absurd (true≢false (sym ((bytes_same a b).1 (sym ((bytes_same b a).0 same))) ∙ other))
  | false ↦ λ o. refl
] refl

own_free : (inst : Instance) (P : Pages) (rows : Rows) (code : Key) → Formed inst.root inst.schema inst.key P rows → is_free rows (Some code) code ≡ true
own_free inst P rows code f = ap (λ b. b || is_none (row_at rows code)) (same_bytes code)

new_free : (inst : Instance) (P : Pages) (rows : Rows) (key code : Key) → (f : Formed inst.root inst.schema inst.key P rows) → find key_cmp code f.es ≡ None → is_free rows (Some key) code ≡ true
new_free inst P rows key code f none = ap (λ o. bytes_eq key code || is_none o) (row_under inst P rows code f ∙ ap (option_map row_in) none) ∙ or_true (bytes_eq key code)

-- a row under its own key gets that one
pub own_gets : (inst : Instance) (row : Row) (code value : List ℕ) (old : View) (IsSo : Type 0) → IsEntryOf inst row code value → GetsWhere inst (call.Update code row) old IsSo
own_gets inst row code value old IsSo entry P part rows f is =
    given_key rows (Some code) (code_of inst row) (ap (is_free rows (Some code)) (sym entry.key_is) ∙ own_free inst P rows code f)

-- a row under a key that stands in no entry gets it
pub new_gets : (inst : Instance) (key : Key) (row : Row) (code value : List ℕ) (old : View) (IsSo : Type 0) → dropped old ≡ old → IsEntryOf inst row code value → (IsSo → OverTrees old inst.root (λ P es. find key_cmp code es ≡ None)) → GetsWhere inst (call.Update key row) old IsSo
new_gets inst key row code value old IsSo clean entry none P part rows f is =
    given_key rows (Some key) (code_of inst row) (ap (is_free rows (Some key)) (sym entry.key_is) ∙ new_free inst P rows key code f (none is P f.es (reads_still inst old P f.es clean part f.tree)))

-- so where a fresh page is asked for to put it in
pub unput_gets : (inst : Instance) (key : Key) (row : Row) (code value : List ℕ) (old new : View) (w : Walk Bool) → dropped old ≡ old → IsEntryOf inst row code value → OverTrees old inst.root (λ P es. Inserts old new inst.root code value P es w) → GetsWhere inst (call.Update key row) old (w ≡ walk.Fresh)
unput_gets inst key row code value old new w clean entry inserts =
    new_gets inst key row code value old (w ≡ walk.Fresh) clean entry (λ is P es read. subst (λ (v : Walk Bool). Inserts old new inst.root code value P es v) is (inserts P es read))

-- a row more where one is gone, as rows of entries
as_rows : (inst : Instance) (P : Pages) (rows : Rows) (key code : Key) (value : List ℕ) (row : Row) → (f : Formed inst.root inst.schema inst.key P rows) → row_in value ≡ row
    → rows_of (put key_cmp code value (entries_without key f.es)) ≡ with_row (without_row rows key) code row
as_rows inst P rows key code value row f read =
    sym (with_row-rows_of code value (entries_without key f.es)) ∙ (λ i. with_row (sym (without_row-rows_of key f.es) i) code (read i)) ∙ ap (λ (l : Rows). with_row (without_row l key) code row) (sym f.same)

-- ---- entries
-- an entry less and another one more, in either order
swapped : (key code : Key) (value : List ℕ) (es : List Entry) → bytes_eq code key ≡ false → T (is_sorted key_cmp es) → entries_without key (put key_cmp code value es) ≡ put key_cmp code value (entries_without key es)
swapped key code value es other sorted =
    same_entries key_cmp nat_list_cmp_total same_key (entries_without key (put key_cmp code value es)) (put key_cmp code value (entries_without key es))
    (is_sorted-where_key key_cmp stays (put key_cmp code value es) (is_sorted-put key_cmp nat_list_cmp_total code value es sorted)) (is_sorted-put key_cmp nat_list_cmp_total code value (entries_without key es) (is_sorted-where_key key_cmp stays es sorted))
    (λ q.
    find-where_key key_cmp stays q (tie q) (put key_cmp code value es) ∙ ap (λ o. cond (stays q) o None) (find-put key_cmp nat_list_cmp_total q code value es) ∙ by q
    ∙ sym (find-put key_cmp nat_list_cmp_total q code value (entries_without key es) ∙ ap (λ o. cond (is_eq (key_cmp q code)) (Some value) o) (find-where_key key_cmp stays q (tie q) es)))
  where
    stays : Key → Bool
    stays k = not (bytes_eq k key)

    tie : (q x : Key) → key_cmp q x ≡ Equal → not (bytes_eq x key) ≡ not (bytes_eq q key)
    tie q x is = ap (λ (k : Key). not (bytes_eq k key)) (sym (same_key q x is))

    by : (q : Key) → cond (not (bytes_eq q key)) (cond (is_eq (key_cmp q code)) (Some value) (find key_cmp q es)) None ≡ cond (is_eq (key_cmp q code)) (Some value) (cond (not (bytes_eq q key)) (find key_cmp q es) None)
    by q = elim (is_eq (key_cmp q code)) as (λ t. is_eq (key_cmp q code) ≡ t → cond (not (bytes_eq q key)) (cond t (Some value) (find key_cmp q es)) None ≡ cond t (Some value) (cond (not (bytes_eq q key)) (find key_cmp q es) None)) [
      | true ↦ λ is. ap (λ b. cond b (Some value) None) (other_key key code q other is)
      | false ↦ λ is. refl
    ] refl

one_more : (key : Key) (value : List ℕ) (es : List Entry) → T (is_sorted key_cmp es) → find key_cmp key es ≡ None → length (put key_cmp key value es) ≡ length es + 1
one_more key value es sorted none = length-put key_cmp nat_list_cmp_total key value es sorted ∙ ap (λ o. cond (is_some o) (length es) (length es + 1)) none

-- a key that stands does so still
stands_still : (key code : Key) (value : List ℕ) (es : List Entry) → IsSome (find key_cmp key es) → find key_cmp key (put key_cmp code value es) ≡ None → ⊥
stands_still key code value es there none = by (is_eq (key_cmp key code)) (find key_cmp key es) there (sym (find-put key_cmp nat_list_cmp_total key code value es) ∙ none)
  where
    by : (b : Bool) (o : Option (List ℕ)) → IsSome o → cond b (Some value) o ≡ None → ⊥
    by true o there none = cc
    by false None there none = true≢false (sym there)
    by false (Some v) there none = cc

-- ---- a call that isn't ended
pub Changes-asked : {T : Type 0} (inst : Instance) (key : Key) (row : Row) (old new : View) (w : Walk T) → dropped old ≡ old → dropped new ≡ old → MayAsk new w → Breaks (breaks inst.root (page_of old)) w → Within inst (call.Update key row) old new (question_of w)
    → Changes tree_method inst (call.Update key row) old new (question_of w)
Changes-asked {T} inst key row old new w clean given asks broken spends = Changes-question {T = T} inst (call.Update key row) old new w (over w) clean given asks broken spends
  where
    over : (w : Walk T) → OverOld inst (call.Update key row) old w
    over (walk.Ready end) = tt
    over (walk.Need n) = tt
    over walk.Fresh = tt
    over (walk.Broken n) = λ P part. tt
    over walk.NoMemory = tt

-- ---- the row isn't there
no_row : (inst : Instance) (key : Key) (row : Row) (old new : View) → dropped old ≡ old → dropped new ≡ old → OverTrees old inst.root (λ P es. (find key_cmp key es ≡ None) × (new ≡ old)) → Within inst (call.Update key row) old new NoRecord
    → Changes tree_method inst (call.Update key row) old new NoRecord
no_row inst key row old new clean given none spends =
    changes inst (call.Update key row) old new NoRecord given tt tt tt
    (λ P part rows holds.
    let f = formed inst.root inst.schema inst.key P rows holds in
    let gone = none P f.es (reads_still inst old P f.es clean part f.tree) in
    subst (λ (o : Option Row). Updated tree_method inst key row o rows (stored new P) NoRecord) (sym (none_there inst P rows key f gone.0)) (rows_still inst old new P rows clean part gone.1 holds))
    spends

asked_missing : (w : Walk (Option LeafEntry)) → AskedBy w (missing_move w)
asked_missing (walk.Ready (Some value)) = tt
asked_missing (walk.Ready None) = tt
asked_missing (walk.Need n) = refl
asked_missing walk.Fresh = refl
asked_missing (walk.Broken n) = tt
asked_missing walk.NoMemory = tt

kept_missing : (inst : Instance) (old : View) (w : Walk (Option LeafEntry)) → KeepsRefused inst old old (missing_move w)
kept_missing inst old (walk.Ready (Some value)) = tt
kept_missing inst old (walk.Ready None) = λ P es reads. refl
kept_missing inst old (walk.Need n) = tt
kept_missing inst old walk.Fresh = tt
kept_missing inst old (walk.Broken n) = tt
kept_missing inst old walk.NoMemory = tt

reading_asks : {T : Type 0} (old : View) (w : Walk T) → MayAskFor old w → MayAsk old w
reading_asks old (walk.Ready end) asks = tt
reading_asks old (walk.Need n) asks = asks
reading_asks old walk.Fresh asks = absurd asks
reading_asks old (walk.Broken n) asks = asks
reading_asks old walk.NoMemory asks = tt

pub Changes-missing : (inst : Instance) (key : Key) (row : Row) (old : View) (w : Walk (Option LeafEntry)) → dropped old ≡ old → MayAskFor old w → Breaks (breaks inst.root (page_of old)) w
    → OverTree old inst.root (λ es. Gives (λ found. option_map entry_in found ≡ entry_at key es) w) → Bounds inst (call.Update key row) old old w → Changes tree_method inst (call.Update key row) old old (missing_move w)
Changes-missing inst key row old w clean asks broken gives b =
    by w (reading_asks old w asks) broken gives (within inst (call.Update key row) old old w (missing_move w) clean (reading_asks old w asks) (asked_missing w) (kept_missing inst old w) b)
  where
    by : (w : Walk (Option LeafEntry)) → MayAsk old w → Breaks (breaks inst.root (page_of old)) w → OverTree old inst.root (λ es. Gives (λ found. option_map entry_in found ≡ entry_at key es) w) → Within inst (call.Update key row) old old (missing_move w)
        → Changes tree_method inst (call.Update key row) old old (missing_move w)
    by (walk.Ready (Some value)) asks broken gives spends = Changes-asked {T = Bool} inst key row old old walk.NoMemory clean clean tt tt spends
    by (walk.Ready None) asks broken gives spends = no_row inst key row old old clean clean (λ P es read. (none_found key (find key_cmp key es) (gives P es read), refl)) spends
    by (walk.Need n) asks broken gives spends = Changes-asked {T = Bool} inst key row old old (walk.Need n) clean clean asks broken spends
    by walk.Fresh asks broken gives spends = Changes-asked {T = Bool} inst key row old old walk.Fresh clean clean asks broken spends
    by (walk.Broken n) asks broken gives spends = Changes-asked {T = Bool} inst key row old old (walk.Broken n) clean clean asks broken spends
    by walk.NoMemory asks broken gives spends = Changes-asked {T = Bool} inst key row old old walk.NoMemory clean clean tt tt spends

-- ---- another row under the same key
replaced_row : (inst : Instance) (row : Row) (code value : List ℕ) (old new : View) → dropped old ≡ old → dropped new ≡ old → MayHold tree_method inst row → IsEntryOf inst row code value
    → OverTrees old inst.root (λ P es. Replaces old new inst.root code value P es (walk.Ready true)) → Within inst (call.Update code row) old new (Keyed code) → Changes tree_method inst (call.Update code row) old new (Keyed code)
replaced_row inst row code value old new clean given may entry replaces spends =
    changes inst (call.Update code row) old new (Keyed code) given tt tt (short_key inst row code value may entry)
    (λ P part rows holds.
    let f = formed inst.root inst.schema inst.key P rows holds in
    let put_in = replaces P f.es (reads_still inst old P f.es clean part f.tree) in
    let t = tree_of inst.root inst.schema inst.key P rows part.are_pages f in
    let grown = TreeOf-grown inst.root inst.schema inst.key old P P (stored new P) f.es code value part t (row_is_entry inst row code value may entry) put_in.1 (grew_from inst.root old P (stored new P) clean part put_in.2) in
    subst (λ (o : Option Row). Updated tree_method inst code row o rows (stored new P) (Keyed code)) (sym (row_there inst P rows code f put_in.0).1)
    (got_key inst rows (Some code) (code_of inst row) (λ new. with_row (without_row rows code) new row) (stored new P) code
    (ap (is_free rows (Some code)) (sym entry.key_is) ∙ own_free inst P rows code f) entry.key_is
    (rows_from inst.root inst.schema inst.key (stored new P) (put key_cmp code value f.es) grown
    ∙ ap Some (ap rows_of (sym (put_over code value f.es (rising inst.root P f.es f.tree))) ∙ as_rows inst P rows code code value row f (value_read inst row code value may entry)))))
    spends

asked_replace : (key : Key) (w : Walk Bool) → AskedBy w (replace_move key w)
asked_replace key (walk.Ready true) = tt
asked_replace key (walk.Ready false) = tt
asked_replace key (walk.Need n) = refl
asked_replace key walk.Fresh = refl
asked_replace key (walk.Broken n) = tt
asked_replace key walk.NoMemory = tt

kept_replace : (inst : Instance) (key : Key) (old new : View) (w : Walk Bool) → (w ≡ walk.Ready false → OverTrees old inst.root (λ P es. new ≡ old)) → KeepsRefused inst old new (replace_move key w)
kept_replace inst key old new (walk.Ready true) keeps = tt
kept_replace inst key old new (walk.Ready false) keeps = keeps refl
kept_replace inst key old new (walk.Need n) keeps = tt
kept_replace inst key old new walk.Fresh keeps = tt
kept_replace inst key old new (walk.Broken n) keeps = tt
kept_replace inst key old new walk.NoMemory keeps = tt

pub Changes-replaced : (inst : Instance) (row : Row) (code value : List ℕ) (old new : View) (w : Walk Bool) → dropped old ≡ old → dropped new ≡ old → MayAsk new w → Breaks (breaks inst.root (page_of old)) w → MayHold tree_method inst row → IsEntryOf inst row code value
    → OverTrees old inst.root (λ P es. Replaces old new inst.root code value P es w) → Bounds inst (call.Update code row) old new w → Changes tree_method inst (call.Update code row) old new (replace_move code w)
Changes-replaced inst row code value old new w clean given asks broken may entry replaces b =
    by w asks broken replaces
    (within inst (call.Update code row) old new w (replace_move code w) given asks (asked_replace code w)
    (kept_replace inst code old new w (λ is P es reads. (subst (λ (v : Walk Bool). Replaces old new inst.root code value P es v) is (replaces P es reads)).1)) b)
  where
    by : (w : Walk Bool) → MayAsk new w → Breaks (breaks inst.root (page_of old)) w → OverTrees old inst.root (λ P es. Replaces old new inst.root code value P es w) → Within inst (call.Update code row) old new (replace_move code w)
        → Changes tree_method inst (call.Update code row) old new (replace_move code w)
    by (walk.Ready true) asks broken replaces spends = replaced_row inst row code value old new clean given may entry replaces spends
    by (walk.Ready false) asks broken replaces spends = no_row inst code row old new clean given replaces spends
    by (walk.Need n) asks broken replaces spends = Changes-asked {T = Bool} inst code row old new (walk.Need n) clean given asks broken spends
    by walk.Fresh asks broken replaces spends = Changes-asked {T = Bool} inst code row old new walk.Fresh clean given asks broken spends
    by (walk.Broken n) asks broken replaces spends = Changes-asked {T = Bool} inst code row old new (walk.Broken n) clean given asks broken spends
    by walk.NoMemory asks broken replaces spends = Changes-asked {T = Bool} inst code row old new walk.NoMemory clean given tt tt spends

-- ---- a row under another key: it isn't put in
duplicate : (inst : Instance) (key : Key) (row : Row) (code value : List ℕ) (old new : View) → dropped old ≡ old → dropped new ≡ old → IsEntryOf inst row code value → bytes_eq code key ≡ false
    → OverTree old inst.root (λ es. IsSome (find key_cmp key es)) → OverTrees old inst.root (λ P es. Inserts old new inst.root code value P es (walk.Ready false)) → Within inst (call.Update key row) old new Duplicate → Changes tree_method inst (call.Update key row) old new Duplicate
duplicate inst key row code value old new clean given entry other there inserts spends =
    changes inst (call.Update key row) old new Duplicate given tt tt tt
    (λ P part rows holds.
    let f = formed inst.root inst.schema inst.key P rows holds in
    let reads = reads_still inst old P f.es clean part f.tree in
    let stands = inserts P f.es reads in
    subst (λ (o : Option Row). Updated tree_method inst key row o rows (stored new P) Duplicate) (sym (row_there inst P rows key f (there P f.es reads)).1)
    (got_none inst rows (Some key) (code_of inst row) (λ new. with_row (without_row rows key) new row) (stored new P)
    (ap (is_free rows (Some key)) (sym entry.key_is) ∙ (λ i. turned code key other i || is_none (row_under inst P rows code f i)) ∙ some_under (find key_cmp code f.es) stands.0) (rows_still inst old new P rows clean part stands.1 holds)))
    spends

pub Changes-unput : (inst : Instance) (key : Key) (row : Row) (code value : List ℕ) (old new : View) (w : Walk Bool) → dropped old ≡ old → dropped new ≡ old → MayAsk new w → Breaks (breaks inst.root (page_of old)) w → IsEntryOf inst row code value → bytes_eq code key ≡ false
    → was_done w ≡ false → OverTree old inst.root (λ es. IsSome (find key_cmp key es)) → OverTrees old inst.root (λ P es. Inserts old new inst.root code value P es w) → Bounds inst (call.Update key row) old new w → Changes tree_method inst (call.Update key row) old new (put_move code w)
Changes-unput inst key row code value old new w clean given asks broken entry other undone there inserts b =
    by w asks broken undone inserts (within inst (call.Update key row) old new w (put_move code w) given asks (asked_put code w) (kept_put inst code value old new w inserts) b)
  where
    by : (w : Walk Bool) → MayAsk new w → Breaks (breaks inst.root (page_of old)) w → was_done w ≡ false → OverTrees old inst.root (λ P es. Inserts old new inst.root code value P es w) → Within inst (call.Update key row) old new (put_move code w)
        → Changes tree_method inst (call.Update key row) old new (put_move code w)
    by (walk.Ready true) asks broken undone inserts spends = absurd (true≢false undone)
    by (walk.Ready false) asks broken undone inserts spends = duplicate inst key row code value old new clean given entry other there inserts spends
    by (walk.Need n) asks broken undone inserts spends = Changes-asked {T = Bool} inst key row old new (walk.Need n) clean given asks broken spends
    by walk.Fresh asks broken undone inserts spends = Changes-asked {T = Bool} inst key row old new walk.Fresh clean given asks broken spends
    by (walk.Broken n) asks broken undone inserts spends = Changes-asked {T = Bool} inst key row old new (walk.Broken n) clean given asks broken spends
    by walk.NoMemory asks broken undone inserts spends = Changes-asked {T = Bool} inst key row old new walk.NoMemory clean given tt tt spends

pub was_there : (root : ℕ) (key : Key) (old : View) (w : Walk (Option LeafEntry)) → was_found w ≡ true → OverTree old root (λ es. Gives (λ found. option_map entry_in found ≡ entry_at key es) w) → OverTree old root (λ es. IsSome (find key_cmp key es))
was_there root key old (walk.Ready found) is gives = λ P es read. some_entry found (find key_cmp key es) is (gives P es read)
  where
    some_entry : (found : Option LeafEntry) (o : Option (List ℕ)) → is_some found ≡ true → option_map entry_in found ≡ option_map (λ value. (key, value)) o → IsSome o
    some_entry found (Some v) is same = refl
    some_entry None None is same = absurd (true≢false (sym is))
    some_entry (Some e) None is same = absurd (cc)
was_there root key old (walk.Need n) is gives = cc
was_there root key old walk.Fresh is gives = cc
was_there root key old (walk.Broken n) is gives = cc
was_there root key old walk.NoMemory is gives = cc

-- ---- it is put in, and the old one taken out
pub was_ready : (w : Walk Bool) → was_done w ≡ true → w ≡ walk.Ready true
was_ready (walk.Ready done) is = ap walk.Ready is
was_ready (walk.Need n) is = cc
was_ready walk.Fresh is = cc
was_ready (walk.Broken n) is = cc
was_ready walk.NoMemory is = cc

pub record Moves (inst : Instance) (key : Key) (code value : List ℕ) (old mid new : View) (w : Walk Bool) : Type 0 where
  pub clean : dropped old ≡ old
  pub given : dropped mid ≡ old
  pub new_given : dropped new ≡ old
  pub other : bytes_eq code key ≡ false
  pub there : OverTree old inst.root (λ es. IsSome (find key_cmp key es))
  pub inserts : OverTrees old inst.root (λ P es. Inserts old mid inst.root code value P es (walk.Ready true))
  pub cost : OverTrees old inst.root (λ P es. edits_of mid ≤ edits_of old + tree_cost (length es))
  pub asks : MayAsk new w
  pub removes : OverTrees mid inst.root (λ P es. Removes mid new inst.root key P es w)
  pub way : OnTree mid inst.root (λ P. Needs (is_on_removal_way inst.root P key) w)
  pub edits : OverTrees mid inst.root (λ P es. edits_of new < edits_of mid + 5 * digits (length es + 1))
  pub room : OverTrees mid inst.root (λ P es. AsksWithin (2 * length es) (length (tree_met inst.root (stored mid P))) mid new w)

module _ (inst : Instance) (key : Key) (row : Row) (code value : List ℕ) (old mid new : View) (may : MayHold tree_method inst row) (entry : IsEntryOf inst row code value) where
  -- the tree with both rows
  both : (w : Walk Bool) → Moves inst key code value old mid new w → (P : Pages) → HoldsPart old P → (rows : Rows) → Formed inst.root inst.schema inst.key P rows → (es : List Entry) × TreeOf inst.root inst.schema inst.key (stored mid P) es
  both w m P part rows f =
      let put_in = m.inserts P f.es (reads_still inst old P f.es m.clean part f.tree) in
      (put key_cmp code value f.es, TreeOf-grown inst.root inst.schema inst.key old P P (stored mid P) f.es code value part (tree_of inst.root inst.schema inst.key P rows part.are_pages f) (row_is_entry inst row code value may entry) put_in.1 (grew_from inst.root old P (stored mid P) m.clean part put_in.2))

  moved_row : Moves inst key code value old mid new (walk.Ready true) → Within inst (call.Update key row) old new (Keyed code) → Changes tree_method inst (call.Update key row) old new (Keyed code)
  moved_row m spends =
      changes inst (call.Update key row) old new (Keyed code) m.new_given tt tt (short_key inst row code value may entry)
      (λ P part rows holds.
      let f = formed inst.root inst.schema inst.key P rows holds in
      let reads = reads_still inst old P f.es m.clean part f.tree in
      let put_in = m.inserts P f.es reads in
      let out = m.removes P (put key_cmp code value f.es) put_in.1 in
      let grown = TreeOf-grown inst.root inst.schema inst.key old P P (stored mid P) f.es code value part (tree_of inst.root inst.schema inst.key P rows part.are_pages f) (row_is_entry inst row code value may entry) put_in.1 (grew_from inst.root old P (stored mid P) m.clean part put_in.2) in
      let shrunk = TreeOf-shrunk inst.root inst.schema inst.key mid P (stored mid P) (stored new P) (put key_cmp code value f.es) key (HoldsPart-from_dropped mid old P m.given part) grown out.1 out.2 in
      subst (λ (o : Option Row). Updated tree_method inst key row o rows (stored new P) (Keyed code)) (sym (row_there inst P rows key f (m.there P f.es reads)).1)
      (got_key inst rows (Some key) (code_of inst row) (λ new. with_row (without_row rows key) new row) (stored new P) code
      (ap (is_free rows (Some key)) (sym entry.key_is) ∙ new_free inst P rows key code f put_in.0) entry.key_is
      (rows_from inst.root inst.schema inst.key (stored new P) (entries_without key (put key_cmp code value f.es)) shrunk
      ∙ ap Some (ap rows_of (swapped key code value f.es m.other (rising inst.root P f.es f.tree)) ∙ as_rows inst P rows key code value row f (value_read inst row code value may entry)))))
      spends

  lost_row : Moves inst key code value old mid new (walk.Ready false) → Within inst (call.Update key row) old new NoRecord → Changes tree_method inst (call.Update key row) old new NoRecord
  lost_row m spends =
      changes inst (call.Update key row) old new NoRecord m.new_given tt tt tt
      (λ P part rows holds.
      let f = formed inst.root inst.schema inst.key P rows holds in
      let reads = reads_still inst old P f.es m.clean part f.tree in
      let out = m.removes P (put key_cmp code value f.es) (m.inserts P f.es reads).1 in
      absurd (stands_still key code value f.es (m.there P f.es reads) out.0))
      spends

  moved_bounds : (w : Walk Bool) → Moves inst key code value old mid new w → Bounds inst (call.Update key row) old new w
  moved_bounds w m = record {
    way = λ P part rows f. way w m P part rows f;
    fresh = λ sound P part rows f is.
        let put_in = m.inserts P f.es (reads_still inst old P f.es m.clean part f.tree) in
        let t = tree_of inst.root inst.schema inst.key P rows part.are_pages f in
        let grew = grew_from inst.root old P (stored mid P) m.clean part put_in.2 in
        let now = (both w m P part rows f).1 in
        let few = grown_few inst.root mid old P m.given sound part (λ n some. grew.to n (t.all n some)) now.all in
        let asks = subst (λ (v : Walk Bool). AsksWithin (2 * length (put key_cmp code value f.es)) (length (tree_met inst.root (stored mid P))) mid new v) is (m.room P (put key_cmp code value f.es) put_in.1) in
        omega (arith, few, asks, one_more code value f.es (rising inst.root P f.es f.tree) put_in.0);
    gets = new_gets inst key row code value old (w ≡ walk.Fresh) m.clean entry (λ is P es read. (m.inserts P es read).0);
    edits = λ sound P part rows f.
        let reads = reads_still inst old P f.es m.clean part f.tree in
        let put_in = m.inserts P f.es reads in
        let more = one_more code value f.es (rising inst.root P f.es f.tree) put_in.0 in
        let last = subst (λ n. edits_of new < edits_of mid + 5 * digits (n + 1)) more (m.edits P (put key_cmp code value f.es) put_in.1) in
        omega (arith, clean_edits old m.clean sound, m.cost P f.es reads, last, digits_next (length f.es + 1));
  }
    where
      way : (w : Walk Bool) → Moves inst key code value old mid new w → (P : Pages) → HoldsPart old P → (rows : Rows) → Formed inst.root inst.schema inst.key P rows → Needs (is_on_call_path inst P (call.Update key row)) w
      way (walk.Ready end) m P part rows f = tt
      way (walk.Need n) m P part rows f =
          let put_in = m.inserts P f.es (reads_still inst old P f.es m.clean part f.tree) in
          let met = removal_ways_met (stored mid P) inst.root (put key_cmp code value f.es) put_in.1 key n (m.way P (put key_cmp code value f.es) put_in.1) in
          elim ((grew_from inst.root old P (stored mid P) m.clean part put_in.2).from n met) [
            | inl before ↦ before
            | inr free ↦
                let held : IsSome (page_of old n) = ap is_some (ap (option_map (λ (h : HeldPage). h.now)) free) in
                absurd (true≢false (sym (held_still old new n (m.new_given ∙ sym m.clean) held) ∙ ap is_some m.asks))
          ]
      way walk.Fresh m P part rows f = tt
      way (walk.Broken n) m P part rows f = tt
      way walk.NoMemory m P part rows f = tt

  pub Changes-moved : (w : Walk Bool) → was_broken w ≡ false → Moves inst key code value old mid new w → Changes tree_method inst (call.Update key row) old new (replace_move code w)
  Changes-moved w whole m = by w whole m (within inst (call.Update key row) old new w (replace_move code w) m.new_given m.asks (asked_replace code w) (kept_replace inst code old new w (lost w m)) (moved_bounds w m))
    where
      lost : (w : Walk Bool) → Moves inst key code value old mid new w → w ≡ walk.Ready false → OverTrees old inst.root (λ P es. new ≡ old)
      lost w m is P es reads =
          let put_in = (m.inserts P es reads).1 in
          let out = subst (λ (v : Walk Bool). Removes mid new inst.root key P (put key_cmp code value es) v) is (m.removes P (put key_cmp code value es) put_in) in
          absurd (stands_still key code value es (m.there P es reads) out.0)

      by : (w : Walk Bool) → was_broken w ≡ false → Moves inst key code value old mid new w → Within inst (call.Update key row) old new (replace_move code w) → Changes tree_method inst (call.Update key row) old new (replace_move code w)
      by (walk.Ready true) whole m spends = moved_row m spends
      by (walk.Ready false) whole m spends = lost_row m spends
      by (walk.Need n) whole m spends = Changes-asked {T = Bool} inst key row old new (walk.Need n) m.clean m.new_given m.asks tt spends
      by walk.Fresh whole m spends = Changes-asked {T = Bool} inst key row old new walk.Fresh m.clean m.new_given m.asks tt spends
      by (walk.Broken n) whole m spends = absurd (true≢false whole)
      by walk.NoMemory whole m spends = Changes-asked {T = Bool} inst key row old new walk.NoMemory m.clean m.new_given tt tt spends

-- ---- a removal that stops at a broken page, from the pages as they were given
pub record Removal (inst : Instance) (key : Key) (start new : View) (w : Walk Bool) : Type 0 where
  pub given : dropped new ≡ dropped start
  pub asks : MayAsk new w
  pub broken : Breaks (breaks inst.root (page_of start)) w
  pub way : OnTree start inst.root (λ P. Needs (is_on_removal_way inst.root P key) w)
  pub edits : OverTrees start inst.root (λ P es. edits_of new < edits_of start + 5 * digits (length es + 1))
  pub room : OverTrees start inst.root (λ P es. AsksWithin (2 * length es) (length (tree_met inst.root (stored start P))) start new w)

asked_question : (w : Walk Bool) → AskedBy w (question_of w)
asked_question (walk.Ready end) = tt
asked_question (walk.Need n) = refl
asked_question walk.Fresh = refl
asked_question (walk.Broken n) = tt
asked_question walk.NoMemory = tt

kept_question : (inst : Instance) (old new : View) (w : Walk Bool) → KeepsRefused inst old new (question_of w)
kept_question inst old new (walk.Ready end) = tt
kept_question inst old new (walk.Need n) = tt
kept_question inst old new walk.Fresh = tt
kept_question inst old new (walk.Broken n) = tt
kept_question inst old new walk.NoMemory = tt

pub Changes-alone : (inst : Instance) (key : Key) (row : Row) (old start new : View) (w : Walk Bool) → dropped old ≡ old → start ≡ old → Removal inst key start new w → GetsWhere inst (call.Update key row) old (w ≡ walk.Fresh) → Changes tree_method inst (call.Update key row) old new (question_of w)
Changes-alone inst key row old start new w clean same made gets = by (subst (λ (v : View). Removal inst key v new w) same made)
  where
    by : Removal inst key old new w → Changes tree_method inst (call.Update key row) old new (question_of w)
    by r =
        let given = r.given ∙ clean in
        Changes-asked {T = Bool} inst key row old new w clean given r.asks r.broken
        (within inst (call.Update key row) old new w (question_of w) given r.asks (asked_question w) (kept_question inst old new w)
        (tree_bounds inst (call.Update key row) old new w (λ P. is_on_removal_way inst.root P key) tree_cost clean (λ P es read n is. removal_ways_met P inst.root es read key n is) (λ n. omega arith) r.way
        (λ P es read. let few = r.edits P es read in omega (arith, few)) r.room gets))
