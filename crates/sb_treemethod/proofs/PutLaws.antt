-- What is answered when a row is added, and when an instance is made.
use Rattle.std.proofs.Common.{◌≡◌, ◌≢◌, ℕ, ◌+◌, ◌*◌, ◌<◌, ◌≤◌, nat_lt, length, Bool, true, false, cond, not, ◌&&◌, List, [], Option, Some, None, IsSome, is_some, option_map, is_none, refl, ap, sym, ◌∙◌, subst, arith, true≢false, eq-eqb}
use Rattle.std.specs.List.{list_all}
use Rattle.std.specs.FinMap.Entries.{find, put}
use Rattle.std.proofs.lemmas.Bool.{ltb-true, ltb-false, or_from, le-leb}
use Rattle.sb_relation.specs.Db.{Key, Row, Rows, row_at, with_row}
use Rattle.sb_relation.specs.Keys.{NewKeys, Just, Taken, Coded, is_free, new_keys, is_record_key}
use Rattle.sb_ctx.specs.Costs.{tree_cost}
use Rattle.sb_node.specs.Entries.{Entry, key_cmp}
use Rattle.sb_node.specs.Page.{node_of}
use Rattle.sb_forms.specs.Pages.{Pages, ArePages, new_pages, zeros}
use Rattle.sb_forms.specs.Read.{read_tree}
use Rattle.sb_forms.specs.Stored.{row_in}
use Rattle.sb_forms.specs.Tree.{entries_of}
use Rattle.sb_forms.specs.TreePages.{is_row_entry, tree_rows}
use Rattle.sb_ctx.specs.declared.instance.Instance.{Instance}
use Rattle.sb_ctx.specs.declared.calls.MethodCall.{MethodCall}
use Rattle.sb_ctx.specs.declared.calls.MethodCall.TheVariants as call
use Rattle.sb_ctx.specs.declared.moves.Move.TheVariants.{Done, Duplicate, Key as Keyed}
use Rattle.sb_ctx.specs.View.{View, HeldPages, AreSomeOf, page_of, room_of, dropped, edits_of, HoldsPart, stored}
use Rattle.sb_ctx.proofs.ViewLaws.{given-page, stored-clean, stored-same, stored-other, room_of-page}
use Rattle.sb_ctx.specs.Laws.{IsMethod, operations_of}
use Rattle.sb_ctx.specs.Method.{code_of, MayHold}
use Rattle.sb_ctx.specs.MethodAnswers.{Changes, Gets, HasRoom, IsGiven, IsOnPath, TakesFor, cost_of, most_pages}
use Rattle.sb_btree.specs.Broken.{breaks, held_node}
use Rattle.sb_btree.specs.Inserts.{Inserts, MayAsk, OverTrees, Grew}
use Rattle.sb_btree.specs.Leaves.{leads_to}
use Rattle.sb_btree.specs.Prepared.{IsPrepared, Prepares}
use Rattle.sb_btree.specs.Walks.{Breaks}
use Rattle.sb_btree.specs.declared.walk.Walk.{Walk}
use Rattle.sb_btree.specs.declared.walk.Walk.TheVariants as walk
use Rattle.sb_btree.proofs.Edits.{held_still}
use Rattle.sb_btree.proofs.Leaves.{leaves_are_whole}
use Rattle.sb_btree.proofs.PageCounts.{pages_few}
use Rattle.sb_btree.proofs.Spending.{trees_are_small}
use Rattle.sb_btree.proofs.Whole.{trees_are_whole}
use Rattle.sb_treemethod.specs.TreeMethod.{tree_method, call_cost, has_stray, IsEntryOf}
use Rattle.sb_treemethod.specs.Answered.{prepare_move, put_move}
use Rattle.sb_forms.proofs.Spelled.{row_in-spelling}
use Rattle.sb_treemethod.proofs.Entries.{entry_of_row}
use Rattle.sb_treemethod.proofs.RowsOf.{row_at-rows_of, with_row-rows_of}
use Rattle.sb_treemethod.proofs.TreeRows.{Formed, formed, tree_of, rows_from, are_rows, rooted}
use Rattle.sb_treemethod.proofs.Changing.{TreeOf-grown, TreeOf-prepared}
use Rattle.sb_treemethod.proofs.Counted.{clean_edits, sound_dropped}
use Rattle.sb_treemethod.proofs.MethodLaws.{changes, Changes-question}
use Rattle.sb_treemethod.proofs.Within.{AskedBy, Bounds, GetsWhere, KeepsRefused, Within, as_many, reads_still, within}

-- ---- the law of the box
no_stray : (inst : Instance) (P : Pages) (es : List Entry) → read_tree inst.root P ≡ Some es → list_all (is_row_entry inst.schema inst.key) es ≡ true → (held : HeldPages) (n : ℕ) → AreSomeOf held P → has_stray inst held n ≡ false
no_stray inst P es read all held n some =
    elim (leads_to inst.root held n) as (λ b. leads_to inst.root held n ≡ b → (b && not (list_all (is_row_entry inst.schema inst.key) (entries_of (held_node (held n))))) ≡ false) [
      | true ↦ λ led. ap not (leaves_are_whole P inst.root es read (is_row_entry inst.schema inst.key) all held n some led)
      | false ↦ λ off. refl
    ] refl

call_cost-most : (c : MethodCall) (rows : ℕ) → call_cost c rows ≤ operations_of c * tree_cost rows
call_cost-most call.Prepare rows = omega arith
call_cost-most (call.Insert row) rows = omega arith
call_cost-most (call.Delete key) rows = omega arith
call_cost-most (call.Update key row) rows = omega arith
call_cost-most (call.Get key) rows = omega arith
call_cost-most (call.Next low) rows = omega arith

pub IsMethod-tree_method : IsMethod tree_method
IsMethod-tree_method = record {
  heap = λ is. cc;
  tree = λ is. record { durable = refl; rows = λ inst P. refl; cost = λ c rows. call_cost-most c (length rows) };
  standard = λ ours. record { bound = λ rows. omega arith; prepares = λ rows. omega arith };
  formed = λ inst P rows holds.
      let f = formed inst.root inst.schema inst.key P rows holds in
      record {
        lawful = are_rows inst.root inst.schema inst.key P rows f;
        root = rooted inst.root P f.es f.tree;
        bound = λ pages.
            let t = tree_of inst.root inst.schema inst.key P rows pages f in
            omega (arith, pages_few inst.root P t.all, trees_are_small P inst.root f.es f.tree, as_many inst.root inst P rows f);
        whole = λ held n some. or_from (breaks inst.root held n) (has_stray inst held n) (trees_are_whole P inst.root f.es f.tree held n some) (no_stray inst P f.es f.tree f.entries held n some);
      };
}

-- ---- rows that have a key, or none
pub holds_still : (inst : Instance) (old : View) (P : Pages) (rows : Rows) → dropped old ≡ old → HoldsPart old P → tree_rows inst.root inst.schema inst.key P ≡ Some rows → tree_rows inst.root inst.schema inst.key (stored old P) ≡ Some rows
holds_still inst old P rows clean part holds = ap (tree_rows inst.root inst.schema inst.key) (stored-clean old P clean part) ∙ holds

pub got_key : (inst : Instance) (rows : Rows) (own : Option Key) (code : Key) (with_key : Key → Rows) (after : Pages) (key : Key) → is_free rows own code ≡ true → key ≡ code
    → tree_rows inst.root inst.schema inst.key after ≡ Some (with_key key) → Gets tree_method inst (new_keys Coded rows own code) rows with_key after (Keyed key)
got_key inst rows own code with_key after key free is holds = subst (λ (n : NewKeys). Gets tree_method inst n rows with_key after (Keyed key)) (sym (ap (λ b. cond b (Just code) Taken) free)) (is, holds)

pub given_key : (rows : Rows) (own : Option Key) (code : Key) → is_free rows own code ≡ true → IsGiven (new_keys Coded rows own code)
given_key rows own code free = subst (λ (n : NewKeys). IsGiven n) (sym (ap (λ b. cond b (Just code) Taken) free)) tt

pub got_none : (inst : Instance) (rows : Rows) (own : Option Key) (code : Key) (with_key : Key → Rows) (after : Pages) → is_free rows own code ≡ false
    → tree_rows inst.root inst.schema inst.key after ≡ Some rows → Gets tree_method inst (new_keys Coded rows own code) rows with_key after Duplicate
got_none inst rows own code with_key after taken holds = subst (λ (n : NewKeys). Gets tree_method inst n rows with_key after Duplicate) (sym (ap (λ b. cond b (Just code) Taken) taken)) holds

pub row_under : (inst : Instance) (P : Pages) (rows : Rows) (key : Key) → (f : Formed inst.root inst.schema inst.key P rows) → row_at rows key ≡ option_map row_in (find key_cmp key f.es)
row_under inst P rows key f = ap (λ (l : Rows). row_at l key) f.same ∙ row_at-rows_of key f.es

pub none_under : (o : Option (List ℕ)) → o ≡ None → is_none (option_map row_in o) ≡ true
none_under o is = ap (λ (p : Option (List ℕ)). is_none (option_map row_in p)) is

pub some_under : (o : Option (List ℕ)) → IsSome o → is_none (option_map row_in o) ≡ false
some_under None is = absurd (true≢false (sym is))
some_under (Some value) is = refl

-- ---- the entry of a row that the relation may hold
pub short_key : (inst : Instance) (row : Row) (key value : List ℕ) → MayHold tree_method inst row → IsEntryOf inst row key value → is_record_key key ≡ true
short_key inst row key value may entry = ap is_record_key entry.key_is ∙ le-leb (length (code_of inst row)) 200 (ltb-false 200 (length (code_of inst row)) (may.code refl))

pub row_is_entry : (inst : Instance) (row : Row) (key value : List ℕ) → MayHold tree_method inst row → IsEntryOf inst row key value → is_row_entry inst.schema inst.key (key, value) ≡ true
row_is_entry inst row key value may entry = entry_of_row inst.schema inst.key row (key, value) may.is_row entry.key_is entry.value_is (short_key inst row key value may entry)

pub value_read : (inst : Instance) (row : Row) (key value : List ℕ) → MayHold tree_method inst row → IsEntryOf inst row key value → row_in value ≡ row
value_read inst row key value may entry = ap row_in entry.value_is ∙ row_in-spelling row may.is_row.tuple

-- ---- a row that is added
pub grew_from : (root : ℕ) (old : View) (P Q : Pages) → dropped old ≡ old → HoldsPart old P → Grew old root (stored old P) Q → Grew old root P Q
grew_from root old P Q clean part grew = subst (λ (R : Pages). Grew old root R Q) (stored-clean old P clean part) grew

-- no row has the key that stands in no entry
none_has : (inst : Instance) (row : Row) (code value : List ℕ) (P : Pages) (rows : Rows) → IsEntryOf inst row code value → (f : Formed inst.root inst.schema inst.key P rows) → find key_cmp code f.es ≡ None → is_free rows None (code_of inst row) ≡ true
none_has inst row code value P rows entry f none = ap (λ k. is_none (row_at rows k)) (sym entry.key_is) ∙ ap is_none (row_under inst P rows code f) ∙ none_under (find key_cmp code f.es) none

-- a fresh page is asked for only where the row gets a key
pub put_gets : (inst : Instance) (row : Row) (code value : List ℕ) (old new : View) (w : Walk Bool) → dropped old ≡ old → IsEntryOf inst row code value → OverTrees old inst.root (λ P es. Inserts old new inst.root code value P es w) → GetsWhere inst (call.Insert row) old (w ≡ walk.Fresh)
put_gets inst row code value old new w clean entry inserts P part rows f is =
    given_key rows None (code_of inst row)
    (none_has inst row code value P rows entry f (subst (λ (v : Walk Bool). Inserts old new inst.root code value P f.es v) is (inserts P f.es (reads_still inst old P f.es clean part f.tree))))

Changes-inserted : (inst : Instance) (row : Row) (code value : List ℕ) (old new : View) → dropped old ≡ old → dropped new ≡ old → MayHold tree_method inst row → IsEntryOf inst row code value
    → OverTrees old inst.root (λ P es. Inserts old new inst.root code value P es (walk.Ready true)) → Within inst (call.Insert row) old new (Keyed code) → Changes tree_method inst (call.Insert row) old new (Keyed code)
Changes-inserted inst row code value old new clean given may entry inserts spends =
    changes inst (call.Insert row) old new (Keyed code) given tt tt (short_key inst row code value may entry)
    (λ P part rows holds.
    let f = formed inst.root inst.schema inst.key P rows holds in
    let put_in = inserts P f.es (reads_still inst old P f.es clean part f.tree) in
    let t = tree_of inst.root inst.schema inst.key P rows part.are_pages f in
    let grown = TreeOf-grown inst.root inst.schema inst.key old P P (stored new P) f.es code value part t (row_is_entry inst row code value may entry) put_in.1 (grew_from inst.root old P (stored new P) clean part put_in.2) in
    got_key inst rows None (code_of inst row) (λ k. with_row rows k row) (stored new P) code
    (none_has inst row code value P rows entry f put_in.0) entry.key_is
    (rows_from inst.root inst.schema inst.key (stored new P) (put key_cmp code value f.es) grown
    ∙ ap Some (sym (with_row-rows_of code value f.es) ∙ (λ i. with_row (sym f.same i) code (value_read inst row code value may entry i)))))
    spends

Changes-duplicate : (inst : Instance) (row : Row) (code value : List ℕ) (old new : View) → dropped old ≡ old → dropped new ≡ old → IsEntryOf inst row code value
    → OverTrees old inst.root (λ P es. Inserts old new inst.root code value P es (walk.Ready false)) → Within inst (call.Insert row) old new Duplicate → Changes tree_method inst (call.Insert row) old new Duplicate
Changes-duplicate inst row code value old new clean given entry inserts spends =
    changes inst (call.Insert row) old new Duplicate given tt tt tt
    (λ P part rows holds.
    let f = formed inst.root inst.schema inst.key P rows holds in
    let stands = inserts P f.es (reads_still inst old P f.es clean part f.tree) in
    got_none inst rows None (code_of inst row) (λ k. with_row rows k row) (stored new P)
    (ap (λ k. is_none (row_at rows k)) (sym entry.key_is) ∙ ap is_none (row_under inst P rows code f) ∙ some_under (find key_cmp code f.es) stands.0)
    (ap (λ (v : View). tree_rows inst.root inst.schema inst.key (stored v P)) stands.1 ∙ holds_still inst old P rows clean part holds))
    spends

pub asked_put : (code : Key) (w : Walk Bool) → AskedBy w (put_move code w)
asked_put code (walk.Ready true) = tt
asked_put code (walk.Ready false) = tt
asked_put code (walk.Need n) = refl
asked_put code walk.Fresh = refl
asked_put code (walk.Broken n) = tt
asked_put code walk.NoMemory = tt

pub kept_put : (inst : Instance) (code value : List ℕ) (old new : View) (w : Walk Bool) → OverTrees old inst.root (λ P es. Inserts old new inst.root code value P es w) → KeepsRefused inst old new (put_move code w)
kept_put inst code value old new (walk.Ready true) inserts = tt
kept_put inst code value old new (walk.Ready false) inserts = λ P es reads. (inserts P es reads).1
kept_put inst code value old new (walk.Need n) inserts = tt
kept_put inst code value old new walk.Fresh inserts = tt
kept_put inst code value old new (walk.Broken n) inserts = tt
kept_put inst code value old new walk.NoMemory inserts = tt

pub Changes-put : (inst : Instance) (row : Row) (code value : List ℕ) (old new : View) (w : Walk Bool) → dropped old ≡ old → dropped new ≡ old → MayAsk new w → Breaks (breaks inst.root (page_of old)) w
    → OverTrees old inst.root (λ P es. Inserts old new inst.root code value P es w) → MayHold tree_method inst row → IsEntryOf inst row code value → Bounds inst (call.Insert row) old new w → Changes tree_method inst (call.Insert row) old new (put_move code w)
Changes-put inst row code value old new w clean given asks broken inserts may entry b = by w asks broken inserts (within inst (call.Insert row) old new w (put_move code w) given asks (asked_put code w) (kept_put inst code value old new w inserts) b)
  where
    by : (w : Walk Bool) → MayAsk new w → Breaks (breaks inst.root (page_of old)) w → OverTrees old inst.root (λ P es. Inserts old new inst.root code value P es w) → Within inst (call.Insert row) old new (put_move code w)
        → Changes tree_method inst (call.Insert row) old new (put_move code w)
    by (walk.Ready true) asks broken inserts spends = Changes-inserted inst row code value old new clean given may entry inserts spends
    by (walk.Ready false) asks broken inserts spends = Changes-duplicate inst row code value old new clean given entry inserts spends
    by (walk.Need n) asks broken inserts spends = Changes-question {T = Bool} inst (call.Insert row) old new (walk.Need n) tt clean given asks broken spends
    by walk.Fresh asks broken inserts spends = Changes-question {T = Bool} inst (call.Insert row) old new walk.Fresh tt clean given asks broken spends
    by (walk.Broken n) asks broken inserts spends = Changes-question {T = Bool} inst (call.Insert row) old new (walk.Broken n) (λ P part. tt) clean given asks broken spends
    by walk.NoMemory asks broken inserts spends = Changes-question {T = Bool} inst (call.Insert row) old new walk.NoMemory tt clean given asks broken spends

-- ---- an instance is made
new_root : (root : ℕ) (P : Pages) → ((n : ℕ) → P n ≡ new_pages root n) → P root ≡ zeros
new_root root P new = new root ∙ ap (λ b. cond b zeros []) (eq-eqb root root refl)

long_zeros : length zeros ≡ 4096
unfolding zeros
long_zeros = refl

low_root : (root : ℕ) (P : Pages) → ArePages P → P root ≡ zeros → root < 65536
low_root root P are is = by (nat_lt root 65536) refl
  where
    by : (b : Bool) → nat_lt root 65536 ≡ b → root < 65536
    by true e = ltb-true root 65536 e
    by false e = absurd (none (ap length (sym (are.below root (ltb-false root 65536 e)) ∙ is) ∙ long_zeros))
      where
        none : ◌≡◌ {A = ℕ} 0 4096 → ⊥
        none e = cc

Changes-made : (inst : Instance) (old new : View) → dropped old ≡ old → dropped new ≡ old → IsPrepared old new inst.root → Within inst call.Prepare old new Done → Changes tree_method inst call.Prepare old new Done
Changes-made inst old new clean given made spends =
    changes inst call.Prepare old new Done given tt tt tt
    (λ P part is_new.
    let there = ap is_some made.held in
    let at_root : stored new P inst.root ≡ made.leaf = ap (λ (v : View). stored v P inst.root) made.changed ∙ stored-same old P inst.root made.leaf there in
    rows_from inst.root inst.schema inst.key (stored new P) []
    (TreeOf-prepared inst.root inst.schema inst.key P (stored new P) (low_root inst.root P part.are_pages (new_root inst.root P is_new)) is_new (ap node_of at_root ∙ made.node_is)
    (λ n other. ap (λ (v : View). stored v P n) made.changed ∙ stored-other old P inst.root n made.leaf other ∙ ap (λ (Q : Pages). Q n) (stored-clean old P clean part))))
    spends

is_none_new : (inst : Instance) (old : View) (P : Pages) → dropped old ≡ old → HoldsPart old P → IsSome (page_of old inst.root) → room_of old inst.root ≢ 4096 → ((n : ℕ) → P n ≡ new_pages inst.root n) → ⊥
is_none_new inst old P clean part there other is_new = by (page_of old inst.root) refl there
  where
    by : (o : Option (List ℕ)) → page_of old inst.root ≡ o → IsSome o → ⊥
    by None is some = true≢false (sym some)
    by (Some bytes) is some =
        other (room_of-page old inst.root bytes is ∙ ap length (sym (given-page old P inst.root bytes clean part is) ∙ new_root inst.root P is_new) ∙ long_zeros)

-- a new tree is one page
made_within : (inst : Instance) (old new : View) (w : Walk (Unit {0})) → dropped old ≡ old → dropped new ≡ old → Prepares old new inst.root w → edits_of new ≤ edits_of old + 1 → Within inst call.Prepare old new (prepare_move w)
made_within inst old new w clean given is few ctx P part rows before = record {
  path = path w is;
  room = room w is;
  gets = gets w;
  edits = edits w (omega (arith, few, clean_edits old clean (sound_dropped new old given ctx.sound)));
}
  where
    path : (w : Walk (Unit {0})) → Prepares old new inst.root w → IsOnPath tree_method inst call.Prepare P (prepare_move w)
    path (walk.Ready end) is = tt
    path (walk.Need n) is = eq-eqb n inst.root is.0
    path walk.Fresh is = tt
    path (walk.Broken n) is = tt
    path walk.NoMemory is = tt

    room : (w : Walk (Unit {0})) → Prepares old new inst.root w → HasRoom (most_pages tree_method call.Prepare (length rows)) P new (prepare_move w)
    room (walk.Ready end) is = tt
    room (walk.Need n) is = tt
    room walk.Fresh is = absurd is
    room (walk.Broken n) is = tt
    room walk.NoMemory is = tt

    gets : (w : Walk (Unit {0})) → TakesFor tree_method inst call.Prepare rows (prepare_move w)
    gets (walk.Ready end) = tt
    gets (walk.Need n) = tt
    gets walk.Fresh = tt
    gets (walk.Broken n) = tt
    gets walk.NoMemory = tt

    edits : (w : Walk (Unit {0})) → edits_of new ≤ 1 → edits_of new ≤ cost_of tree_method call.Prepare rows (prepare_move w)
    edits (walk.Ready end) few = few
    edits (walk.Need n) few = few
    edits walk.Fresh few = few
    edits (walk.Broken n) few = few
    edits walk.NoMemory few = few

pub Changes-prepared : (inst : Instance) (old new : View) (w : Walk (Unit {0})) → dropped old ≡ old → dropped new ≡ old → MayAsk new w → Breaks (breaks inst.root (page_of old)) w → Prepares old new inst.root w → edits_of new ≤ edits_of old + 1
    → Changes tree_method inst call.Prepare old new (prepare_move w)
Changes-prepared inst old new w clean given asks broken is few = by w asks broken is (made_within inst old new w clean given is few)
  where
    by : (w : Walk (Unit {0})) → MayAsk new w → Breaks (breaks inst.root (page_of old)) w → Prepares old new inst.root w → Within inst call.Prepare old new (prepare_move w) → Changes tree_method inst call.Prepare old new (prepare_move w)
    by (walk.Ready end) asks broken is spends = Changes-made inst old new clean given is spends
    by (walk.Need n) asks broken is spends = Changes-question {T = Unit {0}} inst call.Prepare old new (walk.Need n) tt clean given asks broken spends
    by walk.Fresh asks broken is spends = absurd is
    by (walk.Broken n) asks broken is spends =
        let there = held_still new old n (clean ∙ sym given) asks in
        Changes-question {T = Unit {0}} inst call.Prepare old new (walk.Broken n) (λ P part. is_none_new inst old P clean part (subst (λ m. IsSome (page_of old m)) is.0 there) is.1) clean given asks broken spends
    by walk.NoMemory asks broken is spends = Changes-question {T = Unit {0}} inst call.Prepare old new walk.NoMemory tt clean given asks broken spends
