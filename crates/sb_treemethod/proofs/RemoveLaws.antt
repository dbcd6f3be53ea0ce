-- What is answered when a row is taken out.
use Rattle.std.proofs.Common.{◌≡◌, ℕ, Bool, true, false, List, Option, Some, None, IsSome, option_map, refl, ap, sym, ◌∙◌, subst, true≢false}
use Rattle.std.specs.FinMap.Entries.{find}
use Rattle.sb_relation.specs.Db.{Key, Row, Rows, row_at, without_row}
use Rattle.sb_node.specs.Entries.{key_cmp}
use Rattle.sb_forms.specs.Pages.{Pages}
use Rattle.sb_forms.specs.Stored.{row_in}
use Rattle.sb_forms.specs.TreePages.{tree_rows}
use Rattle.sb_ctx.specs.declared.instance.Instance.{Instance}
use Rattle.sb_ctx.specs.declared.calls.MethodCall.TheVariants as call
use Rattle.sb_ctx.specs.declared.moves.Move.TheVariants.{Done, NoRecord}
use Rattle.sb_ctx.specs.View.{View, page_of, dropped, HoldsPart, stored}
use Rattle.sb_ctx.proofs.ViewLaws.{stored-clean}
use Rattle.sb_ctx.specs.MethodAnswers.{Changes, Deleted}
use Rattle.sb_btree.specs.Broken.{breaks}
use Rattle.sb_btree.specs.Inserts.{MayAsk, OverTrees}
use Rattle.sb_btree.specs.Removes.{Removes, Shrank, entries_without}
use Rattle.sb_btree.specs.Walks.{Breaks}
use Rattle.sb_btree.specs.declared.walk.Walk.{Walk}
use Rattle.sb_btree.specs.declared.walk.Walk.TheVariants as walk
use Rattle.sb_treemethod.specs.TreeMethod.{tree_method}
use Rattle.sb_treemethod.specs.Answered.{remove_move}
use Rattle.sb_treemethod.proofs.RowsOf.{without_row-rows_of}
use Rattle.sb_treemethod.proofs.TreeRows.{Formed, formed, tree_of, rows_from}
use Rattle.sb_treemethod.proofs.Changing.{TreeOf-shrunk}
use Rattle.sb_treemethod.proofs.MethodLaws.{changes, Changes-question}
use Rattle.sb_treemethod.proofs.Within.{AskedBy, Bounds, KeepsRefused, Within, reads_still, within}
use Rattle.sb_treemethod.proofs.PutLaws.{holds_still, row_under}

-- ---- the row of a key
is_row : (o : Option (List ℕ)) → IsSome o → (value : List ℕ) × (o ≡ Some value)
is_row None is = absurd (true≢false (sym is))
is_row (Some value) is = (value, refl)

pub row_there : (inst : Instance) (P : Pages) (rows : Rows) (key : Key) → (f : Formed inst.root inst.schema inst.key P rows) → IsSome (find key_cmp key f.es) → (row : Row) × (row_at rows key ≡ Some row)
row_there inst P rows key f is =
    let v = is_row (find key_cmp key f.es) is in
    (row_in v.0, row_under inst P rows key f ∙ ap (option_map row_in) v.1)

pub none_there : (inst : Instance) (P : Pages) (rows : Rows) (key : Key) → (f : Formed inst.root inst.schema inst.key P rows) → find key_cmp key f.es ≡ None → row_at rows key ≡ None
none_there inst P rows key f is = row_under inst P rows key f ∙ ap (option_map row_in) is

pub shrank_from : (root : ℕ) (old : View) (P Q : Pages) → dropped old ≡ old → HoldsPart old P → Shrank old root (stored old P) Q → Shrank old root P Q
shrank_from root old P Q clean part shrank = subst (λ (R : Pages). Shrank old root R Q) (stored-clean old P clean part) shrank

pub rows_still : (inst : Instance) (old new : View) (P : Pages) (rows : Rows) → dropped old ≡ old → HoldsPart old P → new ≡ old → tree_rows inst.root inst.schema inst.key P ≡ Some rows → tree_rows inst.root inst.schema inst.key (stored new P) ≡ Some rows
rows_still inst old new P rows clean part same holds = ap (λ (v : View). tree_rows inst.root inst.schema inst.key (stored v P)) same ∙ holds_still inst old P rows clean part holds

-- ---- a row is taken out
Changes-deleted : (inst : Instance) (key : Key) (old new : View) → dropped old ≡ old → dropped new ≡ old → OverTrees old inst.root (λ P es. Removes old new inst.root key P es (walk.Ready true)) → Within inst (call.Delete key) old new Done → Changes tree_method inst (call.Delete key) old new Done
Changes-deleted inst key old new clean given removes spends =
    changes inst (call.Delete key) old new Done given tt tt tt
    (λ P part rows holds.
    let f = formed inst.root inst.schema inst.key P rows holds in
    let out = removes P f.es (reads_still inst old P f.es clean part f.tree) in
    let shrunk = TreeOf-shrunk inst.root inst.schema inst.key old P P (stored new P) f.es key part (tree_of inst.root inst.schema inst.key P rows part.are_pages f) out.1 (shrank_from inst.root old P (stored new P) clean part out.2) in
    subst (λ (o : Option Row). Deleted tree_method inst key o rows (stored new P) Done) (sym (row_there inst P rows key f out.0).1)
    (rows_from inst.root inst.schema inst.key (stored new P) (entries_without key f.es) shrunk ∙ ap Some (sym (without_row-rows_of key f.es) ∙ ap (λ (l : Rows). without_row l key) (sym f.same))))
    spends

Changes-none : (inst : Instance) (key : Key) (old new : View) → dropped old ≡ old → dropped new ≡ old → OverTrees old inst.root (λ P es. Removes old new inst.root key P es (walk.Ready false)) → Within inst (call.Delete key) old new NoRecord → Changes tree_method inst (call.Delete key) old new NoRecord
Changes-none inst key old new clean given removes spends =
    changes inst (call.Delete key) old new NoRecord given tt tt tt
    (λ P part rows holds.
    let f = formed inst.root inst.schema inst.key P rows holds in
    let none = removes P f.es (reads_still inst old P f.es clean part f.tree) in
    subst (λ (o : Option Row). Deleted tree_method inst key o rows (stored new P) NoRecord) (sym (none_there inst P rows key f none.0)) (rows_still inst old new P rows clean part none.1 holds))
    spends

asked_remove : (w : Walk Bool) → AskedBy w (remove_move w)
asked_remove (walk.Ready true) = tt
asked_remove (walk.Ready false) = tt
asked_remove (walk.Need n) = refl
asked_remove walk.Fresh = refl
asked_remove (walk.Broken n) = tt
asked_remove walk.NoMemory = tt

kept_remove : (inst : Instance) (key : Key) (old new : View) (w : Walk Bool) → OverTrees old inst.root (λ P es. Removes old new inst.root key P es w) → KeepsRefused inst old new (remove_move w)
kept_remove inst key old new (walk.Ready true) removes = tt
kept_remove inst key old new (walk.Ready false) removes = λ P es reads. (removes P es reads).1
kept_remove inst key old new (walk.Need n) removes = tt
kept_remove inst key old new walk.Fresh removes = tt
kept_remove inst key old new (walk.Broken n) removes = tt
kept_remove inst key old new walk.NoMemory removes = tt

pub Changes-removed : (inst : Instance) (key : Key) (old new : View) (w : Walk Bool) → dropped old ≡ old → dropped new ≡ old → MayAsk new w → Breaks (breaks inst.root (page_of old)) w
    → OverTrees old inst.root (λ P es. Removes old new inst.root key P es w) → Bounds inst (call.Delete key) old new w → Changes tree_method inst (call.Delete key) old new (remove_move w)
Changes-removed inst key old new w clean given asks broken removes b = by w asks broken removes (within inst (call.Delete key) old new w (remove_move w) given asks (asked_remove w) (kept_remove inst key old new w removes) b)
  where
    by : (w : Walk Bool) → MayAsk new w → Breaks (breaks inst.root (page_of old)) w → OverTrees old inst.root (λ P es. Removes old new inst.root key P es w) → Within inst (call.Delete key) old new (remove_move w) → Changes tree_method inst (call.Delete key) old new (remove_move w)
    by (walk.Ready true) asks broken removes spends = Changes-deleted inst key old new clean given removes spends
    by (walk.Ready false) asks broken removes spends = Changes-none inst key old new clean given removes spends
    by (walk.Need n) asks broken removes spends = Changes-question {T = Bool} inst (call.Delete key) old new (walk.Need n) tt clean given asks broken spends
    by walk.Fresh asks broken removes spends = Changes-question {T = Bool} inst (call.Delete key) old new walk.Fresh tt clean given asks broken spends
    by (walk.Broken n) asks broken removes spends = Changes-question {T = Bool} inst (call.Delete key) old new (walk.Broken n) (λ P part. tt) clean given asks broken spends
    by walk.NoMemory asks broken removes spends = Changes-question {T = Bool} inst (call.Delete key) old new walk.NoMemory tt clean given asks broken spends
