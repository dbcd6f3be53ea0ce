use Rattle.std.proofs.Common.{◌≡◌, ℕ, Bool, true, false, List, Some, IsSome, option_map, sym, subst, ◌∙◌, arith}
use Rattle.std.specs.FinMap.Entries.{find}
use Rattle.std.specs.Str.{bytes_eq}
use Rattle.sb_value.specs.Equal.{bytes_same}
use Rattle.sb_ctx.specs.Costs.{tree_cost}
use Rattle.sb_node.specs.Entries.{key_cmp}
use Rattle.sb_ctx.specs.declared.calls.MethodCall.TheVariants.{Update}
use Rattle.sb_ctx.specs.MethodAnswers.{Changes}
use Rattle.sb_btree.specs.Inserts.{Inserts, OverTrees, Replaces}
use Rattle.sb_btree.specs.Leaves.{entry_at, entry_in}
use Rattle.sb_btree.specs.Removes.{Removes, is_on_removal_way}
use Rattle.sb_btree.specs.Walks.{Gives, Needs, OnTree, OverTree}
use Rattle.sb_btree.specs.Ways.{is_on_way}
use Rattle.sb_btree.specs.declared.walk.Walk.{Walk}
use Rattle.sb_btree.specs.declared.walk.Walk.TheVariants.{Fresh, Ready}
use Rattle.sb_btree.proofs.Whole.{ways_are_short}
use Rattle.sb_treemethod.specs.TreeMethod.{tree_method}
use Rattle.sb_treemethod.proofs.MethodLaws.{Changes-memory}
use Rattle.sb_treemethod.proofs.UpdateLaws.{Changes-alone, Changes-missing, Changes-moved, Changes-replaced, Changes-unput, new_gets, own_gets, unput_gets, was_ready, was_there}
use Rattle.sb_treemethod.proofs.Within.{look_bounds, tree_bounds}
use Rattle.sb_treemethod.proofs.method.TreeMethodStorageMethod.update.Goals as goal

pub returns-in_default : goal.returns-in_default
returns-in_default c = Changes-memory c.args.inst.now _ c.args.ctx.now c.requires.clean.unchanged

-- ---- under the same key
pub returns-then-eq : goal.returns-then-eq
returns-then-eq c =
    let old = c.args.ctx.now in
    let new = c.replace-walk.new.ctx in
    let inst = c.args.inst.now in
    let root = inst.root in
    let row = c.args.tuple.now in
    let code = c.in-Ok.code in
    let made = c.replace-walk.ensures in
    let clean = c.requires.clean.unchanged in
    let same : code ≡ c.args.key.now = (bytes_same code c.args.key.now).0 (sym c.eq.ensures ∙ c.if-eq.true) in
    let slice : c.as_slice.result.now ≡ code = c.as_slice.ensures ∙ sym same in
    subst (λ key. Changes tree_method inst (Update key row) old new c.replaced.result) same
    (subst (Changes tree_method inst (Update code row) old new) (sym c.replaced.ensures)
    (Changes-replaced inst row code c.in-Ok.value old new c.replace-walk.result clean (made.given ∙ clean) made.asks made.broken c.requires.row c.in-Ok.ensures
    (subst (λ (value : List ℕ). OverTrees old root (λ P es. Replaces old new root code value P es c.replace-walk.result)) c.as_slice-then-eq.ensures
    (subst (λ (key : List ℕ). OverTrees old root (λ P es. Replaces old new root key c.as_slice-then-eq.result.now P es c.replace-walk.result)) slice made.replaces))
    (tree_bounds inst (Update code row) old new c.replace-walk.result (λ P. is_on_way root P (Some code)) tree_cost clean (λ P es read n is. (ways_are_short P root es read (Some code)).1 n is) (λ n. omega arith)
    (subst (λ (key : List ℕ). OnTree old root (λ P. Needs (is_on_way root P (Some key)) c.replace-walk.result)) slice made.way) made.edits made.room
    (own_gets inst row code c.in-Ok.value old (c.replace-walk.result ≡ Fresh) c.in-Ok.ensures))))

-- ---- under another key
pub returns-then-not-is_found : goal.returns-then-not-is_found
returns-then-not-is_found c =
    let old = c.args.ctx.now in
    let inst = c.args.inst.now in
    let root = inst.root in
    let key = c.args.key.now in
    let row = c.args.tuple.now in
    let found = c.find-found.ensures in
    let clean = c.requires.clean.unchanged in
    subst (Changes tree_method inst (Update key row) old old) (sym c.missing.ensures)
    (Changes-missing inst key row old c.find-found.result clean found.asks found.broken
    (subst (λ (k : List ℕ). OverTree old root (λ es. Gives (λ found. option_map entry_in found ≡ entry_at k es) c.find-found.result)) c.as_slice-2.ensures found.gives)
    (look_bounds inst (Update key row) old c.find-found.result (λ P. is_on_way root P (Some key)) clean found.asks (λ P es read n is. (ways_are_short P root es read (Some key)).1 n is)
    (subst (λ (k : List ℕ). OnTree old root (λ P. Needs (is_on_way root P (Some k)) c.find-found.result)) c.as_slice-2.ensures found.way)))

pub returns-then-not-is_done : goal.returns-then-not-is_done
returns-then-not-is_done c =
    let old = c.args.ctx.now in
    let new = c.insert-put.new.ctx in
    let inst = c.args.inst.now in
    let root = inst.root in
    let key = c.args.key.now in
    let row = c.args.tuple.now in
    let code = c.in-Ok.code in
    let made = c.insert-put.ensures in
    let clean = c.requires.clean.unchanged in
    let other : bytes_eq code key ≡ false = sym c.eq.ensures ∙ c.if-eq.false in
    let gives = subst (λ (k : List ℕ). OverTree old root (λ es. Gives (λ found. option_map entry_in found ≡ entry_at k es) c.find-found.result)) c.as_slice-2.ensures c.find-found.ensures.gives in
    let there : OverTree old root (λ es. IsSome (find key_cmp key es)) = was_there root key old c.find-found.result (sym c.if-not-is_found.ensures) gives in
    let inserts =
    subst (λ (value : List ℕ). OverTrees old root (λ P es. Inserts old new root code value P es c.insert-put.result)) c.as_slice-4.ensures
    (subst (λ (k : List ℕ). OverTrees old root (λ P es. Inserts old new root k c.as_slice-4.result.now P es c.insert-put.result)) c.as_slice-3.ensures made.inserts) in
    subst (Changes tree_method inst (Update key row) old new) (sym c.inserted.ensures)
    (Changes-unput inst key row code c.in-Ok.value old new c.insert-put.result clean (made.given ∙ clean) made.asks made.broken c.in-Ok.ensures other (sym c.if-not-is_done.ensures) there inserts
    (tree_bounds inst (Update key row) old new c.insert-put.result (λ P. is_on_way root P (Some code)) tree_cost clean (λ P es read n is. (ways_are_short P root es read (Some code)).1 n is) (λ n. omega arith)
    (subst (λ (k : List ℕ). OnTree old root (λ P. Needs (is_on_way root P (Some k)) c.insert-put.result)) c.as_slice-3.ensures made.way) made.edits made.room
    (unput_gets inst key row code c.in-Ok.value old new c.insert-put.result clean c.in-Ok.ensures inserts)))

pub returns-then-not-is_broken : goal.returns-then-not-is_broken
returns-then-not-is_broken c =
    let old = c.args.ctx.now in
    let mid = c.insert-put.new.ctx in
    let new = c.remove-removal.new.ctx in
    let inst = c.args.inst.now in
    let root = inst.root in
    let key = c.args.key.now in
    let row = c.args.tuple.now in
    let code = c.in-Ok.code in
    let value = c.in-Ok.value in
    let put = c.insert-put.ensures in
    let removed = c.remove-removal.ensures in
    let clean = c.requires.clean.unchanged in
    let other : bytes_eq code key ≡ false = sym c.eq.ensures ∙ c.if-eq.false in
    let gives = subst (λ (k : List ℕ). OverTree old root (λ es. Gives (λ found. option_map entry_in found ≡ entry_at k es) c.find-found.result)) c.as_slice-2.ensures c.find-found.ensures.gives in
    let there : OverTree old root (λ es. IsSome (find key_cmp key es)) = was_there root key old c.find-found.result (sym c.if-not-is_found.ensures) gives in
    let done : c.insert-put.result ≡ Ready true = was_ready c.insert-put.result (sym c.if-not-is_done.ensures) in
    subst (Changes tree_method inst (Update key row) old new) (sym c.replaced-then-not-is_broken.ensures)
    (Changes-moved inst key row code value old mid new c.requires.row c.in-Ok.ensures c.remove-removal.result (sym c.if-not-is_broken.ensures) (record {
      clean = clean;
      given = put.given ∙ clean;
      new_given = removed.given ∙ put.given ∙ clean;
      other = other;
      there = there;
      inserts = subst (λ (w : Walk Bool). OverTrees old root (λ P es. Inserts old mid root code value P es w)) done
          (subst (λ (v : List ℕ). OverTrees old root (λ P es. Inserts old mid root code v P es c.insert-put.result)) c.as_slice-4.ensures
          (subst (λ (k : List ℕ). OverTrees old root (λ P es. Inserts old mid root k c.as_slice-4.result.now P es c.insert-put.result)) c.as_slice-3.ensures put.inserts));
      cost = put.edits;
      asks = removed.asks;
      removes = subst (λ (k : List ℕ). OverTrees mid root (λ P es. Removes mid new root k P es c.remove-removal.result)) c.as_slice-5.ensures removed.removes;
      way = subst (λ (k : List ℕ). OnTree mid root (λ P. Needs (is_on_removal_way root P k) c.remove-removal.result)) c.as_slice-5.ensures removed.way;
      edits = removed.edits;
      room = removed.room;
    }))

-- the removal stopped at a broken page
pub returns : goal.returns
returns c =
    let old = c.args.ctx.now in
    let start = c.drop_edits.new.self in
    let new = c.remove-alone.new.ctx in
    let inst = c.args.inst.now in
    let root = inst.root in
    let key = c.args.key.now in
    let row = c.args.tuple.now in
    let code = c.in-Ok.code in
    let mid = c.insert-put.new.ctx in
    let alone = c.remove-alone.ensures in
    let clean = c.requires.clean.unchanged in
    let done : c.insert-put.result ≡ Ready true = was_ready c.insert-put.result (sym c.if-not-is_done.ensures) in
    let inserts =
    subst (λ (w : Walk Bool). OverTrees old root (λ P es. Inserts old mid root code c.as_slice-4.result.now P es w)) done
    (subst (λ (k : List ℕ). OverTrees old root (λ P es. Inserts old mid root k c.as_slice-4.result.now P es c.insert-put.result)) c.as_slice-3.ensures c.insert-put.ensures.inserts) in
    subst (Changes tree_method inst (Update key row) old new) (sym c.question.ensures)
    (Changes-alone inst key row old start new c.remove-alone.result clean (c.drop_edits.ensures ∙ c.remove-removal.ensures.given ∙ c.insert-put.ensures.given ∙ clean) (record {
      given = alone.given;
      asks = alone.asks;
      broken = alone.broken;
      way = subst (λ (k : List ℕ). OnTree start root (λ P. Needs (is_on_removal_way root P k) c.remove-alone.result)) c.as_slice-6.ensures alone.way;
      edits = alone.edits;
      room = alone.room;
    }) (new_gets inst key row code c.in-Ok.value old (c.remove-alone.result ≡ Fresh) clean c.in-Ok.ensures (λ is P es read. (inserts P es read).0)))
