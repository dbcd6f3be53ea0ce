-- A call that walks over the tree stays on its path and within its bounds.
use Rattle.std.proofs.Common.{◌≡◌, ℕ, ◌+◌, ◌*◌, ◌<◌, ◌≤◌, Bool, true, List, length, Some, ap, sym, ◌∙◌, subst, arith}
use Rattle.std.proofs.Math.Nat.{le-max_left}
use Rattle.std.proofs.lemmas.List.{length-map}
use Rattle.sb_ctx.specs.Bounds.{plain_bound}
use Rattle.sb_relation.specs.Db.{Key, Row, Rows}
use Rattle.sb_node.specs.Entries.{Entry}
use Rattle.sb_forms.specs.Pages.{Pages, page_count}
use Rattle.sb_forms.specs.Read.{read_tree}
use Rattle.sb_forms.specs.TreePages.{tree_met}
use Rattle.sb_ctx.specs.declared.instance.Instance.{Instance}
use Rattle.sb_ctx.specs.declared.calls.MethodCall.{MethodCall}
use Rattle.sb_ctx.specs.declared.moves.Move.{Move}
use Rattle.sb_ctx.specs.declared.moves.Move.TheVariants.{Need, Fresh, NoRecord, Duplicate, Range}
use Rattle.sb_ctx.specs.View.{View, edits_of, dropped, HoldsPart, stored}
use Rattle.sb_ctx.proofs.ViewLaws.{dropped-dropped, stored-clean}
use Rattle.sb_ctx.specs.Sized.{IsCtx}
use Rattle.sb_ctx.specs.Sound.{IsSound}
use Rattle.sb_ctx.specs.MethodAnswers.{Before, GetsKey, HasRoom, Holds, IsOnPath, Spends, TakesFor, cost_of, most_pages, rows_after}
use Rattle.sb_btree.specs.Inserts.{MayAsk, OverTrees}
use Rattle.sb_btree.specs.Spending.{AsksWithin, taken_of}
use Rattle.sb_btree.specs.Walks.{AsksFor as MayAskFor, Needs, OnTree}
use Rattle.sb_btree.specs.declared.walk.Walk.{Walk}
use Rattle.sb_btree.specs.declared.walk.Walk.TheVariants as walk
use Rattle.sb_btree.proofs.PageCounts.{pages_few}
use Rattle.sb_treemethod.specs.TreeMethod.{tree_method, call_cost, is_on_call_path}
use Rattle.sb_treemethod.proofs.Counted.{all_taken, clean_edits, clean_taken, sound_dropped}
use Rattle.sb_treemethod.proofs.RowsOf.{as_row}
use Rattle.sb_treemethod.proofs.TreeRows.{Formed, formed, tree_of}

-- a call stays on its path, within its bound and within its cost
abbrev pub Within : Instance → MethodCall → View → View → Move → Type 0
Within inst c old new move = IsCtx new → (P : Pages) → HoldsPart old P → (rows : Rows) → Before tree_method inst c P rows → Spends tree_method inst c P rows new move

-- over the pages of a tree of rows, the row that a call puts in gets a key where this is so
abbrev pub GetsWhere : Instance → MethodCall → View → Type 0 → Type 0
GetsWhere inst c old IsSo = (P : Pages) → HoldsPart old P → (rows : Rows) → Formed inst.root inst.schema inst.key P rows → IsSo → GetsKey tree_method inst c rows

-- what a walk has to keep to, over the pages of a tree of rows
pub record Bounds {T : Type 0} (inst : Instance) (c : MethodCall) (old new : View) (w : Walk T) : Type 0 where
  pub way : (P : Pages) → HoldsPart old P → (rows : Rows) → Formed inst.root inst.schema inst.key P rows → Needs (is_on_call_path inst P c) w
  pub fresh : IsSound old → (P : Pages) → HoldsPart old P → (rows : Rows) → (f : Formed inst.root inst.schema inst.key P rows) → w ≡ walk.Fresh → page_count P + taken_of new < plain_bound (length f.es)
  pub gets : GetsWhere inst c old (w ≡ walk.Fresh)
  pub edits : IsSound old → (P : Pages) → HoldsPart old P → (rows : Rows) → (f : Formed inst.root inst.schema inst.key P rows) → edits_of new ≤ call_cost c (length f.es)

-- a question of a walk
abbrev pub AskedBy : {T : Type 0} → Walk T → Move → Type 0
AskedBy w (Need n) = w ≡ walk.Need n
AskedBy w Fresh = w ≡ walk.Fresh
AskedBy w move = Unit {0}

-- a row that is refused leaves all as it was
abbrev pub KeepsRefused : Instance → View → View → Move → Type 0
KeepsRefused inst old new NoRecord = OverTrees old inst.root (λ P es. new ≡ old)
KeepsRefused inst old new Duplicate = OverTrees old inst.root (λ P es. new ≡ old)
KeepsRefused inst old new Range = OverTrees old inst.root (λ P es. new ≡ old)
KeepsRefused inst old new move = Unit {0}

-- rows are as many as entries
pub as_many : (root : ℕ) (inst : Instance) (P : Pages) (rows : Rows) → (f : Formed root inst.schema inst.key P rows) → length rows ≡ length f.es
as_many root inst P rows f = ap (λ (l : Rows). length l) f.same ∙ length-map {B = Key × Row} f.es (λ e. as_row e)

pub reads_still : (inst : Instance) (old : View) (P : Pages) (es : List Entry) → dropped old ≡ old → HoldsPart old P → read_tree inst.root P ≡ Some es → read_tree inst.root (stored old P) ≡ Some es
reads_still inst old P es clean part is = ap (read_tree inst.root) (stored-clean old P clean part) ∙ is

pub within : {T : Type 0} (inst : Instance) (c : MethodCall) (old new : View) (w : Walk T) (move : Move) → dropped new ≡ old → MayAsk new w → AskedBy w move → KeepsRefused inst old new move → Bounds inst c old new w
    → IsCtx new → (P : Pages) → HoldsPart old P → (rows : Rows) → Holds tree_method inst P rows → Spends tree_method inst c P rows new move
within {T} inst c old new w move given asks asked keeps b ctx P part rows holds = record {
  path = path move asked;
  room = room move asked;
  gets = gets move asked;
  edits = edits move keeps;
}
  where
    f : Formed inst.root inst.schema inst.key P rows
    f = formed inst.root inst.schema inst.key P rows holds

    many : length rows ≡ length f.es
    many = as_many inst.root inst P rows f

    sound : IsSound old
    sound = sound_dropped new old given ctx.sound

    clean : dropped old ≡ old
    clean = ap dropped (sym given) ∙ dropped-dropped new ∙ given

    none : OverTrees old inst.root (λ P es. new ≡ old) → edits_of new ≤ 0
    none same = omega (arith, ap edits_of (same P f.es (reads_still inst old P f.es clean part f.tree)), clean_edits old clean sound)

    edits : (move : Move) → KeepsRefused inst old new move → edits_of new ≤ cost_of tree_method c rows move
    edits NoRecord keeps = none keeps
    edits Duplicate keeps = none keeps
    edits Range keeps = none keeps
    edits _ keeps = subst (λ n. edits_of new ≤ call_cost c n) (sym many) (b.edits sound P part rows f)

    path : (move : Move) → AskedBy w move → IsOnPath tree_method inst c P move
    path (Need n) is = subst (λ (v : Walk T). Needs (is_on_call_path inst P c) v) is (b.way P part rows f)
    path _ is = tt

    room : (move : Move) → AskedBy w move → HasRoom (most_pages tree_method c (length rows)) P new move
    room Fresh is =
        omega (
          arith,
          b.fresh sound P part rows f is,
          all_taken new (subst (λ (v : Walk T). MayAsk new v) is asks),
          many,
          le-max_left (plain_bound (length rows)) (plain_bound (rows_after c (length rows))),
        )
    room _ is = tt

    gets : (move : Move) → AskedBy w move → TakesFor tree_method inst c rows move
    gets Fresh is = b.gets P part rows f is
    gets _ is = tt

-- ---- one walk over the tree as it was given
weaker : {T : Type 0} (test path : ℕ → Bool) → ((n : ℕ) → test n ≡ true → path n ≡ true) → (w : Walk T) → Needs test w → Needs path w
weaker test path on (walk.Ready end) h = tt
weaker test path on (walk.Need n) h = on n h
weaker test path on walk.Fresh h = tt
weaker test path on (walk.Broken n) h = tt
weaker test path on walk.NoMemory h = tt

pub tree_bounds : {T : Type 0} (inst : Instance) (c : MethodCall) (old new : View) (w : Walk T) (test : Pages → ℕ → Bool) (cost : ℕ → ℕ) → dropped old ≡ old
    → ((P : Pages) (es : List Entry) → read_tree inst.root P ≡ Some es → (n : ℕ) → test P n ≡ true → is_on_call_path inst P c n ≡ true) → ((n : ℕ) → cost n ≤ call_cost c n)
    → OnTree old inst.root (λ P. Needs (test P) w) → OverTrees old inst.root (λ P es. edits_of new ≤ edits_of old + cost (length es))
    → OverTrees old inst.root (λ P es. AsksWithin (2 * length es) (length (tree_met inst.root (stored old P))) old new w) → GetsWhere inst c old (w ≡ walk.Fresh) → Bounds inst c old new w
tree_bounds {T} inst c old new w test cost clean on cheap way edits room gets = record {
  way = λ P part rows f. weaker (test P) (is_on_call_path inst P c) (on P f.es f.tree) w (subst (λ (Q : Pages). Needs (test Q) w) (stored-clean old P clean part) (way P f.es (reads_still inst old P f.es clean part f.tree)));
  fresh = λ sound P part rows f is.
      let t = tree_of inst.root inst.schema inst.key P rows part.are_pages f in
      let few = subst (λ (v : Walk T). AsksWithin (2 * length f.es) (length (tree_met inst.root P)) old new v) is
      (subst (λ (Q : Pages). AsksWithin (2 * length f.es) (length (tree_met inst.root Q)) old new w) (stored-clean old P clean part) (room P f.es (reads_still inst old P f.es clean part f.tree))) in
      omega (arith, few, clean_taken old clean sound, pages_few inst.root P t.all);
  gets = gets;
  edits = λ sound P part rows f. omega (arith, edits P f.es (reads_still inst old P f.es clean part f.tree), clean_edits old clean sound, cheap (length f.es));
}

-- a reading walk edits nothing
pub look_bounds : {T : Type 0} (inst : Instance) (c : MethodCall) (old : View) (w : Walk T) (test : Pages → ℕ → Bool) → dropped old ≡ old → MayAskFor old w
    → ((P : Pages) (es : List Entry) → read_tree inst.root P ≡ Some es → (n : ℕ) → test P n ≡ true → is_on_call_path inst P c n ≡ true)
    → OnTree old inst.root (λ P. Needs (test P) w) → Bounds inst c old old w
look_bounds {T} inst c old w test clean asks on way = record {
  way = λ P part rows f. weaker (test P) (is_on_call_path inst P c) (on P f.es f.tree) w (subst (λ (Q : Pages). Needs (test Q) w) (stored-clean old P clean part) (way P f.es (reads_still inst old P f.es clean part f.tree)));
  fresh = λ sound P part rows f is. absurd (subst (λ (v : Walk T). MayAskFor old v) is asks);
  gets = λ P part rows f is. absurd (subst (λ (v : Walk T). MayAskFor old v) is asks);
  edits = λ sound P part rows f. omega (arith, clean_edits old clean sound);
}
