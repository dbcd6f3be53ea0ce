-- What the box answers is what the rows say.
use Rattle.std.proofs.Common.{◌≡◌, ℕ, arith, Bool, true, false, not, List, Option, Some, None, IsSome, option_map, refl, ap, sym, ◌∙◌, subst, true≢false}
use Rattle.std.specs.List.{list_all}
use Rattle.std.specs.List.{find as first}
use Rattle.std.specs.FinMap.Entries.{find}
use Rattle.std.proofs.lemmas.Bool.{and_from, or_left, or_right}
use Rattle.std.proofs.lemmas.Option.{same_Some}
use Rattle.sb_relation.specs.Db.{Key, Row, Rows, row_at}
use Rattle.sb_relation.specs.Keys.{is_record_key}
use Rattle.sb_relation.specs.Lawful.{IsRow}
use Rattle.sb_node.specs.Entries.{Entry, key_cmp}
use Rattle.sb_forms.specs.Pages.{Pages}
use Rattle.sb_forms.specs.Stored.{row_in}
use Rattle.sb_forms.specs.Tree.{entries_of}
use Rattle.sb_forms.specs.TreePages.{is_row_entry}
use Rattle.sb_ctx.specs.declared.instance.Instance.{Instance}
use Rattle.sb_ctx.specs.declared.calls.MethodCall.{MethodCall}
use Rattle.sb_ctx.specs.declared.calls.MethodCall.TheVariants as call
use Rattle.sb_ctx.specs.declared.moves.Move.{Move}
use Rattle.sb_ctx.specs.declared.moves.Move.TheVariants.{Need, Fresh, NoRecord, Row as Rowed, End, Broken, NoMemory}
use Rattle.sb_ctx.specs.View.{HeldPage, HeldPages, View, given_at, held_at, page_of, dropped, HoldsPart, stored}
use Rattle.sb_ctx.proofs.ViewLaws.{as_it_was}
use Rattle.sb_ctx.specs.MethodAnswers.{Answers, AsksFor, Changes, Got, Holds, IsOnPath, IsBroken, IsRowOf, Looks, MayEnd, NextIs, NotNew, Reads, row_above}
use Rattle.sb_btree.specs.Broken.{breaks, held_node}
use Rattle.sb_btree.specs.Inserts.{MayAsk}
use Rattle.sb_btree.specs.Leaves.{Finds, IsInLeaf, entry_at, entry_in, leads_to}
use Rattle.sb_btree.specs.declared.lookup.LeafEntry.{LeafEntry}
use Rattle.sb_btree.specs.Walks.{AsksFor as MayAskFor, Breaks, Gives, OverTree}
use Rattle.sb_btree.specs.Ways.{is_behind}
use Rattle.sb_btree.specs.declared.walk.Walk.{Walk}
use Rattle.sb_btree.specs.declared.walk.Walk.TheVariants as walk
use Rattle.sb_btree.proofs.Leaves.{all_at}
use Rattle.sb_treemethod.specs.TreeMethod.{tree_method, has_stray}
use Rattle.sb_treemethod.specs.Answered.{question_of, IsGot, IsNext}
use Rattle.sb_treemethod.proofs.Entries.{row_entry}
use Rattle.sb_treemethod.proofs.RowsOf.{as_row, row_at-rows_of, row_above-rows_of}
use Rattle.sb_treemethod.proofs.Counted.{clean_edits}
use Rattle.sb_treemethod.proofs.TreeRows.{Formed, formed}
use Rattle.sb_treemethod.proofs.Within.{Bounds, Within, reads_still}

pub changes : (inst : Instance) (c : MethodCall) (old new : View) (move : Move) → dropped new ≡ old → AsksFor new move → IsBroken tree_method inst old move → MayEnd inst c move
    → ((P : Pages) → HoldsPart old P → Answers tree_method inst c P (stored new P) move) → Within inst c old new move → Changes tree_method inst c old new move
changes inst c old new move given asks broken ends answers spends = record { given = given; asks = asks; broken = broken; ends = ends; answers = answers; spends = spends }

-- a reading call asks for a page of its path
abbrev OnPath : Instance → MethodCall → View → Move → Type 0
OnPath inst c old move = (P : Pages) → HoldsPart old P → (rows : Rows) → Holds tree_method inst P rows → IsOnPath tree_method inst c P move

pub looks : (inst : Instance) (c : MethodCall) (old : View) (move : Move) → Reads move → AsksFor old move → IsBroken tree_method inst old move → MayEnd inst c move
    → ((P : Pages) → HoldsPart old P → Answers tree_method inst c P P move) → OnPath inst c old move → Looks tree_method inst c old old move
looks inst c old move reads asks broken ends answers path = record { same = refl; reads = reads; asks = asks; broken = broken; ends = ends; answers = answers; path = path }

-- ---- walks without an end
given_now : (c : View) → dropped c ≡ c → given_at c ≡ page_of c
given_now c clean = λ i n. by n (held_at c n) refl i
  where
    by : (n : ℕ) (o : Option HeldPage) → held_at c n ≡ o → option_map (λ (h : HeldPage). h.given) o ≡ option_map (λ (h : HeldPage). h.now) o
    by n None there = refl
    by n (Some h) there = ap Some (sym (as_it_was c n h clean there))

may_given : (inst : Instance) (old : View) (n : ℕ) → dropped old ≡ old → tree_method.may_break inst (page_of old) n ≡ true → tree_method.may_break inst (given_at old) n ≡ true
may_given inst old n clean is = ap (λ (h : HeldPages). tree_method.may_break inst h n) (given_now old clean) ∙ is

broken_given : (inst : Instance) (old : View) (n : ℕ) → dropped old ≡ old → breaks inst.root (page_of old) n ≡ true → tree_method.may_break inst (given_at old) n ≡ true
broken_given inst old n clean is = may_given inst old n clean (or_left (breaks inst.root (page_of old) n) (has_stray inst (page_of old) n) is)

-- a leaf with an entry that is none of a row
stray_given : (inst : Instance) (old : View) (f : LeafEntry) (n : ℕ) → dropped old ≡ old → IsInLeaf (leads_to inst.root (page_of old)) (page_of old) f → n ≡ f.leaf → is_row_entry inst.schema inst.key (entry_in f) ≡ false
    → tree_method.may_break inst (given_at old) n ≡ true
stray_given inst old f n clean s is stray =
    may_given inst old n clean (or_right (breaks inst.root (page_of old) n) (has_stray inst (page_of old) n)
    (subst (λ m. has_stray inst (page_of old) m ≡ true) (sym is)
    (and_from (leads_to inst.root (page_of old) f.leaf) (not (list_all (is_row_entry inst.schema inst.key) (entries_of (held_node (page_of old f.leaf))))) s.led
    (ap (λ o. not (list_all (is_row_entry inst.schema inst.key) (entries_of o))) s.node_is ∙ some_fail (list_all (is_row_entry inst.schema inst.key) s.node.entries) refl))))
  where
    some_fail : (b : Bool) → list_all (is_row_entry inst.schema inst.key) s.node.entries ≡ b → not b ≡ true
    some_fail true all = absurd (true≢false (sym (all_at (is_row_entry inst.schema inst.key) s.node.entries s.place (entry_in f) all s.at) ∙ stray))
    some_fail false all = refl

stray_held : (inst : Instance) (old : View) (f : LeafEntry) (n : ℕ) → IsInLeaf (leads_to inst.root (page_of old)) (page_of old) f → n ≡ f.leaf → IsSome (page_of old n)
stray_held inst old f n s is = subst (λ m. IsSome (page_of old m)) (sym is) (by (page_of old f.leaf) s.node_is)
  where
    by : (o : Option (List ℕ)) → held_node o ≡ Some s.node → IsSome o
    by None e = cc
    by (Some bytes) e = refl

-- a walk that calls a page broken isn't one over a new instance
abbrev pub OverOld : {T : Type 0} → Instance → MethodCall → View → Walk T → Type 0
OverOld inst c old (walk.Broken n) = (P : Pages) → HoldsPart old P → NotNew inst c P
OverOld inst c old w = Unit {0}

pub Changes-question : {T : Type 0} (inst : Instance) (c : MethodCall) (old new : View) (w : Walk T) → OverOld inst c old w → dropped old ≡ old → dropped new ≡ old → MayAsk new w → Breaks (breaks inst.root (page_of old)) w
    → Within inst c old new (question_of w) → Changes tree_method inst c old new (question_of w)
Changes-question inst c old new (walk.Ready end) over clean given asks broken within = changes inst c old new NoMemory given tt tt tt (λ P part. tt) within
Changes-question inst c old new (walk.Need n) over clean given asks broken within = changes inst c old new (Need n) given asks tt tt (λ P part. tt) within
Changes-question inst c old new walk.Fresh over clean given asks broken within = changes inst c old new Fresh given asks tt tt (λ P part. tt) within
Changes-question inst c old new (walk.Broken n) over clean given asks broken within = changes inst c old new (Broken n) given asks (broken_given inst old n clean broken) tt over within
Changes-question inst c old new walk.NoMemory over clean given asks broken within = changes inst c old new NoMemory given tt tt tt (λ P part. tt) within

pub Looks-question : {T : Type 0} (inst : Instance) (c : MethodCall) (old : View) (w : Walk T) → OverOld inst c old w → dropped old ≡ old → MayAskFor old w → Breaks (breaks inst.root (page_of old)) w
    → OnPath inst c old (question_of w) → Looks tree_method inst c old old (question_of w)
Looks-question inst c old (walk.Ready end) over clean asks broken path = looks inst c old NoMemory tt tt tt tt (λ P part. tt) path
Looks-question inst c old (walk.Need n) over clean asks broken path = looks inst c old (Need n) tt asks tt tt (λ P part. tt) path
Looks-question inst c old walk.Fresh over clean asks broken path = absurd asks
Looks-question inst c old (walk.Broken n) over clean asks broken path = looks inst c old (Broken n) tt asks (broken_given inst old n clean broken) tt over path
Looks-question inst c old walk.NoMemory over clean asks broken path = looks inst c old NoMemory tt tt tt tt (λ P part. tt) path

-- nothing was edited
pub idle_within : (inst : Instance) (c : MethodCall) (old : View) → dropped old ≡ old → Within inst c old old NoMemory
idle_within inst c old clean ctx P part rows before = record { path = tt; room = tt; gets = tt; edits = omega (arith, clean_edits old clean ctx.sound) }

pub Changes-memory : (inst : Instance) (c : MethodCall) (old : View) → dropped old ≡ old → Changes tree_method inst c old old NoMemory
Changes-memory inst c old clean = changes inst c old old NoMemory clean tt tt tt (λ P part. tt) (idle_within inst c old clean)

-- ---- reading calls
row_of_key : (inst : Instance) (P : Pages) (rows : Rows) (key : Key) (o : Option (List ℕ)) → (f : Formed inst.root inst.schema inst.key P rows) → o ≡ find key_cmp key f.es → row_at rows key ≡ option_map row_in o
row_of_key inst P rows key o f is = ap (λ (l : Rows). row_at l key) f.same ∙ row_at-rows_of key f.es ∙ ap (option_map row_in) (sym is)

found_row : (inst : Instance) (f : LeafEntry) (k : Key) (row : Row) → k ≡ f.key → row ≡ row_in f.value → is_row_entry inst.schema inst.key (entry_in f) ≡ true → IsRowOf inst k row
found_row inst f k row same read is =
    let e = row_entry inst.schema inst.key (entry_in f) is in
    record { is_key = ap is_record_key same ∙ e.is_key; is_row = subst (IsRow inst.schema) (sym read) e.is_row }

-- the entry of a key
entry_found : (key : Key) (o : Option (List ℕ)) (e : Entry) → Some e ≡ option_map (λ value. (key, value)) o → (e.0 ≡ key) × (o ≡ Some e.1)
entry_found key None e is = absurd (cc)
entry_found key (Some v) e is = let same = same_Some e (key, v) is in (ap (λ (x : Entry). x.0) same, ap (λ (x : Entry). Some x.1) (sym same))

pub none_found : (key : Key) (o : Option (List ℕ)) → ◌≡◌ {A = Option Entry} None (option_map (λ value. (key, value)) o) → o ≡ None
none_found key None is = refl
none_found key (Some v) is = absurd (cc)

-- a leaf is called broken for an entry that is none of a row
Looks-stray : (inst : Instance) (c : MethodCall) (old : View) (f : LeafEntry) (n : ℕ) → dropped old ≡ old → OverOld {T = Option LeafEntry} inst c old (walk.Broken n) → MayEnd inst c (Broken n) → IsInLeaf (leads_to inst.root (page_of old)) (page_of old) f → n ≡ f.leaf
    → is_row_entry inst.schema inst.key (entry_in f) ≡ false → Looks tree_method inst c old old (Broken n)
Looks-stray inst c old f n clean over ends s is stray =
    looks inst c old (Broken n) tt (stray_held inst old f n s is) (stray_given inst old f n clean s is stray) ends over (λ P part rows holds. tt)

pub Looks-got : (inst : Instance) (key : Key) (old : View) (w : Walk (Option LeafEntry)) (move : Move) → dropped old ≡ old → MayAskFor old w → Breaks (breaks inst.root (page_of old)) w → Finds (IsInLeaf (leads_to inst.root (page_of old)) (page_of old)) w
    → OverTree old inst.root (λ es. Gives (λ found. option_map entry_in found ≡ entry_at key es) w) → IsGot inst w move → Bounds inst (call.Get key) old old w → Looks tree_method inst (call.Get key) old old move
Looks-got inst key old (walk.Ready (Some e)) (Rowed k row) clean asks broken stands gives is b =
    looks inst (call.Get key) old (Rowed k row) tt tt tt (found_row inst e k row is.0 is.1 is.2)
    (λ P part rows holds.
    let f = formed inst.root inst.schema inst.key P rows holds in
    let found = entry_found key (find key_cmp key f.es) (entry_in e) (gives P f.es (reads_still inst old P f.es clean part f.tree)) in
    let there = row_of_key inst P rows key (Some e.value) f (sym found.1) ∙ ap Some (sym is.1) in
    subst (λ (o : Option Row). Got key o (Rowed k row)) (sym there) (ap (λ (x : Key). Rowed x row) (is.0 ∙ found.0))) (λ P part rows holds. tt)
Looks-got inst key old (walk.Ready (Some e)) (Broken n) clean asks broken stands gives is b = Looks-stray inst (call.Get key) old e n clean (λ P part. tt) tt stands is.0 is.1
Looks-got inst key old (walk.Ready (Some e)) NoMemory clean asks broken stands gives is b = looks inst (call.Get key) old NoMemory tt tt tt tt (λ P part. tt) (λ P part rows holds. tt)
Looks-got inst key old (walk.Ready (Some e)) move clean asks broken stands gives is b = absurd is
Looks-got inst key old (walk.Ready None) move clean asks broken stands gives is b =
    subst (λ (m : Move). Looks tree_method inst (call.Get key) old old m) (sym is) (looks inst (call.Get key) old NoRecord tt tt tt tt
    (λ P part rows holds.
    let f = formed inst.root inst.schema inst.key P rows holds in
    let none = row_of_key inst P rows key None f (sym (none_found key (find key_cmp key f.es) (gives P f.es (reads_still inst old P f.es clean part f.tree)))) in
    subst (λ (o : Option Row). Got key o NoRecord) (sym none) refl) (λ P part rows holds. tt))
Looks-got inst key old (walk.Need n) move clean asks broken stands gives is b =
    subst (λ (m : Move). Looks tree_method inst (call.Get key) old old m) (sym is) (Looks-question {T = Option LeafEntry} inst (call.Get key) old (walk.Need n) tt clean asks broken (λ P part rows holds. b.way P part rows (formed inst.root inst.schema inst.key P rows holds)))
Looks-got inst key old walk.Fresh move clean asks broken stands gives is b = absurd asks
Looks-got inst key old (walk.Broken n) move clean asks broken stands gives is b =
    subst (λ (m : Move). Looks tree_method inst (call.Get key) old old m) (sym is) (Looks-question {T = Option LeafEntry} inst (call.Get key) old (walk.Broken n) (λ P part. tt) clean asks broken (λ P part rows holds. tt))
Looks-got inst key old walk.NoMemory move clean asks broken stands gives is b =
    subst (λ (m : Move). Looks tree_method inst (call.Get key) old old m) (sym is) (Looks-question {T = Option LeafEntry} inst (call.Get key) old walk.NoMemory tt clean asks broken (λ P part rows holds. tt))

row_behind : (inst : Instance) (P : Pages) (rows : Rows) (low : Option Key) (o : Option Entry) → (f : Formed inst.root inst.schema inst.key P rows) → o ≡ first (is_behind low) f.es → row_above low rows ≡ option_map as_row o
row_behind inst P rows low o f is = ap (row_above low) f.same ∙ row_above-rows_of low f.es ∙ ap (option_map as_row) (sym is)

pub Looks-next : (inst : Instance) (low : Option Key) (old : View) (w : Walk (Option LeafEntry)) (move : Move) → dropped old ≡ old → MayAskFor old w → Breaks (breaks inst.root (page_of old)) w
    → Finds (IsInLeaf (leads_to inst.root (page_of old)) (page_of old)) w → OverTree old inst.root (λ es. Gives (λ next. option_map entry_in next ≡ first (is_behind low) es) w) → IsNext inst w move → Bounds inst (call.Next low) old old w
    → Looks tree_method inst (call.Next low) old old move
Looks-next inst low old (walk.Ready (Some e)) (Rowed k row) clean asks broken stands gives is b =
    looks inst (call.Next low) old (Rowed k row) tt tt tt (found_row inst e k row is.0 is.1 is.2)
    (λ P part rows holds.
    let f = formed inst.root inst.schema inst.key P rows holds in
    let there = row_behind inst P rows low (Some (entry_in e)) f (gives P f.es (reads_still inst old P f.es clean part f.tree)) in
    subst (λ (o : Option (Key × Row)). NextIs o (Rowed k row)) (sym there) (λ i. Rowed (is.0 i) (is.1 i))) (λ P part rows holds. tt)
Looks-next inst low old (walk.Ready (Some e)) (Broken n) clean asks broken stands gives is b = Looks-stray inst (call.Next low) old e n clean (λ P part. tt) tt stands is.0 is.1
Looks-next inst low old (walk.Ready (Some e)) NoMemory clean asks broken stands gives is b = looks inst (call.Next low) old NoMemory tt tt tt tt (λ P part. tt) (λ P part rows holds. tt)
Looks-next inst low old (walk.Ready (Some e)) move clean asks broken stands gives is b = absurd is
Looks-next inst low old (walk.Ready None) move clean asks broken stands gives is b =
    subst (λ (m : Move). Looks tree_method inst (call.Next low) old old m) (sym is) (looks inst (call.Next low) old End tt tt tt tt
    (λ P part rows holds.
    let f = formed inst.root inst.schema inst.key P rows holds in
    let none = row_behind inst P rows low None f (gives P f.es (reads_still inst old P f.es clean part f.tree)) in
    subst (λ (o : Option (Key × Row)). NextIs o End) (sym none) refl) (λ P part rows holds. tt))
Looks-next inst low old (walk.Need n) move clean asks broken stands gives is b =
    subst (λ (m : Move). Looks tree_method inst (call.Next low) old old m) (sym is) (Looks-question {T = Option LeafEntry} inst (call.Next low) old (walk.Need n) tt clean asks broken (λ P part rows holds. b.way P part rows (formed inst.root inst.schema inst.key P rows holds)))
Looks-next inst low old walk.Fresh move clean asks broken stands gives is b = absurd asks
Looks-next inst low old (walk.Broken n) move clean asks broken stands gives is b =
    subst (λ (m : Move). Looks tree_method inst (call.Next low) old old m) (sym is) (Looks-question {T = Option LeafEntry} inst (call.Next low) old (walk.Broken n) (λ P part. tt) clean asks broken (λ P part rows holds. tt))
Looks-next inst low old walk.NoMemory move clean asks broken stands gives is b =
    subst (λ (m : Move). Looks tree_method inst (call.Next low) old old m) (sym is) (Looks-question {T = Option LeafEntry} inst (call.Next low) old walk.NoMemory tt clean asks broken (λ P part rows holds. tt))
