-- What entries that wait tell of the rules of relations that are kept.
use Rattle.std.proofs.Common.{◌≡◌, ℕ, zero, suc, ◌<◌, ◌≤◌, Bool, true, false, true≢false, cond, not, ◌&&◌, List, [], ◌∷◌, map, length, All, Option, Some, None, option_map, refl, sym, ap, ◌∙◌, subst, arith}
use Rattle.std.specs.List.{find, slice_get}
use Rattle.std.proofs.lemmas.Bool.{and_from, or_left, or_right}
use Rattle.std.proofs.lemmas.List.{length-map}
use Rattle.std.proofs.lemmas.List.Elements.{All-nil, All-map}
use Rattle.std.proofs.lemmas.Option.{same_Some}
use Rattle.sb_value.specs.Equal.{bytes_same}
use Rattle.sb_rule.specs.declared.rule.Side.TheVariants.{Main, Mirror}
use Rattle.sb_rule.specs.declared.rule.Rule.{Rule}
use Rattle.sb_rule.specs.declared.rule.Rule.TheVariants.{TreeIndex, HashIndex, JoinIndex, Stats, Check, Refers, Trigger, Foreign}
use Rattle.sb_relation.specs.Build.{mirror_name, mirror_of}
use Rattle.sb_relation.specs.Content.{Content}
use Rattle.sb_relation.specs.Db
use Rattle.sb_relation.specs.Db.{Name, Relation}
use Rattle.sb_relation.specs.Foreign.{AttachRules}
use Rattle.sb_relation.specs.Rules.{entry_fails, holds}
use Rattle.sb_forms.specs.Pages.{Pages}
use Rattle.sb_ctx.specs.declared.instance.Instance.{Instance}
use Rattle.sb_ctx.specs.declared.calls.AttachCall.TheVariants as call
use Rattle.sb_ctx.specs.declared.moves.Move.{Move}
use Rattle.sb_ctx.specs.declared.moves.Move.TheVariants.{Done, Acts, Need, Fresh, After, Find, Veto, NoRecord, Duplicate, Range, Key as Keyed, Row as Rowed, Entry as Entered, Sums, Hits, End, Broken, NoMemory}
use Rattle.sb_ctx.specs.View.{View}
use Rattle.sb_ctx.specs.Attachment.{Attachment, StandsOn}
use Rattle.sb_ctx.specs.AttachAnswers.{Answers, BeforeLate, Holds, content_over}
use Rattle.sb_fold.specs.Extensions.{Extensions, box_of}
use Rattle.sb_fold.specs.Finish.{fails_late, is_tested_late}
use Rattle.sb_fold.specs.Fold.{attachments_at}
use Rattle.sb_fold.specs.Outcome.{Entry, Queue, is_entry}
use Rattle.sb_deferred.specs.Complete.{IsComplete, IsWaiting}
use Rattle.sb_deferred.specs.CompleteLaws.{HoldsWhereNoneFails, NoneFailsOf}
use Rattle.sb_deferred.specs.Entries.{entry_same}
use Rattle.sb_deferred.specs.Waiting.{check_of}
use Rattle.sb_deferred.proofs.CommitLemmas.{nothing-fails}
use Rattle.sb_registry.specs.Boxes.{Meanings, attachment_of}
use Rattle.sb_drive.specs.Slots.{Slots, owned}
use Rattle.sb_drive.specs.Spaces.{Leaves, Wanted}
use Rattle.sb_catalog.specs.declared.descriptor.Attached.{Attached}
use Rattle.sb_catalog.specs.declared.descriptor.Descriptor.{Descriptor}
use Rattle.sb_catalog.specs.Descriptors.{described, standing}
use Rattle.sb_standing.specs.Instances.{rule_instance}
use Rattle.sb_standing.specs.Standing.{EachRule, IsKept, Keeps, KeepsRule, KeepsRules}
use Rattle.sb_standing.specs.Tables.{Kept, KeepsTable, db_of, kept_at}
use Rattle.sb_standing.proofs.KeptLemmas.{kept_at-all, kept_at-name, relation_at-none, relation_at-there}
use Rattle.sb_standing.proofs.RuleLemmas.{heads, tails}
use Rattle.sb_standing.proofs.SplitLemmas.{EachRule-length}
use Rattle.sb_asking.specs.OpenRelation.{OpenRelation}
use Rattle.sb_asking.specs.Opened.{IsDurable}
use Rattle.sb_asking.specs.Calls.{IsAsked, IsFinal}
use Rattle.sb_engine.specs.Failing.{FailsNowhere, Tells, TellsOwn, first_late, is_of, is_own, is_veto}
use Rattle.sb_engine.specs.Working.{IsOpened}
use Rattle.sb_engine.proofs.PlacedLemmas.{any_placed, find_first, find_none, placed_all, placed_below, placed_some}

-- ---- the rules of an open relation are kept
rule_there : (P : Instance → Db.Attached → Type 0) (make : Attached → Instance) (ds : List Attached) (others : List Db.Attached) (i : ℕ) (inst : Instance)
    → EachRule (λ d a. P (make d) a) ds others → slice_get (map make ds) i ≡ Some inst → (a : Db.Attached) × (slice_get others i ≡ Some a) × P inst a
rule_there P make [] others i inst each at = absurd (cc)
rule_there P make (d ∷ ds) [] i inst each at = absurd each
rule_there P make (d ∷ ds) (a ∷ others) zero inst each at = (a, refl, subst (λ (x : Instance). P x a) (same_Some (make d) inst at) each.0)
rule_there P make (d ∷ ds) (a ∷ others) (suc i) inst each at = rule_there P make ds others i inst each.1 at

-- the one in a place, by its instance
pub record IsKeptAt (m : Meanings) (s : Slots) (kept : List Kept) (one : OpenRelation) (is : IsOpened m kept one) (i : ℕ) (inst : Instance) : Type 0 where
  pub a : Db.Attached
  pub at : slice_get is.one.relation.attachments i ≡ Some a
  pub named : inst.relation ≡ one.name
  pub keeps : KeepsRule m s inst a (db_of kept)

module _ (m : Meanings) (root : ℕ) (s : Slots) (gone : List ℕ) (kept : List Kept) (one : OpenRelation) (is : IsOpened m kept one) (keeps : Keeps m IsDurable root s gone kept) where
  each_kept : EachRule (IsKept m IsDurable s (db_of kept) is.one) is.one.descriptor.attachments is.one.relation.attachments
  each_kept = kept_at-all (KeepsRules m IsDurable s (db_of kept)) kept one.name is.one keeps.rules is.at

  pub kept_rule : (i : ℕ) (inst : Instance) → slice_get one.rules.items i ≡ Some inst → IsKeptAt m s kept one is i inst
  kept_rule i inst at = record { a = found.0; at = found.1; named = named; keeps = found.2 }
    where
      own : one.name ≡ is.one.name
      own = sym (kept_at-name kept one.name is.one is.at)

      same : one.rules.items ≡ map (rule_instance true is.one.name is.one.descriptor) is.one.descriptor.attachments
      same = is.is.rules ∙ ap (λ (n : Name). map (rule_instance true n one.descriptor) one.descriptor.attachments) own
          ∙ ap (λ (d : Descriptor). map (rule_instance true is.one.name d) d.attachments) (sym is.same)

      named : inst.relation ≡ one.name
      named = placed_all (λ (x : Instance). x.relation ≡ one.name) one.rules.items i inst
          (subst (λ (l : List Instance). All (λ (x : Instance). x.relation ≡ one.name) l) (sym is.is.rules)
          (All-map (λ (x : Instance). x.relation ≡ one.name) (rule_instance true one.name one.descriptor) one.descriptor.attachments (λ j d less. refl))) at

      found : (a : Db.Attached) × (slice_get is.one.relation.attachments i ≡ Some a) × KeepsRule m s inst a (db_of kept)
      found = rule_there (λ x a. KeepsRule m s x a (db_of kept)) (rule_instance true is.one.name is.one.descriptor) is.one.descriptor.attachments is.one.relation.attachments i inst each_kept
          (ap (λ (l : List Instance). slice_get l i) (sym same) ∙ at)

  -- there are as many as instances, and as the descriptor has
  pub as_many : length is.one.relation.attachments ≡ length one.rules.items
  as_many = omega (
    arith,
    EachRule-length (IsKept m IsDurable s (db_of kept) is.one) is.one.descriptor.attachments is.one.relation.attachments each_kept,
    ap (λ (d : Descriptor). length d.attachments) is.same,
    length-map {B = Instance} one.descriptor.attachments (rule_instance true one.name one.descriptor),
    ap (λ (l : List Instance). length l) is.is.rules,
  )

  pub as_described : length is.one.relation.attachments ≡ length one.descriptor.attachments
  as_described = omega (
    arith,
    EachRule-length (IsKept m IsDurable s (db_of kept) is.one) is.one.descriptor.attachments is.one.relation.attachments each_kept,
    ap (λ (d : Descriptor). length d.attachments) is.same,
  )

-- ---- an attachment of the descriptor, and the one that is kept in its place
same_placed : (ds : List Attached) (others : List Db.Attached) (i : ℕ) (d : Attached) (a : Db.Attached) → map described ds ≡ map standing others → slice_get ds i ≡ Some d → slice_get others i ≡ Some a → described d ≡ standing a
same_placed [] others i d a same at there = absurd (cc)
same_placed (x ∷ ds) [] i d a same at there = absurd (cc)
same_placed (x ∷ ds) (y ∷ others) zero d a same at there =
    ap described (sym (same_Some x d at)) ∙ heads (described x) (standing y) (map described ds) (map standing others) same ∙ ap standing (same_Some y a there)
same_placed (x ∷ ds) (y ∷ others) (suc i) d a same at there = same_placed ds others i d a (tails (described x) (standing y) (map described ds) (map standing others) same) at there

pub record IsAs (d : Attached) (a : Db.Attached) : Type 0 where
  pub name : d.name ≡ a.name
  pub rule : d.rule ≡ a.rule

pub kept_as : (m : Meanings) (root : ℕ) (s : Slots) (gone : List ℕ) (kept : List Kept) (one : OpenRelation) (is : IsOpened m kept one) (i : ℕ) (d : Attached) (a : Db.Attached) → Keeps m IsDurable root s gone kept
    → slice_get one.descriptor.attachments i ≡ Some d → slice_get is.one.relation.attachments i ≡ Some a → IsAs d a
kept_as m root s gone kept one is i d a keeps at there = record { name = ap (λ (x : ℕ × Name × Rule). x.1) same; rule = ap (λ (x : ℕ × Name × Rule). x.2) same }
  where
    same : described d ≡ standing a
    same = same_placed is.one.descriptor.attachments is.one.relation.attachments i d a (kept_at-all (KeepsTable m IsDurable s) kept one.name is.one keeps.tables.each is.at).is.attachments
        (ap (λ (x : Descriptor). slice_get x.attachments i) is.same ∙ at) there

-- ---- the test of one entry
-- a rule that is tested at the commit holds by itself
holds_late : (b c : Option AttachRules) (db : Db.Db) (name : Name) (rule : Rule) → is_tested_late rule ≡ true → holds b db name rule ≡ holds c db name rule
holds_late b c db name (TreeIndex columns unique) late = refl
holds_late b c db name (HashIndex columns) late = refl
holds_late b c db name (JoinIndex side columns other others) late = refl
holds_late b c db name (Stats column low width) late = refl
holds_late b c db name (Check pred deferred) late = refl
holds_late b c db name (Refers side columns other others mode deferred) late = refl
holds_late b c db name (Trigger on pred act deferred) late = refl
holds_late b c db name (Foreign code desc) late = absurd (true≢false (sym late))

tells_said : (box : Attachment) (inst : Instance) (rule : Rule) (db : Db.Db) (entry : List ℕ) (buckets : ℕ) (view : View) (P after : Pages) (move : Move) → StandsOn box inst rule db → BeforeLate box inst rule db buckets view P
    → IsFinal (call.Late entry) move → Answers box inst (call.Late entry) view P after move → Tells db inst.relation rule entry (is_veto move)
tells_said box inst rule db entry buckets view P after Done stands before is says = says rule db stands buckets before
tells_said box inst rule db entry buckets view P after Veto stands before is says = λ other late. holds_late other (Some box.rules) db inst.relation rule late ∙ says rule db stands buckets before
tells_said box inst rule db entry buckets view P after (Acts now late checks) stands before is says = absurd is.may
tells_said box inst rule db entry buckets view P after (Need n) stands before is says = absurd is.last
tells_said box inst rule db entry buckets view P after Fresh stands before is says = absurd is.last
tells_said box inst rule db entry buckets view P after (After low) stands before is says = absurd is.last
tells_said box inst rule db entry buckets view P after (Find relation columns values) stands before is says = absurd is.last
tells_said box inst rule db entry buckets view P after NoRecord stands before is says = absurd is.may
tells_said box inst rule db entry buckets view P after Duplicate stands before is says = absurd is.may
tells_said box inst rule db entry buckets view P after Range stands before is says = absurd is.may
tells_said box inst rule db entry buckets view P after (Keyed key) stands before is says = absurd is.may
tells_said box inst rule db entry buckets view P after (Rowed key row) stands before is says = absurd is.may
tells_said box inst rule db entry buckets view P after (Entered first second) stands before is says = absurd is.may
tells_said box inst rule db entry buckets view P after (Sums sums) stands before is says = absurd is.may
tells_said box inst rule db entry buckets view P after (Hits keys) stands before is says = absurd is.may
tells_said box inst rule db entry buckets view P after End stands before is says = absurd is.may
tells_said box inst rule db entry buckets view P after (Broken page) stands before is says = absurd is.last
tells_said box inst rule db entry buckets view P after NoMemory stands before is says = absurd is.last

module _ (m : Meanings) (s : Slots) (kept : List Kept) (one : OpenRelation) (is : IsOpened m kept one) (i : ℕ) (inst : Instance) (box : Attachment) (placed : IsKeptAt m s kept one is i inst)
    (live : attachment_of inst.code m.attachments ≡ Some box) where
  same_box : placed.keeps.box ≡ box
  same_box = same_Some placed.keeps.box box (sym placed.keeps.live ∙ live)

  -- its pages hold its content
  pub kept_content : (content : Content) × Holds box inst (owned s inst.owner) content
  kept_content = (
    content_over placed.keeps.box inst placed.a.rule (db_of kept) placed.a.buckets,
    subst (λ (b : Attachment). Holds b inst (owned s inst.owner) (content_over placed.keeps.box inst placed.a.rule (db_of kept) placed.a.buckets)) same_box placed.keeps.holds,
  )

  pub kept_tells : {S : Type 0} (Has : Wanted → Slots → S → Type 0) (want : Wanted) (new : S) (entry : List ℕ) (move : Move) → IsFinal (call.Late entry) move
      → Leaves Has inst.owner want s new (λ after. IsAsked box inst (call.Late entry) (db_of kept) (owned s inst.owner) after move)
      → (a : Db.Attached) → slice_get is.one.relation.attachments i ≡ Some a → Tells (db_of kept) one.name a.rule entry (is_veto move)
  kept_tells Has want new entry move final left a at =
      let asked = left.own in
      let answers = subst (λ (b : Attachment). Answers b inst (call.Late entry) asked.view (owned s inst.owner) (owned left.slots inst.owner) move) (sym same_box) asked.answers in
      let said = tells_said placed.keeps.box inst placed.a.rule (db_of kept) entry placed.a.buckets asked.view (owned s inst.owner) (owned left.slots inst.owner) move placed.keeps.stands
      (record { found = asked.found; content = placed.keeps.holds }) final answers in
      subst (λ (n : Name). Tells (db_of kept) n a.rule entry (is_veto move)) placed.named
      (subst (λ (x : Db.Attached). Tells (db_of kept) inst.relation x.rule entry (is_veto move)) (same_Some placed.a a (sym placed.at ∙ at)) said)

-- of an entry of its own, or of another's
pub tells_own : (db : Db.Db) (relation : Name) (a : Db.Attached) (e : Entry) (fails : Bool) → Tells db relation a.rule e.entry fails → TellsOwn db relation a e fails
tells_own db relation a e true tells = tells
tells_own db relation a e false tells = λ own. tells

pub tells_false : (db : Db.Db) (relation : Name) (rule : Rule) (entry : List ℕ) (fails : Bool) → fails ≡ false → Tells db relation rule entry fails → entry_fails db relation rule entry ≡ false
tells_false db relation rule entry true is tells = absurd (true≢false is)
tells_false db relation rule entry false is tells = tells

-- ---- all entries of a rule
own_is : (relation name : Name) (rule : Rule) (e : Entry) → is_of relation name e ≡ true → is_own relation name rule e ≡ true
own_is relation name (TreeIndex columns unique) e of = of
own_is relation name (HashIndex columns) e of = of
own_is relation name (JoinIndex side columns other others) e of = of
own_is relation name (Stats column low width) e of = of
own_is relation name (Check pred deferred) e of = of
own_is relation name (Refers Main columns other others mode deferred) e of = or_left (is_of relation name e) (is_of other (mirror_name relation name) e) of
own_is relation name (Refers Mirror columns other others mode deferred) e of = of
own_is relation name (Trigger on pred act deferred) e of = of
own_is relation name (Foreign code desc) e of = of

-- none of those that wait fails
abbrev pub EachPasses : Db.Db → Queue → Name → Name → Rule → Type 0
EachPasses db q relation name rule = (j : ℕ) (e : Entry) → slice_get q.entries j ≡ Some e → is_own relation name rule e ≡ true → entry_fails db relation rule e.entry ≡ false

none_of : (db : Db.Db) (q : Queue) (relation name : Name) (rule : Rule) (owner label : Name) → EachPasses db q relation name rule → ((e : Entry) → is_of owner label e ≡ true → is_own relation name rule e ≡ true)
    → (entry : List ℕ) → IsWaiting q owner label entry → entry_fails db relation rule entry ≡ false
none_of db q relation name rule owner label each own entry waits =
    let found = any_placed (is_entry (check_of owner label entry)) q.entries waits in
    let same = (entry_same (check_of owner label entry) found.1).0 found.3 in
    let itself : is_of owner label (check_of owner label entry) ≡ true = and_from _ _ ((bytes_same owner owner).1 refl) ((bytes_same label label).1 refl) in
    subst (λ (e : Entry). entry_fails db relation rule e.entry ≡ false) (sym same) (each found.0 found.1 found.2 (own found.1 (subst (λ (e : Entry). is_of owner label e ≡ true) same itself)))

none_mirrored : (db : Db.Db) (q : Queue) (relation name : Name) (rule : Rule) → is_tested_late rule ≡ true → EachPasses db q relation name rule → NoneFailsOf db q (mirror_name relation name) (mirror_of relation rule)
none_mirrored db q relation name (TreeIndex columns unique) late each = tt
none_mirrored db q relation name (HashIndex columns) late each = tt
none_mirrored db q relation name (JoinIndex side columns other others) late each = absurd (true≢false (sym late))
none_mirrored db q relation name (Stats column low width) late each = tt
none_mirrored db q relation name (Check pred deferred) late each = tt
none_mirrored db q relation name (Refers Main columns other others mode deferred) late each = λ entry waits.
    none_of db q relation name (Refers Main columns other others mode deferred) other (mirror_name relation name) each (λ e of. or_right (is_of relation name e) (is_of other (mirror_name relation name) e) of) entry waits
none_mirrored db q relation name (Refers Mirror columns other others mode deferred) late each = tt
none_mirrored db q relation name (Trigger on pred act deferred) late each = tt
none_mirrored db q relation name (Foreign code desc) late each = tt

pub fails_none : (ext : Extensions) (db : Db.Db) (q : Queue) (relation : Name) (i : ℕ) (a : Db.Attached) → IsComplete db q → slice_get (attachments_at db relation) i ≡ Some a → is_tested_late a.rule ≡ true
    → EachPasses db q relation a.name a.rule → fails_late ext db relation a ≡ false
fails_none ext db q relation i a complete at late each =
    let held : holds (box_of ext a.rule) db relation a.rule ≡ true =
    placed_all (HoldsWhereNoneFails ext db q relation) (attachments_at db relation) i a (nothing-fails ext db q complete relation) at late
    (λ entry waits. none_of db q relation a.name a.rule relation a.name each (λ e of. own_is relation a.name a.rule e of) entry waits) (none_mirrored db q relation a.name a.rule late each) in
    λ j. late j && not (held j)

-- an entry that fails
pub fails_some : (ext : Extensions) (db : Db.Db) (relation : Name) (a : Db.Attached) → is_tested_late a.rule ≡ true → ((box : Option AttachRules) → is_tested_late a.rule ≡ true → holds box db relation a.rule ≡ false)
    → fails_late ext db relation a ≡ true
fails_some ext db relation a late fails = let it = fails (box_of ext a.rule) late in λ j. late j && not (it j)

pub fails_not : (ext : Extensions) (db : Db.Db) (relation : Name) (a : Db.Attached) → is_tested_late a.rule ≡ false → fails_late ext db relation a ≡ false
fails_not ext db relation a early = λ j. early j && not (holds (box_of ext a.rule) db relation a.rule)

-- ---- the attachments of a relation
pub attachments_kept : (kept : List Kept) (name : Name) (k : Kept) → kept_at kept name ≡ Some k → attachments_at (db_of kept) name ≡ k.relation.attachments
attachments_kept kept name k at = ap (λ (o : Option Relation). elim o as (λ _. List Db.Attached) [ None ↦ [] | Some r ↦ r.attachments ]) (relation_at-there kept name k at)

none_kept : (o : Option Kept) → None ≡ option_map (λ (k : Kept). k.descriptor) o → o ≡ None
none_kept None is = refl
none_kept (Some k) is = absurd (cc)

-- an entry of a relation that isn't there fails nowhere
pub nowhere_none : (kept : List Kept) (e : Entry) → None ≡ option_map (λ (k : Kept). k.descriptor) (kept_at kept e.relation) → FailsNowhere (db_of kept) e
nowhere_none kept e none =
    let gone : attachments_at (db_of kept) e.relation ≡ [] = ap (λ (o : Option Relation). elim o as (λ _. List Db.Attached) [ None ↦ [] | Some r ↦ r.attachments ])
    (relation_at-none kept e.relation (none_kept (kept_at kept e.relation) none)) in
    subst (λ (l : List Db.Attached). All (λ a. a.name ≡ e.name → entry_fails (db_of kept) e.relation a.rule e.entry ≡ false) l) (sym gone) (All-nil (λ (a : Db.Attached). a.name ≡ e.name → entry_fails (db_of kept) e.relation a.rule e.entry ≡ false))

-- of one that is there, by its attachments
pub nowhere_there : (m : Meanings) (kept : List Kept) (one : OpenRelation) (e : Entry) (is : IsOpened m kept one) → one.name ≡ e.relation
    → All (λ a. a.name ≡ e.name → entry_fails (db_of kept) one.name a.rule e.entry ≡ false) is.one.relation.attachments → FailsNowhere (db_of kept) e
nowhere_there m kept one e is named all =
    subst (λ (n : Name). All (λ a. a.name ≡ e.name → entry_fails (db_of kept) n a.rule e.entry ≡ false) (attachments_at (db_of kept) n)) named
    (subst (λ (l : List Db.Attached). All (λ a. a.name ≡ e.name → entry_fails (db_of kept) one.name a.rule e.entry ≡ false) l) (sym (attachments_kept kept one.name is.one is.at)) all)

-- ---- the first that fails among the attachments of a relation
some_if : (t : Bool) (x y : Name) → Some y ≡ cond t (Some x) None → (t ≡ true) × (y ≡ x)
some_if true x y is = (refl, same_Some y x is)
some_if false x y is = absurd (cc)

none_if : (t : Bool) (x : Name) → None ≡ cond t (Some x) None → t ≡ false
none_if true x is = absurd (cc)
none_if false x is = refl

pub late_passes : (ext : Extensions) (db : Db.Db) (relation : Name) (a : Db.Attached) → None ≡ cond (fails_late ext db relation a) (Some a.name) None → fails_late ext db relation a ≡ false
late_passes ext db relation a is = none_if (fails_late ext db relation a) a.name is

pub late_found : (ext : Extensions) (db : Db.Db) (k : Kept) (relation : Name) (i : ℕ) (a : Db.Attached) (label : Name) → k.name ≡ relation → slice_get k.relation.attachments i ≡ Some a
    → Some label ≡ cond (fails_late ext db relation a) (Some a.name) None → ((j : ℕ) → j < i → (b : Db.Attached) → slice_get k.relation.attachments j ≡ Some b → fails_late ext db relation b ≡ false)
    → Some label ≡ first_late ext db k
late_found ext db k relation i a label named at is below =
    let it = some_if (fails_late ext db relation a) a.name label is in
    let found = find_first (fails_late ext db relation) k.relation.attachments i a at it.0 below in
    subst (λ (n : Name). Some label ≡ option_map (λ (x : Db.Attached). x.name) (find (fails_late ext db n) k.relation.attachments)) (sym named)
    (ap (λ (n : Name). Some n) it.1 ∙ sym (ap (λ (o : Option Db.Attached). option_map (λ (x : Db.Attached). x.name) o) found))

pub late_none : (ext : Extensions) (db : Db.Db) (k : Kept) (relation : Name) (n : ℕ) → k.name ≡ relation → length k.relation.attachments ≤ n
    → ((j : ℕ) → j < n → (b : Db.Attached) → slice_get k.relation.attachments j ≡ Some b → fails_late ext db relation b ≡ false) → None ≡ first_late ext db k
late_none ext db k relation n named le below =
    subst (λ (x : Name). None ≡ option_map (λ (a : Db.Attached). a.name) (find (fails_late ext db x) k.relation.attachments)) (sym named)
    (sym (ap (λ (o : Option Db.Attached). option_map (λ (x : Db.Attached). x.name) o) (find_none (fails_late ext db relation) k.relation.attachments n le below)))

-- the name of an open relation is that of the one that is kept
pub kept_name : (m : Meanings) (kept : List Kept) (one : OpenRelation) (is : IsOpened m kept one) → is.one.name ≡ one.name
kept_name m kept one is = kept_at-name kept one.name is.one is.at

-- none of its entries fails
pub passes_all : (m : Meanings) (kept : List Kept) (one : OpenRelation) (is : IsOpened m kept one) (ext : Extensions) (q : Queue) (i n : ℕ) (a : Db.Attached) → IsComplete (db_of kept) q → slice_get is.one.relation.attachments i ≡ Some a
    → is_tested_late a.rule ≡ true → length q.entries ≤ n → ((j : ℕ) → j < n → (e : Entry) → slice_get q.entries j ≡ Some e → TellsOwn (db_of kept) one.name a e false) → fails_late ext (db_of kept) one.name a ≡ false
passes_all m kept one is ext q i n a complete there late le each =
    fails_none ext (db_of kept) q one.name i a complete (ap (λ (l : List Db.Attached). slice_get l i) (attachments_kept kept one.name is.one is.at) ∙ there) late
    (λ j e waits own. let below = placed_below q.entries j e waits in each j (omega (arith, below, le)) e waits own)

-- one of them does
pub fails_by : (ext : Extensions) (db : Db.Db) (relation : Name) (a : Db.Attached) (q : Queue) (j : ℕ) → j < length q.entries → is_tested_late a.rule ≡ true
    → ((e : Entry) → slice_get q.entries j ≡ Some e → TellsOwn db relation a e true) → fails_late ext db relation a ≡ true
fails_by ext db relation a q j below late tells = let e = placed_some q.entries j below in fails_some ext db relation a late (tells e.0 e.1)

-- an entry that isn't the attachment's
pub not_own : (relation : Name) (d : Attached) (a : Db.Attached) (x e : Entry) → IsAs d a → x ≡ e → is_own relation d.name d.rule x ≡ false → is_own relation a.name a.rule e ≡ true → ⊥
not_own relation d a x e alike same other own =
    let moved : is_own relation d.name d.rule x ≡ is_own relation a.name a.rule e = λ j. is_own relation (alike.name j) (alike.rule j) (same j) in
    true≢false (sym own ∙ sym moved ∙ other)
