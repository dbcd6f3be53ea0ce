-- What is seen is what the definitions say.
use Rattle.std.proofs.Common.{◌≡◌, ℕ, ◌||◌, Bool, true, false, true≢false, cond, List, [], ◌∷◌, map, All, Option, Some, None, is_some, option_map, bytes_eq, length, drop, refl, sym, ap, ◌∙◌, subst}
use Rattle.std.specs.List.{list_any, slice_get}
use Rattle.std.proofs.lemmas.List.{length-map}
use Rattle.std.proofs.lemmas.List.Elements.{All-head, All-tail}
use Rattle.sb_rule.specs.declared.action.Action.{Action}
use Rattle.sb_relation.specs.Db.{Name, Relation, Db, relation_at}
use Rattle.sb_catalog.specs.declared.descriptor.Descriptor.{Descriptor}
use Rattle.sb_plain.specs.State.{Codes, Point, State, Transaction, codes_of, has_code, has_waiting, is_point, no_queue, points_of}
use Rattle.sb_refusals.specs.Catalogue.{Describes, IsFirst, above, is_above, is_damage, is_free}
use Rattle.sb_registry.specs.Boxes.{Meanings}
use Rattle.sb_registry.specs.Runs.{IsSound}
use Rattle.sb_drive.specs.declared.space.SpaceFault.{SpaceFault}
use Rattle.sb_drive.specs.declared.space.SpaceFault.TheVariants as fault
use Rattle.sb_drive.specs.Slots.{Slots}
use Rattle.sb_standing.specs.Tables as standing
use Rattle.sb_standing.specs.Tables.{Kept, KeepsTable, Tables, db_of, first_above, kept_at}
use Rattle.sb_standing.proofs.KeptLemmas.{kept_at-all, relation_at-kept}
use Rattle.sb_engine.specs.Opened.{IsDurable, kept_header}
use Rattle.sb_vectors.specs.Vectors.{codes_in, has_box, live_codes, spare_codes}
use Rattle.sb_vectors.proofs.BoxLemmas.{has_box-codes}
use Rattle.sb_fold.specs.Extensions.{box_of}
use Rattle.sb_fold.specs.Outcome.{Going, Gone, Queue}
use Rattle.sb_deferred.specs.Complete.{AreMirrored, IsComplete}
use Rattle.sb_cascade.specs.Fitting.{AllFit, AllMayStand}
use Rattle.sb_cascade.specs.Runs.{is_room}
use Rattle.sb_drive.specs.Spaces.{IsReadFault, Wanted}
use Rattle.sb_session.specs.declared.session.Savepoint.{Savepoint}
use Rattle.sb_engine.specs.declared.running.Work.{Work}
use Rattle.sb_engine.specs.Refusals.{refusal_of}
use Rattle.sb_engine.specs.OpenRelation.{OpenRelation}
use Rattle.sb_engine.specs.Measures.{AreHeld}
use Rattle.sb_engine.specs.Working.{AreNamedApart, AreOpened, ArePaired, IsNoneGone, IsOpened, IsPaid, Stands, extensions_of, left_of, open_at}
use Rattle.sb_engine.proofs.OpenedLemmas.{open_at-all, open_at-name}
use Rattle.sb_engine.proofs.LateLemmas.{drop_first, drop_none}
use Rattle.sb_execution.specs.Serving.{IsSeenIn, waiting_in}

-- ---- descriptors
pub describes : (m : Meanings) (root : ℕ) (s : Slots) (kept : List Kept) (name : Name) (db : Db) (d : Option Descriptor) → db ≡ db_of kept → Tables m IsDurable root s kept
    → d ≡ option_map (λ k. k.descriptor) (kept_at kept name) → Describes (relation_at db name) d
describes m root s kept name db d same tables is =
    subst (λ (x : Option Descriptor). Describes (relation_at db name) x) (sym is)
    (subst (λ (r : Option Relation). Describes r (option_map (λ (k : Kept). k.descriptor) (kept_at kept name))) (sym (ap (λ (x : Db). relation_at x name) same ∙ relation_at-kept kept name))
    (of_kept (kept_at kept name) refl))
  where
    of_kept : (o : Option Kept) → kept_at kept name ≡ o → Describes (option_map (λ (k : Kept). k.relation) o) (option_map (λ (k : Kept). k.descriptor) o)
    of_kept None at = tt
    of_kept (Some k) at = (kept_at-all (KeepsTable m IsDurable s) kept name k tables.each at).is

-- that of an open relation is the one that the pages keep
pub described : (m : Meanings) (kept : List Kept) (opened : List OpenRelation) (name : Name) (one : OpenRelation) → AreOpened m kept opened
    → open_at opened name ≡ Some one → Some one.descriptor ≡ option_map (λ k. k.descriptor) (kept_at kept name)
described m kept opened name one are at =
    let is = open_at-all (IsOpened m kept) opened name one are at in
    sym (subst (λ (n : Name). option_map (λ (k : Kept). k.descriptor) (kept_at kept n) ≡ Some one.descriptor) (open_at-name opened name one at)
    (ap (λ (o : Option Kept). option_map (λ (k : Kept). k.descriptor) o) is.at ∙ ap (λ (d : Descriptor). Some d) is.same))

same_above : (low : Option Name) (name : Name) → is_above low name ≡ standing.is_above low name
same_above None name = refl
same_above (Some x) name = refl

first_kept : (m : Meanings) (s : Slots) (low : Option Name) (kept : List Kept) → All (KeepsTable m IsDurable s) kept
    → IsFirst (above low (db_of kept)) (option_map kept_header (first_above low kept))
first_kept m s low [] all = tt
first_kept m s low (k ∷ kept) all =
    subst (λ (b : Bool). IsFirst (cond b ((k.name, k.relation) ∷ above low (db_of kept)) (above low (db_of kept))) (option_map kept_header (first_above low (k ∷ kept))))
    (sym (same_above low k.name)) (of_test (standing.is_above low k.name) (first_kept m s low kept (All-tail (KeepsTable m IsDurable s) k kept all)))
  where
    of_test : (b : Bool) → IsFirst (above low (db_of kept)) (option_map kept_header (first_above low kept))
        → IsFirst (cond b ((k.name, k.relation) ∷ above low (db_of kept)) (above low (db_of kept))) (option_map kept_header (cond b (Some k) (first_above low kept)))
    of_test true rest = (refl, (All-head (KeepsTable m IsDurable s) k kept all).is)
    of_test false rest = rest

pub is_first : (m : Meanings) (root : ℕ) (s : Slots) (kept : List Kept) (low : Option Name) (db : Db) (x : Option (Name × Descriptor)) → db ≡ db_of kept
    → Tables m IsDurable root s kept → x ≡ option_map kept_header (first_above low kept) → IsFirst (above low db) x
is_first m root s kept low db x same tables is =
    subst (λ (y : Option (Name × Descriptor)). IsFirst (above low db) y) (sym is)
    (subst (λ (d : Db). IsFirst (above low d) (option_map kept_header (first_above low kept))) (sym same) (first_kept m s low kept tables.each))

-- ---- codes
pub same_code : (m : Meanings) (s : State) (live method : Bool) (code : ℕ) → s.live ≡ live_codes m → s.spare ≡ spare_codes m → has_box m live method code ≡ has_code (codes_of method (cond live s.live s.spare)) code
same_code m s live method code live_is spare_is = has_box-codes m live method code ∙ ap (λ (l : List ℕ). has_code l code) (of_kind live method)
  where
    of_kind : (live method : Bool) → codes_in m live method ≡ codes_of method (cond live s.live s.spare)
    of_kind true true = sym (ap (λ (c : Codes). c.methods) live_is)
    of_kind true false = sym (ap (λ (c : Codes). c.attachments) live_is)
    of_kind false true = sym (ap (λ (c : Codes). c.methods) spare_is)
    of_kind false false = sym (ap (λ (c : Codes). c.attachments) spare_is)

-- ---- savepoints
any_named : {X : Type 0} (of : X → Name) (name : Name) (xs : List X) → list_any (λ x. bytes_eq (of x) name) xs ≡ list_any (λ n. bytes_eq n name) (map of xs)
any_named of name [] = refl
any_named of name (x ∷ xs) = ap (λ (t : Bool). bytes_eq (of x) name || t) (any_named of name xs)

module _ (points : List Savepoint) (s : State) (same : map (λ p. p.name) points ≡ map (λ p. p.name) (points_of s)) where
  pub as_many : length points ≡ length (points_of s)
  as_many = sym (length-map points (λ (p : Savepoint). p.name)) ∙ ap (λ (l : List Name). length l) same ∙ length-map (points_of s) (λ (p : Point). p.name)

  pub any_point : (name : Name) → list_any (λ p. bytes_eq p.name name) points ≡ list_any (is_point name) (points_of s)
  any_point name =
      any_named (λ (p : Savepoint). p.name) name points ∙ ap (λ (l : List Name). list_any (λ n. bytes_eq n name) l) same
      ∙ sym (any_named (λ (p : Point). p.name) name (points_of s))

-- ---- what waits
abbrev is_more : {X : Type 0} → List X → Bool
is_more [] = false
is_more (x ∷ xs) = true

waits_in : (s : State) → has_waiting s ≡ is_more (waiting_in s).actions
waits_in s = of_open s.transaction
  where
    of_actions : (actions : List Action) → elim actions as (λ _. Bool) [ [] ↦ false | a ∷ more ↦ true ] ≡ is_more actions
    of_actions [] = refl
    of_actions (a ∷ actions) = refl

    of_open : (o : Option Transaction)
        → elim o as (λ _. Bool) [ None ↦ false | Some t ↦ elim t.queue.actions as (λ _. Bool) [ [] ↦ false | a ∷ more ↦ true ] ]
        ≡ is_more (elim o as (λ _. Queue) [ None ↦ no_queue | Some t ↦ t.queue ]).actions
    of_open None = refl
    of_open (Some t) = of_actions t.queue.actions

is_more-drop : {X : Type 0} (n : ℕ) (xs : List X) → is_some (slice_get xs n) ≡ is_more (drop n xs)
is_more-drop {X} n xs = of_found (slice_get xs n) refl
  where
    of_found : (o : Option X) → slice_get xs n ≡ o → is_some o ≡ is_more (drop n xs)
    of_found None at = sym (ap (λ (l : List X). is_more l) (drop_none n xs at))
    of_found (Some x) at = sym (ap (λ (l : List X). is_more l) (drop_first n xs x at))

pub waits_left : (s : State) (w : Work) (g : Going) → waiting_in s ≡ g.queue → left_of w ≡ g.queue → is_some (slice_get w.queue.actions w.done) ≡ has_waiting s
waits_left s w g waits left =
    is_more-drop w.done w.queue.actions ∙ ap (λ (q : Queue). is_more q.actions) left ∙ ap (λ (q : Queue). is_more q.actions) (sym waits) ∙ sym (waits_in s)

pub none_waits : (s : State) (g : Going) → waiting_in s ≡ g.queue → has_waiting s ≡ false → g.queue.actions ≡ []
none_waits s g waits none = of_actions g.queue.actions (ap (λ (q : Queue). is_more q.actions) (sym waits) ∙ sym (waits_in s) ∙ none)
  where
    of_actions : (actions : List Action) → is_more actions ≡ false → actions ≡ []
    of_actions [] is = refl
    of_actions (a ∷ actions) is = absurd (true≢false is)

-- ---- work that stands
module _ {S : Type 0} (Has : Wanted → Slots → S → Type 0) (Spent : ℕ → S → Type 0) (m : Meanings) (root : ℕ) where
  -- over a space that has the same pages, and of which no more was spent
  pub stands-same : (g : Going) (a b : S) (w : Work) (stands : Stands Has Spent m root g a w) → Has stands.want stands.slots b → IsPaid Spent 0 g.trail.spent b
      → Stands Has Spent m root g b w
  stands-same g a b w stands has paid = record {
    want = stands.want;
    slots = stands.slots;
    kept = stands.kept;
    has = has;
    db = stands.db;
    keeps = stands.keeps;
    lasting = stands.lasting;
    mirrored = stands.mirrored;
    paired = stands.paired;
    complete = stands.complete;
    opened = stands.opened;
    waits = stands.waits;
    picked = stands.picked;
    gone = stands.gone;
    aside = stands.aside;
    paid = paid;
    apart = stands.apart;
    rules = stands.rules;
    fit = stands.fit;
  }

  -- for work of which the same is told, and which has paid as well
  stands-going : (g h : Going) (a : S) (w : Work) → g.db ≡ h.db → g.queue ≡ h.queue → g.used ≡ h.used → g.gone ≡ h.gone → IsPaid Spent 0 h.trail.spent a
      → Stands Has Spent m root g a w → Stands Has Spent m root h a w
  stands-going g h a w db queue used gone paid stands = record {
    want = stands.want;
    slots = stands.slots;
    kept = stands.kept;
    has = stands.has;
    db = sym db ∙ stands.db;
    keeps = stands.keeps;
    lasting = stands.lasting;
    mirrored = subst (λ (d : Db). AreMirrored d) db stands.mirrored;
    paired = subst (λ (d : Db). ArePaired d) db stands.paired;
    complete = subst (λ (d : Db). IsComplete d h.queue) db (subst (λ (q : Queue). IsComplete g.db q) queue stands.complete);
    opened = stands.opened;
    waits = stands.waits ∙ queue;
    picked = stands.picked ∙ used;
    gone = λ none. stands.gone (subst (λ (x : Gone). IsNoneGone x) (sym gone) none);
    aside = subst (λ (x : Gone). AreHeld stands.slots w.gone.items x.durable) gone stands.aside;
    paid = paid;
    apart = subst (λ (d : Db). AreNamedApart d) db stands.apart;
    rules = subst (λ (d : Db). AllMayStand (box_of (extensions_of m)) d) db stands.rules;
    fit = subst (λ (d : Db). AllFit d h.queue.actions) db (subst (λ (q : Queue). AllFit g.db q.actions) queue stands.fit);
  }

  -- where both are the work of one state, the one stands where the other does
  pub stands-seen : (inside other : Bool) (points others : List Savepoint) (s : State) (g h : Going) (a b : S) (v w : Work) → w ≡ v
      → IsSeenIn m inside points s g → Stands Has Spent m root g a v → IsSeenIn m other others s h → IsPaid Spent 0 g.trail.spent b → Stands Has Spent m root h b w
      → Stands Has Spent m root g b v
  stands-seen inside other points others s g h a b v w same seen stands again paid then =
      subst (λ (x : Work). Stands Has Spent m root g b x) same
      (stands-going h g b w (sym again.db ∙ seen.db) (sym again.queue ∙ seen.queue)
      (sym then.picked ∙ ap (λ (x : Work). x.picks.items) same ∙ stands.picked) (sym again.gone ∙ seen.gone) paid then)

-- ---- refusals
-- no definition gives it
pub free_refusal : (e : SpaceFault) → is_free (refusal_of e) ≡ true
free_refusal fault.Fault = refl
free_refusal (fault.DataFull used total) = refl
free_refusal (fault.TempFull used total) = refl
free_refusal (fault.LogFull used need total) = refl
free_refusal (fault.GatesFull used total) = refl
free_refusal (fault.Damaged page) = refl
free_refusal fault.Down = refl
free_refusal fault.NoMemory = refl

-- to a look no room is wanting
pub look_refusal : (e : SpaceFault) → IsReadFault e → is_room (refusal_of e) ≡ false
look_refusal fault.Fault reads = refl
look_refusal (fault.DataFull used total) reads = absurd reads
look_refusal (fault.TempFull used total) reads = absurd reads
look_refusal (fault.LogFull used need total) reads = absurd reads
look_refusal (fault.GatesFull used total) reads = absurd reads
look_refusal (fault.Damaged page) reads = refl
look_refusal fault.Down reads = refl
look_refusal fault.NoMemory reads = refl

-- that no page is called damaged is so of the refusal too
pub undamaged_refusal : (e : SpaceFault) → IsSound e → is_damage (refusal_of e) ≡ false
undamaged_refusal fault.Fault sound = refl
undamaged_refusal (fault.DataFull used total) sound = refl
undamaged_refusal (fault.TempFull used total) sound = refl
undamaged_refusal (fault.LogFull used need total) sound = refl
undamaged_refusal (fault.GatesFull used total) sound = refl
undamaged_refusal (fault.Damaged page) sound = absurd sound
undamaged_refusal fault.Down sound = refl
undamaged_refusal fault.NoMemory sound = refl
