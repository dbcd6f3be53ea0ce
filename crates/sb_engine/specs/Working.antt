-- What an engine at work on a transaction stands for.
use Rattle.std.specs.Prelude.{◌≡◌, ℕ, ◌+◌, ◌<◌, ◌≤◌, List, [], ◌∷◌, ◌++◌, length, map, filter, drop, take, All, Option, Some, None, sum_by, bytes_eq}
use Rattle.std.specs.List.{Any, find, flat_map}
use Rattle.sb_pred.specs.Typing.{term_kind}
use Rattle.std.specs.Prelude.{true, false}
use Rattle.sb_rule.specs.declared.action.Action.{Action}
use Rattle.sb_rule.specs.declared.change.Change.{Change}
use Rattle.sb_rule.specs.declared.rule.Rule.{Rule}
use Rattle.sb_relation.specs.Build.{main_of, mirror_name}
use Rattle.sb_relation.specs.Db.{Name, Attached, Db}
use Rattle.sb_relation.specs.Fits.{action_fits, action_places, first_unnamed, relation_of}
use Rattle.sb_relation.specs.Rules.{late_actions, late_checks}
use Rattle.sb_fold.specs.Building.{rule_at}
use Rattle.sb_fold.specs.Costs.{rule_cost}
use Rattle.sb_fold.specs.Extensions.{Extensions, box_of}
use Rattle.sb_fold.specs.Fold.{attachments_at}
use Rattle.sb_fold.specs.Need.{need}
use Rattle.sb_fold.specs.Outcome.{Going, Gone, Queue, Reached, Trail, with_waiting}
use Rattle.sb_fold.specs.Wishes.{Wish}
use Rattle.sb_deferred.specs.Complete.{AreMirrored, IsComplete}
use Rattle.sb_deferred.specs.Waiting.{check_of, IsFront}
use Rattle.sb_cascade.specs.Fitting.{AllFit, AllMayStand}
use Rattle.sb_registry.specs.Boxes.{Meanings}
use Rattle.sb_fold.specs.declared.refusal.Refusal.{Refusal}
use Rattle.sb_fold.specs.declared.refusal.Refusal.TheVariants as refusal
use Rattle.sb_fold.specs.declared.refusal.Room.TheVariants.{Data}
use Rattle.sb_drive.specs.declared.space.SpaceFault.{SpaceFault}
use Rattle.sb_ctx.specs.Pages.{page_count}
use Rattle.sb_drive.specs.Slots.{Slots, owned}
use Rattle.sb_drive.specs.Spaces.{LeadsOn, Wanted}
use Rattle.sb_asking.specs.Place.{Place}
use Rattle.sb_standing.specs.Tables.{Kept, db_of, kept_at}
use Rattle.sb_standing.specs.Standing.{Keeps}
use Rattle.sb_standing.specs.Asked.{Asks, changed_kept}
use Rattle.sb_catalog.specs.declared.descriptor.Descriptor.{Descriptor}
use Rattle.sb_relation.specs.Keys.{Counted, keying_of}
use Rattle.sb_ctx.specs.Attachment.{AreLawful}
use Rattle.sb_asking.specs.OpenRelation.{OpenRelation}
use Rattle.sb_asking.specs.Opened.{IsDurable, IsOpen}
use Rattle.sb_wishes.specs.Wished.{MayBeWished}
use Rattle.sb_wishes.specs.Outcomes.{MayBeMade}
use Rattle.sb_engine.specs.declared.running.Running.{Running}
use Rattle.sb_engine.specs.declared.running.Work.{Work}
use Rattle.sb_engine.specs.Refusals.{HasRefusalCause}
pub use Rattle.sb_weights.specs.Rooms.{extensions_of}
use Rattle.sb_weights.specs.Measures.{AreHeld}
use Rattle.sb_weights.specs.Weights.{changing}

-- ---- what is open
-- the open relation of a name
abbrev pub open_at : List OpenRelation → Name → Option OpenRelation
open_at opened name = find (λ o. bytes_eq o.name name) opened

-- an open relation is kept, with its descriptor
pub record IsOpened (m : Meanings) (kept : List Kept) (o : OpenRelation) : Type 0 where
  pub is : IsOpen m o
  pub one : Kept
  pub at : kept_at kept o.name ≡ Some one
  pub same : one.descriptor ≡ o.descriptor

abbrev pub AreOpened : Meanings → List Kept → List OpenRelation → Type 0
AreOpened m kept opened = All (IsOpened m kept) opened

-- ---- what may be done, by the relations that are open
-- an open relation has the action's name, and its columns the names and the kinds of the action's terms, which are values
pub record MayDo (opened : List OpenRelation) (a : Action) : Type 0 where
  pub one : OpenRelation
  pub at : open_at opened (relation_of a) ≡ Some one
  pub named : first_unnamed (action_places one.descriptor.schema [] a) ≡ None
  pub fits : action_fits one.descriptor.schema (term_kind [] false false) a ≡ true

-- a row that is wished fits the columns of an open relation
pub record MayWish (opened : List OpenRelation) (name : Name) (wish : Wish) : Type 0 where
  pub one : OpenRelation
  pub at : open_at opened name ≡ Some one
  pub fits : MayBeWished one.descriptor.schema wish

-- a change is one that an open relation may have
pub record MayAsk (opened : List OpenRelation) (name : Name) (c : Change) : Type 0 where
  pub one : OpenRelation
  pub at : open_at opened name ≡ Some one
  pub made : MayBeMade one.descriptor.schema one.descriptor.attachments c

-- ---- what is gone
-- nothing was dropped or detached
pub record IsNoneGone (gone : Gone) : Type 0 where
  pub durable : gone.durable ≡ []
  pub others : gone.others ≡ []

-- ---- what waits
-- the actions that weren't taken out yet, and all entries
abbrev pub left_of : Work → Queue
left_of w = record { actions = drop w.done w.queue.actions; entries = w.queue.entries }

-- what waits once some attachments of the changed relation have queued what is late
abbrev pub queue_of : List Attached → Name → Change → Going → Queue
queue_of asked name c g = record {
  actions = g.queue.actions ++ flat_map (λ a. late_actions g.db name a.rule c) asked;
  entries = with_waiting g.queue.entries (flat_map (λ a. map (λ entry. check_of name a.name entry) (late_checks g.db name a.rule c)) asked);
}

-- the first so many of them
abbrev pub queue_first : ℕ → Name → Change → Going → Queue
queue_first i name c g = queue_of (take i (attachments_at g.db name)) name c g

-- ---- mirrors
-- a mirror has its main instance, of whose relation and name its own name is made
pub record HasMain (db : Db) (a : Attached) (other : Name) (rule : Rule) : Type 0 where
  pub main : Attached
  pub at : rule_at db other main.name ≡ Some main
  pub is : main.rule ≡ rule
  pub named : a.name ≡ mirror_name other main.name

abbrev pub HasMainOf : Db → Attached → Option (Name × Rule) → Type 0
HasMainOf db a None = Unit {0}
HasMainOf db a (Some (other, rule)) = HasMain db a other rule

-- each mirror of a relation has its main instance
abbrev pub ArePaired : Db → Type 0
ArePaired db = (relation : Name) → All (λ a. HasMainOf db a (main_of relation a.rule)) (attachments_at db relation)

-- ---- names of attachments
-- no two attachments of a relation have one name
abbrev pub AreNamedApart : Db → Type 0
AreNamedApart db = (relation label : Name) → length (filter (λ a. bytes_eq a.name label) (attachments_at db relation)) ≤ 1

-- ---- what was changed
-- A trail that has paid for so many changes: fewer were made, and fewer still where so many are left to come.
pub record IsPaid {S : Type 0} (Spent : ℕ → S → Type 0) (rest paid : ℕ) (space : S) : Type 0 where
  pub changes : ℕ
  pub within : changes + rest < paid
  pub spent : Spent changes space

-- what a change of a relation costs at its attachments, from this one on, over the database before
abbrev pub cost_from : Extensions → Db → Name → Change → ℕ → ℕ
cost_from ext db name c i = sum_by (λ a. rule_cost ext db name a.rule a.buckets c) (drop i (attachments_at db name))

-- ---- what the engine stands for
-- no storage method of the relations counts its keys, since they outlive the run
abbrev pub IsLasting : Descriptor → Type 0
IsLasting d = keying_of d.method ≡ Counted → ⊥

abbrev pub AreLasting : List Kept → Type 0
AreLasting kept = All IsLasting (map (λ k. k.descriptor) kept)

-- the last point of a trail is that of this change of the database
pub record HasCome (trail : Trail) (db : Db) (name : Name) (c : Change) (aside : Gone) : Type 0 where
  pub points : List Reached
  pub spent : ℕ
  pub is : trail.points ≡ points ++ changing db name c aside spent ∷ []

-- It can be called: its space serves, the catalogue is where it is to be, boxes keep what is open, and no more was taken out than waited.
pub record Serves {S : Type 0} (IsReady : S → Type 0) (m : Meanings) (place : Place) (space : S) (w : Work) : Type 0 where
  pub ready : IsReady space
  pub owner : place.owner ≡ 2
  pub opened : All (IsOpen m) w.opened.items
  pub within : w.done ≤ length w.queue.actions

-- Work has come so far: the pages keep its database, whose deferred rules are told by what waits, and what waits fits; what was picked is noted; no
-- owner is to go where nothing was dropped or detached, and those that are to go are held aside; fewer changes were made than were paid for.
pub record Stands {S : Type 0} (Has : Wanted → Slots → S → Type 0) (Spent : ℕ → S → Type 0) (m : Meanings) (root : ℕ) (g : Going) (space : S) (w : Work) : Type 0 where
  pub want : Wanted
  pub slots : Slots
  pub kept : List Kept
  pub has : Has want slots space
  pub db : g.db ≡ db_of kept
  pub keeps : Keeps m IsDurable root slots w.gone.items kept
  pub lasting : AreLasting kept
  pub mirrored : AreMirrored g.db
  pub paired : ArePaired g.db
  pub complete : IsComplete g.db g.queue
  pub opened : AreOpened m kept w.opened.items
  pub waits : left_of w ≡ g.queue
  pub picked : w.picks.items ≡ g.used
  pub gone : IsNoneGone g.gone → w.gone.items ≡ []
  pub aside : AreHeld slots w.gone.items g.gone.durable
  pub paid : IsPaid Spent 0 g.trail.spent space
  pub apart : AreNamedApart g.db
  pub rules : AllMayStand (box_of (extensions_of m)) g.db
  pub fit : AllFit g.db g.queue.actions

-- The same while a change of a relation was asked of so many of its attachments alone: the pages keep the changed database but for what the others
-- are to make of it, and what the first ones put off waits behind the rest. The change is the point that the work has come to, and what it costs at the
-- others was paid for.
pub record StandsAsking {S : Type 0} (Has : Wanted → Slots → S → Type 0) (Spent : ℕ → S → Type 0) (m : Meanings) (root : ℕ) (name : Name) (c : Change) (i : ℕ) (g : Going)
    (space : S) (w : Work) : Type 0 where
  pub want : Wanted
  pub slots : Slots
  pub before : List Kept
  pub has : Has want slots space
  pub db : g.db ≡ db_of (changed_kept name c before)
  pub asks : Asks m IsDurable root slots w.gone.items before name c i
  pub lasting : AreLasting before
  pub lawful : AreLawful (db_of before)
  pub mirrored : AreMirrored (db_of before)
  pub paired : ArePaired (db_of before)
  pub complete : IsComplete (db_of before) g.queue
  pub opened : AreOpened m (changed_kept name c before) w.opened.items
  pub waits : left_of w ≡ queue_first i name c g
  pub picked : w.picks.items ≡ g.used
  pub gone : IsNoneGone g.gone → w.gone.items ≡ []
  pub aside : AreHeld slots w.gone.items g.gone.durable
  pub paid : IsPaid Spent (cost_from (extensions_of m) (db_of before) name c i) g.trail.spent space
  pub apart : AreNamedApart (db_of before)
  pub come : HasCome g.trail (db_of before) name c g.gone
  pub rules : AllMayStand (box_of (extensions_of m)) g.db
  pub fit : AllFit g.db g.queue.actions

-- ---- want of a page
-- the database needs so much at this point that there are no more pages than that and those that the space takes for itself
abbrev pub IsShortOf : ℕ → ℕ → Extensions → Reached → Type 0
IsShortOf total own ext at = total ≤ own + need ext true at

-- So it is at some point of the trail, by the pages of the space at a moment on the way.
pub record IsShortAt {S : Type 0} (Has : Wanted → Slots → S → Type 0) (Leads : ℕ → S → S → Type 0) (table : S → ℕ) (ext : Extensions) (trail : Trail)
    (total : ℕ) (now : S) : Type 0 where
  pub space : S
  pub leads : LeadsOn Leads space now
  pub want : Wanted
  pub slots : Slots
  pub has : Has want slots space
  pub short : Any (IsShortOf total (table space + page_count (owned slots 1)) ext) trail.points

-- So it is where want of a page is the refusal; no other one wants it.
abbrev pub IsLicensed : {S : Type 0} → (Wanted → Slots → S → Type 0) → (ℕ → S → S → Type 0) → (S → ℕ) → Meanings → Refusal → Trail → S → Type 0
IsLicensed Has Leads table m (refusal.Room (Data used total)) trail now =
    total ≤ 65536 → IsShortAt Has Leads table (extensions_of m) trail total now
IsLicensed Has Leads table m r trail now = Unit {0}

-- ---- an engine at work
-- it can be called
abbrev pub IsServing : {B S : Type 0} → (S → Type 0) → (B → Meanings) → Running B S → Type 0
IsServing IsReady meanings a = Serves IsReady (meanings a.boxes.now) a.place a.space.now a.work.now

-- it stands for work that has come so far
abbrev pub StandsFor : {B S : Type 0} → (Wanted → Slots → S → Type 0) → (ℕ → S → Type 0) → (B → Meanings) → Going → Running B S → Type 0
StandsFor Has Spent meanings g a = Stands Has Spent (meanings a.boxes.now) a.place.root g a.space.now a.work.now

-- It was stopped by a refusal, whose cause its space has, and where that is want of a page, the work had come so far that pages may be wanting. Fewer
-- changes were made than the work had paid for.
pub record IsStoppedIn {S : Type 0} (Has : Wanted → Slots → S → Type 0) (Spent : ℕ → S → Type 0) (Leads : ℕ → S → S → Type 0) (Fails : SpaceFault → S → S → Type 0) (table : S → ℕ)
    (m : Meanings) (r : Refusal) (trail : Trail) (now : S) : Type 0 where
  pub cause : HasRefusalCause Fails r now
  pub licensed : IsLicensed Has Leads table m r trail now
  pub paid : IsPaid Spent 0 trail.spent now

abbrev pub IsStoppedFor : {B S : Type 0} → (Wanted → Slots → S → Type 0) → (ℕ → S → Type 0) → (ℕ → S → S → Type 0) → (SpaceFault → S → S → Type 0) → (S → ℕ) → (B → Meanings)
    → Refusal → Trail → Running B S → Type 0
IsStoppedFor Has Spent Leads Fails table meanings r trail a = IsStoppedIn Has Spent Leads Fails table (meanings a.boxes.now) r trail a.space.now

-- the extensions that it has
abbrev pub extensions_in : {B S : Type 0} → (B → Meanings) → Running B S → Extensions
extensions_in meanings a = extensions_of (meanings a.boxes.now)

-- ---- what no call changes
-- The same space, work, boxes and place are lent; what waited still waits in front, and owners that were to go are to go still.
pub record Goes {B S : Type 0} (Leads : ℕ → S → S → Type 0) (old new : Running B S) : Type 0 where
  pub same_space : new.space.ghost_name ≡ old.space.ghost_name
  pub same_work : new.work.ghost_name ≡ old.work.ghost_name
  pub boxes : new.boxes.now ≡ old.boxes.now
  pub place : new.place ≡ old.place
  pub leads : LeadsOn Leads old.space.now new.space.now
  pub queue : IsFront old.work.now.queue new.work.now.queue
  pub gone : (more : List ℕ) × (new.work.now.gone.items ≡ old.work.now.gone.items ++ more)

-- some relations more are open
pub record Grows (old new : List OpenRelation) : Type 0 where
  pub more : List OpenRelation
  pub is : new ≡ old ++ more

-- So it goes on, with more relations open, or none.
pub record GoesOpen {B S : Type 0} (Leads : ℕ → S → S → Type 0) (old new : Running B S) : Type 0 where
  pub goes : Goes Leads old new
  pub opened : Grows old.work.now.opened.items new.work.now.opened.items
