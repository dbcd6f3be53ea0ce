-- An engine at work that is lent a space and work, and finishes them.
use Rattle.std.proofs.Common.{◌≡◌, ℕ, true, false, List, [], ◌++◌, Result, Ok, Err, IfErr, IsErrAnd, sym, subst}
use Rattle.sb_fold.specs.Finish.{finish, freed}
use Rattle.sb_fold.specs.Outcome.{Going, Gone}
use Rattle.sb_fold.specs.declared.refusal.Refusal.{Refusal}
use Rattle.sb_cascade.specs.Runs.{is_free, is_room, MadeFrom, StopsFrom}
use Rattle.sb_deferred.specs.Waiting.{IsFront}
use Rattle.sb_registry.specs.Boxes.{Meanings}
use Rattle.sb_drive.specs.Slots.{Slots}
use Rattle.sb_drive.specs.Spaces.{LeadsOn, Wanted}
use Rattle.sb_drive.specs.declared.space.SpaceFault.{SpaceFault}
use Rattle.sb_map.specs.declared.place.Place.{Place}
use Rattle.sb_tables.specs.Running.{Running}
use Rattle.sb_tables.specs.Work.{Work}
use Rattle.sb_tables.specs.Refusals.{HasPagesLeft, HasRefusalCause, IsRefusedBy}
use Rattle.sb_tables.specs.Licensed.{paged_licence}
use Rattle.sb_tables.specs.Working.{IsNoneGone, IsPaid, IsStoppedFor, IsStoppedIn, Stands, StandsFor, extensions_in, extensions_of}
use Rattle.sb_transactions.specs.Commits.{finish_and_free}
use Rattle.sb_transactions.specs.Driven.{WorksOn}
use Rattle.sb_transactions.proofs.FinishLemmas.{StopsFrom-behind, StopsFrom-freed, StopsFrom-map, finish-gone, made-freed, refusal-free}

-- a refusal that is passed on
pub passed : {U : Type 0} (r : Result U Refusal) (e : Refusal) (P : Refusal → Type 0) → IsErrAnd r (λ x. x ≡ e) → P e → IfErr r P
passed (Err x) e P is so = subst P (sym is) so
passed (Ok x) e P is so = tt

-- calls from one state to another, by names of their own
pub led_between : {S : Type 0} (Leads : ℕ → S → S → Type 0) (x y a b : S) → a ≡ x → b ≡ y → LeadsOn Leads a b → LeadsOn Leads x y
led_between {S} Leads x y a b first last led = subst (λ (z : S). LeadsOn Leads z y) first (subst (λ (z : S). LeadsOn Leads a z) last led)

-- and what it keeps beside them
pub works_between : {S : Type 0} (Leads : ℕ → S → S → Type 0) (x y a b : S) (v w k l : Work) → a ≡ x → b ≡ y → k ≡ v → l ≡ w → LeadsOn Leads a b → IsFront k.queue l.queue → (more : List ℕ) × (l.gone.items ≡ k.gone.items ++ more) → WorksOn Leads x y v w
works_between {S} Leads x y a b v w k l first last before after leads queue gone =
    subst (λ (z : S). WorksOn Leads z y v w) first (subst (λ (z : S). WorksOn Leads a z v w) last
    (subst (λ (u : Work). WorksOn Leads a b u w) before (subst (λ (u : Work). WorksOn Leads a b k u) after (record { leads = leads; queue = queue; gone = gone }))))

-- what is lent
pub record IsLent {B S : Type 0} (boxes : B) (place : Place) (x : S) (w : Work) (a : Running B S) : Type 0 where
  pub boxes_are : a.boxes.now ≡ boxes
  pub place_is : a.place ≡ place
  pub space_is : a.space.now ≡ x
  pub work_is : a.work.now ≡ w

module _ {B S : Type 0} (meanings : B → Meanings) (boxes : B) (place : Place) (x : S) (w : Work) (a : Running B S) (lent : IsLent boxes place x w a) where
  -- what is so of the parts is so of it, and the other way round
  pub parts-to : (P : Meanings → Place → S → Work → Type 0) → P (meanings boxes) place x w → P (meanings a.boxes.now) a.place a.space.now a.work.now
  parts-to P is =
      subst (λ (b : B). P (meanings b) a.place a.space.now a.work.now) (sym lent.boxes_are)
      (subst (λ (q : Place). P (meanings boxes) q a.space.now a.work.now) (sym lent.place_is)
      (subst (λ (y : S). P (meanings boxes) place y a.work.now) (sym lent.space_is)
      (subst (λ (v : Work). P (meanings boxes) place x v) (sym lent.work_is) is)))

  pub parts-from : (P : Meanings → Place → S → Work → Type 0) → P (meanings a.boxes.now) a.place a.space.now a.work.now → P (meanings boxes) place x w
  parts-from P is =
      subst (λ (v : Work). P (meanings boxes) place x v) lent.work_is
      (subst (λ (y : S). P (meanings boxes) place y a.work.now) lent.space_is
      (subst (λ (q : Place). P (meanings boxes) q a.space.now a.work.now) lent.place_is
      (subst (λ (b : B). P (meanings b) a.place a.space.now a.work.now) lent.boxes_are is)))

-- ---- finished, and then freed
module _ {B S : Type 0} (Has : Wanted → Slots → S → Type 0) (Spent : ℕ → S → Type 0) (Fails : SpaceFault → S → S → Type 0) (meanings : B → Meanings) (boxes : B) (place : Place) (x y : S) (w v : Work) (a b : Running B S)
    (lent : IsLent boxes place x w a) where
  abbrev IsSo : Going → Meanings → Place → S → Work → Type 0
  IsSo g m q z u = Stands Has Spent m q.root g z u

  pub finish-stopped : (Leads : ℕ → S → S → Type 0) (table : S → ℕ) (r : Refusal)
      → ((g : Going) → StandsFor Has Spent meanings g a → StopsFrom (IsStoppedFor Has Spent Leads Fails table meanings) (finish (extensions_in meanings a)) g r b) → b.boxes.now ≡ boxes → b.space.now ≡ y
      → (g : Going) → Stands Has Spent (meanings boxes) place.root g x w → StopsFrom (IsStoppedIn Has Spent Leads Fails table (meanings boxes)) (finish_and_free (extensions_of (meanings boxes))) g r y
  finish-stopped Leads table r stopped kept same g stands =
      subst (λ (c : B). StopsFrom (IsStoppedIn Has Spent Leads Fails table (meanings boxes)) (finish_and_free (extensions_of (meanings c))) g r y) lent.boxes_are
      (StopsFrom-freed (IsStoppedIn Has Spent Leads Fails table (meanings boxes)) (extensions_in meanings a) g r y
      (StopsFrom-map (IsStoppedFor Has Spent Leads Fails table meanings) (IsStoppedIn Has Spent Leads Fails table (meanings boxes)) (finish (extensions_in meanings a)) g r b y
      (λ trail is. subst (λ (c : B). IsStoppedIn Has Spent Leads Fails table (meanings c) r trail y) kept
      (subst (λ (z : S). IsStoppedIn Has Spent Leads Fails table (meanings b.boxes.now) r trail z) same is)) (stopped g (parts-to meanings boxes place x w a lent (IsSo g) stands))))

  -- where no action waits it wants no room
  pub finish-roomless : (r : Refusal) → ((g : Going) → StandsFor Has Spent meanings g a → g.queue.actions ≡ [] → is_room r ≡ false)
      → (g : Going) → Stands Has Spent (meanings boxes) place.root g x w → g.queue.actions ≡ [] → IsNoneGone g.gone → is_room r ≡ false
  finish-roomless r room g stands none idle = room g (parts-to meanings boxes place x w a lent (IsSo g) stands) none

  module _ (made : (g : Going) → StandsFor Has Spent meanings g a → MadeFrom (StandsFor Has Spent meanings) (finish (extensions_in meanings a)) g tt b) where
    pub finish-freed : (c : Running B S) → ((g : Going) → StandsFor Has Spent meanings g b → StandsFor Has Spent meanings (freed g) c) → IsLent boxes place y v c
        → (g : Going) → Stands Has Spent (meanings boxes) place.root g x w → MadeFrom (λ h z. Stands Has Spent (meanings boxes) place.root h z v) (finish_and_free (extensions_of (meanings boxes))) g tt y
    finish-freed c frees end g stands =
        subst (λ (d : B). MadeFrom (λ h z. Stands Has Spent (meanings boxes) place.root h z v) (finish_and_free (extensions_of (meanings d))) g tt y) lent.boxes_are
        (made-freed (StandsFor Has Spent meanings) (λ h z. Stands Has Spent (meanings boxes) place.root h z v) (extensions_in meanings a) g b y
        (λ h so. parts-from meanings boxes place y v c end (IsSo (freed h)) (frees h so)) (made g (parts-to meanings boxes place x w a lent (IsSo g) stands)))

    -- where it is refused behind it, no more was changed than the whole pays for
    pub finish-refused : (Leads : ℕ → S → S → Type 0) (table : S → ℕ) (r : Refusal) → IsRefusedBy Fails r y → HasRefusalCause Fails r y → HasPagesLeft r
        → ((g : Going) → StandsFor Has Spent meanings g b → IsPaid Spent 0 (freed g).trail.spent y)
        → (g : Going) → Stands Has Spent (meanings boxes) place.root g x w → StopsFrom (IsStoppedIn Has Spent Leads Fails table (meanings boxes)) (finish_and_free (extensions_of (meanings boxes))) g r y
    finish-refused Leads table r refused cause left paid g stands =
        subst (λ (d : B). StopsFrom (IsStoppedIn Has Spent Leads Fails table (meanings boxes)) (finish_and_free (extensions_of (meanings d))) g r y) lent.boxes_are
        (StopsFrom-behind (λ h z. IsPaid Spent 0 h.trail.spent y) (IsStoppedIn Has Spent Leads Fails table (meanings boxes)) (finish_and_free (extensions_in meanings a)) g tt b r y
        (subst (λ (q : Refusal). is_free q ≡ true) refused.is (refusal-free refused.fault))
        (λ h so. record { cause = cause; licensed = paged_licence Has Leads table (meanings boxes) r h.trail y left; paid = so })
        (made-freed (StandsFor Has Spent meanings) (λ h z. IsPaid Spent 0 h.trail.spent y) (extensions_in meanings a) g b b paid (made g (parts-to meanings boxes place x w a lent (IsSo g) stands))))

    -- and behind it no owner is to go where nothing was gone
    pub freed-roomless : (r : Refusal) → (b.work.now.gone.items ≡ [] → ⊥)
        → (g : Going) → Stands Has Spent (meanings boxes) place.root g x w → g.queue.actions ≡ [] → IsNoneGone g.gone → is_room r ≡ false
    freed-roomless r some g stands none idle =
        let from = made g (parts-to meanings boxes place x w a lent (IsSo g) stands) in
        absurd (some (from.stands.gone (subst (λ (gone : Gone). IsNoneGone gone) (finish-gone (extensions_in meanings a) g from.after from.picks none from.leads) idle)))
