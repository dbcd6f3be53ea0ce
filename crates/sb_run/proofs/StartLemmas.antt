-- A session that is opened over a mounted disk, or over a store that is made, and why none is made.
use Rattle.std.proofs.Common.{◌≡◌, ◌⊎◌, ⊎_elim, inl, inr, ◌↔◌, ℕ, ◌<◌, ◌≤◌, Bool, true, false, Option, Some, None, is_some, Result, Ok, Err, IfErr, IfOk, OnOk, IsErrOf, List, [], sym, ap, subst}
use Rattle.sb_disk.specs.Causes.{Rose}
use Rattle.std.proofs.lemmas.Bool.{false≢true}
use Rattle.sb_disk.specs.Disk.{Story}
use Rattle.sb_disk.specs.Moments.{IsSettled, LeavesOnly}
use Rattle.sb_disk.proofs.MomentLemmas.{weaker}
use Rattle.sb_images.specs.Images.{Restores}
use Rattle.sb_images.specs.Layout.{geometry_of, need}
use Rattle.sb_images.specs.Store.{IfTold, IsMounted}
use Rattle.sb_log.specs.declared.geometry.Geometry.{Geometry}
use Rattle.sb_map.specs.declared.place.Place.{Place}
use Rattle.sb_recover.specs.FirstPages.{first_page}
use Rattle.sb_recover.specs.Formatting.{IsFormatting, KeepsStore}
use Rattle.sb_recover.specs.Geometries.{HoldsNone}
use Rattle.sb_recover.specs.SuperPage.{IsNoStore}
use Rattle.sb_recover.specs.declared.fault.OpenFault.{OpenFault}
use Rattle.sb_recover.specs.declared.fault.OpenFault.TheVariants.{Fault, TooSmall}
use Rattle.sb_relation.specs.Db.{Db}
use Rattle.sb_registry.specs.Boxes.{Meanings}
use Rattle.sb_drive.specs.Spaces.{Wanted}
use Rattle.sb_sound_plays.specs.Table.{table_len}
use Rattle.sb_sound_plays.specs.Session.{Session}
use Rattle.sb_sound_plays.specs.Sessions.{IsFor, parts_of, sizes_of}
use Rattle.sb_sound_plays.specs.Creating.{CreateErr}
use Rattle.sb_sound_plays.specs.Naming.{HasLive, all_live, named_in}
use Rattle.sb_sound_plays.specs.Opening.{HasBoxes, IsStored, Wants, opened}
use Rattle.sb_sound_plays.proofs.NewLemmas.{committed-new}
use Rattle.sb_sound_plays.specs.Crashes.{HoldsDatabase}
use Rattle.sb_sound_plays.specs.World.{World}
use Rattle.sb_words.specs.declared.words.Words.{Words}
use Rattle.sb_run.specs.Run.{IsNoSession, Tells}
use Rattle.sb_run.specs.Starting.{HasStarted}

-- ---- what a crash leaves meanwhile
holds-new : (m : Meanings) (g : Geometry) (image : List ℕ) → IsFormatting g image → IsNoStore image ⊎ HoldsDatabase m image []
holds-new m g image is = ⊎_elim
    (λ (none : IsNoStore image). inl none)
    (λ (restores : Restores g (first_page g.pages) image).
    inr (record { geometry = g; want = first_page g.pages; restores = restores; committed = committed-new (all_live m) g restores.store.sizes }))
    is

-- ---- sessions
if_told : (told : Option Story) (A : Type 0) → is_some told ≡ true → IfTold told A → A
if_told None A tells is = absurd (false≢true tells)
if_told (Some s) A tells is = is

-- the catalogue of a session begins behind the owner table
abbrev pub IsPlaced : {B : Type 0} → Session B → Type 0
IsPlaced x = x.place ≡ record { owner = 2; root = table_len x.space.store.pool.geometry.pages }

module _ {B D E : Type 0} (w : World B D) (m : Meanings) (words : Words) (create : Bool) (mounted here : D) (later : w.faults mounted ≤ w.faults here) where
  pub opens : (r : Result (Session B) E) → create ≡ false → OnOk r (HasBoxes m (w.told mounted))
      → IfOk r (λ x. (g : Geometry) (want : Wanted) (db : Db) → IsStored m (w.told mounted) g want db
      → IsFor w.meanings w.told w.len want (opened (w.meanings x.boxes) db) here x)
      → IfOk r (λ x. (g : Geometry) (want : Wanted) (db : Db) (stored : IsStored m (w.told mounted) g want db)
      → HasLive m (named_in stored.committed.kept) (w.meanings x.boxes))
      → IfOk r IsPlaced
      → IfOk r (λ x. (want : ℕ → List ℕ) (g : Geometry) → IsMounted want (w.told mounted) g → IfTold (w.told mounted) (sizes_of x ≡ g))
      → ((want : ℕ → List ℕ) (g : Geometry) → IsMounted want (w.told mounted) g → LeavesOnly (w.told mounted) (w.told here) (Restores g want))
      → IfOk r (λ x. x.«open» ≡ None)
      → IfOk r (λ x. (want : ℕ → List ℕ) (g : Geometry) → IsMounted want (w.told mounted) g → Wants want (parts_of w.told w.len here x))
      → IfOk r (λ x. HasStarted w m words create mounted here x)
  opens (Err e) asked present stands live place sizes leaves outside wanted = tt
  opens (Ok x) asked present stands live place sizes leaves outside wanted =
      subst (λ (create : Bool). HasStarted w m words create mounted here x) (sym asked) (
        present,
        λ g want db stored. record {
          live = live g want db stored;
          sizes = if_told (w.told mounted) _ stored.tells (sizes want g stored.mounted);
          later = later;
          now = record {
            same = (live g want db stored).same;
            root = ap (λ (place : Place). place.root) place;
            stands = record { want = want; is = stands g want db stored };
          };
          early = weaker (w.told mounted) (w.told here) (Restores g want) (λ image. HoldsDatabase m image db)
              (λ image restores. record { geometry = g; want = want; restores = restores; committed = stored.committed })
              (leaves want g stored.mounted);
        },
        record { outside = outside; leaves = leaves; sizes = sizes; wanted = wanted },
      )

  pub makes : (r : Result (Session B) E) → create ≡ true
      → IfOk r (λ x. IfTold (w.told mounted) (IsFor w.meanings w.told w.len (first_page words.pages) (opened (w.meanings x.boxes) []) here x))
      → IfOk r (λ x. IfTold (w.told mounted) (HasLive m [] (w.meanings x.boxes)))
      → IfOk r IsPlaced
      → IfOk r (λ x. IfTold (w.told mounted) (sizes_of x ≡ geometry_of words.pages words.log))
      → OnOk r (HoldsNone (w.told mounted))
      → (IsSettled (w.told mounted) → HoldsNone (w.told mounted) → LeavesOnly (w.told mounted) (w.told here) (IsFormatting (geometry_of words.pages words.log)))
      → IfOk r (λ x. HasStarted w m words create mounted here x)
  makes (Err e) asked stands live place sizes none leaves = tt
  makes (Ok x) asked stands live place sizes none leaves =
      subst (λ (create : Bool). HasStarted w m words create mounted here x) (sym asked) (
        none,
        λ tells settled.
            let is_live : HasLive m [] (w.meanings x.boxes) = if_told (w.told mounted) _ tells live in (
              record {
                live = is_live;
                sizes = if_told (w.told mounted) _ tells sizes;
                later = later;
                now = record {
                  same = is_live.same;
                  root = ap (λ (place : Place). place.root) place;
                  stands = record { want = first_page words.pages; is = if_told (w.told mounted) _ tells stands };
                };
                early = weaker (w.told mounted) (w.told here) (IsFormatting (geometry_of words.pages words.log)) (λ image. IsNoStore image ⊎ HoldsDatabase m image [])
                    (holds-new m (geometry_of words.pages words.log)) (leaves settled none);
              },
              leaves settled none,
            ),
      )

-- ---- no store
or_fault : {T : Type 0} → OpenFault → Result T OpenFault → OpenFault
or_fault other (Ok x) = other
or_fault other (Err e) = e

same_fault : {T : Type 0} (e other : OpenFault) → IsErrOf {T = T} (Err e) other → e ≡ other
unfolding or_fault
same_fault e other is = ap (or_fault e) is

pub not_made : {T D : Type 0} (d : Tells D) (m : Meanings) (words : Words) (create : Bool) (mounted here : D) (r : Result T OpenFault) → create ≡ true
    → (IsErrOf r (TooSmall (d.len mounted) (need words.pages words.log)) ↔ (d.len mounted < need words.pages words.log))
    → IfErr r (λ e. CreateErr d.told e (d.len mounted) (geometry_of words.pages words.log) mounted here)
    → KeepsStore (d.told mounted) (d.told here)
    → (IsSettled (d.told mounted) → HoldsNone (d.told mounted)
    → LeavesOnly (d.told mounted) (d.told here) (IsFormatting (geometry_of words.pages words.log)))
    → (IsErrOf r Fault → Rose (d.faults mounted) (d.faults here))
    → IfErr r (λ e. IsNoSession d m words create e mounted here)
not_made d m words create mounted here (Ok x) asked small refused keeps leaves fault = tt
not_made d m words create mounted here (Err e) asked small refused keeps leaves fault =
    subst (λ (create : Bool). IsNoSession d m words create e mounted here) (sym asked)
    (record {
      small = (λ is. small.0 (ap Err is), λ short. same_fault e _ (small.1 short));
      refused = refused;
      keeps = keeps;
      leaves = leaves;
      fault = λ is. fault (ap Err is);
    })
