-- A commit: an append of its records, and a force.
use Rattle.std.proofs.Common.{◌≡◌, inl, inr, ⊎_elim, ℕ, ◌<◌, Option, Some, None, List, [], ◌++◌, length, sym, ◌∙◌, ap, subst, append_assoc}
use Rattle.sb_disk.specs.Disk.{Story, WhereTold}
use Rattle.sb_disk.specs.Moments.{LeavesOnly}
use Rattle.sb_disk.proofs.MomentLemmas.{weaker, and_then}
use Rattle.sb_journal.specs.State.{State, Sound, IsForced, IsForcedOn, Appended, Forced, after_append, after_force}
use Rattle.sb_log.specs.declared.geometry.Geometry.{Geometry}
use Rattle.sb_log.specs.Records.{Record, AreRecords, spelled}
use Rattle.sb_log.specs.Restored.{IsCoveredBehind}
use Rattle.sb_images.specs.Images.{Restores, IsOldOrNew}
use Rattle.sb_images.specs.Store.{HoldsRecords, restored_on, IsReadyFor, IsReadyOn, WillBe}
use Rattle.sb_images.proofs.ImageLemmas.{Restores-as}
use Rattle.sb_images.proofs.HoldLemmas.{restores-force}
use Rattle.sb_images.proofs.StepLemmas.{HoldsRecords-append, restored_on-append, HoldsRecords-force, restored_on-force}

-- a run that leaves the old pages leaves the old or the new ones
pub LeavesOnly-old : (old new : ℕ → List ℕ) (g : Geometry) (a b : Option Story) → LeavesOnly a b (Restores g old) → LeavesOnly a b (IsOldOrNew g old new)
LeavesOnly-old old new g a b run = weaker a b (Restores g old) (IsOldOrNew g old new) (λ image is. inl is) run

-- and so does one that leaves the new ones
pub LeavesOnly-new : (old new : ℕ → List ℕ) (g : Geometry) (a b : Option Story) → LeavesOnly a b (Restores g new) → LeavesOnly a b (IsOldOrNew g old new)
LeavesOnly-new old new g a b run = weaker a b (Restores g new) (IsOldOrNew g old new) (λ image is. inr is) run

module _ (want then : ℕ → List ℕ) (j k : State) (g : Geometry) (opened pending more : List Record) (bytes : List ℕ) (spells : bytes ≡ spelled more) (done : k ≡ after_append (length bytes) j) (sound : Sound k) (covered : IsCoveredBehind (opened ++ pending) more) (all : AreRecords more) where
  -- its records are pending
  module _ (s t : Story) (ready : IsReadyFor want s j g opened pending) (will : (p : ℕ) → p < g.pages → restored_on s g ((opened ++ pending) ++ more) p ≡ then p) (appended : Appended bytes j k s t) where
    as_spelled : Appended (spelled more) j k s t
    as_spelled = subst (λ (l : List ℕ). Appended l j k s t) spells appended

    holds_mid : HoldsRecords t k g opened (pending ++ more)
    holds_mid = HoldsRecords-append s t j k g opened pending more (length bytes) done sound as_spelled ready.holds covered all

    same_old : (p : ℕ) → p < g.pages → restored_on t g opened p ≡ want p
    same_old p lt = restored_on-append s t j k g opened pending more (length bytes) done sound as_spelled ready.holds.placed opened p ∙ ready.same p lt

    same_new : (p : ℕ) → p < g.pages → restored_on t g (opened ++ (pending ++ more)) p ≡ then p
    same_new p lt =
        restored_on-append s t j k g opened pending more (length bytes) done sound as_spelled ready.holds.placed (opened ++ (pending ++ more)) p
        ∙ ap (λ (l : List Record). restored_on s g l p) (sym (append_assoc opened pending more)) ∙ will p lt

    image_mid : (image : List ℕ) → IsForced t k image → IsOldOrNew g want then image
    image_mid image forced = ⊎_elim
        (λ (old : Restores g (restored_on t g opened) image). inl (Restores-as g (restored_on t g opened) want image same_old old))
        (λ (new : Restores g (restored_on t g (opened ++ (pending ++ more))) image). inr (Restores-as g (restored_on t g (opened ++ (pending ++ more))) then image same_new new))
        (restores-force t k g opened (pending ++ more) holds_mid image forced)

    ready_new : (u : Story) (l : State) → l ≡ after_force k → Sound l → Forced k l t u → IsReadyFor then u l g (opened ++ (pending ++ more)) []
    ready_new u l forced_done sound_l forced = record {
      holds = HoldsRecords-force t u k l g opened (pending ++ more) forced_done sound_l forced holds_mid;
      plain = λ p lt. tt;
      same = λ p lt. restored_on-force t u k l g opened (pending ++ more) forced_done sound_l forced holds_mid.placed (opened ++ (pending ++ more)) p ∙ same_new p lt;
    }

  -- at each moment the old pages are restored, or the new ones
  pub LeavesOnly-commit : (told mid new : Option Story) → IsReadyOn want told j g opened pending → WillBe then told g ((opened ++ pending) ++ more) → WhereTold told mid (Appended bytes j k)
      → LeavesOnly told mid (Restores g want) → LeavesOnly mid new (IsForcedOn mid k) → LeavesOnly told new (IsOldOrNew g want then)
  LeavesOnly-commit None mid new ready will appended so_far run =
      and_then None mid new (IsOldOrNew g want then) (LeavesOnly-old want then g None mid so_far)
      (subst (λ (m : Option Story). LeavesOnly m new (IsForcedOn m k) → LeavesOnly m new (IsOldOrNew g want then)) (sym appended)
      (λ r. weaker None new (IsForcedOn None k) (IsOldOrNew g want then) (λ image none. absurd none) r) run)
  LeavesOnly-commit (Some s) None new ready will appended so_far run = absurd appended
  LeavesOnly-commit (Some s) (Some t) new ready will appended so_far run =
      and_then (Some s) (Some t) new (IsOldOrNew g want then) (LeavesOnly-old want then g (Some s) (Some t) so_far)
      (weaker (Some t) new (IsForcedOn (Some t) k) (IsOldOrNew g want then) (λ image forced. image_mid s t ready will appended image (forced (holds_mid s t ready will appended).placed.up)) run)

  -- at its end the new ones
  pub IsReadyOn-commit : (l : State) (told mid new : Option Story) → IsReadyOn want told j g opened pending → WillBe then told g ((opened ++ pending) ++ more) → WhereTold told mid (Appended bytes j k)
      → l ≡ after_force k → Sound l → WhereTold mid new (Forced k l) → IsReadyOn then new l g (opened ++ (pending ++ more)) []
  IsReadyOn-commit l None mid new ready will appended forced_done sound_l forced =
      let none : new ≡ None = subst (λ (m : Option Story). WhereTold m new (Forced k l)) appended forced in
      subst (λ (m : Option Story). IsReadyOn then m l g (opened ++ (pending ++ more)) []) (sym none) tt
  IsReadyOn-commit l (Some s) None new ready will appended forced_done sound_l forced = absurd appended
  IsReadyOn-commit l (Some s) (Some t) None ready will appended forced_done sound_l forced = absurd forced
  IsReadyOn-commit l (Some s) (Some t) (Some u) ready will appended forced_done sound_l forced = ready_new s t ready will appended u l forced_done sound_l forced
