-- A change with the records before it.
use Rattle.std.proofs.Common.{◌≡◌, ℕ, suc, ◌≤◌, Bool, true, false, ◌||◌, not, Option, List, [], ◌∷◌, ◌++◌, refl, sym, ◌∙◌, ap, subst, append_assoc}
use Rattle.std.proofs.lemmas.Bool.{eq-eqb}
use Rattle.std.proofs.lemmas.List.{append-nil}
use Rattle.sb_disk.specs.Disk.{Story}
use Rattle.sb_disk.specs.Moments.{LeavesOnly}
use Rattle.sb_disk.proofs.MomentLemmas.{and_then}
use Rattle.sb_journal.specs.State as journal
use Rattle.sb_images.specs.Images.{Restores}
use Rattle.sb_images.specs.Store.{IsReadyOn, IsStoreOn}
use Rattle.sb_images.proofs.CallLemmas.{LeavesOnly-idle}
use Rattle.sb_images.proofs.StoreLemmas.{IsStoreOn-ready}
use Rattle.sb_log.specs.declared.geometry.Geometry.{Geometry}
use Rattle.sb_log.specs.Records.{Change, Record, Begin, Image, Changed, Back}
use Rattle.sb_log.specs.Standing.{stood, standing, count_of}
use Rattle.sb_log.specs.Restored.{imaged}
use Rattle.sb_log.specs.Undoing.{IsFree}
use Rattle.sb_log.specs.Views.{Active, active_with, is_active, changes}
use Rattle.sb_log.specs.Whole.{IsWhole, with_range}
use Rattle.sb_log.proofs.RestoredLemmas.{imaged-append}
use Rattle.sb_log.proofs.StandingLemmas.{stood_all-append}
use Rattle.sb_log.proofs.WholeLemmas.{IsWhole-begin, IsWhole-image, IsWhole-back, IsWhole-change, count_of-back, imaged-image}
use Rattle.sb_txn.specs.Changing.{Before, IsNext, behind}
use Rattle.sb_txn.specs.Steps.{Steps, some}

-- ---- what the records before a change leave as it was
module _ (opened pending : List Record) where
  parts : (more : List Record) → opened ++ (pending ++ more) ≡ (opened ++ pending) ++ more
  parts more = sym (append_assoc opened pending more)

  or_false : (x : Bool) → (x || false) ≡ x
  or_false true = refl
  or_false false = refl

  -- a record that is no Image
  pub imaged-some : (b : Bool) (r : Record) (q : ℕ) → imaged (r ∷ []) q ≡ false → imaged (opened ++ (pending ++ some b r)) q ≡ imaged (opened ++ pending) q
  imaged-some true r q is = ap (λ (l : List Record). imaged l q) (parts (r ∷ [])) ∙ imaged-append (opened ++ pending) (r ∷ []) q ∙ ap (λ (x : Bool). imaged (opened ++ pending) q || x) is ∙ or_false (imaged (opened ++ pending) q)
  imaged-some false r q is = ap (λ (l : List Record). imaged (opened ++ l) q) (append-nil pending)

  -- a record that changes nothing of what stands
  pub standing-some : (b : Bool) (r : Record) → ((cs : List Change) → stood cs r ≡ cs) → standing (opened ++ (pending ++ some b r)) ≡ standing (opened ++ pending)
  standing-some true r same = ap (λ (l : List Record). standing l) (parts (r ∷ [])) ∙ stood_all-append [] (opened ++ pending) (r ∷ []) ∙ same (standing (opened ++ pending))
  standing-some false r same = ap (λ (l : List Record). standing (opened ++ l)) (append-nil pending)

  -- behind a Back, where changes were undone
  pub few-back : (b : Bool) (tx n : ℕ) → (b ≡ false → count_of tx (standing (opened ++ pending)) ≤ n) → count_of tx (standing (opened ++ (pending ++ some b (Back tx n)))) ≤ n
  few-back true tx n few = count_of-back opened pending tx n
  few-back false tx n few = subst (λ (l : List Record). count_of tx (standing (opened ++ l)) ≤ n) (sym (append-nil pending)) (few refl)

  -- behind an Image, where there was none
  pub imaged-behind : (b : Bool) (page : ℕ) (bytes : List ℕ) → (b ≡ false → imaged (opened ++ pending) page ≡ true) → imaged (opened ++ (pending ++ some b (Image page bytes))) page ≡ true
  imaged-behind true page bytes has = imaged-image opened pending (Image page bytes) page (ap (λ (x : Bool). x || false) (eq-eqb page page refl))
  imaged-behind false page bytes has = subst (λ (l : List Record). imaged (opened ++ l) page ≡ true) (sym (append-nil pending)) (has refl)

-- ---- each of the records is wanted, or the log says so already
-- the records that are pending behind the first of those that are wanted, and behind the second
abbrev pub begun : List Record → Before → List Record
begun pending b = pending ++ some b.wants.begin (Begin b.tx)

abbrev pub backed : List Record → Before → List Record
backed pending b = begun pending b ++ some b.wants.back (Back b.tx b.count)

module _ (b : Before) (now : ℕ → List ℕ) (opened pending : List Record) (rest : List Active) (c : Change) (next : IsNext b now opened pending rest c) (g : Geometry) where
  abbrev act : List Active
  act = active_with b.tx b.count ∷ rest

  pub begin_step : b.wants.begin ≡ true → Steps g now now opened pending (Begin b.tx) act act
  begin_step wanted disk whole = IsWhole-begin g.pages disk now opened pending b.tx act whole

  pub back_step : b.wants.back ≡ true → Steps g now now opened (begun pending b) (Back b.tx b.count) act act
  back_step wanted disk whole = IsWhole-back g.pages disk now opened (begun pending b) (active_with b.tx b.count) rest whole

  imaged_still : imaged (opened ++ backed pending b) b.page ≡ not b.wants.image
  imaged_still = imaged-some opened (begun pending b) b.wants.back (Back b.tx b.count) b.page refl ∙ imaged-some opened pending b.wants.begin (Begin b.tx) b.page refl ∙ next.covered

  pub image_step : b.wants.image ≡ true → Steps g now now opened (backed pending b) (Image b.page b.image) act act
  image_step wanted disk whole = subst (λ (bytes : List ℕ). IsWhole g.pages disk now opened (backed pending b ++ Image b.page bytes ∷ []) act) (sym next.is)
      (IsWhole-image g.pages disk now opened (backed pending b) b.page act (imaged_still ∙ ap (λ (t : Bool). not t) wanted) whole)

  has_image : imaged (opened ++ behind pending b) c.page ≡ true
  has_image = ap (λ (q : ℕ). imaged (opened ++ behind pending b) q) next.of_page
      ∙ imaged-behind opened (backed pending b) b.wants.image b.page b.image (λ none. imaged_still ∙ ap (λ (t : Bool). not t) none)

  few : count_of c.tx (standing (opened ++ behind pending b)) ≤ b.count
  few = subst (λ (t : ℕ). count_of t (standing (opened ++ behind pending b)) ≤ b.count) (sym next.of_tx)
      (subst (λ (cs : List Change). count_of b.tx cs ≤ b.count) (sym (standing-some opened (backed pending b) b.wants.image (Image b.page b.image) (λ cs. refl)))
      (few-back opened (begun pending b) b.wants.back b.tx b.count (λ none. subst (λ (cs : List Change). count_of b.tx cs ≤ b.count) (sym (standing-some opened pending b.wants.begin (Begin b.tx) (λ cs. refl))) (next.logged none))))

  pub change_step : Steps g now (with_range c c.after now) opened (behind pending b) (Changed c) act (active_with b.tx (suc b.count) ∷ rest)
  change_step disk whole = subst (λ (t : ℕ). IsWhole g.pages disk (with_range c c.after now) opened (behind pending b ++ Changed c ∷ []) (active_with t (suc b.count) ∷ rest)) next.of_tx
      (IsWhole-change g.pages disk now opened (behind pending b) c b.count rest has_image few next.fits next.beneath
      (subst (λ (t : ℕ). IsFree (is_active (active_with t b.count ∷ rest)) c (changes (opened ++ behind pending b) (active_with t b.count ∷ rest) c.page)) (sym next.of_tx) next.free)
      (subst (λ (t : ℕ). IsWhole g.pages disk now opened (behind pending b) (active_with t b.count ∷ rest)) (sym next.of_tx) whole))

-- ---- calls one after another
module _ (want now : ℕ → List ℕ) (told : Option Story) (g : Geometry) (opened : List Record) (active : List Active) where
  -- a crash so far leaves what was wanted, and these records are pending
  pub record Reached (new : Option Story) (k : journal.State) (pending : List Record) : Type 0 where
    pub leaves : LeavesOnly told new (Restores g want)
    pub store : IsStoreOn want now new k g opened pending active

  pub Reached-none : (j : journal.State) (pending : List Record) → IsStoreOn want now told j g opened pending active → Reached told j pending
  Reached-none j pending store = record { leaves = LeavesOnly-idle want j g opened pending told (IsStoreOn-ready want now told j g opened pending active store); store = store }

  -- up to the next call, also where it fails
  pub LeavesOnly-next : (mid new : Option Story) (k : journal.State) (pending : List Record) → Reached mid k pending → (IsReadyOn want mid k g opened pending → LeavesOnly mid new (Restores g want)) → LeavesOnly told new (Restores g want)
  LeavesOnly-next mid new k pending so_far run = and_then told mid new (Restores g want) so_far.leaves (run (IsStoreOn-ready want now mid k g opened pending active so_far.store))

  -- and behind it
  pub Reached-next : (mid new : Option Story) (k l : journal.State) (pending more : List Record) → Reached mid k pending → (IsReadyOn want mid k g opened pending → LeavesOnly mid new (Restores g want))
      → (IsStoreOn want now mid k g opened pending active → IsStoreOn want now new l g opened more active) → Reached new l more
  Reached-next mid new k l pending more so_far run made = record { leaves = LeavesOnly-next mid new k pending so_far run; store = made so_far.store }
