-- Instances that come and go: the pages beside them are those that were.
use Rattle.std.proofs.Common.{◌≡◌, ℕ, ◌+◌, ◌<◌, Bool, List, [], ◌∷◌, ◌++◌, inl, inr, refl, ap, ◌∙◌, arith}
use Rattle.std.proofs.lemmas.List.Elements.{All-contains, All-weaker}
use Rattle.std.proofs.lemmas.List.Sums.{sum_by-append, sum_by-cons}
use Rattle.sb_forms.specs.Pages.{Pages, page_count}
use Rattle.sb_registry.specs.Boxes.{Meanings}
use Rattle.sb_drive.specs.Slots.{Slots, owned}
use Rattle.sb_room.specs.Owned.{AreOwners, pages_of}
use Rattle.sb_room.proofs.Owning.{full-is-owned, pages-same}
use Rattle.sb_standing.specs.Standing.{HasPage, IsAmong, IsOwner, Keeps, owners_in}
use Rattle.sb_standing.specs.Tables.{Kept, db_of}
use Rattle.sb_standing.specs.TableLaws.{Comes}
use Rattle.sb_standing.proofs.FrameLemmas.{All-both, pages-all}
use Rattle.sb_standing.proofs.GivenLemmas.{Comes-same}
use Rattle.sb_weights.specs.Beside.{BesideIsFull, RestHasRoom}
use Rattle.sb_weights.specs.Rooms.{extensions_of}
use Rattle.sb_weights.specs.Weights.{resting}
use Rattle.sb_weights.proofs.Bounded.{are-bounded}
use Rattle.sb_weights.proofs.Filling.{are_owners}
use Rattle.sb_weights.proofs.Resting.{light_rest}
use Rattle.sb_weights.proofs.Summing.{weighed_sum}
use Rattle.sb_weights.proofs.Weighing.{IsLight, Weighs, light_weighs}

pub rest-has-room : RestHasRoom
rest-has-room m durable root s gone kept aside spent meant are keeps few =
    let ext = extensions_of m in
    let at = resting (db_of kept) aside spent in
    let light = light_rest m ext durable s kept aside spent (are-bounded m) meant are keeps.tables.each keeps.rules keeps.joinless in
    let each = weighed_sum ext at s kept (All-weaker (IsLight ext at s 0) (Weighs ext at s 0) (light_weighs ext at s 0) kept light) in
    omega (arith, each, few, sum_by-append (λ o. page_count (owned s o)) (owners_in kept) gone)

-- ---- an owner beside those that stand
module _ (m : Meanings) (durable : ℕ → Bool) (root : ℕ) (s t : Slots) (gone : List ℕ) (kept : List Kept) (owner : ℕ)
    (keeps : Keeps m durable root s gone kept) (comes : Comes s t owner) where
  abbrev IsSame : ℕ → Type 0
  IsSame o = owned t o ≡ owned s o

  -- those have the pages that they had
  stay : pages_of t (owners_in kept ++ gone) ≡ pages_of s (owners_in kept ++ gone)
  stay =
      let each = All-both IsOwner (HasPage s) IsSame (λ o is has. Comes-same s t owner o comes is has) (owners_in kept ++ gone) keeps.own.each
      (pages-all m durable root s gone kept keeps) in
      pages-same t s (owners_in kept ++ gone) (λ o there. All-contains IsSame (owners_in kept ++ gone) o each there)

  -- no other owner has any
  known : (o : ℕ) → 2 < o → (IsAmong o (owner ∷ owners_in kept ++ gone) → ⊥) → (n : ℕ) → owned t o n ≡ []
  known o above none n =
      ap (λ (P : Pages). P n) (comes.others o (λ is. none (inl is)) (λ two. absurd (omega (arith, above, two))))
      ∙ keeps.own.known o above (λ is. none (inr is)) n

  owners : AreOwners (1 ∷ 2 ∷ owner ∷ owners_in kept ++ gone) t
  owners = are_owners t (owner ∷ owners_in kept ++ gone) known

pub beside-is-full : BesideIsFull
beside-is-full m durable root s t gone kept owner pages table total most keeps within small tabled short =
    let all = full-is-owned t short.ctx total table total total (1 ∷ 2 ∷ owner ∷ owners_in kept ++ gone) small tabled
    (owners m durable root s t gone kept owner keeps short.comes) (record { total_is = refl; all = refl; each = short.used }) in
    let f = λ (o : ℕ). page_count (owned t o) in
    omega (
      arith,
      within,
      all,
      stay m durable root s t gone kept owner keeps short.comes,
      short.all,
      short.catalogue,
      short.own,
      sum_by-cons f 1 (2 ∷ owner ∷ owners_in kept ++ gone),
      sum_by-cons f 2 (owner ∷ owners_in kept ++ gone),
      sum_by-cons f owner (owners_in kept ++ gone),
    )
