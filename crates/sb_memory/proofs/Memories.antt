-- Instances that come and go in a memory.
use Rattle.std.proofs.Common.{◌≡◌, ℕ, List, sym, ap, subst, ◌∙◌, arith}
use Rattle.sb_forms.specs.Pages.{new_pages}
use Rattle.sb_drive.specs.Instances.{IsLeastOwner}
use Rattle.sb_memory.specs.MemorySpaces.{HasPages}
use Rattle.sb_drive.specs.Slots.{Slots, owned}
use Rattle.sb_memory.specs.Contents.{Contents, Keeps, pages_of, slots}
use Rattle.sb_drive.specs.Spaces.{Leaves, Wanted}
use Rattle.sb_memory.proofs.MemoryLemmas.{Has}
use Rattle.sb_owners.specs.Instances.{HasCome, HasNone, without_owner}
use Rattle.sb_owners.proofs.Owned.{HasNone-unused, HasNone-without, owned-without}

pub HasCome-memory : (want : Wanted) (s : Slots) (taken : List ℕ) (owner root : ℕ) (old new : Contents) → IsLeastOwner (slots old.now) taken owner → pages_of new.now owner ≡ new_pages root → Keeps owner old new
    → HasPages (slots new.now) new → HasPages s old → HasCome Has want s owner root new
HasCome-memory want s taken owner root old new least pages keeps now has = record {
  slots = slots new.now;
  has = now;
  from = let three = least.from in omega (arith, three);
  none = HasNone-unused s owner (λ n is. least.unused n (sym (ap (λ (f : Slots). (f n).0) has.are) ∙ is));
  pages = pages;
  others = λ o other. keeps.others o other ∙ ap (λ (f : Slots). owned f o) (sym has.are);
}

pub Leaves-cleared : (want : Wanted) (s : Slots) (owner : ℕ) (old new : Contents) → slots new.now ≡ without_owner owner (slots old.now) → HasPages (slots new.now) new → HasPages s old → Leaves Has owner want s new HasNone
Leaves-cleared want s owner old new cleared now has = record {
  slots = slots new.now;
  has = now;
  others = λ o other. ap (λ (f : Slots). owned f o) made ∙ owned-without owner o s other;
  own = subst (λ (f : Slots). HasNone (owned f owner)) (sym made) (HasNone-without owner s);
}
  where
    made : slots new.now ≡ without_owner owner s
    made = cleared ∙ ap (without_owner owner) (sym has.are)
