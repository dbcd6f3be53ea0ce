-- A space of three pages in which none is left: one is the table's, one an owner's, and one is held as a fresh one. The law is exact there.
use Rattle.std.proofs.Common.{◌≡◌, ◌≢◌, ℕ, zero, suc, ◌+◌, ◌<◌, ◌≤◌, true, [], ◌∷◌, length, refl, arith}
use Rattle.sb_ctx.specs.View.{View, fresh_page, fresh_pages, holds_fresh}
use Rattle.sb_ctx.proofs.AuthorLaws.{page_count-one}
use Rattle.sb_drive.specs.Slots.{Slots, nobodys, owned}
use Rattle.sb_drive.specs.Spaces.{AreUsed}
use Rattle.sb_room.specs.Owned.{pages_of, IsTabled, AreOwners}
use Rattle.sb_room.proofs.Owning.{full-is-owned}

-- page 0 shows no bytes, page 1 has one byte, and page 2 is nobody's, as are all behind it
abbrev three : Slots
three zero = (1, [])
three (suc zero) = (5, 7 ∷ [])
three (suc (suc n)) = nobodys

-- page 2 is held
abbrev holding : View
holding = record { held = (2, fresh_page) ∷ []; nexts = []; found = []; asks = 1 }

tabled : IsTabled 1 three
tabled zero some bare = omega arith
tabled (suc zero) some bare = absurd (cc)
tabled (suc (suc n)) some bare = absurd (some refl)

owners : AreOwners (5 ∷ []) three
owners zero some shows = absurd (shows refl)
owners (suc zero) some shows = (0, omega arith, refl)
owners (suc (suc n)) some shows = absurd (some refl)

used : AreUsed 3 three holding 3 3
used = record { total_is = refl; all = refl; each = each }
  where
    each : (m : ℕ) → m < 3 → (three m).0 ≡ 0 → holds_fresh holding m ≡ true
    each zero low free = absurd (omega arith)
    each (suc zero) low free = absurd (omega arith)
    each (suc (suc zero)) low free = refl
    each (suc (suc (suc m))) low free = absurd (omega arith)

enough : 3 ≤ 1 + length (fresh_pages holding) + pages_of three (5 ∷ [])
enough = full-is-owned three holding 3 1 3 3 (5 ∷ []) (omega arith) tabled owners used

-- no other page shows bytes to the owner; so it has one page, and the law is exact
no_other : (n : ℕ) → owned three 5 n ≢ [] → n ≡ 1
no_other zero some = absurd (some refl)
no_other (suc zero) some = refl
no_other (suc (suc n)) some = absurd (some refl)

owner_has : pages_of three (5 ∷ []) ≡ 1
owner_has = omega (arith, enough, page_count-one (owned three 5) 1 no_other)

-- one page each: the table's, the fresh one and the owner's are three
fresh_one : length (fresh_pages holding) ≡ 1
fresh_one = refl
