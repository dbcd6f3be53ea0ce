-- Where no page is left for a call: the need of the change is no less than the pages.
use Rattle.std.proofs.Common.{◌≡◌, ℕ, ◌+◌, ◌<◌, ◌≤◌, true, List, ◌∷◌, length, refl, arith}
use Rattle.std.proofs.lemmas.List.Sums.{sum_by-cons}
use Rattle.sb_ctx.specs.View.{View, fresh_pages, holds_fresh}
use Rattle.sb_forms.specs.Pages.{page_count}
use Rattle.sb_drive.specs.Slots.{Slots, owned}
use Rattle.sb_room.specs.Owned.{IsTabled, pages_of}
use Rattle.sb_room.proofs.Owning.{full-is-owned}
use Rattle.sb_standing.specs.Standing.{Own, owners_in}
use Rattle.sb_standing.specs.Tables.{Kept}
use Rattle.sb_weights.specs.Weights.{AskingIsFull, ChangeIsFull, owners_with}
use Rattle.sb_weights.proofs.Asking.{asking-is-within}
use Rattle.sb_weights.proofs.Changing.{change-is-within}
use Rattle.sb_weights.proofs.Filling.{all_owners}

-- the pages are those of the table, the fresh ones, and those of all owners
pages_within : (s : Slots) (c : View) (kept : List Kept) (gone : List ℕ) (table total most : ℕ) → Own s (owners_in kept) gone → total ≤ 65536
    → IsTabled table s → ((n : ℕ) → n < total → (s n).0 ≡ 0 → holds_fresh c n ≡ true)
    → pages_of s (owners_with kept gone) + length (fresh_pages c) ≤ most → total ≤ table + page_count (owned s 1) + most
pages_within s c kept gone table total most own small tabled used within =
    let all = full-is-owned s c total table total total (1 ∷ owners_with kept gone) small tabled (all_owners s kept gone own)
    (record { total_is = refl; all = refl; each = used }) in
    let first = sum_by-cons (λ o. page_count (owned s o)) 1 (owners_with kept gone) in
    omega (arith, all, first, within)

pub change-is-full : ChangeIsFull
change-is-full m durable root s gone kept aside spent name k c box table total meant are keeps few there live small tabled short =
    pages_within s short.ctx kept gone table total _ keeps.own small tabled short.used
    (change-is-within m durable root s gone kept aside spent name k c box (length (fresh_pages short.ctx)) meant are keeps few there live short.within)

pub asking-is-full : AskingIsFull
asking-is-full m durable root s gone before aside spent name c i k d a box table total meant are asks few there at_d at_a live small tabled short =
    pages_within s short.ctx before gone table total _ asks.own small tabled short.used
    (asking-is-within m durable root s gone before aside spent name c i k d a box (length (fresh_pages short.ctx)) meant are asks few there at_d at_a
    live short.within)
