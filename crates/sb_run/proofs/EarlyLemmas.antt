-- What a crash leaves from the mount until the first item begins.
use Rattle.std.proofs.Common.{◌≡◌, ⊎_elim, ℕ, suc, ◌<◌, ◌≤◌, true, Option, Some, None, is_some, List, [], ◌∷◌, refl, ◌∙◌, arith}
use Rattle.std.proofs.lemmas.Bool.{cases_lt}
use Rattle.sb_disk.specs.Disk.{Story}
use Rattle.sb_disk.specs.Moments.{LeavesOnly, MayLeave, moment}
use Rattle.sb_relation.specs.Db.{Db}
use Rattle.sb_plain.specs.State.{State}
use Rattle.sb_grammar.specs.Columns.{Item}
use Rattle.sb_registry.specs.Boxes.{Meanings}
use Rattle.sb_sound_plays.specs.Opening.{opened}
use Rattle.sb_sound_plays.specs.Crashes.{HoldsDatabase, LeavesAlong, next_start}
use Rattle.sb_sound_plays.specs.Plays.{last_state}
use Rattle.sb_sound_plays.specs.Runs.{BeginsAt, GoesOn, HoldsLast}

tells-left : (told : Option Story) (t : ℕ) (image : List ℕ) → MayLeave told t image → is_some told ≡ true
tells-left None t image left = absurd left
tells-left (Some s) t image left = refl

-- What is so all along an opening stays so until the first item begins; where none does, what the disk holds then counts too.
pub early-along : (old mid new : Option Story) (starts : List ℕ) (until : ℕ) (P : List ℕ → Type 0) → LeavesOnly old mid P → GoesOn mid new
    → BeginsAt mid starts until → (starts ≡ [] → (t : ℕ) (image : List ℕ) → until ≤ t → MayLeave new t image → P image)
    → (t : ℕ) (image : List ℕ) → moment old ≤ t → t < next_start starts (suc (moment new)) → MayLeave new t image → P image
early-along old mid new [] until P opening on begins none t image from before left = ⊎_elim
    (λ (low : t < moment mid). opening.since t image from (on.before t image low left))
    (λ (high : moment mid ≤ t).
    let is = (begins (on.tells ∙ tells-left new t image left)).0 in
    none refl t image (omega (arith, is, high)) left)
    (cases_lt t (moment mid))
early-along old mid new (start ∷ starts) until P opening on begins none t image from before left = ⊎_elim
    (λ (low : t < moment mid). opening.since t image from (on.before t image low left))
    (λ (high : moment mid ≤ t).
    let is = (begins (on.tells ∙ tells-left new t image left)).0 in
    absurd (omega (arith, is, high, before)))
    (cases_lt t (moment mid))

-- where no item has begun, the last commit is the database that was opened
pub holds-opened : (m boxes : Meanings) (db : Db) (told : Option Story) (until end : ℕ) (items : List Item) (states : List State) (starts : List ℕ)
    → LeavesAlong m told end (opened boxes db) items states starts → HoldsLast m told until (last_state (opened boxes db) states) → starts ≡ []
    → (t : ℕ) (image : List ℕ) → until ≤ t → MayLeave told t image → HoldsDatabase m image db
holds-opened m boxes db told until end [] [] starts along last is = last refl
holds-opened m boxes db told until end [] (t ∷ states) starts along last is = absurd along
holds-opened m boxes db told until end (item ∷ items) [] starts along last is = absurd along
holds-opened m boxes db told until end (item ∷ items) (t ∷ states) [] along last is = absurd along
holds-opened m boxes db told until end (item ∷ items) (t ∷ states) (start ∷ starts) along last is = absurd (cc)
