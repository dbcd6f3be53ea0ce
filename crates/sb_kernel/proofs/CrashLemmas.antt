-- What a crash leaves of a play that goes on, or is over.
use Rattle.std.proofs.Common.{◌≡◌, inl, inr, ⊎_elim, ℕ, ◌<◌, ◌≤◌, suc, true, is_some, Option, Some, None, List, [], ◌∷◌, ◌++◌, refl, sym, ap, ◌∙◌, subst, arith}
use Rattle.std.proofs.lemmas.Bool.{cases_lt, false≢true}
use Rattle.sb_disk.specs.Disk.{Fits, Story}
use Rattle.sb_disk.specs.Moments.{LeavesOnly, MayLeave, moment}
use Rattle.sb_log.specs.declared.geometry.Geometry.{Geometry}
use Rattle.sb_plain.specs.declared.reply.Reply.{Reply}
use Rattle.sb_plain.specs.State.{State, committed}
use Rattle.sb_grammar.specs.Columns.{Item, Says, Bad}
use Rattle.sb_registry.specs.Boxes.{Meanings}
use Rattle.sb_kernel.specs.Plays.{MovesBy, Plays, last_state}
use Rattle.sb_kernel.specs.Crashes.{HoldsDatabase, IsLeft, LeavesAlong, next_start}
use Rattle.sb_kernel.specs.Runs.{AreInOrder, BeginsAt, GoesOn}

-- ---- when items begin
-- an image is left at a moment that is told
told_of : (told : Option Story) (t : ℕ) (image : List ℕ) → MayLeave told t image → is_some told ≡ true
told_of None t image left = absurd left
told_of (Some s) t image left = refl

pub clock-moment : (size clock : ℕ) (told : Option Story) → Fits size clock told → is_some told ≡ true → clock ≡ moment told
clock-moment size clock None fits is = absurd (false≢true is)
clock-moment size clock (Some s) fits is = sym fits.moments

next-last : (starts : List ℕ) (end : ℕ) → AreInOrder starts end → next_start starts end ≤ end
next-last [] end order = omega arith
next-last (start ∷ starts) end order =
    let here : start ≤ next_start starts end = order.0 in
    let later : next_start starts end ≤ end = next-last starts end order.1 in
    omega arith

next-more : (starts : List ℕ) (c end : ℕ) → next_start (starts ++ c ∷ []) end ≡ next_start starts c
next-more [] c end = refl
next-more (start ∷ starts) c end = refl

next-suc : (starts : List ℕ) (end : ℕ) → next_start starts end ≤ next_start starts (suc end)
next-suc [] end = omega arith
next-suc (start ∷ starts) end = omega arith

order-more : (starts : List ℕ) (c end : ℕ) → c ≤ end → AreInOrder starts c → AreInOrder (starts ++ c ∷ []) end
order-more [] c end less order = (less, tt)
order-more (start ∷ starts) c end less order = (subst (λ (n : ℕ). start ≤ n) (sym (next-more starts c end)) order.0, order-more starts c end less order.1)

pub BeginsAt-more : (first old : Option Story) (starts : List ℕ) (c end : ℕ) → is_some first ≡ is_some old → (is_some old ≡ true → c ≡ moment old) → moment old ≤ end
    → BeginsAt first starts (moment old) → BeginsAt first (starts ++ c ∷ []) end
BeginsAt-more first old starts c end tells at later begins told =
    let now : c ≡ moment old = at (sym tells ∙ told) in (
      next-more starts c end ∙ ap (λ (n : ℕ). next_start starts n) now ∙ (begins told).0,
      order-more starts c end (subst (λ (n : ℕ). n ≤ end) (sym now) later) (subst (λ (n : ℕ). AreInOrder starts n) (sym now) (begins told).1),
    )

pub GoesOn-then : (a b c : Option Story) (P : List ℕ → Type 0) → GoesOn a b → LeavesOnly b c P → GoesOn a c
GoesOn-then a b c P one two = record {
  tells = one.tells ∙ two.tells;
  later = (let first = one.later in let second = two.later in omega arith);
  before = λ t image early left. one.before t image early (two.before t image (let first = one.later in omega arith) left);
}

-- ---- one item more
module _ (m : Meanings) (old new : Option Story) where
  pub LeavesAlong-more : (c : ℕ) (item : Item) (t : State) → (is_some old ≡ true → c ≡ moment old) → (s : State) (items : List Item) (states : List State) (starts : List ℕ)
      → (is_some old ≡ true → AreInOrder starts (moment old)) → LeavesOnly old new (IsLeft m (last_state s states) item t)
      → LeavesAlong m old (suc (moment old)) s items states starts
      → LeavesAlong m new (suc (moment new)) s (items ++ item ∷ []) (states ++ t ∷ []) (starts ++ c ∷ [])
  LeavesAlong-more c item t at s [] [] [] order run along = (
    λ k image late early left.
        let now : c ≡ moment old = at (run.tells ∙ told_of new k image left) in
        run.since k image (omega arith) left,
    tt,
  )
  LeavesAlong-more c item t at s (i ∷ items) (u ∷ states) (start ∷ starts) order run along = (
    λ k image late early left.
        let told : is_some old ≡ true = run.tells ∙ told_of new k image left in
        let next : next_start (starts ++ c ∷ []) (suc (moment new)) ≡ next_start starts (moment old) =
        next-more starts c (suc (moment new)) ∙ ap (λ (n : ℕ). next_start starts n) (at told) in
        let below : k < next_start starts (moment old) = subst (λ (n : ℕ). k < n) next early in
        let last : next_start starts (moment old) ≤ moment old = next-last starts (moment old) (order told).1 in
        let more : next_start starts (moment old) ≤ next_start starts (suc (moment old)) = next-suc starts (moment old) in
        along.0 k image late (omega arith) (run.before k image (omega arith) left),
    LeavesAlong-more c item t at u items states starts (λ told. (order told).1) run along.1,
  )
  LeavesAlong-more c item t at s [] [] (start ∷ starts) order run along = absurd along
  LeavesAlong-more c item t at s [] (u ∷ states) starts order run along = absurd along
  LeavesAlong-more c item t at s (i ∷ items) [] starts order run along = absurd along
  LeavesAlong-more c item t at s (i ∷ items) (u ∷ states) [] order run along = absurd along

-- what holds the database behind an item may be left by it
MovesBy-left : (m : Meanings) (g : Geometry) (HasFailed : Type 0) (s : State) (item : Item) (reply : Reply) (t : State) (image : List ℕ)
    → MovesBy m g HasFailed s item reply t → HoldsDatabase m image (committed t) → IsLeft m s item t image
MovesBy-left m g HasFailed s (Bad column) reply t image moves holds = subst (λ (u : State). HoldsDatabase m image (committed u)) moves.moves.1 holds
MovesBy-left m g HasFailed s (Says c) reply t image moves holds = inr (record { db = committed t; made = inl refl; holds = holds })

-- ---- no item more
module _ (m : Meanings) (g : Geometry) (HasFailed : Type 0) (old new : Option Story) where
  -- a moment of the last item that is no earlier than this one
  is_last : (k : ℕ) (s : State) (items : List Item) (states : List State) (starts : List ℕ) → LeavesAlong m old (suc (moment old)) s items states starts → AreInOrder starts (moment old)
      → k < next_start starts (suc (moment old)) → moment old ≤ k → last_state s states ≡ s
  is_last k s [] [] [] along order early late = refl
  is_last k s items states (start ∷ starts) along order early late = absurd (let last : start ≤ moment old = next-last (start ∷ starts) (moment old) order in omega arith)
  is_last k s [] (u ∷ states) [] along order early late = absurd along
  is_last k s (i ∷ items) [] [] along order early late = absurd along
  is_last k s (i ∷ items) (u ∷ states) [] along order early late = absurd along

  pub LeavesAlong-closed : (s : State) (items : List Item) (replies : List Reply) (states : List State) (starts : List ℕ) → (is_some old ≡ true → AreInOrder starts (moment old))
      → Plays m g HasFailed s items replies states → LeavesOnly old new (λ image. HoldsDatabase m image (committed (last_state s states)))
      → LeavesAlong m old (suc (moment old)) s items states starts → LeavesAlong m new (suc (moment old)) s items states starts
  LeavesAlong-closed s [] [] [] [] order plays run along = tt
  LeavesAlong-closed s (i ∷ items) (r ∷ replies) (u ∷ states) (start ∷ starts) order plays run along = (
    λ k image late early left. ⊎_elim
        (λ (earlier : k < moment old). along.0 k image late early (run.before k image earlier left))
        (λ (later : moment old ≤ k).
        let told : is_some old ≡ true = run.tells ∙ told_of new k image left in
        let last : last_state u states ≡ u = is_last k u items states starts along.1 (order told).1 early later in
        MovesBy-left m g HasFailed s i r u image plays.0 (subst (λ (t : State). HoldsDatabase m image (committed t)) last (run.since k image later left)))
        (cases_lt k (moment old)),
    LeavesAlong-closed u items replies states starts (λ told. (order told).1) plays.1 run along.1,
  )
  LeavesAlong-closed s [] [] [] (start ∷ starts) order plays run along = absurd along
  LeavesAlong-closed s [] [] (u ∷ states) starts order plays run along = absurd plays
  LeavesAlong-closed s [] (r ∷ replies) states starts order plays run along = absurd plays
  LeavesAlong-closed s (i ∷ items) [] states starts order plays run along = absurd plays
  LeavesAlong-closed s (i ∷ items) (r ∷ replies) [] starts order plays run along = absurd plays
  LeavesAlong-closed s (i ∷ items) (r ∷ replies) (u ∷ states) [] order plays run along = absurd along
