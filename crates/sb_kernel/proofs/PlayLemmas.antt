-- Plays with one item more, and where more calls have failed.
use Rattle.std.proofs.Common.{◌≡◌, true, List, [], ◌∷◌, ◌++◌, refl}
use Rattle.sb_fold.specs.declared.refusal.Refusal.TheVariants as refusal
use Rattle.sb_fold.specs.declared.refusal.Room.{Room}
use Rattle.sb_fold.specs.Extensions.{Extensions}
use Rattle.sb_plain.specs.declared.command.Command.{Command}
use Rattle.sb_plain.specs.declared.reply.Reply.{Reply}
use Rattle.sb_plain.specs.declared.reply.Reply.TheVariants.{Refused}
use Rattle.sb_plain.specs.Licences.{may_want_memory, may_want_room}
use Rattle.sb_plain.specs.State.{State, downed}
use Rattle.sb_grammar.specs.Columns.{Item, Says, Bad}
use Rattle.sb_registry.specs.Boxes.{Meanings}
use Rattle.sb_execution.specs.Working.{extensions_of}
use Rattle.sb_log.specs.declared.geometry.Geometry.{Geometry}
use Rattle.sb_opening.specs.Ends.{Ends, IsFree, IsLacking, IsStep}
use Rattle.sb_opening.specs.Sessions.{Lacks}
use Rattle.sb_execution.proofs.EndLemmas.{Ends-since}
use Rattle.sb_kernel.specs.Plays.{Moves, MovesBy, Plays, last_state}

-- ---- one item more
pub last-more : (s : State) (states : List State) (t : State) → last_state s (states ++ t ∷ []) ≡ t
last-more s [] t = refl
last-more s (u ∷ states) t = last-more u states t

module _ (m : Meanings) (g : Geometry) where
  pub Plays-more : (HasFailed : Type 0) (s : State) (items : List Item) (replies : List Reply) (states : List State) (item : Item) (reply : Reply) (t : State)
      → Plays m g HasFailed s items replies states → MovesBy m g HasFailed (last_state s states) item reply t
      → Plays m g HasFailed s (items ++ item ∷ []) (replies ++ reply ∷ []) (states ++ t ∷ [])
  Plays-more HasFailed s [] [] [] item reply t plays moves = (moves, tt)
  Plays-more HasFailed s (i ∷ items) (r ∷ replies) (u ∷ states) item reply t plays moves = (plays.0, Plays-more HasFailed u items replies states item reply t plays.1 moves)
  Plays-more HasFailed s [] [] (u ∷ states) item reply t plays moves = absurd plays
  Plays-more HasFailed s [] (r ∷ replies) states item reply t plays moves = absurd plays
  Plays-more HasFailed s (i ∷ items) [] states item reply t plays moves = absurd plays
  Plays-more HasFailed s (i ∷ items) (r ∷ replies) [] item reply t plays moves = absurd plays

  -- ---- what has failed is known otherwise
  module _ (Failed HasFailed : Type 0) (since : Failed → HasFailed) where
    Moves-since : (ext : Extensions) (s : State) (item : Item) (reply : Reply) (t : State) → Moves (Lacks g) Failed ext s item reply t → Moves (Lacks g) HasFailed ext s item reply t
    Moves-since ext s (Bad column) reply t moves = moves
    Moves-since ext s (Says c) reply t moves = Ends-since (λ u. t ≡ u) (Lacks g) Failed HasFailed ext s c since reply moves

    pub MovesBy-since : (s : State) (item : Item) (reply : Reply) (t : State) → MovesBy m g Failed s item reply t → MovesBy m g HasFailed s item reply t
    MovesBy-since s item reply t moves = record {
      boxes = moves.boxes;
      are = moves.are;
      moves = Moves-since (extensions_of moves.boxes) s item reply t moves.moves;
      room = moves.room;
    }

    pub Plays-since : (s : State) (items : List Item) (replies : List Reply) (states : List State) → Plays m g Failed s items replies states → Plays m g HasFailed s items replies states
    Plays-since s [] [] [] plays = tt
    Plays-since s (i ∷ items) (r ∷ replies) (u ∷ states) plays = (MovesBy-since s i r u plays.0, Plays-since u items replies states plays.1)
    Plays-since s [] [] (u ∷ states) plays = absurd plays
    Plays-since s [] (r ∷ replies) states plays = absurd plays
    Plays-since s (i ∷ items) [] states plays = absurd plays
    Plays-since s (i ∷ items) (r ∷ replies) [] plays = absurd plays

-- ---- the state to which a command comes
-- it ends in this state, which stands
pub record Comes (Stands : State → Type 0) (Lacks : Room → Type 0) (HasFailed : Type 0) (ext : Extensions) (s : State) (c : Command) (reply : Reply) : Type 0 where
  pub state : State
  pub ends : Ends (λ u. state ≡ u) Lacks HasFailed ext s c reply
  pub stands : Stands state

module _ (Stands : State → Type 0) (Lacks : Room → Type 0) (HasFailed : Type 0) (ext : Extensions) (s : State) (c : Command) where
  this_step : (r : Reply) (step : IsStep Stands ext s c r) → IsStep (λ u. step.after ≡ u) ext s c r
  this_step r step = record { after = step.after; steps = step.steps; stands = refl }

  this_free : (Cause : Type 0) (now : State) → IsFree Stands Cause s now → IsFree (λ u. now ≡ u) Cause s now
  this_free Cause now free = record { up = free.up; cause = free.cause; stands = refl }

  this_lacking : (Cause : Type 0) (lacks : IsLacking Stands Cause ext s c) → IsLacking (λ u. lacks.after ≡ u) Cause ext s c
  this_lacking Cause lacks = record { up = lacks.up; cause = lacks.cause; after = lacks.after; left = lacks.left; stands = refl }

  pub Ends-comes : (r : Reply) → Ends Stands Lacks HasFailed ext s c r → Comes Stands Lacks HasFailed ext s c r
  Ends-comes (Refused (refusal.Room room)) ends = record { state = ends.after; ends = this_lacking (Lacks room × (may_want_room s c ≡ true)) ends; stands = ends.stands }
  Ends-comes (Refused refusal.NoMemory) ends = record { state = ends.after; ends = this_lacking (may_want_memory s c ≡ true) ends; stands = ends.stands }
  Ends-comes (Refused refusal.Fault) ends = record { state = downed s; ends = this_free HasFailed (downed s) ends; stands = ends.stands }
  Ends-comes (Refused (refusal.Damaged page)) ends = absurd ends
  Ends-comes (Refused r) ends = record { state = ends.after; ends = this_step (Refused r) ends; stands = ends.stands }
  Ends-comes r ends = record { state = ends.after; ends = this_step r ends; stands = ends.stands }
