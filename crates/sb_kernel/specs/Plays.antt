-- Plays: what a plain database replies to items, one after the other, and the states that they lead to.
use Rattle.std.specs.Prelude.{◌≡◌, List, [], ◌∷◌}
use Rattle.sb_fold.specs.declared.refusal.Refusal.TheVariants.{Syntax}
use Rattle.sb_fold.specs.declared.refusal.Refusal.TheVariants as refusal
use Rattle.sb_fold.specs.declared.refusal.Room.{Room}
use Rattle.sb_fold.specs.Extensions.{Extensions}
use Rattle.sb_plain.specs.declared.reply.Reply.{Reply}
use Rattle.sb_plain.specs.declared.reply.Reply.TheVariants.{Refused}
use Rattle.sb_plain.specs.Licences.{LacksRoom, Sizes}
use Rattle.sb_plain.specs.State.{State}
use Rattle.sb_grammar.specs.Columns.{Item, Says, Bad}
use Rattle.sb_registry.specs.Boxes.{Meanings}
use Rattle.sb_execution.specs.Working.{extensions_of}
use Rattle.sb_vectors.specs.Vectors.{AreSameBoxes, live_codes, spare_codes}
use Rattle.sb_log.specs.declared.geometry.Geometry.{Geometry}
use Rattle.sb_opening.specs.Ends.{Ends}
use Rattle.sb_opening.specs.Sessions.{Lacks}

-- The reply to an item, and the state after it: a bad line is answered by the column of its fault, and the state stays. A command ends as a step, or
-- for want of room or memory, or because the disk has failed.
abbrev pub Moves : (Lacks : Room → Type 0) (HasFailed : Type 0) → Extensions → State → Item → Reply → State → Type 0
Moves Lacks HasFailed ext s (Bad column) reply t = (reply ≡ Refused (Syntax column)) × (t ≡ s)
Moves Lacks HasFailed ext s (Says c) reply t = Ends (λ u. t ≡ u) Lacks HasFailed ext s c reply

-- these are the boxes, in the order of the state's codes
pub record AreBoxesOf (m : Meanings) (s : State) (now : Meanings) : Type 0 where
  pub same : AreSameBoxes m now
  pub live : s.live ≡ live_codes now
  pub spare : s.spare ≡ spare_codes now

-- the sizes of a store, as licences have them
abbrev pub sizes_in : Geometry → Sizes
sizes_in g = record { pages = g.pages; log = g.log }

-- want of room is the reply to an item only where it is a command that has the licence
abbrev pub MayWantRoom : Meanings → Geometry → State → Item → Reply → Type 0
MayWantRoom m g s (Says c) (Refused (refusal.Room room)) = LacksRoom (extensions_of m) (sizes_in g) s c room
MayWantRoom m g s item reply = Unit {0}

-- so it is with the boxes in that order, in a store of these sizes
pub record MovesBy (m : Meanings) (g : Geometry) (HasFailed : Type 0) (s : State) (item : Item) (reply : Reply) (t : State) : Type 0 where
  pub boxes : Meanings
  pub are : AreBoxesOf m s boxes
  pub moves : Moves (Lacks g) HasFailed (extensions_of boxes) s item reply t
  pub room : MayWantRoom boxes g s item reply

-- the replies to items, and the state after each
abbrev pub Plays : Meanings → Geometry → (HasFailed : Type 0) → State → List Item → List Reply → List State → Type 0
Plays m g HasFailed s [] [] [] = Unit {0}
Plays m g HasFailed s (item ∷ items) (reply ∷ replies) (t ∷ states) =
    MovesBy m g HasFailed s item reply t × Plays m g HasFailed t items replies states
Plays m g HasFailed s _ _ _ = ⊥

-- the state that they lead to
abbrev pub last_state : State → List State → State
last_state s [] = s
last_state s (t ∷ states) = last_state t states
