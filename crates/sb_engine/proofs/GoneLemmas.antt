-- What is gone, once instances were dropped or detached.
use Rattle.std.proofs.Common.{◌≡◌, ℕ, Bool, true, false, List, [], ◌∷◌, ◌++◌}
use Rattle.sb_drive.specs.Slots.{Slots, owned}
use Rattle.sb_standing.specs.Standing.{IsAmong, Own}
use Rattle.sb_standing.specs.Tables.{KeepsOthers}
use Rattle.sb_weights.proofs.Measuring.{held-same}
use Rattle.sb_standing.proofs.OwnersLemmas.{All-from_among, AreApart-across}
use Rattle.sb_standing.proofs.PagesLemmas.{pages-kept}
use Rattle.sb_weights.specs.Measures.{AreHeld}
use Rattle.sb_fold.specs.Building.{with_gone}
use Rattle.sb_fold.specs.Outcome.{Gone}
use Rattle.sb_engine.specs.Working.{IsNoneGone}

some_in : (xs : List ℕ) (n : ℕ) (ns : List ℕ) → xs ++ n ∷ ns ≡ [] → ⊥
some_in [] n ns none = cc
some_in (x ∷ xs) n ns none = cc

-- with those of an instance more something is gone
pub with_gone-some : (durable : Bool) (n : ℕ) (ns : List ℕ) (gone : Gone) → IsNoneGone (with_gone durable (n ∷ ns) gone) → ⊥
with_gone-some true n ns gone none = some_in gone.durable n ns none.durable
with_gone-some false n ns gone none = some_in gone.others n ns none.others

-- ---- the pages of owners that are to go
-- a call of an instance that is kept leaves them
pub held-others : (s t : Slots) (owners gone bounds : List ℕ) (owner : ℕ) → IsAmong owner owners → KeepsOthers owner s t → Own s owners gone → AreHeld s gone bounds
    → AreHeld t gone bounds
held-others s t owners gone bounds owner among others own held =
    held-same s t gone bounds (All-from_among (λ o. owned t o ≡ owned s o) gone
    (λ o later. pages-kept owner o s t others (AreApart-across owners gone owner o own.apart among later))) held
