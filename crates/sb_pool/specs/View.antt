-- How contracts see a pool.
use Rattle.std.specs.Prelude.{◌≡◌, map, length}
use Rattle.std.specs.List.{All}
use Rattle.sb_pool.specs.declared.pool.Pool.TheInside.{Inside}
use Rattle.sb_pool.specs.Frames.{IsFrame, held_of}
use Rattle.sb_pool.specs.State.{State}

abbrev pub state_of : Inside → State
state_of a = record { geometry = a.geometry; pages = map held_of a.frames.items; position = a.position }

-- there is a frame for each page
pub record Kept (a : Inside) : Type 0 where
  pub count : length a.frames.items ≡ a.geometry.pages
  pub long : All IsFrame a.frames.items
