-- The moves that outcomes are answered with.
use Rattle.std.specs.Prelude.{◌≡◌, ℕ, ◌<◌, ◌^◌, ◌++◌, Bool, true, false, List, length, take, replicate, Option, Some, None, Result, Ok, Err}
use Rattle.std.specs.Int.{bytes_high_first}
use Rattle.sb_bytes.specs.Field.{number_at}
use Rattle.sb_relation.specs.Db.{Key, Row}
use Rattle.sb_ctx.specs.declared.moves.Move.{Move}
use Rattle.sb_ctx.specs.declared.moves.Move.TheVariants as move
use Rattle.sb_heap.specs.Heap.{low_page}
use Rattle.sb_heap.specs.declared.stop.Stop.{Stop}
use Rattle.sb_heap.specs.declared.stop.Stop.TheVariants.{Need, Fresh, After, Broken, NoMemory}

abbrev pub question_of : Stop → Move
question_of (Need n) = move.Need n
question_of Fresh = move.Fresh
question_of (After low) = move.After low
question_of (Broken n) = move.Broken n
question_of NoMemory = move.NoMemory

abbrev pub prepare_move : Result (Unit {0}) Stop → Move
prepare_move (Ok done) = move.Done
prepare_move (Err s) = question_of s

abbrev pub insert_move : Result Key Stop → Move
insert_move (Ok key) = move.Key key
insert_move (Err s) = question_of s

abbrev pub delete_move : Result Bool Stop → Move
delete_move (Ok true) = move.Done
delete_move (Ok false) = move.NoRecord
delete_move (Err s) = question_of s

abbrev pub update_move : Result (Option Key) Stop → Move
update_move (Ok (Some key)) = move.Key key
update_move (Ok None) = move.NoRecord
update_move (Err s) = question_of s

abbrev pub get_move : Key → Result (Option Row) Stop → Move
get_move key (Ok (Some row)) = move.Row key row
get_move key (Ok None) = move.NoRecord
get_move key (Err s) = question_of s

abbrev pub next_move : Result (Option (Key × Row)) Stop → Move
next_move (Ok (Some row)) = move.Row row.0 row.1
next_move (Ok None) = move.End
next_move (Err s) = question_of s

-- the page and the slot of a record key of six bytes
pub record IsPartedInto (key : Key) (page : ℕ) (slot : List ℕ) : Type 0 where
  pub six : length key ≡ 6
  pub page_is : page ≡ number_at 4 key 0
  pub page_low : page < 2 ^ 32
  pub key_is : key ≡ bytes_high_first 4 page ++ slot
  pub slot_long : length slot ≡ 2

-- the page of a low key, whose bytes are the first four, and zeros where it has fewer
pub record IsLowPage (low : Key) (page : ℕ) : Type 0 where
  pub page_is : page ≡ low_page low
  pub page_low : page < 2 ^ 32
  pub front : bytes_high_first 4 page ≡ take 4 (low ++ replicate 4 0)
