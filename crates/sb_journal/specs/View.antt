-- How contracts see a journal.
use Rattle.std.specs.Prelude.{◌≡◌, ◌+◌, ◌^◌, ◌<◌, ◌≤◌, vec_capacity}
use Rattle.sb_disk.specs.Disk.{Range}
use Rattle.sb_journal.specs.declared.journal.Region.{Region}
use Rattle.sb_journal.specs.declared.journal.Journal.TheInside.{Inside}
use Rattle.sb_journal.specs.Chunks.{bytes_of, places_from}
use Rattle.sb_journal.specs.State.{State, Sound}

abbrev pub range_of : Region → Range
range_of region = record { start = region.start; len = region.len }

abbrev pub state_of : Inside → State
state_of a = record {
  gates = record { start = a.gates.start; len = a.gates.len };
  log = record { start = a.log.start; len = a.log.len };
  lens = a.lens.items;
  pending = a.pending;
  forces = a.forces;
  clean = a.clean;
  failed = a.failed;
}

-- The places and the count of bytes are those of the chunks, places on the disk are numbers of 64 bits, and there is memory for a chunk of each gate.
pub record Kept (a : Inside) : Type 0 where
  pub sound : Sound (state_of a)
  pub places : a.places.items ≡ places_from 0 a.lens.items
  pub used : a.used ≡ bytes_of a.lens.items
  pub gates : a.gates.start + a.gates.len < 2 ^ 64
  pub log : a.log.start + a.log.len < 2 ^ 64
  pub memory : a.gates.len ≤ vec_capacity a.lens
  pub place_memory : a.gates.len ≤ vec_capacity a.places
