-- Bytes written over others.
use Rattle.std.specs.Prelude.{ℕ, ◌+◌, List, ◌++◌, length, take, drop}

-- these bytes from a place on, and the old ones elsewhere
abbrev pub splice : ℕ → List ℕ → List ℕ → List ℕ
splice at bytes old = take at old ++ bytes ++ drop (at + length bytes) old
