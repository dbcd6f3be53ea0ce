-- What a call leaves of the bytes that a source has left, and of those that a sink holds, where they tell them.
use Rattle.std.specs.Prelude.{◌≡◌, ◌↔◌, ℕ, ◌<◌, ◌≤◌, Option, Some, None, List, [], ◌++◌, length, take, drop}

-- So many of the bytes that were left stand in front of the buffer now; none of them comes exactly at the end.
pub record Takes (left : List ℕ) (new : Option (List ℕ)) (count : ℕ) (buffer : List ℕ) : Type 0 where
  pub rest : new ≡ Some (drop count left)
  pub front : take count buffer ≡ take count left
  pub within : count ≤ length left
  pub at_end : 0 < length buffer → ((count ≡ 0) ↔ (left ≡ []))

abbrev pub Took : Option (List ℕ) → Option (List ℕ) → ℕ → List ℕ → Type 0
Took None new count buffer = new ≡ None
Took (Some left) new count buffer = Takes left new count buffer

-- So many first bytes of the piece stand behind those that were held.
abbrev pub Held : Option (List ℕ) → Option (List ℕ) → ℕ → List ℕ → Type 0
Held None new count piece = new ≡ None
Held (Some held) new count piece = new ≡ Some (held ++ take count piece)

-- What a source that tells its bytes has given between two moments.
pub record Gone (left : List ℕ) (new : Option (List ℕ)) (bytes : List ℕ) : Type 0 where
  pub rest : List ℕ
  pub stays : new ≡ Some rest
  pub whole : left ≡ bytes ++ rest

-- These bytes were taken of the source, where it tells them.
abbrev pub Taken : Option (List ℕ) → Option (List ℕ) → List ℕ → Type 0
Taken None new bytes = new ≡ None
Taken (Some left) new bytes = Gone left new bytes

-- These bytes were given to the sink, where it tells them.
abbrev pub Given : Option (List ℕ) → Option (List ℕ) → List ℕ → Type 0
Given None new bytes = new ≡ None
Given (Some held) new bytes = new ≡ Some (held ++ bytes)
