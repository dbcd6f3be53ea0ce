-- Record keys that a storage method picked.
use Rattle.std.specs.Prelude.{ℕ, List, [], ◌∷◌}
use Rattle.sb_rule.specs.declared.change.Change.{Change}
use Rattle.sb_rule.specs.declared.change.Change.TheVariants as change
use Rattle.sb_relation.specs.Db.{Key}
use Rattle.sb_relation.specs.Keys.{Keying, Picked, Coded, Counted, keying_of}

-- the record key that a row got
abbrev pub keys_got : Change → List Key
keys_got (change.Insert key new) = key ∷ []
keys_got (change.Delete key old) = []
keys_got (change.Update from old to new) = to ∷ []

abbrev pub picked_by : Keying → Change → List Key
picked_by Picked c = keys_got c
picked_by Coded c = []
picked_by Counted c = []

-- the record keys that the storage method of this code picked for a change
abbrev pub picks_of : ℕ → Change → List Key
picks_of method c = picked_by (keying_of method) c
