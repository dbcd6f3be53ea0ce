-- What a catalogue gives of a database without its rows.
use Rattle.std.specs.Prelude.{◌≡◌, Bool, true, false, [], ◌∷◌, filter, Option, Some, None}
use Rattle.std.specs.Ordering.{is_lt}
use Rattle.sb_value.specs.Order.{bytes_cmp}
use Rattle.sb_relation.specs.Db.{Name, Relation, Db}
use Rattle.sb_fold.specs.declared.refusal.Refusal.{Refusal}
use Rattle.sb_fold.specs.declared.refusal.Refusal.TheVariants.{Room, Damaged, Fault, NoMemory}
use Rattle.sb_catalog.specs.declared.descriptor.Descriptor.{Descriptor}
use Rattle.sb_catalog.specs.Descriptors.{IsDescriptorOf}

-- a refusal that no definition gives: room, damage, a fault, or want of memory
abbrev pub is_free : Refusal → Bool
is_free (Room room) = true
is_free (Damaged page) = true
is_free Fault = true
is_free NoMemory = true
is_free _ = false

-- it calls a page damaged
abbrev pub is_damage : Refusal → Bool
is_damage (Damaged page) = true
is_damage _ = false

-- the relation is there with this descriptor, or neither is
abbrev pub Describes : Option Relation → Option Descriptor → Type 0
Describes None None = Unit {0}
Describes None (Some d) = ⊥
Describes (Some r) None = ⊥
Describes (Some r) (Some d) = IsDescriptorOf r d

-- behind a name in the order of names, or anywhere
abbrev pub is_above : Option Name → Name → Bool
is_above None name = true
is_above (Some low) name = is_lt (bytes_cmp low name)

-- the relations behind a name, or all
abbrev pub above : Option Name → Db → Db
above low db = filter (λ e. is_above low e.0) db

-- the first relation, with its descriptor; or there is none
abbrev pub IsFirst : Db → Option (Name × Descriptor) → Type 0
IsFirst [] None = Unit {0}
IsFirst [] (Some found) = ⊥
IsFirst (e ∷ db) None = ⊥
IsFirst (e ∷ db) (Some found) = (found.0 ≡ e.0) × IsDescriptorOf e.1 found.1
