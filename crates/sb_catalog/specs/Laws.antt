-- Laws of descriptors.
use Rattle.std.specs.Prelude.{◌≡◌, length}
use Rattle.sb_relation.specs.Db.{Relation}
use Rattle.sb_relation.specs.Limits.{descriptor_len}
use Rattle.sb_catalog.specs.declared.descriptor.Descriptor.{Descriptor}
use Rattle.sb_catalog.specs.Descriptors.{descriptor_spelling, IsStorableDescriptor, IsDescriptorOf}

-- descriptors that can be stored and have one spelling are one
abbrev pub OneDescriptor : Type 0
OneDescriptor = (d e : Descriptor) → IsStorableDescriptor d → IsStorableDescriptor e → descriptor_spelling d ≡ descriptor_spelling e → d ≡ e

-- a relation's descriptor is as long as its limit counts, whatever rows and buckets it has
abbrev pub IsAsLong : Type 0
IsAsLong = (r : Relation) (d : Descriptor) → IsDescriptorOf r d → length (descriptor_spelling d) ≡ descriptor_len r
