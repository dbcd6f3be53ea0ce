-- What is seen of a relation that is there.
use Rattle.std.proofs.Common.{◌≡◌, ℕ, ◌+◌, nat_lt, Bool, length, Option, Some, None, ap, subst, ◌∙◌}
use Rattle.sb_relation.specs.Db.{Relation}
use Rattle.sb_catalog.specs.declared.descriptor.Descriptor.{Descriptor}
use Rattle.sb_catalog.specs.Descriptors.{descriptor_spelling}
use Rattle.sb_catalog.proofs.Described.{is_as_long}
use Rattle.sb_refusals.specs.declared.seen.Seen.{Seen}
use Rattle.sb_refusals.specs.Catalogue.{Describes}
use Rattle.sb_refusals.specs.Lengths.{is_over}
use Rattle.sb_refusals.specs.Seen.{IsSeen}

pub over_seen : (r : Option Relation) (seen : Seen) (d : Descriptor) (n : ℕ) (b : Bool) → IsSeen r seen → seen.descriptor ≡ Some d
    → b ≡ nat_lt 1900 (length (descriptor_spelling d) + n) → b ≡ is_over r n
over_seen r seen d n b is there e = by r (subst (λ (o : Option Descriptor). Describes r o) there is.described)
  where
    by : (r : Option Relation) → Describes r (Some d) → b ≡ is_over r n
    by None h = absurd h
    by (Some q) h = e ∙ ap (λ k. nat_lt 1900 (k + n)) (is_as_long q d h)
