-- What was written and is consistent can be stored, and what can be stored is short.
use Rattle.std.proofs.Common.{◌≡◌, ◌<◌, ℕ, get_or, refl}
use Rattle.sb_value.specs.declared.schema.Kind.{Kind}
use Rattle.sb_value.specs.declared.schema.Kind.TheVariants.{Int, Text}
use Rattle.sb_pred.specs.Spelling.{IsStorableName}
use Rattle.sb_rule.specs.Spelling.{IsShortList}
use Rattle.sb_rule.proofs.StorableRules.{IsShortRule_from_storable}
use Rattle.sb_catalog.specs.declared.descriptor.Descriptor.{Descriptor}
use Rattle.sb_catalog.specs.Descriptors.{method_instance, IsInstance, IsLimit, IsShortDescriptor, IsStorableDescriptor, IsConsistent}
use Rattle.sb_catalog.specs.Writing.{IsNarrowColumn, IsNarrowAttached}

limit : (kind : Kind) (n : ℕ) → n < 256 → (kind ≡ Int → n ≡ 0) → IsLimit kind n
limit Int n low none = none refl
limit Text n low none = low

pub storable : (d : Descriptor) → IsShortDescriptor d → IsInstance (method_instance d) → IsShortList IsNarrowColumn d.schema → IsShortList IsStorableName d.key
    → IsShortList IsNarrowAttached d.attachments → IsConsistent d → IsStorableDescriptor d
storable d short instance columns key attachments settled =
    record {
      instance = instance;
      columns = (columns.0, λ k c l. ((columns.1 k c l).0, limit _ _ (columns.1 k c l).1 (settled.limits k c l)));
      key = key;
      attachments = (
        attachments.0,
        λ k a l. (
          (attachments.1 k a l).0,
          (attachments.1 k a l).1,
          record {
            coded = (settled.codes k a l).0;
            storable = (attachments.1 k a l).2;
            limited = (settled.codes k a l).1;
            counted = (short.attachments.1 k a l).1.1;
          },
        ),
      );
    }

-- what was read can be written again
pub IsShortDescriptor_from_storable : (d : Descriptor) → IsStorableDescriptor d → IsShortDescriptor d
IsShortDescriptor_from_storable d h =
    record {
      columns = (h.columns.0, λ k c l. (h.columns.1 k c l).0.1);
      key = (h.key.0, λ k n l. (h.key.1 k n l).1);
      attachments = (h.attachments.0, λ k a l. ((h.attachments.1 k a l).1.1, (IsShortRule_from_storable (get_or d.attachments k a).rule (h.attachments.1 k a l).2.storable, (h.attachments.1 k a l).2.counted)));
    }
