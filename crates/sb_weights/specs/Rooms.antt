-- The room that boxes say they take.
use Rattle.std.specs.Prelude.{ℕ, List, [], ◌++◌, map}
use Rattle.sb_relation.specs.Changes.{changed_rows}
use Rattle.sb_relation.specs.Content.{Content, content_of}
use Rattle.sb_relation.specs.Db.{Rows}
use Rattle.sb_value.specs.declared.schema.Column.{Column}
use Rattle.sb_fold.specs.Extensions.{AttachRoom, Extensions, MethodRoom}
use Rattle.sb_ctx.specs.declared.calls.AttachCall.TheVariants as attach
use Rattle.sb_ctx.specs.declared.calls.AttachCall.TheVariants.{Changed}
use Rattle.sb_ctx.specs.declared.calls.MethodCall.TheVariants.{Prepare}
use Rattle.sb_ctx.specs.Attachment.{Attachment}
use Rattle.sb_ctx.specs.Method.{Method, call_of}
use Rattle.sb_registry.specs.Boxes.{Meanings, boxes_of}

-- of a storage method
abbrev pub room_of : Method → MethodRoom
room_of box = record { code = box.rules.code; bound = box.bound; prepare = box.cost Prepare []; cost = λ rows c. box.cost (call_of c) rows }

-- what a foreign attachment has in its pages by its desc, over a relation with these columns and rows, in so many buckets
abbrev pub own_content : Attachment → List ℕ → List Column → Rows → ℕ → Content
own_content box desc schema rows buckets = content_of (box.rules.image desc schema rows) (box.rules.counts desc schema rows) buckets

-- of an attachment
abbrev pub rule_room_of : Attachment → AttachRoom
rule_room_of box = record {
  code = box.rules.code;
  bound = λ desc schema rows buckets. box.bound (own_content box desc schema rows buckets);
  prepare = λ desc schema. let none = own_content box desc schema [] 0 in box.cost attach.Prepare none none;
  cost = λ desc schema rows buckets c.
      box.cost (Changed c) (own_content box desc schema rows buckets) (own_content box desc schema (changed_rows rows c) buckets);
}

-- the extensions that boxes are: their rules, and the room that they say they take; the live ones first
abbrev pub extensions_of : Meanings → Extensions
extensions_of m = record {
  boxes = boxes_of m;
  methods = map room_of (m.methods ++ m.spare_methods);
  attachments = map rule_room_of (m.attachments ++ m.spare_attachments);
}
