-- What is seen of the relations that a command names.
use Rattle.std.specs.Prelude.{◌≡◌, List, [], Option, Some, None}
use Rattle.sb_value.specs.declared.schema.Column.{Column}
use Rattle.sb_relation.specs.Db.{Name, Attached, Relation, Db, relation_at}
use Rattle.sb_plain.specs.declared.command.Command.{Command}
use Rattle.sb_refusals.specs.declared.seen.Seen.{Seen}
use Rattle.sb_refusals.specs.declared.seen.Named.{Named}
use Rattle.sb_refusals.specs.Catalogue.{Describes}
use Rattle.sb_refusals.specs.Named.{own_of, other_of}

-- the columns and the attachments of a relation; none where it isn't there
abbrev pub columns_of : Option Relation → List Column
columns_of r = elim r [ None ↦ [] | Some r ↦ r.schema ]

abbrev pub attachments_of : Option Relation → List Attached
attachments_of r = elim r [ None ↦ [] | Some r ↦ r.attachments ]

-- this is seen of a relation
pub record IsSeen (r : Option Relation) (seen : Seen) : Type 0 where
  pub described : Describes r seen.descriptor
  pub none : seen.none ≡ []

-- the relation of a name, where one is named
abbrev pub relation_named : Db → Option Name → Option Relation
relation_named db None = None
relation_named db (Some name) = relation_at db name

-- these are seen of the relations that a command names
pub record AreSeen (db : Db) (c : Command) (named : Named) : Type 0 where
  pub own : IsSeen (relation_named db (own_of c)) named.own
  pub other : IsSeen (relation_named db (other_of c)) named.other
