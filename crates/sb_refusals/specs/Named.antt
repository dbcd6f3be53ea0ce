-- The relations that a command names.
use Rattle.std.specs.Prelude.{Option, Some, None}
use Rattle.sb_relation.specs.Db.{Name}
use Rattle.sb_relation.specs.Fits.{relation_of}
use Rattle.sb_kinds.specs.Others.{tied_by}
use Rattle.sb_plain.specs.declared.command.Command.{Command}
use Rattle.sb_plain.specs.declared.command.Command.TheVariants as command

-- the relation that a command makes or is about
abbrev pub own_of : Command → Option Name
own_of (command.Create relation method schema key) = Some relation
own_of (command.Drop relation) = Some relation
own_of (command.Attach relation name rule) = Some relation
own_of (command.Detach relation name) = Some relation
own_of (command.Insert relation values) = Some relation
own_of (command.Delete relation at) = Some relation
own_of (command.Update relation at values) = Some relation
own_of (command.Act action) = Some (relation_of action)
own_of (command.Get relation at) = Some relation
own_of (command.Scan relation after limit) = Some relation
own_of (command.Lookup relation name values) = Some relation
own_of (command.Range relation name low high) = Some relation
own_of (command.Entries relation name) = Some relation
own_of (command.Show relation) = Some relation
own_of _ = None

-- the second relation that a command names
abbrev pub other_of : Command → Option Name
other_of (command.Attach relation name rule) = tied_by rule
other_of _ = None
