use Rattle.sb_foreign.proofs.CountLaws.{Changes-inserted_as, Changes-deleted_as, Changes-updated_as}
use Rattle.sb_foreign.proofs.count.CountAttachment.on_change.Goals as goal

pub returns-in-Insert : goal.returns-in-Insert
returns-in-Insert c = Changes-inserted_as _ _ _ _ _ _ _ c.requires.clean.unchanged c.in-Insert.is c.recount.ensures

pub returns-in-Delete : goal.returns-in-Delete
returns-in-Delete c = Changes-deleted_as _ _ _ _ _ _ _ c.requires.clean.unchanged c.in-Delete.is c.recount-in-Delete.ensures

pub returns-in-Update : goal.returns-in-Update
returns-in-Update c = Changes-updated_as _ _ _ _ _ _ _ c.requires.clean.unchanged c.in-Update.is
