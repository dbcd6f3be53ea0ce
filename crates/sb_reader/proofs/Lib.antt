pub mod ActionsRead
pub mod Branches
pub mod AttachmentsRead
pub mod RulesRead
pub mod VerbsRead
pub mod CommandsRead
pub mod Whole
pub mod Faults
