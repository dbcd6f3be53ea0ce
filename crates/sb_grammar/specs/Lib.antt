pub use Rattle.sb_plain.specs.declared.command.Command
pub mod Grammar
pub mod Columns
