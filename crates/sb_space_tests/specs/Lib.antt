pub mod Scribes
