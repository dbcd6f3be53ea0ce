pub mod EntriesLemmas
pub mod RowsLemmas
pub mod NamesLemmas
pub mod ReadsLemmas
pub mod StoresLemmas
