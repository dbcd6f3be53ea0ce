pub mod TextLemmas
pub mod PrintingLemmas
pub mod LinesLemmas
