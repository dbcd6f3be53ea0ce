pub mod PastLemmas
