pub mod StreamLemmas
pub mod CauseLemmas
pub mod RangeLemmas
pub mod MomentLemmas
pub mod SyncLemmas
pub mod QuietLemmas
pub mod CrashLemmas
