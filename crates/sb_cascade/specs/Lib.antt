pub mod Runs
pub mod Steps
pub mod Wishes
pub mod Fitting
pub mod FittingLaws
