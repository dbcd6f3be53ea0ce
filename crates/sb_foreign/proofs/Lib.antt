pub mod StripLaws
pub mod WatchedLaws
pub mod LimitLaws
pub mod CountLaws
pub mod OnceLaws
pub mod LegendLaws
pub mod ExampleLaws
