pub mod DrillSheet
