pub mod EveryRow
