pub mod Util
