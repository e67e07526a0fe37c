pub mod LoopFilter
