pub mod Blending
pub mod Chunk
pub mod Bytes
pub mod Windows
pub mod SuCodes
pub mod Walking
pub mod Loops
pub mod Coding
