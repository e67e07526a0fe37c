pub mod Segmentation
pub mod Packed
