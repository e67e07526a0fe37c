pub mod Restoration
