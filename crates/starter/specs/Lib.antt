pub mod Video
