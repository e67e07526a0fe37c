pub mod Cdef
pub mod Packed
