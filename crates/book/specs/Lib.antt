pub mod Kinds
pub mod Sets
pub mod Left
pub mod Reads
pub mod Holds
