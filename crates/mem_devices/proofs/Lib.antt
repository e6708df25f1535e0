pub mod MemDiskComes
pub mod MemDiskFile
pub mod MemDiskReplay
