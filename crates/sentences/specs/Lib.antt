-- What a sentence says and names. A reader must believe these definitions; nothing here is code.
pub mod Files
pub mod Filled
pub mod Named
