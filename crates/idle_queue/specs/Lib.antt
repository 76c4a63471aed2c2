pub mod StopOf
pub mod Current
pub mod FormTest
pub mod MayEnter
pub mod Marked
