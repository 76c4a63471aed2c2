pub mod PlainScript
