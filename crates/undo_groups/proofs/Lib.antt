mod Expansions
mod Inverses
mod Pasts
mod Plays
mod Restoring
mod Splits
