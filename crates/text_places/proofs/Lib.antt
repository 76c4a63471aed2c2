mod Lists
mod Uses
mod Held
mod Declared
mod Numbers
mod Apart
