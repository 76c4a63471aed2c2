mod Items
mod Halves
mod Numbers
mod Sections
