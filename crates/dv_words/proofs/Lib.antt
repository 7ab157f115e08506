mod Lines
mod Numbers
mod Pairs
