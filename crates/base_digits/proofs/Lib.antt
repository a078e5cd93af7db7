mod Hex
mod Ascii
