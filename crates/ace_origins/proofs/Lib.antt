mod Least
mod Unkept
