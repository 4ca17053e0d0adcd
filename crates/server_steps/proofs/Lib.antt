mod Quitting
mod Visiting
