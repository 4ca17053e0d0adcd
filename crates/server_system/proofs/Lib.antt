mod Climbing
mod Stamps
