mod Looking
mod Marking
mod Reading
mod Standing
mod Walking
mod Writing
