mod Waking
mod Popped
mod Outs
mod Given
mod Blocks
mod Behind
mod Kept
