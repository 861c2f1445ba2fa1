mod Adding
mod Changing
mod Checkpoints
mod Leading
mod Spelling
mod Standing
