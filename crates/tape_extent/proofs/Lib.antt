mod Plays
mod Rolling
mod Taken
