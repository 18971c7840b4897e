mod Carried
mod Rolling
