mod Comparing
mod Doing
mod Harmless
mod OneByOne
mod Served
