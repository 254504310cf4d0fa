mod Reports
mod Taken
mod Commanding
mod Going
mod Single
