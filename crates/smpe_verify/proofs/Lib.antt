mod FirstOf
mod Joining
mod Judging
mod LawLemmas
mod Rules
mod Standing
mod ZoneByZone
