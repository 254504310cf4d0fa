mod HoldParts
mod Holding
