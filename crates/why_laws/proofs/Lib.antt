mod ConflictsTold
mod FactsSay
mod NeedsTold
mod Printed
mod ReasonsWitness
mod TestsTold
mod Witnessed
