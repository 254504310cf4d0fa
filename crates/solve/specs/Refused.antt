use Rattle.std.specs.Prelude.{◌≤◌, ◌^◌, ℕ, List, All}
use Rattle.solve.specs.System.{Need, IsNeed}
use Rattle.solve.specs.declared.error.SystemError.{SystemError}
use Rattle.solve.specs.declared.error.SystemError.TheVariants.{Memory, TooMany, BadNeed}

-- why there is no system of so many candidates with these needs
abbrev pub IsRefused : ℕ → List Need → SystemError → Type 0
IsRefused size needs Memory = ⊥
IsRefused size needs TooMany = 2 ^ 32 ≤ size
IsRefused size needs BadNeed = All (IsNeed size) needs → ⊥
