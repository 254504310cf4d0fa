-- Maps whose values know their keys.
use Rattle.std.specs.Prelude.{◌≡◌, List}
use Rattle.std.specs.List.{AllByRecursion}

-- each value has its key
abbrev pub KnowKeys : {X K : Type 0} → (X → K) → List (K × X) → Type 0
KnowKeys key es = AllByRecursion (λ e. key e.1 ≡ e.0) es
