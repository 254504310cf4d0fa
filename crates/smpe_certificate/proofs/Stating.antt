-- What is stated of a need, at its place.
use Rattle.std.proofs.Common.{◌≡◌, ◌∙◌, ℕ, List, Some, ap, map, slice_get}
use Rattle.std.specs.Option.{option_map}
use Rattle.std.proofs.lemmas.Option.{slice_get-map}
use Rattle.judge_system.specs.declared.stated.RequisiteOf.{RequisiteOf}
use Rattle.judge_system.specs.Numbered.{need_of}

pub stated_at : (items : List RequisiteOf) (k : ℕ) (w : RequisiteOf) → slice_get items k ≡ Some w
    → slice_get (map need_of items) k ≡ Some (w.kind, w.id)
stated_at items k w at = slice_get-map need_of items k ∙ ap (option_map need_of) at
