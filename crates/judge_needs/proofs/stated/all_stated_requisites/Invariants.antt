use Rattle.std.proofs.Common.{◌≡◌, filter, map, take}
use Rattle.std.specs.Prelude.{is_some}
use Rattle.std.specs.List.{flat_map}
use Rattle.terms.specs.Types.{Id}
use Rattle.judge_needs.specs.Conditions.{requisites_of, stated_by}
use Rattle.zones.specs.Scopes.{choice_of}
use Rattle.judge_needs.proofs.stated.all_stated_requisites.Given as goal

abbrev pub invariant-loop-entry : goal.invariant-loop-entry
invariant-loop-entry l =
    (f : Id) → requisites_of l.stated f ≡ flat_map (stated_by (choice_of l.scope) f)
    (map (λ e. e.id) (filter (λ e. is_some e.applied) (take l.entry-index l.entry-items)))
