use Rattle.std.proofs.Common.{◌≡◌, [], ◌∷◌, ◌++◌, take}
use Rattle.std.specs.List.{flat_map}
use Rattle.report.specs.WordTexts.{inner_line}
use Rattle.why_facts.proofs.asked_lines.append_id_lines.Given as goal

abbrev pub invariant-loop-id : goal.invariant-loop-id
invariant-loop-id l =
    l.text.items ≡ l.initial.text.items ++ flat_map (λ id. inner_line (l.word ∷ id ∷ [])) (take l.id-index l.ids)
