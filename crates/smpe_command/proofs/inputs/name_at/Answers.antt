use Rattle.std.proofs.Common.{[], ◌∙◌, ◌≤◌, ap, length, map, subst, sym}
use Rattle.std.specs.String.{string_bytes}
use Rattle.std.proofs.lemmas.Bool.{ltb-false, ltb-true}
use Rattle.std.proofs.lemmas.List.{get_or-map, get_or_past, length-map}
use Rattle.smpe_command.proofs.inputs.name_at.Goals as goal

pub returns-in-Some : goal.returns-in-Some
returns-in-Some c =
    let names = c.args.names.now in
    let found = c.in-Some.ensures.lookup in
    c.as_str.ensures.value ∙ ap string_bytes found.1
    ∙ sym (get_or-map string_bytes names c.args.place c.in-Some.name.now []
    (ltb-true c.args.place (length names) (sym found.0)))

pub returns-in-None : goal.returns-in-None
returns-in-None c =
    let names = c.args.names.now in
    sym (get_or_past (map string_bytes names) c.args.place [] (subst (λ n. n ≤ c.args.place)
    (sym (length-map names string_bytes)) (ltb-false c.args.place (length names) (sym c.in-None.ensures.lookup.0))))
