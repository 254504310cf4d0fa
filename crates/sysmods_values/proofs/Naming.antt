-- What a ++VER names, part by part, and what the first ++VERs of a list name.
use Rattle.std.proofs.Common.{◌≡◌, ◌||◌, ◌++◌, map, ap, ◌∙◌}
use Rattle.std.specs.Str.{bytes_eq}
use Rattle.std.proofs.lemmas.List.Folds.{list_any-append}
use Rattle.terms.specs.Types.{Id, Ver}
use Rattle.terms.specs.Lookups.{is_in, at_most_one}
use Rattle.terms.specs.Global.{named, named_functions}

pub named_parts : (v : Ver) (x : Id) → is_in (named v) x ≡ (is_in (v.pre ++ v.sup) x || is_in (at_most_one v.fmid) x)
named_parts v x = list_any-append (bytes_eq x) (v.pre ++ v.sup) (at_most_one v.fmid)

pub function_parts : (v : Ver) (x : Id) → is_in (named_functions v) x
    ≡ ((is_in v.del x || is_in (at_most_one v.fmid) x) || is_in (map (λ i. i.function) v.ifs) x)
function_parts v x =
    list_any-append (bytes_eq x) (v.del ++ at_most_one v.fmid) (map (λ i. i.function) v.ifs)
    ∙ ap (λ b. b || is_in (map (λ i. i.function) v.ifs) x) (list_any-append (bytes_eq x) v.del (at_most_one v.fmid))
