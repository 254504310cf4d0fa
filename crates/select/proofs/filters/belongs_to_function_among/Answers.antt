use Rattle.std.proofs.Common.{◌∙◌, ap}
use Rattle.std.specs.List.{list_any}
use Rattle.select.proofs.Fmids.{has_fmid_for, fmids_there}
use Rattle.select.proofs.filters.belongs_to_function_among.Goals as goal

pub returns-in-Some : goal.returns-in-Some
returns-in-Some c =
    let test = has_fmid_for c.args.srel c.args.wanted.now in
    c.has_ver_with_fmid_among.ensures
    ∙ ap (list_any test) (c.as_slice.ensures.value ∙ ap (λ s. s.vers) c.sysmod.view_is)
    ∙ fmids_there c.args.global.now c.args.srel c.args.id c.args.wanted.now c.in-Some.sysmod.now c.in-Some.ensures
