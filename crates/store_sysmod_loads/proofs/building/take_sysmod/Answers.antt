use Rattle.std.proofs.Common.{◌≡◌, IsErrOf, rules, ap₂, subst, ◌∙◌}
use Rattle.store_rows.specs.declared.error.ReadError.TheVariants.{BadRow}
use Rattle.store_sysmod_loads.specs.Built.{IsBuilt, sysmod_from}
use Rattle.store_sysmod_loads.proofs.building.take_sysmod.Goals as goal

pub returns-in_err-found-clause-none : goal.returns-in_err-found-clause-none
returns-in_err-found-clause-none c bad other vs is es h =
    let failed : IsErrOf c.take_vers.result BadRow = search rules in
    c.take_vers.ensures.none failed other.vers vs is h.built.most h.vers_are

pub returns-clause-none : goal.returns-clause-none
returns-clause-none c bad other vs is es h =
    let vers = c.in_ok-found.ensures.only other.vers vs is h.vers_are in
    let changes = c.in_ok-changes.ensures.only other.changes es h.elems_are in
    let same : other ≡ sysmod_from c.args.head c.in_ok-found.found.items c.in_ok-changes.changes.items =
    h.same ∙ ap₂ (sysmod_from c.args.head) vers.0 changes.0 in
    c.build_sysmod.ensures.none bad (subst IsBuilt same h.built)
