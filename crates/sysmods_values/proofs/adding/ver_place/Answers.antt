use Rattle.std.proofs.Common.{sym, ap, ◌∙◌}
use Rattle.terms.specs.Types.{Ver}
use Rattle.terms.specs.Lookups.{is_before}
use Rattle.sysmods_values.proofs.Places.{no_place}
use Rattle.sysmods_values.proofs.adding.ver_place.Goals as goal

pub returns-in-None : goal.returns-in-None
returns-in-None c =
    no_place (λ w. is_before c.args.ver.now.srel w.srel) c.args.vers.now
    (sym (rw (ap (λ (v : Ver). v.srel) c.ver.view_is) at c.first_later_place.ensures) ∙ c.in-None.is)
