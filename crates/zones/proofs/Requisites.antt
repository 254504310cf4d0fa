-- The requisites that hold a SYSMOD, from its ++VER.
use Rattle.std.proofs.Common.{◌≡◌, [], ◌++◌, Option, ap, ◌∙◌}
use Rattle.std.specs.Option.{option_map_or}
use Rattle.terms.specs.Types.{Id, Ver}
use Rattle.terms.specs.Choice.{pre_of, req_of, ifs_of}
use Rattle.terms.specs.Needs.{unwaived}
use Rattle.sysmods.specs.Choices.{choice}
use Rattle.zones.specs.declared.zone_less.ZoneLess.{ZoneLess}
use Rattle.zones.specs.Gone.{stays, by_ifs, binding_of}
use Rattle.terms.proofs.Lists.{flat_if}

pub binding_of_ver : (t : ZoneLess) (x : Id) (o : Option Ver) → o ≡ choice t.vers.now x
    → unwaived t.zone.now x (option_map_or (λ v. v.pre) o [] ++ option_map_or (λ v. v.req) o []
    ++ by_ifs t (option_map_or (λ v. v.ifs) o []))
    ≡ binding_of t x
binding_of_ver t x o is =
    let c = choice t.vers.now in
    ap (λ o. unwaived t.zone.now x (option_map_or (λ v. v.pre) o [] ++ option_map_or (λ v. v.req) o []
    ++ by_ifs t (option_map_or (λ v. v.ifs) o []))) is
    ∙ ap (λ ys. unwaived t.zone.now x (pre_of c x ++ req_of c x ++ ys))
    (flat_if (λ i. stays t i.function) (λ i. unwaived t.zone.now i.function i.req) (ifs_of c x))
