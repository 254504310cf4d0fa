use Rattle.std.proofs.Common.{◌+◌, ◌<◌, length, arith, sym, ap}
use Rattle.std.specs.Str.{bytes_eq}
use Rattle.terms.specs.Lookups.{is_in}
use Rattle.terms.specs.Choice.{fits}
use Rattle.zones.proofs.Picking.{place_below}
use Rattle.zones.proofs.counting.fitting_number.Goals as goal
use Rattle.std.proofs.Common.{filter}
use Rattle.terms.proofs.Searches.{filter_le, first_of_one}

pub returns-then-vers-lt2 : goal.returns-then-vers-lt2
returns-then-vers-lt2 c =
    let few : length c.args.vers.now < 2 = omega arith in
    let fewer = filter_le (λ v. bytes_eq v.srel c.args.zone.now.srel) c.args.vers.now in
    ap (λ n. n + 1) (sym (first_of_one (fits c.args.zone.now (is_in c.args.candidates.now))
    (filter (λ v. bytes_eq v.srel c.args.zone.now.srel) c.args.vers.now) (omega (arith, few, fewer))))

pub at_place-requires : goal.at_place-requires
at_place-requires c =
    let below = place_below (fits c.args.zone.now (is_in c.args.candidates.now))
    (λ v. bytes_eq v.srel c.args.zone.now.srel) c.args.vers.now c.in-Some.place (sym c.in-Some.ensures) in
    omega (arith, below)
