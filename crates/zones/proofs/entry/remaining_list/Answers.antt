use Rattle.std.proofs.Common.{◌≡◌, Bool, List, not, filter, subst}
use Rattle.std.specs.Prelude.{IsTrue}
use Rattle.std.proofs.lemmas.List.Kept.{AllPairs-filter}
use Rattle.terms.specs.Types.{Id}
use Rattle.terms.specs.Lookups.{IsRising, is_before}
use Rattle.terms.proofs.RisingAlike.{rises_only}
use Rattle.zones.proofs.entry.remaining_list.Goals as goal
use Rattle.std.proofs.lemmas.Cmp.{nat_list_cmp_total}

pub returns : goal.returns
returns g c =
    let stays : Id → Bool = λ y. not (g.T.TakesOut.is_gone c.args.taking.now y) in
    let left : List Id = c.in_ok-remaining_ids.field-0.items in
    let is : left ≡ filter stays c.args.ids.now = rw (← c.as_slice.ensures.items) c.in_ok-remaining_ids.ensures in
    let rising : IsRising c.args.ids.now = subst IsRising c.as_slice.ensures.items c.as_slice.ensures.rising in
    let after : IsRising c.from_vec.result = c.from_vec.ensures.rising in
    rw (← is) (rises_only nat_list_cmp_total (λ x. x) c.from_vec.result left after
    (rw is (AllPairs-filter (λ x y. IsTrue (is_before x y)) stays c.args.ids.now rising))
    (λ x. (c.from_vec.ensures.members x).0) (λ x. (c.from_vec.ensures.members x).1))
