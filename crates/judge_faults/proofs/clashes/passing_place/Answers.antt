use Rattle.std.proofs.Common.{◌∙◌, ◌<◌, sym, ap, subst}
use Rattle.std.specs.Prelude.{is_ok}
use Rattle.std.specs.Str.{bytes_eq}
use Rattle.std.specs.Cmp.Lexicographic.{texts_ties}
use Rattle.std.proofs.lemmas.Cmp.{nat_list_cmp_total}
use Rattle.std.proofs.lemmas.Option.{slice_get_within}
use Rattle.terms.proofs.IdPlaces.{stands_at}
use Rattle.terms.proofs.RisingLists.{is_ok_search, found_search}
use Rattle.judge_faults.proofs.Naming.{only_place, place_none, none_passing, one_passing, one_failing}
use Rattle.judge_faults.proofs.clashes.passing_place.Goals as goal

pub returns-in_default : goal.returns-in_default
returns-in_default c =
    let ids = c.args.ids.now in
    let told = is_ok_search nat_list_cmp_total (λ x. x) bytes_eq texts_ties c.args.id ids c.requires.rising
    c.binary_search.result c.binary_search.ensures.bound c.binary_search.ensures.position in
    none_passing ids c.args.faults.now c.args.id (place_none ids c.args.id (sym told ∙ ap is_ok c.in_default.is))

pub item_at-requires : goal.item_at-requires
item_at-requires c =
    let ids = c.args.ids.now in
    let place = c.in-Ok.place in
    let found = rw c.in-Ok.is at (found_search nat_list_cmp_total (λ x. x) c.args.id ids c.requires.rising
    c.binary_search.result c.binary_search.ensures.bound c.binary_search.ensures.position) in
    let at = stands_at ids c.args.id place found.0 found.1.0 found.1.1 in
    subst (λ k. place < k) (sym c.requires.lengths) (slice_get_within ids place found.1.0 at.0)

pub returns-then-not-passes : goal.returns-then-not-passes
returns-then-not-passes c =
    let ids = c.args.ids.now in
    let place = c.in-Ok.place in
    let found = rw c.in-Ok.is at (found_search nat_list_cmp_total (λ x. x) c.args.id ids c.requires.rising
    c.binary_search.result c.binary_search.ensures.bound c.binary_search.ensures.position) in
    let at = stands_at ids c.args.id place found.0 found.1.0 found.1.1 in
    one_failing ids c.args.faults.now place c.args.id c.item_at.result
    (only_place ids c.requires.rising c.args.id found.1.0 place at.0 at.1) c.item_at.ensures
    (sym c.passes.ensures ∙ c.if-not-passes.true)

pub returns : goal.returns
returns c =
    let ids = c.args.ids.now in
    let place = c.in-Ok.place in
    let found = rw c.in-Ok.is at (found_search nat_list_cmp_total (λ x. x) c.args.id ids c.requires.rising
    c.binary_search.result c.binary_search.ensures.bound c.binary_search.ensures.position) in
    let at = stands_at ids c.args.id place found.0 found.1.0 found.1.1 in
    one_passing ids c.args.faults.now place c.args.id c.item_at.result
    (only_place ids c.requires.rising c.args.id found.1.0 place at.0 at.1) c.item_at.ensures
    (sym c.passes.ensures ∙ c.if-not-passes.false)
