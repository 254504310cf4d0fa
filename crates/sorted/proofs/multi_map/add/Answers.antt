use Rattle.std.proofs.Common.{◌≡◌, ◌∙◌, ◌++◌, [], ◌∷◌, sym, ap, rules, subst}
use Rattle.std.specs.BTreeMap.{get}
use Rattle.sorted.specs.MultiMap.{Adds}
use Rattle.sorted.proofs.Listing.{adds_update, listed_at, listed_none}
use Rattle.sorted.proofs.multi_map.add.Goals as goal

pub returns-in-Some : goal.returns-in-Some
returns-in-Some g c =
    let cmp = g.K.Ord.cmp in
    adds_update cmp g.met.K.Ord.total c.args.lists.now (c.get_mut.follows.lender c.push.new.self) c.args.key
    c.args.value c.push.new.self ((c.get_mut.follows.holds c.push.new.self).3 (search rules))
    (c.in_ok-push.ensures.items ∙ ap (λ l. l ++ c.args.value ∷ [])
    (sym (listed_at cmp c.args.lists.now c.args.key c.in-Some.values.now (sym c.in-Some.ensures.value))))

pub returns : goal.returns
returns g c =
    let cmp = g.K.Ord.cmp in
    let was = c.get_mut.follows.lender-at-none in
    let same : was ≡ c.args.lists.now = search rules in
    subst (λ m. Adds cmp c.args.key c.args.value m c.insert.new.self) same
    (adds_update cmp g.met.K.Ord.total was c.insert.new.self c.args.key c.args.value c.in_ok-list_of_one.field-0
    c.in_ok-insert.ensures.updates
    (c.in_ok-list_of_one.ensures ∙ ap (λ l. l ++ c.args.value ∷ []) (sym (listed_none cmp was c.args.key
    (ap (λ m. get cmp m c.args.key) same ∙ search rules)))))
