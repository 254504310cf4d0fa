use Rattle.std.proofs.Common.{◌≡◌, ◌∙◌, ap, sym, subst, All, Some, [], ◌∷◌, rules}
use Rattle.terms.proofs.Booleans.{or_false}
use Rattle.sysmods.specs.declared.index.IndexEntry.TheVariants.{One, More}
use Rattle.sysmods.specs.Index.{IsIndexed}
use Rattle.sysmods.specs.Held.{found}
use Rattle.sysmods.proofs.Holding.{found_itself}
use Rattle.sysmods.proofs.Namers.{some_names, complete_at, complete_none}
use Rattle.sysmods.proofs.received.Received.is_named_in_way.Goals as goal

pub returns-in-Some-One : goal.returns-in-Some-One
returns-in-Some-One c =
    c.names_in_way.ensures
    ∙ sym (or_false _)
    ∙ some_names c.args.self.now c.self.inside.index.sets c.args.way c.args.id (c.in-Some-One.namer ∷ [])
    (complete_at c.self.inside.index.sets c.args.id (One c.in-Some-One.namer)
    (sym c.in-Some-One.ensures.value ∙ ap (λ n. Some n) c.in-Some-One.field-0-is))
    (subst (All (IsIndexed c.self.inside.index.sets)) c.self.view_is c.self.invariant.indexed)
    (subst (λ xs. All (λ s. found xs s.id ≡ Some s) xs) c.self.view_is
    (found_itself c.self.inside.by_id c.self.invariant.keyed c.self.invariant.sorted))

pub returns-in-Some-More : goal.returns-in-Some-More
returns-in-Some-More c =
    c.any_names_in_way.ensures
    ∙ some_names c.args.self.now c.self.inside.index.sets c.args.way c.args.id c.in-Some-More.namers.keys
    (complete_at c.self.inside.index.sets c.args.id (More c.in-Some-More.namers)
    (sym c.in-Some-More.ensures.value ∙ ap (λ n. Some n) c.in-Some-More.field-0-is))
    (subst (All (IsIndexed c.self.inside.index.sets)) c.self.view_is c.self.invariant.indexed)
    (subst (λ xs. All (λ s. found xs s.id ≡ Some s) xs) c.self.view_is
    (found_itself c.self.inside.by_id c.self.invariant.keyed c.self.invariant.sorted))

pub returns-in-None : goal.returns-in-None
returns-in-None c =
    some_names c.args.self.now c.self.inside.index.sets c.args.way c.args.id []
    (complete_none c.self.inside.index.sets c.args.id (search rules))
    (subst (All (IsIndexed c.self.inside.index.sets)) c.self.view_is c.self.invariant.indexed)
    (subst (λ xs. All (λ s. found xs s.id ≡ Some s) xs) c.self.view_is
    (found_itself c.self.inside.by_id c.self.invariant.keyed c.self.invariant.sorted))
