use Rattle.std.proofs.Common.{◌≡◌, ◌∙◌, ap, sym, subst, Some, None, Result, Ok, Err, OnErr, rules}
use Rattle.std.specs.Ordering.{nat_cmp}
use Rattle.std.specs.Cmp.Lexicographic.{slice_cmp}
use Rattle.std.specs.declared.cmp.Ordering.{Ordering}
use Rattle.std.specs.List.Sorted.{IsStrictlySortedBy}
use Rattle.std.specs.BTreeMap.{is_at}
use Rattle.std.specs.Map.{lookup, set_value, keys_of, values_of}
use Rattle.std.proofs.lemmas.Map.Steps.{set_value_same}
use Rattle.terms.specs.Types.{Id}
use Rattle.terms.specs.Global.{IsSysmod, with_source}
use Rattle.sysmods.specs.Held.{IsHeld}
use Rattle.sysmods.proofs.Entries.{values_assign, values_none, all_assigned}
use Rattle.sysmods.proofs.Holding.{held_assign}
use Rattle.sysmods.proofs.received.Received.insert_source.Goals as goal

abbrev C : Id → Id → Ordering
C = slice_cmp nat_cmp

on-err : {T E P : Type 0} (r : Result T E) → P → OnErr r P
on-err (Ok x) p = tt
on-err (Err e) p = p

pub invariant_of-self-in_err-insert_source : goal.invariant_of-self-in_err-insert_source
invariant_of-self-in_err-insert_source c =
    let es = c.self.inside.by_id.entries in
    let s = c.in-Some.sysmod.now in
    let new = c.insert_source.new.self in
    let there : lookup (is_at (C c.args.id)) es ≡ Some s = sym c.in-Some.ensures.value in
    let entries : (c.get_mut.follows.lender new).entries ≡ es =
    (c.get_mut.follows.holds new).0 ∙ ap (set_value (is_at (C c.args.id)) es) c.in_err-insert_source.ensures.err
    ∙ set_value_same (is_at (C c.args.id)) es s there in
    subst (λ now. IsHeld now c.self.inside.index.sets) (sym entries) c.self.invariant

pub returns-in_err-insert_source-clause-err : goal.returns-in_err-insert_source-clause-err
returns-in_err-insert_source-clause-err c =
    let es = c.self.inside.by_id.entries in
    let s = c.in-Some.sysmod.now in
    let new = c.insert_source.new.self in
    let there : lookup (is_at (C c.args.id)) es ≡ Some s = sym c.in-Some.ensures.value in
    let entries : (c.get_mut.follows.lender new).entries ≡ es =
    (c.get_mut.follows.holds new).0 ∙ ap (set_value (is_at (C c.args.id)) es) c.in_err-insert_source.ensures.err
    ∙ set_value_same (is_at (C c.args.id)) es s there in
    on-err c.from_residual.result (ap values_of entries ∙ c.self.view_is)

pub returns-in_default-clause-ok : goal.returns-in_default-clause-ok
returns-in_default-clause-ok c =
    let es = c.self.inside.by_id.entries in
    let same : c.get_mut.follows.lender-at-none ≡ c.self.inside.by_id = search rules in
    let none : lookup (is_at (C c.args.id)) es ≡ None = search rules in
    ap (λ m. values_of m.entries) same ∙ sym (values_none es c.args.source c.args.id c.self.invariant.keyed none)
    ∙ ap (all_assigned c.args.source c.args.id) c.self.view_is

pub invariant_of-self-2 : goal.invariant_of-self-2
invariant_of-self-2 c =
    let es = c.self.inside.by_id.entries in
    let s = c.in-Some.sysmod.now in
    let new = c.insert_source.new.self in
    let there : lookup (is_at (C c.args.id)) es ≡ Some s = sym c.in-Some.ensures.value in
    let source : new ≡ with_source c.args.source s = c.in_ok-insert_source.ensures.ok in
    let entries : (c.get_mut.follows.lender new).entries ≡ set_value (is_at (C c.args.id)) es
    (with_source c.args.source s) =
    (c.get_mut.follows.holds new).0 ∙ ap (set_value (is_at (C c.args.id)) es) source in
    subst (λ now. IsHeld now c.self.inside.index.sets) (sym entries)
    (held_assign es c.self.inside.index.sets c.args.source c.args.id s there c.self.invariant
    (subst IsSysmod source c.attest.ensures)
    (subst (λ now. IsStrictlySortedBy C (keys_of now)) entries (c.get_mut.follows.holds new).4))

pub returns-clause-ok : goal.returns-clause-ok
returns-clause-ok c =
    let es = c.self.inside.by_id.entries in
    let s = c.in-Some.sysmod.now in
    let new = c.insert_source.new.self in
    let there : lookup (is_at (C c.args.id)) es ≡ Some s = sym c.in-Some.ensures.value in
    let entries : (c.get_mut.follows.lender new).entries ≡ set_value (is_at (C c.args.id)) es
    (with_source c.args.source s) =
    (c.get_mut.follows.holds new).0 ∙ ap (set_value (is_at (C c.args.id)) es) c.in_ok-insert_source.ensures.ok in
    ap values_of entries ∙ values_assign es c.args.source c.args.id s c.self.invariant.keyed c.self.invariant.sorted
    there ∙ ap (all_assigned c.args.source c.args.id) c.self.view_is
