use Rattle.std.proofs.Common.{◌≡◌, ◌∙◌, ap, sym, subst, refl, List, is_some, None, Bool}
use Rattle.std.specs.Ordering.{nat_cmp}
use Rattle.std.specs.Cmp.Lexicographic.{slice_cmp}
use Rattle.std.specs.List.Sorted.{IsStrictlySortedBy}
use Rattle.std.specs.declared.cmp.Ordering.{Ordering}
use Rattle.std.specs.Map.{lookup, keys_of, values_of}
use Rattle.std.specs.BTreeMap.{is_at, insert_entry}
use Rattle.terms.proofs.Options.{None_from_is_some}
use Rattle.terms.specs.Types.{Id, Sysmod}
use Rattle.terms.specs.Rising.{Rises, with_item}
use Rattle.sysmods.specs.Held.{found, IsHeld, IsKeyed}
use Rattle.sysmods.proofs.Entries.{find_lookup, values_insert}
use Rattle.sysmods.proofs.Holding.{held_grows, held_insert, rises_values}
use Rattle.sysmods.proofs.received.Received.insert.Goals as goal

abbrev C : Id → Id → Ordering
C = slice_cmp nat_cmp

-- whether there is one of the id
there-is : (es : List (Id × Sysmod)) (xs : List Sysmod) (x : Id) (b : Bool) → IsKeyed es → values_of es ≡ xs
    → b ≡ is_some (lookup (is_at (slice_cmp nat_cmp x)) es) → is_some (found xs x) ≡ b
there-is es xs x b k same e = ap (λ ys. is_some (found ys x)) (sym same) ∙ ap is_some (find_lookup es x k) ∙ sym e

pub returns-then-contains_key-clause-back : goal.returns-then-contains_key-clause-back
returns-then-contains_key-clause-back c =
    rw (ap is_some (ap (found c.args.self.now) (ap (λ s. s.id) (sym c.sysmod.view_is)))
    ∙ there-is c.self.inside.by_id.entries c.args.self.now c.sysmod.inside.id c.contains_key.result
    c.self.invariant.keyed c.self.view_is c.contains_key.ensures ∙ c.if-contains_key.true) refl

pub returns-then-contains_key-clause-ok : goal.returns-then-contains_key-clause-ok
returns-then-contains_key-clause-ok c =
    rw (ap is_some (ap (found c.args.self.now) (ap (λ s. s.id) (sym c.sysmod.view_is)))
    ∙ there-is c.self.inside.by_id.entries c.args.self.now c.sysmod.inside.id c.contains_key.result
    c.self.invariant.keyed c.self.view_is c.contains_key.ensures ∙ c.if-contains_key.true) refl

pub invariant_of-self : goal.invariant_of-self
invariant_of-self c = held_grows c.self.inside.by_id.entries c.self.inside.index.sets c.insert_sysmod.new.self.sets
    c.self.invariant c.in_err-insert_sysmod.ensures.grows

pub invariant_of-self-in_err-insert : goal.invariant_of-self-in_err-insert
invariant_of-self-in_err-insert c =
    rw c.in_err-insert.ensures.err (held_grows c.self.inside.by_id.entries c.self.inside.index.sets
    c.insert_sysmod.new.self.sets c.self.invariant c.in_ok-insert_sysmod.ensures.grows)

pub invariant_of-self-2 : goal.invariant_of-self-2
invariant_of-self-2 c =
    let es = c.self.inside.by_id.entries in
    let s = c.args.sysmod in
    let entries : c.insert.new.self.entries ≡ insert_entry C es s.id s =
    c.in_ok-insert.ensures.entries ∙ ap (λ x. insert_entry C es x s) (ap (λ r. r.id) c.sysmod.view_is) in
    subst (λ now. IsHeld now c.insert_sysmod.new.self.sets) (sym entries)
    (held_insert es c.self.inside.index.sets c.insert_sysmod.new.self.sets s c.self.invariant
    c.in_ok-insert_sysmod.ensures.grows
    (subst (λ now. IsStrictlySortedBy C (keys_of now)) entries c.in_ok-insert.ensures.ordered)
    c.in_ok-insert_sysmod.ensures.has c.attest.ensures)

pub returns-clause-back : goal.returns-clause-back
returns-clause-back c =
    rw (ap is_some (ap (found c.args.self.now) (ap (λ s. s.id) (sym c.sysmod.view_is)))
    ∙ there-is c.self.inside.by_id.entries c.args.self.now c.sysmod.inside.id c.contains_key.result
    c.self.invariant.keyed c.self.view_is c.contains_key.ensures ∙ c.if-contains_key.false) refl

pub returns-clause-ok : goal.returns-clause-ok
returns-clause-ok c =
    let es = c.self.inside.by_id.entries in
    let s = c.args.sysmod in
    let entries : c.insert.new.self.entries ≡ insert_entry C es s.id s =
    c.in_ok-insert.ensures.entries ∙ ap (λ x. insert_entry C es x s) (ap (λ r. r.id) c.sysmod.view_is) in
    let none : lookup (is_at (C s.id)) es ≡ None =
    subst (λ x. lookup (is_at (C x)) es ≡ None) (ap (λ r. r.id) c.sysmod.view_is)
    (None_from_is_some (lookup (is_at (C c.sysmod.inside.id)) es)
    (sym c.contains_key.ensures ∙ c.if-contains_key.false)) in
    rw (ap is_some (ap (found c.args.self.now) (ap (λ s. s.id) (sym c.sysmod.view_is)))
    ∙ there-is c.self.inside.by_id.entries c.args.self.now c.sysmod.inside.id c.contains_key.result
    c.self.invariant.keyed c.self.view_is c.contains_key.ensures ∙ c.if-contains_key.false)
    (ap values_of entries ∙ values_insert es s c.self.invariant.keyed c.self.invariant.sorted none
    ∙ ap (λ xs. with_item C (λ r. r.id) xs s) c.self.view_is)

pub returns-then-contains_key-clause-rising : goal.returns-then-contains_key-clause-rising
returns-then-contains_key-clause-rising c = subst (Rises C (λ s. s.id)) c.self.view_is
    (rises_values c.self.inside.by_id.entries c.self.invariant.keyed c.self.invariant.sorted)

pub returns-in_err-insert_sysmod-clause-rising : goal.returns-in_err-insert_sysmod-clause-rising
returns-in_err-insert_sysmod-clause-rising c = subst (Rises C (λ s. s.id)) c.self.view_is
    (rises_values c.self.inside.by_id.entries c.self.invariant.keyed c.self.invariant.sorted)

pub returns-in_err-insert-clause-rising : goal.returns-in_err-insert-clause-rising
returns-in_err-insert-clause-rising c = subst (Rises C (λ s. s.id)) c.self.view_is
    (rises_values c.self.inside.by_id.entries c.self.invariant.keyed c.self.invariant.sorted)

pub returns-clause-rising : goal.returns-clause-rising
returns-clause-rising c = subst (Rises C (λ s. s.id)) c.self.view_is
    (rises_values c.self.inside.by_id.entries c.self.invariant.keyed c.self.invariant.sorted)
