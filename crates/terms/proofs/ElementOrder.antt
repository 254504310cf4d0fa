-- The order of elements, by type and name, and the derived order of types, which is that of their numbers.
use Rattle.std.proofs.Common.{◌≡◌, ◌==◌, ◌&&◌, ◌∙◌, ℕ, [], ◌∷◌, Option, Some, sym, ap, refl, slice_get}
use Rattle.std.specs.Ordering.{nat_cmp, ordering_then, is_eq}
use Rattle.std.specs.Cmp.{IsTotalOrder, unsigned_ties}
use Rattle.std.specs.Cmp.Lexicographic.{slice_cmp, texts_ties}
use Rattle.std.specs.Str.{bytes_eq}
use Rattle.std.proofs.lemmas.Cmp.{then_total, on_total, nat_cmp_total, nat_list_cmp_total}
use Rattle.std.proofs.lemmas.Option.{same_Some}
use Rattle.terms.proofs.Orderings.{is_eq_then}
use Rattle.terms.specs.declared.kinds.ElemType.{ElemType}
use Rattle.terms.specs.declared.kinds.ElemType.TheVariants.{Mac, Src, Clist, Data, Exec, Parm, Proc}
use Rattle.terms.specs.contracts.kinds.ElemTypeOrd.TheImpl as type_order
use Rattle.terms.specs.contracts.kinds.ElemTypePartialEq.TheImpl as type_equality
use Rattle.terms.specs.Types.{Text, type_number, Change}
use Rattle.terms.specs.Global.{change_cmp}
use Rattle.terms.specs.Lookups.{element_cmp}
use Rattle.terms.specs.Lookups.{element_eq}
use Rattle.std.proofs.Common.{true}
use Rattle.std.proofs.lemmas.Bool.{and_parts, eqb-true}
use Rattle.terms.proofs.TextOrder.{same_from}

-- what `cmp` of two types answers
pub cmp_types : (a b : ElemType) → type_order.ghosts.cmp a b ≡ nat_cmp (type_number a) (type_number b)
cmp_types Mac Mac = refl
cmp_types Src Mac = refl
cmp_types Clist Mac = refl
cmp_types Data Mac = refl
cmp_types Exec Mac = refl
cmp_types Parm Mac = refl
cmp_types Proc Mac = refl
cmp_types a b = refl

-- whether two types are `==`
pub eq_types : (a b : ElemType) → type_equality.ghosts.eq a b ≡ (type_number a == type_number b)
eq_types Mac Mac = refl
eq_types Src Mac = refl
eq_types Clist Mac = refl
eq_types Data Mac = refl
eq_types Exec Mac = refl
eq_types Parm Mac = refl
eq_types Proc Mac = refl
eq_types a b = refl

-- the derived order of types and names
pub cmp_keys : (a b : ElemType × Text) → ordering_then (type_order.ghosts.cmp a.0 b.0) (slice_cmp nat_cmp a.1 b.1)
    ≡ element_cmp a b
cmp_keys a b = ap (λ r. ordering_then r (slice_cmp nat_cmp a.1 b.1)) (cmp_types a.0 b.0)

pub element_cmp_total : IsTotalOrder element_cmp
element_cmp_total = then_total (on_total (λ (k : ElemType × Text). type_number k.0) nat_cmp_total)
    (on_total (λ (k : ElemType × Text). k.1) nat_list_cmp_total)

pub element_ties : (a b : ElemType × Text) → element_eq a b ≡ is_eq (element_cmp a b)
element_ties a b =
    ap (λ t. t && bytes_eq a.1 b.1) (unsigned_ties (type_number a.0) (type_number b.0))
    ∙ ap (λ t. is_eq (nat_cmp (type_number a.0) (type_number b.0)) && t) (texts_ties a.1 b.1)
    ∙ sym (is_eq_then (nat_cmp (type_number a.0) (type_number b.0)) (slice_cmp nat_cmp a.1 b.1))

-- the same of element statements
pub change_cmp_total : IsTotalOrder change_cmp
change_cmp_total = then_total (on_total (λ (c : Change). type_number c.elem_type) nat_cmp_total)
    (on_total (λ (c : Change). c.name) nat_list_cmp_total)

-- the type of a number
type_at : ℕ → Option ElemType
type_at n = slice_get (Mac ∷ Src ∷ Clist ∷ Data ∷ Exec ∷ Parm ∷ Proc ∷ []) n

type_at_number : (a : ElemType) → type_at (type_number a) ≡ Some a
unfolding type_at
type_at_number Mac = refl
type_at_number Src = refl
type_at_number Clist = refl
type_at_number Data = refl
type_at_number Exec = refl
type_at_number Parm = refl
type_at_number Proc = refl

pub type_from_number : (a b : ElemType) → type_number a ≡ type_number b → a ≡ b
type_from_number a b e = same_Some a b (sym (type_at_number a) ∙ ap type_at e ∙ type_at_number b)

-- keys that are taken for the same are one
pub same_key : (a b : ElemType × Text) → element_eq a b ≡ true → a ≡ b
same_key a b e =
    let both = and_parts (type_number a.0 == type_number b.0) (bytes_eq a.1 b.1) e in
    ap (λ (t : ElemType). (t, a.1)) (type_from_number a.0 b.0 (eqb-true _ _ both.0))
    ∙ ap (λ (n : Text). (b.0, n)) (same_from a.1 b.1 both.1)
