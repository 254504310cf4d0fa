-- The order of SYSMODs and elements: two that it does not tell apart are the same.
use Rattle.std.proofs.Common.{◌≡◌, ◌∙◌, true, ap, ap₂, sym, true≢false}
use Rattle.std.specs.Cmp.{unsigned_ties}
use Rattle.std.specs.Cmp.Lexicographic.{slice_cmp}
use Rattle.std.specs.declared.cmp.Ordering.TheVariants.{Equal}
use Rattle.std.specs.Ordering.{nat_cmp, is_eq}
use Rattle.std.proofs.lemmas.Bool.{and_parts, eqb-true}
use Rattle.std.proofs.lemmas.Map.Lookups.{exact_bytes}
use Rattle.terms.proofs.Orderings.{is_eq_then, Equal_from_is_eq}
use Rattle.terms.specs.declared.kinds.ElemType.{ElemType}
use Rattle.terms.specs.contracts.kinds.ElemTypeOrd.TheImpl as type_order
use Rattle.terms.specs.Types.{type_number}
use Rattle.terms.proofs.ElementOrder.{cmp_types, type_from_number}
use Rattle.undo.specs.declared.nodes.Node.{Node}
use Rattle.undo.specs.declared.nodes.Node.TheVariants.{Sysmod, Element}
use Rattle.undo.specs.contracts.nodes.NodeOrd.TheImpl as node_order

exact_types : (t u : ElemType) → is_eq (type_order.ghosts.cmp t u) ≡ true → t ≡ u
exact_types t u e =
    type_from_number t u (eqb-true (type_number t) (type_number u)
    (unsigned_ties (type_number t) (type_number u) ∙ (ap is_eq (sym (cmp_types t u)) ∙ e)))

pub exact_nodes : (x y : Node) → node_order.ghosts.cmp x y ≡ Equal → x ≡ y
exact_nodes (Sysmod a) (Sysmod b) e = ap Sysmod (exact_bytes a b e)
exact_nodes (Sysmod a) (Element t n) e = absurd (true≢false (sym (ap is_eq e)))
exact_nodes (Element t n) (Sysmod a) e = absurd (true≢false (sym (ap is_eq e)))
exact_nodes (Element t n) (Element u m) e =
    let tied = sym (is_eq_then (type_order.ghosts.cmp t u) (slice_cmp nat_cmp n m)) ∙ ap is_eq e in
    let parts = and_parts (is_eq (type_order.ghosts.cmp t u)) (is_eq (slice_cmp nat_cmp n m)) tied in
    ap₂ Element (exact_types t u parts.0) (exact_bytes n m (Equal_from_is_eq (slice_cmp nat_cmp n m) parts.1))
