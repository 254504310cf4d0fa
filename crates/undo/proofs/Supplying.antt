-- Who supplies an id.
use Rattle.std.proofs.Common.{◌≡◌, inl, inr, true, ◌∷◌}
use Rattle.std.proofs.Common.{refl, sym, subst, Contains, IsTrue}
use Rattle.std.specs.Prelude.{◌↔◌, ◌||◌}
use Rattle.std.specs.Str.{bytes_eq}
use Rattle.std.proofs.lemmas.Bool.{and_parts, or_cases, or_right}
use Rattle.terms.proofs.ListMembers.{here, here_or, there, in_filter, filter_in}
use Rattle.terms.proofs.TextOrder.{same_from, same_itself}
use Rattle.terms.specs.Types.{Id, Zone}
use Rattle.terms.specs.Lookups.{is_in, is_applied, supby_of, supplies}
use Rattle.terms.proofs.Ids.{is_in_from_Contains, Contains_from_is_in}
use Rattle.undo.specs.Dependences.{suppliers}

pub supplier_is : (zone : Zone) (x z : Id) → Contains (suppliers zone z) x ↔ IsTrue (supplies zone x z)
supplier_is zone x z = (from, to)
  where
    from : Contains (suppliers zone z) x → IsTrue (supplies zone x z)
    from h =
        let f = filter_in (is_applied zone) (z ∷ supby_of zone z) x h in
        elim (here_or z (supby_of zone z) x f.0) [
          | inl same ↦ rw (f.1, subst (λ v. bytes_eq x v ≡ true) (sym same) (same_itself x)) refl
          | inr over ↦ rw (f.1) (or_right (bytes_eq x z) (is_in (supby_of zone z) x)
              (is_in_from_Contains (supby_of zone z) x over))
        ]

    to : IsTrue (supplies zone x z) → Contains (suppliers zone z) x
    to on =
        let parts = and_parts (is_applied zone x) (bytes_eq x z || is_in (supby_of zone z) x) on in
        in_filter (is_applied zone) (z ∷ supby_of zone z) x
        (elim (or_cases (bytes_eq x z) (is_in (supby_of zone z) x) parts.1) [
          | inl same ↦ subst (Contains (z ∷ supby_of zone z)) (sym (same_from x z same)) (here z (supby_of zone z))
          | inr over ↦ there z (supby_of zone z) x (Contains_from_is_in (supby_of zone z) x over)
        ]) parts.0
