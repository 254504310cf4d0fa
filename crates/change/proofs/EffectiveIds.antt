-- What is known of the kept SYSMODs of an install, of the list of those that take effect.
use Rattle.std.proofs.Common.{◌≡◌, ◌≢◌, ◌⊎◌, inl, inr, List, AllPairs, Any, Contains, IsTrue, IsSome, get_or, arith}
use Rattle.std.proofs.Common.{subst, sym}
use Rattle.std.specs.Prelude.{◌↔◌}
use Rattle.std.proofs.lemmas.List.Elements.{Contains-get_or}
use Rattle.terms.specs.declared.kinds.ElemType.{ElemType}
use Rattle.terms.specs.Types.{Text, Id}
use Rattle.terms.specs.Lookups.{IsRising, has_change, element_of}
use Rattle.terms.specs.Changes.{has_replacement}
use Rattle.terms.specs.Over.{IsOver}
use Rattle.terms.specs.Tests.{ShareElement}
use Rattle.terms.specs.Install.{Installation, TakesEffect, cleared}
use Rattle.terms.proofs.Ids.{apart_from_rising}
use Rattle.change.specs.Elements.{HasBases}
use Rattle.change.specs.declared.plan.Plan.{Plan}
use Rattle.change.specs.Plans.{IsPlan}

-- the list of those that take effect, as a plan has it
pub members_are : (i : Installation) (dels : List Id) (p : Plan) (ids : List Id) → IsPlan i dels p → ids ≡ p.effective
    → (x : Id) → Contains ids x ↔ TakesEffect i x
members_are i dels p ids plan same x = subst (λ xs. Contains xs x ↔ TakesEffect i x) (sym same) (plan.effective x)

module _ (i : Installation) (effective : List Id) (members : (x : Id) → Contains effective x ↔ TakesEffect i x) where
  -- those that share an element are ordered by over
  pub effective_ordered : IsRising effective
      → ((x y : Id) → Contains i.kept x → Contains i.kept y → x ≢ y → ShareElement i.global x y
      → IsOver i.choice x y ⊎ IsOver i.choice y x)
      → AllPairs (λ x y. ShareElement i.global x y → IsOver i.choice x y ⊎ IsOver i.choice y x) effective
  effective_ordered rising ordered = λ j k d before below share.
      ordered (get_or effective j d) (get_or effective k d)
      ((members (get_or effective j d)).0 (Contains-get_or effective j d (omega (arith, before, below)))).kept
      ((members (get_or effective k d)).0 (Contains-get_or effective k d below)).kept
      (apart_from_rising effective rising j k d before below) share

  -- an element that one of them changes is there after the deletions, or one of them replaces it
  pub effective_base : HasBases i
      → (type : ElemType) (name : Text) → Any (λ x. IsTrue (has_change i.global x type name)) effective
      → IsSome (element_of (cleared i) type name)
      ⊎ Any (λ x. IsTrue (has_replacement i.global x type name)) effective
  effective_base base type name any =
      elim (base any.1 type name ((members any.1).0 (any.0, any.2, any.3)) any.4) [
        | inl there ↦ inl there
        | inr replaced ↦
            let at = (members replaced.0).1 replaced.1 in
            inr (at.0, replaced.0, at.1, at.2, replaced.2)
      ]
