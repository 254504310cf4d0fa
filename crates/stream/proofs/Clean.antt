-- A stream is clean exactly if nothing is found.
use Rattle.std.proofs.Common.{◌≡◌, ◌≢◌, ◌∙◌, ◌⊎◌, inl, inr, Bool, true, false, List, [], ◌∷◌, ◌++◌, length, Option}
use Rattle.std.proofs.Common.{None, Some, All, Contains, refl, sym, ap, subst, true≢false, arith}
use Rattle.std.specs.Prelude.{◌↔◌}
use Rattle.std.proofs.lemmas.List.Elements.{All-head}
use Rattle.std.proofs.lemmas.Option.{same_Some}
use Rattle.terms.proofs.Ids.{Contains_from_is_in, is_in_from_Contains}
use Rattle.terms.proofs.ListMembers.{here, none_in}
use Rattle.terms.proofs.TextOrder.{same_or_not}
use Rattle.terms.specs.Types.{Id, Global}
use Rattle.terms.specs.Choice.{Choice, fmid_of, pre_of, sup_of}
use Rattle.terms.specs.Lookups.{is_in, has_change}
use Rattle.terms.specs.Stream.{IsInStream, IsOrdered, HasRequisitesOf, KeepsRequisites, KeepsElements, IsClean}
use Rattle.stream.specs.declared.breaches.Lack.{Lack}
use Rattle.stream.specs.declared.breaches.Lack.TheVariants.{Fmid, Pre, Sup}
use Rattle.stream.specs.declared.breaches.LostRequisite.{LostRequisite}
use Rattle.stream.specs.declared.breaches.LostElement.{LostElement}
use Rattle.stream.specs.declared.breaches.Unordered.{Unordered}
use Rattle.stream.specs.declared.linting.Findings.{Findings}
use Rattle.stream.specs.Breaches.{Lacks, IsLostRequisite, IsLostElement, IsUnordered}
use Rattle.stream.specs.Comparing.{HasFound, AreOrdered}
use Rattle.stream.specs.Lints.{TellBreaches}
use Rattle.stream.specs.Lost.{a_lost_requisite}

-- ---- what is not refuted

same_option_or_not : (o p : Option Id) → (o ≡ p) ⊎ (o ≢ p)
same_option_or_not None None = inl refl
same_option_or_not None (Some y) = inr (λ e. cc e)
same_option_or_not (Some x) None = inr (λ e. cc e)
same_option_or_not (Some x) (Some y) = elim (same_or_not x y) [
  | inl same ↦ inl (ap (λ z. Some z) same)
  | inr other ↦ inr (λ e. other (same_Some x y e))
]

in_unless_out : (xs : List Id) (z : Id) → ¬ ¬ Contains xs z → Contains xs z
in_unless_out xs z not_out = by (is_in xs z) refl
  where
    by : (b : Bool) → is_in xs z ≡ b → Contains xs z
    by true e = Contains_from_is_in xs z e
    by false e = absurd (not_out (λ there. true≢false (sym (is_in_from_Contains xs z there) ∙ e)))

module _ (g : Global) (c : Choice) where
  -- ---- pairs

  none_unordered : (found : List Unordered) → All (IsUnordered g c) found → IsOrdered g c → found ≡ []
  none_unordered [] all ordered = refl
  none_unordered (u ∷ us) all ordered =
      let h = All-head (IsUnordered g c) u us all in
      absurd (elim (ordered u.one u.other h.one h.other h.apart h.owner
      (u.elem_type, u.name, h.by_one, h.by_other)) [
        | inl over ↦ h.not_over over
        | inr under ↦ h.not_under under
      ])

  pub ordered_from : (ids : List Id) (found : List Unordered) → ((x : Id) → Contains ids x ↔ IsInStream c x)
      → All (IsUnordered g c) found → HasFound found ⊎ AreOrdered g c ids → (found ≡ []) ↔ IsOrdered g c
  ordered_from ids found members all either = (
    λ none. elim either [
      | inl has ↦ absurd (omega (arith, has, ap length none))
      | inr ordered ↦ (λ x y there also apart owners share.
          ordered x y ((members x).1 there) ((members y).1 also) apart owners share)
    ],
    λ ordered. none_unordered found all ordered,
  )

  -- ---- all rules

  module _ (found : Findings) (tell : TellBreaches g c found) where
    no_breach : {X : Type 0} (xs : List X) (P : X → Type 0) → ((b : X) → Contains xs b ↔ P b) → ((b : X) → ¬ P b)
        → xs ≡ []
    no_breach [] P are none = refl
    no_breach (b ∷ bs) P are none = absurd (none b ((are b).0 (here b bs)))

    keeps : found.requisites.items ≡ [] → KeepsRequisites c
    keeps none x y there is = record {
      fmid = elim (same_option_or_not (fmid_of c x) (fmid_of c y)) [
        | inl same ↦ same
        | inr two ↦ absurd (refuted Fmid two)
      ];
      pre = λ z named. in_unless_out (pre_of c x ++ sup_of c x) z (λ out. refuted (Pre z) (named, out));
      sup = λ z named. in_unless_out (sup_of c x) z (λ out. refuted (Sup z) (named, out));
    }
      where
        refuted : (lack : Lack) → Lacks c x y lack → ⊥
        refuted lack lacks = none_in (a_lost_requisite x y lack)
            (subst (λ l. Contains l (a_lost_requisite x y lack)) none
            ((tell.requisites (a_lost_requisite x y lack)).1 ((there, is), lacks)))

    keeps_elements : found.elements.items ≡ [] → KeepsElements g c
    keeps_elements none x y there is type name changes = by (has_change g x type name) refl
      where
        b : LostElement
        b = record { superseding = x; superseded = y; elem_type = type; name = name }

        by : (t : Bool) → has_change g x type name ≡ t → has_change g x type name ≡ true
        by true e = e
        by false e = absurd (none_in b (subst (λ l. Contains l b) none ((tell.elements b).1 ((there, is), changes, e))))

    pub clean_from : found.requisites.items ≡ [] → found.elements.items ≡ [] → found.unordered.items ≡ [] → IsClean g c
    clean_from requisites elements unordered = record {
      ordered = tell.ordered.0 unordered;
      requisites = keeps requisites;
      elements = keeps_elements elements;
    }

    no_lost_requisite : IsClean g c → (b : LostRequisite) → ¬ IsLostRequisite c b
    no_lost_requisite clean b lost = by b.lack lost.1
      where
        has : HasRequisitesOf c b.superseding b.superseded
        has = clean.requisites b.superseding b.superseded lost.0.0 lost.0.1

        by : (lack : Lack) → Lacks c b.superseding b.superseded lack → ⊥
        by Fmid two = two has.fmid
        by (Pre z) out = out.1 (has.pre z out.0)
        by (Sup z) out = out.1 (has.sup z out.0)

    no_lost_element : IsClean g c → (b : LostElement) → ¬ IsLostElement g c b
    no_lost_element clean b lost = true≢false (sym (clean.elements b.superseding b.superseded lost.0.0 lost.0.1
        b.elem_type b.name lost.1) ∙ lost.2)

    pub none_lost_requisite : IsClean g c → found.requisites.items ≡ []
    none_lost_requisite clean = no_breach found.requisites.items (IsLostRequisite c) tell.requisites
        (no_lost_requisite clean)

    pub none_lost_element : IsClean g c → found.elements.items ≡ []
    none_lost_element clean = no_breach found.elements.items (IsLostElement g c) tell.elements (no_lost_element clean)

    pub none_unordered_there : IsClean g c → found.unordered.items ≡ []
    none_unordered_there clean = tell.ordered.1 clean.ordered
