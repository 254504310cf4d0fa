use Rattle.std.proofs.Common.{◌≡◌, ◌∙◌, [], ◌∷◌, List, Option, None, Some, map, ap, refl, subst, Contains}
use Rattle.std.specs.Prelude.{◌↔◌, MatchOption}
use Rattle.terms.specs.declared.codes.NeedKind.TheVariants.{Fmid, Pre, Req, Orphan}
use Rattle.terms.specs.Lookups.{IsRising, at_most_one}
use Rattle.report.specs.Facts.{a_requisite}
use Rattle.terms.proofs.TextOrder.{same_itself}
use Rattle.why_facts.specs.Asking.{setting_in}
use Rattle.why_facts.proofs.Growing.{five_parts}
use Rattle.why_facts.proofs.requisites.requisites.Goals as goal

as_list : {X : Type 0} (o : Option X) (xs : List X) → MatchOption o (xs ≡ []) (λ x. xs ≡ x ∷ []) → xs ≡ at_most_one o
as_list None xs is = is
as_list (Some x) xs is = is

pub returns : goal.returns
returns c =
    let s = setting_in c.args.asking.now in
    let x = c.args.asking.now.id in (
      c.from_vec-orphans.result,
      record {
        rising = subst (λ l. IsRising l) c.as_slice-2.ensures.items c.as_slice-2.ensures.rising;
        members = λ z. subst (λ ids. Contains c.from_vec-orphans.result z ↔ Contains ids z)
            (c.in_ok-unsorted_orphans.ensures s refl refl refl ∙ rw (same_itself x) refl)
            (c.from_vec-orphans.ensures.members z);
      },
      five_parts c.new-found.ensures.items
          (c.in_ok-push_requisites_of_kind.ensures) (ap (map (a_requisite Fmid x None))
          (as_list c.fmid-fmid.result c.as_slice.result.now c.as_slice.ensures ∙ ap at_most_one c.fmid-fmid.ensures))
          (c.in_ok-push_requisites_of_kind-2.ensures) (ap (map (a_requisite Pre x None)) c.pre.ensures.items)
          (c.in_ok-push_requisites_of_kind-3.ensures) (ap (map (a_requisite Req x None)) c.req.ensures.items)
          (c.in_ok-push_all_ifreqs.ensures) refl
          (c.in_ok-push_requisites_of_kind-4.ensures) (ap (map (a_requisite Orphan x None)) c.as_slice-2.ensures.items),
    )
