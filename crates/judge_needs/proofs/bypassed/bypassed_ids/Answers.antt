use Rattle.std.proofs.Common.{◌≡◌, ◌∙◌, ◌++◌, [], ap, append-nil, cond, subst, sym, Contains}
use Rattle.std.specs.Prelude.{◌↔◌}
use Rattle.terms.specs.declared.codes.NeedKind.TheVariants.{Ifreq}
use Rattle.terms.specs.Types.{Id}
use Rattle.terms.specs.Choice.{pre_of, req_of}
use Rattle.terms.specs.Needs.{asked}
use Rattle.zones.specs.Scopes.{setting_of}
use Rattle.judge_needs.proofs.Paired.{same_behind}
use Rattle.judge_needs.proofs.bypassed.bypassed_ids.Goals.{then-is_bypassed+in_ok-by_ifs+in_ok-extend_from_slice-2}
use Rattle.judge_needs.proofs.bypassed.bypassed_ids.Goals.{else-is_bypassed}
use Rattle.judge_needs.proofs.bypassed.bypassed_ids.Goals as goal

pub returns : goal.returns
returns c =
    let s = setting_of c.args.conditions.now.scope in
    let x = c.args.id in
    let pre = cond s.bypass.pre (pre_of s.choice x) [] in
    let both = pre ++ cond s.bypass.req (req_of s.choice x) [] in
    let ifreq = asked s [] x Ifreq in
    let ids = c.extend_from_slice.new.self.items in
    let are : ids ≡ both = c.in_ok-extend_from_slice.ensures.items
    ∙ ap (λ l. l ++ c.covered_requisites-2.result.now) (c.in_ok-ids.ensures.items ∙ c.covered_requisites.ensures
    ∙ ap (λ l. cond s.bypass.pre l []) c.pre.ensures.items)
    ∙ ap (λ l. pre ++ l) (c.covered_requisites-2.ensures ∙ ap (λ l. cond s.bypass.req l []) c.req.ensures.items) in
    elim c.if-is_bypassed.branch [
      | then-is_bypassed+in_ok-by_ifs+in_ok-extend_from_slice-2 w ↦
          let by_ifs = w.as_slice.result.now in
          rw w.ids-is (subst (λ l. (z : Id) → Contains l z ↔ Contains (both ++ cond s.bypass.ifreq ifreq []) z)
          (sym (w.in_ok-extend_from_slice-2.ensures.items ∙ ap (λ l. l ++ by_ifs) are))
          (subst (λ b. (z : Id) → Contains (both ++ by_ifs) z ↔ Contains (both ++ cond b ifreq []) z)
          (sym w.if-is_bypassed.true ∙ c.is_bypassed.ensures)
          (same_behind both by_ifs ifreq (rw w.as_slice.ensures.items w.in_ok-by_ifs.ensures))))
      | else-is_bypassed w ↦
          rw w.ids-is (subst (λ l. (z : Id) → Contains ids z ↔ Contains l z) (are ∙ sym (append-nil both)
          ∙ ap (λ b. both ++ cond b ifreq []) (sym w.if-is_bypassed.false ∙ c.is_bypassed.ensures))
          (λ z. (λ h. h, λ h. h)))
    ]
