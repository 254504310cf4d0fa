use Rattle.std.proofs.Common.{◌++◌, ◌∙◌, Bool, Bor, not, map, filter, ap, sym}
use Rattle.std.specs.Str.{bytes_eq}
use Rattle.std.proofs.lemmas.Result.{IfOk-weaker}
use Rattle.terms.specs.Types.{Id, Ver}
use Rattle.terms.specs.Lookups.{at_most_one, is_in, is_supplied}
use Rattle.terms.specs.Conditions.{reqs_where}
use Rattle.select.specs.Growing.{taken_up, required_of, required_for, fitting_namers}
use Rattle.select.proofs.Kept.{flat_mapped, kept_mapped}
use Rattle.select.proofs.Vers.{required_mapped}
use Rattle.select.proofs.asked.Asked.asked_by_namers.Goals as goal

pub returns : goal.returns
returns c =
    let scope = c.args.self.now.scope.now in
    let seen = c.args.self.now.seen.now.keys in
    let function = c.args.function in
    let cands : Id → Bool = taken_up scope seen in
    let has_fmid : Ver → Bool = λ v. is_in (at_most_one v.fmid) function in
    let whole = c.in_ok-ids.ensures
    ∙ required_mapped scope.zone cands (λ (v : Bor Ver). v.now) c.as_slice-2.result.now
    ∙ ap (required_of scope.zone cands)
    (ap (map (λ v. v.now)) (c.as_slice-2.ensures.value ∙ c.in_ok-with_fmid.ensures)
    ∙ kept_mapped has_fmid (λ (v : Bor Ver). v.now) c.as_slice.result.now
    ∙ ap (filter has_fmid) (ap (map (λ v. v.now)) c.as_slice.ensures.value ∙ c.in_ok-vers.ensures)) in
    let by_ifs = c.as_slice-4.ensures.value ∙ c.in_ok-by_ifs.ensures
    ∙ ap (reqs_where (bytes_eq function))
    (sym (flat_mapped (λ (v : Ver). v.ifs) (λ (v : Bor Ver). v.now) c.as_slice-3.result.now))
    ∙ ap (required_for function) (ap (map (λ v. v.now)) c.as_slice-3.ensures.value ∙ c.in_ok-vers.ensures) in
    IfOk-weaker c.unsupplied.result _ _
    (λ found are. are ∙ ap (filter (λ z. not (is_supplied scope.zone z)))
    (c.as_slice-5.ensures.value ∙ c.in_ok-extend_from_slice.ensures.items
    ∙ ap (λ xs. xs ++ c.as_slice-4.result.now) whole
    ∙ ap (λ ys. required_of scope.zone cands (filter has_fmid (fitting_namers scope seen function)) ++ ys) by_ifs))
    c.unsupplied.ensures
