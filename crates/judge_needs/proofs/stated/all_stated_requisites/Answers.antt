use Rattle.std.proofs.Common.{◌≡◌, ◌∙◌, ◌++◌, [], true, ap, arith, cond, map, sym}
use Rattle.std.specs.Prelude.{is_some}
use Rattle.std.specs.Str.{bytes_eq}
use Rattle.std.proofs.lemmas.Grind.{common_steps}
use Rattle.terms.specs.Types.{Entry}
use Rattle.terms.specs.Conditions.{reqs_where}
use Rattle.zones.specs.Scopes.{choice_of}
use Rattle.judge_needs.specs.Conditions.{a_requisite, requisites_of, stated_by}
use Rattle.judge_needs.proofs.stated.all_stated_requisites.Goals as goal

pub loop-entry-preserved : goal.loop-entry-preserved
loop-entry-preserved c f =
    let ch = choice_of c.args.scope.now in
    let e = c.entry-item.result in
    let old = requisites_of c.loop-entry.stated f in
    let on : is_some e.applied ≡ true = ap (λ (e : Entry). is_some e.applied) (sym c.entry.view_is)
    ∙ c.if-is_none.ensures in
    let more : requisites_of c.add_conditions.new.stated f ≡ old ++ cond (is_some e.applied) (stated_by ch f e.id) [] =
    c.in_ok-add_conditions.ensures f
    ∙ ap (λ l. old ++ map (a_requisite c.entry.inside.id) (reqs_where (bytes_eq f) l)) c.ifs.ensures
    ∙ ap (λ (e : Entry). old ++ stated_by ch f e.id) c.entry.view_is
    ∙ ap (λ b. old ++ cond b (stated_by ch f e.id) []) (sym on) in
    grind (arith, common_steps, more, c.loop-entry.invariant f)
