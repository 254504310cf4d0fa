use Rattle.std.proofs.Common.{◌∙◌, ◌++◌, map, filter, ap, arith, take, take_all}
use Rattle.terms.specs.Lookups.{is_in}
use Rattle.terms.specs.Choice.{del_of}
use Rattle.terms.specs.Over.{chain}
use Rattle.terms.specs.Deleted.{is_taken_out}
use Rattle.zones.specs.Scopes.{global_of, choice_of}
use Rattle.report.specs.Facts.{DeleteFact, TakesFact}
use Rattle.why_facts.proofs.deletes.delete_facts.Goals as goal

pub returns : goal.returns
returns c =
    let a = c.args.asking.now in
    let g = global_of a.scope in
    let ch = choice_of a.scope in
    let zone = a.scope.zone.now in
    let dels = del_of ch a.id in
    c.loop-id.invariant
    ∙ ap (λ l. l ++ map TakesFact (take c.loop-id.id-index c.as_slice-id-items.result.now)) (c.loop-del.invariant
    ∙ ap (map (λ z. DeleteFact z (is_in (chain g ch a.id) z)))
    (take_all c.loop-del.del-index c.del-dels.result.now (omega arith) ∙ c.del-dels.ensures))
    ∙ ap (λ l. map (λ z. DeleteFact z (is_in (chain g ch a.id) z)) dels ++ map TakesFact l)
    (take_all c.loop-id.id-index c.as_slice-id-items.result.now (omega arith) ∙ c.as_slice-id-items.ensures.value
    ∙ c.in_ok-taken.ensures
    ∙ ap (λ l. filter (is_taken_out g ch l zone) a.applied.now) c.del-dels.ensures
    ∙ ap (filter (is_taken_out g ch dels zone)) a.applied_is)
