use Rattle.std.proofs.Common.{◌∙◌, [], ap, filter, arith, take_all}
use Rattle.std.specs.Option.{option_map_or}
use Rattle.std.specs.Str.{bytes_eq}
use Rattle.terms.specs.Lookups.{sysmod_of}
use Rattle.zones.specs.Scopes.{global_of}
use Rattle.why_facts.specs.Numbered.{numbered}
use Rattle.why_facts.proofs.Numbering.{passing_next, filtered_vers}
use Rattle.why_facts.proofs.vers.ver_facts.Goals as goal

pub loop-ver-preserved : goal.loop-ver-preserved
loop-ver-preserved c =
    c.in_ok-push_ver_fact.ensures _ c.loop-ver.invariant
    ∙ ap (numbered c.args.scope.now c.args.id)
    (passing_next (λ v. bytes_eq v.srel c.args.scope.now.zone.now.srel) c.vers_of-ver-items.result.now
    c.loop-ver.ver-index c.ver-item.result (omega arith) c.ver-item.is)

pub returns : goal.returns
returns c =
    let scope = c.args.scope.now in
    let x = c.args.id in
    c.loop-ver.invariant
    ∙ ap (λ vs. numbered scope x (filter (λ v. bytes_eq v.srel scope.zone.now.srel) vs))
    (take_all c.loop-ver.ver-index c.vers_of-ver-items.result.now (omega arith) ∙ c.vers_of-ver-items.ensures
    ∙ ap (λ g. option_map_or (λ s. s.vers) (sysmod_of g x) []) c.global.ensures)
    ∙ ap (numbered scope x)
    (filtered_vers (λ v. bytes_eq v.srel scope.zone.now.srel) (sysmod_of (global_of scope) x))
