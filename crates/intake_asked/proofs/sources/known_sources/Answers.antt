use Rattle.std.proofs.Common.{◌∙◌, ap, arith}
use Rattle.std.specs.List.{flat_map}
use Rattle.std.proofs.lemmas.List.{take_all, map-id}
use Rattle.intake_asked.specs.declared.known.KnownSysmod.{KnownSysmod}
use Rattle.intake_asked.proofs.Passing.{flat_map_next, more_found}
use Rattle.intake_asked.proofs.sources.known_sources.Goals as goal

pub loop-sysmod-preserved : goal.loop-sysmod-preserved
loop-sysmod-preserved c =
    let l = c.loop-sysmod in
    more_found (λ p. p.now) c.append.new.self.items l.all.items c.in_ok-more.more.items _ _ _
    c.in_ok-append.ensures.items l.invariant
    (c.in_ok-more.ensures ∙ map-id _ ∙ c.as_slice.ensures.value)
    (flat_map_next (λ (k : KnownSysmod). k.sources.items) c.args.known.now l.sysmod-index c.sysmod-item.result
    (omega arith) c.sysmod-item.is)

pub returns : goal.returns
returns c =
    c.loop-sysmod.invariant ∙ ap (flat_map (λ (k : KnownSysmod). k.sources.items))
    (take_all c.loop-sysmod.sysmod-index c.args.known.now (omega arith))
