use Rattle.std.proofs.Common.{◌++◌, ◌∙◌, [], ap, ap₂, arith, take_all}
use Rattle.std.specs.List.{flat_map}
use Rattle.zones.specs.Scopes.{setting_of}
use Rattle.why_verdict.specs.Conflicts.{deletions_by, clashes_with}
use Rattle.report.proofs.Texts.{grown_more}
use Rattle.why_verdict.proofs.conflicts.conflicts_of.Goals as goal

pub loop-by-preserved : goal.loop-by-preserved
loop-by-preserved c =
    grown_more (deletions_by (setting_of c.args.scope.now) c.args.id) c.as_slice-by-items.result.now c.loop-by.by-index
    c.by-item.result [] c.loop-by.found.items c.push_deletions.new.found.items (omega arith) c.by-item.is
    c.loop-by.invariant c.in_ok-push_deletions.ensures

pub loop-partner-preserved : goal.loop-partner-preserved
loop-partner-preserved c =
    grown_more (clashes_with (setting_of c.args.scope.now) c.args.id) c.as_slice-partner-items.result.now
    c.loop-partner.partner-index c.partner-item.result c.loop-by.found.items c.loop-partner.found.items
    c.push_clashes.new.found.items (omega arith) c.partner-item.is c.loop-partner.invariant
    c.in_ok-push_clashes.ensures

pub returns : goal.returns
returns c =
    let s = setting_of c.args.scope.now in
    let x = c.args.id in
    record {
      partners = c.in_ok-partners.partners.items;
      are_partners = c.in_ok-partners.ensures;
      conflicts_are = c.loop-partner.invariant
          ∙ ap₂ (λ a b. a ++ flat_map (clashes_with s x) b)
          (c.loop-by.invariant ∙ ap (flat_map (deletions_by s x)) (take_all c.loop-by.by-index
          c.as_slice-by-items.result.now (omega arith) ∙ c.as_slice-by-items.ensures.value ∙ c.in_ok-deleters.ensures))
          (take_all c.loop-partner.partner-index c.as_slice-partner-items.result.now (omega arith)
          ∙ c.as_slice-partner-items.ensures.value);
    }
