use Rattle.std.proofs.Common.{refl, subst, subst₂, sym}
use Rattle.terms.specs.Lookups.{IsRising}
use Rattle.terms.specs.Texts.{IsMerge}
use Rattle.change.proofs.FoldUpdates.{update_made}
use Rattle.change.proofs.folding.apply_update.Goals as goal

pub returns : goal.returns
returns c =
    update_made c.args.id c.args.update.now _ _ _ c.old.view_is refl
    (subst IsRising c.umids.view_is c.umids.invariant) c.in_ok-insert.ensures.ok
    (subst₂ (λ before after. IsMerge before c.args.update.now after) c.known.ensures
    (sym c.into_lines-text.ensures.lines) c.in_ok-merge.ensures)
