use Rattle.std.proofs.Common.{[], ◌++◌, subst, sym, ap, ◌∙◌, refl, append_assoc}
use Rattle.terms.specs.HoldFile.{IsHoldFile}
use Rattle.mcs.specs.HoldItems as hold_files
use Rattle.intake_service.proofs.HoldParts.{no_items, more_items}
use Rattle.intake_service.proofs.records.hold_records.Goals as goal

pub loop-init : goal.loop-init
loop-init c = ([], refl, subst (λ b. IsHoldFile b []) (sym c.new-bytes.ensures.items) no_items)

pub loop-preserved : goal.loop-preserved
loop-preserved c =
    let l = c.loop in
    let first = c.first_part-part.result.first.now in (
      l.invariant.0 ++ first,
      append_assoc l.invariant.0 first _ ∙ ap (λ r. l.invariant.0 ++ r) c.first_part-part.ensures ∙ l.invariant.1,
      more_items l.bytes.items _ c.append.new.self.items l.invariant.0 first l.invariant.2
          c.in_ok-records.ensures c.in_ok-append.ensures.items,
    )

pub returns : goal.returns
returns c =
    let l = c.loop in
    subst (λ xs. IsHoldFile c.append-2.new.self.items (hold_files.items xs)) l.invariant.1
    (more_items l.bytes.items _ c.append-2.new.self.items l.invariant.0 l.rest.now l.invariant.2
    c.in_ok-records-2.ensures c.in_ok-append-2.ensures.items)
