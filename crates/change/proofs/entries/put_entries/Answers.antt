use Rattle.std.proofs.Common.{◌∙◌, sym, ap, subst, subst₂, arith}
use Rattle.std.specs.Prelude.{if◌then◌else◌}
use Rattle.std.proofs.lemmas.List.{take_all}
use Rattle.sorted.specs.declared.edits.Edit.TheVariants.{Put, Remove}
use Rattle.zones_maps.specs.Differing.{AddsEntryEdit}
use Rattle.change.specs.Entries.{IsEntryAfter, IsMadeEntry, HasPutEntries}
use Rattle.change.proofs.Made.{after_applied, after_other}
use Rattle.change.proofs.Put.{put_none, put_next}
use Rattle.change.proofs.entries.put_entries.Goals.{After-attest}
use Rattle.change.proofs.entries.put_entries.Goals.{then-contains+in_ok-entry, else-contains+in_ok-entry-2}
use Rattle.change.proofs.entries.put_entries.Goals.{then-has_content+in_ok-put_differing_entry}
use Rattle.change.proofs.entries.put_entries.Goals.{else-has_content+in_ok-remove_existing_entry}
use Rattle.change.proofs.entries.put_entries.Goals as goal

pub loop-id-init : goal.loop-id-init
loop-id-init c = put_none c.args.deleting.now c.args.plan.now c.args.zone_edits.now c.requires.empty

-- the entry is what the install makes of it
is_after : (c : After-attest) → IsEntryAfter c.args.deleting.now c.args.plan.now c.id-item.result
    c.if-contains.entry
is_after c =
    let d = c.args.deleting.now in
    let p = c.args.plan.now in
    let x = c.id-item.result in
    elim c.if-contains.branch [
      | then-contains+in_ok-entry w ↦ subst (IsEntryAfter d p x) (sym w.entry-is)
          (after_applied d p x _ (sym c.contains.ensures ∙ w.if-contains.true) w.in_ok-entry.ensures)
      | else-contains+in_ok-entry-2 w ↦ subst (IsEntryAfter d p x) (sym w.entry-is)
          (after_other d p x _ w.in_ok-entry-2.ensures.form (sym c.contains.ensures ∙ w.if-contains.false)
          w.in_ok-entry-2.ensures.entry)
    ]

pub put_differing_entry-requires-clause-waived : goal.put_differing_entry-requires-clause-waived
put_differing_entry-requires-clause-waived c =
    (is_after (goal.at.put_differing_entry-requires-clause-waived c).After-attest).waives

pub loop-id-preserved : goal.loop-id-preserved
loop-id-preserved c =
    let d = c.args.deleting.now in
    let p = c.args.plan.now in
    let x = c.id-item.result in
    let e = c.if-contains.entry in
    let made : IsMadeEntry d p x e = record {
      after = is_after (goal.at.loop-id-preserved c).After-attest;
      supby = c.attest.ensures.0;
      waived = c.attest.ensures.1;
    } in
    put_next d p c.as_slice-id-items.result.now c.loop-id.id-index x c.args.zone_edits.now c.loop-id.zone_edits
    c.if-has_content.zone_edits (omega arith) c.id-item.is (
      e,
      made,
      elim c.if-has_content.branch [
        | then-has_content+in_ok-put_differing_entry w ↦
            subst₂ (λ v zone_edits. AddsEntryEdit d.left.zone.now v c.loop-id.zone_edits zone_edits)
            (sym (ap (λ b. if b then Put e else Remove x) (sym c.has_content.ensures ∙ w.if-has_content.true)))
            (sym w.zone_edits-is) w.in_ok-put_differing_entry.ensures
        | else-has_content+in_ok-remove_existing_entry w ↦
            subst₂ (λ v zone_edits. AddsEntryEdit d.left.zone.now v c.loop-id.zone_edits zone_edits)
            (sym (ap (λ b. if b then Put e else Remove x) (sym c.has_content.ensures ∙ w.if-has_content.false)))
            (sym w.zone_edits-is) w.in_ok-remove_existing_entry.ensures
      ],
    )
    c.loop-id.invariant

pub returns : goal.returns
returns c = subst (λ ids. HasPutEntries c.args.deleting.now c.args.plan.now ids c.args.zone_edits.now
    c.loop-id.zone_edits)
    (take_all c.loop-id.id-index c.as_slice-id-items.result.now (omega arith) ∙ c.as_slice-id-items.ensures.items)
    c.loop-id.invariant
