use Rattle.std.proofs.Common.{◌≡◌, ◌∙◌, All, IsTrue, ap, sym, subst}
use Rattle.std.specs.Prelude.{fold}
use Rattle.std.proofs.lemmas.Result.{IfOk-weaker}
use Rattle.terms.specs.Types.{Zone}
use Rattle.terms.specs.Lookups.{is_in, waives_applied}
use Rattle.terms.specs.Restore.{Restoring, Restores}
use Rattle.zones_maps.specs.Delta.{IsEdited, IsChanged}
use Rattle.zones_maps.specs.Differing.{EachChanges}
use Rattle.change.specs.Restoring.{IsRestoringOf, take_off, ArePutBack}
use Rattle.change.proofs.AfterRestore.{elements_none, each_changes, restored}
use Rattle.change.proofs.restoring.restore.Goals as goal
use Rattle.change.proofs.restoring.restore.Goals.{In_ok-put_all_back}

pub take_all_off-requires : goal.take_all_off-requires
take_all_off-requires c = subst (All (λ e. IsTrue (waives_applied e))) (sym c.entries.ensures.same)
    c.entries.ensures.form.waived

pub put_all_back-requires : goal.put_all_back-requires
put_all_back-requires c =
    elements_none c.args.kept.now c.entries.result.now c.new-zone_edits.result c.take_all_off.new.zone_edits
    c.new-zone_edits.ensures.elements c.in_ok-take_all_off.ensures

taken_off : (c : In_ok-put_all_back) → c.take_all_off.new.zone_edits
    ≡ fold (take_off (is_in c.args.kept.now)) c.new-zone_edits.result c.args.zone.now.entries
taken_off c =
    c.in_ok-take_all_off.ensures
    ∙ ap (fold (take_off (is_in c.args.kept.now)) c.new-zone_edits.result) c.entries.ensures.same

put_back : (c : In_ok-put_all_back) → ArePutBack c.args.zone.now c.args.accepted.now c.in_ok-changed.changed.items
    c.take_all_off.new.zone_edits c.put_all_back.new.zone_edits
put_back c =
    subst (λ ks. ArePutBack c.args.zone.now c.args.accepted.now ks c.take_all_off.new.zone_edits
    c.put_all_back.new.zone_edits) c.as_slice.ensures.value c.in_ok-put_all_back.ensures

pub returns-clause-restores : goal.returns-clause-restores
returns-clause-restores c =
    let at = (goal.at.returns-clause-restores c).In_ok-put_all_back in
    let g = c.args.global.now in
    let kept = c.args.kept.now in
    IfOk-weaker c.from_edits.result _ (λ delta. (r : Restoring) → IsRestoringOf r g c.args.zone.now c.args.accepted.now
    → (new : Zone) → IsChanged delta c.args.zone.now new → Restores r kept new)
    (λ delta made r of. subst (λ edits. (new : Zone) → IsEdited edits c.args.zone.now new → Restores r kept new)
    (sym made.0)
    (restored g c.args.zone.now c.args.accepted.now kept c.entries.ensures.form _ _ _
    c.new-zone_edits.ensures.entries (taken_off at) _ c.in_ok-changed.ensures (put_back at) r of))
    c.from_edits.ensures

pub returns-clause-differs : goal.returns-clause-differs
returns-clause-differs c =
    let at = (goal.at.returns-clause-differs c).In_ok-put_all_back in
    IfOk-weaker c.from_edits.result _ (λ delta. EachChanges c.args.zone.now delta.edits)
    (λ delta made. subst (EachChanges c.args.zone.now) (sym made.0)
    (each_changes c.args.global.now c.args.zone.now c.args.accepted.now c.args.kept.now c.entries.ensures.form _ _ _
    c.new-zone_edits.ensures.entries (taken_off at) _ c.in_ok-changed.ensures (put_back at)))
    c.from_edits.ensures
