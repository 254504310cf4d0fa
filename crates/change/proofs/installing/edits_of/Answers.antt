use Rattle.std.proofs.Common.{◌≡◌, ◌⊎◌, ◌∙◌, All, Any, IsTrue, IsSome, List, ap, get_or, sym, subst}
use Rattle.std.specs.Ordering.{is_lt}
use Rattle.terms.specs.Types.{Id, Zone}
use Rattle.terms.proofs.ElementOrder.{cmp_keys}
use Rattle.terms.specs.Changes.{has_replacement}
use Rattle.terms.specs.Lookups.{element_key, element_of}
use Rattle.sorted.specs.Edits.{edit_key}
use Rattle.sysmods.specs.Choices.{number_in, choice}
use Rattle.terms.specs.Deleted.{deletions, zone_less}
use Rattle.zones_maps.specs.Delta.{IsEdited}
use Rattle.terms.specs.Install.{Installation, HasInstalled}
use Rattle.change.specs.declared.deleting.Deleting.{Deleting}
use Rattle.zones_maps.specs.Differing.{ChangesEntry, HasEditedElements}
use Rattle.change.specs.Plans.{installation, installation_by, installation_of, IsPlan}
use Rattle.change.proofs.AfterInstall.{installs}
use Rattle.change.proofs.EffectiveIds.{members_are, effective_ordered, effective_base}
use Rattle.change.proofs.installing.edits_of.Goals as goal

pub put_entries-requires-clause-dels : goal.put_entries-requires-clause-dels
put_entries-requires-clause-dels c =
    c.requires.dels
    ∙ ap (λ v. deletions (choice v) c.args.installing.kept.now) (sym c.vers-vers.ensures)
    ∙ ap (deletions (choice c.vers-vers.result.now)) (sym c.as_slice-kept.ensures.items)

pub element_edits-requires-clause-order : goal.element_edits-requires-clause-order
element_edits-requires-clause-order c =
    let i = installation_of c.args.installing in
    let ids = c.as_slice-effective.result.now in
    effective_ordered i ids
    (members_are i c.args.dels.now c.args.plan.now ids c.requires.plan c.as_slice-effective.ensures.items)
    c.as_slice-effective.ensures.rising c.requires.order

pub element_edits-requires-clause-some : goal.element_edits-requires-clause-some
element_edits-requires-clause-some c = λ type name changed.
    let is = c.args.installing in
    let g = is.overs.global.now in
    let i = installation_of is in
    let ids = c.as_slice-effective.result.now in
    subst (λ z. IsSome (element_of z type name) ⊎ Any (λ x. IsTrue (has_replacement g x type name)) ids)
    (ap (λ dels. zone_less g (choice is.overs) dels is.zone.now) (sym c.requires.dels))
    (effective_base i ids
    (members_are i c.args.dels.now c.args.plan.now ids c.requires.plan c.as_slice-effective.ensures.items)
    c.requires.base type name changed)

pub add_differing_edits-requires-clause-rising : goal.add_differing_edits-requires-clause-rising
add_differing_edits-requires-clause-rising c = λ i j d less below.
    let key = edit_key element_key in
    let xs = c.into_vec.result.items in
    ap is_lt (sym (cmp_keys (key (get_or xs i d)) (key (get_or xs j d)))) ∙ c.into_vec.ensures.rising i j d less below

pub returns-clause-installs : goal.returns-clause-installs
returns-clause-installs c =
    let vers = c.vers-vers.result.now in
    let g = vers.global.now in
    let by = choice vers in
    let is = c.args.installing in
    let zone = is.zone.now in
    let plan = c.args.plan.now in
    let dels = c.args.dels.now in
    let d : Deleting = record {
      left = record { vers = c.vers-vers.result; dels = c.args.dels; zone = is.zone };
      kept = c.as_slice-kept.result;
    } in
    let i : List Id → Installation = λ ids. installation g by (number_in vers) zone ids is.bypassed.now is.date in
    let dels_are : dels ≡ deletions by d.kept.now =
    c.requires.dels ∙ ap (λ v. deletions (choice v) is.kept.now) (sym c.vers-vers.ensures)
    ∙ ap (deletions by) (sym c.as_slice-kept.ensures.items) in
    let planned : IsPlan (i d.kept.now) dels plan =
    subst (λ ids. IsPlan (i ids) dels plan) (sym c.as_slice-kept.ensures.items)
    (subst (λ v. IsPlan (installation_by v is) dels plan) (sym c.vers-vers.ensures) c.requires.plan) in
    let made = c.in_ok-edits.ensures in
    subst (λ v. (new : Zone) → IsEdited c.add_differing_edits.new.zone_edits zone new
    → HasInstalled (installation_by v is) new)
    c.vers-vers.ensures
    (subst (λ ids. (new : Zone) → IsEdited c.add_differing_edits.new.zone_edits zone new → HasInstalled (i ids) new)
    c.as_slice-kept.ensures.items
    (installs d is.bypassed.now is.date (rw c.global.ensures at c.attest.ensures)
    c.attest_lists.ensures.form c.attest_lists.ensures.lists dels_are plan c.new-zone_edits.result
    c.put_entries.new.zone_edits
    c.add_differing_edits.new.zone_edits c.in_ok-edits.edits made.elements planned c.in_ok-put_entries.ensures
    (made.after (i d.kept.now) (record {
      global = ap (λ v. v.global.now) c.vers-vers.ensures;
      choice = ap choice c.vers-vers.ensures;
      cleared_is = ap (λ ds. zone_less g by ds zone) (sym dels_are)
          ∙ ap (λ v. zone_less v.global.now (choice v) dels zone) c.vers-vers.ensures;
      members = members_are (i d.kept.now) dels plan c.as_slice-effective.result.now planned
          c.as_slice-effective.ensures.items;
    }))
    made.edits_are
    (subst (λ es. HasEditedElements zone es c.put_entries.new.zone_edits c.add_differing_edits.new.zone_edits)
    c.into_vec.ensures.items c.in_ok-add_differing_edits.ensures)))

pub returns-clause-differs : goal.returns-clause-differs
returns-clause-differs c =
    let done = c.in_ok-add_differing_edits.ensures in
    record {
      entries = subst (All (ChangesEntry c.args.installing.zone.now)) (sym done.entries)
          c.in_ok-put_entries.ensures.differ;
      elements = done.differ;
    }
