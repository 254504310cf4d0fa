use Rattle.std.proofs.Common.{◌≡◌, ◌≢◌, ◌∙◌, Option, Some, ap, refl, sym, subst, true≢false}
use Rattle.std.specs.Prelude.{IfSome, option_copied}
use Rattle.std.proofs.lemmas.Result.{on_ok_weaker}
use Rattle.sorted.specs.declared.edits.Edit.TheVariants.{Put, Remove}
use Rattle.terms.specs.Types.{Element}
use Rattle.terms.specs.Lookups.{element_key}
use Rattle.zones_maps.specs.Delta.{ZoneEdits}
use Rattle.change.proofs.Reverted.{key_found, puts_none, puts_one}
use Rattle.change.proofs.restoring.put_back.Goals as goal

pub returns-then-are_same_elements : goal.returns-then-are_same_elements
returns-then-are_same_elements c =
    puts_none c.args.zone.now c.args.accepted.now c.args.key c.args.zone_edits.now (option_copied c.element.result)
    (option_copied c.element-wanted.result) c.element.ensures.found c.element-wanted.ensures.found
    (c.are_same_elements.ensures.0 c.if-are_same_elements.true)

pub returns-in_ok-try_clone-in-Some : goal.returns-in_ok-try_clone-in-Some
returns-in_ok-try_clone-in-Some c =
    let k = c.args.key in
    let here = option_copied c.element.result in
    let there = option_copied c.element-wanted.result in
    let other : here ≢ there =
    λ same. true≢false (sym (c.are_same_elements.ensures.1 same) ∙ c.if-are_same_elements.false) in
    let copy = c.in_ok-try_clone-in-Some.ensures in
    let found : there ≡ Some c.in-Some.element.now = ap option_copied c.in-Some.is in
    let key : element_key c.in-Some.element.now ≡ (k.0, k.1) =
    subst (λ o. IfSome o (λ e. element_key e ≡ (k.0, k.1))) (sym c.element-wanted.ensures.found ∙ found)
    (key_found c.args.accepted.now k.0 k.1) in
    on_ok_weaker c.put_element.result (λ is.
    puts_one c.args.zone.now c.args.accepted.now k c.args.zone_edits.now c.put_element.new.self here there
    c.element.ensures.found c.element-wanted.ensures.found other (record {
      edit = Put c.in_ok-try_clone-in-Some.field-0;
      entries = ap (λ (d : ZoneEdits). d.entries) is;
      elements = ap (λ (d : ZoneEdits). d.elements) is;
      at = ap element_key copy ∙ key;
      puts = ap {B = Option Element} (λ e. Some e) copy ∙ sym found;
    })) c.put_element.ensures.ok

pub returns-in-None : goal.returns-in-None
returns-in-None c =
    let here = option_copied c.element.result in
    let there = option_copied c.element-wanted.result in
    let other : here ≢ there =
    λ same. true≢false (sym (c.are_same_elements.ensures.1 same) ∙ c.if-are_same_elements.false) in
    on_ok_weaker c.remove_element.result (λ is.
    puts_one c.args.zone.now c.args.accepted.now c.args.key c.args.zone_edits.now c.remove_element.new.self here there
    c.element.ensures.found c.element-wanted.ensures.found other (record {
      edit = Remove (c.args.key.0, c.args.key.1);
      entries = ap (λ (d : ZoneEdits). d.entries) is;
      elements = ap (λ (d : ZoneEdits). d.elements) is;
      at = refl;
      puts = sym (ap option_copied c.in-None.is);
    })) c.remove_element.ensures.ok
