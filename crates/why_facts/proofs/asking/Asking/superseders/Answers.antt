use Rattle.std.proofs.Common.{◌∙◌, [], List, Option, not, filter, ap, sym}
use Rattle.std.specs.Option.{option_map_or}
use Rattle.std.proofs.lemmas.Result.{IfOk-weaker}
use Rattle.terms.specs.Types.{Id, Entry, Zone}
use Rattle.terms.specs.Lookups.{supby_of}
use Rattle.sysmods.specs.Choices.{choice}
use Rattle.zones.specs.Gone.{is_gone}
use Rattle.zones.proofs.Lookups.{supby_of_less}
use Rattle.why_facts.proofs.asking.Asking.superseders.Goals as goal

abbrev supby_in : Option Entry → List Id
supby_in o = option_map_or (λ e. e.supby) o []

pub returns-in-Some : goal.returns-in-Some
returns-in-Some c =
    let a = c.args.self.now in
    let l = a.left in
    let x = c.args.id in
    IfOk-weaker c.not_deleted.result _ _ (λ ids is.
    is ∙ ap (filter (λ y. not (is_gone l y)))
    (c.as_slice.ensures.items ∙ ap (λ (e : Entry). e.supby) c.found.view_is ∙ ap supby_in c.in-Some.ensures.found)
    ∙ sym (supby_of_less l.vers.now.global.now (choice l.vers.now) l.dels.now l.zone.now c.entry.ensures.form x)
    ∙ ap (λ (z : Zone). supby_of z x) a.left_is) c.not_deleted.ensures

pub returns-in-None : goal.returns-in-None
returns-in-None c =
    let a = c.args.self.now in
    let l = a.left in
    let x = c.args.id in
    c.new.ensures.items
    ∙ ap (λ o. filter (λ y. not (is_gone l y)) (supby_in o)) c.in-None.ensures.found
    ∙ sym (supby_of_less l.vers.now.global.now (choice l.vers.now) l.dels.now l.zone.now c.entry.ensures.form x)
    ∙ ap (λ (z : Zone). supby_of z x) a.left_is
