use Rattle.std.proofs.Common.{◌∙◌, Bool, [], not, filter, sym, ap}
use Rattle.std.specs.Option.{option_map_or}
use Rattle.terms.specs.Types.{Id, Entry}
use Rattle.terms.specs.Lookups.{is_nil}
use Rattle.sysmods.specs.Choices.{choice}
use Rattle.zones.specs.Gone.{is_gone}
use Rattle.zones.proofs.Filtered.{any_filter}
use Rattle.zones.proofs.Lookups.{supby_of_less}
use Rattle.zones.proofs.zone_less.ZoneLess.is_superseded.Goals as goal

pub returns-in-Some : goal.returns-in-Some
returns-in-Some c =
    let l = c.args.self.now in
    let stays : Id → Bool = λ y. not (is_gone l y) in
    c.any_stays.ensures
    ∙ any_filter stays c.as_slice.result.now
    ∙ ap (λ ids. not (is_nil (filter stays ids)))
    (c.as_slice.ensures.items
    ∙ ap (λ (e : Entry). e.supby) c.entry-in-Some.view_is
    ∙ ap (λ o. option_map_or (λ e. e.supby) o []) c.in-Some.ensures.found)
    ∙ ap (λ ids. not (is_nil ids)) (sym (supby_of_less l.vers.now.global.now (choice l.vers.now) l.dels.now l.zone.now
    c.entry.ensures.form c.args.id))

pub returns-in-None : goal.returns-in-None
returns-in-None c =
    let l = c.args.self.now in
    let stays : Id → Bool = λ y. not (is_gone l y) in
    ap (λ o. not (is_nil (filter stays (option_map_or (λ (e : Entry). e.supby) o [])))) c.in-None.ensures.found
    ∙ ap (λ ids. not (is_nil ids)) (sym (supby_of_less l.vers.now.global.now (choice l.vers.now) l.dels.now l.zone.now
    c.entry.ensures.form c.args.id))
