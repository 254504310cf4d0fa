use Rattle.std.proofs.Common.{◌≡◌, ◌∙◌, filter, is_some, map, ap, rules, tests}
use Rattle.std.proofs.lemmas.Fn.{filter_same}
use Rattle.sysmods.specs.Choices.{choice}
use Rattle.terms.specs.Types.{Id, Global}
use Rattle.stream.proofs.FirstVers.{stream_members}
use Rattle.stream.proofs.first_vers.stream_ids.Goals as goal

pub returns : goal.returns
returns c =
    let vers = c.args.vers.now in
    let test = λ (x : Id). is_some (choice vers x) in
    let kept : c.retain.new.self.items ≡ filter test c.in_ok-ids.ids.items =
    filter_same _ _ _ (λ x b q k. search (rules, tests)) _ _ c.retain.ensures.filtered in
    stream_members vers c.retain.new.self.items (kept ∙ ap (filter test) (c.in_ok-ids.ensures
    ∙ ap (λ (g : Global). map (λ s. s.id) g.sysmods) c.global.ensures))
