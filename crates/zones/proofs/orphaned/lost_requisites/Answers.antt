use Rattle.std.proofs.Common.{◌≡◌, ◌∙◌, ap, filter, rules, tests}
use Rattle.std.proofs.lemmas.Fn.{filter_same}
use Rattle.zones.specs.Gone.{loses}
use Rattle.zones.proofs.orphaned.lost_requisites.Goals as goal

pub returns : goal.returns
returns c =
    let left = c.args.left.now in
    let kept : c.retain.new.self.items ≡ filter (loses left) c.in_ok-ids.ids.items =
    filter_same _ _ _ (λ x b q k. search (rules, tests)) _ _ c.retain.ensures.filtered in
    kept ∙ ap (filter (loses left)) c.in_ok-ids.ensures
