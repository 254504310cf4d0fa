use Rattle.std.proofs.Common.{◌≡◌, filter, rules, tests}
use Rattle.std.proofs.lemmas.Fn.{filter_same}
use Rattle.sysmods.specs.Choices.{has_ver}
use Rattle.report.proofs.Superseding.{Belongs, kept_of}
use Rattle.report.proofs.superseders.resolvers.Goals as goal

pub returns : goal.returns
returns c =
    let vers = c.args.vers.now in
    let test = has_ver vers.global.now vers.srel in
    let kept : c.retain.new.self.items ≡ filter test c.in_ok-ids.ids.items =
    filter_same _ _ _ (λ x b q k. search (rules, tests)) _ _ c.retain.ensures.filtered in
    kept_of test (Belongs vers c.args.reason) c.in_ok-ids.ids.items c.retain.new.self.items c.from_vec.result kept
    c.from_vec.ensures.members c.in_ok-ids.ensures
