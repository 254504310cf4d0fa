use Rattle.std.proofs.Common.{All, IsTrue, subst, sym}
use Rattle.std.proofs.lemmas.List.Elements.{filter_passes}
use Rattle.terms.specs.Lookups.{is_applied}
use Rattle.service_play.proofs.judging.judge_restore.Goals as goal

pub restore_system-requires : goal.restore_system-requires
restore_system-requires c =
    let zone = c.args.zone.now in
    let has = c.in_ok-candidates.ensures in
    subst (All (λ x. IsTrue (is_applied zone x))) (sym has.ids) (filter_passes (is_applied zone) has.listed)
