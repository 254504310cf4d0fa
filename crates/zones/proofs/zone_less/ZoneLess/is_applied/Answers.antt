use Rattle.std.proofs.Common.{◌∙◌, not, sym, ap}
use Rattle.std.specs.Prelude.{◌&&◌}
use Rattle.sysmods.specs.Choices.{choice}
use Rattle.zones.specs.Gone.{is_cut}
use Rattle.zones.proofs.Lookups.{is_applied_less}
use Rattle.zones.proofs.zone_less.ZoneLess.is_applied.Goals as goal

pub returns-then-is_applied : goal.returns-then-is_applied
returns-then-is_applied c =
    let l = c.args.self.now in
    ap not c.deletes.ensures
    ∙ ap (λ b. b && not (is_cut l c.args.id)) c.if-is_applied.ensures.same
    ∙ sym (is_applied_less l.vers.now.global.now (choice l.vers.now) l.dels.now l.zone.now c.if-is_applied.ensures.form
    c.args.id)

pub returns-else-is_applied : goal.returns-else-is_applied
returns-else-is_applied c =
    let l = c.args.self.now in
    c.if-is_applied.false
    ∙ ap (λ b. b && not (is_cut l c.args.id)) c.if-is_applied.ensures.same
    ∙ sym (is_applied_less l.vers.now.global.now (choice l.vers.now) l.dels.now l.zone.now c.if-is_applied.ensures.form
    c.args.id)
