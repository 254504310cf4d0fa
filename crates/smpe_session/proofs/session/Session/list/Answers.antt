use Rattle.std.proofs.Common.{◌∙◌, refl, sym, subst, true≢false}
use Rattle.terms.specs.Types.{ListZone}
use Rattle.machine.specs.Outcome.{Ran, NoBoundary, list_global, list_zone, header_of}
use Rattle.machine.specs.Machine.{Performs}
use Rattle.smpe_session.proofs.Leading.{headed, refused}
use Rattle.smpe_session.proofs.Looking.{at_global_zone, list_nowhere, list_global_holds, list_zone_holds}
use Rattle.smpe_session.proofs.session.Session.list.Goals as goal

pub returns-in_default-clause-performs : goal.returns-in_default-clause-performs
returns-in_default-clause-performs c = λ s is date files.
    refused date files (ListZone c.args.text) s c.args.self.now.boundary NoBoundary is.boundary
    (list_nowhere s c.args.text (sym is.boundary ∙ c.in_default.is))

pub returns-then-is_global-clause-performs : goal.returns-then-is_global-clause-performs
returns-then-is_global-clause-performs c = λ s is date files.
    let performs = list_global_holds s c.args.text date files c.in-Some.name (sym is.boundary ∙ c.in-Some.is)
    (c.is_global.ensures.0 c.if-is_global.true) in
    headed date files (ListZone c.args.text) s s c.args.self.now.boundary
    (λ h. Ran h (list_global c.args.self.now.global)) is.boundary
    (subst (λ g. Performs date files s (ListZone c.args.text) s
    (Ran (header_of (ListZone c.args.text) s.boundary) (list_global g))) (sym is.global) performs)

pub returns-in-Some-get-clause-performs : goal.returns-in-Some-get-clause-performs
returns-in-Some-get-clause-performs c = λ s is date files.
    headed date files (ListZone c.args.text) s s c.args.self.now.boundary
    (λ h. Ran h (list_zone c.args.text c.in-Some-get.zone.now)) is.boundary
    (list_zone_holds s c.args.text date files c.in-Some.name c.in-Some-get.zone.now (sym is.boundary ∙ c.in-Some.is)
    (λ same. true≢false (sym (c.is_global.ensures.1 same) ∙ c.if-is_global.false))
    (is.zones c.in-Some.name c.in-Some-get.zone.now (sym c.in-Some-get.ensures.value)))

pub returns-in-None-clause-performs : goal.returns-in-None-clause-performs
returns-in-None-clause-performs c = λ s is date files.
    let same = at_global_zone s c.args.self.now c.in-Some.name is (sym is.boundary ∙ c.in-Some.is)
    (sym c.in-None.ensures.value) in
    absurd (true≢false (sym (c.is_global.ensures.1 same) ∙ c.if-is_global.false))

-- ---- the header

pub returns-in_default-clause-header : goal.returns-in_default-clause-header
returns-in_default-clause-header c = refl

pub returns-then-is_global-clause-header : goal.returns-then-is_global-clause-header
returns-then-is_global-clause-header c = refl

pub returns-in-Some-get-clause-header : goal.returns-in-Some-get-clause-header
returns-in-Some-get-clause-header c = refl

pub returns-in-None-clause-header : goal.returns-in-None-clause-header
returns-in-None-clause-header c = refl
