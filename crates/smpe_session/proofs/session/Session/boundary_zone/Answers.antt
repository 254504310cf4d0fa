use Rattle.std.proofs.Common.{◌≡◌, ◌≢◌, ◌∙◌, rules, sym}
use Rattle.smpe_session.proofs.Places.{kind_nowhere, kind_fits, kind_other, kind_global}
use Rattle.smpe_session.proofs.session.Session.boundary_zone.Goals as goal

pub returns-in_default-clause-has : goal.returns-in_default-clause-has
returns-in_default-clause-has c = λ s is inventory. kind_nowhere s c.args.kind (sym is.boundary ∙ c.in_default.is)

pub returns-in_default-get-clause-has : goal.returns-in_default-get-clause-has
returns-in_default-get-clause-has c = λ s is inventory. kind_global s c.args.self.now c.args.kind c.in-Some.name is
    inventory (sym is.boundary ∙ c.in-Some.is) (sym c.in_default-get.ensures.value)

pub returns-then-ne-clause-has : goal.returns-then-ne-clause-has
returns-then-ne-clause-has c = λ s is inventory.
    let other : c.kind.result ≢ c.args.kind = search rules in
    kind_other s c.args.kind c.in-Some.name c.in-Some-get.zone.now (sym is.boundary ∙ c.in-Some.is)
    (is.zones c.in-Some.name c.in-Some-get.zone.now (sym c.in-Some-get.ensures.value))
    (λ same. other (c.kind.ensures ∙ same))

pub returns-clause-named : goal.returns-clause-named
returns-clause-named c = c.in-Some.is

pub returns-clause-has : goal.returns-clause-has
returns-clause-has c = λ s is inventory.
    let same : c.kind.result ≡ c.args.kind = search rules in
    let at = sym is.boundary ∙ c.in-Some.is in
    let there = is.zones c.in-Some.name c.in-Some-get.zone.now (sym c.in-Some-get.ensures.value) in
    record {
      boundary = at;
      has = sym c.in-Some-get.ensures.value;
      is_there = there;
      kind_is = sym c.kind.ensures ∙ same;
      fits = kind_fits s c.args.kind c.in-Some.name c.in-Some-get.zone.now at there (sym c.kind.ensures ∙ same);
    }
