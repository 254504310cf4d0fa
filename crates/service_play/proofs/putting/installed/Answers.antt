use Rattle.std.proofs.Common.{◌≡◌, ◌∙◌, true, IsTrue, sym, subst, subst₂}
use Rattle.std.specs.List.{list_all}
use Rattle.terms.specs.Lookups.{changes_of, has_change, is_nil}
use Rattle.terms.specs.Tests.{ShareElement}
use Rattle.service_play.proofs.Unchanged.{no_change}
use Rattle.service_play.proofs.putting.installed.Goals as goal

pub install-requires-clause-order : goal.install-requires-clause-order
install-requires-clause-order c x y in_x in_y differ shares =
    let shared = subst (λ v. ShareElement v.global.now x y) c.new.ensures shares in
    absurd (no_change c.args.vers.now.global.now c.args.kept.now
    (subst₂ (λ g ids. list_all (λ z. is_nil (changes_of g z)) ids ≡ true) c.global.ensures c.as_slice.ensures.items
    (sym c.change_no_elements.ensures ∙ c.if-not-change_no_elements.false)) x in_x shared.0 shared.1 shared.2)

pub install-requires-clause-base : goal.install-requires-clause-base
install-requires-clause-base c x type name takes has =
    absurd (no_change c.args.vers.now.global.now c.args.kept.now
    (subst₂ (λ g ids. list_all (λ z. is_nil (changes_of g z)) ids ≡ true) c.global.ensures c.as_slice.ensures.items
    (sym c.change_no_elements.ensures ∙ c.if-not-change_no_elements.false)) x takes.kept type name
    (subst (λ v. IsTrue (has_change v.global.now x type name)) c.new.ensures has))
