use Rattle.std.proofs.Common.{◌≡◌, ◌∙◌, filter, sym, rules, tests}
use Rattle.std.proofs.lemmas.Fn.{filter_same}
use Rattle.terms.specs.Types.{Id}
use Rattle.terms.specs.Needs.{Serves}
use Rattle.terms.specs.Candidates.{is_installable}
use Rattle.sysmods.specs.Choices.{choice}
use Rattle.zones.specs.Scopes.{global_of}
use Rattle.report.proofs.Superseding.{kept_of}
use Rattle.why_facts.proofs.answers.installable_suppliers.Goals as goal

pub serving_ids-requires : goal.serving_ids-requires
serving_ids-requires c = c.args.asking.now.srel_is ∙ sym c.srel-srel.ensures

pub returns : goal.returns
returns c =
    let a = c.args.asking.now in
    let test = is_installable (global_of a.scope) a.scope.zone.now in
    let Serve = λ (y : Id). Serves (choice a.scope.vers.now) c.args.kind y c.args.id in
    let kept : c.retain.new.self.items ≡ filter test c.in_ok-found.found.items =
    filter_same _ _ _ (λ x b q k. search (rules, tests)) _ _ c.retain.ensures.filtered in
    let are = kept_of test Serve c.in_ok-found.found.items c.retain.new.self.items c.from_vec.result kept
    c.from_vec.ensures.members c.in_ok-found.ensures in (
      c.from_vec.ensures.rising,
      λ y. (
        λ h. let both = (are y).0 h in record { installable = both.0; serves = both.1 },
        λ may. (are y).1 (may.installable, may.serves),
      ),
    )
