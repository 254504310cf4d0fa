use Rattle.std.proofs.Common.{◌∙◌, ◌++◌, map, take_all, refl, sym, ap, subst, arith, append-nil}
use Rattle.terms.specs.Lookups.{changes_of}
use Rattle.terms.specs.Global.{IsGlobal}
use Rattle.terms.specs.Over.{owner}
use Rattle.sysmods.specs.declared.ver_choice.VerChoice.{VerChoice}
use Rattle.sysmods.specs.Choices.{choice}
use Rattle.stream.specs.Comparing.{IsCompared, claim_of}
use Rattle.stream.proofs.Comparing.{compared_more}
use Rattle.stream.proofs.unordered.compare_changes.Goals as goal

pub loop-change-init : goal.loop-change-init
loop-change-init c = record {
  same = refl;
  compared = λ claims there before is.
      subst (λ l. IsCompared c.args.overs.now.global.now (choice c.args.overs.now) l c.args.last.now
      c.args.found.now.items) (sym (append-nil claims)) is;
}

pub loop-change-preserved : goal.loop-change-preserved
loop-change-preserved c =
    let vers = c.args.overs.now in
    let g = vers.global.now in
    let x = c.args.id in
    let same = c.loop-change.invariant.same in
    let told = c.in_ok-compare_with_last.ensures in
    let zone = c.global-global.ensures ∙ ap (λ (v : VerChoice). v.global.now) c.vers-vers.ensures in
    record {
      same = told.same ∙ same;
      compared = λ claims there before is.
          compared_more g (choice vers) (subst IsGlobal zone c.attest.ensures) x claims c.changes_of-changes.result.now
          c.owner-owner.result (c.changes_of-changes.ensures ∙ ap (λ h. changes_of h x) zone)
          (c.owner-owner.ensures ∙ ap (λ (v : VerChoice). owner v.global.now (choice v) x) c.vers-vers.ensures)
          c.loop-change.change-index c.change-item.result c.loop-change.last c.compare_with_last.new.last
          c.loop-change.found.items c.compare_with_last.new.found.items there before (omega arith) c.change-item.is
          told.last (rw same at told.found) (c.loop-change.invariant.compared claims there before is);
    }

pub returns-clause-compared : goal.returns-clause-compared
returns-clause-compared c claims there before is =
    let vers = c.args.overs.now in
    let g = vers.global.now in
    let x = c.args.id in
    let zone = c.global-global.ensures ∙ ap (λ (v : VerChoice). v.global.now) c.vers-vers.ensures in
    subst (λ l. IsCompared g (choice vers) (claims ++ map (claim_of g (choice vers) x) l) c.loop-change.last
    c.loop-change.found.items)
    (take_all c.loop-change.change-index c.changes_of-changes.result.now (omega arith) ∙ c.changes_of-changes.ensures
    ∙ ap (λ h. changes_of h x) zone)
    (c.loop-change.invariant.compared claims there before is)
