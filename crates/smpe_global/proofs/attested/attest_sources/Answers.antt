use Rattle.std.proofs.Common.{◌≡◌, ◌∙◌, ◌+◌, ◌++◌, [], ◌∷◌, take, All, ap, subst, sym, arith}
use Rattle.std.proofs.lemmas.List.{take_more, take_all}
use Rattle.std.proofs.lemmas.List.Elements.{All-nil, All-cons, All-append}
use Rattle.terms.specs.Forms.{IsSource}
use Rattle.terms.specs.Types.{Sysmod}
use Rattle.smpe_global.proofs.attested.attest_sources.Goals as goal

pub loop-source-init : goal.loop-source-init
loop-source-init c = All-nil IsSource

pub loop-source-preserved : goal.loop-source-preserved
loop-source-preserved c =
    let i = c.loop-source.source-index in
    let all = c.as_slice-sources.result.now in
    let x = c.source-item.result in
    let longer : take (i + 1) all ≡ take i all ++ x ∷ [] =
    take_more all i x c.loop-source-test.true ∙ ap (λ y. take i all ++ y ∷ []) (sym c.source-item.is) in
    subst (All IsSource) (sym longer) (All-append IsSource (take i all) (x ∷ []) c.loop-source.invariant
    (All-cons IsSource x [] (subst IsSource c.as_bytes.ensures.same c.as_bytes.ensures.form) (All-nil IsSource)))

pub returns : goal.returns
returns c =
    subst (All IsSource) (take_all c.loop-source.source-index c.as_slice-sources.result.now (omega arith)
    ∙ c.as_slice-sources.ensures.items ∙ ap (λ (s : Sysmod). s.sources) c.sysmod.view_is) c.loop-source.invariant
