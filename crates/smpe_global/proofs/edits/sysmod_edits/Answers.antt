use Rattle.std.proofs.Common.{◌≡◌, ◌∙◌, ◌+◌, ◌++◌, List, [], ◌∷◌, map, take, ap, subst, sym, arith}
use Rattle.std.proofs.lemmas.List.{map-append, take_more, take_all}
use Rattle.terms.specs.Types.{Hold, Sysmod}
use Rattle.sysmods.specs.declared.edit.GlobalEdit.{GlobalEdit}
use Rattle.sysmods.specs.declared.edit.GlobalEdit.TheVariants.{PutHold, InsertSysmod}
use Rattle.smpe_global.specs.Edits.{AreEditsOf}
use Rattle.smpe_global.proofs.edits.sysmod_edits.Goals as goal

pub loop-hold-init : goal.loop-hold-init
loop-hold-init c =
    let view = c.sysmod.view_is in
    let sources = c.in_ok-sources.sources in (
      sources,
      c.in_ok-sources.ensures.items ∙ c.as_slice.ensures.items ∙ ap (λ (s : Sysmod). s.sources) view,
      c.in_ok-push.ensures.items
          ∙ ap (λ es. es ++ InsertSysmod c.sysmod.inside.id sources ∷ []) c.new-edits.ensures.items
          ∙ ap (λ (s : Sysmod). InsertSysmod s.id sources ∷ []) view,
    )

puts : List Hold → List GlobalEdit
puts hs = map (λ h. PutHold h) hs

pub loop-hold-preserved : goal.loop-hold-preserved
unfolding puts
loop-hold-preserved c =
    let was = c.loop-hold.invariant in
    let i = c.loop-hold.hold-index in
    let all = c.as_slice-holds.result.now in
    let hold = c.hold-item.result in
    let longer : puts (take i all) ++ PutHold hold ∷ [] ≡ puts (take (i + 1) all) =
    sym (map-append (λ h. PutHold h) (take i all) (hold ∷ [])) ∙ ap puts (ap (λ h. take i all ++ h ∷ []) c.hold-item.is
    ∙ sym (take_more all i hold c.loop-hold-test.true)) in (
      was.0,
      was.1,
      c.in_ok-push-2.ensures.items ∙ ap (λ es. es ++ PutHold c.in_ok-try_clone.field-0 ∷ []) was.2
          ∙ ap (λ es. InsertSysmod c.args.sysmod.now.id was.0 ∷ es)
          (ap (λ h. puts (take i all) ++ PutHold h ∷ []) c.in_ok-try_clone.ensures ∙ longer),
    )

pub returns : goal.returns
returns c =
    subst (λ hs. AreEditsOf (record c.args.sysmod.now { holds = hs }) c.loop-hold.edits.items)
    (take_all c.loop-hold.hold-index c.as_slice-holds.result.now (omega arith) ∙ c.as_slice-holds.ensures.value
    ∙ ap (λ (s : Sysmod). s.holds) c.sysmod.view_is) c.loop-hold.invariant
