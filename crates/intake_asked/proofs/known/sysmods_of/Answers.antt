use Rattle.std.proofs.Common.{◌≡◌, ◌∷◌, [], ◌++◌, length, sym, ap, ◌∙◌, append_assoc, append-nil, arith}
use Rattle.std.specs.Vec.Iter.{into_iter_items}
use Rattle.std.proofs.lemmas.List.{nil_from_length}
use Rattle.std.proofs.lemmas.List.Concat.{flat_map-append}
use Rattle.intake_asked.specs.Known.{sysmods_of}
use Rattle.intake_asked.specs.declared.known.KnownFile.{KnownFile}
use Rattle.intake_asked.proofs.known.sysmods_of.Goals as goal

pub loop-file-preserved : goal.loop-file-preserved
loop-file-preserved c =
    let at = c.loop-file in
    let x = c.in-Some.file in
    let left = c.next.new.self in
    let steps : into_iter_items at.file-iterator ≡ x ∷ into_iter_items left = c.in-Some.ensures.steps.0 in (
      append_assoc at.yielded (x ∷ []) _ ∙ rw (← steps) at.invariant.0,
      c.in_ok-append.ensures.items ∙ ap (λ xs. xs ++ x.sysmods.items) at.invariant.1
          ∙ sym (flat_map-append (λ (f : KnownFile). f.sysmods.items) at.yielded (x ∷ [])
          ∙ ap (λ l. sysmods_of at.yielded ++ l) (append-nil x.sysmods.items)),
      let was = at.invariant.2 in
          let gone = c.in-Some.ensures.steps.1 in
          let short = ap length steps in
          omega arith,
    )

pub returns : goal.returns
returns c =
    let at = c.loop-file in
    let empty : into_iter_items at.file-iterator ≡ [] = nil_from_length _
    (sym at.invariant.2 ∙ c.in-None.ensures.steps.0) in
    let all = sym (append-nil at.yielded) ∙ rw empty at at.invariant.0
    ∙ c.into_iter-file-iterator.ensures.into_iter_gives.0 in
    at.invariant.1 ∙ ap sysmods_of all
