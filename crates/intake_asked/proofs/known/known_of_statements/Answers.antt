use Rattle.std.proofs.Common.{◌∙◌, ◌++◌, ◌∷◌, [], ap, sym, subst, length, take, arith}
use Rattle.std.proofs.lemmas.List.{take_all, take_more}
use Rattle.intake_asked.specs.Known.{AreStated}
use Rattle.intake_asked.proofs.Listed.{stated_next}
use Rattle.intake_asked.proofs.known.known_of_statements.Goals as goal

pub loop-stated-preserved : goal.loop-stated-preserved
loop-stated-preserved c =
    let l = c.loop-stated in
    let all = c.args.file.now.sysmods.items in
    let s = c.stated-item.result in
    let next = take_more all l.stated-index s (omega (arith, ap length c.deref-stated-items.ensures.value))
    ∙ ap (λ u. take l.stated-index all ++ u ∷ []) (sym (rw c.deref-stated-items.ensures.value at c.stated-item.is)) in
    subst (λ ss. AreStated ss c.append.new.self.items) (sym next)
    (subst (AreStated _) (sym c.in_ok-append.ensures.items)
    (stated_next _ l.sysmods.items s c.in_ok-known.known.items l.invariant c.in_ok-known.ensures))

pub returns-clause-stated : goal.returns-clause-stated
returns-clause-stated c =
    subst (λ ss. AreStated ss c.loop-stated.sysmods.items) (take_all c.loop-stated.stated-index
    c.args.file.now.sysmods.items (omega (arith, ap length c.deref-stated-items.ensures.value))) c.loop-stated.invariant
