use Rattle.std.proofs.Common.{◌≡◌, ◌<◌, ◌∙◌, true, sym, subst, length, rules, arith}
use Rattle.std.specs.Prelude.{All, IsTrue}
use Rattle.sysmods.specs.Graphs.{Marks, is_marked, list_at}
use Rattle.sysmods.proofs.Descents.{all_within, list_is, mark_read, search_on}
use Rattle.sysmods.proofs.descent.mark_successors.Goals as goal

pub mark_numbers-requires : goal.mark_numbers-requires
mark_numbers-requires c =
    let marks = c.args.marks.now.items in
    subst (All (λ n. n < length marks)) (sym c.as_slice.ensures.value)
    (all_within c.args.successors.now c.args.number (length marks) c.index-successors-number.result c.requires.falling
    c.requires.number c.index-successors-number.is (omega (arith, c.requires.marks)))

pub returns : goal.returns
returns c = λ high s.
    let successors = c.args.successors.now in
    let n = c.args.number in
    let old = c.args.marks.now.items in
    let new = c.mark_numbers.new.marks.items in
    let on : c.index.result.now ≡ true = search rules in
    let marked : IsTrue (is_marked old n) = mark_read old n c.index.result.now c.requires.marks c.index.ensures ∙ on in
    let same = c.as_slice.ensures.value
    ∙ sym (list_is successors n c.index-successors-number.result c.requires.number c.index-successors-number.is) in
    search_on (list_at successors) c.requires.falling high n old new marked
    (subst (λ l. Marks l old new) same c.mark_numbers.ensures) s
