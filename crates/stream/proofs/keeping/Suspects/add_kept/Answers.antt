use Rattle.std.proofs.Common.{[], ◌∷◌, List, sym, subst}
use Rattle.sysmods.specs.Choices.{choice}
use Rattle.sysmods.specs.Seen.{AddsAll}
use Rattle.sysmods.proofs.Growth.{adds_none, adds_insert}
use Rattle.terms.specs.Types.{Id}
use Rattle.stream.proofs.Kept.{kept_added, kept_one, kept_through}
use Rattle.stream.proofs.keeping.Suspects.add_kept.Goals as goal

pub returns : goal.returns
returns c was =
    let vers = c.args.self.now.vers.now in
    let g = vers.global.now in
    let by = choice vers in
    let x = c.args.x in
    let y = c.args.y in
    let old = c.args.kept.now.keys in
    let middle = c.insert.new.self.keys in
    let keeps = c.keeps.ensures c.if-not-keeps.false in
    let first : AddsAll old (y ∷ []) middle =
    subst (AddsAll old (y ∷ [])) (sym c.in_ok-insert.ensures.keys) (adds_insert old [] old y (adds_none old)) in
    kept_added g by x middle c.in_ok-more.more.items c.insert_all.new.kept.keys
    (subst (λ (l : List Id). AddsAll middle l c.insert_all.new.kept.keys) c.as_slice.ensures.value
    c.in_ok-insert_all.ensures)
    (kept_added g by x old (y ∷ []) middle first was (kept_one g by x y keeps))
    (kept_through vers x y c.in_ok-more.more.items keeps c.in_ok-more.ensures)
