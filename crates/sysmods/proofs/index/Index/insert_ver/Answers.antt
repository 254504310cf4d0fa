use Rattle.std.proofs.Common.{ap, ◌∙◌, map}
use Rattle.terms.specs.Lookups.{at_most_one}
use Rattle.sysmods.specs.Index.{Grows}
use Rattle.sysmods.proofs.Indexed.{grows_same, grows_then, has_all_ver, carried}
use Rattle.sysmods.proofs.index.Index.insert_ver.Goals as goal

pub returns-clause-has : goal.returns-clause-has
returns-clause-has c =
    let end = c.insert_fmid.new.self.sets in
    let g : Grows c.insert_functions.new.self.sets end = c.in_ok-insert_fmid.ensures.grows in
    let h : Grows c.insert_all-3.new.self.sets end = grows_then c.insert_all-3.new.self.sets
    c.insert_functions.new.self.sets end
    c.in_ok-insert_functions.ensures.grows g in
    let i : Grows c.insert_all-2.new.self.sets end = grows_then c.insert_all-2.new.self.sets
    c.insert_all-3.new.self.sets end
    c.in_ok-insert_all-3.ensures.grows h in
    let j : Grows c.insert_all.new.self.sets end = grows_then c.insert_all.new.self.sets c.insert_all-2.new.self.sets
    end
    c.in_ok-insert_all-2.ensures.grows i in
    has_all_ver end c.args.namer c.args.ver.now
    (carried c.insert_all.new.self.sets end c.args.namer c.as_slice.result.now c.args.ver.now.pre j
    (c.as_slice.ensures.items ∙ ap (λ v. v.pre) c.ver.view_is) c.in_ok-insert_all.ensures.has)
    (carried c.insert_all-2.new.self.sets end c.args.namer c.as_slice-2.result.now c.args.ver.now.sup i
    (c.as_slice-2.ensures.items ∙ ap (λ v. v.sup) c.ver.view_is) c.in_ok-insert_all-2.ensures.has)
    (carried c.insert_all-3.new.self.sets end c.args.namer c.as_slice-3.result.now c.args.ver.now.del h
    (c.as_slice-3.ensures.items ∙ ap (λ v. v.del) c.ver.view_is) c.in_ok-insert_all-3.ensures.has)
    (carried c.insert_functions.new.self.sets end c.args.namer (map (λ i. i.function) c.as_slice-4.result.now)
    (map (λ i. i.function) c.args.ver.now.ifs) g (ap (map (λ i. i.function))
    (c.as_slice-4.ensures.value ∙ ap (λ v. v.ifs) c.ver.view_is)) c.in_ok-insert_functions.ensures.has)
    (carried end end c.args.namer (at_most_one c.ver.inside.fmid) (at_most_one c.args.ver.now.fmid) (grows_same end)
    (ap (λ v. at_most_one v.fmid) c.ver.view_is) c.in_ok-insert_fmid.ensures.has)
