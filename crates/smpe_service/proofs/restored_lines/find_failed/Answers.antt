use Rattle.std.proofs.Common.{rules, ◌∙◌, sym, ap, Some}
use Rattle.std.specs.Cmp.Lexicographic.{texts_ties}
use Rattle.std.specs.Str.{bytes_eq}
use Rattle.std.proofs.lemmas.Cmp.{nat_list_cmp_total}
use Rattle.std.proofs.lemmas.List.Sorted.{answers_always}
use Rattle.terms.specs.Types.{Id}
use Rattle.terms.proofs.RisingLists.{found_search, missing_search, find_stands, find_parted}
use Rattle.judge_system.specs.declared.failure.Failure.{Failure}
use Rattle.smpe_service.proofs.restored_lines.find_failed.Goals as goal

abbrev id_of : Id × Failure → Id
id_of f = f.0

pub returns-in-Ok : goal.returns-in-Ok
returns-in-Ok c =
    let xs = c.args.failed.now in
    let position = c.binary_search_by_key.ensures.position id_of (answers_always _ _ _ (λ f a r h q. search rules)) in
    let found = found_search nat_list_cmp_total id_of c.args.id xs c.requires c.binary_search_by_key.result
    c.binary_search_by_key.ensures.bound position in
    let at = rw c.in-Ok.is at found in
    ap Some (c.index-failed-place.is ∙ at.1.1.at c.index-failed-place.result)
    ∙ sym (find_stands nat_list_cmp_total id_of bytes_eq texts_ties c.args.id xs c.in-Ok.place at.1.0 c.requires at.1.1)

pub returns-in-Err : goal.returns-in-Err
returns-in-Err c =
    let xs = c.args.failed.now in
    let position = c.binary_search_by_key.ensures.position id_of (answers_always _ _ _ (λ f a r h q. search rules)) in
    let missing = missing_search nat_list_cmp_total id_of c.args.id xs c.requires c.binary_search_by_key.result
    c.binary_search_by_key.ensures.bound position in
    let at = rw c.in-Err.is at missing in
    sym (find_parted nat_list_cmp_total id_of bytes_eq texts_ties c.args.id xs c.in-Err.field-0 at.1)
