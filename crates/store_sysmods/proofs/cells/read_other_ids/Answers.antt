use Rattle.std.proofs.Common.{◌≡◌, true, refl, sym, ◌∙◌}
use Rattle.terms.specs.Lookups.{is_in}
use Rattle.terms.proofs.Ids.{is_in_from_Contains}
use Rattle.store_schema.specs.Rows.{joined}
use Rattle.store_sysmods.proofs.CellLemmas.{own_id}
use Rattle.store_sysmods.proofs.cells.read_other_ids.Goals as goal

pub returns-then-contains-clause-none : goal.returns-then-contains-clause-none
returns-then-contains-clause-none c bad list rest others same =
    let read = c.in_ok-list.ensures.read in
    let one : joined c.in_ok-list.list ≡ joined list = let first = read.0 in cc in
    own_id c.args.id c.in_ok-list.list list _ refl read.1 (sym c.contains.ensures ∙ c.if-contains.true) others one

pub returns-clause-read : goal.returns-clause-read
returns-clause-read c = (
  c.in_ok-list.ensures.read.0,
  record {
    listed = c.in_ok-list.ensures.read.1;
    others = λ there. absurd (let yes : is_in c.in_ok-list.list c.args.id ≡ true =
        is_in_from_Contains c.in_ok-list.list c.args.id there in
        let contains = c.contains.ensures in
        let no = c.if-contains.false in
        cc);
  },
)
