use Rattle.std.proofs.Common.{◌<◌, length, refl, arith}
use Rattle.std.proofs.lemmas.List.Elements.{All-contains}
use Rattle.std.proofs.lemmas.Option.{slice_get_read}
use Rattle.solve.specs.NeedView.{numbered}
use Rattle.smpe_certificate.proofs.Searching.{need_at, same_length}
use Rattle.smpe_certificate.proofs.Stating.{stated_at}
use Rattle.smpe_certificate.proofs.served.served_fact.Goals as goal

pub returns-clause-some : goal.returns-clause-some
returns-clause-some c =
    let j = c.args.judged.now in
    let keys = j.ids.keys in
    let needs = c.needs.result.now in
    let place = c.args.place in
    let n = c.index-needs-place.result in
    let below : place < length needs = omega (
      arith,
      c.requires.place,
      same_length needs j.system.needs c.needs.ensures.needs,
    ) in
    let valid = rw (← c.index-needs-place.is) at (c.needs.ensures.valid place n below) in
    let some = rw c.deref.ensures.value at c.in_ok-by.ensures.some in
    let of_below : n.of < length keys = omega (arith, valid.of, c.requires.parts.size) in
    let by_below : c.in_ok-by.by < length keys = omega (
      arith,
      All-contains (λ k. k < j.system.size) n.any.items c.in_ok-by.by valid.any some.0,
      c.requires.parts.size,
    ) in
    record {
      need = numbered n;
      at = need_at needs j.system.needs place n c.needs.ensures.needs below c.index-needs-place.is;
      stated = stated_at j.needs.items place c.item_at-stated.result
          (rw c.as_slice.ensures.value at c.item_at-stated.ensures);
      kept = c.if-not-kept-need.false;
      id = slice_get_read keys (length keys) n.of c.index-ids-need.result refl of_below
          (rw c.as_slice-ids.ensures.keys at c.index-ids-need.is);
      server = c.in_ok-by.by;
      serves = some.0;
      server_kept = some.1;
      by = slice_get_read keys (length keys) c.in_ok-by.by c.index-ids-by.result refl by_below
          (rw c.as_slice-ids.ensures.keys at c.index-ids-by.is);
    }
