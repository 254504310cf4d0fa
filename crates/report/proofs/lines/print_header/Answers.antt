use Rattle.std.proofs.Common.{◌≡◌, refl, rules}
use Rattle.std.specs.Prelude.{option_map}
use Rattle.report.proofs.Paging.{paged_as}
use Rattle.report.proofs.lines.print_header.Goals as goal

pub returns-then-header : goal.returns-then-header
returns-then-header g c =
    let zone_is : option_map (λ t. t.now) c.map.result ≡ c.args.header.now.boundary = search rules in
    rw c.if-header.true
    (paged_as _ _ _ _ _ _ (rw (c.word_text-word.ensures, zone_is) refl) c.print_words.ensures.paged)
