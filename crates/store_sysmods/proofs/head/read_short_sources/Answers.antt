use Rattle.std.proofs.Common.{◌≡◌, true, false, sym, subst}
use Rattle.store_schema.specs.Rows.{joined}
use Rattle.store_schema.proofs.Spelled.{ids_same, sources_are_words}
use Rattle.store_sysmods.specs.Heads.{AreShort}
use Rattle.store_sysmods.proofs.head.read_short_sources.Goals as goal

pub returns-then-not-are_short-clause-none : goal.returns-then-not-are_short-clause-none
returns-then-not-are_short-clause-none c bad names rest sorted short same =
    let read = c.in_ok-names.ensures.read in
    let spelled : joined names ≡ joined c.in_ok-names.names = let first = read.0 in cc in
    let one : names ≡ c.in_ok-names.names = ids_same names c.in_ok-names.names (sources_are_words names sorted)
    (sources_are_words c.in_ok-names.names read.1) spelled in
    let told : c.are_short.result ≡ true = c.are_short.ensures.1
    (rw c.as_slice.ensures.items (subst AreShort one short))
    in
    let not_told : c.are_short.result ≡ false = c.if-not-are_short.true in
    absurd cc
