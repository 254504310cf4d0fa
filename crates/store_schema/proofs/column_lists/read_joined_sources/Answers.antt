use Rattle.std.proofs.Common.{◌≡◌, map, sym, ap, ◌∙◌}
use Rattle.std.specs.List.{join_with_byte}
use Rattle.store_rows.proofs.InsideLemmas.{if_ok}
use Rattle.store_schema.proofs.Spelled.{sources_are_words}
use Rattle.store_schema.specs.Parts.{parts_of}
use Rattle.store_schema.proofs.PartLemmas.{joined_parts, parts_joined}
use Rattle.store_schema.proofs.column_lists.read_joined_sources.Goals as goal

pub returns-clause-read : goal.returns-clause-read
returns-clause-read c =
    let parts : map (λ part. part.now) c.deref.result.now ≡ parts_of c.args.text.now =
    rw c.deref.ensures.value c.in_ok-parts.ensures in
    if_ok c.read_sources.result _ _ (λ list read. (
      sym (joined_parts c.args.text.now) ∙ ap (join_with_byte 44) (sym (read.0 ∙ parts)),
      read.1,
    )) c.read_sources.ensures.some

pub returns-clause-none : goal.returns-clause-none
returns-clause-none c bad list listed same =
    let parts : map (λ part. part.now) c.deref.result.now ≡ list =
    rw c.deref.ensures.value (c.in_ok-parts.ensures ∙ ap parts_of same
    ∙ parts_joined list (sources_are_words list listed)) in
    c.read_sources.ensures.none bad (rw parts listed)
