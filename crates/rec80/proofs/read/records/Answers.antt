use Rattle.std.proofs.Common.{◌%◌, ◌/◌, ◌+◌, arith, rules, length}
use Rattle.std.proofs.lemmas.List.Elements.{All-more}
use Rattle.terms.specs.Records.{IsPrintable, ShortRecord, BadByte}
use Rattle.terms.proofs.ExactFiles.{rec_fault_no_records}
use Rattle.rec80.proofs.Chunks.{whole_part, bad_byte, cut_short, good_file}
use Rattle.rec80.proofs.read.records.Goals as goal

pub loop-i-preserved : goal.loop-i-preserved
loop-i-preserved c =
    All-more IsPrintable c.as_flattened-byte-items.result.now c.loop-i.i 0 (omega arith) c.loop-i.invariant
    (c.is_printable.ensures.0 c.if-not-is_printable.false)

pub returns-then-not-is_printable-clause-fault : goal.returns-then-not-is_printable-clause-fault
returns-then-not-is_printable-clause-fault c =
    let flat_is = whole_part c.args.bytes.now _ _ c.as_chunks.ensures.front c.as_flattened-byte-items.ensures.value in
    bad_byte c.args.bytes.now _ c.loop-i.i flat_is (omega arith) c.loop-i.invariant (λ p. search rules)

pub returns-then-not-is_empty-clause-fault : goal.returns-then-not-is_empty-clause-fault
returns-then-not-is_empty-clause-fault c =
    let flat_is = whole_part c.args.bytes.now _ _ c.as_chunks.ensures.front c.as_flattened-byte-items.ensures.value in
    cut_short c.args.bytes.now _ _ c.loop-i.i flat_is c.loop-i.invariant (omega arith) (λ none. search rules)
    c.as_chunks.ensures.front_len

pub returns-then-not-is_printable-clause-good : goal.returns-then-not-is_printable-clause-good
returns-then-not-is_printable-clause-good c =
    λ records h.
    let flat_is = whole_part c.args.bytes.now _ _ c.as_chunks.ensures.front c.as_flattened-byte-items.ensures.value in
    let bad = bad_byte c.args.bytes.now _ c.loop-i.i flat_is (omega arith) c.loop-i.invariant (λ p. search rules) in
    absurd (rec_fault_no_records c.args.bytes.now (BadByte (c.loop-i.i / 80 + 1) (c.loop-i.i % 80 + 1)) records bad h)

pub returns-then-not-is_empty-clause-good : goal.returns-then-not-is_empty-clause-good
returns-then-not-is_empty-clause-good c =
    λ records h.
    let flat_is = whole_part c.args.bytes.now _ _ c.as_chunks.ensures.front c.as_flattened-byte-items.ensures.value in
    let cut = cut_short c.args.bytes.now _ _ c.loop-i.i flat_is c.loop-i.invariant (omega arith) (λ none. search rules)
    c.as_chunks.ensures.front_len in
    absurd (rec_fault_no_records c.args.bytes.now (ShortRecord (length c.as_chunks.result.0.now + 1)) records cut h)

pub returns-clause-ok : goal.returns-clause-ok
returns-clause-ok c =
    good_file c.args.bytes.now _ _ c.loop-i.i c.as_chunks.ensures.front c.as_flattened-byte-items.ensures.value
    c.loop-i.invariant (omega arith) (search rules)
