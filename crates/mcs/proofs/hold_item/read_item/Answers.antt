use Rattle.std.proofs.Common.{◌≡◌, length, rules, ap}
use Rattle.std.proofs.lemmas.List.{nil_from_length}
use Rattle.std.proofs.lemmas.Result.{err_from_is_err_and}
use Rattle.mcs.specs.KnownWords.{parts_of}
use Rattle.mcs.proofs.Printables.{known_printable}
use Rattle.mcs.proofs.HoldJudging.{good_item, bad_item, form_error, may_hold, may_release, text_behind, misplaced}
use Rattle.mcs.proofs.hold_item.read_item.Goals as goal

pub returns-then-not-is_empty-clause-fault : goal.returns-then-not-is_empty-clause-fault
returns-then-not-is_empty-clause-fault c = λ printable.
    let k = c.in_ok-known.ensures.ok in
    let some : length c.in_ok-known.known.inline.now ≡ 0 → ⊥ = search rules in
    misplaced c.args.group.now.records.now (parts_of c.in_ok-known.known k.0) k.1
    (text_behind c.in_ok-known.known.word c.in_ok-known.known.inline.now (λ e. some (ap length e)))

pub returns-in-Hold-clause-good : goal.returns-in-Hold-clause-good
returns-in-Hold-clause-good c =
    let k = c.in_ok-known.ensures.ok in
    let none : length c.in_ok-known.known.inline.now ≡ 0 = search rules in
    good_item c.args.group.now.records.now (parts_of c.in_ok-known.known k.0) c.hold_item.result k.1
    (may_hold c.in_ok-known.known.word c.in_ok-known.known.inline.now c.in-Hold.is
    (nil_from_length c.in_ok-known.known.inline.now none)) (c.hold_item.ensures.said k.0 k.2)

pub returns-in-Hold-clause-fault : goal.returns-in-Hold-clause-fault
returns-in-Hold-clause-fault c = λ printable.
    let k = c.in_ok-known.ensures.ok in
    let none : length c.in_ok-known.known.inline.now ≡ 0 = search rules in
    bad_item c.args.group.now.records.now (parts_of c.in_ok-known.known k.0) c.hold_item.result k.1
    (may_hold c.in_ok-known.known.word c.in_ok-known.known.inline.now c.in-Hold.is
    (nil_from_length c.in_ok-known.known.inline.now none))
    (c.hold_item.ensures.fault k.0 k.2
    (known_printable c.args.group.now.records.now (parts_of c.in_ok-known.known k.0) printable k.1))

pub returns-in-Release-clause-good : goal.returns-in-Release-clause-good
returns-in-Release-clause-good c =
    let k = c.in_ok-known.ensures.ok in
    let none : length c.in_ok-known.known.inline.now ≡ 0 = search rules in
    good_item c.args.group.now.records.now (parts_of c.in_ok-known.known k.0) c.release_item.result k.1
    (may_release c.in_ok-known.known.word c.in_ok-known.known.inline.now c.in-Release.is
    (nil_from_length c.in_ok-known.known.inline.now none)) (c.release_item.ensures.said k.0 k.2)

pub returns-in-Release-clause-fault : goal.returns-in-Release-clause-fault
returns-in-Release-clause-fault c = λ printable.
    let k = c.in_ok-known.ensures.ok in
    let none : length c.in_ok-known.known.inline.now ≡ 0 = search rules in
    bad_item c.args.group.now.records.now (parts_of c.in_ok-known.known k.0) c.release_item.result k.1
    (may_release c.in_ok-known.known.word c.in_ok-known.known.inline.now c.in-Release.is
    (nil_from_length c.in_ok-known.known.inline.now none)) (c.release_item.ensures.fault k.0 k.2)

pub returns-in_err-known-clause-fault : goal.returns-in_err-known-clause-fault
returns-in_err-known-clause-fault c = λ printable.
    let p = err_from_is_err_and c.from_residual.result c.from_residual.ensures.1 in
    rw (p.1, p.2) (form_error c.args.group.now.records.now c.in_err-known.field-0.0 c.in_err-known.ensures.fault)
