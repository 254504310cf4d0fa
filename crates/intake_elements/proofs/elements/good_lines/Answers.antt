use Rattle.intake_elements.proofs.elements.good_lines.Goals as goal

pub returns-clause-records : goal.returns-clause-records
returns-clause-records c =
    let kept = c.without_blank_end_if_numbered-text_cards in
    (kept.result.now, kept.ensures, rw c.in-Some.is at c.in_ok-lines.ensures.records)
