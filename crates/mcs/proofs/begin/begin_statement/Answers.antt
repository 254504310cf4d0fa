use Rattle.rec80.specs.Views.{word_of}
use Rattle.mcs.proofs.Beginning.{unknown_end, unknown_bad, unknown_word, known_word}
use Rattle.mcs.proofs.begin.begin_statement.Goals as goal

pub returns-in-Ok-None-clause-fault : goal.returns-in-Ok-None-clause-fault
returns-in-Ok-None-clause-fault c =
    let s = c.in-Ok.ensures.ok in
    unknown_end c.args.group.now.records.now s.0 c.in-Ok.words.inline.now s.1
    (rw c.in-Ok-None.field-0-is at (c.in-Ok-None.ensures.end s.0 s.2))

pub returns-in-Err-clause-fault : goal.returns-in-Err-clause-fault
returns-in-Err-clause-fault c =
    let s = c.in-Ok.ensures.ok in
    unknown_bad c.args.group.now.records.now s.0 c.in-Ok.words.inline.now s.1 (c.in-Err.ensures.bad s.0 s.2)

pub returns-in_default-statement_word-clause-fault : goal.returns-in_default-statement_word-clause-fault
returns-in_default-statement_word-clause-fault c =
    let s = c.in-Ok.ensures.ok in
    let t = rw c.in-Ok-Some.field-0-is at (c.in-Ok-Some.ensures.word s.0 s.2) in
    unknown_word c.args.group.now.records.now s.0 c.in-Ok.words.inline.now (word_of c.in-Ok-Some.first) t.0 s.1 t.1
    c.in_default-statement_word.ensures.none

pub returns-clause-ok : goal.returns-clause-ok
returns-clause-ok c =
    let s = c.in-Ok.ensures.ok in
    let t = rw c.in-Ok-Some.field-0-is at (c.in-Ok-Some.ensures.word s.0 s.2) in (
      t.0,
      known_word c.args.group.now.records.now s.0 c.next_word.new.self.inline.now (word_of c.in-Ok-Some.first) t.0
          c.in-Some.word (rw c.next_word.ensures.inline s.1) t.1 c.in-Some.ensures.found,
      c.in_ok-operands.ensures t.0 t.2,
    )
