use Rattle.std.proofs.Common.{◌∙◌, sym}
use Rattle.std.proofs.lemmas.Bool.{true≢false}
use Rattle.terms.specs.Ptfin.{sysmod_in}
use Rattle.mcs.specs.KnownWords.{own_list}
use Rattle.mcs.specs.Files.{begun_in}
use Rattle.mcs.proofs.Saying.{header_said, header_excludes}
use Rattle.mcs.proofs.header.header_statement.Goals as goal

pub returns-then-not-is_empty-clause-fault : goal.returns-then-not-is_empty-clause-fault
returns-then-not-is_empty-clause-fault c = λ current rest h.
    header_excludes (sysmod_in (begun_in current)) c.args.known.now.word (own_list c.args.known.now) rest
    c.args.known.now.inline.now c.args.kind c.requires
    (λ id own none. true≢false (sym ((c.is_empty.ensures rest h).1 none) ∙ c.if-not-is_empty.true))

pub returns-in-Some-clause-said : goal.returns-in-Some-clause-said
returns-in-Some-clause-said c = λ current rest h.
    header_said (begun_in current) c.args.known.now.word (own_list c.args.known.now) rest
    c.args.known.now.inline.now c.args.kind c.in-Some.id c.requires c.in-Some.ensures.one
    ((c.is_empty.ensures rest h).0 c.if-not-is_empty.false)

pub returns-in-None-clause-fault : goal.returns-in-None-clause-fault
returns-in-None-clause-fault c = λ current rest h.
    header_excludes (sysmod_in (begun_in current)) c.args.known.now.word (own_list c.args.known.now) rest
    c.args.known.now.inline.now c.args.kind c.requires (λ id own none. c.in-None.ensures.none id own)
