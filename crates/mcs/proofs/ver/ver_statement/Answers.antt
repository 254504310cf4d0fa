use Rattle.std.proofs.Common.{◌∙◌, Some, sym, refl}
use Rattle.std.proofs.lemmas.Bool.{true≢false}
use Rattle.terms.specs.Statements.{SaysVer}
use Rattle.terms.specs.Ptfin.{sysmod_in}
use Rattle.rec80.specs.Views.{words_of}
use Rattle.std.proofs.lemmas.Result.{err_from_is_err_and}
use Rattle.mcs.specs.KnownWords.{own_list}
use Rattle.mcs.specs.Files.{begun_of}
use Rattle.mcs.proofs.Saying.{ver_excludes}
use Rattle.mcs.proofs.Versions.{ver_error, ver_said, ver_value, ver_within}
use Rattle.mcs.proofs.ver.ver_statement.Goals as goal

pub returns-in_default-clause-fault : goal.returns-in_default-clause-fault
returns-in_default-clause-fault c = λ rest h.
    ver_excludes (sysmod_in (Some (begun_of c.args.begun.now))) c.args.known.now.word (own_list c.args.known.now) rest
    c.args.known.now.inline.now c.requires (λ ws v words i. c.in_default.ensures.none rest h ws words i.are_operands)

pub returns-in_err-ver-clause-fault : goal.returns-in_err-ver-clause-fault
returns-in_err-ver-clause-fault c = λ rest h.
    let p = err_from_is_err_and c.from_residual.result c.from_residual.ensures.1 in
    let b = begun_of c.args.begun.now in
    rw (p.1, p.2) (ver_error (Some b) b c.args.known.now.word (own_list c.args.known.now) rest
    c.args.known.now.inline.now (words_of c.in-Some.words.now) c.in_err-ver.field-0.0 refl c.requires
    (c.in-Some.ensures.words rest h) c.in_err-ver.ensures.bad)

pub returns-then-not-is_within_limits-clause-fault : goal.returns-then-not-is_within_limits-clause-fault
returns-then-not-is_within_limits-clause-fault c = λ rest h.
    let b = begun_of c.args.begun.now in
    let inline = c.args.known.now.inline.now in (
      SaysVer c.in_ok-ver.ver,
      ver_value (Some b) b c.args.known.now.word (own_list c.args.known.now) rest inline
          (words_of c.in-Some.words.now) c.in_ok-ver.ver refl c.requires (c.in-Some.ensures.words rest h)
          c.in_ok-ver.ensures.ok,
      λ within. true≢false (sym (c.is_within_limits.ensures.1
          (ver_within (Some b) b c.in_ok-ver.ver inline refl within)) ∙ c.if-not-is_within_limits.true),
    )

pub returns-clause-said : goal.returns-clause-said
returns-clause-said c = λ rest h.
    let b = begun_of c.args.begun.now in
    ver_said (Some b) b c.args.known.now.word (own_list c.args.known.now) rest c.args.known.now.inline.now
    (words_of c.in-Some.words.now) c.in_ok-ver.ver refl c.requires (c.in-Some.ensures.words rest h)
    c.in_ok-ver.ensures.ok (c.is_within_limits.ensures.0 c.if-not-is_within_limits.false)
