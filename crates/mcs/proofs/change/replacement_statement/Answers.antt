use Rattle.std.proofs.Common.{◌∙◌, Some, sym, ap, refl}
use Rattle.std.proofs.lemmas.Bool.{true≢false}
use Rattle.terms.specs.Statements.{changed_type, SaysChange}
use Rattle.terms.specs.Ptfin.{sysmod_in}
use Rattle.std.proofs.lemmas.Result.{err_from_is_err_and}
use Rattle.mcs.specs.Files.{begun_of}
use Rattle.mcs.specs.KnownWords.{own_list}
use Rattle.mcs.proofs.Saying.{change_excludes}
use Rattle.mcs.proofs.Changing.{a_change, change_value, names_excluded, text_fault, replacement_fits}
use Rattle.mcs.proofs.change.replacement_statement.Goals as goal

pub returns-in_default-clause-fault : goal.returns-in_default-clause-fault
returns-in_default-clause-fault c = λ rest h.
    change_excludes (sysmod_in (Some (begun_of c.args.begun.now))) c.args.known.now.word (own_list c.args.known.now)
    rest c.args.known.now.inline.now c.args.elem_type (ap changed_type c.requires)
    (λ ws ch hw r. names_excluded c.args.known.now.word (own_list c.args.known.now) ws c.args.known.now.inline.now
    c.args.elem_type ch c.requires
    (λ name distlib syslib n. c.in_default.ensures.none rest h ws name distlib syslib hw n) r)

pub returns-then-not-is_within_limits-clause-fault : goal.returns-then-not-is_within_limits-clause-fault
returns-then-not-is_within_limits-clause-fault c = λ rest h.
    let n = c.in-Some.ensures.some rest h in
    let inline = c.args.known.now.inline.now in (
      SaysChange (a_change c.args.elem_type c.in-Some.names.name c.in-Some.names.distlib c.in-Some.names.syslib inline),
      change_value (sysmod_in (Some (begun_of c.args.begun.now))) c.args.known.now.word (own_list c.args.known.now) rest
          inline inline c.args.elem_type n.0 c.in-Some.names.name c.in-Some.names.distlib c.in-Some.names.syslib
          c.requires n.1 n.2 refl,
      λ within. true≢false (sym (c.is_within_limits.ensures.1 within) ∙ c.if-not-is_within_limits.true),
    )

pub returns-in_err-lines-clause-fault : goal.returns-in_err-lines-clause-fault
returns-in_err-lines-clause-fault c = λ rest h.
    let p = err_from_is_err_and c.from_residual.result c.from_residual.ensures.1 in
    let n = c.in-Some.ensures.some rest h in
    let inline = c.args.known.now.inline.now in
    let value = change_value (sysmod_in (Some (begun_of c.args.begun.now))) c.args.known.now.word
    (own_list c.args.known.now) rest inline inline c.args.elem_type n.0 c.in-Some.names.name c.in-Some.names.distlib
    c.in-Some.names.syslib c.requires n.1 n.2 refl in
    rw (p.1, p.2) (text_fault (Some (begun_of c.args.begun.now)) c.args.known.now.word (own_list c.args.known.now) rest
    inline c.args.elem_type c.in-Some.names.name c.in-Some.names.distlib c.in-Some.names.syslib c.in_err-lines.field-0.0
    c.in_err-lines.ensures.bad value (c.is_within_limits.ensures.0 c.if-not-is_within_limits.false))

pub returns-clause-said : goal.returns-clause-said
returns-clause-said c = λ rest h.
    let n = c.in-Some.ensures.some rest h in
    let inline = c.args.known.now.inline.now in record {
      value = change_value (sysmod_in (Some (begun_of c.args.begun.now))) c.args.known.now.word
          (own_list c.args.known.now) rest inline c.in_ok-lines.lines.items c.args.elem_type n.0 c.in-Some.names.name
          c.in-Some.names.distlib c.in-Some.names.syslib c.requires n.1 n.2 c.in_ok-lines.ensures.text;
      within = c.is_within_limits.ensures.0 c.if-not-is_within_limits.false;
      text = rw c.in_ok-lines.ensures.text ((replacement_fits c.args.elem_type c.in-Some.names.name
          c.in-Some.names.distlib c.in-Some.names.syslib inline).1 c.in_ok-lines.ensures.good);
    }
