use Rattle.std.proofs.Common.{◌∙◌, Some, sym, refl}
use Rattle.std.proofs.lemmas.Bool.{true≢false}
use Rattle.terms.specs.Statements.{SaysChange}
use Rattle.terms.specs.Ptfin.{sysmod_in}
use Rattle.std.proofs.lemmas.Result.{err_from_is_err_and}
use Rattle.mcs.specs.KnownWords.{own_list}
use Rattle.mcs.specs.Files.{begun_of}
use Rattle.mcs.proofs.Changing.{an_update, update_value, no_update, update_fault, update_from}
use Rattle.mcs.proofs.change.update_statement.Goals as goal

pub returns-then-not-is_empty-clause-fault : goal.returns-then-not-is_empty-clause-fault
returns-then-not-is_empty-clause-fault c = λ rest h.
    no_update (sysmod_in (Some (begun_of c.args.begun.now))) c.args.known.now.word (own_list c.args.known.now) rest
    c.args.known.now.inline.now c.args.elem_type c.requires
    (λ name own none. true≢false (sym ((c.is_empty.ensures rest h).1 none) ∙ c.if-not-is_empty.true))

pub returns-in_default-clause-fault : goal.returns-in_default-clause-fault
returns-in_default-clause-fault c = λ rest h.
    no_update (sysmod_in (Some (begun_of c.args.begun.now))) c.args.known.now.word (own_list c.args.known.now) rest
    c.args.known.now.inline.now c.args.elem_type c.requires (λ name own none. c.in_default.ensures.none name own)

pub returns-then-not-is_within_limits-clause-fault : goal.returns-then-not-is_within_limits-clause-fault
returns-then-not-is_within_limits-clause-fault c = λ rest h.
    let inline = c.args.known.now.inline.now in
    let end = (c.is_empty.ensures rest h).0 c.if-not-is_empty.false in (
      SaysChange (an_update c.args.elem_type c.in-Some.name inline),
      update_value (sysmod_in (Some (begun_of c.args.begun.now))) c.args.known.now.word (own_list c.args.known.now) rest
          inline inline c.args.elem_type c.in-Some.name c.requires end c.in-Some.ensures.one refl,
      λ within. true≢false (sym (c.is_within_limits.ensures.1 within) ∙ c.if-not-is_within_limits.true),
    )

pub returns-in_err-update-clause-fault : goal.returns-in_err-update-clause-fault
returns-in_err-update-clause-fault c = λ rest h.
    let p = err_from_is_err_and c.from_residual.result c.from_residual.ensures.1 in
    let inline = c.args.known.now.inline.now in
    let end = (c.is_empty.ensures rest h).0 c.if-not-is_empty.false in
    let value = update_value (sysmod_in (Some (begun_of c.args.begun.now))) c.args.known.now.word
    (own_list c.args.known.now) rest inline inline c.args.elem_type c.in-Some.name c.requires end
    c.in-Some.ensures.one refl in
    rw (p.1, p.2) (update_fault (Some (begun_of c.args.begun.now)) c.args.known.now.word (own_list c.args.known.now)
    rest inline c.args.elem_type c.in-Some.name c.in_err-update.field-0.0 c.requires c.in_err-update.ensures.bad value
    (c.is_within_limits.ensures.0 c.if-not-is_within_limits.false))

pub returns-clause-said : goal.returns-clause-said
returns-clause-said c = λ rest h.
    let inline = c.args.known.now.inline.now in
    let end = (c.is_empty.ensures rest h).0 c.if-not-is_empty.false in record {
      value = update_value (sysmod_in (Some (begun_of c.args.begun.now))) c.args.known.now.word
          (own_list c.args.known.now) rest inline c.in_ok-update.update c.args.elem_type c.in-Some.name c.requires end
          c.in-Some.ensures.one c.in_ok-update.ensures.text;
      within = c.is_within_limits.ensures.0 c.if-not-is_within_limits.false;
      text = rw c.in_ok-update.ensures.text (update_from c.args.known.now.word c.args.elem_type c.in-Some.name inline
          c.requires c.in_ok-update.ensures.good);
    }
