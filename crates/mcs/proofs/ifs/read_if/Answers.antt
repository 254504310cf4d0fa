use Rattle.std.proofs.Common.{◌≡◌, ◌∙◌, sym, ap, true, false, List}
use Rattle.std.proofs.lemmas.Bool.{true≢false}
use Rattle.terms.specs.Types.{Id, IfReq, Sysmod}
use Rattle.terms.specs.Forms.{IsId}
use Rattle.terms.specs.Lookups.{is_in}
use Rattle.terms.specs.Operands.{HasSorted}
use Rattle.terms.specs.Statements.{IsIfOf}
use Rattle.terms.proofs.Ids.{is_in_from_Contains, Contains_from_is_in}
use Rattle.rec80.specs.Cursors.{text_of}
use Rattle.rec80.specs.Views.{word_of, words_of}
use Rattle.std.proofs.lemmas.Result.{err_from_is_err_and}
use Rattle.mcs.specs.KnownWords.{own_list}
use Rattle.rec80.proofs.Failing.{excludes_more}
use Rattle.mcs.proofs.Ending.{no_list}
use Rattle.terms.proofs.Options.{map_not_none}
use Rattle.mcs.proofs.Conditions.{function_of, ids_of, ids_are, if_is}
use Rattle.mcs.proofs.ifs.read_if.Goals as goal

pub returns-then-is_some-clause-bad : goal.returns-then-is_some-clause-bad
returns-then-is_some-clause-bad c = λ x.
    map_not_none c.args.known.now.first.list text_of (sym c.is_some.ensures ∙ c.if-is_some.true) x.1.no_list

pub returns-in_default-clause-bad : goal.returns-in_default-clause-bad
returns-in_default-clause-bad c = λ x. c.in_default.ensures.none x.1.fmid x.1.req x.1.fmid_word x.1.req_word
    x.1.are_operands

pub returns-in_default-one-clause-bad : goal.returns-in_default-one-clause-bad
returns-in_default-one-clause-bad c = λ x.
    c.in_default-one.ensures.none x.0.function (function_of c.args.sysmod.now (own_list c.args.known.now)
    (words_of c.args.words.now) x.0 (word_of c.in-Some.lists.fmid) (word_of c.in-Some.lists.req) x.1
    c.in-Some.ensures.some.0)

pub returns-in_err-req-clause-bad : goal.returns-in_err-req-clause-bad
returns-in_err-req-clause-bad c =
    let p = err_from_is_err_and c.from_residual.result c.from_residual.ensures.1 in
    let own = own_list c.args.known.now in
    let ws = words_of c.args.words.now in
    let All : Type 0 = (i : IfReq) × IsIfOf c.args.sysmod.now own ws i in
    let One : Type 0 = (ids : List Id) × HasSorted IsId (word_of c.in-Some.lists.req) ids in
    let pick : All → One = λ x. (
      x.0.req,
      ids_of c.args.sysmod.now own ws x.0 (word_of c.in-Some.lists.fmid) (word_of c.in-Some.lists.req) x.1
          c.in-Some.ensures.some.0,
    ) in
    rw (p.1, p.2) (excludes_more c.in_err-req.field-0.0 One All pick c.in_err-req.ensures.bad)

pub returns-then-contains-clause-bad : goal.returns-then-contains-clause-bad
returns-then-contains-clause-bad c = λ x.
    let same = ids_are c.args.sysmod.now (own_list c.args.known.now) (words_of c.args.words.now) x.0
    (word_of c.in-Some.lists.fmid) (word_of c.in-Some.lists.req) c.in_ok-req.req x.1 c.in-Some.ensures.some.0
    c.in_ok-req.ensures.sorted in
    let own : c.sysmod.inside.id ≡ c.args.sysmod.now.id = ap (λ (s : Sysmod). s.id) c.sysmod.view_is in
    let there : is_in c.in_ok-req.req c.sysmod.inside.id ≡ true = sym c.contains.ensures ∙ c.if-contains.true in
    x.1.others (Contains_from_is_in x.0.req c.args.sysmod.now.id
    (ap (λ ids. is_in ids c.args.sysmod.now.id) same ∙ ap (is_in c.in_ok-req.req) (sym own) ∙ there))

pub returns-clause-ok : goal.returns-clause-ok
returns-clause-ok c =
    let l = c.in-Some.ensures.some in
    let own : c.sysmod.inside.id ≡ c.args.sysmod.now.id = ap (λ (s : Sysmod). s.id) c.sysmod.view_is in
    let free : is_in c.in_ok-req.req c.sysmod.inside.id ≡ false = sym c.contains.ensures ∙ c.if-contains.false in
    if_is c.args.sysmod.now (own_list c.args.known.now) (words_of c.args.words.now) (word_of c.in-Some.lists.fmid)
    (word_of c.in-Some.lists.req) (record { function = c.in-Some-one.function; req = c.in_ok-req.req })
    (no_list c.args.known.now.first.list text_of (sym c.is_some.ensures ∙ c.if-is_some.false)) l.1 l.2 l.0
    c.in-Some-one.ensures.one c.in_ok-req.ensures.sorted
    (λ there. true≢false (sym (is_in_from_Contains c.in_ok-req.req c.args.sysmod.now.id there)
    ∙ ap (is_in c.in_ok-req.req) (sym own) ∙ free))
