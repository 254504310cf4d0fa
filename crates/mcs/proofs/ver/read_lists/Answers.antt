use Rattle.std.specs.Prelude.{List, codes}
use Rattle.std.proofs.lemmas.Result.{err_from_is_err_and}
use Rattle.terms.specs.Types.{Id}
use Rattle.terms.specs.Forms.{IsId}
use Rattle.terms.specs.Operands.{operand, HasTexts}
use Rattle.mcs.specs.VerOperands.{HasLists}
use Rattle.rec80.specs.Views.{words_of}
use Rattle.rec80.proofs.Failing.{excludes_more}
use Rattle.mcs.proofs.ver.read_lists.Goals as goal

pub returns-in_err-pre-clause-bad : goal.returns-in_err-pre-clause-bad
returns-in_err-pre-clause-bad c =
    let ws = words_of c.args.words.now in
    let p = err_from_is_err_and c.from_residual.result c.from_residual.ensures.1 in
    let One : Type 0 = (ids : List Id) × HasTexts IsId (operand (codes "PRE") ws) ids in
    let All : Type 0 = (pre req sup npre del : List Id) × HasLists ws pre req sup npre del in
    let pick : All → One = λ l. (l.0, l.5.has_pre) in
    rw (p.1, p.2) (excludes_more c.in_err-pre.field-0.0 One All pick c.in_err-pre.ensures.bad)

pub returns-in_err-req-clause-bad : goal.returns-in_err-req-clause-bad
returns-in_err-req-clause-bad c =
    let ws = words_of c.args.words.now in
    let p = err_from_is_err_and c.from_residual-in_err-req.result c.from_residual-in_err-req.ensures.1 in
    let One : Type 0 = (ids : List Id) × HasTexts IsId (operand (codes "REQ") ws) ids in
    let All : Type 0 = (pre req sup npre del : List Id) × HasLists ws pre req sup npre del in
    let pick : All → One = λ l. (l.1, l.5.has_req) in
    rw (p.1, p.2) (excludes_more c.in_err-req.field-0.0 One All pick c.in_err-req.ensures.bad)

pub returns-in_err-sup-clause-bad : goal.returns-in_err-sup-clause-bad
returns-in_err-sup-clause-bad c =
    let ws = words_of c.args.words.now in
    let p = err_from_is_err_and c.from_residual-in_err-sup.result c.from_residual-in_err-sup.ensures.1 in
    let One : Type 0 = (ids : List Id) × HasTexts IsId (operand (codes "SUP") ws) ids in
    let All : Type 0 = (pre req sup npre del : List Id) × HasLists ws pre req sup npre del in
    let pick : All → One = λ l. (l.2, l.5.has_sup) in
    rw (p.1, p.2) (excludes_more c.in_err-sup.field-0.0 One All pick c.in_err-sup.ensures.bad)

pub returns-in_err-npre-clause-bad : goal.returns-in_err-npre-clause-bad
returns-in_err-npre-clause-bad c =
    let ws = words_of c.args.words.now in
    let p = err_from_is_err_and c.from_residual-in_err-npre.result c.from_residual-in_err-npre.ensures.1 in
    let One : Type 0 = (ids : List Id) × HasTexts IsId (operand (codes "NPRE") ws) ids in
    let All : Type 0 = (pre req sup npre del : List Id) × HasLists ws pre req sup npre del in
    let pick : All → One = λ l. (l.3, l.5.has_npre) in
    rw (p.1, p.2) (excludes_more c.in_err-npre.field-0.0 One All pick c.in_err-npre.ensures.bad)

pub returns-in_err-del-clause-bad : goal.returns-in_err-del-clause-bad
returns-in_err-del-clause-bad c =
    let ws = words_of c.args.words.now in
    let p = err_from_is_err_and c.from_residual-in_err-del.result c.from_residual-in_err-del.ensures.1 in
    let One : Type 0 = (ids : List Id) × HasTexts IsId (operand (codes "DELETE") ws) ids in
    let All : Type 0 = (pre req sup npre del : List Id) × HasLists ws pre req sup npre del in
    let pick : All → One = λ l. (l.4, l.5.has_del) in
    rw (p.1, p.2) (excludes_more c.in_err-del.field-0.0 One All pick c.in_err-del.ensures.bad)
