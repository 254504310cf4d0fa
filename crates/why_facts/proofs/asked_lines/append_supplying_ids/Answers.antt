use Rattle.std.proofs.Common.{◌++◌, ap, sym}
use Rattle.std.proofs.lemmas.List.{append-nil}
use Rattle.std.specs.Prelude.{codes}
use Rattle.std.proofs.lemmas.Result.{IfOk-equal}
use Rattle.why_facts.specs.FactText.{id_lines}
use Rattle.why_facts.proofs.asked_lines.append_supplying_ids.Goals as goal

pub returns-in-Supplied : goal.returns-in-Supplied
returns-in-Supplied c =
    rw c.in-Supplied.is (IfOk-equal c.append_id_lines.result c.append_id_lines.new.text.items _ _ c.append_id_lines.ensures
    (ap (λ ids. c.args.text.now.items ++ id_lines (codes "SUPPLIER") ids) c.as_slice.ensures.value))

pub returns-in-Waived : goal.returns-in-Waived
returns-in-Waived c = rw c.in-Waived.is (sym (append-nil c.args.text.now.items))

pub returns-in-ByItself : goal.returns-in-ByItself
returns-in-ByItself c = rw c.in-ByItself.is (sym (append-nil c.args.text.now.items))

pub returns-in-Open : goal.returns-in-Open
returns-in-Open c =
    rw c.in-Open.is (IfOk-equal c.append_id_lines-in-Open.result c.append_id_lines-in-Open.new.text.items _ _
    c.append_id_lines-in-Open.ensures
    (ap (λ ids. c.args.text.now.items ++ id_lines (codes "CANDIDATE") ids) c.as_slice-in-Open.ensures.items))
