use Rattle.std.proofs.Common.{◌∙◌, ap, sym, subst, Contains}
use Rattle.machine.specs.Installing.{InstallsSelected}
use Rattle.terms.specs.Types.{Selection}
use Rattle.machine_laws.specs.Clear.{selecting}
use Rattle.machine_laws.proofs.AnyDate.{same_lines}
use Rattle.machine_laws.proofs.Decided.{members_only}
use Rattle.machine_laws.proofs.verdicts.prints_same_on_any_date.Goals as goal

pub returns : goal.returns
returns c = λ g zone related bypass ids groupextend is_global sel a date new lines is other b later newer more is'.
    let lists = members_only (Contains ids) sel.select other.select a.rising b.rising a.members b.members in
    let same = a.selection ∙ ap (λ l. selecting l groupextend) lists ∙ sym b.selection in
    same_lines g is_global zone related other bypass date later new newer lines more
    (subst (λ (s : Selection). InstallsSelected g zone related s bypass date new lines) same is) is'
