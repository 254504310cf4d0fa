use Rattle.std.proofs.Common.{◌≡◌, true, All, subst, sym}
use Rattle.terms.specs.Types.{Change, Global}
use Rattle.terms.specs.Lookups.{changes_of, has_change}
use Rattle.sysmods.specs.Choices.{choice}
use Rattle.stream.proofs.Kept.{has_from, elements_from}
use Rattle.stream.proofs.keeping.Suspects.keeps.Goals as goal

pub returns : goal.returns
returns c on there =
    let vers = c.args.self.now.vers.now in
    record {
      requisites = has_from (choice vers) c.args.x c.args.y c.in-Some-ver.ver.now c.in-Some.other.now
          (sym c.in-Some-ver.ensures) (sym c.in-Some.ensures) (c.has_requisites_of.ensures c.if-not-has_requisites_of.false);
      elements = elements_from vers.global.now c.args.x c.args.y
          (subst (λ (g : Global). All (λ (h : Change). has_change g c.args.x h.elem_type h.name ≡ true)
          (changes_of g c.args.y)) c.global.ensures (c.changes_all_of.ensures on));
    }
