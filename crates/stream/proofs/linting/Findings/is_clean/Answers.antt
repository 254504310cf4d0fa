use Rattle.terms.specs.Stream.{ver_for}
use Rattle.stream.proofs.Clean.{clean_from, none_lost_requisite, none_lost_element, none_unordered_there}
use Rattle.stream.proofs.linting.Findings.is_clean.Goals as goal

pub returns : goal.returns
returns c g srel tell =
    let found = c.args.self.now in
    let by = ver_for g srel in (
      λ on. let none = c.is_empty.ensures.0 on in clean_from g by found tell none.0 none.1 none.2,
      λ clean. c.is_empty.ensures.1 (
        none_lost_requisite g by found tell clean,
        none_lost_element g by found tell clean,
        none_unordered_there g by found tell clean,
      ),
    )
