use Rattle.std.proofs.Common.{◌∙◌, ap}
use Rattle.std.specs.List.{list_any}
use Rattle.terms.specs.Operands.{is_often}
use Rattle.rec80.proofs.Naming.{texts_of, texts_are}
use Rattle.rec80.proofs.operands.Operands.has_twice.Goals as goal

pub returns : goal.returns
returns c = λ pieces r.
    c.any_twice.ensures
    ∙ ap (λ texts. list_any (λ name. is_often 2 texts name.now) c.args.names.now)
    (ap texts_of c.as_slice.ensures.value ∙ texts_are c.args.self.now.words.items pieces r.words_are)
