use Rattle.std.proofs.Common.{sym, ap, subst}
use Rattle.std.specs.Prelude.{IsSome}
use Rattle.std.proofs.lemmas.Bool.{true≢false}
use Rattle.sysmods_values.specs.Views.{action_of}
use Rattle.sysmods_values.proofs.Words.{takes_updates}
use Rattle.sysmods_values.proofs.change.ElemChange.word.Goals as goal

pub unreachable-requires : goal.unreachable-requires
unreachable-requires c =
    let takes = takes_updates c.self.inside.elem_type c.self.inside.name _ _ (ap action_of c.in-Updates.is)
    c.self.invariant in
    true≢false (sym (subst IsSome c.in-None.is (c.update_word.ensures.some.1 takes)))
