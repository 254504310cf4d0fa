use Rattle.std.proofs.Common.{[], ◌∷◌, refl, ◌∙◌, sym, ap, subst, append_assoc}
use Rattle.cntl.specs.Walks.{IsAt, is_inner}
use Rattle.cntl.proofs.Walking.{run_more}
use Rattle.cntl.proofs.run_state.RunState.after.Goals as goal

pub returns-then-is_part_of_word : goal.returns-then-is_part_of_word
returns-then-is_part_of_word c = λ run some is ends.
    run_more c.args.name.now c.args.self.now c.step_in_name.result run c.args.byte (ap is_inner c.in-Part.is)
    c.step_in_name.ensures.outer (sym c.is_part_of_word.ensures ∙ c.if-is_part_of_word.true)
    (c.step_in_name.ensures.at c.args.name.now run (subst (λ at. IsAt c.args.name.now at run) c.in-Part.is is))

pub returns-then-is_part_of_word-2 : goal.returns-then-is_part_of_word-2
returns-then-is_part_of_word-2 c = λ run some is ends.
    let other = subst (λ at. IsAt c.args.name.now at run) c.in-Other.is is in
    run_more c.args.name.now c.args.self.now _ run c.args.byte (ap is_inner c.in-Other.is) refl
    (sym c.is_part_of_word-in-Other.ensures ∙ c.if-is_part_of_word-2.true)
    (λ left e. other (c.args.byte ∷ left) (sym (append_assoc run (c.args.byte ∷ []) left) ∙ e))
