use Rattle.std.proofs.Common.{◌∙◌, ◌++◌, ◌∷◌, [], ap, sym, inl, inr}
use Rattle.intake_asked.proofs.known.read_first_line.Goals as goal

pub returns-then-is_rule : goal.returns-then-is_rule
returns-then-is_rule c = inl (inl (sym c.is_rule.ensures ∙ c.if-is_rule.true, c.new-sysmods.ensures.items))

pub returns-in_default : goal.returns-in_default
returns-in_default c = inr (c.new-sysmods.ensures.items, rw c.in_default.is at c.in_ok-sysmod.ensures.none)

pub returns : goal.returns
returns c =
    inl (inr (
      c.in-Some.sysmod,
      c.in_ok-push.ensures.items ∙ ap (λ l. l ++ c.in-Some.sysmod ∷ []) c.new-sysmods.ensures.items,
      rw c.in-Some.is at c.in_ok-sysmod.ensures.some,
    ))
