-- Elements whose operands can be dropped.
use Rattle.std.proofs.Common.{◌≡◌, Bool, true, false, [], sym, subst, ◌∙◌}
use Rattle.std.specs.Prelude.{All, IsTrue}
use Rattle.std.proofs.lemmas.Bool.{true≢false}
use Rattle.std.proofs.lemmas.List.Elements.{All-nil}
use Rattle.intake_read.specs.declared.items.WideElement.{WideElement}
use Rattle.intake_elements.specs.Elements.{IsHarmless, IsNoModuleFault, LacksNothing}

pub all_read : (decide : Bool) (e : WideElement) → All (IsHarmless decide) e.operands.items → e.faulty.items ≡ []
    → LacksNothing decide e
all_read decide e harmless none = record {
  harmless = harmless;
  read = λ no. none;
  modules_read = subst (All IsNoModuleFault) (sym none) (All-nil IsNoModuleFault);
}

pub modules_read : (decide : Bool) (e : WideElement) → IsTrue decide → All (IsHarmless decide) e.operands.items
    → All IsNoModuleFault e.faulty.items → LacksNothing decide e
modules_read decide e asked harmless faulty = record {
  harmless = harmless;
  read = λ no. absurd (true≢false (sym asked ∙ no));
  modules_read = faulty;
}
