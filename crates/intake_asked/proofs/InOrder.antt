-- Commands that are said one after the other.
use Rattle.std.proofs.Common.{◌≡◌, ◌<◌, ◌+◌, ◌||◌, ℕ, Bool, List, ◌∷◌, IsTrue, drop, length, get_or, sym}
use Rattle.std.proofs.Common.{subst, inl, inr, ap, ◌∙◌}
use Rattle.std.proofs.lemmas.List.{drop_more}
use Rattle.terms.specs.Types.{Command}
use Rattle.intake_asked.specs.Known.{known_after}
use Rattle.intake_asked.specs.declared.known.KnownSysmods.{KnownSysmods}
use Rattle.intake_asked.specs.declared.scan.WideCommand.{WideCommand}
use Rattle.intake_asked.specs.Said.{AreSaidAfter, Says, is_no_decision, receives}

module _ (known : KnownSysmods) (received : Bool) (wide : List WideCommand) (i : ℕ) (w : WideCommand) where
  at_here : i < length wide → w ≡ get_or wide i w → w ∷ drop (i + 1) wide ≡ drop i wide
  at_here below is = ap (λ x. x ∷ drop (i + 1) wide) is ∙ sym (drop_more wide i w below)

  -- One that changes no decision is passed over.
  pub passed_over : (commands : List Command) → i < length wide → w ≡ get_or wide i w
      → IsTrue (is_no_decision w.head.name.items) → AreSaidAfter known received (drop (i + 1) wide) commands
      → AreSaidAfter known received (drop i wide) commands
  passed_over commands below is none rest =
      subst (λ ws. AreSaidAfter known received ws commands) (at_here below is) (inl (none, rest))

  -- One is said, and then those after it.
  pub one_said : (commands more : List Command) (c : Command) → i < length wide → w ≡ get_or wide i w
      → commands ≡ c ∷ more → Says (known_after known received) w c
      → AreSaidAfter known (received || receives c) (drop (i + 1) wide) more
      → AreSaidAfter known received (drop i wide) commands
  one_said commands more c below is e says rest =
      subst (λ ws. AreSaidAfter known received ws commands) (at_here below is) (inr (c, more, e, says, rest))
