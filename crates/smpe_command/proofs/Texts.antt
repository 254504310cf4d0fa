-- Words that are text, and how they are shown.
use Rattle.std.proofs.Common.{◌≡◌, inl, ℕ, List, [], ◌∷◌, map, All, refl, ap, ◌∙◌}
use Rattle.std.specs.Str.{IsUtf8}
use Rattle.std.specs.List.{AllByRecursion}
use Rattle.std.proofs.lemmas.List.Elements.{All-head, All-tail, All-from_recursion, recursion_from_All}
use Rattle.std.proofs.lemmas.Str.{utf8_lossy-IsUtf8}
use Rattle.smpe_invocation.specs.Answers.{IsRefused}
use Rattle.smpe_invocation.specs.declared.fault.ArgFault.{ArgFault}
use Rattle.smpe_invocation.specs.declared.fault.ArgFault.TheVariants.{Memory, Clap, BadOperand}
use Rattle.smpe_command.specs.Asking.{AreText, IsUnasked, shown}

pub shown_text : (words : List (List ℕ)) → AreText words → shown words ≡ words
shown_text [] text = refl
shown_text (word ∷ words) text =
    ap (λ first. first ∷ shown words) (utf8_lossy-IsUtf8 word (All-head IsUtf8 word words text))
    ∙ ap (λ rest. word ∷ rest) (shown_text words (All-tail IsUtf8 word words text))

module _ {X : Type 0} (f : X → List ℕ) where
  each : (xs : List X) → AllByRecursion IsUtf8 (map f xs) → AllByRecursion (λ x. IsUtf8 (f x)) xs
  each [] text = tt
  each (x ∷ xs) text = (text.0, each xs text.1)

  pub text_each : (xs : List X) → AreText (map f xs) → All (λ x. IsUtf8 (f x)) xs
  text_each xs text = All-from_recursion (λ x. IsUtf8 (f x)) xs (each xs (recursion_from_All IsUtf8 (map f xs) text))

pub unasked_refused : (words : List (List ℕ)) (fault : ArgFault) → IsRefused (shown words) fault
    → IsUnasked words fault
unasked_refused words Memory refused = refused
unasked_refused words (Clap error) refused = refused
unasked_refused words BadOperand refused = inl refused
