-- The one command of a file, and the BYPASS that it has.
use Rattle.std.proofs.Common.{◌≡◌, ◌∙◌, [], ◌∷◌, Option, None, Some, Result, Ok, Err, ap, sym, subst, true≢false}
use Rattle.std.specs.Prelude.{IfOk, IfSome, IfNone, IsTrue, IsFalse}
use Rattle.terms.specs.Types.{Text, Bypass, Install, Accept}
use Rattle.terms.specs.Commands.{IsCommandFile}
use Rattle.smpe_why.specs.BypassText.{accept_text, carded, is_carded, only_bypasses, IsBypassOf}

-- what is so where there is no value
pub none_then : {X : Type 0} (r : Option X) {P Q : Type 0} → IfNone r P → (P → Q) → IfNone r Q
none_then None p more = more p
none_then (Some x) p more = tt

-- what was read of the file of an ACCEPT
abbrev IsRead : Text → Option Bypass → Type 0
IsRead file found =
    IfSome found (λ b. (i : Install) × IsCommandFile file (Accept i ∷ []) × IsTrue (only_bypasses i) × (i.bypass ≡ b))
    × IfNone found ((i : Install) → IsCommandFile file (Accept i ∷ []) → IsFalse (only_bypasses i))

bypass_of_one : (list text file : Text) (found : Option Bypass) → text ≡ accept_text list
    → IsTrue (is_carded 0 text) → file ≡ carded 0 text → IsRead file found → IsBypassOf list found
bypass_of_one list text file (Some b) is fits cards read =
    let same : file ≡ carded 0 (accept_text list) = cards ∙ ap (carded 0) is in
    record {
      fits = subst (λ t. IsTrue (is_carded 0 t)) is fits;
      install = read.0.0;
      is_file = subst (λ f. IsCommandFile f (Accept read.0.0 ∷ [])) same read.0.1;
      only = read.0.2;
      bypass_is = read.0.3;
    }
bypass_of_one list text file None is fits cards read = λ b takes.
    let same : file ≡ carded 0 (accept_text list) = cards ∙ ap (carded 0) is in
    true≢false (sym takes.only
    ∙ read.1 takes.install (subst (λ f. IsCommandFile f (Accept takes.install ∷ [])) (sym same) takes.is_file))

pub bypass_of_read : {E : Type 0} (list text file : Text) (r : Result (Option Bypass) E) → text ≡ accept_text list
    → IsTrue (is_carded 0 text) → file ≡ carded 0 text
    → IfOk r (λ found. IfSome found (λ b. (i : Install) × IsCommandFile file (Accept i ∷ [])
    × IsTrue (only_bypasses i) × (i.bypass ≡ b)))
    → IfOk r (λ found. IfNone found ((i : Install) → IsCommandFile file (Accept i ∷ []) → IsFalse (only_bypasses i)))
    → IfOk r (IsBypassOf list)
bypass_of_read list text file (Ok found) is fits cards some none =
    bypass_of_one list text file found is fits cards (some, none)
bypass_of_read list text file (Err e) is fits cards some none = tt
