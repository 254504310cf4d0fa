-- The words of documents are ASCII.
use Rattle.std.proofs.Common.{◌<◌, ℕ, zero, suc, [], ◌∷◌, All, IsTrue, length, get_or}
use Rattle.std.proofs.Common.{refl, arith, sym, subst, inl, inr}
use Rattle.std.specs.Prelude.{nat_lt}
use Rattle.std.specs.List.{list_all}
use Rattle.std.specs.Str.{IsAscii}
use Rattle.std.proofs.lemmas.Bool.{and_parts, ltb-true, cases_lt}
use Rattle.std.proofs.lemmas.Bool.Decides.{nat_tests}
use Rattle.std.proofs.lemmas.List.{get_or_past}
use Rattle.std.proofs.lemmas.List.Elements.{All-get_or}
use Rattle.terms.specs.declared.kinds.Kind.{Kind}
use Rattle.terms.specs.declared.kinds.Kind.TheVariants.{Function, Ptf, Apar, Usermod}
use Rattle.terms.specs.declared.kinds.HoldKind.{HoldKind}
use Rattle.terms.specs.declared.kinds.HoldKind.TheVariants.{Error, System, User}
use Rattle.terms.specs.declared.codes.CommandWord.{CommandWord}
use Rattle.terms.specs.declared.codes.CommandWord.TheVariants as word
use Rattle.terms.specs.declared.codes.Test.{Test}
use Rattle.terms.specs.declared.codes.Test.TheVariants as test
use Rattle.terms.specs.declared.codes.NeedKind.{NeedKind}
use Rattle.terms.specs.declared.codes.NeedKind.TheVariants as need
use Rattle.terms.specs.declared.codes.IdRefusal.{IdRefusal}
use Rattle.terms.specs.declared.codes.IdRefusal.TheVariants.{MakesLoop}
use Rattle.terms.specs.Types.{Text}
use Rattle.terms.specs.Forms.{is_id_byte}
use Rattle.terms.specs.Spelling.{kind_text, hold_text, test_text, need_text, refusal_text, word_text}
use Rattle.machine.specs.Outcome.{Status, Received}
use Rattle.machine.specs.Report.{status_word}

-- a text whose bytes all pass
ascii_if : (t : Text) → IsTrue (list_all (λ b. nat_lt b 128) t) → IsAscii t
ascii_if [] h i = omega arith
ascii_if (b ∷ t) h zero = ltb-true b 128 (and_parts (nat_lt b 128) (list_all (λ c. nat_lt c 128) t) h).0
ascii_if (b ∷ t) h (suc i) = ascii_if t (and_parts (nat_lt b 128) (list_all (λ c. nat_lt c 128) t) h).1 i

small : (b : ℕ) → IsTrue (is_id_byte b) → b < 128
small b h = grind (arith, nat_tests, h)

-- a text of characters of ids
pub ascii_run : (t : Text) → All (λ b. IsTrue (is_id_byte b)) t → IsAscii t
ascii_run t each i = elim (cases_lt i (length t)) [
  | inl below ↦ small (get_or t i 0) (All-get_or (λ b. IsTrue (is_id_byte b)) t i 0 below each)
  | inr past ↦ subst (λ b. b < 128) (sym (get_or_past t i 0 past)) (omega arith)
]

pub ascii_kind : (k : Kind) → IsAscii (kind_text k)
ascii_kind Function = ascii_if (kind_text Function) refl
ascii_kind Ptf = ascii_if (kind_text Ptf) refl
ascii_kind Apar = ascii_if (kind_text Apar) refl
ascii_kind Usermod = ascii_if (kind_text Usermod) refl

pub ascii_hold : (k : HoldKind) → IsAscii (hold_text k)
ascii_hold Error = ascii_if (hold_text Error) refl
ascii_hold System = ascii_if (hold_text System) refl
ascii_hold User = ascii_if (hold_text User) refl

pub ascii_word : (w : CommandWord) → IsAscii (word_text w)
ascii_word word.Set = ascii_if (word_text word.Set) refl
ascii_word w = ascii_if (word_text w) refl

pub ascii_test : (t : Test) → IsAscii (test_text t)
ascii_test test.HeldBySystem = ascii_if (test_text test.HeldBySystem) refl
ascii_test t = ascii_if (test_text t) refl

pub ascii_need : (n : NeedKind) → IsAscii (need_text n)
ascii_need need.Fmid = ascii_if (need_text need.Fmid) refl
ascii_need n = ascii_if (need_text n) refl

pub ascii_refusal : (r : IdRefusal) → IsAscii (refusal_text r)
ascii_refusal MakesLoop = ascii_if (refusal_text MakesLoop) refl
ascii_refusal r = ascii_if (refusal_text r) refl

pub ascii_status : (s : Status) → IsAscii (status_word s)
ascii_status Received = ascii_if (status_word Received) refl
ascii_status s = ascii_if (status_word s) refl
