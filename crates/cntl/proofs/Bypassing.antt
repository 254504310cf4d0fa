-- The members of BYPASS, and why there are none.
use Rattle.std.proofs.Common.{◌≡◌, Bool, false, List, map, [], get_or, Option, Some, None, sym, ◌∙◌, ap, subst}
use Rattle.std.specs.Prelude.{All, Contains, IsSomeAnd, codes}
use Rattle.std.specs.List.{list_any}
use Rattle.std.proofs.lemmas.Bool.{or_parts}
use Rattle.std.proofs.lemmas.List.Elements.{All-weaker, Contains-get_or}
use Rattle.terms.specs.declared.kinds.HoldKind.{HoldKind}
use Rattle.terms.specs.declared.codes.CommandWord.{CommandWord}
use Rattle.terms.specs.Types.{Text, Bypass}
use Rattle.terms.specs.Forms.{IsClass, IsReason}
use Rattle.terms.specs.Statement.{Piece}
use Rattle.terms.specs.Words.{Word, HasWords, HasMembers, IsListOf}
use Rattle.terms.specs.Operands.{HasSorted}
use Rattle.terms.specs.CommandForms.{members_of, HasBypassed, IsBypassList, HasBypass}
use Rattle.terms.specs.Commands.{runs_from, runs_in, has_double}
use Rattle.terms.specs.Operands.{list_behind, is_often}
use Rattle.terms.proofs.BypassMembers.{behind_operand}
use Rattle.terms.proofs.ExactBypass.{are_members}
use Rattle.terms.proofs.Searches.{list_any_map}
use Rattle.rec80.specs.Left.{AreNamed}
use Rattle.cntl.specs.Singles.{AreSingle}
use Rattle.terms.proofs.Reasons.{class_of}

-- A command without doubles has no member of BYPASS twice.
pub single_words : (w : CommandWord) (pieces : List Piece) (ws : List Word) → HasWords pieces ws
    → has_double w pieces ≡ false → AreSingle w ws
single_words w pieces ws h single =
    ap (λ l. list_any (is_often 2 (runs_in l)) (members_of w)) (sym (ap (list_behind (codes "BYPASS")) h
    ∙ behind_operand (codes "BYPASS") ws))
    ∙ (or_parts _ (list_any (is_often 2 (runs_in (list_behind (codes "BYPASS") pieces))) (members_of w)) single).1

-- whether a name of a list passes a test
pub any_named : {X : Type 0} (test : Text → Bool) (text : X → Text) (xs : List X) (names : List Text)
    → map text xs ≡ names → list_any (λ x. test (text x)) xs ≡ list_any test names
any_named test text xs names named = sym (list_any_map test text xs) ∙ ap (list_any test) named

module _ (kind : HoldKind) where
  list_classes : (list : Option Text) (vs : List Text) → IsSomeAnd list (λ text. IsListOf (IsReason kind) text vs)
      → IsSomeAnd list (λ text. IsListOf IsClass text vs) × All (IsReason kind) vs
  list_classes None vs h = absurd h
  list_classes (Some text) vs h = (
    record {
      has_members = h.has_members;
      each = All-weaker (IsReason kind) IsClass (class_of kind) vs h.each;
      distinct = h.distinct;
    },
    h.each,
  )

  list_reasons : (list : Option Text) (vs : List Text) → IsSomeAnd list (λ text. IsListOf IsClass text vs)
      → All (IsReason kind) vs → IsSomeAnd list (λ text. IsListOf (IsReason kind) text vs)
  list_reasons None vs h each = absurd h
  list_reasons (Some text) vs h each =
      record { has_members = h.has_members; each = each; distinct = h.distinct }

  all_in : (xs ys : List Text) → All (IsReason kind) xs → ((x : Text) → Contains ys x → Contains xs x)
      → All (IsReason kind) ys
  all_in xs ys each within = λ i d below.
      let at = within (get_or ys i d) (Contains-get_or ys i d below) in
      subst (IsReason kind) at.2 (each at.0 (get_or ys i d) at.1)

  -- Reasons of the kind are reasons, each of the kind.
  pub sorted_classes : (m : Word) (vs : List Text) → HasSorted (IsReason kind) m vs
      → HasSorted IsClass m vs × All (IsReason kind) vs
  sorted_classes m vs h =
      let l = list_classes m.list h.0 h.1 in
      ((h.0, l.0, h.2), all_in h.0 vs l.1 (λ x. (h.2.same x).0))

  pub sorted_reasons : (m : Word) (vs : List Text) → HasSorted IsClass m vs → All (IsReason kind) vs
      → HasSorted (IsReason kind) m vs
  sorted_reasons m vs h each = (h.0, list_reasons m.list h.0 h.1 (all_in vs h.0 each (λ x. (h.2.same x).1)), h.2)

-- Known members that say it, none of them there twice, are a list of BYPASS.
pub bypass_list : (w : CommandWord) (text : Text) (ms : List Word) (b : Bypass) → HasMembers text ms
    → AreNamed (members_of w) ms → list_any (is_often 2 (runs_from false [] text)) (members_of w) ≡ false
    → HasBypassed ms b → IsBypassList w text b
bypass_list w text ms b h named single says = record {
  members = ms;
  has_members = h;
  are_members = are_members w text ms h named single;
  has_bypassed = says;
}

-- BYPASS with its list
pub bypass_is : (w : CommandWord) (found : Option Word) (m : Word) (text : Text) (b : Bypass) → found ≡ Some m
    → m.list ≡ Some text → IsBypassList w text b → HasBypass w found b
bypass_is w found m text b is list h = subst (λ o. HasBypass w o b) (sym is)
    (subst (λ l. IsSomeAnd l (λ t. IsBypassList w t b)) (sym list) h)
