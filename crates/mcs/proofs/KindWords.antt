-- The kind word of a hold.
use Rattle.std.proofs.Common.{◌≡◌, ◌≢◌, Bool, true, false, List, Option, Some, None, refl, sym, ◌∙◌, ap, subst}
use Rattle.std.specs.Prelude.{IfSome, IfNone, codes}
use Rattle.std.specs.Str.{bytes_eq}
use Rattle.std.proofs.lemmas.Bool.{true≢false, false≢true}
use Rattle.terms.specs.declared.kinds.HoldKind.{HoldKind}
use Rattle.terms.specs.declared.kinds.HoldKind.TheVariants.{Error, System, User}
use Rattle.terms.specs.Types.{Text}
use Rattle.terms.specs.Spelling.{hold_text}
use Rattle.terms.specs.Words.{Word, plain}
use Rattle.terms.specs.Operands.{operand, HasFlag}
use Rattle.terms.specs.HoldStatements.{HasKind}
use Rattle.terms.proofs.ExactOperands.{flag_only}
use Rattle.terms.proofs.TextOrder.{same_from}
use Rattle.terms.proofs.Searches.{find_passes}
use Rattle.mcs.specs.Holds.{kind_from}

pub plain_is : (name : Text) (w : Word) → w.word ≡ name → w.list ≡ None → w ≡ plain name
plain_is name w word list = ap (λ x. record w { word = x }) word ∙ ap (λ x. record { word = name; list = x }) list

there : (name : Text) (ws : List Word) → HasFlag (operand name ws) true → operand name ws ≡ Some (plain name)
there name ws h = by (operand name ws) refl h
  where
    by : (found : Option Word) → operand name ws ≡ found → HasFlag found true → operand name ws ≡ Some (plain name)
    by None e flag = absurd (true≢false flag)
    by (Some w) e flag = e ∙ ap (λ x. Some x) (plain_is name w
        (same_from w.word name (find_passes (λ x. bytes_eq x.word name) ws w e)) flag.1)

absent : (found : Option Word) → HasFlag found false → found ≡ None
absent None flag = refl
absent (Some w) flag = absurd (false≢true flag.0)

-- which of the three words stand there without a list
pub record HasFlags (ws : List Word) (error system user : Bool) : Type 0 where
  pub error_flag : HasFlag (operand (codes "ERROR") ws) error
  pub system_flag : HasFlag (operand (codes "SYSTEM") ws) system
  pub user_flag : HasFlag (operand (codes "USER") ws) user

pub kind_is : (ws : List Word) (error system user : Bool) → HasFlags ws error system user
    → IfSome (kind_from error system user) (λ kind. HasKind ws kind)
kind_is ws true false false f = record { there = there (codes "ERROR") ws f.error_flag; alone = alone }
  where
    alone : (other : HoldKind) → other ≢ Error → operand (hold_text other) ws ≡ None
    alone Error ne = absurd (ne refl)
    alone System ne = absent (operand (codes "SYSTEM") ws) f.system_flag
    alone User ne = absent (operand (codes "USER") ws) f.user_flag
kind_is ws false true false f = record { there = there (codes "SYSTEM") ws f.system_flag; alone = alone }
  where
    alone : (other : HoldKind) → other ≢ System → operand (hold_text other) ws ≡ None
    alone Error ne = absent (operand (codes "ERROR") ws) f.error_flag
    alone System ne = absurd (ne refl)
    alone User ne = absent (operand (codes "USER") ws) f.user_flag
kind_is ws false false true f = record { there = there (codes "USER") ws f.user_flag; alone = alone }
  where
    alone : (other : HoldKind) → other ≢ User → operand (hold_text other) ws ≡ None
    alone Error ne = absent (operand (codes "ERROR") ws) f.error_flag
    alone System ne = absent (operand (codes "SYSTEM") ws) f.system_flag
    alone User ne = absurd (ne refl)
kind_is ws true true true f = tt
kind_is ws true true false f = tt
kind_is ws true false true f = tt
kind_is ws false true true f = tt
kind_is ws false false false f = tt

-- whether the word of the other kind is the kind's own
abbrev pub is_kind : HoldKind → HoldKind → Bool
is_kind Error Error = true
is_kind System System = true
is_kind User User = true
is_kind _ _ = false

stands : (name : Text) (found : Option Word) → found ≡ Some (plain name) → HasFlag found true
stands name found e = subst (λ o. HasFlag o true) (sym e) (refl, refl)

lacks : (found : Option Word) → found ≡ None → HasFlag found false
lacks found e = subst (λ o. HasFlag o false) (sym e) refl

-- Where there is one kind word, each of the three has a flag.
pub kind_flag : (ws : List Word) (kind other : HoldKind) → HasKind ws kind
    → HasFlag (operand (hold_text other) ws) (is_kind kind other)
kind_flag ws Error Error h = stands (codes "ERROR") _ h.there
kind_flag ws Error System h = lacks _ (h.alone System (λ e. cc (e)))
kind_flag ws Error User h = lacks _ (h.alone User (λ e. cc (e)))
kind_flag ws System Error h = lacks _ (h.alone Error (λ e. cc (e)))
kind_flag ws System System h = stands (codes "SYSTEM") _ h.there
kind_flag ws System User h = lacks _ (h.alone User (λ e. cc (e)))
kind_flag ws User Error h = lacks _ (h.alone Error (λ e. cc (e)))
kind_flag ws User System h = lacks _ (h.alone System (λ e. cc (e)))
kind_flag ws User User h = stands (codes "USER") _ h.there

from_own : (kind : HoldKind) → kind_from (is_kind kind Error) (is_kind kind System) (is_kind kind User) ≡ Some kind
from_own Error = refl
from_own System = refl
from_own User = refl

-- and the kind is read from them.
pub kind_found : (ws : List Word) (error system user : Bool) (kind : HoldKind) → HasFlags ws error system user
    → HasKind ws kind → kind_from error system user ≡ Some kind
kind_found ws error system user kind f h =
    let a : error ≡ is_kind kind Error =
    flag_only (operand (codes "ERROR") ws) error (is_kind kind Error) f.error_flag (kind_flag ws kind Error h) in
    let b : system ≡ is_kind kind System =
    flag_only (operand (codes "SYSTEM") ws) system (is_kind kind System) f.system_flag
    (kind_flag ws kind System h) in
    let c : user ≡ is_kind kind User =
    flag_only (operand (codes "USER") ws) user (is_kind kind User) f.user_flag (kind_flag ws kind User h) in
    ap (λ x. kind_from x system user) a ∙ ap (λ x. kind_from (is_kind kind Error) x user) b
    ∙ ap (λ x. kind_from (is_kind kind Error) (is_kind kind System) x) c ∙ from_own kind

pub kind_none : (ws : List Word) (error system user : Bool) → HasFlags ws error system user
    → IfNone (kind_from error system user) ((kind : HoldKind) → HasKind ws kind → ⊥)
kind_none ws error system user f = by (kind_from error system user) refl
  where
    by : (found : Option HoldKind) → kind_from error system user ≡ found
        → IfNone found ((kind : HoldKind) → HasKind ws kind → ⊥)
    by (Some k) e = tt
    by None e = λ kind h. absurd (cc (sym (kind_found ws error system user kind f h) ∙ e))
