-- The value that is all there is in a word's list.
use Rattle.std.proofs.Common.{◌≡◌, [], ◌∷◌, Option, Some, None, refl, sym, subst}
use Rattle.std.specs.Prelude.{IsSomeAnd, IfSome, IfNone, IsSome, ◌↔◌, option_map}
use Rattle.std.proofs.lemmas.Bool.{false≢true}
use Rattle.terms.specs.Types.{Text}
use Rattle.terms.specs.Words.{Word, HasMembers, plain}
use Rattle.terms.specs.Operands.{HasOwn, HasOptional}
use Rattle.terms.proofs.ExactOperands.{has_member, members_one, one_of}

abbrev pub HasOneMember : Option Text → Text → Type 0
HasOneMember own m = IsSomeAnd own (λ text. HasMembers text (plain m ∷ []))

pub read_one : {X : Type 0} (form : Text → Type 0) (spelled : X → Text) (own : Option Text) (m : Text) (o : Option X)
    → HasOneMember own m → (IsSome o ↔ form m) → IfSome o (λ r. spelled r ≡ m)
    → IfSome o (λ r. HasOwn form own (spelled r))
read_one form spelled own m None h f s = tt
read_one form spelled own m (Some r) h f s = subst (HasOwn form own) (sym s) (one_of form own m h (f.0 refl))

pub read_none : {X : Type 0} (form : Text → Type 0) (own : Option Text) (m : Text) (o : Option X)
    → HasOneMember own m → (IsSome o ↔ form m) → IfNone o ((v : Text) → HasOwn form own v → ⊥)
read_none form own m (Some r) h f = tt
read_none form own m None h f = λ v k.
    let has = has_member form own v k in
    false≢true (f.1 (subst form (members_one own v m has.0 h) has.1))

-- the value of an operand, as a text
pub optional_text : (form : Text → Type 0) (found : Option Word) (v : Option Text)
    → HasOptional form found (option_map (λ t. t) v) → HasOptional form found v
optional_text form found None h = h
optional_text form found (Some t) h = h
