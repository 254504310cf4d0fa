-- Which element statements are updates.
use Rattle.std.proofs.Common.{◌≡◌, subst}
use Rattle.terms.specs.declared.kinds.ElemType.{ElemType}
use Rattle.terms.specs.declared.kinds.ElemType.TheVariants.{Mac, Src}
use Rattle.terms.specs.Types.{Text, Lines, Action, Updates}
use Rattle.terms.specs.Texts.{TakesUpdates, IsActionOf}

-- Only elements of a type that takes updates are updated.
pub takes_updates : (type : ElemType) (name : Text) (text : Lines) (action : Action) → action ≡ Updates text
    → IsActionOf type name action → TakesUpdates type
takes_updates Mac name text action is good = tt
takes_updates Src name text action is good = tt
takes_updates type name text action is good = absurd (subst (IsActionOf type name) is good)
