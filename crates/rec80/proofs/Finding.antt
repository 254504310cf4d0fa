-- Members are taken one by one, up to the one that is looked for.
use Rattle.std.proofs.Common.{◌≡◌, true, false, List, ◌∷◌, Some, ◌∙◌, ap, cond}
use Rattle.std.specs.Str.{bytes_eq}
use Rattle.terms.specs.Types.{Text}
use Rattle.terms.specs.Words.{Word}
use Rattle.terms.specs.Operands.{operand}

-- the operand is the first word, or among the others
pub operand_here : (name : Text) (w : Word) (ws more : List Word) → ws ≡ w ∷ more → bytes_eq w.word name ≡ true
    → operand name ws ≡ Some w
operand_here name w ws more ws_is same = ap (operand name) ws_is ∙ ap (λ b. cond b (Some w) (operand name more)) same

pub operand_there : (name : Text) (w : Word) (ws more : List Word) → ws ≡ w ∷ more → bytes_eq w.word name ≡ false
    → operand name ws ≡ operand name more
operand_there name w ws more ws_is other = ap (operand name) ws_is ∙ ap (λ b. cond b (Some w) (operand name more)) other
