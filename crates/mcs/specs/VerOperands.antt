-- The lists of a ++VER, as its operands give them.
use Rattle.std.specs.Prelude.{List, codes}
use Rattle.terms.specs.Types.{Id}
use Rattle.terms.specs.Forms.{IsId}
use Rattle.terms.specs.Words.{Word}
use Rattle.terms.specs.Operands.{operand, HasTexts}

-- PRE, REQ, SUP, NPRE and DELETE have these lists.
pub record HasLists (ws : List Word) (pre req sup npre del : List Id) : Type 0 where
  pub has_pre : HasTexts IsId (operand (codes "PRE") ws) pre
  pub has_req : HasTexts IsId (operand (codes "REQ") ws) req
  pub has_sup : HasTexts IsId (operand (codes "SUP") ws) sup
  pub has_npre : HasTexts IsId (operand (codes "NPRE") ws) npre
  pub has_del : HasTexts IsId (operand (codes "DELETE") ws) del
