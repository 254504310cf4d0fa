-- The remaining members of a list.
use Rattle.std.specs.Prelude.{◌≡◌, ℕ, Bool, true, false, List, ◌++◌, ◌==◌}
use Rattle.terms.specs.Forms.{AreBlanks}
use Rattle.terms.specs.Words.{Stops, HasMembers, HasMore}
use Rattle.terms.specs.Words as grammar
use Rattle.rec80.specs.declared.members.Members.{Members}
use Rattle.rec80.specs.Cursors.{text_of}

-- all the blanks with which the text begins
pub record SkipsBlanks (text after : List ℕ) : Type 0 where
  pub gap : List ℕ
  pub text_is : text ≡ gap ++ after
  pub blanks : AreBlanks gap
  pub dark : Stops (λ b. b == 32) after

abbrev pub HasLeft : Bool → List ℕ → List grammar.Word → Type 0
HasLeft true text ms = HasMembers text ms
HasLeft false text ms = HasMore text ms

-- the remaining text
abbrev pub members_text : Members → List ℕ
members_text m = text_of m.rest

-- These members are left.
abbrev pub LeavesMembers : Members → List grammar.Word → Type 0
LeavesMembers m ms = HasLeft m.first (text_of m.rest) ms
