-- A walk over the runs of a list, one byte more, and at its end.
use Rattle.std.proofs.Common.{◌≡◌, ◌≢◌, ◌<◌, ◌+◌, ℕ, true, false, [], ◌∷◌, ◌++◌, length, sym, ◌∙◌, ap, cond}
use Rattle.std.specs.Str.{bytes_eq}
use Rattle.terms.proofs.TextOrder.{same_itself, other_text}
use Rattle.terms.specs.Types.{Text}
use Rattle.terms.specs.Forms.{is_word_byte}
use Rattle.terms.specs.Statement.{BeginsNoWord}
use Rattle.terms.specs.Commands.{runs_from}
use Rattle.terms.proofs.OperandWords.{count, count_other}
use Rattle.terms.proofs.BypassMembers.{run_goes_on, run_ends}
use Rattle.cntl.specs.declared.run_state.RunState.{RunState}
use Rattle.cntl.specs.Walks.{IsAt, is_inner, WalksOn}

-- A character of a word comes to the run.
pub run_more : (name : Text) (at next : RunState) (run : Text) (byte : ℕ) → is_inner at ≡ false → is_inner next ≡ false
    → is_word_byte byte ≡ true → IsAt name next (run ++ byte ∷ []) → WalksOn name at run byte next
run_more name at next run byte outer outer' part is = record {
  goes_on = run ++ byte ∷ [];
  is_at = is;
  same = λ rest.
      ap (λ i. count name (runs_from i run (byte ∷ rest))) outer ∙ ap (count name) (run_goes_on run byte rest part)
      ∙ sym (ap (λ i. count name (runs_from i (run ++ byte ∷ []) rest)) outer');
}

-- The name ends here, and counts once.
pub name_ends : (name : Text) → 0 < length name → (at : RunState) (run text : Text) → run ≡ name → is_inner at ≡ false
    → BeginsNoWord text → count name (runs_from (is_inner at) run text) ≡ 1 + count name (runs_from false [] text)
name_ends name some at run text same outer stops =
    ap (λ i. count name (runs_from i run text)) outer ∙ run_ends name some run text stops
    ∙ ap (λ b. cond b 1 0 + count name (runs_from false [] text)) (ap (bytes_eq name) same ∙ same_itself name)

-- Another run ends the list.
pub other_ends : (name : Text) (at : RunState) (run text : Text) → run ≢ name → text ≡ []
    → count name (runs_from (is_inner at) run text) ≡ 0
other_ends name at run text other end =
    ap (λ t. count name (runs_from (is_inner at) run t)) end
    ∙ count_other name run [] (other_text name run (λ e. other (sym e)))
