-- Cursors on their way through records.
use Rattle.std.proofs.Common.{◌≡◌, ℕ, List, [], ◌∷◌, ◌++◌, refl, sym, ◌∙◌, ap, append_assoc}
use Rattle.terms.specs.Records.{front}
use Rattle.terms.specs.Statement.{IsPlace}
use Rattle.rec80.specs.declared.cursor.Cursor.{Cursor}
use Rattle.rec80.specs.Cursors.{IsAhead}

next_place : (records before : List (List ℕ)) (line line' : List ℕ) (b : ℕ) (later : List (List ℕ)) → line ≡ b ∷ line'
    → IsPlace records before line later → IsPlace records before line' later
next_place records before line line' b later line_is p = record {
  at = p.at;
  head = p.head ++ b ∷ [];
  records_are = p.records_are;
  line_is = p.line_is ∙ ap (λ l. p.head ++ l) line_is ∙ sym (append_assoc p.head (b ∷ []) line');
}

next_record : (records before later later' : List (List ℕ)) (line : List ℕ) (r : List ℕ) → later ≡ r ∷ later'
    → (p : IsPlace records before line later) → IsPlace records (before ++ p.at ∷ []) (front r) later'
next_record records before later later' line r later_are p = record {
  at = r;
  head = [];
  records_are = p.records_are ∙ ap (λ rs. before ++ p.at ∷ rs) later_are
      ∙ sym (append_assoc before (p.at ∷ []) (r ∷ later'));
  line_is = refl;
}

pub ahead_same : (c : Cursor) → IsAhead c c
ahead_same c = record { stays = λ records p. p }

pub ahead_trans : (a b c : Cursor) → IsAhead a b → IsAhead b c → IsAhead a c
ahead_trans a b c p q = record { stays = λ records h. q.stays records (p.stays records h) }

pub ahead_byte : (old new : Cursor) (b : ℕ) → old.line.now ≡ b ∷ new.line.now → new.later.now ≡ old.later.now
    → IsAhead old new
ahead_byte old new b line_is same = record {
  stays = λ records h.
      (h.0, rw same (next_place records h.0 old.line.now new.line.now b old.later.now line_is h.1));
}

pub ahead_record : (old new : Cursor) (r : List ℕ) → old.later.now ≡ r ∷ new.later.now → new.line.now ≡ front r
    → IsAhead old new
ahead_record old new r later_are line_is = record {
  stays = λ records h. (
    h.0 ++ h.1.at ∷ [],
    rw line_is (next_record records h.0 old.later.now new.later.now old.line.now r later_are
        h.1),
  );
}
