-- Texts that go out piece by piece.
use Rattle.std.proofs.Common.{◌≡◌, ℕ, List, [], ◌++◌, Option, Some, Bool, true, false, sym, ◌∙◌, ap, subst}
use Rattle.std.proofs.Common.{append_assoc}
use Rattle.std.specs.Io.KnownBytes.{Appends, Keeps}
use Rattle.std.proofs.KnownBytes.{Appends-trans, Appends-kept, Keeps-trans}
use Rattle.report.specs.Sent.{WrotePart, Went, Sends}

-- the bytes before the rest went out
pub record IsSending (old new : Option (List ℕ)) (text rest : List ℕ) : Type 0 where
  pub sent : List ℕ
  pub text_is : text ≡ sent ++ rest
  pub bytes : Appends old new sent

-- Nothing has failed since and the bytes before the rest went out, or the sink had failed and nothing went out.
abbrev pub Sending : Option (List ℕ) → Bool → Option (List ℕ) → Bool → List ℕ → List ℕ → Type 0
Sending old true new failed text rest = (failed ≡ true) × Keeps old new
Sending old false new failed text rest = (failed ≡ false) × IsSending old new text rest

pub sending_more : (a : Option (List ℕ)) (f : Bool) (b : Option (List ℕ)) (g : Bool) (c : Option (List ℕ)) (h : Bool)
    (text rest front back : List ℕ)
    → Sending a f b g text rest → rest ≡ front ++ back → g ≡ false → h ≡ false → Appends b c front
    → Sending a f c h text back
sending_more a true b g c h text rest front back s rest_is before after grown = let is : true ≡ false = sym s.0 ∙ before
    in absurd (cc is)
sending_more a false b g c h text rest front back s rest_is before after grown = (
  after,
  record {
    sent = s.1.sent ++ front;
    text_is = s.1.text_is ∙ ap (λ r. s.1.sent ++ r) rest_is ∙ sym (append_assoc s.1.sent front back);
    bytes = Appends-trans a b c s.1.sent front s.1.bytes grown;
  },
)

-- one text, and then another
pub sends_then : (a : Option (List ℕ)) (f : Bool) (b : Option (List ℕ)) (g : Bool) (c : Option (List ℕ)) (h : Bool)
    (xs ys : List ℕ)
    → Sends a f b g xs → Sends b g c h ys → Sends a f c h (xs ++ ys)
sends_then a true b true c h xs ys s t = (t.0, Keeps-trans a b c s.1 t.1)
sends_then a true b false c h xs ys s t = let is : false ≡ true = s.0 in absurd (cc is)
sends_then a false b true c h xs ys s t =
    let part : WrotePart a c (xs ++ ys) = record {
      piece = s.piece;
      lost = s.lost ++ ys;
      text_is = ap (λ x. x ++ ys) s.text_is ∙ append_assoc s.piece s.lost ys;
      bytes = Appends-kept a b c s.piece s.bytes t.1;
    } in subst (λ v. Went a c v (xs ++ ys)) (sym t.0) part
sends_then a false b false c false xs ys s t = Appends-trans a b c xs ys s t
sends_then a false b false c true xs ys s t = record {
  piece = xs ++ t.piece;
  lost = t.lost;
  text_is = ap (λ y. xs ++ y) t.text_is ∙ sym (append_assoc xs t.piece t.lost);
  bytes = Appends-trans a b c xs t.piece s t.bytes;
}

-- the same text, written otherwise
pub sends_as : (a : Option (List ℕ)) (f : Bool) (b : Option (List ℕ)) (g : Bool) (xs ys : List ℕ) → xs ≡ ys
    → Sends a f b g xs → Sends a f b g ys
sends_as a f b g xs ys is s = subst (Sends a f b g) is s

-- all of a text went to a sink that had taken nothing and has not failed
pub sent_whole : (old : Option (List ℕ)) (f : Bool) (new : Option (List ℕ)) (g : Bool) (text bytes : List ℕ)
    → old ≡ Some [] → f ≡ false → new ≡ Some bytes → g ≡ false → Sends old f new g text → bytes ≡ text
sent_whole old f new g text bytes none before some after s =
    let going : Sends old false new g text = subst (λ b. Sends old b new g text) before s in
    let went : Appends old new text = subst (λ b. Went old new b text) after going in
    let begun : Appends (Some []) new text = subst (λ o. Appends o new text) none went in
    subst (λ o. Appends (Some []) o text) some begun
