-- Texts that are print on a page piece by piece.
use Rattle.std.proofs.Common.{◌≡◌, ℕ, List, [], ◌++◌, Bool, true, false, refl, sym, ◌∙◌, ap, subst, append_assoc}
use Rattle.std.proofs.Common.{append-nil}
use Rattle.std.specs.Io.KnownBytes.{Appends, Keeps}
use Rattle.std.proofs.KnownBytes.{Appends-trans, Appends-kept, Appends-nil, Keeps-refl, Keeps-trans}
use Rattle.report.specs.Paged.{Held, MovedPart, Moves, Writes, OnPage}
use Rattle.report.specs.Sent.{Sends}

-- what waited and two texts behind it, of which the first has moved
two_texts : (a b : Held) (xs ys piece rest : List ℕ)
    → a.waiting ++ xs ≡ piece ++ b.waiting → b.waiting ++ ys ≡ rest → a.waiting ++ (xs ++ ys) ≡ piece ++ rest
two_texts a b xs ys piece rest first second =
    sym (append_assoc a.waiting xs ys) ∙ ap (λ t. t ++ ys) first ∙ append_assoc piece b.waiting ys
    ∙ ap (λ t. piece ++ t) second

writes_then : (a : Held) (f : Bool) (b : Held) (g : Bool) (c : Held) (h : Bool) (xs ys : List ℕ)
    → Writes a f b g xs → Writes b g c h ys → Writes a f c h (xs ++ ys)
writes_then a true b true c h xs ys s t = (t.0, Keeps-trans a.taken b.taken c.taken s.1 t.1)
writes_then a true b false c h xs ys s t = let is : false ≡ true = s.0 in absurd (cc is)
writes_then a false b true c h xs ys s t =
    let part : MovedPart a c (xs ++ ys) = record {
      piece = s.piece;
      lost = s.lost ++ ys;
      text_is =
          sym (append_assoc a.waiting xs ys) ∙ ap (λ t. t ++ ys) s.text_is ∙ append_assoc s.piece s.lost ys;
      bytes = Appends-kept a.taken b.taken c.taken s.piece s.bytes t.1;
    } in subst (λ v. Moves a c v (xs ++ ys)) (sym t.0) part
writes_then a false b false c false xs ys s t = record {
  piece = s.piece ++ t.piece;
  text_is = two_texts a b xs ys s.piece (t.piece ++ c.waiting) s.text_is t.text_is
      ∙ sym (append_assoc s.piece t.piece c.waiting);
  bytes = Appends-trans a.taken b.taken c.taken s.piece t.piece s.bytes t.bytes;
}
writes_then a false b false c true xs ys s t = record {
  piece = s.piece ++ t.piece;
  lost = t.lost;
  text_is = two_texts a b xs ys s.piece (t.piece ++ t.lost) s.text_is t.text_is
      ∙ sym (append_assoc s.piece t.piece t.lost);
  bytes = Appends-trans a.taken b.taken c.taken s.piece t.piece s.bytes t.bytes;
}

-- one text, and then another
pub paged_then : (a : Held) (f : Bool) (b : Held) (g : Bool) (c : Held) (h : Bool) (xs ys : List ℕ)
    → OnPage a f b g xs → OnPage b g c h ys → OnPage a f c h (xs ++ ys)
paged_then a f b g c h xs ys s t = record {
  same_reference = t.same_reference ∙ s.same_reference;
  writes = writes_then a f b g c h xs ys s.writes t.writes;
}

-- the same text, written otherwise
pub paged_as : (a : Held) (f : Bool) (b : Held) (g : Bool) (xs ys : List ℕ) → xs ≡ ys
    → OnPage a f b g xs → OnPage a f b g ys
paged_as a f b g xs ys is s = subst (OnPage a f b g) is s

-- no text
writes_nothing : (a : Held) (f : Bool) → Writes a f a f []
writes_nothing a true = (refl, Keeps-refl a.taken)
writes_nothing a false = record { piece = []; text_is = append-nil a.waiting; bytes = Appends-nil a.taken }

pub paged_nothing : (a : Held) (f : Bool) → OnPage a f a f []
paged_nothing a f = record { same_reference = refl; writes = writes_nothing a f }

-- a text that only waits, behind what waited
waits : (a : Held) (f : Bool) (b : Held) (text : List ℕ) → b.taken ≡ a.taken → b.waiting ≡ a.waiting ++ text
    → Writes a f b f text
waits a true b text taken is = (refl, subst (Keeps a.taken) (sym taken) (Keeps-refl a.taken))
waits a false b text taken is = record {
  piece = [];
  text_is = sym is;
  bytes = subst (λ t. Appends a.taken t []) (sym taken) (Appends-nil a.taken);
}

pub paged_waits : (a : Held) (f : Bool) (b : Held) (text : List ℕ) → b.name ≡ a.name → b.taken ≡ a.taken
    → b.waiting ≡ a.waiting ++ text → OnPage a f b f text
paged_waits a f b text same taken is = record { same_reference = same; writes = waits a f b text taken is }

-- what waited and the text went to the sink at once
moves_out : (a : Held) (f : Bool) (b : Held) (g : Bool) (text : List ℕ)
    → Sends a.taken f b.taken g (a.waiting ++ text) → b.waiting ≡ [] → Writes a f b g text
moves_out a true b g text s empty = s
moves_out a false b false text s empty = record {
  piece = a.waiting ++ text;
  text_is = sym (ap (λ w. (a.waiting ++ text) ++ w) empty ∙ append-nil (a.waiting ++ text));
  bytes = s;
}
moves_out a false b true text s empty = record { piece = s.piece; lost = s.lost; text_is = s.text_is; bytes = s.bytes }

pub paged_out : (a : Held) (f : Bool) (b : Held) (g : Bool) (text : List ℕ) → b.name ≡ a.name
    → Sends a.taken f b.taken g (a.waiting ++ text) → b.waiting ≡ [] → OnPage a f b g text
paged_out a f b g text same s empty = record { same_reference = same; writes = moves_out a f b g text s empty }

-- a text that was print on an empty page, and that has gone out
went_all : (a : Held) (f : Bool) (b : Held) (g : Bool) (text : List ℕ) → a.waiting ≡ [] → b.waiting ≡ []
    → Writes a f b g text → Sends a.taken f b.taken g text
went_all a true b g text none empty s = s
went_all a false b false text none empty s =
    let is : text ≡ s.piece = sym (ap (λ w. w ++ text) none) ∙ s.text_is ∙ ap (λ w. s.piece ++ w) empty
    ∙ append-nil s.piece in
    subst (Appends a.taken b.taken) (sym is) s.bytes
went_all a false b true text none empty s = record {
  piece = s.piece;
  lost = s.lost;
  text_is = sym (ap (λ w. w ++ text) none) ∙ s.text_is;
  bytes = s.bytes;
}

pub sent_all : (a : Held) (f : Bool) (b : Held) (g : Bool) (text : List ℕ) → a.waiting ≡ [] → b.waiting ≡ []
    → OnPage a f b g text → Sends a.taken f b.taken g text
sent_all a f b g text none empty s = went_all a f b g text none empty s.writes
