-- Comments are texts.
use Rattle.std.proofs.Common.{ℕ, ◌<◌, ◌&&◌, IsTrue, IsUtf8, arith}
use Rattle.std.specs.Prelude.{nat_le}
use Rattle.std.proofs.lemmas.Bool.{and_parts}
use Rattle.std.proofs.lemmas.Str.{IsUtf8-from_ascii}
use Rattle.std.proofs.lemmas.Str.Ascii.{IsAscii-from_all}
use Rattle.terms.specs.Types.{Text}
use Rattle.store_schema.specs.Forms.{IsComment}

below : (b : ℕ) → IsTrue (nat_le 32 b && nat_le b 126) → b < 128
below b printable =
    let low = (and_parts (nat_le 32 b) (nat_le b 126) printable).1 in
    grind (arith, low)

pub comment_utf8 : (text : Text) → IsComment text → IsUtf8 text
comment_utf8 text h = IsUtf8-from_ascii text (IsAscii-from_all text (λ i d within. below _ (h.characters i d within)))
