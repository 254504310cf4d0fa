use Rattle.std.proofs.Common.{◌≡◌, ◌∙◌, ◌++◌, ap₂, sym, map}
use Rattle.hex.specs.Hex.{encode_lower}
use Rattle.smpe_certificate.specs.Text.{shown}
use Rattle.smpe_certificate.proofs.text.append_input.Goals as goal

pub returns : goal.returns
returns c =
    let input = c.args.input.now in
    let digest : c.as_bytes-3.result.now ≡ encode_lower input.sha256 =
    c.as_bytes-3.ensures.value ∙ c.in_ok-digest.ensures in
    let name : c.as_slice.result.now ≡ map shown (input.name.now ++ input.suffix.now) =
    c.as_slice.ensures.value ∙ c.in_ok-name.ensures
    ∙ ap₂ (λ a b. map shown (a ++ b)) c.as_bytes.ensures.value c.as_bytes-2.ensures.value in
    rw (sym name, sym digest) c.append_words.ensures
