use Rattle.std.proofs.Common.{◌≡◌, ◌∙◌, ◌≤◌, ◌<◌, All, length, ap, ap₂, subst, arith}
use Rattle.std.proofs.lemmas.List.Elements.{All-from_get_or}
use Rattle.std.proofs.lemmas.List.{length-take-le}
use Rattle.fields.specs.Padded.{padded}
use Rattle.fields.proofs.ShortOrder.{number_of_bytes}
use Rattle.fields.proofs.padded.Short.number.Goals as goal

pub returns-clause-same : goal.returns-clause-same
returns-clause-same g c =
    let text = c.args.self.now in
    let bytes = c.self.inside.bytes in
    let zeros : bytes ≡ padded 7 text = c.self.invariant.zeros ∙ ap₂ padded c.requires c.self.view_is in
    let short : length text ≤ 7 =
    omega (
      arith,
      ap length c.self.view_is,
      length-take-le c.self.inside.len bytes,
      c.self.invariant.size,
      c.self.invariant.fits,
      c.requires,
    ) in
    (rw c.as_bytes-text.ensures at c.from_be_bytes.ensures) ∙ number_of_bytes text bytes short zeros

pub returns-clause-bytes : goal.returns-clause-bytes
returns-clause-bytes g c =
    subst (All (λ b. b < 256)) c.as_bytes-text.ensures
    (All-from_get_or (λ b. b < 256) c.as_bytes-text.result.now 0 (λ i within. grind arith))
