use Rattle.std.proofs.Common.{◌≡◌, ◌∙◌, ◌+◌, ◌++◌, ◌∷◌, [], ℕ, map, get_or, length, ap, rules, sym}
use Rattle.std.specs.Prelude.{vec_len}
use Rattle.std.specs.String.{string_bytes}
use Rattle.smpe_certificate.specs.Facts.{input_of}
use Rattle.smpe_command.proofs.FileNames.{inputs_at}
use Rattle.smpe_command.proofs.inputs.file_digests.Goals as goal

pub loop-file-preserved : goal.loop-file-preserved
loop-file-preserved c =
    let l = c.loop-file in
    let names = map string_bytes c.args.names.now in
    let long : vec_len l.digests ≡ length l.digests.items = search rules in (
      c.in_ok-digests.ensures.all
          ∙ ap (λ first. first ++ input_of c.name_at-name.result.now c.as_slice.result.now ∷ []) l.invariant.0
          ∙ sym (inputs_at (λ file. file.items) names c.args.files.now l.file-index c.file-item.result
          c.name_at-name.result.now c.as_slice.result.now c.loop-file-test.true c.file-item.is
          (c.name_at-name.ensures ∙ ap (λ n. get_or names n []) (c.len.ensures ∙ long ∙ l.invariant.1))
          c.as_slice.ensures.value),
      c.in_ok-digests.ensures.count ∙ ap (λ (n : ℕ). n + 1) l.invariant.1,
    )
