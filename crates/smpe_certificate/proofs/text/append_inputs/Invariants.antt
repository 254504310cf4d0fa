use Rattle.std.proofs.Common.{◌≡◌, ◌++◌, take}
use Rattle.std.specs.List.{flat_map}
use Rattle.smpe_certificate.specs.Text.{input_line}
use Rattle.smpe_certificate.specs.Views.{digest_view}
use Rattle.smpe_certificate.proofs.text.append_inputs.Given as goal

abbrev pub invariant-loop-input : goal.invariant-loop-input
invariant-loop-input l =
    l.text.items ≡ l.initial.text.items ++ flat_map (λ f. input_line (digest_view f)) (take l.input-index l.inputs)
