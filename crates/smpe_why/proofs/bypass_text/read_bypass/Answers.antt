use Rattle.std.proofs.Common.{◌∙◌}
use Rattle.smpe_why.proofs.Alone.{bypass_of_read}
use Rattle.smpe_why.proofs.bypass_text.read_bypass.Goals as goal

pub returns-in-Some : goal.returns-in-Some
returns-in-Some c =
    let text = c.as_slice.result.now in
    let some = rw c.in-Some.is at c.in_ok-file.ensures.some in
    bypass_of_read c.args.list.now text c.as_slice-in-Some.result.now c.bypass_of_file.result
    (c.as_slice.ensures.value ∙ c.in_ok-text.ensures) some.0 (c.as_slice-in-Some.ensures.value ∙ some.1)
    c.bypass_of_file.ensures.some c.bypass_of_file.ensures.none
