use Rattle.std.proofs.Common.{◌∷◌, [], ◌++◌, ◌∙◌, ap}
use Rattle.intake_service.proofs.Holding.{held_more}
use Rattle.intake_service.proofs.stated.StatedFiles.with_file.Goals as goal

pub invariant_of-result : goal.invariant_of-result
invariant_of-result c =
    held_more c.self.inside.held c.read_file.new.held c.self.inside.files.items c.push.new.self.items c.in_ok-file.file
    c.in_ok-push.ensures.items c.self.invariant c.in_ok-file.ensures

pub returns : goal.returns
returns c =
    let file = c.in_ok-file.file in
    (file, c.in_ok-push.ensures.items ∙ ap (λ files. files ++ file ∷ []) c.self.view_is)
