use Rattle.std.proofs.Common.{◌≡◌, ◌∙◌, ◌++◌, ◌-◌, length, take, ap, arith}
use Rattle.std.specs.Prelude.{replicate, vec_len}
use Rattle.smpe_jobs.proofs.ListRecords.{are_records}
use Rattle.smpe_jobs.proofs.list_job.two_commands.Goals as goal

pub returns : goal.returns
returns c =
    let one : vec_len c.extend_from_slice.new.self ≡ length c.extend_from_slice.new.self.items =
    omega (arith, c.extend_from_slice.new.self.ok) in
    let both : vec_len c.extend_from_slice-2.new.self ≡ length c.extend_from_slice-2.new.self.items =
    omega (arith, c.extend_from_slice-2.new.self.ok) in
    let text : c.extend_from_slice.new.self.items ≡ c.args.first.now =
    c.in_ok-extend_from_slice.ensures.items ∙ ap (λ t. t ++ c.args.first.now) c.new-file.ensures.items in
    are_records c.args.first.now c.args.second.now c.resize.new.self.items c.extend_from_slice-2.new.self.items
    c.resize-2.new.self.items c.requires.first c.requires.second
    (c.in_ok-resize.ensures.items
    ∙ ap (λ n. take 80 c.extend_from_slice.new.self.items ++ replicate (80 - n) 32) one
    ∙ ap (λ t. take 80 t ++ replicate (80 - length t) 32) text)
    c.in_ok-extend_from_slice-2.ensures.items
    (c.in_ok-resize-2.ensures.items
    ∙ ap (λ n. take 160 c.extend_from_slice-2.new.self.items ++ replicate (160 - n) 32) both)
