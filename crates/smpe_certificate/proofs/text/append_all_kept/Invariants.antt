use Rattle.std.proofs.Common.{◌≡◌, ◌++◌, take}
use Rattle.std.specs.List.{flat_map}
use Rattle.smpe_certificate.specs.Text.{kept_line}
use Rattle.smpe_certificate.proofs.text.append_all_kept.Given as goal

abbrev pub invariant-loop-id : goal.invariant-loop-id
invariant-loop-id l =
    l.text.items ≡ l.initial.text.items ++ flat_map kept_line (take l.id-index l.ids)
