use Rattle.std.proofs.Common.{◌≡◌, [], map, take, slice_index_or}
use Rattle.smpe_certificate.proofs.dropped.ids_at.Given as goal

abbrev pub invariant-loop-place : goal.invariant-loop-place
invariant-loop-place l = l.found.items ≡ map (λ m. slice_index_or l.ids m []) (take l.place-index l.places)
