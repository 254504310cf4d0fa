use Rattle.std.proofs.Common.{arith}
use Rattle.terms.specs.Lookups.{is_before}
use Rattle.sysmods_values.proofs.Places.{place_within}
use Rattle.sysmods_values.proofs.sysmod.Sysmod.insert_ver.Goals as goal

pub insert-requires : goal.insert-requires
insert-requires c = omega (
  arith,
  c.ver_place-place.ensures,
  c.deref.ensures.len,
  place_within (λ w. is_before c.args.ver.srel w.srel) c.deref.result.now,
)
