use Rattle.std.proofs.Common.{◌≡◌, true, false, rules, ap}
use Rattle.store_sysmod_loads.specs.Built.{sysmod_from}
use Rattle.store_sysmod_loads.proofs.building.build_sysmod.Goals as goal

pub returns-then-not-may_have_vers-clause-none : goal.returns-then-not-may_have_vers-clause-none
returns-then-not-may_have_vers-clause-none c bad h =
    let may : c.may_have_vers.result ≡ true = c.may_have_vers.ensures.1 (rw c.as_slice.ensures.value (h.suits, h.apart))
    in
    let may_not : c.may_have_vers.result ≡ false = c.if-not-may_have_vers.true in
    absurd cc

pub returns-then-not-may_have_changes-clause-none : goal.returns-then-not-may_have_changes-clause-none
returns-then-not-may_have_changes-clause-none c bad h =
    let may : c.may_have_changes.result ≡ true = c.may_have_changes.ensures.1
    (rw c.as_slice-2.ensures.value (h.does, h.changes)) in
    let may_not : c.may_have_changes.result ≡ false = c.if-not-may_have_changes.true in
    absurd cc

pub returns-clause-some : goal.returns-clause-some
returns-clause-some c =
    let (suits, apart) = rw c.as_slice.ensures.value at (c.may_have_vers.ensures.0 c.if-not-may_have_vers.false) in
    let (does, changes) = rw c.as_slice-2.ensures.value at (c.may_have_changes.ensures.0
    c.if-not-may_have_changes.false) in (
      ap (λ holds. record (sysmod_from c.args.head c.args.vers.items c.args.changes.items) { holds = holds })
          c.new.ensures.items,
      record { some = search rules; suits = suits; apart = apart; most = c.requires; does = does; changes = changes },
    )
