use Rattle.std.proofs.Common.{◌∙◌, sym, ap, subst, rules}
use Rattle.terms.specs.Types.{a_global}
use Rattle.terms.specs.Global.{IsGlobal, received}
use Rattle.sysmods.specs.Refused.{HasNoFault, IsRefused}
use Rattle.sysmods.proofs.Receiving.{is_new, taken, kept, no_fault, same_refusal}
use Rattle.sysmods.proofs.global_zone.GlobalZone.receive.Goals as goal

pub check_receivable-requires : goal.check_receivable-requires
check_receivable-requires c = record { no_loop = c.self.invariant.no_loop; roles = c.self.invariant.roles }

pub insert_with_holds-requires : goal.insert_with_holds-requires
insert_with_holds-requires c =
    let xs = c.self.inside.sysmods in
    let hs = c.self.inside.holds in
    is_new xs hs c.args.sysmod (no_fault xs hs c.args.sysmod c.in_ok-check_receivable.ensures.ok)

pub invariant_of-self-2 : goal.invariant_of-self-2
invariant_of-self-2 c =
    let xs = c.self.inside.sysmods in
    let hs = c.self.inside.holds in
    let g = a_global xs hs in
    let s = c.args.sysmod in
    subst IsGlobal (sym (taken g s c.insert_with_holds.new.sysmods c.insert_with_holds.new.holds
    c.in_ok-insert_with_holds.ensures.sysmods c.in_ok-insert_with_holds.ensures.holds))
    (kept g s c.self.invariant c.attest.ensures (no_fault xs hs s c.in_ok-check_receivable.ensures.ok))

pub returns-clause-ok : goal.returns-clause-ok
returns-clause-ok c =
    let xs = c.self.inside.sysmods in
    let hs = c.self.inside.holds in
    let s = c.args.sysmod in (
      subst (λ g. HasNoFault g s) c.self.view_is (no_fault xs hs s c.in_ok-check_receivable.ensures.ok),
      taken (a_global xs hs) s c.insert_with_holds.new.sysmods c.insert_with_holds.new.holds
          c.in_ok-insert_with_holds.ensures.sysmods c.in_ok-insert_with_holds.ensures.holds
          ∙ ap (λ g. received g s) c.self.view_is,
    )

pub returns-in_err-check_receivable-clause-refused : goal.returns-in_err-check_receivable-clause-refused
returns-in_err-check_receivable-clause-refused c =
    let xs = c.self.inside.sysmods in
    let hs = c.self.inside.holds in
    let s = c.args.sysmod in
    let why = c.in_err-check_receivable.field-0.0 in
    let refused : IsRefused c.args.self.now s why = subst (λ g. IsRefused g s why) c.self.view_is
    (same_refusal xs hs s why c.in_err-check_receivable.ensures.refused) in
    search rules
