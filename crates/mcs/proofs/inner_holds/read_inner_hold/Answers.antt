use Rattle.std.proofs.Common.{◌∙◌, sym, List}
use Rattle.std.proofs.lemmas.Bool.{true≢false}
use Rattle.terms.specs.Types.{Hold}
use Rattle.terms.specs.Words.{Word, HasWords}
use Rattle.terms.specs.HoldStatements.{IsHoldOf}
use Rattle.std.proofs.lemmas.Result.{err_from_is_err_and}
use Rattle.mcs.specs.KnownWords.{own_list}
use Rattle.rec80.proofs.Failing.{excludes_more}
use Rattle.mcs.proofs.Holding.{OwnHoldOf, not_own, own_hold}
use Rattle.mcs.proofs.inner_holds.read_inner_hold.Goals as goal

pub returns-in_err-hold-clause-bad : goal.returns-in_err-hold-clause-bad
returns-in_err-hold-clause-bad c = λ rest h printable.
    let p = err_from_is_err_and c.from_residual.result c.from_residual.ensures.1 in
    let own = own_list c.args.known.now in
    let Own : Type 0 = (x : Hold) × OwnHoldOf c.args.sysmod.now own rest x in
    let Any : Type 0 = (ws : List Word) × (x : Hold) × HasWords rest ws × IsHoldOf own ws x in
    let pick : Own → Any = λ x. (x.1.0, x.0, x.1.1, x.1.2.hold) in
    rw (p.1, p.2) (excludes_more c.in_err-hold.field-0.0 Any Own pick (c.in_err-hold.ensures.bad rest h printable))

pub returns-then-not-is_own_system_hold-clause-bad : goal.returns-then-not-is_own_system_hold-clause-bad
returns-then-not-is_own_system_hold-clause-bad c = λ rest h printable x.
    let r = c.in_ok-hold.ensures.ok rest h in
    not_own c.args.sysmod.now (own_list c.args.known.now) rest r.0 c.in_ok-hold.hold r.1 r.2
    (λ at. true≢false (sym (c.is_own_system_hold.ensures.1 at) ∙ c.if-not-is_own_system_hold.true)) x.0 x.1

pub returns-clause-ok : goal.returns-clause-ok
returns-clause-ok c = λ rest h.
    let r = c.in_ok-hold.ensures.ok rest h in
    own_hold c.args.sysmod.now (own_list c.args.known.now) rest r.0 c.in_ok-hold.hold r.1 r.2
    (c.is_own_system_hold.ensures.0 c.if-not-is_own_system_hold.false) c.in_ok-hold.ensures.internal
