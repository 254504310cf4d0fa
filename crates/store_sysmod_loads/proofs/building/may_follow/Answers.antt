use Rattle.std.proofs.Common.{◌≡◌, ◌≢◌, ◌↔◌, IsTrue, rules, subst₂}
use Rattle.terms.specs.Lookups.{is_before}
use Rattle.terms.specs.Types.{Ver}
use Rattle.store_schema.specs.Forms.{AreVersApart}
use Rattle.store_sysmod_loads.proofs.VersApart.{apart_same, apart_other}
use Rattle.store_sysmod_loads.proofs.building.may_follow.Goals as goal

pub returns-then-eq : goal.returns-then-eq
returns-then-eq c =
    let same : c.ver.inside.srel ≡ c.other.inside.srel = search rules in
    subst₂ (λ (v w : Ver). IsTrue c.may_share_srel.result ↔ AreVersApart c.args.kind v w) c.ver.view_is c.other.view_is
    (apart_same c.args.kind _ _ c.may_share_srel.result same c.may_share_srel.ensures)

pub returns : goal.returns
returns c =
    let other : c.ver.inside.srel ≢ c.other.inside.srel = search rules in
    let told : c.lt.result ≡ is_before c.ver.inside.srel c.other.inside.srel = search rules in
    subst₂ (λ (v w : Ver). IsTrue c.lt.result ↔ AreVersApart c.args.kind v w) c.ver.view_is c.other.view_is
    (apart_other c.args.kind _ _ c.lt.result other told)
