use Rattle.std.proofs.Common.{◌∙◌, ap}
use Rattle.terms.specs.Types.{Sysmod}
use Rattle.mcs.specs.KnownWords.{own_list}
use Rattle.mcs.proofs.Ordering.{second_ver}
use Rattle.mcs.proofs.order.is_duplicate_ver.Goals as goal

pub returns-in-Some : goal.returns-in-Some
returns-in-Some c = λ rest h.
    second_ver c.args.sysmod.now c.args.known.now.word (own_list c.args.known.now) rest c.sysmod.inside.kind
    c.deref.result.now c.in-Some.srel c.named_fmid.result c.any_excludes_another.result
    (ap (λ (s : Sysmod). s.kind) c.sysmod.view_is)
    (c.deref.ensures.value ∙ ap (λ (s : Sysmod). s.vers) c.sysmod.view_is) c.requires c.in-Some.ensures.one
    (c.named_fmid.ensures.some rest h) (c.named_fmid.ensures.none rest h) c.any_excludes_another.ensures
