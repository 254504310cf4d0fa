use Rattle.std.proofs.Common.{◌≡◌, [], ◌++◌, ap, refl, rules, subst, sym}
use Rattle.report.specs.Sent.{Sends}
use Rattle.report.proofs.Paging.{paged_then, paged_out}
use Rattle.report.proofs.page.Page.print.Goals as goal

pub returns-then-is_err-clause-paged : goal.returns-then-is_err-clause-paged
returns-then-is_err-clause-paged g c =
    let none = c.flush.ensures.waiting in
    let kept : c.try_extend_from_slice-2.new.self.items ≡ [] = search rules in
    let same : c.try_extend_from_slice.new.self.items ≡ c.args.self.now.waiting.items = search rules in
    let print =
    paged_then _ _ _ _ _ _ _ _ c.flush.ensures.paged
    (paged_out _ _ _ _ _ refl
    (subst (Sends _ _ _ _) (ap (λ w. w ++ c.args.piece.now) (sym none)) c.write_all.ensures.sends) kept) in
    rw same at print
