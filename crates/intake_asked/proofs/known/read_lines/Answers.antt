use Rattle.std.proofs.Common.{◌∙◌, ◌++◌, ◌∷◌, [], map, ap, sym, subst, refl, inl, inr, append_assoc, append-nil}
use Rattle.std.proofs.Common.{arith}
use Rattle.std.proofs.lemmas.List.{take_all}
use Rattle.intake_asked.specs.Known.{LinesBecome}
use Rattle.intake_asked.proofs.Listed.{lines_at}
use Rattle.intake_asked.proofs.known.read_lines.Goals as goal

pub loop-line-init : goal.loop-line-init
loop-line-init c = ([], sym (append-nil c.args.sysmods.items), refl)

pub loop-line-preserved-then-is_rule : goal.loop-line-preserved-then-is_rule
loop-line-preserved-then-is_rule c =
    let l = c.loop-line in (
      l.invariant.0,
      l.invariant.1,
      subst (LinesBecome _) (append-nil l.invariant.0)
          (lines_at (λ line. line.now) c.args.lines.now l.line-index _ l.invariant.0 [] c.loop-line-test.true
          l.invariant.2 (inl (sym c.is_rule.ensures ∙ c.if-is_rule.true, refl))),
    )

pub loop-line-preserved : goal.loop-line-preserved
loop-line-preserved c =
    let l = c.loop-line in
    let k = c.in-Some.sysmod in (
      l.invariant.0 ++ k ∷ [],
      c.in_ok-push.ensures.items ∙ ap (λ xs. xs ++ k ∷ []) l.invariant.1
          ∙ append_assoc c.args.sysmods.items l.invariant.0 (k ∷ []),
      lines_at (λ line. line.now) c.args.lines.now l.line-index _ l.invariant.0 (k ∷ []) c.loop-line-test.true
          l.invariant.2 (inr (k, refl, rw c.in-Some.is at c.in_ok-sysmod.ensures.some)),
    )

pub returns : goal.returns
returns c =
    let l = c.loop-line in (
      l.invariant.0,
      l.invariant.1,
      subst (λ ls. LinesBecome (map (λ line. line.now) ls) l.invariant.0)
          (take_all l.line-index c.args.lines.now (omega arith)) l.invariant.2,
    )
