use Rattle.std.proofs.Common.{◌≡◌, ◌∙◌, sym, ap, subst, refl, false, true≢false, rules, All, get_or, inl, inr, arith}
use Rattle.std.proofs.lemmas.List.{get_or_default}
use Rattle.std.proofs.lemmas.Bool.{cases_eq}
use Rattle.std.specs.List.{list_any}
use Rattle.terms.specs.Lookups.{is_in}
use Rattle.terms.specs.Over.{Reaches}
use Rattle.terms.specs.Global.{named, names_for, with_sysmod}
use Rattle.terms.proofs.Loops.{no_loop_unnamed, no_loop_from_search}
use Rattle.sysmods.specs.Held.{zone_of}
use Rattle.sysmods.proofs.Named.{own_unnamed, others_unnamed}
use Rattle.sysmods.proofs.loops.makes_loop.Goals as goal

pub returns-then-not-names : goal.returns-then-not-names
returns-then-not-names c =
    let xs = c.args.received.now in
    let s = c.args.sysmod.now in
    let id : c.sysmod.inside.id ≡ s.id = ap (λ r. r.id) c.sysmod.view_is in
    let unnamed : c.is_named.result ≡ false = search rules in
    let own : c.names.result ≡ false = search rules in (
      λ e. absurd (true≢false (sym e)),
      λ loop. absurd (no_loop_unnamed (zone_of xs) s c.requires.no_loop
          (others_unnamed xs s.id (subst (λ z. list_any (λ r. list_any (λ v. is_in (named v) z) r.vers) xs ≡ false) id
          (sym c.is_named.ensures ∙ unnamed)))
          (own_unnamed s.vers s.id (subst (λ z. list_any (λ v. is_in (named v) z) s.vers ≡ false) id
          (sym c.names.ensures ∙ own)))
          loop),
    )

pub returns-then-branch : goal.returns-then-branch
returns-then-branch c = (
  λ t. (c.ver.inside.srel, c.args.sysmod.now.id, c.in_ok-leads_back.ensures.0 c.if-branch.true),
  λ loop. refl,
)

pub loop-ver-preserved : goal.loop-ver-preserved
loop-ver-preserved c = λ k d below reached.
    let items = c.deref-ver-items.result.now in
    let i = c.loop-ver.ver-index in
    let same : (get_or items i d).srel ≡ c.ver.inside.srel =
    ap (λ v. v.srel) (get_or_default items i d c.ver-item.result (omega arith) ∙ sym c.ver-item.is
    ∙ sym c.ver.view_is) in
    elim (cases_eq k i) [
      | inl here ↦ true≢false (sym (c.in_ok-leads_back.ensures.1
          (subst (λ srel. Reaches (names_for (with_sysmod (zone_of c.args.received.now) c.args.sysmod.now) srel)
          c.args.sysmod.now.id c.args.sysmod.now.id)
          (ap (λ n. (get_or items n d).srel) here ∙ same) reached)) ∙ c.if-branch.false)
      | inr other ↦ c.loop-ver.invariant k d (omega arith) reached
    ]

pub returns : goal.returns
returns c = (
  λ e. absurd (true≢false (sym e)),
  λ loop. absurd (no_loop_from_search (zone_of c.args.received.now) c.args.sysmod.now c.requires.no_loop
      (subst (λ vs. All (λ v. ¬ Reaches (names_for (with_sysmod (zone_of c.args.received.now) c.args.sysmod.now) v.srel)
      c.args.sysmod.now.id c.args.sysmod.now.id) vs)
      (c.deref-ver-items.ensures.value ∙ ap (λ r. r.vers) c.sysmod.view_is)
      (λ i d below. c.loop-ver.invariant i d (omega arith))) loop),
)
