use Rattle.std.proofs.Common.{◌∙◌, ap, map, refl, subst, sym}
use Rattle.terms.specs.Types.{Sysmod, Hold}
use Rattle.report.specs.Paged.{Paged}
use Rattle.report.proofs.Listings.{mark_is}
use Rattle.std.specs.List.{flat_map}
use Rattle.std.proofs.lemmas.List.Concat.{flat_map-append}
use Rattle.machine.specs.Outcome.{SysmodLine, HoldLine}
use Rattle.machine.specs.Report.{line_text}
use Rattle.report.proofs.Paging.{paged_then, paged_as}
use Rattle.report.proofs.UnderWay.{under_way_first, under_way_more, under_way_last}
use Rattle.report.proofs.global_lines.print_global.Goals as goal

pub loop-sysmod-init : goal.loop-sysmod-init
loop-sysmod-init g c =
    under_way_first _ _ _ _
    (ap (λ l. flat_map line_text (map (λ s. SysmodLine s.id s.kind s.sources) l))
    (sym (c.into_iter-sysmod-iterator.ensures.into_iter_gives ∙ c.sysmods-sysmod-items.ensures.rest)))

pub loop-sysmod-preserved : goal.loop-sysmod-preserved
loop-sysmod-preserved g c =
    under_way_more _ _ _ _ _ _ _ _ _ _ c.loop-sysmod.invariant
    (ap (λ l. flat_map line_text
    (map (λ s. SysmodLine s.id s.kind s.sources) l)) c.in-Some.ensures.steps)
    (subst (λ (x : Sysmod). Paged g.W.Sink c.loop-sysmod.page c.print_words.new.page
    (line_text (SysmodLine x.id x.kind x.sources))) c.sysmod.view_is
    (paged_as _ _ _ _ _ _ (rw (c.as_bytes.ensures.same, c.kind_text.ensures, c.as_slice.ensures.items) refl)
    c.print_words.ensures.paged))

pub loop-hold-init : goal.loop-hold-init
loop-hold-init g c =
    under_way_first _ _ _ _
    (ap (λ l. flat_map line_text (map (λ h. HoldLine h.id h.kind h.reason h.internal) l))
    (sym (c.into_iter-hold-iterator.ensures.into_iter_gives ∙ c.holds-hold-items.ensures.rest)))

pub loop-hold-preserved : goal.loop-hold-preserved
loop-hold-preserved g c =
    under_way_more _ _ _ _ _ _ _ _ _ _ c.loop-hold.invariant
    (ap (λ l. flat_map line_text
    (map (λ h. HoldLine h.id h.kind h.reason h.internal) l)) c.in-Some-hold.ensures.steps)
    (subst (λ (x : Hold). Paged g.W.Sink c.loop-hold.page c.print_words-in-loop-hold.new.page
    (line_text (HoldLine x.id x.kind x.reason x.internal))) c.hold.view_is
    (paged_as _ _ _ _ _ _
    (rw (
      c.as_bytes-in-loop-hold.ensures.same,
      c.hold_text.ensures,
      c.as_bytes-in-loop-hold-2.ensures.same,
      mark_is
          c.hold.inside.internal,
    ) refl)
    c.print_words-in-loop-hold.ensures.paged))

pub returns : goal.returns
returns g c =
    paged_as _ _ _ _ _ _
    (sym (flat_map-append line_text (map (λ s. SysmodLine s.id s.kind s.sources) c.args.global.now.sysmods)
    (map (λ h. HoldLine h.id h.kind h.reason h.internal) c.args.global.now.holds)))
    (paged_then _ _ _ _ _ _ _ _
    (under_way_last _ _ _ _ _ _ c.loop-sysmod.invariant
    (ap (λ l. flat_map line_text (map (λ s. SysmodLine s.id s.kind s.sources) l)) c.in-None.ensures.steps.0))
    (under_way_last _ _ _ _ _ _ c.loop-hold.invariant
    (ap (λ l. flat_map line_text (map (λ h. HoldLine h.id h.kind h.reason h.internal) l))
    c.in-None-hold.ensures.steps.0)))
