-- REPORT ERRSYSMODS has one list of lines at most.
use Rattle.std.proofs.Common.{◌≡◌, List, sym, ◌∙◌, ap}
use Rattle.std.specs.Prelude.{map, filter}
use Rattle.std.specs.List.{flat_map}
use Rattle.std.proofs.Math.Path.{fun_ext}
use Rattle.terms.specs.Types.{Id, Entry, Hold, Global, Zone}
use Rattle.terms.proofs.RisingAlike.{rises_only}
use Rattle.machine.specs.Outcome.{Line, ErrsysmodLine}
use Rattle.machine.specs.Errsysmods.{open_errors, is_current, AreErrsysmods}
use Rattle.std.proofs.lemmas.Cmp.{nat_list_cmp_total}

-- the lines, given what resolves each reason
abbrev lines_by : Global → Zone → (Id → List Id) → List Line
lines_by g zone resolvers =
    flat_map (λ (e : Entry). map (λ (h : Hold). ErrsysmodLine e.id h.reason (resolvers h.reason))
    (open_errors g zone e))
    (filter is_current zone.entries)

pub errsysmods_only : (g : Global) (zone : Zone) (lines others : List Line) → AreErrsysmods g zone lines
    → AreErrsysmods g zone others → lines ≡ others
errsysmods_only g zone lines others a b =
    let same : a.resolvers ≡ b.resolvers = fun_ext (λ reason.
    rises_only nat_list_cmp_total (λ x. x) (a.resolvers reason) (b.resolvers reason) (a.rising reason) (b.rising reason)
    (λ y there. (b.all reason y).1 ((a.all reason y).0 there))
    (λ y there. (a.all reason y).1 ((b.all reason y).0 there))) in
    a.lines_are ∙ ap (lines_by g zone) same ∙ sym b.lines_are
