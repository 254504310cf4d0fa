-- The answers, by what was found.
use Rattle.std.proofs.Common.{◌≡◌, ◌≢◌, ◌∙◌, List, [], map, sym, ap, subst, Contains}
use Rattle.std.specs.Prelude.{◌↔◌}
use Rattle.terms.specs.Types.{Text, Id, Global}
use Rattle.machine.specs.Outcome.{Line}
use Rattle.report.specs.Views.{line_view}
use Rattle.smpe_mend.specs.declared.growing.Tried.{Tried}
use Rattle.smpe_mend.specs.Runs.{Asked, Runs}
use Rattle.smpe_mend.specs.Asked.{concern}
use Rattle.smpe_mend.specs.Growth.{Repairs}
use Rattle.smpe_mend.specs.Mends.{Answers, HasPlan, HasNone, HasMissing, IsMinimal, IsHopeless}
use Rattle.smpe_mend.specs.Words.{plan_text, refusal_text, missing_ids, missing_text}

pub plan_answer : (g found left : Global) (a : Asked) (t : Tried) (text : Text) → found ≡ g → left ≡ found
    → Repairs found a t → IsMinimal found a t.actions.items
    → text ≡ plan_text left a t.actions.items (map line_view t.lines.items) → Answers g a text 0
plan_answer g found left a t text first second repairs minimal is =
    subst (λ words. Answers g a words 0)
    (sym (is ∙ ap (λ h. plan_text h a t.actions.items (map line_view t.lines.items)) (second ∙ first)))
    (HasPlan t.actions.items (map line_view t.lines.items) (subst (λ h. Repairs h a t) first repairs)
    (subst (λ h. IsMinimal h a t.actions.items) first minimal))

pub none_answer : (g : Global) (a : Asked) (t : Tried) (concerned : List Id) (text : Text)
    → IsHopeless g a t.actions.items (map line_view t.lines.items)
    → ((x : Id) → Contains concerned x ↔ Contains (concern a.ids (map line_view t.lines.items)) x)
    → text ≡ refusal_text a.ids concerned (map line_view t.lines.items) → Answers g a text 8
none_answer g a t concerned text hopeless members is =
    subst (λ words. Answers g a words 8) (sym is)
    (HasNone t.actions.items (map line_view t.lines.items) hopeless concerned members)

pub missing_answer : (g : Global) (a : Asked) (lines : List Line) (missing : List Id) (text : Text) → Runs g a [] lines
    → missing ≡ missing_ids lines → missing ≢ [] → text ≡ missing_text missing → Answers g a text 12
missing_answer g a lines missing text runs missing_is some is =
    subst (λ words. Answers g a words 12) (sym (is ∙ ap missing_text missing_is))
    (HasMissing lines runs (λ none. some (missing_is ∙ none)))
