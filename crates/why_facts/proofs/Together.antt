-- All facts of an id, part by part.
use Rattle.std.proofs.Common.{◌≡◌, ◌∙◌, List, ◌++◌, map, ap, ap₂}
use Rattle.std.proofs.lemmas.List.{map-append}
use Rattle.terms.specs.Beside.{Beside}
use Rattle.terms.specs.Types.{Id}
use Rattle.terms.specs.Lookups.{changes_of}
use Rattle.terms.specs.Tests.{Setting}
use Rattle.report.specs.Facts.{requisites as requisites_in, holds_on, standing_facts, ver_facts, delete_facts}
use Rattle.report.specs.Facts.{SupersederFact, AreSuperseders, npre_facts, IsRequisiteFact, IsHoldFact, IsElementFact, AreOrphans, AreAsked}
use Rattle.report.specs.Facts.{AreOfChanges, AreFacts}
use Rattle.report.specs.declared.fact as code
use Rattle.report.specs.FactViews.{fact_view}
use Rattle.why_facts.specs.Needed.{AreNeeded}
use Rattle.why_facts.proofs.Besides.{beside_map}

-- a list behind another, seen through a function
pub seen_behind : {X Y : Type 0} (f : X → Y) (all front back : List X) (seen more : List Y) → all ≡ front ++ back
    → map f front ≡ seen → map f back ≡ more → map f all ≡ seen ++ more
seen_behind f all front back seen more is first second =
    ap (map f) is ∙ map-append f front back ∙ ap₂ (λ a b. a ++ b) first second

module _ (s : Setting) (x : Id) where
  pub are_asked : (all r h : List code.Fact.Fact) → all ≡ r ++ h
      → ((lost : List Id) × AreOrphans s x lost
      × Beside (λ n q fact. IsRequisiteFact s x q (fact_view fact)) (requisites_in s x lost) r)
      → Beside (λ n q fact. IsHoldFact s x q (fact_view fact)) (holds_on s.global x) h
      → AreAsked s x (map fact_view all)
  are_asked all r h is requisites holds = record {
    orphans = requisites.0;
    orphans_are = requisites.1;
    of_requisites = map fact_view r;
    requisites_are = beside_map (IsRequisiteFact s x) fact_view (requisites_in s x requisites.0) r requisites.2;
    of_holds = map fact_view h;
    holds_are = beside_map (IsHoldFact s x) fact_view (holds_on s.global x) h holds;
    facts_are = ap (map fact_view) is ∙ map-append fact_view r h;
  }

  pub are_of_changes : (all e d p : List code.Fact.Fact) → all ≡ (e ++ d) ++ p
      → Beside (λ n h fact. IsElementFact s x h (fact_view fact)) (changes_of s.global x) e
      → map fact_view d ≡ delete_facts s x → map fact_view p ≡ npre_facts s x → AreOfChanges s x (map fact_view all)
  are_of_changes all e d p is elements deletes forbids = record {
    of_elements = map fact_view e;
    elements_are = beside_map (IsElementFact s x) fact_view (changes_of s.global x) e elements;
    facts_are = ap (map fact_view) is ∙ map-append fact_view (e ++ d) p
        ∙ ap₂ (λ a b. a ++ b) (map-append fact_view e d ∙ ap (λ l. map fact_view e ++ l) deletes) forbids;
  }

  pub are_facts : (all o a c n : List code.Fact.Fact) → all ≡ ((o ++ a) ++ c) ++ n
      → ((superseders : List Id) × AreSuperseders s x superseders
      × (map fact_view o
      ≡ standing_facts s.global s.zone x ++ map SupersederFact superseders ++ ver_facts s x))
      → AreAsked s x (map fact_view a)
      → AreOfChanges s x (map fact_view c) → AreNeeded s.global s.zone x (map fact_view n)
      → AreFacts s x (map fact_view all)
  are_facts all o a c n is own asked changes needed = record {
    superseders = own.0;
    superseders_are = own.1;
    asked = map fact_view a;
    asked_are = asked;
    changes = map fact_view c;
    changes_are = changes;
    needed_by = needed.ids;
    needed_rising = needed.rising;
    needed = needed.needed;
    facts_are = ap (map fact_view) is ∙ map-append fact_view ((o ++ a) ++ c) n
        ∙ ap₂ (λ l m. l ++ m)
        (map-append fact_view (o ++ a) c ∙ ap (λ l. l ++ map fact_view c)
        (map-append fact_view o a ∙ ap (λ l. l ++ map fact_view a) own.2))
        needed.facts_are;
  }
