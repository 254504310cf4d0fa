-- What a reader of a certificate looks at: only what it states.
use Rattle.std.specs.Prelude.{◌≡◌, ◌⊎◌, ⊤, List, [], ◌∷◌, ◌++◌, All, Contains, map}
use Rattle.terms.specs.declared.codes.NeedKind.{NeedKind}
use Rattle.terms.specs.Types.{Id}
use Rattle.terms.specs.Judging.{Judging}
use Rattle.smpe_certificate.specs.declared.facts.IneligibleFact.{IneligibleFact}
use Rattle.smpe_certificate.specs.declared.facts.ServedFact.{ServedFact}
use Rattle.smpe_certificate.specs.Facts.{Dropped, Certificate}

abbrev pub ineligible_ids : Certificate → List Id
ineligible_ids c = map (λ f. f.id) c.ineligible

abbrev pub dropped_ids : Certificate → List Id
dropped_ids c = map (λ f. f.id) c.dropped

-- it states that x needs z: a dropped candidate, or a kept one
abbrev pub StatesNeed : Certificate → Id → NeedKind → Id → Type 0
StatesNeed c x kind z =
    ((f : Dropped) × Contains c.dropped f × (f.id ≡ x) × (f.kind ≡ kind) × (f.needed ≡ z))
    ⊎ ((f : ServedFact) × Contains c.served f × (f.id ≡ x) × (f.kind ≡ kind) × (f.needed ≡ z))

-- it states that y serves a need for z: among the servers of a dropped one's need, or for a kept one
abbrev pub StatesServer : Certificate → NeedKind → Id → Id → Type 0
StatesServer c kind y z =
    ((f : Dropped) × Contains c.dropped f × (f.kind ≡ kind) × (f.needed ≡ z) × Contains f.servers y)
    ⊎ ((f : ServedFact) × Contains c.served f × (f.kind ≡ kind) × (f.needed ≡ z) × (f.by ≡ y))

-- Each of them is dropped once all that may serve its need are out, and is then out too.
abbrev pub DropInOrder : (Dropped → Id → Type 0) → List Id → List Dropped → Type 0
DropInOrder MayServe out [] = ⊤
DropInOrder MayServe out (f ∷ fs) =
    (¬ Contains out f.id) × ((y : Id) → MayServe f y → Contains out y)
    × DropInOrder MayServe (out ++ f.id ∷ []) fs

-- The ineligible ids are out, and then the dropped ones, in their order. No kept id is out, and each need of a kept id
-- is served by a kept id.
pub record IsAccepted (c : Certificate) : Type 0 where
  pub in_order : DropInOrder (λ f y. StatesServer c f.kind y f.needed) (ineligible_ids c) c.dropped
  pub apart : (x : Id) → Contains c.kept x → ¬ Contains (ineligible_ids c ++ dropped_ids c) x
  pub served : All (λ f. Contains c.kept f.id × Contains c.kept f.by) c.served

-- the system that it states
abbrev pub stated : Certificate → Judging
stated c = record {
  cands = ineligible_ids c ++ dropped_ids c ++ c.kept;
  fails = λ x test. (f : IneligibleFact) × Contains c.ineligible f × (f.id ≡ x) × (f.test ≡ test);
  eligible = λ x. Contains (dropped_ids c ++ c.kept) x;
  needs = StatesNeed c;
  serves = StatesServer c;
}
