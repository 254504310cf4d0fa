-- When the facts of a certificate are those of a decision.
use Rattle.std.specs.Prelude.{◌≡◌, ◌↔◌, ◌++◌, List, All, Contains}
use Rattle.terms.specs.declared.codes.NeedKind.{NeedKind}
use Rattle.terms.specs.Types.{Id}
use Rattle.terms.specs.Judging.{Judging}
use Rattle.smpe_certificate.specs.declared.facts.IneligibleFact.{IneligibleFact}
use Rattle.smpe_certificate.specs.declared.facts.ServedFact.{ServedFact}
use Rattle.smpe_certificate.specs.Facts.{Dropped, Certificate}
use Rattle.smpe_certificate.specs.Accepted.{ineligible_ids, dropped_ids, DropInOrder}

module _ (judging : Judging) (kept : List Id) where
  -- a candidate that fails the test
  abbrev pub IsIneligible : IneligibleFact → Type 0
  IsIneligible f = Contains judging.cands f.id × judging.fails f.id f.test

  -- an eligible candidate with this need, and the candidates that could serve it
  pub record IsDropped (f : Dropped) : Type 0 where
    pub eligible : judging.eligible f.id
    pub needs : judging.needs f.id f.kind f.needed
    pub servers : (y : Id) → Contains f.servers y ↔ (Contains judging.cands y × judging.serves f.kind y f.needed)

  -- a kept candidate with this need, and a kept one that serves it
  pub record IsServed (f : ServedFact) : Type 0 where
    pub of_kept : Contains kept f.id
    pub needs : judging.needs f.id f.kind f.needed
    pub by_kept : Contains kept f.by
    pub cand : Contains judging.cands f.by
    pub serves : judging.serves f.kind f.by f.needed

  -- The facts are true, each candidate is in one of the three lists, and each need of a kept one is there. The dropped
  -- ones are in an order in which they are dropped.
  pub record IsCertificate (c : Certificate) : Type 0 where
    pub ineligible : All IsIneligible c.ineligible
    pub dropped : All IsDropped c.dropped
    pub kept_are : c.kept ≡ kept
    pub served : All IsServed c.served
    pub all_ineligible : (x : Id) → Contains judging.cands x → (¬ judging.eligible x) → Contains (ineligible_ids c) x
    pub all_dropped : (x : Id) → judging.eligible x → (¬ Contains kept x) → Contains (dropped_ids c) x
    pub all_served : (x z : Id) (kind : NeedKind) → Contains kept x → judging.needs x kind z
        → (f : ServedFact) × Contains c.served f × (f.id ≡ x) × (f.kind ≡ kind) × (f.needed ≡ z)
    pub in_order : DropInOrder (λ f y. Contains f.servers y) (ineligible_ids c) c.dropped
    pub apart : (x : Id) → Contains kept x → ¬ Contains (ineligible_ids c ++ dropped_ids c) x
