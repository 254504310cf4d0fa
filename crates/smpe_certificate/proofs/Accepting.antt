-- Certificates of decisions are accepted, and accepted ones keep the greatest set.
use Rattle.std.proofs.Common.{List, [], ◌∷◌, ◌++◌, map, get_or, refl, sym, subst, inl, inr, Contains}
use Rattle.std.specs.Prelude.{IsTrue, Bool}
use Rattle.std.specs.List.{All}
use Rattle.std.proofs.lemmas.List.Elements.{All-head, All-tail, All-contains, Contains-get_or, Contains-append_left}
use Rattle.std.proofs.lemmas.List.Elements.{Contains-append_right, Contains-append_cases}
use Rattle.std.proofs.lemmas.List.Elements.{Contains-push_cases}
use Rattle.terms.proofs.Ids.{is_in_from_Contains, Contains_from_is_in}
use Rattle.terms.proofs.ListMembers.{here_or, none_in, in_map}
use Rattle.terms.specs.Types.{Id}
use Rattle.terms.specs.Judged.{install_judging}
use Rattle.terms.specs.Judging.{Judging}
use Rattle.terms.specs.Kept.{SupportsItself}
use Rattle.smpe_certificate.specs.Facts.{Dropped, Certificate}
use Rattle.smpe_certificate.specs.Accepted.{IsAccepted, StatesServer, DropInOrder, ineligible_ids, dropped_ids, stated}
use Rattle.smpe_certificate.specs.Certificate.{IsCertificate, IsDropped, IsServed}
use Rattle.smpe_certificate.specs.Laws.{CertificateAccepted, AcceptedIsGreatest}

-- whoever may serve by the second rule may serve by the first
in_order_by : (May May' : Dropped → Id → Type 0) (out : List Id) (fs : List Dropped)
    → All (λ f. (y : Id) → May' f y → May f y) fs → DropInOrder May out fs → DropInOrder May' out fs
in_order_by May May' out [] all order = tt
in_order_by May May' out (f ∷ fs) all order = (
  order.0,
  (λ y may. order.1 y (All-head (λ g. (z : Id) → May' g z → May g z) f fs all y may)),
  in_order_by May May' (out ++ f.id ∷ []) fs (All-tail (λ g. (z : Id) → May' g z → May g z) f fs all) order.2,
)

-- what a certificate of a decision states to serve a dropped one's need is among that one's servers
stated_servers : (judging : Judging) (kept : List Id) (c : Certificate) → IsCertificate judging kept c
    → All (λ f. (y : Id) → StatesServer c f.kind y f.needed → Contains f.servers y) c.dropped
stated_servers judging kept c is k d below y states =
    let f = get_or c.dropped k d in
    let own = is.dropped k d below in
    elim states [
      | inl g ↦
          let other : IsDropped judging kept g.0 = All-contains (IsDropped judging kept) c.dropped g.0 is.dropped g.1 in
          let serves = (other.servers y).0 g.4 in
          (own.servers y).1 (
            serves.0,
            subst (λ z. judging.serves f.kind y z) g.3
                (subst (λ kind. judging.serves kind y g.0.needed) g.2 serves.1),
          )
      | inr g ↦
          let met : IsServed judging kept g.0 = All-contains (IsServed judging kept) c.served g.0 is.served g.1 in
          subst (Contains f.servers) g.4 ((own.servers g.0.by).1 (
            met.cand,
            subst (λ z. judging.serves f.kind g.0.by z)
                g.3 (subst (λ kind. judging.serves kind g.0.by g.0.needed) g.2 met.serves),
          ))
    ]

certificate_accepted_by : (judging : Judging) (kept : List Id) (c : Certificate) → IsCertificate judging kept c
    → IsAccepted c
certificate_accepted_by judging kept c is = record {
  in_order = in_order_by (λ f y. Contains f.servers y) (λ f y. StatesServer c f.kind y f.needed) (ineligible_ids c)
      c.dropped (stated_servers judging kept c is) is.in_order;
  apart = λ x inside. is.apart x (subst (λ ids. Contains ids x) is.kept_are inside);
  served = λ k d below.
      let met = is.served k d below in (
        subst (λ ids. Contains ids (get_or c.served k d).id) (sym is.kept_are) met.of_kept,
        subst (λ ids. Contains ids (get_or c.served k d).by) (sym is.kept_are) met.by_kept,
      );
}

pub certificate_accepted : CertificateAccepted
certificate_accepted s survivors kept c is = certificate_accepted_by (install_judging s survivors) kept c is

-- none of the dropped ones was out before
fresh : (May : Dropped → Id → Type 0) (out : List Id) (fs : List Dropped) → DropInOrder May out fs
    → (x : Id) → Contains out x → Contains (map (λ f. f.id) fs) x → ⊥
fresh May out [] order x is_out dropped = none_in x dropped
fresh May out (f ∷ fs) order x is_out dropped = elim (here_or f.id (map (λ (g : Dropped). g.id) fs) x dropped) [
  | inl same ↦ order.0 (subst (Contains out) (sym same) is_out)
  | inr later ↦ fresh May (out ++ f.id ∷ []) fs order.2 x (Contains-append_left out (f.id ∷ []) x is_out) later
]

-- a set that supports itself in the stated system has none of those that are dropped
none_dropped : (c : Certificate) (set : Id → Bool) → SupportsItself (stated c) set
    → (out : List Id) (fs : List Dropped) → All (Contains c.dropped) fs
    → DropInOrder (λ f y. StatesServer c f.kind y f.needed) out fs
    → ((x : Id) → Contains out x → IsTrue (set x) → ⊥)
    → (x : Id) → Contains (map (λ f. f.id) fs) x → IsTrue (set x) → ⊥
none_dropped c set supports out [] all order free x dropped inside = none_in x dropped
none_dropped c set supports out (f ∷ fs) all order free x dropped inside =
    let first : IsTrue (set f.id) → ⊥ = λ in_f.
    let by = supports.served f.id f.needed f.kind in_f
    (inl (f, All-head (Contains c.dropped) f fs all, refl, refl, refl)) in
    free by.0 (order.1 by.0 by.2) by.1 in
    elim (here_or f.id (map (λ (g : Dropped). g.id) fs) x dropped) [
      | inl same ↦ first (subst (λ id. IsTrue (set id)) (sym same) inside)
      | inr later ↦ none_dropped c set supports (out ++ f.id ∷ []) fs (All-tail (Contains c.dropped) f fs all) order.2
          (λ y is_out in_y. elim (Contains-push_cases out f.id y is_out) [
            | inl was ↦ free y was in_y
            | inr same ↦ first (subst (λ id. IsTrue (set id)) (sym same) in_y)
          ])
          x later inside
    ]

pub accepted_is_greatest : AcceptedIsGreatest
accepted_is_greatest c a =
    let order = a.in_order in
    let no_ineligible : (set : Id → Bool) → SupportsItself (stated c) set
    → (x : Id) → Contains (ineligible_ids c) x → IsTrue (set x) → ⊥ =
    λ set supports x is_out inside.
    elim (Contains-append_cases (dropped_ids c) c.kept x (supports.eligible x inside)) [
      | inl dropped ↦ fresh (λ f y. StatesServer c f.kind y f.needed) (ineligible_ids c) c.dropped order x is_out
          dropped
      | inr kept ↦ a.apart x kept (Contains-append_left (ineligible_ids c) (dropped_ids c) x is_out)
    ] in
    record {
      supports = record {
        eligible = λ x inside. Contains-append_right (dropped_ids c) c.kept x (Contains_from_is_in c.kept x inside);
        served = λ x z kind inside needs. elim needs [
          | inl f ↦ absurd (a.apart x (Contains_from_is_in c.kept x inside)
              (Contains-append_right (ineligible_ids c) (dropped_ids c) x
              (subst (Contains (dropped_ids c)) f.2 (in_map (λ (g : Dropped). g.id) c.dropped f.0 f.1))))
          | inr f ↦
              let both = All-contains (λ g. Contains c.kept g.id × Contains c.kept g.by) c.served f.0 a.served f.1 in
              (f.0.by, is_in_from_Contains c.kept f.0.by both.1, inr (f.0, f.1, f.3, f.4, refl))
        ];
      };
      greatest = λ set supports x inside.
          elim (Contains-append_cases (dropped_ids c) c.kept x (supports.eligible x inside)) [
            | inl dropped ↦ absurd (none_dropped c set supports (ineligible_ids c) c.dropped
                (λ k d below. Contains-get_or c.dropped k d below) order (no_ineligible set supports) x dropped inside)
            | inr kept ↦ is_in_from_Contains c.kept x kept
          ];
    }
