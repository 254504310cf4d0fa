-- Each failed candidate has a causer, where what is kept is the union of all sets that support themselves. For the
-- candidates that a failed one without causers leads to would support themselves, together with what is kept.
use Rattle.std.proofs.Common.{◌⊎◌, inl, inr, Bool, true, List, [], ◌∷◌, ◌++◌, Contains, IsTrue, refl, sym, subst, arith}
use Rattle.std.specs.Prelude.{◌↔◌}
use Rattle.terms.specs.declared.codes.NeedKind.{NeedKind}
use Rattle.terms.specs.declared.codes.NeedKind.TheVariants as need
use Rattle.terms.specs.Types.{Id}
use Rattle.terms.specs.Judging.{Judging}
use Rattle.terms.specs.Kept.{StaysKept}
use Rattle.terms.specs.Failures.{HasFailed, IsOpenNeed, LeadsTo, LeadsThrough, IsCauser, all_needs}
use Rattle.terms.proofs.Ids.{in_or_not}
use Rattle.machine_laws.proofs.Stable.{stable_bool}
use Rattle.machine_laws.proofs.Finitely.{all_stably, set_stably}

pub each_kind : (kind : NeedKind) → Contains all_needs kind
each_kind need.Fmid = (0, omega arith, refl)
each_kind need.Pre = (1, omega arith, refl)
each_kind need.Req = (2, omega arith, refl)
each_kind need.Ifreq = (3, omega arith, refl)
each_kind need.HoldError = (4, omega arith, refl)
each_kind need.Orphan = (5, omega arith, refl)
each_kind need.Elem = (6, omega arith, refl)
each_kind need.Dep = (7, omega arith, refl)

-- The eligible ids are candidates, and what each needs of a kind stands in a list.
module _ (judging : Judging) (kept : List Id)
    (are_cands : (x : Id) → judging.eligible x → Contains judging.cands x)
    (asked : Id → NeedKind → List Id)
    (asks : (x z : Id) (kind : NeedKind) → judging.needs x kind z → Contains (asked x kind) z)
    (members : (x : Id) → Contains kept x ↔ StaysKept judging x) where
  kept_eligible : (x : Id) → Contains kept x → judging.eligible x
  kept_eligible x is = let stays = (members x).0 is in stays.1.eligible x stays.2

  kept_served : (x z : Id) (kind : NeedKind) → Contains kept x → judging.needs x kind z
      → (y : Id) × Contains kept y × judging.serves kind y z
  kept_served x z kind is needs =
      let stays = (members x).0 is in
      let server = stays.1.served x z kind stays.2 needs in
      (server.0, (members server.0).1 (stays.0, stays.1, server.1), server.2)

  through_more : (x : Id) (ws : List Id) (y w : Id) → LeadsThrough judging kept x ws y → LeadsTo judging kept y w
      → LeadsThrough judging kept x (ws ++ w ∷ []) w
  through_more x [] y w same leads = (subst (λ v. LeadsTo judging kept v w) (sym same) leads, refl)
  through_more x (v ∷ vs) y w steps leads = (steps.0, through_more v vs y w steps.1 leads)

  through_cands : (x : Id) (ws : List Id) (y : Id) → Contains judging.cands x
      → LeadsThrough judging kept x ws y → Contains judging.cands y
  through_cands x [] y is same = subst (Contains judging.cands) same is
  through_cands x (w ∷ ws) y is steps = through_cands w ws y steps.0.cand steps.1

  module _ (x : Id) (failed : HasFailed judging kept x) (uncaused : (y : Id) → ¬ IsCauser judging kept x y) where
    abbrev Reached : Id → Type 0
    Reached y = (ws : List Id) × LeadsThrough judging kept x ws y

    reached_cand : (y : Id) → Reached y → Contains judging.cands y
    reached_cand y reached = through_cands x reached.0 y failed.cand reached.1

    reached_eligible : (y : Id) → Reached y → ¬ ¬ judging.eligible y
    reached_eligible y reached out = uncaused y (record {
      root = record {
        failed = record { cand = reached_cand y reached; not_kept = λ is. out (kept_eligible y is) };
        why = inl out;
      };
      steps = reached.0;
      reaches = reached.1;
    })

    -- the eligible candidates that are kept or reached
    module _ (set : Id → Bool)
        (is_set : (y : Id) → IsTrue (set y)
        ↔ (Contains judging.cands y × (judging.eligible y × (Contains kept y ⊎ Reached y)))) where
      kept_in : (y : Id) → Contains kept y → IsTrue (set y)
      kept_in y is =
          let eligible = kept_eligible y is in
          (is_set y).1 (are_cands y eligible, (eligible, inl is))

      reached_in : (y : Id) → Reached y → IsTrue (set y)
      reached_in y reached = stable_bool (set y) true (λ out.
          reached_eligible y reached (λ eligible. out ((is_set y).1 (reached_cand y reached, (eligible, inr reached)))))

      abbrev IsServed : Id → NeedKind → Id → Type 0
      IsServed y kind z = (w : Id) × IsTrue (set w) × judging.serves kind w z

      -- a reached candidate that is not kept and has a need that nothing in the set serves would be a causer
      reached_served : (y z : Id) (kind : NeedKind) → Reached y → (¬ Contains kept y) → judging.needs y kind z
          → ¬ ¬ IsServed y kind z
      reached_served y z kind reached out needs unserved =
          let has_failed : HasFailed judging kept y =
          record { cand = reached_cand y reached; not_kept = out } in
          let is_open : IsOpenNeed judging kept y kind z =
          record { needs = needs; unserved = λ w is serves. unserved (w, kept_in w is, serves) } in
          uncaused y (record {
            root = record {
              failed = has_failed;
              why = inr (
                kind,
                z,
                needs,
                λ w cand serves.
                    let leads : LeadsTo judging kept y w =
                    record { failed = has_failed; cand = cand; serves = (kind, z, is_open, serves) } in
                    unserved (
                      w,
                      reached_in w (reached.0 ++ w ∷ [], through_more x reached.0 y w reached.1 leads),
                      serves,
                    ),
              );
            };
            steps = reached.0;
            reaches = reached.1;
          })

      served : (y z : Id) (kind : NeedKind) → IsTrue (set y) → judging.needs y kind z → ¬ ¬ IsServed y kind z
      served y z kind is needs unserved = elim (in_or_not kept y) [
        | inl stays ↦
            let server = kept_served y z kind stays needs in
            unserved (server.0, kept_in server.0 server.1, server.2)
        | inr out ↦ elim ((is_set y).0 is).1.1 [
          | inl stays ↦ out stays
          | inr reached ↦ reached_served y z kind reached out needs unserved
        ]
      ]

      -- each need of each member
      abbrev Answers : Id → NeedKind → Id → Type 0
      Answers y kind z = IsTrue (set y) → judging.needs y kind z → IsServed y kind z

      all_served : ¬ ¬ ((y : Id) → Contains judging.cands y → (kind : NeedKind) → Contains all_needs kind
          → (z : Id) → Contains (asked y kind) z → Answers y kind z)
      all_served = all_stably _ judging.cands (λ y cand. all_stably _ all_needs (λ kind known.
          all_stably _ (asked y kind) (λ z asked unanswered. unanswered (λ is needs.
          absurd (served y z kind is needs (λ serves. unanswered (λ is' needs'. serves)))))))

      not_so : ⊥
      not_so = all_served (λ answers. failed.not_kept ((members x).1 (
        set,
        record {
          eligible = λ y is. ((is_set y).0 is).1.0;
          served = λ y z kind is needs.
              answers y ((is_set y).0 is).0 kind (each_kind kind) z (asks y z kind needs) is needs;
        },
        reached_in x ([], refl),
      )))

    no_such : ⊥
    no_such = set_stably (λ y. judging.eligible y × (Contains kept y ⊎ Reached y)) judging.cands
        (λ found. not_so found.0 found.1)

  pub some_causer : (x : Id) → HasFailed judging kept x → ¬ ((y : Id) → ¬ IsCauser judging kept x y)
  some_causer x failed uncaused = no_such x failed uncaused
