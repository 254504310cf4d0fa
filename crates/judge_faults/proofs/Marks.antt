-- The marks of the claims on one element that clash.
use Rattle.std.proofs.Common.{◌≡◌, ◌⊎◌, inl, inr, ℕ, Bool, true, false, List, [], ◌∷◌, ◌++◌, refl, sym, subst}
use Rattle.std.proofs.Common.{Contains, IsTrue, cond, get_or, arith}
use Rattle.std.specs.Prelude.{◌↔◌, take, drop}
use Rattle.std.specs.List.{list_any, insert}
use Rattle.std.proofs.lemmas.List.{take-append-drop}
use Rattle.std.proofs.lemmas.List.Elements.{Contains-append_left, Contains-append_right, Contains-append_cases}
use Rattle.std.proofs.lemmas.List.Elements.{Contains-push, Contains-push_cases, All-contains, All-push}
use Rattle.indexmap.specs.IndexSet.{insert_key}
use Rattle.indexmap.proofs.CallerLemmas.{Contains-insert_key}
use Rattle.terms.proofs.ListMembers.{none_in, here_or, in_middle, there}
use Rattle.terms.proofs.Pairs.{AllPairs_between}
use Rattle.terms.specs.Types.{Id, Global}
use Rattle.terms.specs.Choice.{Choice}
use Rattle.judge_faults.specs.declared.claims.Claim.{Claim}
use Rattle.judge_faults.specs.Sharing.{StandApart, Clashes, Marks, IsOfPair, IsAgainst, IsAmong, IsBelow, IsChain}
use Rattle.judge_faults.specs.Sharing.{FitsAt, AllMarked, AreSettled, AreMarked}

-- ---- marks one after the other

pub marks_join : (P Q R : ℕ → Type 0) (old middle new : List ℕ) → Marks P old middle → Marks Q middle new
    → ((n : ℕ) → R n ↔ (P n ⊎ Q n)) → Marks R old new
marks_join P Q R old middle new first second both n = (
  λ h. elim ((second n).0 h) [
    | inl in_middle ↦ elim ((first n).0 in_middle) [ inl was ↦ inl was | inr p ↦ inr ((both n).1 (inl p)) ]
    | inr q ↦ inr ((both n).1 (inr q))
  ],
  λ h. (second n).1 (elim h [
    | inl was ↦ inl ((first n).1 (inl was))
    | inr r ↦ elim ((both n).0 r) [ inl p ↦ inl ((first n).1 (inr p)) | inr q ↦ inr q ]
  ]),
)

pub marks_same : (P : ℕ → Type 0) (old new : List ℕ) → new ≡ old → ((n : ℕ) → P n → Contains old n) → Marks P old new
marks_same P old new same memo n = (
  λ h. inl (subst (λ l. Contains l n) same h),
  λ h. subst (λ l. Contains l n) (sym same) (elim h [ inl was ↦ was | inr p ↦ memo n p ]),
)

module _ (eq : ℕ → ℕ → Bool) (exact : (a b : ℕ) → eq a b ≡ true → a ≡ b) where
  -- one more mark
  pub marks_insert : (old new : List ℕ) (k : ℕ) → new ≡ insert_key eq old k → Marks (λ n. n ≡ k) old new
  marks_insert old new k made n = (
    λ h. cases (list_any (eq k) old) (subst (λ l. Contains l n) made h),
    λ h. subst (λ l. Contains l n) (sym made) (elim h [
      | inl was ↦ keeps (list_any (eq k) old) was
      | inr same ↦ subst (Contains (insert_key eq old k)) (sym same) (Contains-insert_key eq exact old k)
    ]),
  )
    where
      keeps : (b : Bool) → Contains old n → Contains (cond b old (old ++ k ∷ [])) n
      keeps true h = h
      keeps false h = Contains-append_left old (k ∷ []) n h

      cases : (b : Bool) → Contains (cond b old (old ++ k ∷ [])) n → Contains old n ⊎ (n ≡ k)
      cases true h = inl h
      cases false h = elim (Contains-push_cases old k n h) [ inl was ↦ inl was | inr is ↦ inr (sym is) ]

module _ (g : Global) (c : Choice) where
  pub apart_turned : (x y : Id) → StandApart g c x y → StandApart g c y x
  apart_turned x y (inl owners) = inl (λ same. owners (sym same))
  apart_turned x y (inr neither) = inr (neither.1, neither.0)

  pub clashes_turned : (a b : Claim) → Clashes g c a b → Clashes g c b a
  clashes_turned a b clash = ((λ same. clash.0 (sym same)), apart_turned a.id b.id clash.1)

  -- ---- a pair

  pub pair_settled : (a b : Claim) (old new : List ℕ) → new ≡ old
      → (a.id ≡ b.id) ⊎ (Contains old a.place × Contains old b.place) → Marks (IsOfPair g c a b) old new
  pair_settled a b old new same settled = marks_same (IsOfPair g c a b) old new same (λ n pair. by n pair settled)
    where
      by : (n : ℕ) → IsOfPair g c a b n → (a.id ≡ b.id) ⊎ (Contains old a.place × Contains old b.place)
          → Contains old n
      by n (clash, who) (inl own) = absurd (clash.0 own)
      by n (clash, inl is) (inr both) = subst (Contains old) (sym is) both.0
      by n (clash, inr is) (inr both) = subst (Contains old) (sym is) both.1

  pub pair_free : (a b : Claim) (old new : List ℕ) → new ≡ old → ¬ StandApart g c a.id b.id
      → Marks (IsOfPair g c a b) old new
  pair_free a b old new same free = marks_same (IsOfPair g c a b) old new same (λ n pair. absurd (free pair.0.1))

  pub pair_marked : (a b : Claim) (old middle new : List ℕ) → Clashes g c a b → Marks (λ n. n ≡ a.place) old middle
      → Marks (λ n. n ≡ b.place) middle new → Marks (IsOfPair g c a b) old new
  pair_marked a b old middle new clash first second =
      marks_join (λ n. n ≡ a.place) (λ n. n ≡ b.place) (IsOfPair g c a b) old middle new first second
      (λ n. (λ pair. pair.1, λ who. (clash, who)))

  -- ---- a claim against others

  pub against_none : (a : Claim) (old : List ℕ) → Marks (IsAgainst g c a []) old old
  against_none a old n = (
    λ h. inl h,
    λ h. elim h [ inl was ↦ was | inr against ↦ absurd (none_in against.0 against.1) ],
  )

  pub against_more : (a b : Claim) (others : List Claim) (old middle new : List ℕ)
      → Marks (IsAgainst g c a others) old middle → Marks (IsOfPair g c a b) middle new
      → Marks (IsAgainst g c a (others ++ b ∷ [])) old new
  against_more a b others old middle new first second =
      marks_join (IsAgainst g c a others) (IsOfPair g c a b) (IsAgainst g c a (others ++ b ∷ [])) old middle new first
      second (λ n. (
        λ against. elim (Contains-push_cases others b against.0 against.1) [
          | inl was ↦ inl (against.0, was, against.2)
          | inr is ↦ inr (subst (λ v. IsOfPair g c a v n) (sym is) against.2)
        ],
        λ h. elim h [
          | inl against ↦ (against.0, Contains-append_left others (b ∷ []) against.0 against.1, against.2)
          | inr pair ↦ (b, Contains-push others b, pair)
        ],
      ))

  against_both : (a : Claim) (chain others : List Claim) (old middle new : List ℕ)
      → Marks (IsAgainst g c a chain) old middle → Marks (IsAgainst g c a others) middle new
      → Marks (IsAgainst g c a (chain ++ others)) old new
  against_both a chain others old middle new first second =
      marks_join (IsAgainst g c a chain) (IsAgainst g c a others) (IsAgainst g c a (chain ++ others)) old middle new
      first second (λ n. (
        λ against. elim (Contains-append_cases chain others against.0 against.1) [
          | inl front ↦ inl (against.0, front, against.2)
          | inr back ↦ inr (against.0, back, against.2)
        ],
        λ h. elim h [
          | inl against ↦ (against.0, Contains-append_left chain others against.0 against.1, against.2)
          | inr against ↦ (against.0, Contains-append_right chain others against.0 against.1, against.2)
        ],
      ))

  -- ---- one more claim

  -- those that it may not share with are among the ones that it was compared with
  among_more : (claims against : List Claim) (a : Claim) → ((b : Claim) → Contains against b → Contains claims b)
      → ((b : Claim) → Contains claims b → Contains against b ⊎ ¬ Clashes g c a b)
      → (n : ℕ) → IsAmong (Clashes g c) (claims ++ a ∷ []) n
      ↔ (IsAmong (Clashes g c) claims n ⊎ IsAgainst g c a against n)
  among_more claims against a within covers n = (from, to)
    where
      compared : (b : Claim) → Contains claims b → Clashes g c a b → (n ≡ a.place) ⊎ (n ≡ b.place)
          → IsAgainst g c a against n
      compared b there clash who = elim (covers b there) [
        | inl told ↦ (b, told, (clash, who))
        | inr free ↦ absurd (free clash)
      ]

      from : IsAmong (Clashes g c) (claims ++ a ∷ []) n → IsAmong (Clashes g c) claims n ⊎ IsAgainst g c a against n
      from among = elim (Contains-push_cases claims a among.a among.own) [
        | inl own ↦ elim (Contains-push_cases claims a among.b among.other) [
          | inl other ↦ inl (record {
            a = among.a;
            b = among.b;
            own = own;
            other = other;
            clash = among.clash;
            place = among.place;
          })
          | inr is ↦ inr (compared among.a own (clashes_turned among.a a
              (subst (λ v. Clashes g c among.a v) (sym is) among.clash)) (inr among.place))
        ]
        | inr is ↦ elim (Contains-push_cases claims a among.b among.other) [
          | inl other ↦ inr (compared among.b other (subst (λ v. Clashes g c v among.b) (sym is) among.clash)
              (inl (subst (λ (v : Claim). n ≡ v.place) (sym is) among.place)))
          | inr same ↦ absurd (among.clash.0 (subst (λ (v : Claim). v.id ≡ among.b.id) is
              (subst (λ (v : Claim). a.id ≡ v.id) same refl)))
        ]
      ]

      to : IsAmong (Clashes g c) claims n ⊎ IsAgainst g c a against n → IsAmong (Clashes g c) (claims ++ a ∷ []) n
      to (inl among) = record {
        a = among.a;
        b = among.b;
        own = Contains-append_left claims (a ∷ []) among.a among.own;
        other = Contains-append_left claims (a ∷ []) among.b among.other;
        clash = among.clash;
        place = among.place;
      }
      to (inr (b, told, (clash, inl is))) = record {
        a = a;
        b = b;
        own = Contains-push claims a;
        other = Contains-append_left claims (a ∷ []) b (within b told);
        clash = clash;
        place = is;
      }
      to (inr (b, told, (clash, inr is))) = record {
        a = b;
        b = a;
        own = Contains-append_left claims (a ∷ []) b (within b told);
        other = Contains-push claims a;
        clash = clashes_turned a b clash;
        place = is;
      }

  below_shares : (a b : Claim) → IsBelow g c a b → ¬ Clashes g c a b
  below_shares a b below (other, inl owners) = owners below.0
  below_shares a b below (other, inr neither) = neither.1 below.1

  fits_shares : (chain : List Claim) (a : Claim) (k : ℕ) → FitsAt g c chain a k → (b : Claim) → Contains chain b
      → ¬ Clashes g c a b
  fits_shares chain a k fits b there clash =
      elim (Contains-append_cases (take k chain) (drop k chain) b
      (subst (λ l. Contains l b) (sym (take-append-drop k chain)) there)) [
        | inl front ↦ below_shares b a (All-contains (λ b. IsBelow g c b a) (take k chain) b fits.front front)
            (clashes_turned a b clash)
        | inr back ↦ below_shares a b (All-contains (λ b. IsBelow g c a b) (drop k chain) b fits.back back) clash
      ]

  inserted : (chain : List Claim) (a : Claim) (k : ℕ) (b : Claim) → Contains (insert chain k a) b
      ↔ (Contains chain b ⊎ (a ≡ b))
  inserted chain a k b = (
    λ h. elim (Contains-append_cases (take k chain) (a ∷ drop k chain) b h) [
      | inl front ↦ inl (whole (Contains-append_left (take k chain) (drop k chain) b front))
      | inr rest ↦ elim (here_or a (drop k chain) b rest) [
        | inl is ↦ inr is
        | inr back ↦ inl (whole (Contains-append_right (take k chain) (drop k chain) b back))
      ]
    ],
    λ h. elim h [
      | inl was ↦ elim (Contains-append_cases (take k chain) (drop k chain) b
          (subst (λ l. Contains l b) (sym (take-append-drop k chain)) was)) [
            | inl front ↦ Contains-append_left (take k chain) (a ∷ drop k chain) b front
            | inr back ↦ Contains-append_right (take k chain) (a ∷ drop k chain) b (there a (drop k chain) b back)
          ]
      | inr is ↦ subst (Contains (insert chain k a)) is (in_middle (take k chain) a (drop k chain))
    ],
  )
    where
      whole : Contains (take k chain ++ drop k chain) b → Contains chain b
      whole = subst (λ l. Contains l b) (take-append-drop k chain)

  -- what is marked stays so
  pub stays_marked : (P : ℕ → Type 0) (old new : List ℕ) (claims : List Claim) → Marks P old new
      → AllMarked claims old → AllMarked claims new
  stays_marked P old new claims marks all i d below = (marks (get_or claims i d).place).1 (inl (all i d below))

  -- of those that are marked no more need be compared once the claim is marked
  pub against_rest : (a : Claim) (front others : List Claim) (old new : List ℕ)
      → ((b : Claim) → Contains front b → Contains others b) → Contains new a.place
      → Marks (IsAgainst g c a front) old new → AllMarked others old → Marks (IsAgainst g c a others) old new
  against_rest a front others old new within own marks all n = (
    λ h. elim ((marks n).0 h) [
      | inl was ↦ inl was
      | inr against ↦ inr (against.0, within against.0 against.1, against.2)
    ],
    λ h. elim h [ inl was ↦ (marks n).1 (inl was) | inr against ↦ by against ],
  )
    where
      by : IsAgainst g c a others n → Contains new n
      by (b, there, (clash, inl is)) = subst (Contains new) (sym is) own
      by (b, there, (clash, inr is)) =
          (marks n).1 (inl (subst (Contains old) (sym is)
          (All-contains (λ (v : Claim). Contains old v.place) others b all there)))

  -- it fits into the chain
  pub taken_in : (claims chain new_chain others : List Claim) (known : Bool) (before shared marked : List ℕ)
      (a : Claim) (k : ℕ)
      → (IsChain g c chain → FitsAt g c chain a k) → new_chain ≡ insert chain k a
      → (AreSettled known others shared → Marks (IsAgainst g c a others) shared marked)
      → AreMarked g c claims chain others known before shared
      → AreMarked g c (claims ++ a ∷ []) new_chain others known before marked
  taken_in claims chain new_chain others known before shared marked a k place made compared m =
      subst (λ l. AreMarked g c (claims ++ a ∷ []) l others known before marked) (sym made) (record {
        settled = λ on. stays_marked (IsAgainst g c a others) shared marked others against (m.settled on);
        members = λ b. (from b, to b);
        ordered = AllPairs_between (IsBelow g c) (take k chain) (drop k chain) a
            (subst (IsChain g c) (sym (take-append-drop k chain)) m.ordered) fits.front fits.back;
        marks = marks_join (IsAmong (Clashes g c) claims) (IsAgainst g c a others)
            (IsAmong (Clashes g c) (claims ++ a ∷ [])) before shared marked m.marks against
            (among_more claims others a (λ b h. (m.members b).0 (Contains-append_right chain others b h))
            (λ b h. elim (Contains-append_cases chain others b ((m.members b).1 h)) [
              | inl in_chain ↦ inr (fits_shares chain a k fits b in_chain)
              | inr other ↦ inl other
            ]));
      })
    where
      against : Marks (IsAgainst g c a others) shared marked
      against = compared m.settled

      fits : FitsAt g c chain a k
      fits = place m.ordered

      from : (b : Claim) → Contains (insert chain k a ++ others) b → Contains (claims ++ a ∷ []) b
      from b h = elim (Contains-append_cases (insert chain k a) others b h) [
        | inl front ↦ elim ((inserted chain a k b).0 front) [
          | inl was ↦ Contains-append_left claims (a ∷ []) b ((m.members b).0 (Contains-append_left chain others b was))
          | inr is ↦ subst (Contains (claims ++ a ∷ [])) is (Contains-push claims a)
        ]
        | inr back ↦ Contains-append_left claims (a ∷ []) b ((m.members b).0
            (Contains-append_right chain others b back))
      ]

      to : (b : Claim) → Contains (claims ++ a ∷ []) b → Contains (insert chain k a ++ others) b
      to b h = elim (Contains-push_cases claims a b h) [
        | inl was ↦ elim (Contains-append_cases chain others b ((m.members b).1 was)) [
          | inl front ↦ Contains-append_left (insert chain k a) others b ((inserted chain a k b).1 (inl front))
          | inr back ↦ Contains-append_right (insert chain k a) others b back
        ]
        | inr is ↦ Contains-append_left (insert chain k a) others b ((inserted chain a k b).1 (inr is))
      ]

  -- it does not
  pub left_out : (claims chain others new_others : List Claim) (known new_known : Bool)
      (before shared middle marked : List ℕ) (a : Claim)
      → new_others ≡ others ++ a ∷ [] → (IsTrue new_known → IsTrue known × Contains marked a.place)
      → Marks (IsAgainst g c a chain) shared middle
      → (AreSettled known others middle → Marks (IsAgainst g c a others) middle marked)
      → AreMarked g c claims chain others known before shared
      → AreMarked g c (claims ++ a ∷ []) chain new_others new_known before marked
  left_out claims chain others new_others known new_known before shared middle marked a made knows against_chain
      compared m =
      subst (λ l. AreMarked g c (claims ++ a ∷ []) chain l new_known before marked) (sym made) (record {
        settled = λ on. All-push (λ (v : Claim). Contains marked v.place) others a
            (stays_marked (IsAgainst g c a others) middle marked others against_others (between (knows on).0))
            (knows on).1;
        members = λ b. (from b, to b);
        ordered = m.ordered;
        marks = marks_join (IsAmong (Clashes g c) claims) (IsAgainst g c a (chain ++ others))
            (IsAmong (Clashes g c) (claims ++ a ∷ [])) before shared marked m.marks
            (against_both a chain others shared middle marked against_chain against_others)
            (among_more claims (chain ++ others) a (λ b h. (m.members b).0 h) (λ b h. inl ((m.members b).1 h)));
      })
    where
      between : AreSettled known others middle
      between on = stays_marked (IsAgainst g c a chain) shared middle others against_chain (m.settled on)

      against_others : Marks (IsAgainst g c a others) middle marked
      against_others = compared between

      from : (b : Claim) → Contains (chain ++ (others ++ a ∷ [])) b → Contains (claims ++ a ∷ []) b
      from b h = elim (Contains-append_cases chain (others ++ a ∷ []) b h) [
        | inl front ↦ Contains-append_left claims (a ∷ []) b ((m.members b).0
            (Contains-append_left chain others b front))
        | inr back ↦ elim (Contains-push_cases others a b back) [
          | inl was ↦ Contains-append_left claims (a ∷ []) b ((m.members b).0
              (Contains-append_right chain others b was))
          | inr is ↦ subst (Contains (claims ++ a ∷ [])) is (Contains-push claims a)
        ]
      ]

      to : (b : Claim) → Contains (claims ++ a ∷ []) b → Contains (chain ++ (others ++ a ∷ [])) b
      to b h = elim (Contains-push_cases claims a b h) [
        | inl was ↦ elim (Contains-append_cases chain others b ((m.members b).1 was)) [
          | inl front ↦ Contains-append_left chain (others ++ a ∷ []) b front
          | inr back ↦ Contains-append_right chain (others ++ a ∷ []) b
              (Contains-append_left others (a ∷ []) b back)
        ]
        | inr is ↦ Contains-append_right chain (others ++ a ∷ []) b
            (subst (Contains (others ++ a ∷ [])) is (Contains-push others a))
      ]

  pub marked_none : (shared : List ℕ) → AreMarked g c [] [] [] true shared shared
  marked_none shared = record {
    settled = λ on i d below. absurd (omega (arith, below));
    members = λ a. (λ h. h, λ h. h);
    ordered = λ i j d less below. absurd (omega (arith, below));
    marks = marks_same (IsAmong (Clashes g c) []) shared shared refl (λ n among. absurd (none_in among.a among.own));
  }
