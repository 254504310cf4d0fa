-- The search for the candidates to drop, over plain lists.
use Rattle.std.proofs.Common.{◌≡◌, ◌<◌, ◌≤◌, ◌+◌, ℕ, suc, Bool, false, List, [], ◌∷◌, ◌++◌, Some, length, map, drop}
use Rattle.std.proofs.Common.{get_or, set, slice_get, Contains, refl, sym, ap, ◌∙◌, subst, arith}
use Rattle.std.proofs.Common.{inl, inr, add-one, drop-cons}
use Rattle.std.specs.Prelude.{IsTrue, Vec}
use Rattle.std.specs.declared.alloc.Global.{Global}
use Rattle.std.specs.List.{All, Any}
use Rattle.std.proofs.lemmas.List.{append-nil, append_assoc, map-append, length-map, length-set, length_push}
use Rattle.std.proofs.lemmas.List.{drop-append-le, drop_all, get_or-map}
use Rattle.std.proofs.lemmas.List.Elements.{Contains-append_left, Contains-push}
use Rattle.std.proofs.lemmas.List.Elements.{Contains-push_cases, Contains-get_or, All-nil, All-cons}
use Rattle.std.proofs.lemmas.Option.{slice_get_within, slice_get-get_or, slice_get_read}
use Rattle.std.proofs.lemmas.Option.{get_or_from_slice_get}
use Rattle.std.proofs.lemmas.Bool.{cases_Bool, cases_eq}
use Rattle.terms.proofs.ListMembers.{here_or, in_map}
use Rattle.solve.specs.System.{System, Need, holds}
use Rattle.solve.specs.declared.system.Need.{Need as StoredNeed}
use Rattle.solve.specs.NeedView.{numbered}
use Rattle.solve.specs.Parts.{IsServed}
use Rattle.solve.specs.Rows.{row_at}
use Rattle.solve.proofs.Choosing.{same_at}
use Rattle.solve.proofs.Drops.{holds_drop_same, holds_drop_other, within_drop, count_drop, every_drop, kept_from_parts}
use Rattle.solve.proofs.Marked.{below_marked}
use Rattle.solve.proofs.PassingElements.{clash}
use Rattle.smpe_certificate.specs.declared.elimination.Dropped.{Dropped}
use Rattle.smpe_certificate.specs.Drops.{IsDrop, InOrder, IsElimination, candidates_of}
use Rattle.smpe_certificate.specs.Index.{AreServed}
use Rattle.smpe_certificate.specs.Search.{Settles, Stays, Drops, IsLive, IsSearch, IsStart, HasDue, Follows}

pub same_length : (stored : List StoredNeed) (ds : List Need) → map numbered stored ≡ ds → length stored ≡ length ds
same_length stored ds maps = sym (length-map stored numbered) ∙ ap length maps

-- a need by its place
pub need_at : (stored : List StoredNeed) (ds : List Need) (k : ℕ) (n : StoredNeed) → map numbered stored ≡ ds
    → k < length stored → n ≡ get_or stored k n → slice_get ds k ≡ Some (numbered n)
need_at stored ds k n maps in_stored is =
    subst (λ es. slice_get es k ≡ Some (numbered n)) maps
    (slice_get_read (map numbered stored) (length stored) k (numbered n) (sym (length-map stored numbered)) in_stored
    (sym (get_or-map numbered stored k n (numbered n) in_stored ∙ ap numbered (sym is))))

-- one more is dropped after the others
in_order_push : (p : System) (out : List ℕ) (ds : List Dropped) (d : Dropped) → InOrder p out ds
    → IsDrop p (out ++ candidates_of ds) d → InOrder p out (ds ++ d ∷ [])
in_order_push p out [] d before drop = (subst (λ o. IsDrop p o d) (append-nil out) drop, tt)
in_order_push p out (e ∷ ds) d before drop = (
  before.0,
  in_order_push p (out ++ e.candidate ∷ []) ds d before.1
      (subst (λ o. IsDrop p o d) (sym (append_assoc out (e.candidate ∷ []) (candidates_of ds))) drop),
)

pub search_start : (p : System) → length p.eligible ≡ p.size → IsStart p p.eligible []
search_start p flags = record {
  flags = flags;
  size = flags;
  every = record { part = λ set supported x member. supported.eligible x member };
  within = λ x h. h;
  in_order = tt;
  members = λ x. (λ c. absurd (omega (arith, c.1)), λ h. absurd (cc (h.0, h.1)));
  count = omega arith;
  place = omega arith;
  settled = λ k d at standing. inl (omega arith);
}

-- other needs are due, and all that were due are among them
pub search_due : (p : System) (due due' : ℕ → Type 0) (followed : ℕ) (standing : List Bool) (dropped : List Dropped)
    → ((k : ℕ) → k < length p.needs → due k → due' k)
    → IsSearch p due followed standing dropped → IsSearch p due' followed standing dropped
search_due p due due' followed standing dropped weaker s = record {
  flags = s.flags;
  size = s.size;
  every = s.every;
  within = s.within;
  in_order = s.in_order;
  members = s.members;
  count = s.count;
  place = s.place;
  settled = λ k d at stands. elim (s.settled k d at stands) [
    | inl is ↦ inl (weaker k (slice_get_within p.needs k d at) is)
    | inr some ↦ inr some
  ];
}

-- the need at a place is served
stays : (p : System) (due : ℕ → Type 0) (followed place : ℕ) (old : List Bool) (before : List Dropped) (d : Need)
    → slice_get p.needs place ≡ Some d → IsServed old d → IsSearch p due followed old before
    → IsSearch p (λ k. due k × (k ≡ place → ⊥)) followed old before
stays p due followed place old before d at served s = record {
  flags = s.flags;
  size = s.size;
  every = s.every;
  within = s.within;
  in_order = s.in_order;
  members = s.members;
  count = s.count;
  place = s.place;
  settled = λ k e at_k stands. elim (cases_eq k place) [
    | inl same ↦
        let one : e ≡ d = same_at p.needs k place e d same at_k at in
        let live : Any (IsLive old (drop followed (candidates_of before))) d.any =
        let some = served (subst (λ n. IsTrue (holds old n.of)) one stands) in
        (some.0, some.1, some.2, some.3, inl some.4) in
        inr (subst (λ n. Any (IsLive old (drop followed (candidates_of before))) n.any) (sym one) live)
    | inr other ↦ elim (s.settled k e at_k stands) [ inl is ↦ inl (is, other) | inr some ↦ inr some ]
  ];
}

-- the candidate of the need at a place is dropped
drops : (p : System) (due : ℕ → Type 0) (followed place : ℕ) (old : List Bool) (before : List Dropped) (d : Need)
    → slice_get p.needs place ≡ Some d → IsTrue (holds old d.of) → All (λ y. holds old y ≡ false) d.any
    → IsSearch p due followed old before
    → IsSearch p (λ k. due k × (k ≡ place → ⊥)) followed (set old d.of false)
    (before ++ record { candidate = d.of; need = place } ∷ [])
drops p due followed place old before d at stood none s =
    let x = d.of in
    let new = set old x false in
    let last : Dropped = record { candidate = x; need = place } in
    let below : x < length old = below_marked old x stood in
    let gone : holds new x ≡ false = holds_drop_same old x below in
    let pushed : candidates_of (before ++ last ∷ []) ≡ candidates_of before ++ x ∷ [] =
    map-append (λ (e : Dropped). e.candidate) before (last ∷ []) in
    let rest : drop followed (candidates_of (before ++ last ∷ []))
    ≡ drop followed (candidates_of before) ++ x ∷ [] =
    ap (drop followed) pushed ∙ drop-append-le followed (candidates_of before) (x ∷ [])
    (rw length-map s.place) in
    let long : length (before ++ last ∷ []) ≡ length before + 1 = length_push before last in
    record {
      flags = s.flags;
      size = length_set_is old x ∙ s.size;
      every = every_drop p old d
          (place, slice_get_within p.needs place d at, get_or_from_slice_get p.needs place d d at)
          (λ some. clash (holds old) d.any some none) s.every;
      within = λ y h. s.within y (within_drop old x below y h);
      in_order = in_order_push p [] before last s.in_order (record {
        need = d;
        at = at;
        of = refl;
        eligible = s.within x stood;
        fresh = λ c. let m = (s.members x).0 c in cc (m.1, stood);
        unserved = λ k e in_any. elim (cases_Bool (holds p.eligible (get_or d.any k e))) [
          | inl may ↦ inr ((s.members (get_or d.any k e)).1 (may, none k e in_any))
          | inr not ↦ inl not
        ];
      });
      members = λ y. subst (λ cs. (Contains cs y → IsTrue (holds p.eligible y) × (holds new y ≡ false))
          × (IsTrue (holds p.eligible y) × (holds new y ≡ false) → Contains cs y)) (sym pushed) (
            λ c. elim (Contains-push_cases (candidates_of before) x y c) [
              | inl was ↦ let m = (s.members y).0 was in (
                m.0,
                elim (cases_eq y x) [
                  | inl same ↦ ap (holds new) same ∙ gone
                  | inr other ↦ holds_drop_other old x y other ∙ m.1
                ],
              )
              | inr same ↦ (ap (holds p.eligible) (sym same) ∙ s.within x stood, ap (holds new) (sym same) ∙ gone)
            ],
            λ h. elim (cases_eq y x) [
              | inl same ↦ subst (Contains (candidates_of before ++ x ∷ [])) (sym same)
                  (Contains-push (candidates_of before) x)
              | inr other ↦ Contains-append_left (candidates_of before) (x ∷ []) y
                  ((s.members y).1 (h.0, sym (holds_drop_other old x y other) ∙ h.1))
            ],
          );
      count = omega (arith, count_drop old x below stood, s.count, long);
      place = omega (arith, s.place, long);
      settled = λ k e at_k stands. elim (cases_eq k place) [
        | inl same ↦
            let one : e ≡ d = same_at p.needs k place e d same at_k at in
            absurd (cc (subst (λ n. IsTrue (holds new n.of)) one stands, gone))
        | inr other ↦ elim (s.settled k e at_k (within_drop old x below e.of stands)) [
          | inl is ↦ inl (is, other)
          | inr some ↦ inr (
            some.0,
            some.1,
            some.2,
            some.3,
            subst (λ ps. IsLive new ps some.1) (sym rest)
                (elim some.4 [
                  | inl standing ↦ elim (cases_eq some.1 x) [
                    | inl same ↦ inr (subst (Contains (drop followed (candidates_of before) ++ x ∷ [])) (sym same)
                        (Contains-push (drop followed (candidates_of before)) x))
                    | inr apart ↦ inl (holds_drop_other old x some.1 apart ∙ standing)
                  ]
                  | inr pending ↦ inr (Contains-append_left (drop followed (candidates_of before)) (x ∷ []) some.1
                      pending)
                ]),
          )
        ]
      ];
    }
  where
    length_set_is : (l : List Bool) (i : ℕ) → length (set l i false) ≡ length l
    length_set_is l i = simp length-set

-- the need at a place is settled
pub search_settled : (p : System) (due : ℕ → Type 0) (followed place : ℕ) (old : List Bool) (before : List Dropped)
    (new : List Bool) (after : List Dropped)
    → Settles p place old before new after → IsSearch p due followed old before
    → IsSearch p (λ k. due k × (k ≡ place → ⊥)) followed new after
search_settled p due followed place old before new after (Stays d at served same none) s =
    rw (same, none) (stays p due followed place old before d at served s)
search_settled p due followed place old before new after (Drops d at stood none is more) s =
    rw (is, more) (drops p due followed place old before d at stood none s)

-- the next drop is followed: the needs that the candidate serves are due
pub search_followed : (p : System) (rows : List (Vec ℕ Global)) (followed x : ℕ) (standing : List Bool)
    (dropped : List Dropped)
    → AreServed p rows → followed < length dropped → x ≡ get_or (candidates_of dropped) followed 0
    → Follows p followed standing dropped → HasDue p (row_at rows x) (followed + 1) standing dropped
search_followed p rows followed x standing dropped served below next s =
    let cs = candidates_of dropped in
    let first : drop followed cs ≡ x ∷ drop (followed + 1) cs =
    drop-cons cs followed 0 (rw length-map below)
    ∙ ap (λ y. y ∷ drop (suc followed) cs) (sym next) ∙ rw add-one refl in
    record {
      flags = s.flags;
      size = s.size;
      every = s.every;
      within = s.within;
      in_order = s.in_order;
      members = s.members;
      count = s.count;
      place = omega (arith, below);
      settled = λ k d at stands. elim (s.settled k d at stands) [
        | inl none ↦ absurd none
        | inr some ↦ elim some.4 [
          | inl standing ↦ inr (some.0, some.1, some.2, some.3, inl standing)
          | inr pending ↦ elim (here_or x (drop (followed + 1) cs) some.1
              (subst (λ ps. Contains ps some.1) first pending)) [
                | inl same ↦ inl (served.all k x d at (subst (Contains d.any) (sym same) (some.0, some.2, some.3)))
                | inr later ↦ inr (some.0, some.1, some.2, some.3, inr later)
              ]
        ]
      ];
    }

-- a dropped candidate is one of the system's
pub dropped_below : (p : System) (due : ℕ → Type 0) (followed : ℕ) (standing : List Bool) (dropped : List Dropped)
    (place : ℕ) → place < length dropped → IsSearch p due followed standing dropped
    → get_or (candidates_of dropped) place 0 < p.size
dropped_below p due followed standing dropped place below s =
    let cs = candidates_of dropped in
    let x = get_or cs place 0 in
    let member = (s.members x).0 (Contains-get_or cs place 0 (rw length-map below)) in
    omega (arith, s.flags, below_marked p.eligible x member.0)

-- the need for which a candidate is dropped is one of the system's
needs_below : (p : System) (out : List ℕ) (ds : List Dropped) → InOrder p out ds
    → All (λ d. d.need < length p.needs) ds
needs_below p out [] order = All-nil (λ (d : Dropped). d.need < length p.needs)
needs_below p out (d ∷ ds) order = All-cons (λ (e : Dropped). e.need < length p.needs) d ds
    (slice_get_within p.needs d.need order.0.need order.0.at)
    (needs_below p (out ++ d.candidate ∷ []) ds order.1)

-- nothing is left to be followed
pub search_end : (p : System) (followed : ℕ) (standing : List Bool) (dropped : List Dropped)
    → length dropped ≤ followed → Follows p followed standing dropped → IsElimination p standing dropped
search_end p followed standing dropped end s =
    let none : drop followed (candidates_of dropped) ≡ [] =
    drop_all followed (candidates_of dropped) (rw length-map end) in
    record {
      are_kept = kept_from_parts p standing s.size s.every s.within (λ k e below stands.
          elim (s.settled k (get_or p.needs k e) (slice_get-get_or p.needs k e below) stands) [
            | inl is ↦ absurd is
            | inr some ↦ (
              some.0,
              some.1,
              some.2,
              some.3,
              elim some.4 [
                | inl standing ↦ standing
                | inr pending ↦
                    let past : Contains [] some.1 = subst (λ ps. Contains ps some.1) none pending in
                    absurd (omega (arith, past.1))
              ],
            )
          ]);
      in_order = s.in_order;
      within = λ k d below.
          let e = get_or dropped k d in
          let member = (s.members e.candidate).0
          (in_map (λ (x : Dropped). x.candidate) dropped e (Contains-get_or dropped k d below)) in (
            omega (arith, s.flags, below_marked p.eligible e.candidate member.0),
            needs_below p [] dropped s.in_order k d below,
          );
      members = s.members;
    }

-- the first of the rest of a row is settled
pub rest_due : (row : List ℕ) (i k : ℕ) → i < length row
    → Contains (drop i row) k × (k ≡ get_or row i 0 → ⊥) → Contains (drop (i + 1) row) k
rest_due row i k below h =
    let first : drop i row ≡ get_or row i 0 ∷ drop (i + 1) row = drop-cons row i 0 below ∙ rw add-one refl in
    elim (here_or (get_or row i 0) (drop (i + 1) row) k (subst (λ ks. Contains ks k) first h.0)) [
      | inl same ↦ absurd (h.1 (sym same))
      | inr later ↦ later
    ]
