-- Searches down: the marks, and what they tell at the end.
use Rattle.std.proofs.Common.{◌≡◌, ℕ, ◌+◌, ◌<◌, ◌≤◌, ◌⊎◌, inl, inr, ◌↔◌, Bool, true, false, List, [], ◌∷◌, ◌++◌}
use Rattle.std.proofs.Common.{length, take, set, get_or, Contains, refl, sym, subst, ap, ◌∙◌, true≢false, arith}
use Rattle.std.specs.Prelude.{All, IsTrue, Vec, replicate}
use Rattle.std.specs.Option.{option_map_or}
use Rattle.std.specs.declared.alloc.Global.{Global as AnyGlobal}
use Rattle.std.proofs.lemmas.Bool.{cases_eq, cases_lt}
use Rattle.std.proofs.lemmas.List.{take_more, length-set, length-replicate, get_or-replicate, get_or-set_same}
use Rattle.std.proofs.lemmas.List.{get_or-set_other, get_or_past}
use Rattle.std.proofs.lemmas.List.Elements.{All-contains, Contains-append_left, Contains-push}
use Rattle.std.proofs.lemmas.List.Elements.{Contains-push_cases, Contains-get_or}
use Rattle.std.proofs.lemmas.Option.{get_or_from_slice_get, slice_get_read}
use Rattle.terms.proofs.ListMembers.{none_in}
use Rattle.sysmods.specs.Graphs.{Descends, IsFalling, IsSearchDown, LeadsDown, Marks, is_marked, list_at}

marked_within : (marks : List Bool) (n : ℕ) → IsTrue (is_marked marks n) → n < length marks
marked_within marks n h = elim (cases_lt n (length marks)) [
  | inl within ↦ within
  | inr past ↦ absurd (true≢false (sym h ∙ get_or_past marks n false past))
]

pub mark_read : (marks : List Bool) (n : ℕ) (mark : Bool) → n < length marks → mark ≡ get_or marks n mark
    → is_marked marks n ≡ mark
mark_read marks n mark inside at =
    get_or_from_slice_get marks n mark false (slice_get_read marks (length marks) n mark refl inside at)

-- ---- marking

pub marks_none : (marks : List Bool) → Marks [] marks marks
marks_none marks = record {
  room = refl;
  kept = λ n h. h;
  marked = λ n h. absurd (none_in n h);
  others = λ n h. inl h;
}

module _ (marks : List Bool) (n : ℕ) (within : n < length marks) where
  set_marks : IsTrue (is_marked (set marks n true) n)
  set_marks = get_or-set_same marks n true false within

  set_keeps : (k : ℕ) → IsTrue (is_marked marks k) → IsTrue (is_marked (set marks n true) k)
  set_keeps k h = elim (cases_eq k n) [
    | inl same ↦ subst (λ i. IsTrue (is_marked (set marks n true) i)) (sym same) set_marks
    | inr other ↦ get_or-set_other marks n k true false other ∙ h
  ]

  set_cases : (k : ℕ) → IsTrue (is_marked (set marks n true) k) → IsTrue (is_marked marks k) ⊎ (n ≡ k)
  set_cases k h = elim (cases_eq k n) [
    | inl same ↦ inr (sym same)
    | inr other ↦ inl (sym (get_or-set_other marks n k true false other) ∙ h)
  ]

-- the next number is marked
pub marks_next : (numbers : List ℕ) (old now : List Bool) (i : ℕ) → i < length numbers
    → get_or numbers i 0 < length now → Marks (take i numbers) old now
    → Marks (take (i + 1) numbers) old (set now (get_or numbers i 0) true)
marks_next numbers old now i inside within m =
    let n = get_or numbers i 0 in
    subst (λ gone. Marks gone old (set now n true)) (sym (take_more numbers i 0 inside)) (record {
      room = length-set now n true ∙ m.room;
      kept = λ k h. set_keeps now n within k (m.kept k h);
      marked = λ k h. elim (Contains-push_cases (take i numbers) n k h) [
        | inl before ↦ set_keeps now n within k (m.marked k before)
        | inr same ↦ subst (λ j. IsTrue (is_marked (set now n true) j)) same (set_marks now n within)
      ];
      others = λ k h. elim (set_cases now n within k h) [
        | inl was ↦ elim (m.others k was) [
          | inl before ↦ inl before
          | inr gone ↦ inr (Contains-append_left (take i numbers) (n ∷ []) k gone)
        ]
        | inr same ↦ inr (subst (Contains (take i numbers ++ n ∷ [])) same (Contains-push (take i numbers) n))
      ];
    })

-- ---- the list of a number

pub list_is : (lists : List (Vec ℕ AnyGlobal)) (n : ℕ) (numbers : Vec ℕ AnyGlobal) → n < length lists
    → numbers ≡ get_or lists n numbers → list_at lists n ≡ numbers.items
list_is lists n numbers within at =
    ap (λ o. option_map_or (λ (v : Vec ℕ AnyGlobal). v.items) o [])
    (slice_get_read lists (length lists) n numbers refl within at)

pub all_within : (lists : List (Vec ℕ AnyGlobal)) (n size : ℕ) (numbers : Vec ℕ AnyGlobal)
    → IsFalling (list_at lists) → n < length lists → numbers ≡ get_or lists n numbers → n ≤ size
    → All (λ m. m < size) numbers.items
all_within lists n size numbers falling within at fits = λ i d inside.
    let m = get_or numbers.items i d in
    let lower : m < n = falling n m (subst (λ l. Contains l m) (sym (list_is lists n numbers within at))
    (Contains-get_or numbers.items i d inside)) in
    omega (arith, lower, fits)

module _ (lists : ℕ → List ℕ) where
  descends_last : (n : ℕ) (between : List ℕ) (k m : ℕ) → Descends lists n between k → Contains (lists k) m
      → Descends lists n (between ++ k ∷ []) m
  descends_last n [] k m down named = (down, named)
  descends_last n (j ∷ between) k m down named = (down.0, descends_last j between k m down.1 named)

  leads_last : (n k m : ℕ) → LeadsDown lists n k → Contains (lists k) m → LeadsDown lists n m
  leads_last n k m down named = (down.0 ++ k ∷ [], descends_last n down.0 k m down.1 named)

  descends_lower : IsFalling lists → (n : ℕ) (between : List ℕ) (m : ℕ) → Descends lists n between m → m < n
  descends_lower falling n [] m named = falling n m named
  descends_lower falling n (k ∷ between) m down =
      omega (arith, falling n k down.0, descends_lower falling k between m down.1)

  pub leads_lower : IsFalling lists → (n m : ℕ) → LeadsDown lists n m → m < n
  leads_lower falling n m down = descends_lower falling n down.0 m down.1

  -- a number that leads to none above the bound leads to the bound in one step, or not at all
  module _ (falling : IsFalling lists) (high low : ℕ) (none : All (λ n. n ≤ low) (lists high)) where
    at_once : (between : List ℕ) → Descends lists high between low → Contains (lists high) low
    at_once [] named = named
    at_once (k ∷ between) down = absurd (omega (
      arith,
      descends_lower falling k between low down.1,
      All-contains (λ n. n ≤ low) (lists high) k none down.0,
    ))

    pub leads_at_once : Contains (lists high) low ↔ LeadsDown lists high low
    leads_at_once = (λ named. ([], named), λ down. at_once down.0 down.1)

  -- ---- the search

  pub search_start : (high : ℕ) (marks : List Bool) → Marks (lists high) (replicate high false) marks
      → IsSearchDown lists high high marks
  search_start high marks m =
      let room : length marks ≡ high = m.room ∙ length-replicate high false in
      record {
        room = room;
        sound = λ n h. elim (m.others n h) [
          | inl none ↦
              let within = marked_within (replicate high false) n none in
              let small : n < high = omega (arith, within, length-replicate high false) in
              absurd (true≢false (sym none ∙ get_or-replicate high n false false small))
          | inr named ↦ ([], named)
        ];
        first = m.marked;
        closed = λ k n from marked named. absurd (omega (arith, marked_within marks k marked, room, from));
      }

  pub search_on : IsFalling lists → (high n : ℕ) (old new : List Bool) → IsTrue (is_marked old n)
      → Marks (lists n) old new → IsSearchDown lists high (n + 1) old → IsSearchDown lists high n new
  search_on falling high n old new marked m s = record {
    room = m.room ∙ s.room;
    sound = λ k h. elim (m.others k h) [
      | inl was ↦ s.sound k was
      | inr named ↦ leads_last high n k (s.sound n marked) named
    ];
    first = λ k named. m.kept k (s.first k named);
    closed = λ k j from h named. elim (cases_eq k n) [
      | inl same ↦ m.marked j (subst (λ i. Contains (lists i) j) same named)
      | inr other ↦ elim (m.others k h) [
        | inl was ↦ m.kept j (s.closed k j (omega (arith, from, other)) was named)
        | inr lower ↦ absurd (omega (arith, falling n k lower, from))
      ]
    ];
  }

  pub search_past : (high n : ℕ) (marks : List Bool) → is_marked marks n ≡ false
      → IsSearchDown lists high (n + 1) marks → IsSearchDown lists high n marks
  search_past high n marks none s = record {
    room = s.room;
    sound = s.sound;
    first = s.first;
    closed = λ k j from h named. elim (cases_eq k n) [
      | inl same ↦ absurd (true≢false (sym (subst (λ i. IsTrue (is_marked marks i)) same h) ∙ none))
      | inr other ↦ s.closed k j (omega (arith, from, other)) h named
    ];
  }

  module _ (falling : IsFalling lists) (high low next : ℕ) (marks : List Bool) (end : next ≤ low + 1)
      (s : IsSearchDown lists high next marks) where
    step : (k m : ℕ) → (k ≡ high) ⊎ IsTrue (is_marked marks k) → low < k → Contains (lists k) m
        → IsTrue (is_marked marks m)
    step k m (inl same) above named = s.first m (subst (λ i. Contains (lists i) m) same named)
    step k m (inr marked) above named = s.closed k m (omega (arith, end, above)) marked named

    found : (k : ℕ) (between : List ℕ) → (k ≡ high) ⊎ IsTrue (is_marked marks k) → Descends lists k between low
        → IsTrue (is_marked marks low)
    found k [] from down = step k low from (falling k low down) down
    found k (j ∷ between) from down =
        found j between (inr (step k j from (descends_lower falling k (j ∷ between) low down) down.0)) down.1

    -- having gone through all above it, it has marked the number if it leads there
    pub search_end : IsTrue (is_marked marks low) ↔ LeadsDown lists high low
    search_end = (s.sound low, λ down. found high down.0 (inl refl) down.1)
