-- Updates: what they touch, that a merge is determined, and that what is good has no fault.
use Rattle.std.proofs.Common.{◌≡◌, ◌<◌, ◌≤◌, ◌+◌, ◌⊎◌, ℕ, false, not, List, [], ◌∷◌, ◌++◌, codes, refl, sym, ◌∙◌, ap}
use Rattle.std.proofs.Common.{subst, arith, inl, inr, Option, None, Some, get_or}
use Rattle.std.specs.List.{All}
use Rattle.std.specs.Prelude.{IsTrue, IsSome}
use Rattle.std.proofs.lemmas.Bool.{true≢false, both_ways, cases_Bool, cases_lt, cond-true, cond-false, not_from_true}
use Rattle.std.proofs.lemmas.Bool.{not_from_false, false_from_ne_true}
use Rattle.std.proofs.lemmas.List.{append_cancel_left}
use Rattle.std.proofs.lemmas.List.Elements.{All-nil, All-cons, All-head, All-tail, filter-append}
use Rattle.terms.proofs.Each.{any_here, any_later, any_cases, any_none, All_middle}
use Rattle.terms.specs.declared.text_faults.TextCode.{TextCode}
use Rattle.terms.specs.declared.text_faults.TextCode.TheVariants.{NoNumber, NumberOutOfOrder, NoChangeRecord}
use Rattle.terms.specs.declared.text_faults.TextCode.TheVariants.{OtherElement}
use Rattle.terms.specs.declared.text_faults.TextCode.TheVariants.{BadDelete, UpdateOutOfOrder}
use Rattle.terms.specs.declared.text_faults.TextFault.{TextFault}
use Rattle.terms.specs.Types.{Text, Lines}
use Rattle.terms.specs.Texts.{IsNumberedLine, number_of, IsNumbered, line_at, IsChange, IsDelete, IsSomeDelete}
use Rattle.terms.specs.Texts.{is_control, given, Deletes, Touches, IsMerge, FollowChange, IsUpdate, BreaksOrder}
use Rattle.terms.specs.Texts.{HasNumberedFault, HasChangeFault, HasRestFault, IsNumberedFault, IsUpdateFault}
use Rattle.terms.proofs.Texts.{Rises, Rises_numbered, same_text}
use Rattle.terms.proofs.Controls.{begins_control, change_no_delete, same_delete, same_control}

-- what an update touches

abbrev Hits : ℕ → List ℕ → Type 0
Hits n line = (low high : ℕ) × IsDelete low high line × (low ≤ n) × (n ≤ high)

hits_cases : (n : ℕ) (line : List ℕ) → (IsTrue (is_control line) → IsSomeDelete line) → Hits n line ⊎ (Hits n line → ⊥)
hits_cases n line h =
    elim (cases_Bool (is_control line)) [
      | inl yes' ↦
          let d = h yes' in
          elim (cases_lt n d.0) [
            | inl less ↦ inr (λ hit. let same = same_delete line d.0 d.1 hit.0 hit.1 d.2 hit.2 in let from = hit.3
                in absurd (omega (arith, less, same.0, from)))
            | inr low ↦ elim (cases_lt d.1 n) [
              | inl more ↦ inr (λ hit. let same = same_delete line d.0 d.1 hit.0 hit.1 d.2 hit.2 in let to = hit.4
                  in absurd (omega (arith, more, same.1, to)))
              | inr high ↦ inl (d.0, d.1, d.2, low, high)
            ]
          ]
      | inr no' ↦ inr (λ hit. both_ways (is_control line) no' (begins_control _ _ line hit.2.1))
    ]

deletes_cases : (n : ℕ) (lines : Lines) → All (λ line. IsTrue (is_control line) → IsSomeDelete line) lines
    → Deletes lines n ⊎ (Deletes lines n → ⊥)
deletes_cases n [] h = inr (any_none (Hits n))
deletes_cases n (line ∷ lines) h =
    elim (hits_cases n line (All-head (λ l. IsTrue (is_control l) → IsSomeDelete l) line lines h)) [
      | inl hit ↦ inl (any_here (Hits n) line lines hit)
      | inr miss ↦ elim (deletes_cases n lines (All-tail (λ l. IsTrue (is_control l) → IsSomeDelete l) line lines h)) [
        | inl later ↦ inl (any_later (Hits n) line lines later)
        | inr none ↦ inr (λ a. elim (any_cases (Hits n) line lines a) [ inl hit ↦ miss hit | inr later ↦ none later ])
      ]
    ]

some_cases : {X : Type 0} (o : Option X) → IsSome o ⊎ (IsSome o → ⊥)
some_cases None = inr (λ h. true≢false (sym h))
some_cases (Some x) = inl refl

-- the CHANGE record deletes nothing
pub deletes_change : (name : Text) (n : ℕ) (line : List ℕ) (lines : Lines) → IsChange name line
    → Deletes (line ∷ lines) n → Deletes lines n
deletes_change name n line lines c a =
    elim (any_cases (Hits n) line lines a) [
      | inl hit ↦ absurd (change_no_delete name line hit.0 hit.1 c hit.2)
      | inr
          later ↦ later
    ]

-- and gives no record
pub given_control : (line : List ℕ) (lines : Lines) → IsTrue (is_control line) → given (line ∷ lines) ≡ given lines
given_control line lines h = cond-false (not (is_control line)) (line ∷ given lines) (given lines)
    (not_from_true (is_control line) h)

pub given_other : (line : List ℕ) (lines : Lines) → is_control line ≡ false → given (line ∷ lines) ≡ line ∷ given lines
given_other line lines h = cond-true (not (is_control line)) (line ∷ given lines) (given lines)
    (not_from_false (is_control line) h)

-- An update touches a number or does not.
pub touches_cases : (name : Text) (update : Lines) (n : ℕ) → IsUpdate name update
    → Touches update n ⊎ (Touches update n → ⊥)
touches_cases name [] n h = absurd h
touches_cases name (line ∷ lines) n h =
    elim (some_cases (line_at (given (line ∷ lines)) n)) [
      | inl gives ↦ inl (inl gives)
      | inr none ↦ elim (deletes_cases n lines h.1.controls) [
        | inl deletes ↦ inl (inr (any_later (Hits n) line lines deletes))
        | inr keeps ↦ inr (λ t. elim t [
          | inl gives ↦ none gives
          | inr deletes ↦ keeps
              (deletes_change name n line lines h.0 deletes)
        ])
      ]
    ]

-- There is one merge of a text and an update.
pub same_merge : (name : Text) (old update a b : Lines) → IsUpdate name update → IsMerge old update a
    → IsMerge old update b → a ≡ b
same_merge name old update a b h m k =
    same_text a b m.numbered k.numbered (λ n.
    elim (touches_cases name update n h) [
      | inl touched ↦ m.touched n touched ∙ sym (k.touched n touched)
      | inr other ↦ m.others n other ∙ sym (k.others n other)
    ])

-- what is good has no fault

least_below : (least : ℕ) (before : Lines) (line : List ℕ) (after : Lines) → Rises least (before ++ line ∷ after)
    → least ≤ number_of line
least_below least [] line after h = h.0
least_below least (x ∷ xs) line after h =
    let rest = least_below (number_of x + 1) xs line after h.1 in
    let first = h.0 in
    omega (arith, rest, first)

all_below : (least : ℕ) (before : Lines) (line : List ℕ) (after : Lines) → Rises least (before ++ line ∷ after)
    → All (λ b. number_of b < number_of line) before
all_below least [] line after h = All-nil _
all_below least (x ∷ xs) line after h =
    let first = least_below (number_of x + 1) xs line after h.1 in
    All-cons (λ b. number_of b < number_of line) x xs (omega (arith, first))
    (all_below (number_of x + 1) xs line after h.1)

in_order : (before : Lines) (line : List ℕ) (after : Lines) → IsNumbered (before ++ line ∷ after)
    → BreaksOrder before line → ⊥
in_order before line after h b =
    let below = all_below 0 before line after (Rises_numbered (before ++ line ∷ after) h) in
    let one : number_of (get_or before b.1.0 b.1.1) < number_of line = below b.1.0 b.1.1 b.1.2 in
    let same = ap number_of b.1.3 in
    let not_above = b.1.4 in
    omega (arith, one, same, not_above)

numbered_code : (code : TextCode) (before : Lines) (line : List ℕ) (after : Lines) → IsNumbered (before ++ line ∷ after)
    → HasNumberedFault before line code → ⊥
numbered_code NoNumber before line after h f = f (All_middle IsNumberedLine before line after h.numbers)
numbered_code NumberOutOfOrder before line after h f = in_order before line after h f
numbered_code NoChangeRecord before line after h f = f
numbered_code OtherElement before line after h f = f
numbered_code BadDelete before line after h f = f
numbered_code UpdateOutOfOrder before line after h f = f

-- A numbered text has no fault.
pub numbered_no_fault : (text : Lines) (fault : TextFault) → IsNumbered text → IsNumberedFault text fault → ⊥
numbered_no_fault text fault h f = numbered_code fault.code f.before f.line f.after (subst IsNumbered f.lines_are h)
    f.code_is

change_code : (name : Text) (line : List ℕ) (code : TextCode) → IsChange name line → HasChangeFault name line code → ⊥
change_code name line NoNumber c f = f
change_code name line NumberOutOfOrder c f = f
change_code name line NoChangeRecord c f = f name c
change_code name line OtherElement c f = f.1 (append_cancel_left (codes "NAME=") _ _
    (same_control _ _ _ _ line f.2 c).1)
change_code name line BadDelete c f = f
change_code name line UpdateOutOfOrder c f = f

given_middle : (before : Lines) (line : List ℕ) (after : Lines) → (IsTrue (is_control line) → ⊥)
    → given (before ++ line ∷ after) ≡ given before ++ line ∷ given after
given_middle before line after other =
    filter-append (λ l. not (is_control l)) before (line ∷ after)
    ∙ ap (λ l. given before ++ l) (given_other line after (false_from_ne_true (is_control line) other))

rest_code : (before : Lines) (line : List ℕ) (after : Lines) (code : TextCode) → FollowChange (before ++ line ∷ after)
    → HasRestFault before line code → ⊥
rest_code before line after NoNumber h f = f.1 (All_middle IsNumberedLine (given before) line (given after)
    (subst IsNumbered (given_middle before line after f.0) h.numbered).numbers)
rest_code before line after NumberOutOfOrder h f = f
rest_code before line after NoChangeRecord h f = f
rest_code before line after OtherElement h f = f
rest_code before line after BadDelete h f = f.1 (All_middle (λ l. IsTrue (is_control l)
    → IsSomeDelete l) before line after
    h.controls f.0)
rest_code before line after UpdateOutOfOrder h f = in_order (given before) line (given after)
    (subst IsNumbered (given_middle before line after f.0) h.numbered) f.1

-- An update has no fault.
pub update_no_fault : (name : Text) (update : Lines) (fault : TextFault) → IsUpdate name update
    → IsUpdateFault name update fault → ⊥
update_no_fault name [] fault h f = h
update_no_fault name (line ∷ lines) fault h f =
    elim f [
      | inl first ↦ change_code name line fault.code h.0 first.1
      | inr later ↦ rest_code later.1.before later.1.line later.1.after fault.code
          (subst FollowChange later.1.lines_are h.1) later.1.code_is
    ]
