-- It cannot be refuted that each file consists of items or has a fault.
use Rattle.std.proofs.Common.{◌≡◌, ◌⊎◌, ◌≤◌, inl, inr, ℕ, zero, suc, Bool, true, false, List, [], ◌∷◌, length, Option}
use Rattle.std.proofs.Common.{refl, arith}
use Rattle.terms.specs.declared.codes.StatementCode.{StatementCode}
use Rattle.terms.specs.declared.codes.StatementCode.TheVariants.{BadStatementForm, UnknownStatementWord}
use Rattle.terms.specs.declared.codes.StatementCode.TheVariants.{BadStatementOperand}
use Rattle.terms.specs.declared.codes.StatementCode.TheVariants.{WrongPlace, BadText, OverLimit}
use Rattle.terms.specs.Types.{Lines, HoldItem}
use Rattle.terms.specs.Records.{HasRecords, rec_fault_record}
use Rattle.terms.specs.Groups.{starts_outside}
use Rattle.terms.specs.Statement.{StFault, IsStFault}
use Rattle.terms.specs.Statements.{Statement}
use Rattle.terms.specs.Ptfin.{Begun, SoFar, sysmod_in, nothing, items_of, after, Parts, these_parts, IsPlaced}
use Rattle.terms.specs.Ptfin.{HasValue, IsWithin, HasGoodText}
use Rattle.terms.specs.Ptfin.{IsGoodStatement, IsStatementFault, HasParts, BeginsWithStatements, IsPtfin, McsFault}
use Rattle.terms.specs.Ptfin.{IsNextFault, IsPtfinFault}
use Rattle.terms.specs.HoldFile.{IsGoodItem, IsItemFault, BeginsWithItems, IsHoldFile, IsNextItemFault, IsHoldFileFault}
use Rattle.machine_laws.specs.Answers.{IsRead}
use Rattle.machine_laws.proofs.CutUp.{records_read, statement_read, group_taken}
use Rattle.terms.specs.Ptfin.{IsFileFault, IsUnknown}

-- Records are no statement, or begin with no known word, or with a known one.
no_statement : (records : Lines) → ¬ ((why : StFault) × IsStFault records why) → ¬ IsUnknown records
    → ((p : Parts) → ¬ HasParts records p) → ⊥
no_statement records fault unknown known = statement_read records (λ read. elim read [
  | inr why ↦ fault why
  | inl is ↦ unknown (record {
    pieces = is.0;
    inline = is.1;
    statement = is.2;
    unknown = λ w own rest takes.
        known (these_parts w own rest is.1) (record { pieces = is.0; statement = is.2; begins = takes });
  })
])

-- ---- a statement of PTFIN

module _ (current : Option Begun) (later records : Lines) where
  abbrev GoodOrFault : Type 0
  GoodOrFault = ((s : Statement) × IsGoodStatement current later records s)
      ⊎ ((code : StatementCode) × IsStatementFault current later records code)

  known_judged : (p : Parts) → HasParts records p → ¬ ¬ GoodOrFault
  known_judged p known none = none (inr (BadStatementOperand, (p, known, (placed, no_value))))
    where
      placed : IsPlaced (sysmod_in current) later p
      placed why misplaced = none (inr (WrongPlace, (p, known, (why, misplaced))))

      no_value : (s : Statement) → ¬ HasValue (sysmod_in current) p s
      no_value s value = none (inr (OverLimit, (p, known, (s, placed, value, over))))
        where
          over : ¬ IsWithin current s p.inline
          over within = none (inr (BadText, (p, known, (s, placed, value, within, bad))))
            where
              bad : ¬ HasGoodText s
              bad text = none (inl (
                s,
                (
                  p,
                  known,
                  record { placed = placed; value = value; within = within; text = text },
                ),
              ))

  good_or_fault : ¬ ¬ GoodOrFault
  good_or_fault none =
      no_statement records (λ fault. none (inr (BadStatementForm, fault)))
      (λ unknown. none (inr (UnknownStatementWord, unknown)))
      (λ p known. known_judged p known none)

-- ---- PTFIN

abbrev Begins : SoFar → ℕ → Lines → Type 0
Begins c n records =
    ((ss : List Statement) × (d : SoFar) × (m : ℕ) × BeginsWithStatements c n records ss d m [])
    ⊎ ((ss : List Statement) × (d : SoFar) × (m : ℕ) × (rest : Lines) × (fault : McsFault)
    × BeginsWithStatements c n records ss d m rest × IsNextFault d m rest fault)

begins_or_fault : (k : ℕ) (c : SoFar) (n : ℕ) (records : Lines) → length records ≤ k → starts_outside records ≡ false
    → ¬ ¬ Begins c n records
begins_or_fault k c n [] short starts none = none (inl ([], c, n, (refl, refl, refl)))
begins_or_fault zero c n (r ∷ rs) short starts none = omega (arith, short)
begins_or_fault (suc k) c n (r ∷ rs) short starts none =
    let g = group_taken n r rs starts in
    good_or_fault c.current g.later g.group.records (λ judged. elim judged [
      | inr bad ↦ none (inr (
        [],
        c,
        n,
        r ∷ rs,
        record { number = g.group.number; code = bad.0 },
        (refl, refl, refl),
        (g.group, g.next, g.later, g.takes, refl, bad.1),
      ))
      | inl good ↦ begins_or_fault k (after c good.0) g.next g.later (omega (arith, short, g.shorter))
          g.takes.rest_starts (λ more. elim more [
            | inl all ↦ none (inl (
              good.0 ∷ all.0,
              all.1,
              all.2,
              (g.group, g.next, g.later, g.takes, good.1, all.3),
            ))
            | inr at ↦ none (inr (
              good.0 ∷ at.0,
              at.1,
              at.2,
              at.3,
              at.4,
              (g.group, g.next, g.later, g.takes, good.1, at.5),
              at.6,
            ))
          ])
    ])

-- A file is read, or its records are at fault, or its first record begins no statement.
file_read : {I : Type 0} (bytes : List ℕ) (Good : List I → Type 0) (Fault : McsFault → Type 0)
    → ((fault : McsFault) → IsFileFault bytes fault → Fault fault)
    → ((records : Lines) → HasRecords bytes records → starts_outside records ≡ false → ¬ ¬ IsRead Good Fault)
    → ¬ ¬ IsRead Good Fault
file_read bytes Good Fault at_fault read none = elim (records_read bytes) [
  | inr bad ↦ none (inr (
    record { number = rec_fault_record bad.0; code = BadStatementForm },
    at_fault (record { number = rec_fault_record bad.0; code = BadStatementForm }) (inl (refl, bad.0, bad.1, refl)),
  ))
  | inl good ↦ by good.0 good.1 (starts_outside good.0) refl
]
  where
    by : (records : Lines) → HasRecords bytes records → (b : Bool) → starts_outside records ≡ b → ⊥
    by records has true at = none (inr (
      record { number = 1; code = WrongPlace },
      at_fault (record { number = 1; code = WrongPlace }) (inr (refl, refl, records, has, at)),
    ))
    by records has false at = read records has at none

-- PTFIN is of items or has a fault.
pub ptfin_read : (bytes : List ℕ) → ¬ ¬ IsRead (IsPtfin bytes) (IsPtfinFault bytes)
ptfin_read bytes = file_read bytes (IsPtfin bytes) (IsPtfinFault bytes) (λ fault bad. inl bad) (λ records has at none.
    begins_or_fault (length records) nothing 1 records (omega arith) at (λ begins. elim begins [
      | inl all ↦ none (inl (items_of all.1, (records, all.0, all.1, all.2, has, all.3, refl)))
      | inr bad ↦ none (inr (
        bad.4,
        inr (records, bad.0, bad.1, bad.2, bad.3, has, bad.5, bad.6),
      ))
    ]))

-- ---- a hold file

module _ (records : Lines) where
  abbrev GoodItemOrFault : Type 0
  GoodItemOrFault = ((item : HoldItem) × IsGoodItem records item) ⊎ ((code : StatementCode) × IsItemFault records code)

  known_item : (p : Parts) → HasParts records p → ¬ ¬ GoodItemOrFault
  known_item p known none =
      none (inr (
        WrongPlace,
        (
          p,
          known,
          λ stands.
              none (inr (
                BadStatementOperand,
                (
                  p,
                  known,
                  stands,
                  λ item has.
                      none (inr (
                        OverLimit,
                        (
                          p,
                          item,
                          known,
                          stands,
                          has,
                          λ within.
                              none (inl (item, (p, known, stands, has, within))),
                        ),
                      )),
                ),
              )),
        ),
      ))

  good_item_or_fault : ¬ ¬ GoodItemOrFault
  good_item_or_fault none =
      no_statement records (λ fault. none (inr (BadStatementForm, fault)))
      (λ unknown. none (inr (UnknownStatementWord, unknown)))
      (λ p known. known_item p known none)

abbrev BeginsItems : ℕ → Lines → Type 0
BeginsItems n records =
    ((items : List HoldItem) × (m : ℕ) × BeginsWithItems n records items m [])
    ⊎ ((items : List HoldItem) × (m : ℕ) × (rest : Lines) × (fault : McsFault)
    × BeginsWithItems n records items m rest × IsNextItemFault m rest fault)

items_or_fault : (k n : ℕ) (records : Lines) → length records ≤ k → starts_outside records ≡ false
    → ¬ ¬ BeginsItems n records
items_or_fault k n [] short starts none = none (inl ([], n, (refl, refl)))
items_or_fault zero n (r ∷ rs) short starts none = omega (arith, short)
items_or_fault (suc k) n (r ∷ rs) short starts none =
    let g = group_taken n r rs starts in
    good_item_or_fault g.group.records (λ judged. elim judged [
      | inr bad ↦ none (inr (
        [],
        n,
        r ∷ rs,
        record { number = g.group.number; code = bad.0 },
        (refl, refl),
        (g.group, g.next, g.later, g.takes, refl, bad.1),
      ))
      | inl good ↦ items_or_fault k g.next g.later (omega (arith, short, g.shorter)) g.takes.rest_starts (λ more.
          elim more [
            | inl all ↦ none (inl (good.0 ∷ all.0, all.1, (g.group, g.next, g.later, g.takes, good.1, all.2)))
            | inr at ↦ none (inr (
              good.0 ∷ at.0,
              at.1,
              at.2,
              at.3,
              (g.group, g.next, g.later, g.takes, good.1, at.4),
              at.5,
            ))
          ])
    ])

-- A hold file is of items or has a fault.
pub hold_file_read : (bytes : List ℕ) → ¬ ¬ IsRead (IsHoldFile bytes) (IsHoldFileFault bytes)
hold_file_read bytes = file_read bytes (IsHoldFile bytes) (IsHoldFileFault bytes) (λ fault bad. inl bad)
    (λ records has at none. items_or_fault (length records) 1 records (omega arith) at (λ begins. elim begins [
      | inl all ↦ none (inl (all.0, (records, all.1, has, all.2)))
      | inr bad ↦ none (inr (bad.3, inr (records, bad.0, bad.1, bad.2, has, bad.4, bad.5)))
    ]))
