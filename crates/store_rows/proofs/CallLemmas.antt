-- Statements of a transaction, one list behind the other.
use Rattle.std.proofs.Common.{◌≡◌, ◌⊎◌, inl, inr, ℕ, IsTrue, List, [], ◌∷◌, ◌++◌, false}
use Rattle.std.proofs.Common.{Result, Ok, Err, refl, sym, ap, subst, ◌∙◌, IsErr, IsErrAnd, arith}
use Rattle.std.proofs.Common.{◌<◌, ◌+◌, length, take, drop, get_or, suc, append-nil}
use Rattle.std.proofs.lemmas.Bool.{cases_Bool}
use Rattle.std.specs.List.{flat_map}
use Rattle.std.proofs.Math.Seq.{take-suc}
use Rattle.std.proofs.lemmas.Grind.{flat_map-append}
use Rattle.std.proofs.lemmas.List.{append_assoc, take-append-drop}
use Rattle.sqlite.specs.Store.{Ghosts}
use Rattle.sqlite.specs.Order.{Row}
use Rattle.sqlite.specs.declared.error.Error.{Error}
use Rattle.sqlite.specs.declared.error.Error.TheVariants.{SqliteFailure}
use Rattle.sqlite.specs.declared.error.ErrorCode.TheVariants.{OutOfMemory, TooBig}
use Rattle.sqlite.specs.Held.{Held, state}
use Rattle.sqlite.specs.Tree.{Trees}
use Rattle.sqlite.specs.State.{State, Survives, HasCleanDisk, IsUnchanged, IsNotRun, ExecutesIn, ExecutesInside}
use Rattle.sqlite.specs.State.{shows_rows}
use Rattle.store_rows.specs.Reads.{HasFailed}
use Rattle.store_rows.specs.Inside.{StaysInside}
use Rattle.store_rows.specs.Calls.{Call, Ran, RefusedCall, RunsThrough, RunsInside}
use Rattle.store_rows.proofs.Causes.{failed_itself}

-- the second answers where the first does, and hands its error on
abbrev pub Follows : {X Y : Type 0} → Result X Error → Result Y Error → Type 0
Follows (Ok x) (Ok y) = Unit {0}
Follows (Ok x) (Err e) = ⊥
Follows (Err e) (Ok y) = ⊥
Follows (Err e) (Err z) = e ≡ z

pub follows_ok : {X Y : Type 0} (q : Result X Error) (x : X) (y : Y) → q ≡ Ok x → Follows q (Ok y)
follows_ok (Ok w) x y is = tt
follows_ok (Err e) x y is = absurd cc

pub follows_err : {X Y : Type 0} (q : Result X Error) (e : Error) (r : Result Y Error) → q ≡ Err e
    → IsErrAnd r (λ z. z ≡ e) → Follows q r
follows_err (Err d) e (Err z) is told = cc (is, told)
follows_err (Err d) e (Ok y) is told = absurd told
follows_err (Ok x) e r is told = absurd cc

-- what an error of a statement leaves
left_by : (old new : State) (sql : List ℕ) (params : Row) (e : Error) → ExecutesIn false sql params old new (Err e)
    → (e ≡ SqliteFailure OutOfMemory) ⊎ (HasFailed old new ⊎ (IsUnchanged old new ⊎ (e ≡ SqliteFailure TooBig)))
unfolding ExecutesIn IsNotRun
left_by old new sql params e (inl (inl h)) = inr (inr (inl h.1))
left_by old new sql params e (inl (inr h)) = elim (failed_itself old new _ e h) [
  | inl short ↦ inl short
  | inr (inl failed) ↦ inr (inl failed)
  | inr (inr big) ↦ inr (inr (inr big.1))
]
left_by old new sql params e (inr h) = elim (cases_Bool (shows_rows false h.0)) [
  | inl shows ↦ inr (inr (inl (rw shows at h.2).1))
  | inr runs ↦ elim (rw runs at h.2) [
    | inl refused ↦ inr (inr (inl refused.1))
    | inr fails ↦ elim (failed_itself old new _ e fails) [
      | inl short ↦ inl short
      | inr (inl failed) ↦ inr (inl failed)
      | inr (inr big) ↦ inr (inr (inr big.1))
    ]
  ]
]

next_calls : {X : Type 0} (f : X → List Call) (items : List X) (i : ℕ) (item : X) → i < length items
    → item ≡ get_or items i item → flat_map f (take (i + 1) items) ≡ flat_map f (take i items) ++ f item
next_calls f items i item within at =
    let next : i + 1 ≡ suc i = omega arith in
    ap (λ n. flat_map f (take n items)) next
    ∙ ap (flat_map f) (take-suc items i item within ∙ ap (λ x. take i items ++ x ∷ []) (sym at))
    ∙ flat_map-append f (take i items) (item ∷ []) ∙ ap (λ l. flat_map f (take i items) ++ l) (append-nil (f item))

parted_calls : {X : Type 0} (f : X → List Call) (items : List X) (n : ℕ)
    → flat_map f (take n items) ++ flat_map f (drop n items) ≡ flat_map f items
parted_calls f items n =
    sym (flat_map-append f (take n items) (drop n items)) ∙ ap (flat_map f) (take-append-drop n items)

-- the database failed behind calls, or before others
pub failed_then : (a b c : State) {P Q : Trees → Type 0} → Survives a b P → Survives b c Q → HasCleanDisk c
    → HasFailed b c → HasFailed a c
failed_then a b c one two clean (inl more) = inl (omega (arith, more, one.counts))
failed_then a b c one two clean (inr shut) = elim (cases_Bool a.is_open) [
  | inr was ↦ inr was
  | inl was ↦ elim (one.closes (omega (arith, two.clean, clean)) was) [
    | inl still ↦ absurd cc
    | inr more ↦ inl (omega (arith, more, two.counts))
  ]
]

pub failed_before : (a b c : State) {Q : Trees → Type 0} → Survives b c Q → HasFailed a b → HasFailed a c
failed_before a b c two (inl more) = inl (omega (arith, more, two.counts))
failed_before a b c two (inr shut) = inr shut

module _ {S : Type 0} (g : Ghosts S) where
  alone : (old new : Held S) (sql : List ℕ) (params : Row) (r : Result ℕ Error)
      → ExecutesInside 0 sql params (state g old) (state g new) r → RunsThrough g ((sql, params) ∷ []) old new r
  alone old new sql params (Ok n) h = ((new, n, h.0, refl), cc h.1.mode)
  alone old new sql params (Err e) h =
      let refused : IsUnchanged (state g old) (state g new) ⊎ (e ≡ SqliteFailure TooBig)
      → RefusedCall g ((sql, params) ∷ []) old new e = λ left. record {
        before = [];
        call = (sql, params);
        after = [];
        are = refl;
        at = old;
        limit = refl;
        ran = refl;
        refused = h;
        left = left;
      } in
      elim h [
        | inr ends ↦ inr (inr (refused (inl ends.2)))
        | inl (ran, inl same) ↦ inr (inr (refused (inl same)))
        | inl (ran, inr back) ↦ elim (left_by (state g old) (state g new) sql params e ran) [
          | inl short ↦ inl short
          | inr (inl failed) ↦ inr (inl failed)
          | inr (inr left) ↦ inr (inr (refused left))
        ]
      ]

  -- one statement
  pub one_call : {X : Type 0} (old new : Held S) (sql : List ℕ) (params : Row) (q : Result ℕ Error) (r : Result X Error)
      → (HasCleanDisk (state g new) → IsTrue old.in_transaction
      → ExecutesInside 0 sql params (state g old) (state g new) q)
      → Follows q r → RunsInside g ((sql, params) ∷ []) old new r
  one_call old new sql params (Ok n) (Ok x) runs follows clean inside =
      alone old new sql params (Ok n) (runs clean inside)
  one_call old new sql params (Ok n) (Err e) runs follows clean inside = absurd follows
  one_call old new sql params (Err e) (Ok x) runs follows clean inside = absurd follows
  one_call old new sql params (Err e) (Err y) runs follows clean inside =
      subst (λ z. RunsThrough g ((sql, params) ∷ []) old new {X = Unit} (Err z)) follows
      (alone old new sql params (Err e) (runs clean inside))

  pub ran_then : (xs ys : List Call) (a b c : Held S) → Ran g xs a b → Ran g ys b c → Ran g (xs ++ ys) a c
  ran_then [] ys a b c same two = subst (λ h. Ran g ys h c) same two
  ran_then (x ∷ xs) ys a b c one two = (one.0, one.1, one.2, ran_then xs ys one.0 b c one.3 two)

  refused_then : (xs ys : List Call) (a b c : Held S) (e : Error) → Ran g xs a b
      → (state g b).step_limit ≡ (state g a).step_limit → RefusedCall g ys b c e → RefusedCall g (xs ++ ys) a c e
  refused_then xs ys a b c e one limit two = record {
    before = xs ++ two.before;
    call = two.call;
    after = two.after;
    are = ap (λ l. xs ++ l) two.are ∙ sym (append_assoc xs two.before (two.call ∷ two.after));
    at = two.at;
    limit = two.limit ∙ limit;
    ran = ran_then xs two.before a b two.at one two.ran;
    refused = two.refused;
    left = two.left;
  }

  refused_more : (xs ys : List Call) (a b : Held S) (e : Error) → RefusedCall g xs a b e → RefusedCall g (xs ++ ys) a b e
  refused_more xs ys a b e h = record {
    before = h.before;
    call = h.call;
    after = h.after ++ ys;
    are = ap (λ l. l ++ ys) h.are ∙ append_assoc h.before (h.call ∷ h.after) ys;
    at = h.at;
    limit = h.limit;
    ran = h.ran;
    refused = h.refused;
    left = h.left;
  }

  -- statements that ran, and more of them
  pub runs_then : {X Y : Type 0} (xs ys : List Call) (a b c : Held S) (q : Result X Error) (x : X) (r : Result Y Error)
      → StaysInside g a b → StaysInside g b c → q ≡ Ok x → RunsInside g xs a b q → RunsInside g ys b c r
      → RunsInside g (xs ++ ys) a c r
  runs_then xs ys a b c (Ok w) x (Ok y) one two is first more clean inside =
      let it = first (omega (arith, two.survives.clean, clean)) inside in
      let then = more clean it.1 in
      (ran_then xs ys a b c it.0 then.0, then.1)
  runs_then xs ys a b c (Ok w) x (Err e) one two is first more clean inside =
      let it = first (omega (arith, two.survives.clean, clean)) inside in
      elim (more clean it.1) [
        | inl short ↦ inl short
        | inr (inl failed) ↦ inr (inl (failed_then (state g a) (state g b) (state g c) one.survives two.survives clean
            failed))
        | inr (inr refused) ↦ inr (inr (refused_then xs ys a b c e it.0 one.survives.limit refused))
      ]
  runs_then xs ys a b c (Err w) x r one two is first more clean inside = absurd cc

  -- one of the first statements failed
  pub runs_err : {X Y : Type 0} (xs ys : List Call) (a b : Held S) (q : Result X Error) (r : Result Y Error)
      → IsErr q → Follows q r → RunsInside g xs a b q → RunsInside g (xs ++ ys) a b r
  runs_err xs ys a b (Err e) (Err y) failed follows first clean inside =
      let it = subst (λ z. RunsThrough g xs a b {X = Unit} (Err z)) follows (first clean inside) in
      elim it [
        | inl short ↦ inl short
        | inr (inl failed) ↦ inr (inl failed)
        | inr (inr refused) ↦ inr (inr (refused_more xs ys a b y refused))
      ]
  runs_err xs ys a b (Err e) (Ok y) failed follows first clean inside = absurd follows
  runs_err xs ys a b (Ok x) r failed follows first clean inside = absurd cc

  -- memory was short
  pub runs_short : {X : Type 0} (xs : List Call) (a b : Held S) (r : Result X Error)
      → IsErrAnd r (λ e. e ≡ SqliteFailure OutOfMemory) → RunsInside g xs a b r
  runs_short xs a b (Err e) (short) clean inside = inl short
  runs_short xs a b (Ok x) short clean inside = absurd short

  -- ---- the statements of each item of a list, in a loop

  -- one item more
  pub runs_item : {X A Y : Type 0} (f : X → List Call) (items : List X) (i : ℕ) (item : X) (a b c : Held S) (x : A)
      (r : Result Y Error) → i < length items → item ≡ get_or items i item → StaysInside g a b → StaysInside g b c
      → RunsInside g (flat_map f (take i items)) a b (Ok x) → RunsInside g (f item) b c r
      → RunsInside g (flat_map f (take (i + 1) items)) a c r
  runs_item f items i item a b c x r within at one two before it =
      subst (λ calls. RunsInside g calls a c r) (sym (next_calls f items i item within at))
      (runs_then (flat_map f (take i items)) (f item) a b c (Ok x) x r one two refl before it)

  -- an item failed, and none behind it was begun
  pub runs_stop : {X Y Z : Type 0} (f : X → List Call) (items : List X) (i : ℕ) (a c : Held S) (q : Result Y Error)
      (r : Result Z Error) → IsErr q → Follows q r → RunsInside g (flat_map f (take (i + 1) items)) a c q
      → RunsInside g (flat_map f items) a c r
  runs_stop f items i a c q r failed follows it =
      subst (λ calls. RunsInside g calls a c r) (parted_calls f items (i + 1))
      (runs_err (flat_map f (take (i + 1) items)) (flat_map f (drop (i + 1) items)) a c q r failed follows it)
