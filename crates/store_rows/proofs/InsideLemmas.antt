-- Calls inside a transaction, one after the other, and the commit at its end.
use Rattle.std.proofs.Common.{◌≡◌, inl, true, Ok, Err, Result, OnOk, IfOk, arith, refl, ◌∙◌}
use Rattle.sqlite.specs.Store.{Ghosts}
use Rattle.sqlite.specs.Effect.{Database}
use Rattle.sqlite.specs.Held.{Held, state}
use Rattle.sqlite.specs.State.{State, Survives}
use Rattle.sqlite.specs.declared.transaction.Transaction.{Transaction}
use Rattle.sqlite.proofs.StateLemmas.{survives_then}
use Rattle.sqlite.proofs.Callers.{survives_begin}
use Rattle.store_rows.specs.Inside.{StaysInside, Continues, Leads, Turns, IsMade}

survives_itself : (s : State) → Survives s s (λ _. ⊥)
survives_itself s = record {
  clean = omega arith;
  shield = λ h. h;
  counts = omega arith;
  limit = refl;
  closes = λ _ o. inl o;
  crash = λ _ db h. inl h;
}

pub on_ok : {A E : Type 0} (r : Result A E) (P Q : Type 0) → (P → Q) → OnOk r P → OnOk r Q
on_ok (Ok a) P Q f h = f h
on_ok (Err e) P Q f h = tt

pub on_ok_of : {A E : Type 0} (r : Result A E) {P : Type 0} → P → OnOk r P
on_ok_of (Ok a) h = h
on_ok_of (Err e) h = tt

pub if_ok : {A E : Type 0} (r : Result A E) (P Q : A → Type 0) → ((a : A) → P a → Q a) → IfOk r P → IfOk r Q
if_ok (Ok a) P Q f h = f a h
if_ok (Err e) P Q f h = tt

module _ {S : Type 0} (g : Ghosts S) where
  pub stays : (old : Held S) → StaysInside g old old
  stays old = record {
    survives = survives_itself (state g old);
    kept = λ _. record { was_open = λ o. o; committed = λ _. refl };
  }

  pub stays_then : (a b c : Held S) → StaysInside g a b → StaysInside g b c → StaysInside g a c
  stays_then a b c p q = record {
    survives = survives_then (state g a) (state g b) (state g c) _ _ (λ _. ⊥) (λ _ db none. none) (λ _ db none. none)
        p.survives q.survives;
    kept = λ clean.
        let first = p.kept (omega (arith, q.survives.clean)) in
        let last = q.kept clean in
        record {
          was_open = λ o. first.was_open (last.was_open o);
          committed = λ o. last.committed o ∙ first.committed (last.was_open o);
        };
  }

  pub continues : (old : Transaction S) → Continues g old old
  continues old = record { same_reference = refl; inside = stays old.conn.now }

  pub continues_then : (a b c : Transaction S) → Continues g a b → Continues g b c → Continues g a c
  continues_then a b c p q = record {
    same_reference = q.same_reference ∙ p.same_reference;
    inside = stays_then a.conn.now b.conn.now c.conn.now p.inside q.inside;
  }

  pub leads_then : (a b c : Held S) (P Q R : Database → Type 0) → StaysInside g b c → Leads g a b P Q → Leads g b c Q R
      → Leads g a c P R
  leads_then a b c P Q R q one two clean was = two clean (one (omega (arith, q.survives.clean)) was)

  pub turns_then : {X : Type 0} (a b c : Held S) (Stands : X → Database → Type 0) (f h : X → X) → StaysInside g b c
      → Turns g a b Stands f → Turns g b c Stands h → Turns g a c Stands (λ x. h (f x))
  turns_then a b c Stands f h q one two clean x was = two clean (f x) (one (omega (arith, q.survives.clean)) x was)

  -- ---- `old` outside a transaction, `last` at its end, and `done` after the commit

  module _ (old last done : Held S) where
    -- the same for a database that has P and is made to have Q
    pub making : (P Q : Database → Type 0) → StaysInside g (record old { in_transaction = true }) last
        → Leads g (record old { in_transaction = true }) last P Q
        → Survives (state g last) (state g done) (λ db. db ≡ (state g last).now.trees)
        → Survives (state g old) (state g done) (IsMade g old P Q)
    making P Q inside made commit =
        survives_then (state g old) (state g last) (state g done) (λ _. ⊥) _ (IsMade g old P Q)
        (λ _ db none. absurd none)
        (λ clean db is. (last.schema, λ was. let now = made (omega (arith, commit.clean)) was in rw is now))
        (survives_begin g old (state g last) (λ _. ⊥) inside.survives) commit
