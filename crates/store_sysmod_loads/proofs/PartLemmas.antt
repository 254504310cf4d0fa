-- Calls that read part of the rows of SYSMODs, one after the other.
use Rattle.std.proofs.Common.{◌≡◌, List, Result, Ok, Err, IfOk, OnOk, IsErr, IsErrOf, arith, rules, sym, subst}
use Rattle.sqlite.specs.Store.{Ghosts}
use Rattle.sqlite.specs.Held.{Held, state}
use Rattle.sqlite.specs.State.{HasCleanDisk, IsUnchanged}
use Rattle.terms.specs.Types.{Sysmod}
use Rattle.store_rows.specs.declared.error.ReadError.{ReadError}
use Rattle.store_rows.specs.declared.error.ReadError.TheVariants.{BadRow, Fault}
use Rattle.store_rows.specs.Rows.{Contents, HasContents}
use Rattle.store_rows.proofs.InsideLemmas.{if_ok}
use Rattle.store_rows.proofs.Queries.{reads_err, reads_more, reads_then}
use Rattle.store_schema.specs.declared.schema.Schema.{Schema}
use Rattle.store_schema.specs.Earlier.{schema_under}
use Rattle.store_sysmod_loads.specs.Flats.{AreFormed}
use Rattle.store_sysmod_loads.specs.Parts.{LoadsPart}

module _ {S : Type 0} {g : Ghosts S} {r : Schema} where
  -- the rows stand where they stood
  still : {X : Type 0} {H : X → Contents → Type 0} {W : X → List Sysmod → Type 0} {a b : Held S}
      {q : Result X ReadError}
      {x : X} → q ≡ Ok x → LoadsPart g r H W a b q → HasCleanDisk (state g b) → (contents : Contents)
      → HasContents (schema_under r) contents (state g a).now → HasContents (schema_under r) contents (state g b).now
  still {a = a} {b = b} is h clean contents was =
      let same = subst (λ q. OnOk q (IsUnchanged (state g a) (state g b))) is (h.reads.same clean) in
      subst (HasContents (schema_under r) contents) (sym same.0.now_is) was

  -- an error of the call
  pub part_err : {X Y : Type 0} {H : X → Contents → Type 0} {W : X → List Sysmod → Type 0}
      {K : Y → Contents → Type 0} {V : Y → List Sysmod → Type 0} {a b : Held S} {q : Result X ReadError}
      {p : Result Y ReadError} → IsErr p → (IsErrOf p BadRow → IsErrOf q BadRow) → (IsErrOf p Fault → IsErrOf q Fault)
      → LoadsPart g r H W a b q → LoadsPart g r K V a b p
  part_err {a = a} {b = b} {q = q} {p = Err e} failed told blamed h = record {
    found = λ clean contents was. tt;
    only = λ clean contents was sysmods formed rows. tt;
    none = λ clean bad contents was sysmods formed. h.none clean (told bad) contents was sysmods formed;
    reads = reads_err g (schema_under r) BadRow Fault a b q (Err e) failed told blamed h.reads;
  }
  part_err {p = Ok y} failed told blamed h = absurd (search rules)

  -- what was read is put to use, which meets no fault
  pub part_more : {X Y : Type 0} {H : X → Contents → Type 0} {W : X → List Sysmod → Type 0}
      {K : Y → Contents → Type 0} {V : Y → List Sysmod → Type 0} {a b : Held S} {q : Result X ReadError} {x : X}
      (p : Result Y ReadError) → q ≡ Ok x → IfOk p (λ y. (contents : Contents) → H x contents → K y contents)
      → IfOk p (λ y. (sysmods : List Sysmod) → AreFormed r sysmods → W x sysmods → V y sysmods)
      → (IsErrOf p BadRow → (sysmods : List Sysmod) → AreFormed r sysmods → ¬ W x sysmods) → ¬ IsErrOf p Fault
      → LoadsPart g r H W a b q → LoadsPart g r K V a b p
  part_more {H = H} {W = W} {K = K} {V = V} {a = a} {b = b} {q = q} {x = x} p is holds has none sound h = record {
    found = λ clean contents was.
        let there = subst (λ q. IfOk q (λ x. H x contents)) is (h.found clean contents was) in
        if_ok p (λ y. (c : Contents) → H x c → K y c) (λ y. K y contents) (λ y f. f contents there) holds;
    only = λ clean contents was sysmods formed rows.
        let there = subst (λ q. IfOk q (λ x. W x sysmods)) is (h.only clean contents was sysmods formed rows) in
        if_ok p (λ y. (ss : List Sysmod) → AreFormed r ss → W x ss → V y ss) (λ y. V y sysmods)
        (λ y f. f sysmods formed there) has;
    none = λ clean bad contents was sysmods formed rows.
        let there = subst (λ q. IfOk q (λ x. W x sysmods)) is (h.only clean contents was sysmods formed rows) in
        none bad sysmods formed there;
    reads = reads_more g (schema_under r) BadRow Fault a b q x p is sound h.reads;
  }

  -- two calls, of which the first has answered
  pub part_then : {X Y : Type 0} {H : X → Contents → Type 0} {W : X → List Sysmod → Type 0}
      {K : Y → Contents → Type 0} {V : Y → List Sysmod → Type 0} {a b c : Held S} {q : Result X ReadError} {x : X}
      {p : Result Y ReadError} → q ≡ Ok x → LoadsPart g r H W a b q → LoadsPart g r K V b c p
      → LoadsPart g r (λ y contents. H x contents × K y contents) (λ y sysmods. W x sysmods × V y sysmods) a c p
  part_then {H = H} {W = W} {K = K} {V = V} {a = a} {b = b} {c = c} {q = q} {x = x} {p = p} is one two =
      let earlier : HasCleanDisk (state g c) → HasCleanDisk (state g b) = λ clean. omega (
        arith,
        two.reads.crash.clean,
        clean,
      ) in
      record {
        found = λ clean contents was.
            let first = subst (λ q. IfOk q (λ x. H x contents)) is (one.found (earlier clean) contents was) in
            if_ok p (λ y. K y contents) (λ y. H x contents × K y contents) (λ y second. (first, second))
            (two.found clean contents (still is one (earlier clean) contents was));
        only = λ clean contents was sysmods formed rows.
            let first = subst (λ q. IfOk q (λ x. W x sysmods)) is
            (one.only (earlier clean) contents was sysmods formed rows) in
            if_ok p (λ y. V y sysmods) (λ y. W x sysmods × V y sysmods) (λ y second. (first, second))
            (two.only clean contents (still is one (earlier clean) contents was) sysmods formed rows);
        none = λ clean bad contents was sysmods formed rows.
            two.none clean bad contents (still is one (earlier clean) contents was) sysmods formed rows;
        reads = reads_then g (schema_under r) BadRow Fault a b c q x p is one.reads two.reads;
      }
