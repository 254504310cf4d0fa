-- The ++VERs of one statement more, and in another order.
use Rattle.std.proofs.Common.{◌≡◌, ◌<◌, ◌≤◌, ◌+◌, ℕ, List, [], ◌++◌, ◌∷◌, length, take, get_or, IsPermutation}
use Rattle.std.proofs.Common.{subst, sym, ap, ◌∙◌, arith, refl}
use Rattle.std.proofs.lemmas.List.{take_more, take_all}
use Rattle.std.specs.List.{All, Any}
use Rattle.std.proofs.lemmas.List.Elements.{All-weaker, All-append, All-push, All-nil}
use Rattle.terms.specs.Beside.{Beside}
use Rattle.terms.proofs.Each.{any_in, All_from_each, Any_append_left}
use Rattle.terms.proofs.BesideLists.{beside_there}
use Rattle.terms.proofs.Places.{at_place}
use Rattle.std.proofs.lemmas.Option.{slice_get_within}
use Rattle.terms.specs.Types.{Text, IfReq, Ver}
use Rattle.intake_read.specs.declared.items.WideIf.{WideIf}
use Rattle.intake_read.specs.declared.items.WideVer.{WideVer}
use Rattle.intake_sysmod.specs.declared.ver_operands.VerOperands.{VerOperands}
use Rattle.intake_read.specs.Stated.{AreSame}
use Rattle.intake_sysmod.specs.NoLooser.{IsIf, IsVer, IsSaidBy, IsCarriedIn, IsWhollyRead, AreForSrels, AreVers}
use Rattle.intake_sysmod.specs.NoLooser.{AreOperands}
use Rattle.intake_sysmod.proofs.Quantified.{Any_append_right, Any_permuted, All_permuted, contains_at, stands_at}

-- an ++IF that became one could be read
ifs_read : (stated : List WideIf) (carried : List IfReq) → Beside (λ _. IsIf) stated carried
    → All (λ i. i.faulty.items ≡ []) stated
ifs_read stated carried b = All_from_each (λ i. i.faulty.items ≡ []) stated (λ i h.
    let e = stands_at stated i h in
    let y = beside_there stated carried b.lengths h.0 i e in
    (b.each h.0 i y.0 e y.1).read)

pub wholly_read : (v : WideVer) (o : VerOperands) → AreOperands v o → IsWhollyRead v
wholly_read v o are = record { operands = are.read; ifs = ifs_read v.ifs.items o.ifs.items are.ifs_are }

abbrev pub AreFor : WideVer → List Ver → Type 0
AreFor v these = Beside (λ _ s. IsVer v s.items) v.srels.items these

carried_there : (v : WideVer) (these : List Ver) → AreFor v these → IsCarriedIn these v
carried_there v these b = All_from_each (λ s. Any (IsVer v s.items) these) v.srels.items (λ s h.
    let e = stands_at v.srels.items s h in
    let y = beside_there v.srels.items these b.lengths h.0 s e in
    any_in (IsVer v s.items) these y.0 (contains_at these h.0 y.0 y.1) (b.each h.0 s y.0 e y.1))

said_there : (v : WideVer) (these : List Ver) → AreFor v these → All (IsSaidBy v) these
said_there v these b = All_from_each (IsSaidBy v) these (λ w h.
    let e = stands_at these w h in
    let below : h.0 < length v.srels.items = subst (λ n. h.0 < n) b.lengths (slice_get_within these h.0 w e) in
    let s = at_place v.srels.items h.0 below in
    any_in (λ t. IsVer v t.items w) v.srels.items s.0 (contains_at v.srels.items h.0 s.0 s.1)
    (b.each h.0 s.0 w s.1 e))

pub none_yet : AreVers [] []
none_yet = record {
  read_all = All-nil IsWhollyRead;
  carried_all = All-nil (IsCarriedIn []);
  said_all = All-nil (λ w. Any (λ v. IsSaidBy v w) []);
}

pub vers_more : (vs : List WideVer) (made : List Ver) (v : WideVer) (these : List Ver) → AreVers vs made
    → AreForSrels v these → AreVers (vs ++ v ∷ []) (made ++ these)
vers_more vs made v these are b = record {
  read_all = All-push IsWhollyRead vs v are.read_all b.read;
  carried_all = All-push (IsCarriedIn (made ++ these)) vs v
      (All-weaker (IsCarriedIn made) (IsCarriedIn (made ++ these)) (λ u c. All-weaker
      (λ s. Any (IsVer u s.items) made) (λ s. Any (IsVer u s.items) (made ++ these))
      (λ s a. Any_append_left (IsVer u s.items) made these a) u.srels.items c) vs are.carried_all)
      (All-weaker (λ s. Any (IsVer v s.items) these) (λ s. Any (IsVer v s.items) (made ++ these))
      (λ s a. Any_append_right (IsVer v s.items) made these a) v.srels.items (carried_there v these b.each));
  said_all =
      let Said : Ver → Type 0 = λ w. Any (λ u. IsSaidBy u w) (vs ++ v ∷ []) in
      All-append Said made these
      (All-weaker (λ w. Any (λ u. IsSaidBy u w) vs) Said (λ w a. Any_append_left (λ u. IsSaidBy u w) vs (v ∷ []) a) made
      are.said_all)
      (All-weaker (IsSaidBy v) Said (λ w a. Any_append_right (λ u. IsSaidBy u w) vs (v ∷ [])
      (0, v, omega arith, refl, a)) these (said_there v these b.each));
}

pub vers_permuted : (vs : List WideVer) (made other : List Ver) → IsPermutation made other → AreVers vs made
    → AreVers vs other
vers_permuted vs made other same are = record {
  read_all = are.read_all;
  carried_all = All-weaker (IsCarriedIn made) (IsCarriedIn other) (λ u c. All-weaker
      (λ s. Any (IsVer u s.items) made) (λ s. Any (IsVer u s.items) other)
      (λ s a. Any_permuted (IsVer u s.items) made other same a) u.srels.items c) vs are.carried_all;
  said_all = All_permuted (λ w. Any (λ u. IsSaidBy u w) vs) made other same are.said_all;
}

-- ---- as a loop goes over the statements

pub next_vers : (xs : List WideVer) (made new : List Ver) (i : ℕ) (v : WideVer) (those : List Ver) → i < length xs
    → v ≡ get_or xs i v → new ≡ made ++ those → AreForSrels v those → AreVers (take i xs) made
    → AreVers (take (i + 1) xs) new
next_vers xs made new i v those below at e each are =
    subst (AreVers (take (i + 1) xs)) (sym e)
    (subst (λ l. AreVers l (made ++ those))
    (sym (take_more xs i v below ∙ ap (λ u. take i xs ++ u ∷ []) (sym at)))
    (vers_more (take i xs) made v those are each))

pub vers_whole : (xs : List WideVer) (made : List Ver) (i : ℕ) → length xs ≤ i → AreVers (take i xs) made
    → AreVers xs made
vers_whole xs made i whole are = subst (λ l. AreVers l made) (take_all i xs whole) are

-- ---- the ++VER of its operands

abbrev pub IsOf : VerOperands → Text → Ver → Type 0
IsOf o s w = (w.srel ≡ s) × (w.fmid ≡ o.fmid) × (w.pre ≡ o.lists.pre) × (w.req ≡ o.lists.req) × (w.sup ≡ o.lists.sup)
    × (w.npre ≡ o.lists.npre) × (w.del ≡ o.lists.delete) × (w.ifs ≡ o.ifs.items)

pub ver_made : (v : WideVer) (o : VerOperands) (s t : Text) (w : Ver) → AreOperands v o → t ≡ s → IsOf o t w
    → IsVer v s w
ver_made v o s t w are e is = record {
  srel_is = is.0 ∙ e;
  fmid_is = are.fmid_is ∙ sym is.1;
  pre_is = subst (AreSame v.pre.items) (sym is.2) are.lists_are.pre_is;
  req_is = subst (AreSame v.req.items) (sym is.3) are.lists_are.req_is;
  sup_is = subst (AreSame v.sup.items) (sym is.4) are.lists_are.sup_is;
  npre_is = subst (AreSame v.npre.items) (sym is.5) are.lists_are.npre_is;
  delete_is = subst (AreSame v.delete.items) (sym is.6) are.lists_are.delete_is;
  ifs_are = subst (Beside (λ _. IsIf) v.ifs.items) (sym is.7) are.ifs_are;
}
