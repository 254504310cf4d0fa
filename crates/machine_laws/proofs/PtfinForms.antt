-- What a PTFIN says has the forms of what is stored.
use Rattle.std.proofs.Common.{◌≡◌, ◌≢◌, ◌⊎◌, ◌≤◌, ◌<◌, ℕ, zero, suc, Bool, true, false, List, [], ◌∷◌, ◌++◌, length}
use Rattle.std.proofs.Common.{take, drop, Option, Some, None, All, AllPairs, IsTrue, IsFalse, IsSome, refl, sym, ◌∙◌}
use Rattle.std.proofs.Common.{ap, subst, inl, inr, get_or, cond, not, is_lt, arith, length-append}
use Rattle.std.specs.declared.cmp.Ordering.{Ordering}
use Rattle.std.specs.List.{AllByRecursion}
use Rattle.std.specs.Option.{option_map_or}
use Rattle.std.specs.Prelude.{IfSome, IsSomeAnd, option_map, slice_get, set, map, codes, ◌+◌}
use Rattle.std.specs.Ordering.{nat_cmp}
use Rattle.std.specs.Cmp.Lexicographic.{slice_cmp}
use Rattle.std.proofs.lemmas.Bool.{true≢false, false_from_ne_true}
use Rattle.std.proofs.lemmas.Option.{same_Some}
use Rattle.std.proofs.lemmas.Cmp.{nat_list_cmp_total}
use Rattle.std.proofs.Math.ListN.{length-set}
use Rattle.std.proofs.lemmas.List.{take-append-drop, get_or_default}
use Rattle.std.proofs.lemmas.List.Elements.{All-append, All-cons, All-nil, All-set, All-weaker, All-from_recursion}
use Rattle.std.proofs.lemmas.List.Elements.{recursion_from_All}
use Rattle.std.proofs.lemmas.List.Kept.{AllPairs-cons}
use Rattle.terms.specs.declared.kinds.Kind.{Kind}
use Rattle.terms.specs.declared.kinds.Kind.TheVariants.{Function}
use Rattle.terms.specs.declared.kinds.ElemType.{ElemType}
use Rattle.terms.specs.declared.kinds.HoldKind.TheVariants.{System}
use Rattle.terms.specs.declared.statement_words.StatementWord.{StatementWord}
use Rattle.terms.specs.declared.statement_words.StatementWord.TheVariants as word
use Rattle.terms.specs.Types.{Text, Id, Lines, IfReq, Ver, Hold, Change, Sysmod, Item, ASysmod, AnAssign}
use Rattle.terms.specs.Lookups.{at_most_one, is_before}
use Rattle.terms.specs.Rising.{Rises, with_item, before, behind}
use Rattle.terms.specs.Global.{change_cmp}
use Rattle.terms.specs.Forms.{IsId, IsSource}
use Rattle.terms.specs.Records.{IsRecord}
use Rattle.terms.specs.Statement.{Piece, IsStatement}
use Rattle.terms.specs.Words.{Word, HasWords}
use Rattle.terms.specs.Operands.{operand, HasOwn, HasOptional, words_in, list_behind}
use Rattle.terms.specs.Texts.{IsActionOf}
use Rattle.terms.specs.HoldStatements.{HasShortComment}
use Rattle.terms.specs.Statements.{changed_type, Statement, SaysHeader, SaysVer, SaysIf, SaysHold, SaysAssign}
use Rattle.terms.specs.Statements.{SaysChange, IsVerOf, IsIfOf, IsOwnHoldOf, IsChangeOf, SuitsKind}
use Rattle.terms.specs.Ptfin.{Begun, SoFar, nothing, items_of, begun, place_of, with_ver, with_change}
use Rattle.terms.specs.Ptfin.{with_if_at, with_if, with_hold, after, sysmod_in, MayStand, NamesFmid, HasVerLike}
use Rattle.terms.specs.Ptfin.{IsSecond, CannotStand, LastHeader, Second, UpdateInFunction}
use Rattle.terms.specs.Ptfin.{IsHeader, IsUpdateWord, Parts, IsPlaced, HasParts, IsGood, BeginsWithStatements, IsPtfin}
use Rattle.terms.proofs.ElementOrder.{change_cmp_total}
use Rattle.terms.proofs.OperandWords.{words_of, count, count_once, seldom}
use Rattle.terms.proofs.BypassMembers.{list_of, behind_operand}
use Rattle.terms.proofs.Placing.{All_with_item, Rises_with_item}
use Rattle.terms.proofs.Each.{All_between, All_front, All_back, recursion_append, recursion_front, recursion_back}
use Rattle.terms.proofs.Places.{All-found}
use Rattle.terms.proofs.Orderings.{Less_from_is_lt}
use Rattle.terms.proofs.Pairs.{AllPairs_first, AllPairs_rest, AllPairs_between, pairs_map}
use Rattle.store_schema.specs.Forms.{AreRecords, VerSuitsKind, HasIfForms, HasVerForms, AreVersApart, HasChangeForms}
use Rattle.store_schema.specs.Forms.{HasHoldForms}
use Rattle.machine_laws.proofs.Printable.{HasPrintableList, operands_printable}
use Rattle.machine_laws.proofs.StatementForms.{one_form, hold_formed, ver_formed, if_formed, source_formed}
use Rattle.machine_laws.proofs.StatementForms.{change_formed}
use Rattle.terms.proofs.IdPlaces.{before_once}

-- an internal hold of the SYSMOD's own
abbrev pub IsOwnHold : Id → Hold → Type 0
IsOwnHold x h = IsTrue h.internal × (h.kind ≡ System) × (h.id ≡ x)

-- what the SYSMOD has that is still read: all its forms, but perhaps no ++VER yet
pub record IsGrowing (s : Sysmod) : Type 0 where
  pub id : IsId s.id
  pub no_sources : s.sources ≡ []
  pub vers : All (HasVerForms s.kind s.id) s.vers
  pub apart : AllPairs (AreVersApart s.kind) s.vers
  pub most : length s.vers ≤ 8
  pub changes : All (HasChangeForms s.kind) s.changes
  pub elements : Rises change_cmp (λ (c : Change). c) s.changes
  pub held : AllByRecursion HasHoldForms s.holds
  pub holds : AllByRecursion (IsOwnHold s.id) s.holds

-- a SYSMOD that is read
pub record IsWhole (s : Sysmod) : Type 0 where
  pub growing : IsGrowing s
  pub some : s.vers ≢ []

-- an item of its forms
abbrev pub IsItem : Item → Type 0
IsItem (ASysmod s) = IsWhole s
IsItem (AnAssign a) = IsSource a.source

-- the SYSMOD that is begun before these records: it has a ++VER, or some are left
abbrev IsOpen : Lines → Begun → Type 0
IsOpen left b = IsGrowing b.sysmod × ((b.sysmod.vers ≢ []) ⊎ (left ≢ []))

-- what is read before these records
record IsGoodSoFar (c : SoFar) (left : Lines) : Type 0 where
  whole : AllByRecursion IsItem c.whole
  current : IfSome c.current (IsOpen left)

-- ---- the order of ++VERs

before_trans : (a b c : Text) → is_before a b ≡ true → is_before b c ≡ true → is_before a c ≡ true
before_trans a b c low high = ap is_lt (nat_list_cmp_total.trans a b c (Less_from_is_lt (slice_cmp nat_cmp a b) low)
    (Less_from_is_lt (slice_cmp nat_cmp b c) high))

not_itself : (a : Text) → is_before a a ≡ true → ⊥
not_itself a low = absurd (cc (Less_from_is_lt (slice_cmp nat_cmp a a) low, nat_list_cmp_total.antisymm a a))

-- What is not before the second is not before the first, where that is.
not_down : (a b c : Text) → is_before a b ≡ true → IsFalse (is_before c b) → IsFalse (is_before c a)
not_down a b c low not_below = false_from_ne_true (is_before c a)
    (λ below. true≢false (sym (before_trans c a b below low) ∙ not_below))

-- The ++VERs in front of the place of one are for no later SREL, and those behind it for no earlier one.
places : (kind : Kind) (v : Ver) (vs : List Ver) → AllPairs (AreVersApart kind) vs
    → All (λ w. IsFalse (is_before v.srel w.srel)) (take (place_of v vs) vs)
    × All (λ w. IsFalse (is_before w.srel v.srel)) (drop (place_of v vs) vs)
places kind v [] apart =
    (All-nil (λ (w : Ver). IsFalse (is_before v.srel w.srel)), All-nil (λ (w : Ver). IsFalse (is_before w.srel v.srel)))
places kind v (w ∷ vs) apart =
    by (places kind v vs (AllPairs_rest (AreVersApart kind) w vs apart)) (is_before v.srel w.srel) refl
  where
    Placed : ℕ → Type 0
    Placed n = All (λ w. IsFalse (is_before v.srel w.srel)) (take n (w ∷ vs))
        × All (λ w. IsFalse (is_before w.srel v.srel)) (drop n (w ∷ vs))

    by : All (λ w. IsFalse (is_before v.srel w.srel)) (take (place_of v vs) vs)
        × All (λ w. IsFalse (is_before w.srel v.srel)) (drop (place_of v vs) vs)
        → (b : Bool) → is_before v.srel w.srel ≡ b → Placed (place_of v (w ∷ vs))
    by more true low = subst Placed (sym (ap (λ b. cond (not b) (1 + place_of v vs) 0) low)) (
      All-nil (λ (w : Ver). IsFalse (is_before v.srel w.srel)),
      All-cons (λ (w : Ver). IsFalse (is_before w.srel v.srel)) w vs (before_once v.srel w.srel low)
          (λ k d below. not_down v.srel w.srel (get_or vs k d).srel low
          (AllPairs_first (AreVersApart kind) w vs apart k d below).srels),
    )
    by more false high =
        let place : place_of v (w ∷ vs) ≡ suc (place_of v vs)
        = ap (λ b. cond (not b) (1 + place_of v vs) 0) high ∙ omega arith in
        subst Placed (sym place) (
          All-cons (λ (w : Ver). IsFalse (is_before v.srel w.srel)) w (take (place_of v vs) vs) high more.0,
          more.1,
        )

-- what stays where one item becomes another
pairs_set : {X : Type 0} (R : X → X → Type 0) (old new : X) → ((x : X) → R x old → R x new)
    → ((x : X) → R old x → R new x) → (xs : List X) (n : ℕ) → slice_get xs n ≡ Some old → AllPairs R xs
    → AllPairs R (set xs n new)
pairs_set R old new left right [] n at pairs = absurd (cc at)
pairs_set R old new left right (x ∷ xs) zero at pairs =
    let same : x ≡ old = same_Some x old at in
    AllPairs-cons R new xs (All-weaker (R old) (R new) right xs (subst (λ y. All (R y) xs) same
    (AllPairs_first R x xs pairs))) (AllPairs_rest R x xs pairs)
pairs_set R old new left right (x ∷ xs) (suc n) at pairs =
    let first = AllPairs_first R x xs pairs in
    AllPairs-cons R x (set xs n new) (All-set (R x) xs n new (left x (All-found (R x) xs n old first at)) first)
    (pairs_set R old new left right xs n at (AllPairs_rest R x xs pairs))

-- ---- what each statement adds

set_some : {X : Type 0} (xs : List X) (n : ℕ) (x : X) → xs ≢ [] → set xs n x ≢ []
set_some [] n x some e = some refl
set_some (y ∷ xs) zero x some e = absurd (cc e)
set_some (y ∷ xs) (suc n) x some e = absurd (cc e)

no_middle : {X : Type 0} (xs : List X) (x : X) (ys : List X) → xs ++ x ∷ ys ≢ []
no_middle [] x ys e = absurd (cc e)
no_middle (y ∷ xs) x ys e = absurd (cc e)

front_some : {X : Type 0} (xs ys : List X) → xs ≢ [] → xs ++ ys ≢ []
front_some [] ys some e = some refl
front_some (x ∷ xs) ys some e = absurd (cc e)

with_some : {X K : Type 0} (R : K → K → Ordering) (key : X → K) (xs : List X) (x : X) → with_item R key xs x ≢ []
with_some R key xs x = front_some (before R key (key x) xs ++ x ∷ []) (behind R key (key x) xs)
    (no_middle (before R key (key x) xs) x [])

header_growing : (kind : Kind) (id : Id) → IsId id → IsGrowing (begun kind id).sysmod
header_growing kind id form = record {
  id = form;
  no_sources = refl;
  vers = All-nil (HasVerForms kind id);
  apart = λ i j d up below. absurd (omega arith);
  most = omega arith;
  changes = All-nil (HasChangeForms kind);
  elements = λ i j d up below. absurd (omega arith);
  held = tt;
  holds = tt;
}

-- a ++VER that comes in is for another SREL, or in service for another FMID
abbrev IsFree : Kind → Ver → Ver → Type 0
IsFree kind v w = w.srel ≡ v.srel → (kind ≢ Function) × (w.fmid ≢ v.fmid)

apart_before : (kind : Kind) (v w : Ver) → IsFalse (is_before v.srel w.srel) → IsFree kind v w → AreVersApart kind w v
apart_before kind v w low free = record { srels = low; service = λ same. (free same).0; fmids = λ same. (free same).1 }

apart_behind : (kind : Kind) (v w : Ver) → IsFalse (is_before w.srel v.srel) → IsFree kind v w → AreVersApart kind v w
apart_behind kind v w high free = record {
  srels = high;
  service = λ same. (free (sym same)).0;
  fmids = λ same fmids. (free (sym same)).1 (sym fmids);
}

ver_growing : (b : Begun) (v : Ver) → IsGrowing b.sysmod → HasVerForms b.sysmod.kind b.sysmod.id v
    → All (IsFree b.sysmod.kind v) b.sysmod.vers → length b.sysmod.vers < 8 → IsGrowing (with_ver v b).sysmod
ver_growing b v g forms free room =
    let vs = b.sysmod.vers in
    let n = place_of v vs in
    let parts : take n vs ++ drop n vs ≡ vs = take-append-drop n vs in
    let placed = places b.sysmod.kind v vs g.apart in
    let frees = subst (All (IsFree b.sysmod.kind v)) (sym parts) free in
    record {
      id = g.id;
      no_sources = g.no_sources;
      vers = All_between (HasVerForms b.sysmod.kind b.sysmod.id) (take n vs) (drop n vs) v
          (subst (All (HasVerForms b.sysmod.kind b.sysmod.id)) (sym parts) g.vers) forms;
      apart = AllPairs_between (AreVersApart b.sysmod.kind) (take n vs) (drop n vs) v
          (subst (AllPairs (AreVersApart b.sysmod.kind)) (sym parts) g.apart)
          (λ k d below. apart_before b.sysmod.kind v _ (placed.0 k d below)
          (All_front (IsFree b.sysmod.kind v) (take n vs) (drop n vs) frees k d below))
          (λ k d below. apart_behind b.sysmod.kind v _ (placed.1 k d below)
          (All_back (IsFree b.sysmod.kind v) (take n vs) (drop n vs) frees k d below));
      most = omega (
        arith,
        length-append (take n vs) (v ∷ drop n vs),
        length-append (take n vs) (drop n vs),
        ap length parts,
      );
      changes = g.changes;
      elements = g.elements;
      held = g.held;
      holds = g.holds;
    }

suits_still : (kind : Kind) (v : Ver) (ifs : List IfReq) → VerSuitsKind kind v
    → VerSuitsKind kind (record v { ifs = ifs })
suits_still Function v ifs suits = suits
suits_still _ v ifs suits = suits

-- the ++VER with an ++IF more
module _ (i : IfReq) where
  abbrev more : Ver → Ver
  more v = record v { ifs = v.ifs ++ i ∷ [] }

  more_forms : (kind : Kind) (x : Id) (v : Ver) → HasIfForms x i → HasVerForms kind x v → HasVerForms kind x (more v)
  more_forms kind x v forms has =
      let ifs = All-append (HasIfForms x) v.ifs (i ∷ []) has.ifs
      (All-cons (HasIfForms x) i [] forms (All-nil (HasIfForms x))) in
      let suits = suits_still kind v (v.ifs ++ i ∷ []) has.suits in
      record {
        srel = has.srel;
        fmid = has.fmid;
        pre = has.pre;
        req = has.req;
        sup = has.sup;
        npre = has.npre;
        del = has.del;
        ifs = ifs;
        suits = suits;
      }

  -- what holds of ++VERs holds of them with the ++IF, where it does of those with any one replaced
  each_if : (P : List Ver → Type 0) (vs : List Ver) (last : Option ℕ) → P vs
      → ((n : ℕ) (v : Ver) → slice_get vs n ≡ Some v → P (set vs n (more v)))
      → P (option_map_or (with_if_at i vs) last vs)
  each_if P vs None old new = old
  each_if P vs (Some n) old new = by (slice_get vs n) refl
    where
      by : (o : Option Ver) → slice_get vs n ≡ o → P (option_map_or (λ v. set vs n (more v)) o vs)
      by None none = old
      by (Some v) at = new n v at

  if_growing : (b : Begun) → IsGrowing b.sysmod → HasIfForms b.sysmod.id i → IsGrowing (with_if i b).sysmod
  if_growing b g forms =
      let vs = b.sysmod.vers in
      let P : Ver → Type 0 = HasVerForms b.sysmod.kind b.sysmod.id in
      record {
        id = g.id;
        no_sources = g.no_sources;
        vers = each_if (All P) vs b.last g.vers (λ n v at. All-set P vs n (more v)
            (more_forms b.sysmod.kind b.sysmod.id v forms (All-found P vs n v g.vers at)) g.vers);
        apart = each_if (AllPairs (AreVersApart b.sysmod.kind)) vs b.last g.apart (λ n v at.
            pairs_set (AreVersApart b.sysmod.kind) v (more v)
            (λ u apart. record { srels = apart.srels; service = apart.service; fmids = apart.fmids })
            (λ u apart. record { srels = apart.srels; service = apart.service; fmids = apart.fmids }) vs n at g.apart);
        most = each_if (λ ws. length ws ≤ 8) vs b.last g.most (λ n v at.
            omega (arith, length-set vs n (more v), g.most));
        changes = g.changes;
        elements = g.elements;
        held = g.held;
        holds = g.holds;
      }

hold_growing : (b : Begun) (h : Hold) → IsGrowing b.sysmod → HasHoldForms h → IsOwnHold b.sysmod.id h
    → IsGrowing (with_hold h b).sysmod
hold_growing b h g forms own = record {
  id = g.id;
  no_sources = g.no_sources;
  vers = g.vers;
  apart = g.apart;
  most = g.most;
  changes = g.changes;
  elements = g.elements;
  held = recursion_append HasHoldForms b.sysmod.holds (h ∷ []) g.held (forms, tt);
  holds = recursion_append (IsOwnHold b.sysmod.id) b.sysmod.holds (h ∷ []) g.holds (own, tt);
}

change_growing : (b : Begun) (c : Change) → IsGrowing b.sysmod → HasChangeForms b.sysmod.kind c
    → IsGrowing (with_change c b).sysmod
change_growing b c g forms = record {
  id = g.id;
  no_sources = g.no_sources;
  vers = g.vers;
  apart = g.apart;
  most = g.most;
  changes = All_with_item change_cmp (λ (x : Change). x) (HasChangeForms b.sysmod.kind) b.sysmod.changes c g.changes
      forms;
  elements = Rises_with_item change_cmp_total (λ (x : Change). x) b.sysmod.changes c g.elements;
  held = g.held;
  holds = g.holds;
}

-- ---- a ++VER that is no second one

-- Service has an FMID among its operands.
suits_named : (kind : Kind) (operands : List Word) → SuitsKind kind operands → kind ≢ Function
    → IsSome (operand (codes "FMID") operands)
suits_named Function operands suits other = absurd (other refl)
suits_named _ operands suits other = suits.0

listed_fmid : (found : Option Word) (fmid : Option Id) → IsSome found → HasOptional IsId found fmid
    → IsSomeAnd fmid (HasOwn IsId (list_of found))
listed_fmid None fmid there has = absurd (true≢false (sym there))
listed_fmid (Some w) None there has = has
listed_fmid (Some w) (Some f) there has = has

names_weaker : (P Q : Id → Type 0) → ((f : Id) → P f → Q f) → (o : Option Id) → IsSomeAnd o P → IsSomeAnd o Q
names_weaker P Q more None has = has
names_weaker P Q more (Some f) has = more f has

-- the pieces of a ++VER of service name its FMID
fmid_named : (s : Sysmod) (own : Option Text) (operands : List Word) (rest : List Piece) (v : Ver)
    → HasWords rest operands → IsVerOf s own operands v → s.kind ≢ Function → IsSomeAnd v.fmid (NamesFmid rest)
fmid_named s own operands rest v words is other =
    let listed = listed_fmid (operand (codes "FMID") operands) v.fmid (suits_named s.kind operands is.suits other)
    is.fmid in
    let texts : words_in rest ≡ map (λ (w : Word). w.word) operands = ap words_in words ∙ words_of operands in
    let apart = pairs_map (λ (a b : Word). a.word ≢ b.word) (λ (a b : Text). a ≢ b) (λ (w : Word). w.word)
    (λ a b n. n) operands is.are_operands.once in
    let few = count_once (codes "FMID") (map (λ (w : Word). w.word) operands) apart in
    let once = seldom 2 (words_in rest) (codes "FMID") (subst (λ ts. count (codes "FMID") ts < 2) (sym texts)
    (omega (arith, few))) in
    let behind_it : list_behind (codes "FMID") rest ≡ list_of (operand (codes "FMID") operands)
    = ap (list_behind (codes "FMID")) words ∙ behind_operand (codes "FMID") operands in
    names_weaker (HasOwn IsId (list_of (operand (codes "FMID") operands))) (NamesFmid rest)
    (λ f has. (once, subst (λ own. HasOwn IsId own f) (sym behind_it) has)) v.fmid listed

free_vers : (s : Sysmod) (own : Option Text) (operands : List Word) (rest : List Piece) (v : Ver)
    → HasWords rest operands → IsVerOf s own operands v → ¬ HasVerLike s v.srel rest → All (IsFree s.kind v) s.vers
free_vers s own operands rest v words is free = λ k d below same.
    let w = get_or s.vers k d in
    let at : get_or s.vers k w ≡ w = sym (get_or_default s.vers k d w below) in
    let other : s.kind ≢ Function = λ function. free (k, w, below, at, (same, inl function)) in (
      other,
      λ fmids. free (
        k,
        w,
        below,
        at,
        (
          same,
          inr (subst (λ o. IsSomeAnd o (NamesFmid rest)) (sym fmids)
              (fmid_named s own operands rest v words is other)),
        ),
      ),
    )

-- ---- the items so far

-- the SYSMOD is whole where another item may follow it
current_good : (o : Option Begun) (left : Lines) → IfSome o (IsOpen left) → IfSome o (λ b. b.sysmod.vers ≢ [])
    → AllByRecursion IsItem (at_most_one (option_map (λ (b : Begun). ASysmod b.sysmod) o))
current_good None left g some = tt
current_good (Some b) left g some = (record { growing = g.0; some = some }, tt)

items_good : (c : SoFar) (left : Lines) → IsGoodSoFar c left → IfSome c.current (λ b. b.sysmod.vers ≢ [])
    → AllByRecursion IsItem (items_of c)
items_good c left g some =
    recursion_append IsItem c.whole (at_most_one (option_map (λ (b : Begun). ASysmod b.sysmod) c.current)) g.whole
    (current_good c.current left g.current some)

some_vers : (w : StatementWord) → ((s : Sysmod) → MayStand (Some s) w → s.vers ≢ []) → (o : Option Begun)
    → ¬ ¬ MayStand (sysmod_in o) w → IfSome o (λ b. b.sysmod.vers ≢ [])
some_vers w behind None may = tt
some_vers w behind (Some b) may = λ e. may (λ stands. behind b.sysmod stands e)

-- ---- the SYSMOD that is begun

module _ (own : Option Text) (operands : List Word) (left later : Lines) where
  ver_current : (v : Ver) (rest : List Piece) (o : Option Begun) → IfSome o (IsOpen left) → HasWords rest operands
      → ¬ IsSomeAnd (sysmod_in o) (λ s. IsSecond s word.Ver own rest) → IfSome o (λ b. length b.sysmod.vers < 8)
      → IsSomeAnd (sysmod_in o) (λ s. IsVerOf s own operands v)
      → IfSome (option_map (with_ver v) o) (IsOpen later)
  ver_current v rest None g words second room says = absurd says
  ver_current v rest (Some b) g words second room says =
      let vs = b.sysmod.vers in (
        ver_growing b v g.0 (ver_formed b.sysmod own operands v says)
            (free_vers b.sysmod own operands rest v words says (λ like. second (v.srel, says.srel, like))) room,
        inl (no_middle (take (place_of v vs) vs) v (drop (place_of v vs) vs)),
      )

  if_current : (i : IfReq) (o : Option Begun) → IfSome o (IsOpen left) → ¬ ¬ MayStand (sysmod_in o) word.If
      → IsSomeAnd (sysmod_in o) (λ s. IsIfOf s own operands i)
      → IfSome (option_map (with_if i) o) (IsOpen later)
  if_current i None g may says = absurd says
  if_current i (Some b) g may says = (
    if_growing i b g.0 (if_formed b.sysmod own operands i says),
    inl (each_if i (λ vs. vs ≢ []) b.sysmod.vers b.last (λ e. may (λ stands. stands.0 e))
        (λ n v at. set_some b.sysmod.vers n (more i v) (λ e. may (λ stands. stands.0 e)))),
  )

  hold_current : (h : Hold) (o : Option Begun) → IfSome o (IsOpen left) → ¬ ¬ MayStand (sysmod_in o) word.Hold
      → HasShortComment h → AllByRecursion HasPrintableList operands
      → IsSomeAnd (sysmod_in o) (λ s. IsOwnHoldOf s own operands h) → IfSome (option_map (with_hold h) o) (IsOpen later)
  hold_current h None g may short printable says = absurd says
  hold_current h (Some b) g may short printable says = (
    hold_growing b h g.0 (hold_formed own operands h says.hold short printable) (says.internal, says.kind, says.own_id),
    inl (λ e. may (λ stands. stands.0 e)),
  )

-- an element statement stands behind a ++VER
change_stands : (w : StatementWord) (type : ElemType) (s : Sysmod) → changed_type w ≡ Some type → MayStand (Some s) w
    → s.vers ≢ []
change_stands (word.Replace t) type s is stands = stands
change_stands word.UpdateMac type s is stands = stands
change_stands word.UpdateSrc type s is stands = stands
change_stands _ type s is stands = absurd (cc is)

change_inside : (w : StatementWord) (type : ElemType) → changed_type w ≡ Some type → MayStand None w → ⊥
change_inside (word.Replace t) type is stands = stands
change_inside word.UpdateMac type is stands = stands
change_inside word.UpdateSrc type is stands = stands
change_inside _ type is stands = absurd (cc is)

change_current : (w : StatementWord) (own : Option Text) (operands : List Word) (inline : Lines) (x : Change)
    (left later : Lines) (o : Option Begun)
    → IfSome o (IsOpen left) → ¬ ¬ MayStand (sysmod_in o) w → ¬
    (IsUpdateWord w × IsSomeAnd (sysmod_in o) (λ s. s.kind ≡ Function))
    → IsChangeOf w own operands inline x → AreRecords inline → IsActionOf x.elem_type x.name x.action
    → IfSome (option_map (with_change x) o) (IsOpen later)
change_current w own operands inline x left later None g may other says records good =
    absurd (may (λ stands. change_inside w x.elem_type says.type_is stands))
change_current w own operands inline x left later (Some b) g may other says records good = (
  change_growing b x g.0 (change_formed w b.sysmod.kind own operands inline x says records good
      (λ update same. other (update, same))),
  inl (λ e. may (λ stands. change_stands w x.elem_type b.sysmod says.type_is stands e)),
)

-- ---- the statements

-- the inline text is among the records
inline_records : (records : Lines) (pieces : List Piece) (inline : Lines) → IsStatement records pieces inline
    → AllByRecursion IsRecord records → AreRecords inline
inline_records records pieces inline (ps, tail, ends, idle, is) each =
    let behind_it = recursion_back IsRecord ends.before (ends.place.at ∷ inline)
    (subst (λ rs. AllByRecursion IsRecord rs) ends.place.records_are each) in
    let those = All-from_recursion IsRecord inline behind_it.1 in
    λ k d below. ((those k d below).0, λ i b within. omega (arith, ((those k d below).1 i b within).1))

-- the state behind a good statement
module _ (c : SoFar) (later records : Lines) (p : Parts) (known : HasParts records p)
    (each : AllByRecursion IsRecord records) where
  may : (v : StatementWord) → p.word ≡ v → IsPlaced (sysmod_in c.current) later p
      → ¬ ¬ MayStand (sysmod_in c.current) v
  may v same placed = subst (λ x. ¬ ¬ MayStand (sysmod_in c.current) x) same (placed CannotStand)

  good_after : (left : Lines) (s : Statement) → IsGoodSoFar c left → IsGood c.current later p s
      → IsGoodSoFar (after c s) later
  good_after left (SaysHeader kind id) g good =
      let says = good.value.2 in
      record {
        whole = items_good c left g (some_vers (word.Header kind) (λ s stands. stands) c.current
            (may (word.Header kind) says.0 good.placed));
        current = (
          header_growing kind id (one_form IsId p.own id says.1.0),
          inr (λ e. good.placed LastHeader (subst (λ v. IsHeader v) (sym says.0) tt, e)),
        );
      }
  good_after left (SaysVer v) g good = record {
    whole = g.whole;
    current = ver_current p.own good.value.0 left later v p.rest c.current g.current good.value.1
        (subst (λ x. ¬ IsSomeAnd (sysmod_in c.current) (λ s. IsSecond s x p.own p.rest)) good.value.2.0
        (good.placed Second)) good.within.0 good.value.2.1;
  }
  good_after left (SaysIf i) g good = record {
    whole = g.whole;
    current = if_current p.own good.value.0 left later i c.current g.current (may word.If good.value.2.0 good.placed)
        good.value.2.1;
  }
  good_after left (SaysHold h) g good = record {
    whole = g.whole;
    current = hold_current p.own good.value.0 left later h c.current g.current
        (may word.Hold good.value.2.0 good.placed) good.within
        (operands_printable records p good.value.0 known good.value.1 each) good.value.2.1;
  }
  good_after left (SaysAssign a) g good =
      let says = good.value.2 in
      record {
        whole = recursion_append IsItem (items_of c) (AnAssign a ∷ [])
            (items_good c left g (some_vers word.Assign (λ s stands. stands) c.current
            (may word.Assign says.0 good.placed))) (source_formed p.own good.value.0 a says.1, tt);
        current = tt;
      }
  good_after left (SaysChange x) g good = record {
    whole = g.whole;
    current = change_current p.word p.own good.value.0 p.inline x left later c.current g.current
        (good.placed CannotStand) (good.placed UpdateInFunction) good.value.2
        (inline_records records known.pieces p.inline known.statement each) good.text;
  }

all_good : (ss : List Statement) (c : SoFar) (n : ℕ) (records : Lines) (d : SoFar) (m : ℕ) → IsGoodSoFar c records
    → AllByRecursion IsRecord records
    → BeginsWithStatements c n records ss d m [] → IsGoodSoFar d []
all_good [] c n records d m g each (same, at, none) = subst (λ e. IsGoodSoFar e []) same
    (subst (λ rs. IsGoodSoFar c rs) none g)
all_good (s ∷ ss) c n records d m g each (group, next, later, takes, (p, known, good), more) =
    let parts = subst (λ rs. AllByRecursion IsRecord rs) takes.records_are each in
    let inside = recursion_front IsRecord group.records later parts in
    all_good ss (after c s) next later d m
    (good_after c later group.records p known inside records s g good)
    (recursion_back IsRecord group.records later parts) more

last_vers : (left : Lines) (o : Option Begun) → left ≡ [] → IfSome o (IsOpen left) → IfSome o (λ b. b.sysmod.vers ≢ [])
last_vers left None none g = tt
last_vers left (Some b) none (grown, inl some) = some
last_vers left (Some b) none (grown, inr more) = absurd (more none)

-- each item of a PTFIN has its forms
pub ptfin_formed : (bytes : List ℕ) (items : List Item) → IsPtfin bytes items → AllByRecursion IsItem items
ptfin_formed bytes items (records, ss, d, m, has, begins, is) =
    let good = all_good ss nothing 1 records d m (record { whole = tt; current = tt })
    (recursion_from_All IsRecord records has.each) begins in
    subst (λ xs. AllByRecursion IsItem xs) (sym is) (items_good d [] good (last_vers [] d.current refl good.current))
