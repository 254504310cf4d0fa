-- The SYSMODs that are left out, and those that they meet.
use Rattle.std.proofs.Common.{◌≡◌, ◌<◌, ◌+◌, Bool, true, false, ℕ, List, [], ◌++◌, ◌∷◌, Option, Some, None, Result}
use Rattle.std.proofs.Common.{Ok, Err, length, take, get_or, map, subst, sym, ap, ◌∙◌, refl, inl, inr, cond, append-nil}
use Rattle.std.proofs.Common.{append_assoc, Contains}
use Rattle.std.specs.Prelude.{◌||◌, IsTrue, All, IfOk, IfNone, is_some}
use Rattle.std.specs.List.{Any, list_any}
use Rattle.std.specs.Str.{bytes_eq}
use Rattle.std.specs.Ordering.{nat_cmp}
use Rattle.std.specs.Cmp.Lexicographic.{slice_cmp}
use Rattle.std.specs.BTreeSet.{BTreeSet, contains, Updates}
use Rattle.std.specs.BTreeMap.{get, is_at}
use Rattle.std.proofs.lemmas.Bool.{true≢false}
use Rattle.std.proofs.lemmas.List.{take_more, map-append}
use Rattle.std.proofs.lemmas.List.Concat.{flat_map-append}
use Rattle.std.proofs.lemmas.List.Folds.{list_any-append}
use Rattle.std.proofs.lemmas.List.Elements.{All-weaker, All-contains, Contains-append_left, Contains-append_right}
use Rattle.std.proofs.lemmas.List.Elements.{Contains-append_cases}
use Rattle.std.proofs.lemmas.Map.Text.{is_eq-slice_cmp}
use Rattle.terms.proofs.Each.{any_in, in_any, All_from_each}
use Rattle.terms.proofs.ListMembers.{here, here_or, none_in}
use Rattle.terms.proofs.Lists.{front_more}
use Rattle.terms.specs.Types as terms
use Rattle.terms.specs.Types.{Text, Id, Change}
use Rattle.mcs.specs.declared.file.Item.{Item}
use Rattle.mcs.specs.declared.file.Item.TheVariants.{Sysmod, Assign}
use Rattle.intake_read.specs.declared.items.WideSysmod.{WideSysmod}
use Rattle.intake_read.specs.declared.items.WideFile.{WideFile}
use Rattle.intake_elements.specs.StandInNames.{key_of}
use Rattle.intake_sysmod.specs.Users.{run_of, Touches, UserMap, IsKnown}
use Rattle.intake_carry.specs.declared.unsure.Unsure.{Unsure}
use Rattle.intake_carry.specs.Unsure.{has_id, is_left_out, forbids, excludes, SharesElement, Meets, AreIdsOf}
use Rattle.intake_carry.specs.Unsure.{AreLeftOutOf, IsAmong, KeepsNamed, IsNamed, AreUnsure}

-- ---- the ids of items

pub no_ids : (ids : BTreeSet Id) → ids.keys ≡ [] → AreIdsOf ids []
no_ids ids e id = ap (list_any (is_at (slice_cmp nat_cmp id))) e

pub id_added : (old new : BTreeSet Id) (x : Id) (items : List Item) (item : Item)
    → Updates (slice_cmp nat_cmp) old new x true → ((id : Text) → has_id id item ≡ bytes_eq x id) → AreIdsOf old items
    → AreIdsOf new (items ++ item ∷ [])
id_added old new x items item updates is are id =
    updates.0 id
    ∙ ap (λ b. cond b true (contains (slice_cmp nat_cmp) old id)) (is_eq-slice_cmp x id)
    ∙ ap (λ b. cond (bytes_eq x id) true b) (are id)
    ∙ ap (λ b. cond b true (list_any (has_id id) items)) (sym (is id))
    ∙ by (has_id id item) (list_any (has_id id) items)
    ∙ sym (list_any-append (has_id id) items (item ∷ []))
  where
    by : (a b : Bool) → cond a true b ≡ (b || (a || false))
    by true true = refl
    by true false = refl
    by false true = refl
    by false false = refl

pub no_id_added : (ids : BTreeSet Id) (items : List Item) (item : Item) → ((id : Text) → has_id id item ≡ false)
    → AreIdsOf ids items → AreIdsOf ids (items ++ item ∷ [])
no_id_added ids items item none are id =
    are id ∙ by (list_any (has_id id) items)
    ∙ ap (λ b. list_any (has_id id) items || (b || false)) (sym (none id))
    ∙ sym (list_any-append (has_id id) items (item ∷ []))
  where
    by : (b : Bool) → b ≡ (b || (false || false))
    by true = refl
    by false = refl

-- ---- as a loop goes on

pub next_front : {X : Type 0} (P : List X → Type 0) (xs : List X) (i : ℕ) (x : X) → i < length xs → x ≡ get_or xs i x
    → P (take i xs ++ x ∷ []) → P (take (i + 1) xs)
next_front P xs i x below at p = subst P (sym (take_more xs i x below ∙ ap (λ u. take i xs ++ u ∷ []) (sym at))) p

pub next_after : {X : Type 0} (P : List X → Type 0) (before xs : List X) (i : ℕ) (x : X) → i < length xs
    → x ≡ get_or xs i x → P ((before ++ take i xs) ++ x ∷ []) → P (before ++ take (i + 1) xs)
next_after P before xs i x below at p =
    next_front (λ l. P (before ++ l)) xs i x below at (subst P (append_assoc before (take i xs) (x ∷ [])) p)

pub next_run : (P : List WideSysmod → Type 0) (files : List WideFile) (i : ℕ) (file : WideFile) → i < length files
    → file ≡ get_or files i file → P (run_of (take i files) ++ file.sysmods.items) → P (run_of (take (i + 1) files))
next_run P files i file below at p =
    subst P (sym (ap run_of (front_more files i file below at)
    ∙ flat_map-append (λ (f : WideFile). f.sysmods.items) (take i files) (file ∷ [])
    ∙ ap (λ l. run_of (take i files) ++ l) (append-nil file.sysmods.items))) p

-- ---- those that are left out

pub left_more : (items : List Item) (before left after : List WideSysmod) (s : WideSysmod)
    → ((x : WideSysmod) → Contains left x → Contains after x) → (IsTrue (is_left_out items s) → Contains after s)
    → AreLeftOutOf items before left → AreLeftOutOf items (before ++ s ∷ []) after
left_more items before left after s kept own are x h t =
    elim (Contains-append_cases before (s ∷ []) x h) [
      | inl front ↦ kept x (are x front t)
      | inr last ↦ elim (here_or s [] x last) [
        | inl same ↦ subst (Contains after) same (own (subst (λ y. IsTrue (is_left_out items y)) (sym same) t))
        | inr none ↦ absurd (none_in x none)
      ]
    ]

pub none_left : (items : List Item) (left : List WideSysmod) → AreLeftOutOf items [] left
none_left items left x h t = absurd (none_in x h)

-- one reference more, and what it is to
pub seen_still : {X Y : Type 0} (now : X → Y) (xs new : List X) (x : X) → new ≡ xs ++ x ∷ [] → (y : Y)
    → Contains (map now xs) y → Contains (map now new) y
seen_still now xs new x e y h =
    subst (λ l. Contains l y) (sym (ap (map now) e ∙ map-append now xs (x ∷ [])))
    (Contains-append_left (map now xs) (now x ∷ []) y h)

pub seen_last : {X Y : Type 0} (now : X → Y) (xs new : List X) (x : X) → new ≡ xs ++ x ∷ []
    → Contains (map now new) (now x)
seen_last now xs new x e =
    subst (λ l. Contains l (now x)) (sym (ap (map now) e ∙ map-append now xs (x ∷ [])))
    (Contains-append_right (map now xs) (now x ∷ []) (now x) (here (now x) []))

-- ---- what a carried SYSMOD has to do with them

pub whatever_found : {X E P : Type 0} (r : Result (Option X) E) → P → IfOk r (λ found. IfNone found P)
whatever_found (Ok (Some x)) p = tt
whatever_found (Ok None) p = p
whatever_found (Err e) p = tt

pub none_weaker : {X P Q : Type 0} (found : Option X) → IfNone found P → (P → Q) → IfNone found Q
none_weaker (Some x) p q = tt
none_weaker None p q = q p

pub shares_nothing : (users : UserMap) (left : WideSysmod) (changes : List Change) → IsKnown users left
    → All (λ c. is_some (get nat_cmp users (key_of c.elem_type c.name)) ≡ false) changes
    → ¬ Any (λ c. Touches left c.elem_type c.name) changes
shares_nothing users left changes known none any =
    let m = in_any (λ c. Touches left c.elem_type c.name) changes any in
    let u = known (key_of m.0.elem_type m.0.name) (m.0.elem_type, m.0.name, m.2, refl) in
    true≢false (sym (ap is_some u.1)
    ∙ All-contains (λ c. is_some (get nat_cmp users (key_of c.elem_type c.name)) ≡ false) changes m.0 none m.1)

pub meets_nothing : (left : WideSysmod) (s : terms.Sysmod) → (¬ SharesElement left s)
    → (forbids left s || excludes s left) ≡ false → ¬ Meets left s
meets_nothing left s none apart (inl shares) = none shares
meets_nothing left s none apart (inr conflict) = true≢false (sym conflict ∙ apart)

pub meet_nothing : {X : Type 0} (now : X → WideSysmod) (users : UserMap) (left : List X) (s : terms.Sysmod)
    → All (λ l. IsKnown users (now l)) left
    → All (λ c. is_some (get nat_cmp users (key_of c.elem_type c.name)) ≡ false) s.changes
    → All (λ l. (forbids (now l) s || excludes s (now l)) ≡ false) left → All (λ l. ¬ Meets (now l) s) left
meet_nothing now users left s known none apart =
    All_from_each (λ l. ¬ Meets (now l) s) left (λ l h.
    meets_nothing (now l) s
    (shares_nothing users (now l) s.changes (All-contains (λ x. IsKnown users (now x)) left l known h) none)
    (All-contains (λ x. (forbids (now x) s || excludes s (now x)) ≡ false) left l apart h))

pub among_still : (old new : List Unsure) (u : Unsure) → new ≡ old ++ u ∷ [] → KeepsNamed old new
among_still old new u e id any =
    let m = in_any (λ x. x.id ≡ id) old any in
    any_in (λ x. x.id ≡ id) new m.0
    (subst (λ l. Contains l m.0) (sym e) (Contains-append_left old (u ∷ []) m.0 m.1)) m.2

pub among_last : (old new : List Unsure) (u : Unsure) → new ≡ old ++ u ∷ [] → IsAmong new u.id
among_last old new u e =
    any_in (λ x. x.id ≡ u.id) new u
    (subst (λ l. Contains l u) (sym e) (Contains-append_right old (u ∷ []) u (here u []))) refl

pub all_named : {X : Type 0} (now : X → WideSysmod) (left : List X) (s : terms.Sysmod) (unsure : List Unsure)
    → IsAmong unsure s.id → All (λ l. Meets (now l) s → IsAmong unsure s.id) left
all_named now left s unsure among = All_from_each (λ l. Meets (now l) s → IsAmong unsure s.id) left (λ l h meets. among)

pub same_sysmod : (a b : terms.Sysmod) → Sysmod a ≡ Sysmod b → a ≡ b
same_sysmod a b e = cc e

pub no_sysmod : (a : terms.Assign) (s : terms.Sysmod) → Assign a ≡ Sysmod s → ⊥
no_sysmod a s e = cc e

pub named_still : (left : List WideSysmod) (old new : List Unsure) (items : List Item) → KeepsNamed old new
    → All (IsNamed left old) items → All (IsNamed left new) items
named_still left old new items kept all =
    All-weaker (IsNamed left old) (IsNamed left new) (λ item named s e.
    All-weaker (λ l. Meets l s → IsAmong old s.id) (λ l. Meets l s → IsAmong new s.id)
    (λ l among meets. kept s.id (among meets)) left (named s e)) items all

pub all_unsure : (run : List WideSysmod) (items : List Item) (left : List WideSysmod) (unsure : List Unsure)
    → AreLeftOutOf items run left → All (IsNamed left unsure) items → AreUnsure run items unsure
all_unsure run items left unsure are named l s at out has meets =
    All-contains (λ x. Meets x s → IsAmong unsure s.id) left l
    (All-contains (IsNamed left unsure) items (Sysmod s) named has s refl) (are l at out) meets
