-- Which SYSMODs use a number, as more of them become known.
use Rattle.std.proofs.Common.{◌≡◌, ◌⊎◌, ◌<◌, ◌≤◌, ◌+◌, ℕ, Bool, true, false, cond, List, [], ◌∷◌, ◌++◌, length, take}
use Rattle.std.proofs.Common.{inl, inr, refl, sym, ap, subst, ◌∙◌, Some, None, Contains, append-nil, get_or, Option}
use Rattle.std.specs.Prelude.{All, IfSome}
use Rattle.std.specs.List.{flat_map}
use Rattle.std.specs.Ordering.{is_eq, nat_cmp}
use Rattle.std.specs.Cmp.{unsigned_ties}
use Rattle.std.specs.BTreeMap.{get, is_at, UpdatesBy}
use Rattle.std.specs.Map.{lookup}
use Rattle.std.proofs.lemmas.Bool.{eqb-true}
use Rattle.std.proofs.lemmas.Option.{same_Some}
use Rattle.std.proofs.lemmas.List.Concat.{flat_map-append}
use Rattle.std.proofs.lemmas.List.Elements.{All-weaker, All-contains, All-append}
use Rattle.terms.proofs.Each.{in_any}
use Rattle.terms.proofs.Lists.{front_more}
use Rattle.terms.specs.declared.kinds.ElemType.{ElemType}
use Rattle.terms.specs.Types.{Text}
use Rattle.intake_read.specs.declared.items.WideElement.{WideElement}
use Rattle.intake_read.specs.declared.items.WideSysmod.{WideSysmod}
use Rattle.intake_read.specs.declared.items.WideFile.{WideFile}
use Rattle.intake_elements.specs.Elements.{IsTouched, AreKeysOf}
use Rattle.intake_elements.specs.StandInNames.{key_of}
use Rattle.intake_sysmod.specs.declared.element_users.ElementUser.{ElementUser}
use Rattle.intake_sysmod.specs.declared.element_users.ElementUser.TheVariants.{Only, Several}
use Rattle.intake_sysmod.specs.Users.{run_of, Touches, HasKey, UserMap, Covers, IsUser, UsersGrow, IsKnown, KnowsRun}
use Rattle.intake_sysmod.specs.Users.{IsAlone}

same_number : (a b : ℕ) → is_eq (nat_cmp a b) ≡ true → a ≡ b
same_number a b e = eqb-true a b (unsigned_ties a b ∙ e)

-- ---- one user more

pub covers_then : (a b c : ElementUser) → Covers a b → Covers b c → Covers a c
covers_then a b c (inl e) h = inl e
covers_then a b c (inr e) (inl f) = inl (e ∙ f)
covers_then a b c (inr e) (inr f) = inr (e ∙ f)

pub user_added : (old new : UserMap) (key : ℕ) (user : ElementUser) (id : Text)
    → UpdatesBy nat_cmp (nat_cmp key) old new (Some user) → Covers user (Only id) → IsUser new key id
user_added old new key user id updates covers = (user, updates.1, covers)

pub users_grow : (old new : UserMap) (key : ℕ) (user : ElementUser)
    → UpdatesBy nat_cmp (nat_cmp key) old new (Some user) → IfSome (get nat_cmp old key) (Covers user)
    → UsersGrow old new
users_grow old new key user updates before q id known = by (is_eq (nat_cmp key q)) refl
  where
    by : (b : Bool) → is_eq (nat_cmp key q) ≡ b → IsUser new q id
    by true e =
        let same : key ≡ q = same_number key q e in
        let at = ap (λ k. get nat_cmp old k) same ∙ known.1 in (
          user,
          updates.0 q ∙ ap (λ b. cond b (Some user) (get nat_cmp old q)) e,
          covers_then user known.0 (Only id) (subst (λ o. IfSome o (Covers user)) at before) known.2,
        )
    by false e =
        (known.0, updates.0 q ∙ ap (λ b. cond b (Some user) (get nat_cmp old q)) e ∙ known.1, known.2)

pub grow_same : (users : UserMap) → UsersGrow users users
grow_same users key id known = known

pub grow_then : (a b c : UserMap) → UsersGrow a b → UsersGrow b c → UsersGrow a c
grow_then a b c one other key id known = other key id (one key id known)

pub numbers_still : (old new : UserMap) (id : Text) (keys : List ℕ) → UsersGrow old new
    → All (λ k. IsUser old k id) keys → All (λ k. IsUser new k id) keys
numbers_still old new id keys grow all =
    All-weaker (λ k. IsUser old k id) (λ k. IsUser new k id) (λ k known. grow k id known) keys all

-- ---- a statement, and a SYSMOD

abbrev pub IsElementKnown : UserMap → Text → WideElement → Type 0
IsElementKnown users id element = (type : ElemType) (name : Text) → IsTouched element type name
    → IsUser users (key_of type name) id

pub element_known : (users : UserMap) (id : Text) (element : WideElement) (keys : List ℕ) → AreKeysOf element keys
    → All (λ k. IsUser users k id) keys → IsElementKnown users id element
element_known users id element keys are all type name touched =
    All-contains (λ k. IsUser users k id) keys (key_of type name) all (are type name touched)

pub elements_still : (old new : UserMap) (id : Text) (elements : List WideElement) → UsersGrow old new
    → All (IsElementKnown old id) elements → All (IsElementKnown new id) elements
elements_still old new id elements grow all =
    All-weaker (IsElementKnown old id) (IsElementKnown new id)
    (λ e known type name touched. grow (key_of type name) id (known type name touched)) elements all

pub sysmod_known : (users : UserMap) (s : WideSysmod) → All (IsElementKnown users s.id.items) s.elements.items
    → IsKnown users s
sysmod_known users s all key has =
    let m = in_any (λ e. IsTouched e has.0 has.1) s.elements.items has.2 in
    subst (λ k. IsUser users k s.id.items) (sym has.3)
    (All-contains (IsElementKnown users s.id.items) s.elements.items m.0 all m.1 has.0 has.1 m.2)

pub known_still : (old new : UserMap) (sysmods : List WideSysmod) → UsersGrow old new → All (IsKnown old) sysmods
    → All (IsKnown new) sysmods
known_still old new sysmods grow all =
    All-weaker (IsKnown old) (IsKnown new) (λ s known key has. grow key s.id.items (known key has)) sysmods all

-- ---- files

pub next_file : (old new : UserMap) (files : List WideFile) (i : ℕ) (file : WideFile) → i < length files
    → file ≡ get_or files i file → UsersGrow old new → All (IsKnown old) (run_of (take i files))
    → All (IsKnown new) file.sysmods.items → All (IsKnown new) (run_of (take (i + 1) files))
next_file old new files i file below at grow all more =
    let parts : run_of (take (i + 1) files) ≡ run_of (take i files) ++ file.sysmods.items =
    ap run_of (front_more files i file below at)
    ∙ flat_map-append (λ (f : WideFile). f.sysmods.items) (take i files) (file ∷ [])
    ∙ ap (λ l. run_of (take i files) ++ l) (append-nil file.sysmods.items) in
    subst (All (IsKnown new)) (sym parts)
    (All-append (IsKnown new) (run_of (take i files)) file.sysmods.items
    (known_still old new (run_of (take i files)) grow all) more)

-- ---- what is known

pub knows_none : (users : UserMap) (run : List WideSysmod) → users.entries ≡ [] → KnowsRun users run
knows_none users run e key id at =
    absurd (nothing (sym (ap (lookup (is_at (nat_cmp key))) e) ∙ at))
  where
    nothing : None ≡ Some (Only id) → ⊥
    nothing f = cc f

abbrev id_in : ElementUser → Text
id_in (Only id) = id
id_in Several = []

only_one : (user : ElementUser) (own id : Text) → user ≡ Only id → Covers user (Only own) → own ≡ id
only_one user own id e (inl f) = absurd (cc (sym f ∙ e))
only_one user own id e (inr f) = ap id_in (sym f ∙ e)

pub knows_all : (users : UserMap) (run : List WideSysmod) → All (IsKnown users) run → KnowsRun users run
knows_all users run all key id at =
    All-weaker (IsKnown users) (λ s. HasKey s key → s.id.items ≡ id)
    (λ s known has. let u = known key has in only_one u.0 s.id.items id (same_Some u.0 (Only id) (sym u.1 ∙ at))
    u.2) run
    all

pub alone : (users : UserMap) (run : List WideSysmod) (id : Text) (element : WideElement) (keys : List ℕ)
    → KnowsRun users run → AreKeysOf element keys → All (λ k. get nat_cmp users k ≡ Some (Only id)) keys
    → IsAlone run id element
alone users run id element keys knows are all type name touched =
    All-weaker (λ s. HasKey s (key_of type name) → s.id.items ≡ id) (λ s. Touches s type name → s.id.items ≡ id)
    (λ s h touches. h (type, name, touches, refl)) run
    (knows (key_of type name) id (All-contains (λ k. get nat_cmp users k ≡ Some (Only id)) keys (key_of type name) all
    (are type name touched)))
