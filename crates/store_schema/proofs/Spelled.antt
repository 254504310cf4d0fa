-- What the cells of a row spell, each in one way.
use Rattle.std.proofs.Common.{◌≡◌, ◌≢◌, inl, inr, ℕ, ◌≤◌, Bool, true, false, ◌&&◌, ◌||◌, ◌==◌, nat_lt, if◌then◌else◌}
use Rattle.std.proofs.Common.{List, length, codes, Option, Some, None, IsTrue, Less, Equal, Greater, Ordering, arith}
use Rattle.std.proofs.Common.{refl, sym, ap, subst, ◌∙◌}
use Rattle.std.specs.List.{AllByRecursion, join_with_byte, concat}
use Rattle.std.specs.Str.{bytes_eq}
use Rattle.std.specs.Ordering.{is_lt, nat_cmp}
use Rattle.std.specs.Cmp.Lexicographic.{slice_cmp}
use Rattle.std.proofs.lemmas.Cmp.{nat_list_cmp_total}
use Rattle.std.proofs.lemmas.Bool.{or_cases, and_parts, eqb-true}
use Rattle.std.proofs.lemmas.Bool.Decides.{Decides-eqb, Decides-like, same_from_decides}
use Rattle.std.proofs.lemmas.Slice.Eq.{bytes_eq-Decides}
use borrow.Author.Tests.{ltb-true}
use Rattle.sqlite.specs.declared.types.Value.TheVariants as value
use Rattle.sqlite.specs.Values.{or_null}
use Rattle.terms.specs.declared.kinds.Kind.{Kind}
use Rattle.terms.specs.declared.kinds.Kind.TheVariants.{Function, Ptf, Apar, Usermod}
use Rattle.terms.specs.declared.kinds.HoldKind.{HoldKind}
use Rattle.terms.specs.declared.kinds.HoldKind.TheVariants.{Error, System, User}
use Rattle.terms.specs.declared.kinds.ElemType.{ElemType}
use Rattle.terms.specs.declared.kinds.ElemType.TheVariants.{Mac, Src, Clist, Data, Exec, Parm, Proc}
use Rattle.terms.specs.declared.kinds.ZoneKind.{ZoneKind}
use Rattle.terms.specs.declared.kinds.ZoneKind.TheVariants.{Target, Distribution}
use Rattle.terms.specs.Spelling.{kind_text, hold_text, type_text, zone_kind_text}
use Rattle.terms.specs.Types.{Text, Id, Lines, type_number}
use Rattle.terms.specs.Forms.{is_id_byte, IsRun, IsId, IsSource}
use Rattle.terms.specs.Lookups.{is_before}
use Rattle.store_schema.specs.Forms.{AreSorted, AreRecords}
use Rattle.store_schema.specs.Rows.{joined, flag, records}
use Rattle.store_schema.proofs.WrittenLists.{IsWord, all_by, joined_same, records_same}

-- ---- kinds

read_kind : Text → Option Kind
read_kind t =
    if bytes_eq t (codes "FUNCTION") then Some Function
    else if bytes_eq t (codes "PTF") then Some Ptf
    else if bytes_eq t (codes "APAR") then Some Apar
    else Some Usermod

kind_read : (k : Kind) → read_kind (kind_text k) ≡ Some k
unfolding read_kind
kind_read Function = refl
kind_read Ptf = refl
kind_read Apar = refl
kind_read Usermod = refl

pub kind_same : (a b : Kind) → kind_text a ≡ kind_text b → a ≡ b
kind_same a b e = let both = sym (kind_read a) ∙ ap read_kind e ∙ kind_read b in cc

read_hold : Text → Option HoldKind
read_hold t =
    if bytes_eq t (codes "ERROR") then Some Error
    else if bytes_eq t (codes "SYSTEM") then Some System
    else Some User

hold_read : (k : HoldKind) → read_hold (hold_text k) ≡ Some k
unfolding read_hold
hold_read Error = refl
hold_read System = refl
hold_read User = refl

pub hold_same : (a b : HoldKind) → hold_text a ≡ hold_text b → a ≡ b
hold_same a b e = let both = sym (hold_read a) ∙ ap read_hold e ∙ hold_read b in cc

read_type : Text → Option ElemType
read_type t =
    if bytes_eq t (codes "MAC") then Some Mac
    else if bytes_eq t (codes "SRC") then Some Src
    else if bytes_eq t (codes "CLIST") then Some Clist
    else if bytes_eq t (codes "DATA") then Some Data
    else if bytes_eq t (codes "EXEC") then Some Exec
    else if bytes_eq t (codes "PARM") then Some Parm
    else Some Proc

type_read : (k : ElemType) → read_type (type_text k) ≡ Some k
unfolding read_type
type_read Mac = refl
type_read Src = refl
type_read Clist = refl
type_read Data = refl
type_read Exec = refl
type_read Parm = refl
type_read Proc = refl

pub type_same : (a b : ElemType) → type_text a ≡ type_text b → a ≡ b
type_same a b e = let both = sym (type_read a) ∙ ap read_type e ∙ type_read b in cc

read_number : ℕ → ElemType
read_number n =
    if n == 0 then Mac
    else if n == 1 then Src
    else if n == 2 then Clist
    else if n == 3 then Data
    else if n == 4 then Exec
    else if n == 5 then Parm
    else Proc

number_read : (k : ElemType) → read_number (type_number k) ≡ k
unfolding read_number
number_read Mac = refl
number_read Src = refl
number_read Clist = refl
number_read Data = refl
number_read Exec = refl
number_read Parm = refl
number_read Proc = refl

-- and are told apart as their numbers are
pub types_alike : (a b : ElemType) → bytes_eq (type_text a) (type_text b) ≡ (type_number a == type_number b)
types_alike a b = same_from_decides _ _
    (Decides-like _ (type_same a b) (ap type_text) (bytes_eq-Decides (type_text a) (type_text b)))
    (Decides-like _ (λ e. sym (number_read a) ∙ ap read_number e ∙ number_read b) (ap type_number)
    (Decides-eqb (type_number a) (type_number b)))

read_zone : Text → Option ZoneKind
read_zone t = if bytes_eq t (codes "target") then Some Target else Some Distribution

zone_read : (k : ZoneKind) → read_zone (zone_kind_text k) ≡ Some k
unfolding read_zone
zone_read Target = refl
zone_read Distribution = refl

pub zone_same : (a b : ZoneKind) → zone_kind_text a ≡ zone_kind_text b → a ≡ b
zone_same a b e = let both = sym (zone_read a) ∙ ap read_zone e ∙ zone_read b in cc

-- ---- cells

pub or_null_same : (a b : Option Text) → or_null value.Text a ≡ or_null value.Text b → a ≡ b
or_null_same None None e = refl
or_null_same None (Some b) e = absurd cc
or_null_same (Some a) None e = absurd cc
or_null_same (Some a) (Some b) e = cc

pub flag_same : (a b : Bool) → flag a ≡ flag b → a ≡ b
flag_same true true e = refl
flag_same false false e = refl
flag_same true false e = absurd cc
flag_same false true e = absurd cc

-- ids, and names of sources too, have a character and no comma
word_of : (least most : ℕ) (t : Text) → 1 ≤ least → IsRun is_id_byte least most t → IsWord t
word_of least most t some run = (
  λ none. absurd (omega (arith, ap length none)),
  all_by (λ b. b ≢ 44) t (λ k d within comma. absurd (let test = run.2 k d within in let no : is_id_byte 44 ≡ true =
      rw comma at test in cc)),
)

pub ids_are_words : (xs : List Id) → AreSorted IsId xs → AllByRecursion IsWord xs
ids_are_words xs listed = all_by IsWord xs (λ k d within. word_of 7 7 _ (omega arith) (listed.each k d within))

pub sources_are_words : (xs : List Text) → AreSorted IsSource xs → AllByRecursion IsWord xs
sources_are_words xs listed = all_by IsWord xs (λ k d within. word_of 1 64 _ (omega arith) (listed.each k d within))

pub ids_same : (xs ys : List Text) → AllByRecursion IsWord xs → AllByRecursion IsWord ys → joined xs ≡ joined ys
    → xs ≡ ys
ids_same xs ys p q e = joined_same xs ys p q (cc)

pub text_same : (xs ys : Lines) → AreRecords xs → AreRecords ys → records xs ≡ records ys → xs ≡ ys
text_same xs ys p q e = records_same xs ys (all_by _ xs (λ k d within. (p k d within).0))
    (all_by _ ys (λ k d within. (q k d within).0)) (cc)

-- ---- orders

less_once : (a b : Ordering) → a ≡ Rattle.std.specs.Ordering.ordering_reverse b → IsTrue (is_lt a) → ¬ IsTrue (is_lt b)
less_once a Less e h k = absurd (let wrong = rw e at h in cc)
less_once a Equal e h k = absurd cc
less_once a Greater e h k = absurd cc

pub before_once : (x y : Text) → IsTrue (is_before x y) → ¬ IsTrue (is_before y x)
before_once x y = less_once (slice_cmp nat_cmp x y) (slice_cmp nat_cmp y x) (nat_list_cmp_total.antisymm x y)

pub not_before_same : (x y : Text) → x ≡ y → ¬ IsTrue (is_before x y)
not_before_same x y e h = let twice : IsTrue (is_before x x) = subst (λ z. IsTrue (is_before x z)) (sym e) h
    in before_once x x twice twice

-- a first part that is compared before a second
pub pair_once : (m n : ℕ) (p q : Bool) → (IsTrue p → ¬ IsTrue q) → IsTrue (nat_lt m n || ((m == n) && p))
    → ¬ IsTrue (nat_lt n m || ((n == m) && q))
pair_once m n p q once h k = elim (or_cases _ _ h) [
  | inl low ↦ elim (or_cases _ _ k) [
    | inl high ↦ absurd (omega (arith, ltb-true m n low, ltb-true n m high))
    | inr same ↦ absurd (omega (arith, ltb-true m n low, eqb-true n m (and_parts _ _ same).0))
  ]
  | inr same ↦ elim (or_cases _ _ k) [
    | inl high ↦ absurd (omega (arith, ltb-true n m high, eqb-true m n (and_parts _ _ same).0))
    | inr also ↦ once (and_parts _ _ same).1 (and_parts _ _ also).1
  ]
]
