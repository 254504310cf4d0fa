-- Forms are stable: what can't be refuted of them is so. So a form may be shown by cases that nothing decides.
use Rattle.std.proofs.Common.{◌≡◌, ◌≤◌, ◌<◌, ◌^◌, ◌⊎◌, inl, inr, ℕ, Bool, true, false, List, get_or, IsTrue, refl}
use Rattle.std.proofs.Common.{All, length, arith}
use Rattle.std.specs.Char.{IsAsciiDigit}
use Rattle.std.specs.Prelude.{slice_index_or}
use Rattle.std.proofs.lemmas.Bool.{cases_lt, cases_eq}
use Rattle.terms.specs.declared.kinds.ElemType.{ElemType}
use Rattle.terms.specs.declared.kinds.ElemType.TheVariants.{Mac, Src, Clist, Data, Exec, Parm, Proc}
use Rattle.terms.specs.Types.{Text, Id, Lines, Element, Applied}
use Rattle.terms.specs.Lookups.{is_before, IsRising}
use Rattle.terms.specs.Forms.{is_id_byte, is_digit, IsRun, IsId, IsName, IsDottedDate}
use Rattle.terms.specs.Texts.{IsNumbered, IsNumberedLine}
use Rattle.store_schema.specs.Forms.{AreSorted, HasAppliedForms, AreRecords, IsTextOf, HasElementForms}

abbrev pub Stable : Type 0 → Type 0
Stable A = ¬ ¬ A → A

-- by cases of any statement
pub by_either : {A B : Type 0} → Stable B → (A → B) → ((¬ A) → B) → B
by_either stable if_so if_not = stable (λ none. none (if_not (λ a. none (if_so a))))

-- of any two statements that can't both fail
pub not_both : {A B : Type 0} → ¬ ((¬ A) × (¬ B)) → ¬ ¬ (A ⊎ B)
not_both some none = some ((λ a. none (inl a)), (λ b. none (inr b)))

-- a part of what can't be refuted
pub part_of : {A B : Type 0} → (A → B) → Stable B → ¬ ¬ A → B
part_of f stable h = stable (λ no. h (λ a. no (f a)))

-- ---- numbers, tests and lists

pub stable_le : (a b : ℕ) → Stable (a ≤ b)
stable_le a b h = elim (cases_lt b a) [
  | inl over ↦ absurd (h (λ le. omega (arith, over, le)))
  | inr within ↦ within
]

pub stable_lt : (a b : ℕ) → Stable (a < b)
stable_lt a b h = elim (cases_lt a b) [
  | inl below ↦ below
  | inr over ↦ absurd (h (λ lt. omega (arith, over, lt)))
]

pub stable_number : (a b : ℕ) → Stable (a ≡ b)
stable_number a b h = elim (cases_eq a b) [
  | inl same ↦ same
  | inr other ↦ absurd (h other)
]

pub stable_bool : (a b : Bool) → Stable (a ≡ b)
stable_bool true true h = refl
stable_bool true false h = absurd (h (λ e. cc e))
stable_bool false true h = absurd (h (λ e. cc e))
stable_bool false false h = refl

pub stable_all : {X : Type 0} (P : X → Type 0) → ((x : X) → Stable (P x)) → (xs : List X) → Stable (All P xs)
stable_all P each xs h = λ i d below. each (get_or xs i d) (λ no. h (λ all. no (all i d below)))

pub stable_rising : (ids : List Id) → Stable (IsRising ids)
stable_rising ids h = λ i j d up below.
    stable_bool (is_before (slice_index_or ids i d) (slice_index_or ids j d)) true
    (λ no. h (λ rising. no (rising i j d up below)))

-- ---- forms

pub stable_run : (test : ℕ → Bool) (least most : ℕ) (text : Text) → Stable (IsRun test least most text)
stable_run test least most text h = (
  part_of (λ run. run.0) (stable_le _ _) h,
  part_of (λ run. run.1) (stable_le _ _) h,
  part_of (λ run. run.2) (stable_all (λ b. IsTrue (test b)) (λ b. stable_bool (test b) true) text) h,
)

pub stable_id : (x : Id) → Stable (IsId x)
stable_id x = stable_run is_id_byte 7 7 x

pub stable_name : (name : Text) → Stable (IsName name)
stable_name name h = (
  part_of (λ n. n.0) (stable_run is_id_byte 1 8 name) h,
  part_of (λ n. n.1) (stable_bool _ false) h,
)

pub stable_dotted : (date : Text) → Stable (IsDottedDate date)
stable_dotted date h = (
  part_of (λ d. d.0) (stable_run is_digit 2 2 _) h,
  part_of (λ d. d.1) (stable_number _ 46) h,
  (
    part_of (λ d. d.2.0) (stable_run is_digit 3 3 _) h,
    part_of (λ d. d.2.1) (stable_le 1 _) h,
    part_of (λ d. d.2.2) (stable_le _ 366) h,
  ),
)

pub stable_applied : (a : Applied) → Stable (HasAppliedForms a)
stable_applied a h = record {
  date = part_of (λ f. f.date) (stable_dotted a.date) h;
  least = part_of (λ f. f.least) (stable_le 1 a.number) h;
  most = part_of (λ f. f.most) (stable_lt a.number (2 ^ 63)) h;
}

pub stable_listed : (ids : List Id) → Stable (AreSorted IsId ids)
stable_listed ids h = record {
  each = part_of (λ l. l.each) (stable_all IsId stable_id ids) h;
  rising = part_of (λ l. l.rising) (stable_rising ids) h;
}

abbrev pub IsRecord : List ℕ → Type 0
IsRecord line = (length line ≡ 80) × All (λ b. b < 256) line

pub stable_record : (line : List ℕ) → Stable (IsRecord line)
stable_record line h = (
  part_of (λ r. r.0) (stable_number _ 80) h,
  part_of (λ r. r.1) (stable_all (λ b. b < 256) (λ b. stable_lt b 256) line) h,
)

pub stable_records : (lines : Lines) → Stable (AreRecords lines)
stable_records lines = stable_all IsRecord stable_record lines

stable_numbered_line : (line : List ℕ) → Stable (IsNumberedLine line)
stable_numbered_line line h = (
  part_of (λ n. n.0) (stable_number _ 8) h,
  part_of (λ n. n.1) (stable_all IsAsciiDigit (λ b d. (
    part_of (λ r. r.0) (stable_le 48 b) d,
    part_of (λ r. r.1) (stable_le b 57) d,
  )) _) h,
)

pub stable_numbered : (text : Lines) → Stable (IsNumbered text)
stable_numbered text h = record {
  numbers = part_of (λ n. n.numbers) (stable_all IsNumberedLine stable_numbered_line text) h;
  rising = λ k below. stable_lt _ _ (λ no. h (λ n. no (n.rising k below)));
}

numbered_records : (text : Lines) → Stable (AreRecords text × IsNumbered text)
numbered_records text h = (
  part_of (λ t. t.0) (stable_records text) h,
  part_of (λ t. t.1) (stable_numbered text) h,
)

pub stable_text : (type : ElemType) (text : Lines) → Stable (IsTextOf type text)
stable_text Mac text = numbered_records text
stable_text Src text = numbered_records text
stable_text Clist text = stable_records text
stable_text Data text = stable_records text
stable_text Exec text = stable_records text
stable_text Parm text = stable_records text
stable_text Proc text = stable_records text

pub stable_element : (e : Element) → Stable (HasElementForms e)
stable_element e h = record {
  name = part_of (λ f. f.name) (stable_name e.name) h;
  fmid = part_of (λ f. f.fmid) (stable_id e.fmid) h;
  rmid = part_of (λ f. f.rmid) (stable_id e.rmid) h;
  umids = part_of (λ f. f.umids) (stable_listed e.umids) h;
  distlib = part_of (λ f. f.distlib) (stable_name e.distlib) h;
  syslib = part_of (λ f. f.syslib) (stable_name e.syslib) h;
  text = part_of (λ f. f.text) (stable_text e.elem_type e.text) h;
}
