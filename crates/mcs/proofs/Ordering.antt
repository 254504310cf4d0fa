-- Second ++VERs and second changes.
use Rattle.std.proofs.Common.{◌≡◌, ◌⊎◌, Bool, true, List, Option, Some, None, sym, ◌∙◌, ap, subst, inl, inr}
use Rattle.std.proofs.Common.{eq-eqb}
use Rattle.std.specs.Prelude.{◌&&◌, ◌==◌, ◌↔◌, IsTrue, Any, IsSomeAnd, IfSome, IfNone, codes}
use Rattle.std.specs.List.{list_any}
use Rattle.std.specs.Str.{bytes_eq}
use Rattle.std.proofs.lemmas.Bool.{and_parts, and_from, eqb-true}
use Rattle.std.proofs.lemmas.List.Folds.{Any-from_list_any, list_any-from_Any}
use Rattle.std.proofs.lemmas.Option.{same_Some}
use Rattle.terms.specs.declared.kinds.Kind.{Kind}
use Rattle.terms.specs.declared.kinds.Kind.TheVariants.{Function}
use Rattle.terms.specs.declared.kinds.ElemType.{ElemType}
use Rattle.terms.specs.declared.statement_words.StatementWord.{StatementWord}
use Rattle.terms.specs.declared.statement_words.StatementWord.TheVariants as word
use Rattle.terms.specs.Types.{Text, Ver, Change, Sysmod, type_number}
use Rattle.terms.specs.Forms.{IsId, IsSrel, IsName}
use Rattle.terms.specs.Statement.{Piece}
use Rattle.terms.specs.Operands.{HasOwn, list_behind}
use Rattle.terms.specs.Statements.{changed_type}
use Rattle.terms.specs.Ptfin.{NamesFmid, IsSecond}
use Rattle.terms.proofs.TextOrder.{same_from, same_itself}
use Rattle.terms.proofs.ElementOrder.{type_from_number}
use Rattle.terms.proofs.ExactOperands.{own_only}
use Rattle.terms.proofs.Each.{any_weaker}

-- FMID names that id just where it was read
read_names : (rest : List Piece) (named : Option Text) (f : Text) → IfSome named (NamesFmid rest) → named ≡ Some f
    → NamesFmid rest f
read_names rest named f some is = subst (λ o. IfSome o (NamesFmid rest)) is some

names_read : (rest : List Piece) (named : Option Text) (f : Text) → IfSome named (NamesFmid rest)
    → IfNone named ((g : Text) → NamesFmid rest g → ⊥) → NamesFmid rest f → named ≡ Some f
names_read rest None f some none names = absurd (none f names)
names_read rest (Some g) f some none names =
    ap (λ x. Some x) (own_only IsId IsId (list_behind (codes "FMID") rest) g f some.1 names.1)

some_weaker : (P Q : Text → Type 0) → ((x : Text) → P x → Q x) → (o : Option Text) → IsSomeAnd o P → IsSomeAnd o Q
some_weaker P Q imp None h = absurd h
some_weaker P Q imp (Some x) h = imp x h

-- the ++VER leaves no place for one of the SREL, and of the FMID where the kind is no function's
abbrev IsLike : Kind → Text → (Text → Type 0) → Ver → Type 0
IsLike kind srel Named v = (v.srel ≡ srel) × ((kind ≡ Function) ⊎ IsSomeAnd v.fmid Named)

like_weaker : (kind : Kind) (srel : Text) (P Q : Text → Type 0) → ((x : Text) → P x → Q x) → (v : Ver)
    → IsLike kind srel P v → IsLike kind srel Q v
like_weaker kind srel P Q imp v (same, inl function) = (same, inl function)
like_weaker kind srel P Q imp v (same, inr named) = (same, inr (some_weaker P Q imp v.fmid named))

-- the ++VERs of the SYSMOD, and the FMID that was read
pub second_ver : (s : Sysmod) (w : StatementWord) (own : Option Text) (rest : List Piece) (kind : Kind)
    (vers : List Ver) (srel : Text) (named : Option Text) (has : Bool) → kind ≡ s.kind → vers ≡ s.vers → w ≡ word.Ver
    → HasOwn IsSrel own srel → IfSome named (NamesFmid rest) → IfNone named ((f : Text) → NamesFmid rest f → ⊥)
    → (IsTrue has ↔ Any (IsLike kind srel (λ f. named ≡ Some f)) vers) → IsTrue has ↔ IsSecond s w own rest
second_ver s w own rest kind vers srel named has kind_is vers_are w_is h some none is =
    let Read : Ver → Type 0 = IsLike s.kind srel (λ f. named ≡ Some f) in
    let Named : Ver → Type 0 = IsLike s.kind srel (NamesFmid rest) in
    let like : IsTrue has ↔ Any Read s.vers = subst (λ vs. IsTrue has ↔ Any Read vs) vers_are
    (subst (λ k. IsTrue has ↔ Any (IsLike k srel (λ f. named ≡ Some f)) vers) kind_is is) in
    rw w_is (
      λ t. (
        srel,
        h,
        any_weaker Read Named
            (like_weaker s.kind srel (λ f. named ≡ Some f) (NamesFmid rest) (λ f. read_names rest named f some))
            s.vers (like.0 t),
      ),
      λ k.
          let here = subst (λ x. Any (IsLike s.kind x (NamesFmid rest)) s.vers)
          (own_only IsSrel IsSrel own k.0 srel k.1 h) k.2 in
          like.1 (any_weaker Named Read
          (like_weaker s.kind srel (NamesFmid rest) (λ f. named ≡ Some f) (λ f. names_read rest named f some none))
          s.vers here),
    )

-- a test that computes a property, over a list
any_by : {X : Type 0} (test : X → Bool) (P : X → Type 0) → ((x : X) → test x ≡ true → P x)
    → ((x : X) → P x → test x ≡ true) → (xs : List X) (b : Bool) → b ≡ list_any test xs
    → (IsTrue b → Any P xs) × (Any P xs → IsTrue b)
any_by test P to from xs b e = (
  λ t. any_weaker (λ x. test x ≡ true) P to xs (Any-from_list_any test xs (sym e ∙ t)),
  λ h. e ∙ list_any-from_Any test xs (any_weaker P (λ x. test x ≡ true) from xs h),
)

same_element : (c : Change) (w : StatementWord) (type : ElemType) (name : Text) → changed_type w ≡ Some type
    → ((type_number c.elem_type == type_number type) && bytes_eq c.name name) ≡ true
    → (changed_type w ≡ Some c.elem_type) × (c.name ≡ name)
same_element c w type name is t =
    let parts = and_parts (type_number c.elem_type == type_number type) (bytes_eq c.name name) t in
    let same = type_from_number c.elem_type type (eqb-true (type_number c.elem_type) (type_number type) parts.0) in
    (is ∙ ap (λ x. Some x) (sym same), same_from c.name name parts.1)

element_same : (c : Change) (w : StatementWord) (type : ElemType) (name : Text) → changed_type w ≡ Some type
    → (changed_type w ≡ Some c.elem_type) × (c.name ≡ name) → ((type_number c.elem_type == type_number type) && bytes_eq
    c.name name) ≡ true
element_same c w type name is h =
    let same = same_Some c.elem_type type (sym h.0 ∙ is) in
    and_from (type_number c.elem_type == type_number type) (bytes_eq c.name name)
    (eq-eqb (type_number c.elem_type) (type_number type) (ap type_number same))
    (subst (λ x. bytes_eq c.name x ≡ true) h.1 (same_itself c.name))

-- a second change, by the word alone
abbrev Changed : Sysmod → StatementWord → Option Text → Type 0
Changed s w own = (name : Text) × HasOwn IsName own name × Any
    (λ c. (changed_type w ≡ Some c.elem_type) × (c.name ≡ name)) s.changes

to_second : (s : Sysmod) (w : StatementWord) (own : Option Text) (rest : List Piece) (type : ElemType)
    → changed_type w ≡ Some type → Changed s w own → IsSecond s w own rest
to_second s (word.Replace t) own rest type is h = h
to_second s word.UpdateMac own rest type is h = h
to_second s word.UpdateSrc own rest type is h = h
to_second s w own rest type is h = absurd (cc (is))

from_second : (s : Sysmod) (w : StatementWord) (own : Option Text) (rest : List Piece) (type : ElemType)
    → changed_type w ≡ Some type → IsSecond s w own rest → Changed s w own
from_second s (word.Replace t) own rest type is h = h
from_second s word.UpdateMac own rest type is h = h
from_second s word.UpdateSrc own rest type is h = h
from_second s w own rest type is h = absurd (cc (is))

pub second_change : (s : Sysmod) (w : StatementWord) (own : Option Text) (rest : List Piece) (type : ElemType)
    (name : Text) (has : Bool) → changed_type w ≡ Some type → HasOwn IsName own name → has ≡ list_any
    (λ c. (type_number c.elem_type == type_number type) && bytes_eq c.name name) s.changes
    → IsTrue has ↔ IsSecond s w own rest
second_change s w own rest type name has is h e =
    let by = any_by (λ (c : Change). (type_number c.elem_type == type_number type) && bytes_eq c.name name)
    (λ c. (changed_type w ≡ Some c.elem_type) × (c.name ≡ name)) (λ c t. same_element c w type name is t)
    (λ c t. element_same c w type name is t) s.changes has e in (
      λ t. to_second s w own rest type is (name, h, by.0 t),
      λ k.
          let k' = from_second s w own rest type is k in
          by.1 (subst (λ x. Any (λ c. (changed_type w ≡ Some c.elem_type) × (c.name ≡ x)) s.changes)
          (own_only IsName IsName own k'.0 name k'.1 h) k'.2),
    )
