-- What a good statement says has its forms.
use Rattle.std.proofs.Common.{◌≡◌, ◌≢◌, ◌≤◌, ◌&&◌, List, [], ◌∷◌, ◌++◌, length, get_or, Option, Some, None, All}
use Rattle.std.proofs.Common.{Contains, IsTrue, refl, sym, subst, arith, ◌<◌, ap}
use Rattle.std.specs.Prelude.{IfSome, IsSome, IsSomeAnd, nat_le, codes}
use Rattle.std.specs.List.{AllByRecursion}
use Rattle.std.proofs.lemmas.Bool.{le-leb, and_from}
use Rattle.std.proofs.lemmas.List.Elements.{All-contains, All-contains_itself, All-weaker, All-from_recursion}
use Rattle.terms.proofs.ListMembers.{none_in}
use Rattle.terms.specs.Types.{Text, Id, Hold, Lines, IfReq, Ver, Action, Replaces, Updates, Change, Sysmod, Assign}
use Rattle.terms.specs.Records.{IsPrintable}
use Rattle.terms.specs.Forms.{IsId, IsReason, IsClass, IsDate, BeginsDark, IsTrimmed, IsSource, IsSrel, IsName}
use Rattle.terms.specs.Words.{Word, IsOneOf, IsListOf}
use Rattle.terms.specs.Operands.{HasSorted, HasRequired, HasOptional, HasTexts}
use Rattle.terms.specs.HoldStatements.{HasComment, IsHoldOf, HasShortComment}
use Rattle.terms.specs.declared.kinds.Kind.{Kind}
use Rattle.terms.specs.declared.kinds.Kind.TheVariants.{Function}
use Rattle.terms.specs.declared.kinds.ElemType.{ElemType}
use Rattle.terms.specs.declared.kinds.ElemType.TheVariants.{Mac, Src}
use Rattle.terms.specs.declared.statement_words.StatementWord.{StatementWord}
use Rattle.terms.specs.Texts.{IsActionOf, HasForm}
use Rattle.terms.specs.Statements.{IsVerOf, IsIfOf, IsAssignOf, HasAction, IsChangeOf}
use Rattle.terms.specs.Ptfin.{IsUpdateWord}
use Rattle.terms.specs.declared.statement_words.StatementWord.TheVariants as word
use Rattle.terms.specs.Statements as says
use Rattle.store_schema.specs.Forms.{AreSorted, AreOthers, IsComment, HasHoldForms, AreRecords, IsTextOf, VerSuitsKind}
use Rattle.store_schema.specs.Forms.{HasIfForms, HasVerForms, HasActionForms, HasChangeForms}
use Rattle.terms.proofs.Each.{recursion_front, recursion_back}
use Rattle.machine_laws.proofs.Printable.{ArePrintable, IsInside, HasPrintableList, operand_printable}
use Rattle.machine_laws.proofs.Paired.{cut_paired}

-- ---- values

-- a value of its form in a list of one
pub one_form : (form : Text → Type 0) (own : Option Text) (value : Text)
    → IsSomeAnd own (λ text. IsOneOf form text value) → form value
one_form form None value h = absurd h
one_form form (Some text) value h = h.form_is

required_form : (form : Text → Type 0) (found : Option Word) (value : Text) → HasRequired form found value → form value
required_form form None value h = absurd h
required_form form (Some w) value h = one_form form w.list value h

pub optional_form : (form : Text → Type 0) (found : Option Word) (value : Option Text) → HasOptional form found value
    → IfSome value form
optional_form form None value is = subst (λ v. IfSome v form) (sym is) tt
optional_form form (Some w) None h = absurd h
optional_form form (Some w) (Some value) h = one_form form w.list value h

listed_form : (form : Text → Type 0) (list : Option Text) (values : List Text)
    → IsSomeAnd list (λ text. IsListOf form text values) → All form values
listed_form form None values h = absurd h
listed_form form (Some text) values h = h.each

none_listed : {form : Text → Type 0} → AreSorted form []
none_listed = record { each = λ k d below. absurd (omega arith); rising = λ i j d up below. absurd (omega arith) }

texts_listed : (form : Text → Type 0) (found : Option Word) (values : List Text) → HasTexts form found values
    → AreSorted form values
texts_listed form None values is = subst (λ vs. AreSorted form vs) (sym is) none_listed
texts_listed form (Some w) values (listed, has, sorted) = record {
  each = λ k d below. All-contains form listed (get_or values k d) (listed_form form w.list listed has)
      ((sorted.same (get_or values k d)).0 (All-contains_itself values k d below));
  rising = sorted.rising;
}

others_listed : (x : Id) (found : Option Word) (values : List Text) → HasTexts IsId found values → ¬ Contains values x
    → AreOthers x values
others_listed x found values has others = record { listed = texts_listed IsId found values has; others = others }

-- an operand that is not there has no values
none_there : (form : Text → Type 0) (found : Option Word) (values : List Text) → found ≡ None
    → HasTexts form found values → values ≡ []
none_there form None values absent has = has
none_there form (Some w) values absent has = absurd (cc absent)

-- an operand that is there has its value
some_there : (form : Text → Type 0) (found : Option Word) (value : Option Text) → IsSome found
    → HasOptional form found value → IsSome value
some_there form None value there has = absurd (cc there)
some_there form (Some w) None there has = absurd has
some_there form (Some w) (Some value) there has = refl

-- a list has a member
no_empty : (form : Text → Type 0) (list : Option Text) → IsSomeAnd list (λ text. IsListOf form text []) → ⊥
no_empty form None h = h
no_empty form (Some text) h = h.has_members

some_listed : (form : Text → Type 0) (w : Word) (values : List Text) → HasSorted form w values → values ≢ []
some_listed form w values ([], has, sorted) = λ none. no_empty form w.list has
some_listed form w values (x ∷ xs, has, sorted) = λ none. none_in x
    (subst (λ vs. Contains vs x) none ((sorted.same x).1 (0, omega arith, refl)))

-- ---- holds

first_there : (text : Text) → BeginsDark text → 1 ≤ length text
first_there [] dark = absurd dark
first_there (b ∷ bs) dark = omega arith

printable_characters : (text : Text) → ArePrintable text → All (λ b. IsTrue (nat_le 32 b && nat_le b 126)) text
printable_characters text each =
    All-weaker IsPrintable (λ b. IsTrue (nat_le 32 b && nat_le b 126))
    (λ b is. and_from (nat_le 32 b) (nat_le b 126) (le-leb 32 b is.0) (le-leb b 126 is.1)) text
    (All-from_recursion IsPrintable text each)

cut_form : (text cut : Text) → IsTrimmed text cut → IsInside text → length cut ≤ 200 → IsComment cut
cut_form text cut (left, right, is, blank, blank_behind, front, back) each short = record {
  least = first_there cut front;
  most = short;
  characters = printable_characters cut (recursion_back IsPrintable left cut
      (recursion_front IsPrintable (left ++ cut) right (subst ArePrintable is each.0)));
  front = front;
  back = back;
  paired = cut_paired text left cut right is blank blank_behind each.1;
}

list_comment : (list comment : Option Text) → IsSomeAnd list (λ text. IsSomeAnd comment (λ cut. IsTrimmed text cut))
    → IfSome list IsInside
    → IfSome comment (λ text. length text ≤ 200) → IfSome comment IsComment
list_comment None comment has each short = absurd has
list_comment (Some text) None has each short = tt
list_comment (Some text) (Some cut) has each short = cut_form text cut has each short

comment_form : (found : Option Word) (comment : Option Text) → HasComment found comment → IfSome found HasPrintableList
    → IfSome comment (λ text. length text ≤ 200) → IfSome comment IsComment
comment_form None comment is each short = subst (λ c. IfSome c IsComment) (sym is) tt
comment_form (Some w) comment has each short = list_comment w.list comment has each short

pub hold_formed : (own : Option Text) (operands : List Word) (h : Hold) → IsHoldOf own operands h → HasShortComment h
    → AllByRecursion HasPrintableList operands → HasHoldForms h
hold_formed own operands h is short each = record {
  id = one_form IsId own h.id is.id;
  reason = required_form (IsReason h.kind) _ h.reason is.reason;
  fmid = required_form IsId _ h.fmid is.fmid;
  class = optional_form IsClass _ h.class is.class;
  date = optional_form IsDate _ h.date is.date;
  comment = comment_form _ h.comment is.comment (operand_printable (codes "COMMENT") operands each) short;
}

-- ---- ++VER and ++IF

fmid_form : (x : Id) (fmid : Option Id) → IfSome fmid IsId → fmid ≢ Some x → IfSome fmid (λ f. IsId f × (f ≢ x))
fmid_form x None form other = tt
fmid_form x (Some f) form other = (form, λ same. other (ap (λ v. Some v) same))

module _ (s : Sysmod) (own : Option Text) (operands : List Word) (v : Ver) (is : IsVerOf s own operands v) where
  suits : (kind : Kind) → says.SuitsKind kind operands → VerSuitsKind kind v
  suits Function h = tt
  suits _ h = (
    some_there IsId _ v.fmid h.0 is.fmid,
    none_there IsId _ v.npre h.1 is.npre,
    none_there IsId _ v.del h.2 is.del,
  )

  pub ver_formed : HasVerForms s.kind s.id v
  ver_formed = record {
    srel = one_form IsSrel own v.srel is.srel;
    fmid = fmid_form s.id v.fmid (optional_form IsId _ v.fmid is.fmid) is.other_fmid;
    pre = others_listed s.id _ v.pre is.pre (is.others 0 [] (omega arith));
    req = others_listed s.id _ v.req is.req (is.others 1 [] (omega arith));
    sup = others_listed s.id _ v.sup is.sup (is.others 2 [] (omega arith));
    npre = others_listed s.id _ v.npre is.npre (is.others 3 [] (omega arith));
    del = others_listed s.id _ v.del is.del (is.others 4 [] (omega arith));
    ifs = subst (λ is. All (HasIfForms s.id) is) (sym is.no_ifs) (λ k d below. absurd (omega arith));
    suits = suits s.kind is.suits;
  }

pub if_formed : (s : Sysmod) (own : Option Text) (operands : List Word) (i : IfReq) → IsIfOf s own operands i
    → HasIfForms s.id i
if_formed s own operands i is = record {
  function = one_form IsId is.fmid.list i.function is.function;
  req = others_listed s.id (Some is.req) i.req is.ids is.others;
  some = some_listed IsId is.req i.req is.ids;
}

-- ---- ++ASSIGN

pub source_formed : (own : Option Text) (operands : List Word) (a : Assign) → IsAssignOf own operands a
    → IsSource a.source
source_formed own operands a is = required_form IsSource _ a.source is.source

-- ---- elements

text_form : (type : ElemType) (text : Lines) → AreRecords text → HasForm type text → IsTextOf type text
text_form Mac text records form = (records, form)
text_form Src text records form = (records, form)
text_form _ text records form = records

some_lines : (text : Lines) → 0 < length text → text ≢ []
some_lines [] some = absurd (omega (arith, some))
some_lines (line ∷ lines) some = λ e. absurd (cc e)

update_form : (kind : Kind) (type : ElemType) (name : Text) (text : Lines) → kind ≢ Function → AreRecords text
    → IsActionOf type name (Updates text) → HasActionForms kind type name (Updates text)
update_form kind Mac name text other records good = (other, tt, records, good)
update_form kind Src name text other records good = (other, tt, records, good)
update_form kind _ name text other records good = absurd good

action_form : (w : StatementWord) (kind : Kind) (type : ElemType) (name : Text) (a : Action) (operands : List Word)
    (inline : Lines)
    → HasAction w operands inline a → AreRecords inline → IsActionOf type name a → (IsUpdateWord w → kind ≢ Function)
    → HasActionForms kind type name a
action_form (word.Replace t) kind type name (Replaces distlib syslib text) operands inline
    (are, has_distlib, has_syslib, is) records good other = (
      required_form IsName _ distlib has_distlib,
      required_form IsName _ syslib has_syslib,
      text_form type text (subst AreRecords (sym is) records) good.1,
      some_lines text good.0,
    )
action_form word.UpdateMac kind type name (Updates text) operands inline (none, is) records good other =
    update_form kind type name text (other tt) (subst AreRecords (sym is) records) good
action_form word.UpdateSrc kind type name (Updates text) operands inline (none, is) records good other =
    update_form kind type name text (other tt) (subst AreRecords (sym is) records) good
action_form _ kind type name a operands inline has records good other = absurd has

pub change_formed : (w : StatementWord) (kind : Kind) (own : Option Text) (operands : List Word) (inline : Lines)
    (c : Change)
    → IsChangeOf w own operands inline c → AreRecords inline → IsActionOf c.elem_type c.name c.action
    → (IsUpdateWord w → kind ≢ Function) → HasChangeForms kind c
change_formed w kind own operands inline c is records good other = record {
  name = one_form IsName own c.name is.name;
  action = action_form w kind c.elem_type c.name c.action operands inline is.action records good other;
}
