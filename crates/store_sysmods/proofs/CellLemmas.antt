-- What columns say that depend on others.
use Rattle.std.proofs.Common.{◌≡◌, ◌≢◌, ◌<◌, ℕ, List, [], ◌∷◌, length, Bool, true, false, Option, Some, None}
use Rattle.std.proofs.Common.{arith, refl, sym, ap, ◌∙◌}
use Rattle.std.specs.Prelude.{IfSome}
use Rattle.sqlite.specs.declared.types.Value.{Value}
use Rattle.sqlite.specs.declared.types.Value.TheVariants as value
use Rattle.sqlite.specs.Order.{Row}
use Rattle.sqlite.specs.Values.{or_null}
use Rattle.terms.specs.declared.kinds.Kind.TheVariants.{Ptf}
use Rattle.terms.specs.declared.kinds.ElemType.{ElemType}
use Rattle.terms.specs.declared.kinds.ElemType.TheVariants.{Mac, Src}
use Rattle.terms.specs.Types.{Text, Id, Lines, Action, Replaces, Updates}
use Rattle.terms.specs.Forms.{IsName}
use Rattle.terms.specs.Lookups.{is_in}
use Rattle.terms.specs.Texts.{IsActionOf}
use Rattle.terms.proofs.ListMembers.{none_in_nil}
use Rattle.terms.proofs.Ids.{Contains_from_is_in}
use Rattle.store_schema.specs.Forms.{AreSorted, AreOthers, HasActionForms}
use Rattle.store_schema.specs.Rows.{joined, flag, records, action_cells}
use Rattle.store_schema.proofs.OneState.{same_ids}
use Rattle.terms.specs.Forms.{IsId}

-- ---- columns that are read one after the other

pub next : {row rest cells : Row} {v : Value} → row ≡ v ∷ rest → rest ≡ cells → row ≡ v ∷ cells
next {v = v} read behind = read ∙ ap (λ r. v ∷ r) behind

pub rest_is : {row a b : Row} {v w : Value} → row ≡ v ∷ a → row ≡ w ∷ b → a ≡ b
rest_is read same = cc

pub text_is : {row a b : Row} {x y : Text} → row ≡ value.Text x ∷ a → row ≡ value.Text y ∷ b → y ≡ x
text_is read same = cc

-- another id is an id
pub ids_of_others : (x : Id) (other : Option Text) → IfSome other (λ o. IsId o × (o ≢ x)) → IfSome other IsId
ids_of_others x None forms = tt
ids_of_others x (Some o) forms = forms.0

-- the SYSMOD's own id is not among others
pub own_id : (x : Id) (xs ys : List Id) (v : Value) → v ≡ joined xs → AreSorted IsId xs → is_in xs x ≡ true
    → AreOthers x ys → v ≡ joined ys → ⊥
own_id x xs ys v is listed there others same =
    let one : xs ≡ ys = same_ids xs ys listed others.listed (sym is ∙ same) in
    others.others (Contains_from_is_in ys x (ap (λ l. is_in l x) (sym one) ∙ there))

-- ---- texts of elements

filled : (text : Lines) → text ≢ [] → 0 < length text
filled [] some = absurd (some refl)
filled (line ∷ lines) some = omega arith

-- what has the forms is what an element statement does
pub fits_action : (t : ElemType) (name : Text) (a : Action) → HasActionForms Ptf t name a → IsActionOf t name a
fits_action Mac name (Replaces d l text) h = (filled text h.3, h.2.1)
fits_action Src name (Replaces d l text) h = (filled text h.3, h.2.1)
fits_action t name (Replaces d l text) h = (filled text h.3, tt)
fits_action Mac name (Updates text) h = h.3
fits_action Src name (Updates text) h = h.3
fits_action t name (Updates text) h = absurd h.1

-- ---- the cells of what a statement does

pub no_flag : (cells : Row) (action : Action) → ((f : Bool) (rest : Row) → cells ≢ flag f ∷ rest)
    → cells ≢ action_cells action
no_flag cells (Replaces x y text) none e = none false _ e
no_flag cells (Updates text) none e = none true _ e

pub no_distlib : (cells rest : Row) (f : Bool) (t : ElemType) (n : Text) (action : Action) → cells ≡ flag f ∷ rest
    → ((o : Option Text) (more : Row) → IfSome o IsName → rest ≢ or_null value.Text o ∷ more)
    → HasActionForms Ptf t n action → cells ≢ action_cells action
no_distlib cells rest f t n (Replaces x y text) first none h e =
    none (Some x) (value.Text y ∷ records text ∷ []) h.0 (cc)
no_distlib cells rest f t n (Updates text) first none h e = none None (value.Null ∷ records text ∷ []) tt (cc)

pub no_syslib : (cells more rest : Row) (f : Bool) (o : Option Text) (t : ElemType) (n : Text) (action : Action)
    → cells ≡ flag f ∷ more → more ≡ or_null value.Text o ∷ rest
    → ((o : Option Text) (more : Row) → IfSome o IsName → rest ≢ or_null value.Text o ∷ more)
    → HasActionForms Ptf t n action → cells ≢ action_cells action
no_syslib cells more rest f o t n (Replaces x y text) first second none h e =
    none (Some y) (records text ∷ []) h.1 (cc)
no_syslib cells more rest f o t n (Updates text) first second none h e = none None (records text ∷ []) tt (cc)

-- no ids are others
pub none_other : (x : Id) (ids : List Id) → ids ≡ [] → AreOthers x ids
none_other x ids none = record {
  listed = record {
    each = λ k d within. absurd (let short = ap length none in omega (arith, within, short));
    rising = λ i j d up within. absurd (let short = ap length none in omega (arith, within, short));
  };
  others = λ there. none_in_nil ids x none there;
}
