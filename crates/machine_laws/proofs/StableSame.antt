-- Equations of what zones hold are stable: what can't be refuted of them is so.
use Rattle.std.proofs.Common.{◌≡◌, ◌∙◌, List, [], ◌∷◌, Option, None, Some, refl, ap}
use Rattle.terms.specs.declared.kinds.ElemType.{ElemType}
use Rattle.terms.specs.Types.{Text, Id, Lines, Element, type_number, Applied, an_applied}
use Rattle.terms.proofs.ElementOrder.{type_from_number}
use Rattle.machine_laws.proofs.Stable.{Stable, part_of, stable_number}

pub stable_list : {X : Type 0} → ((x y : X) → Stable (x ≡ y)) → (xs ys : List X) → Stable (xs ≡ ys)
stable_list each [] [] h = refl
stable_list each [] (y ∷ ys) h = absurd (h (λ e. cc e))
stable_list each (x ∷ xs) (y ∷ ys) h =
    let first : x ≡ y = each x y (λ other. h (λ e. let is : x ≡ y = cc e in other is)) in
    let rest : xs ≡ ys = stable_list each xs ys (λ other. h (λ e. let is : xs ≡ ys = cc e in other is)) in
    cc (first, rest)
stable_list each (x ∷ xs) [] h = absurd (h (λ e. cc e))

pub stable_option : {X : Type 0} → ((x y : X) → Stable (x ≡ y)) → (o p : Option X) → Stable (o ≡ p)
stable_option each None None h = refl
stable_option each None (Some y) h = absurd (h (λ e. cc e))
stable_option each (Some x) None h = absurd (h (λ e. cc e))
stable_option each (Some x) (Some y) h =
    ap (λ v. Some v) (each x y (λ other. h (λ e. let is : x ≡ y = cc e in other is)))

-- texts, and ids
pub stable_text : (x y : Text) → Stable (x ≡ y)
stable_text = stable_list stable_number

-- lists of ids, and records
pub stable_texts : (xs ys : List Text) → Stable (xs ≡ ys)
stable_texts = stable_list stable_text

pub stable_applied : (a b : Applied) → Stable (a ≡ b)
stable_applied a b h =
    ap (λ v. an_applied v a.number) (part_of (ap (λ (v : Applied). v.date)) (stable_text a.date b.date) h)
    ∙ ap (λ v. an_applied b.date v) (part_of (ap (λ (v : Applied). v.number)) (stable_number a.number b.number) h)

stable_type : (a b : ElemType) → Stable (a ≡ b)
stable_type a b h =
    type_from_number a b (part_of (ap type_number) (stable_number (type_number a) (type_number b)) h)

an_element : ElemType → Text → Id → Id → List Id → Text → Text → Lines → Element
an_element type name fmid rmid umids distlib syslib text = record {
  elem_type = type;
  name = name;
  fmid = fmid;
  rmid = rmid;
  umids = umids;
  distlib = distlib;
  syslib = syslib;
  text = text;
}

pub stable_element : (e f : Element) → Stable (e ≡ f)
unfolding an_element
stable_element e f h =
    ap (λ v. an_element v e.name e.fmid e.rmid e.umids e.distlib e.syslib e.text)
    (part_of (ap (λ (e : Element). e.elem_type)) (stable_type e.elem_type f.elem_type) h)
    ∙ ap (λ v. an_element f.elem_type v e.fmid e.rmid e.umids e.distlib e.syslib e.text)
    (part_of (ap (λ (e : Element). e.name)) (stable_text e.name f.name) h)
    ∙ ap (λ v. an_element f.elem_type f.name v e.rmid e.umids e.distlib e.syslib e.text)
    (part_of (ap (λ (e : Element). e.fmid)) (stable_text e.fmid f.fmid) h)
    ∙ ap (λ v. an_element f.elem_type f.name f.fmid v e.umids e.distlib e.syslib e.text)
    (part_of (ap (λ (e : Element). e.rmid)) (stable_text e.rmid f.rmid) h)
    ∙ ap (λ v. an_element f.elem_type f.name f.fmid f.rmid v e.distlib e.syslib e.text)
    (part_of (ap (λ (e : Element). e.umids)) (stable_texts e.umids f.umids) h)
    ∙ ap (λ v. an_element f.elem_type f.name f.fmid f.rmid f.umids v e.syslib e.text)
    (part_of (ap (λ (e : Element). e.distlib)) (stable_text e.distlib f.distlib) h)
    ∙ ap (λ v. an_element f.elem_type f.name f.fmid f.rmid f.umids f.distlib v e.text)
    (part_of (ap (λ (e : Element). e.syslib)) (stable_text e.syslib f.syslib) h)
    ∙ ap (λ v. an_element f.elem_type f.name f.fmid f.rmid f.umids f.distlib f.syslib v)
    (part_of (ap (λ (e : Element). e.text)) (stable_texts e.text f.text) h)
