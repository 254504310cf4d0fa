-- A row says all of what it stands for.
use Rattle.std.proofs.Common.{◌≡◌, ◌≢◌, List, [], ap, sym, ◌∙◌}
use Rattle.terms.specs.Forms.{IsId}
use Rattle.terms.specs.Types.{Id}
use Rattle.store_schema.specs.Forms.{AreOthers, HasIfForms}
use Rattle.terms.specs.declared.kinds.Kind.TheVariants.{Function, Ptf}
use Rattle.store_schema.proofs.Spelled.{kind_same, ids_same, or_null_same, sources_are_words}
use Rattle.store_schema.proofs.OneState.{same_ids, if_same, HaveOneHead, one_head, ver_is, change_is}
use Rattle.store_sysmods.specs.declared.head.HeadRow.{HeadRow}
use Rattle.store_sysmods.specs.declared.head.BareHead.{BareHead}
use Rattle.store_sysmods.specs.declared.source.SourceRow.{SourceRow}
use Rattle.store_sysmods.specs.declared.ver.VerRow.{VerRow}
use Rattle.store_sysmods.specs.declared.ifreq.IfRow.{IfRow}
use Rattle.store_sysmods.specs.declared.elem.ElemRow.{ElemRow}
use Rattle.store_sysmods.specs.Heads.{row_of_head, HasShortForms, row_of_bare, HasBareForms}
use Rattle.store_sysmods.specs.Sources.{row_of_source, HasSourceForms}
use Rattle.store_sysmods.specs.Vers.{row_of_ver, HasFirstForms}
use Rattle.store_sysmods.specs.MoreVers.{row_of_more_ver, HasFurtherForms}
use Rattle.store_sysmods.specs.Ifs.{row_of_if, HasFirstIfForms}
use Rattle.store_sysmods.specs.MoreIfs.{row_of_more_if, HasFurtherIfForms}
use Rattle.store_sysmods.specs.Elems.{row_of_elem, HasElemRowForms}

pub exact_head : (a b : HeadRow) → HasShortForms a → HasShortForms b → row_of_head a ≡ row_of_head b → a ≡ b
exact_head a b p q e =
    let id : a.id ≡ b.id = cc in
    let kind : a.kind ≡ b.kind = kind_same a.kind b.kind cc in
    let sources : a.sources ≡ b.sources = ids_same a.sources b.sources (sources_are_words a.sources p.0.1)
    (sources_are_words b.sources q.0.1) cc in
    ap (λ x. record a { id = x }) id ∙ ap (λ x. record a { id = b.id; kind = x }) kind
    ∙ ap (λ x. record b { sources = x }) sources

pub exact_bare : (a b : BareHead) → HasBareForms a → HasBareForms b → row_of_bare a ≡ row_of_bare b → a ≡ b
exact_bare a b p q e =
    let id : a.id ≡ b.id = cc in
    let kind : a.kind ≡ b.kind = kind_same a.kind b.kind cc in
    ap (λ x. record a { id = x }) id ∙ ap (λ x. record b { kind = x }) kind

pub exact_source : (a b : SourceRow) → HasSourceForms a → HasSourceForms b → row_of_source a ≡ row_of_source b → a ≡ b
exact_source a b p q e =
    let id : a.id ≡ b.id = cc in
    let name : a.name ≡ b.name = cc in
    ap (λ x. record a { id = x }) id ∙ ap (λ x. record b { name = x }) name

pub exact_ver : (a b : VerRow) → HasFirstForms a → HasFirstForms b → row_of_ver a ≡ row_of_ver b → a ≡ b
exact_ver a b p q e =
    let id : a.id ≡ b.id = cc in
    let number : a.number ≡ b.number = p.1 ∙ sym q.1 in
    let ver : a.ver ≡ b.ver = ver_is a.ver b.ver (one_head Function Function a.id b.id a.ver b.ver p.0.1 q.0.1 e)
    (p.0.2 ∙ sym q.0.2) in
    ap (λ x. record a { id = x }) id ∙ ap (λ x. record a { id = b.id; number = x }) number
    ∙ ap (λ x. record b { ver = x }) ver

pub exact_more_ver : (a b : VerRow) → HasFurtherForms a → HasFurtherForms b → row_of_more_ver a ≡ row_of_more_ver b
    → a ≡ b
exact_more_ver a b p q e =
    let id : a.id ≡ b.id = cc in
    let number : a.number ≡ b.number = cc in
    let head : HaveOneHead a.ver b.ver = record {
      srel = cc;
      fmid = or_null_same a.ver.fmid b.ver.fmid cc;
      pre = same_ids a.ver.pre b.ver.pre p.0.1.pre.listed q.0.1.pre.listed cc;
      req = same_ids a.ver.req b.ver.req p.0.1.req.listed q.0.1.req.listed cc;
      sup = same_ids a.ver.sup b.ver.sup p.0.1.sup.listed q.0.1.sup.listed cc;
      npre = p.2 ∙ sym q.2;
      del = p.3 ∙ sym q.3;
    } in
    ap (λ x. record a { id = x }) id ∙ ap (λ x. record a { id = b.id; number = x }) number
    ∙ ap (λ x. record b { ver = x }) (ver_is a.ver b.ver head (p.0.2 ∙ sym q.0.2))

-- all of a row of an ++IF
if_row_is : (a b : IfRow) → a.id ≡ b.id → a.srel ≡ b.srel → a.place ≡ b.place → a.number ≡ b.number
    → a.ifreq ≡ b.ifreq → a ≡ b
if_row_is a b id srel place number ifreq =
    ap (λ x. record a { id = x }) id
    ∙ ap (λ x. record a { id = b.id; srel = x }) srel
    ∙ ap (λ x. record a { id = b.id; srel = b.srel; place = x }) place
    ∙ ap (λ x. record b { number = x; ifreq = a.ifreq }) number
    ∙ ap (λ x. record b { ifreq = x }) ifreq

pub exact_if : (a b : IfRow) → HasFirstIfForms a → HasFirstIfForms b → row_of_if a ≡ row_of_if b → a ≡ b
exact_if a b p q e = if_row_is a b (cc) (cc) (p.1 ∙ sym q.1) (cc)
    (if_same a.id b.id a.ifreq b.ifreq p.0.2 q.0.2 (cc) (cc))

pub exact_more_if : (a b : IfRow) → HasFurtherIfForms a → HasFurtherIfForms b → row_of_more_if a ≡ row_of_more_if b
    → a ≡ b
exact_more_if a b p q e = if_row_is a b (cc) (cc) (cc) (cc)
    (if_same a.id b.id a.ifreq b.ifreq p.0.2 q.0.2 (cc) (cc))

pub exact_elem : (a b : ElemRow) → HasElemRowForms a → HasElemRowForms b → row_of_elem a ≡ row_of_elem b → a ≡ b
exact_elem a b p q e =
    let id : a.id ≡ b.id = cc in
    let change : a.change ≡ b.change = change_is Ptf Ptf a.id b.id a.change b.change p.1 q.1 e in
    ap (λ x. record a { id = x }) id ∙ ap (λ x. record b { change = x }) change

-- what is known of the two columns of an ++IF
pub formed_if : (x function : Id) (req : List Id) → IsId function → AreOthers x req × (req ≢ [])
    → HasIfForms x (record { function = function; req = req })
formed_if x function req formed (others, some) = record { function = formed; req = others; some = some }
