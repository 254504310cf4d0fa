-- The rows of SYSMODs.
use Rattle.std.proofs.Common.{◌≡◌, ℕ, ℤ, pos, [], ◌∷◌, refl, ap, ◌∙◌}
use Rattle.std.specs.List.{join_with_byte, concat}
use Rattle.sqlite.specs.declared.types.Value.TheVariants as value
use Rattle.sqlite_value.specs.declared.value.ValueRef.{ValueRef}
use Rattle.sqlite_value.specs.Value.{owned}
use Rattle.sqlite.specs.Values.{or_null, bound_value}
use Rattle.terms.specs.Types.{Text, Id, Action, Replaces, Updates, Ver, IfReq, Change, Sysmod}
use Rattle.terms.specs.Spelling.{kind_text, type_text}
use Rattle.store_rows.specs.Texts.{SuitColumns}
use Rattle.store_rows.proofs.Values.{kept_optional, kept_whole, bound_optional}
use Rattle.store_schema.specs.Rows.{flag, records, action_cells, sysmod_row, source_row, ver_row, ifreq_row, elem_row}
use Rattle.store_schema.specs.Rows.{morever_row, moreif_row}
use Rattle.store_schema.specs.Tables.{sysmod, ver, ifreq, elem, source, morever, moreif}
use Rattle.store_sysmods.specs.Elems.{is_update, distlib_of, syslib_of, lines_of}

-- their columns keep them
pub kept_ver : (id : Id) (v : Ver) → SuitColumns ver.columns (ver_row id v)
kept_ver id v = (refl, (refl, (kept_optional v.fmid, (refl, (refl, (refl, (refl, (refl, tt))))))))

pub kept_ifreq : (id : Id) (srel : Text) (i : ℕ × IfReq) → SuitColumns ifreq.columns (ifreq_row id srel i)
kept_ifreq id srel i = (refl, (refl, (kept_whole (pos i.0), (refl, (refl, tt)))))

pub kept_morever : (id : Id) (v : ℕ × Ver) → SuitColumns morever.columns (morever_row id v)
kept_morever id v = (
  refl,
  (refl, (kept_whole (pos v.0), (kept_optional v.1.fmid, (refl, (refl, (refl, tt)))))),
)

pub kept_moreif : (id : Id) (srel : Text) (v : ℕ) (i : ℕ × IfReq)
    → SuitColumns moreif.columns (moreif_row id srel v i)
kept_moreif id srel v i = (
  refl,
  (refl, (kept_whole (pos v), (kept_whole (pos i.0), (refl, (refl, tt))))),
)

pub kept_source : (id : Id) (name : Text) → SuitColumns source.columns (source_row id name)
kept_source id name = (refl, (refl, tt))

pub kept_sysmod : (s : Sysmod) → SuitColumns sysmod.columns (sysmod_row s)
kept_sysmod s = (refl, (refl, (refl, tt)))

pub kept_elem : (id : Id) (c : Change) → SuitColumns elem.columns (elem_row id c)
kept_elem id c = kept_action c.action
  where
    kept_action : (a : Action)
        → SuitColumns elem.columns (value.Text id ∷ value.Text (type_text c.elem_type) ∷ value.Text
        c.name ∷ action_cells a)
    kept_action (Replaces distlib syslib lines) = (
      refl,
      (
        refl,
        (refl, (kept_whole (pos 0), (refl, (refl, (refl, tt))))),
      ),
    )
    kept_action (Updates lines) = (refl, (refl, (refl, (kept_whole (pos 1), (refl, (refl, (refl, tt)))))))

-- the values that are bound for a ++VER are its row
pub ver_bound : (id srel pre req sup npre del : Text) (fmid : ValueRef) (x : Id) (v : Ver) → id ≡ x → srel ≡ v.srel
    → owned fmid ≡ or_null value.Text v.fmid → pre ≡ join_with_byte 44 v.pre → req ≡ join_with_byte 44 v.req
    → sup ≡ join_with_byte 44 v.sup → npre ≡ join_with_byte 44 v.npre → del ≡ join_with_byte 44 v.del
    → value.Text id ∷ value.Text srel ∷ bound_value (owned fmid) ∷ value.Text pre ∷ value.Text req ∷ value.Text sup ∷
    value.Text npre ∷ value.Text del ∷ [] ≡ ver_row x v
ver_bound id srel pre req sup npre del fmid x v is_id is_srel is_fmid is_pre is_req is_sup is_npre is_del =
    let function : bound_value (owned fmid) ≡ or_null value.Text v.fmid = ap bound_value is_fmid ∙ bound_optional v.fmid
    in
    cc

-- and so it is for a further one, with its number
pub morever_bound : (id srel pre req sup : Text) (number : ℤ) (fmid : ValueRef) (x : Id) (n : ℕ) (v : Ver) → id ≡ x
    → srel ≡ v.srel → number ≡ pos n → owned fmid ≡ or_null value.Text v.fmid → pre ≡ join_with_byte 44 v.pre
    → req ≡ join_with_byte 44 v.req → sup ≡ join_with_byte 44 v.sup
    → value.Text id ∷ value.Text srel ∷ value.Int number ∷ bound_value (owned fmid) ∷ value.Text pre ∷ value.Text req ∷
    value.Text sup ∷ [] ≡ morever_row x (n, v)
morever_bound id srel pre req sup number fmid x n v is_id is_srel is_number is_fmid is_pre is_req is_sup =
    let function : bound_value (owned fmid) ≡ or_null value.Text v.fmid = ap bound_value is_fmid ∙ bound_optional v.fmid
    in
    cc

-- and so it is for a ++IF
pub ifreq_bound : (id srel function req : Text) (number : ℤ) (n : ℕ) (x : Id) (other : Text) (i : IfReq) → id ≡ x
    → srel ≡ other → number ≡ pos n → function ≡ i.function → req ≡ join_with_byte 44 i.req
    → value.Text id ∷ value.Text srel ∷ value.Int number ∷ value.Text function ∷ value.Text req ∷ [] ≡ ifreq_row x other
    (n, i)
ifreq_bound id srel function req number n x other i is_id is_srel is_number is_function is_req = cc

-- and for one of a further ++VER
pub moreif_bound : (id srel function req : Text) (place number : ℤ) (k n : ℕ) (x : Id) (other : Text) (i : IfReq)
    → id ≡ x → srel ≡ other → place ≡ pos k → number ≡ pos n → function ≡ i.function → req ≡ join_with_byte 44 i.req
    → value.Text id ∷ value.Text srel ∷ value.Int place ∷ value.Int number ∷ value.Text function ∷ value.Text req ∷ []
    ≡ moreif_row x other k (n, i)
moreif_bound id srel function req place number k n x other i is_id is_srel is_place is_number is_function is_req = cc

-- and for a source
pub source_bound : (id name : Text) (x : Id) (source : Text) → id ≡ x → name ≡ source
    → value.Text id ∷ value.Text name ∷ [] ≡ source_row x source
source_bound id name x source is_id is_name = cc

-- and for a SYSMOD
pub sysmod_bound : (id kind : Text) (s : Sysmod) → id ≡ s.id → kind ≡ kind_text s.kind
    → value.Text id ∷ value.Text kind ∷ value.Text [] ∷ [] ≡ sysmod_row s
sysmod_bound id kind s is_id is_kind = cc

-- what an element statement does, as its columns
cells_are : (a : Action) → flag (is_update a) ∷ or_null value.Text (distlib_of a) ∷ or_null value.Text (syslib_of a) ∷
    records (lines_of a) ∷ [] ≡ action_cells a
cells_are (Replaces distlib syslib lines) = refl
cells_are (Updates lines) = refl

-- and for an element statement
pub elem_bound : (id type name text : Text) (update distlib syslib : ValueRef) (x : Id) (c : Change) → id ≡ x
    → type ≡ type_text c.elem_type → name ≡ c.name → owned update ≡ flag (is_update c.action)
    → owned distlib ≡ or_null value.Text (distlib_of c.action)
    → owned syslib ≡ or_null value.Text (syslib_of c.action) → text ≡ concat (lines_of c.action)
    → value.Text id ∷ value.Text type ∷ value.Text name ∷ bound_value (owned update) ∷ bound_value (owned distlib) ∷
    bound_value (owned syslib) ∷ value.Blob text ∷ [] ≡ elem_row x c
elem_bound id type name text update distlib syslib x c is_id is_type is_name is_update is_distlib is_syslib is_text =
    let first : bound_value (owned update) ≡ flag (Rattle.store_sysmods.specs.Elems.is_update c.action) =
    ap bound_value is_update in
    let dist : bound_value (owned distlib) ≡ or_null value.Text (distlib_of c.action) =
    ap bound_value is_distlib ∙ bound_optional (distlib_of c.action) in
    let sys : bound_value (owned syslib) ≡ or_null value.Text (syslib_of c.action) =
    ap bound_value is_syslib ∙ bound_optional (syslib_of c.action) in
    let cells = cells_are c.action in
    cc
