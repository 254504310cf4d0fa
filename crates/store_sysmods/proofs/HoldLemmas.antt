-- The row of a hold.
use Rattle.std.proofs.Common.{◌≡◌, [], ◌∷◌, refl, ap, ◌∙◌}
use Rattle.sqlite.specs.declared.types.Value.TheVariants as value
use Rattle.sqlite.specs.Values.{or_null, bound_value}
use Rattle.sqlite_value.specs.declared.value.ValueRef.{ValueRef}
use Rattle.sqlite_value.specs.Value.{owned}
use Rattle.terms.specs.Spelling.{hold_text}
use Rattle.terms.specs.Types.{Text, Hold}
use Rattle.store_rows.specs.Texts.{SuitColumns}
use Rattle.store_rows.proofs.Values.{kept_optional, kept_whole, bound_optional}
use Rattle.store_schema.specs.Rows.{hold_row, flag}
use Rattle.store_schema.specs.Tables.{hold}

-- its columns keep it
pub kept_hold : (h : Hold) → SuitColumns hold.columns (hold_row h)
kept_hold h = (
  refl,
  (
    refl,
    (
      refl,
      (
        refl,
        (
          kept_optional h.class,
          (kept_optional h.date, (kept_optional h.comment, (kept_whole _, tt))),
        ),
      ),
    ),
  ),
)

-- the values that are bound for it are its row
pub hold_bound : (id kind reason fmid : Text) (class date comment internal : ValueRef) (h : Hold) → id ≡ h.id
    → kind ≡ hold_text h.kind → reason ≡ h.reason → fmid ≡ h.fmid → owned class ≡ or_null value.Text h.class
    → owned date ≡ or_null value.Text h.date → owned comment ≡ or_null value.Text h.comment
    → owned internal ≡ flag h.internal
    → value.Text id ∷ value.Text kind ∷ value.Text reason ∷ value.Text fmid ∷ bound_value (owned class) ∷
    bound_value (owned date) ∷ bound_value (owned comment) ∷ bound_value (owned internal) ∷ [] ≡ hold_row h
hold_bound id kind reason fmid class date comment internal h is_id is_kind is_reason is_fmid is_class is_date is_comment
    is_internal =
    let on_class : bound_value (owned class) ≡ or_null value.Text h.class =
    ap bound_value is_class ∙ bound_optional h.class in
    let on_date : bound_value (owned date) ≡ or_null value.Text h.date =
    ap bound_value is_date ∙ bound_optional h.date in
    let on_comment : bound_value (owned comment) ≡ or_null value.Text h.comment =
    ap bound_value is_comment ∙ bound_optional h.comment in
    let on_internal : bound_value (owned internal) ≡ flag h.internal = ap bound_value is_internal in
    cc
