-- What the texts mean, and that columns keep what they write.
use Rattle.std.proofs.Common.{◌≡◌, pos, [], ◌∷◌, refl}
use Rattle.std.proofs.Math.Dec.{lit≤}
use Rattle.sqlite.specs.declared.types.Value.TheVariants.{Text as text}
use Rattle.sqlite.specs.Listing.{understood}
use Rattle.sqlite_tied.specs.Compute.{everything}
use Rattle.sqlite_schema.specs.Names.{same_name}
use Rattle.sqlite_value.specs.Keys.{joined}
use Rattle.terms.specs.Types.{Text}
use Rattle.terms.specs.Spelling.{kind_text}
use Rattle.store_rows.specs.Texts.{SuitColumns, PutsInPlace}
use Rattle.store_rows.proofs.Values.{kept_whole}
use Rattle.store_rows.proofs.Meant.{puts_in_place}
use Rattle.store_schema.specs.Rows.{number_row}
use Rattle.store_schema.specs.Tables.{store_schema, meta, sysmod}
use Rattle.store_migration.specs.declared.head.Head.{Head}
use Rattle.store_migration.specs.Moved.{replace_sysmod, replace_number, bare_row}

pub replaces_sysmod : PutsInPlace store_schema 1 sysmod 1 replace_sysmod
unfolding understood everything same_name joined
replaces_sysmod = puts_in_place refl refl refl (refl, refl) (lit≤ tt) (λ olds news. refl)

pub replaces_number : PutsInPlace store_schema 0 meta 1 replace_number
unfolding understood everything same_name joined
replaces_number = puts_in_place refl refl refl (refl, refl) (lit≤ tt) (λ olds news. refl)

pub kept_bare : (h : Head) → SuitColumns sysmod.columns (bare_row h)
kept_bare h = (refl, (refl, (refl, tt)))

pub kept_number : SuitColumns meta.columns number_row
kept_number = (refl, (kept_whole (pos 3), tt))

-- the values that are bound
pub bare_bound : (id kind : Text) (h : Head) → id ≡ h.id → kind ≡ kind_text h.kind
    → text id ∷ text kind ∷ text [] ∷ [] ≡ bare_row h
bare_bound id kind h is_id is_kind = cc
