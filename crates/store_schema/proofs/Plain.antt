-- That the tables of the store can be compared.
use Rattle.std.proofs.Common.{[], ◌∷◌, refl}
use Rattle.std.specs.List.{AllByRecursion}
use Rattle.store_schema.specs.Plain.{IsPlainTable, IsPlain}
use Rattle.store_schema.specs.Tables.{meta, sysmod, ver, ifreq, hold, elem, zone, entry, zelem, source, morever}
use Rattle.store_schema.specs.Tables.{moreif, chosen, first_tables, second_tables, all_tables}
use Rattle.store_schema.specs.Earlier.{schema_under}
use Rattle.store_schema.specs.declared.schema.Schema.{Schema}
use Rattle.store_schema.specs.declared.schema.Schema.TheVariants.{First, Second, Third}
use Rattle.sqlite_trees.proofs.ListLemmas.{all-append}

plain_meta : IsPlainTable meta
plain_meta = record { columns = (refl, (refl, tt)); checks = refl; stamps = refl }

plain_sysmod : IsPlainTable sysmod
plain_sysmod = record { columns = (refl, (refl, (refl, tt))); checks = refl; stamps = refl }

plain_ver : IsPlainTable ver
plain_ver = record {
  columns = (refl, (refl, (refl, (refl, (refl, (refl, (refl, (refl, tt))))))));
  checks = refl;
  stamps = refl;
}

plain_ifreq : IsPlainTable ifreq
plain_ifreq = record { columns = (refl, (refl, (refl, (refl, (refl, tt))))); checks = refl; stamps = refl }

plain_hold : IsPlainTable hold
plain_hold = record {
  columns = (refl, (refl, (refl, (refl, (refl, (refl, (refl, (refl, tt))))))));
  checks = refl;
  stamps = refl;
}

plain_elem : IsPlainTable elem
plain_elem = record {
  columns = (refl, (refl, (refl, (refl, (refl, (refl, (refl, tt)))))));
  checks = refl;
  stamps = refl;
}

plain_zone : IsPlainTable zone
plain_zone = record { columns = (refl, (refl, (refl, (refl, tt)))); checks = refl; stamps = refl }

plain_entry : IsPlainTable entry
plain_entry = record { columns = (refl, (refl, (refl, (refl, (refl, (refl, tt)))))); checks = refl; stamps = refl }

plain_zelem : IsPlainTable zelem
plain_zelem = record {
  columns = (refl, (refl, (refl, (refl, (refl, (refl, (refl, (refl, (refl, tt)))))))));
  checks = refl;
  stamps = refl;
}

plain_source : IsPlainTable source
plain_source = record { columns = (refl, (refl, tt)); checks = refl; stamps = refl }

plain_morever : IsPlainTable morever
plain_morever = record {
  columns = (refl, (refl, (refl, (refl, (refl, (refl, (refl, tt)))))));
  checks = refl;
  stamps = refl;
}

plain_moreif : IsPlainTable moreif
plain_moreif = record { columns = (refl, (refl, (refl, (refl, (refl, (refl, tt)))))); checks = refl; stamps = refl }

plain_chosen : IsPlainTable chosen
plain_chosen = record { columns = (refl, (refl, (refl, tt))); checks = refl; stamps = refl }

plain_zones : AllByRecursion IsPlainTable (zone ∷ entry ∷ zelem ∷ [])
plain_zones = (plain_zone, (plain_entry, (plain_zelem, tt)))

plain_first : AllByRecursion IsPlainTable first_tables
plain_first = (plain_meta, (plain_sysmod, (plain_ver, (plain_ifreq, (plain_hold, (plain_elem, plain_zones))))))

plain_second : AllByRecursion IsPlainTable second_tables
plain_second = all-append IsPlainTable first_tables (source ∷ []) plain_first (plain_source, tt)

plain_third : AllByRecursion IsPlainTable all_tables
plain_third = all-append IsPlainTable second_tables (morever ∷ moreif ∷ chosen ∷ []) plain_second
    (plain_morever, (plain_moreif, (plain_chosen, tt)))

pub schema_is_plain : (r : Schema) → IsPlain (schema_under r)
schema_is_plain First = record { tables = plain_first; views = refl }
schema_is_plain Second = record { tables = plain_second; views = refl }
schema_is_plain Third = record { tables = plain_third; views = refl }
