-- What the texts mean: each makes its table over those before it.
use Rattle.std.proofs.Common.{List, ℕ, [], ◌∷◌, ◌++◌, refl}
use Rattle.store_schema.specs.Tables.{meta, sysmod, ver, ifreq, hold, elem, zone, entry, zelem, source, morever}
use Rattle.store_schema.specs.Tables.{moreif, chosen, first_tables, second_tables}
use Rattle.store_schema.specs.declared.creating.TheConstants.{
  CREATE_META,
  CREATE_SYSMOD,
  CREATE_VER,
  CREATE_IFREQ,
  CREATE_HOLD,
  CREATE_ELEM,
  CREATE_ZONE,
  CREATE_ENTRY,
  CREATE_ZELEM,
  CREATE_SOURCE,
  CREATE_MOREVER,
  CREATE_MOREIF,
  CREATE_CHOSEN,
}
use Rattle.store_schema.proofs.Making.{Makes}
use Rattle.sqlite.specs.Listing.{understood}
use Rattle.sqlite_tied.specs.Compute.{everything}

abbrev pub create_meta : List ℕ
create_meta = CREATE_META.now

pub makes_meta : Makes create_meta ([]) meta
unfolding understood everything
makes_meta = record {
  is = refl;
  plain = (refl, refl);
  whole = refl;
  defines = refl;
  makes = refl;
  place = refl;
  uncounted = refl;
}

abbrev pub create_sysmod : List ℕ
create_sysmod = CREATE_SYSMOD.now

pub makes_sysmod : Makes create_sysmod (meta ∷ []) sysmod
unfolding understood everything
makes_sysmod = record {
  is = refl;
  plain = (refl, refl);
  whole = refl;
  defines = refl;
  makes = refl;
  place = refl;
  uncounted = refl;
}

abbrev pub create_ver : List ℕ
create_ver = CREATE_VER.now

pub makes_ver : Makes create_ver (meta ∷ sysmod ∷ []) ver
unfolding understood everything
makes_ver = record {
  is = refl;
  plain = (refl, refl);
  whole = refl;
  defines = refl;
  makes = refl;
  place = refl;
  uncounted = refl;
}

abbrev pub create_ifreq : List ℕ
create_ifreq = CREATE_IFREQ.now

pub makes_ifreq : Makes create_ifreq (meta ∷ sysmod ∷ ver ∷ []) ifreq
unfolding understood everything
makes_ifreq = record {
  is = refl;
  plain = (refl, refl);
  whole = refl;
  defines = refl;
  makes = refl;
  place = refl;
  uncounted = refl;
}

abbrev pub create_hold : List ℕ
create_hold = CREATE_HOLD.now

pub makes_hold : Makes create_hold (meta ∷ sysmod ∷ ver ∷ ifreq ∷ []) hold
unfolding understood everything
makes_hold = record {
  is = refl;
  plain = (refl, refl);
  whole = refl;
  defines = refl;
  makes = refl;
  place = refl;
  uncounted = refl;
}

abbrev pub create_elem : List ℕ
create_elem = CREATE_ELEM.now

pub makes_elem : Makes create_elem (meta ∷ sysmod ∷ ver ∷ ifreq ∷ hold ∷ []) elem
unfolding understood everything
makes_elem = record {
  is = refl;
  plain = (refl, refl);
  whole = refl;
  defines = refl;
  makes = refl;
  place = refl;
  uncounted = refl;
}

abbrev pub create_zone : List ℕ
create_zone = CREATE_ZONE.now

pub makes_zone : Makes create_zone (meta ∷ sysmod ∷ ver ∷ ifreq ∷ hold ∷ elem ∷ []) zone
unfolding understood everything
makes_zone = record {
  is = refl;
  plain = (refl, refl);
  whole = refl;
  defines = refl;
  makes = refl;
  place = refl;
  uncounted = refl;
}

abbrev pub create_entry : List ℕ
create_entry = CREATE_ENTRY.now

pub makes_entry : Makes create_entry (meta ∷ sysmod ∷ ver ∷ ifreq ∷ hold ∷ elem ∷ zone ∷ []) entry
unfolding understood everything
makes_entry = record {
  is = refl;
  plain = (refl, refl);
  whole = refl;
  defines = refl;
  makes = refl;
  place = refl;
  uncounted = refl;
}

abbrev pub create_zelem : List ℕ
create_zelem = CREATE_ZELEM.now

pub makes_zelem : Makes create_zelem (meta ∷ sysmod ∷ ver ∷ ifreq ∷ hold ∷ elem ∷ zone ∷ entry ∷ []) zelem
unfolding understood everything
makes_zelem = record {
  is = refl;
  plain = (refl, refl);
  whole = refl;
  defines = refl;
  makes = refl;
  place = refl;
  uncounted = refl;
}

abbrev pub create_source : List ℕ
create_source = CREATE_SOURCE.now

pub makes_source : Makes create_source first_tables source
unfolding understood everything
makes_source = record {
  is = refl;
  plain = (refl, refl);
  whole = refl;
  defines = refl;
  makes = refl;
  place = refl;
  uncounted = refl;
}

abbrev pub create_morever : List ℕ
create_morever = CREATE_MOREVER.now

pub makes_morever : Makes create_morever second_tables morever
unfolding understood everything
makes_morever = record {
  is = refl;
  plain = (refl, refl);
  whole = refl;
  defines = refl;
  makes = refl;
  place = refl;
  uncounted = refl;
}

abbrev pub create_moreif : List ℕ
create_moreif = CREATE_MOREIF.now

pub makes_moreif : Makes create_moreif (second_tables ++ morever ∷ []) moreif
unfolding understood everything
makes_moreif = record {
  is = refl;
  plain = (refl, refl);
  whole = refl;
  defines = refl;
  makes = refl;
  place = refl;
  uncounted = refl;
}

abbrev pub create_chosen : List ℕ
create_chosen = CREATE_CHOSEN.now

pub makes_chosen : Makes create_chosen (second_tables ++ morever ∷ moreif ∷ []) chosen
unfolding understood everything
makes_chosen = record {
  is = refl;
  plain = (refl, refl);
  whole = refl;
  defines = refl;
  makes = refl;
  place = refl;
  uncounted = refl;
}
