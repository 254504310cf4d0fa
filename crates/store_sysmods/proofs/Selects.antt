-- What the texts mean that read, under each schema that has their tables.
use Rattle.std.proofs.Common.{◌≡◌, ◌≢◌, refl}
use Rattle.std.specs.Prelude.{⊤}
use Rattle.std.proofs.Math.Dec.{lit≤}
use Rattle.sqlite.specs.Listing.{understood}
use Rattle.sqlite_tied.specs.Compute.{everything}
use Rattle.store_rows.proofs.Meant.{reads_all}
use Rattle.store_schema.specs.declared.schema.Schema.TheVariants.{First, Third}
use Rattle.store_schema.specs.Tables.{sysmod, ver, ifreq, elem, hold, source, morever, moreif}
use Rattle.store_schema.proofs.Asks.{Asks, asks_each, asks_later, asks_third}
use Rattle.store_sysmods.specs.Elems.{select_elems}
use Rattle.store_sysmods.specs.Heads.{select_sysmods}
use Rattle.store_sysmods.specs.Holds.{select_holds}
use Rattle.store_sysmods.specs.Ifs.{select_ifreqs}
use Rattle.store_sysmods.specs.MoreIfs.{select_moreifs}
use Rattle.store_sysmods.specs.MoreVers.{select_morevers}
use Rattle.store_sysmods.specs.Sources.{select_sources}
use Rattle.store_sysmods.specs.Vers.{select_vers}

pub heads : Asks (λ r. ⊤) 1 sysmod 0 select_sysmods
unfolding understood everything
heads =
    asks_each (λ more. reads_all refl (refl, refl) refl (lit≤ tt) refl refl) (record { found = refl; alone = refl })
    (record { found = refl; alone = refl }) (record { found = refl; alone = refl }) refl

pub vers : Asks (λ r. ⊤) 2 ver 0 select_vers
unfolding understood everything
vers =
    asks_each (λ more. reads_all refl (refl, refl) refl (lit≤ tt) refl refl) (record { found = refl; alone = refl })
    (record { found = refl; alone = refl }) (record { found = refl; alone = refl }) refl

pub ifs : Asks (λ r. ⊤) 3 ifreq 0 select_ifreqs
unfolding understood everything
ifs =
    asks_each (λ more. reads_all refl (refl, refl) refl (lit≤ tt) refl refl) (record { found = refl; alone = refl })
    (record { found = refl; alone = refl }) (record { found = refl; alone = refl }) refl

pub elems : Asks (λ r. ⊤) 5 elem 0 select_elems
unfolding understood everything
elems =
    asks_each (λ more. reads_all refl (refl, refl) refl (lit≤ tt) refl refl) (record { found = refl; alone = refl })
    (record { found = refl; alone = refl }) (record { found = refl; alone = refl }) refl

pub sources : Asks (λ r. r ≢ First) 9 source 0 select_sources
unfolding understood everything
sources =
    asks_later (λ more. reads_all refl (refl, refl) refl (lit≤ tt) refl refl) (record { found = refl; alone = refl })
    (record { found = refl; alone = refl }) refl

pub more_vers : Asks (λ r. r ≡ Third) 10 morever 0 select_morevers
unfolding understood everything
more_vers =
    asks_third (reads_all refl (refl, refl) refl (lit≤ tt) refl refl) (record { found = refl; alone = refl }) refl

pub more_ifs : Asks (λ r. r ≡ Third) 11 moreif 0 select_moreifs
unfolding understood everything
more_ifs =
    asks_third (reads_all refl (refl, refl) refl (lit≤ tt) refl refl) (record { found = refl; alone = refl }) refl

pub holds : Asks (λ r. ⊤) 4 hold 0 select_holds
unfolding understood everything
holds =
    asks_each (λ more. reads_all refl (refl, refl) refl (lit≤ tt) refl refl) (record { found = refl; alone = refl })
    (record { found = refl; alone = refl }) (record { found = refl; alone = refl }) refl
