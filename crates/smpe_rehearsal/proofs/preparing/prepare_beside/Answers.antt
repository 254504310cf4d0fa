use Rattle.std.proofs.Common.{◌≡◌, ◌∙◌, List, find, ap, inl, inr, sym, refl}
use Rattle.mcs.specs.declared.file.Item.{Item}
use Rattle.smpe_package.specs.Package.{is_free, package_sources}
use Rattle.smpe_rehearsal.proofs.preparing.prepare_beside.Goals.{After-free_source-source}
use Rattle.smpe_rehearsal.proofs.preparing.prepare_beside.Goals as goal

-- the source that was found, by the items themselves
found : (c : After-free_source-source) → find (λ x. is_free x c.args.items.items.items c.args.global.sysmods)
    package_sources ≡ c.free_source-source.result
found c = sym (c.free_source-source.ensures.first
    ∙ ap (λ (l : List Item). find (λ x. is_free x l c.args.global.sysmods) package_sources) c.as_slice.ensures.value)

pub returns-in_default-clause-prepares : goal.returns-in_default-clause-prepares
returns-in_default-clause-prepares c =
    inl (refl, found (goal.at.returns-in_default-clause-prepares c).After-free_source-source ∙ c.in_default.is)

pub returns-in-Ok-clause-prepares : goal.returns-in-Ok-clause-prepares
returns-in-Ok-clause-prepares c =
    let made = c.in-Ok.ensures in record {
      source = found (goal.at.returns-in-Ok-clause-prepares c).After-free_source-source ∙ c.in-Some.is;
      receive = made.receive;
      cntl = made.cntl;
      records = made.records;
    }

pub returns-in-Err-clause-prepares : goal.returns-in-Err-clause-prepares
returns-in-Err-clause-prepares c = inr c.fault_of.ensures
