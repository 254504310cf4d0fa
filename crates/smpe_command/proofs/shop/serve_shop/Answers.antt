use Rattle.std.proofs.Common.{◌≡◌, ◌∙◌, ℕ, Option, Ok, Err, option_map, map, ap, inl, inr, sym, refl, subst, rules}
use Rattle.std.specs.Prelude.{option_copied}
use Rattle.std.specs.String.{string_bytes}
use Rattle.std.proofs.lemmas.List.{length-map}
use Rattle.std.proofs.lemmas.Result.{err_from_is_err_and}
use Rattle.sqlite_disk.specs.contracts.memory.MemoryDisk.TheImpl.{ghosts as memory_disk}
use Rattle.terms.specs.Types.{Text}
use Rattle.smpe_command.specs.Reading.{Reads}
use Rattle.smpe_command.specs.Shop.{CarriesAndChecks}
use Rattle.smpe_command.proofs.ReadingOn.{fails_later}
use Rattle.smpe_command.proofs.shop.serve_shop.Goals as goal

pub returns-in_err-cntl : goal.returns-in_err-cntl
returns-in_err-cntl g c =
    let fault = c.in_err-cntl.field-0.0 in
    let p = err_from_is_err_and c.from_residual.result c.from_residual.ensures.1 in
    let cntl : option_copied c.map-cntl.result ≡ option_map (λ c. string_bytes c.cntl) c.args.commands.now =
    search rules in
    inl (
      fault,
      inl (inl (subst (λ (name : Option Text). Reads g.H.Host c.args.host.now name (Err fault) c.read_file.new.host)
          cntl c.in_err-cntl.ensures.err)),
      p.1 ∙ ap Err p.2,
      refl,
    )

pub returns-in_err-files : goal.returns-in_err-files
returns-in_err-files g c =
    let fault = c.in_err-files.field-0.0 in
    let p = err_from_is_err_and c.from_residual-in_err-files.result c.from_residual-in_err-files.ensures.1 in
    let cntl : option_copied c.map-cntl.result ≡ option_map (λ c. string_bytes c.cntl) c.args.commands.now =
    search rules in
    inl (
      fault,
      fails_later g.H.Host _ _ _ _ c.in_ok-cntl.cntl.items _ fault
          (subst (λ (name : Option Text). Reads g.H.Host c.args.host.now name (Ok c.in_ok-cntl.cntl.items)
          c.read_file.new.host) cntl c.in_ok-cntl.ensures.ok) c.in_err-files.ensures.err,
      p.1 ∙ ap Err p.2,
      refl,
    )

pub returns : goal.returns
returns g c =
    let files = c.in_ok-files.files in
    let cntl : option_copied c.map-cntl.result ≡ option_map (λ c. string_bytes c.cntl) c.args.commands.now =
    search rules in
    inr (
      c.read_each.new.host,
      c.in_ok-cntl.cntl.items,
      map (λ file. file.items) files.items,
      (
        c.read_file.new.host,
        subst (λ (name : Option Text). Reads g.H.Host c.args.host.now name (Ok c.in_ok-cntl.cntl.items)
            c.read_file.new.host) cntl c.in_ok-cntl.ensures.ok,
        c.in_ok-files.ensures.ok,
      ),
      subst (λ (n : ℕ). CarriesAndChecks g.H.Host memory_disk g.O.Sink c.args.system.now c.args.commands.now
          c.in_ok-cntl.cntl.items c.read_each.new.host n c.args.out.now c.carry_and_check.result
          c.carry_and_check.new.host c.carry_and_check.new.out)
          (sym (length-map files.items (λ file. file.items))) c.carry_and_check.ensures,
    )
