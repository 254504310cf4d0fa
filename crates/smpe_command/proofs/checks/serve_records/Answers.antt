use Rattle.std.proofs.Common.{◌≡◌, ◌∙◌, [], ◌∷◌, Option, Ok, Err, Some, option_map, ap, ap₂, inl, inr, refl, subst}
use Rattle.std.proofs.Common.{rules}
use Rattle.std.specs.Prelude.{option_copied}
use Rattle.std.specs.String.{string_bytes}
use Rattle.std.proofs.lemmas.Result.{err_from_is_err_and}
use Rattle.terms.specs.Types.{Text}
use Rattle.smpe_command.specs.Reading.{ReadsAll}
use Rattle.smpe_command.proofs.checks.serve_records.Given.{Over}
use Rattle.smpe_command.proofs.checks.serve_records.Goals.{After-as_deref}
use Rattle.smpe_command.proofs.checks.serve_records.Goals as goal

-- the names of the files
names : (g : Over) (c : After-as_deref g)
    → option_copied c.map-cntl.result ∷ Some c.as_str.result.now ∷ option_copied c.as_deref.result ∷ []
    ≡ option_map (λ c. string_bytes c.cntl) c.args.commands.now ∷ Some (string_bytes c.args.ptfin.now)
    ∷ option_map string_bytes c.args.hold.now ∷ []
names g c =
    let cntl : option_copied c.map-cntl.result ≡ option_map (λ c. string_bytes c.cntl) c.args.commands.now =
    search rules in
    ap₂ (λ (cntl : Option Text) (hold : Option Text). cntl ∷ Some c.as_str.result.now ∷ hold ∷ []) cntl
    c.as_deref.ensures.value
    ∙ ap (λ (ptfin : Text). option_map (λ c. string_bytes c.cntl) c.args.commands.now ∷ Some ptfin
    ∷ option_map string_bytes c.args.hold.now ∷ []) c.as_str.ensures.value

pub returns-in_err-files : goal.returns-in_err-files
returns-in_err-files g c =
    let fault = c.in_err-files.field-0.0 in
    let p = err_from_is_err_and c.from_residual.result c.from_residual.ensures.1 in
    inl (
      fault,
      subst (λ names. ReadsAll g.H.Host c.args.host.now names (Err fault) c.read_files.new.host)
          (names g (goal.at.returns-in_err-files g c).After-as_deref) c.in_err-files.ensures.err,
      p.1 ∙ ap Err p.2,
      refl,
    )

pub returns : goal.returns
returns g c =
    let files = c.in_ok-files.files in
    inr (
      c.read_files.new.host,
      files.cntl.items,
      files.ptfin.items,
      files.hold.items,
      subst (λ names. ReadsAll g.H.Host c.args.host.now names
          (Ok (files.cntl.items ∷ files.ptfin.items ∷ files.hold.items ∷ [])) c.read_files.new.host)
          (names g (goal.at.returns g c).After-as_deref) c.in_ok-files.ensures.ok,
      c.check_in_system.result,
      c.check_in_system.ensures,
      c.status_or_fault.ensures,
    )
