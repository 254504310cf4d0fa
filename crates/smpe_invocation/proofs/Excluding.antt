-- What a bad operand excludes.
use Rattle.std.proofs.Common.{◌≡◌, ◌||◌, ◌+◌, ◌*◌, ℕ, List, ◌∙◌, ap, sym, refl, subst, true, codes, slice_index, nat_lt}
use Rattle.std.proofs.Common.{arith}
use Rattle.std.specs.Prelude.{Option, Some, None, Result, Err, IfErr, IsErrAnd}
use Rattle.std.proofs.lemmas.Result.{err_from_is_err_and}
use Rattle.std.specs.String.{string_bytes}
use Rattle.std.proofs.lemmas.Bool.Decides.{nat_tests}
use Rattle.terms.specs.Types.{Text}
use Rattle.clap.specs.Words.{Row}
use Rattle.smpe_invocation.specs.Answers.{Excludes}
use Rattle.smpe_invocation.specs.Values.{HasCertificate, HasCheckForm, HasCommands, HasCopy, HasDate, HasMendedSystem}
use Rattle.smpe_invocation.specs.Values.{HasOptions, HasRelated, HasSetFiles, HasSystem, HasText, HasValues}
use Rattle.smpe_invocation.specs.Values.{HasZoneName, IsEmptySystem, IsGiven, Lacks}
use Rattle.smpe_invocation.specs.declared.fault.ArgFault.{ArgFault}
use Rattle.smpe_invocation.specs.declared.fault.ArgFault.TheVariants.{Memory, Clap, BadOperand}
use Rattle.std.proofs.lemmas.Option.{none-some}
use Rattle.smpe_invocation.specs.declared.asked.CheckForm.{CheckForm}
use Rattle.smpe_invocation.specs.declared.asked.CheckForm.TheVariants as check_form
use Rattle.smpe_invocation.specs.declared.asked.CheckedSystem.{CheckedSystem}
use Rattle.smpe_invocation.specs.declared.asked.CheckedSystem.TheVariants.{Empty, Copied}
use Rattle.smpe_invocation.specs.declared.asked.SystemCopy.{SystemCopy}
use Rattle.smpe_invocation.specs.declared.asked.CommandJob.{CommandJob}
use Rattle.smpe_invocation.specs.declared.asked.Invocation.{Invocation}
use Rattle.smpe_invocation.specs.declared.asked.Invocation.TheVariants as asked
use Rattle.smpe_invocation.specs.declared.asked.SetFiles.{SetFiles}
use Rattle.smpe_invocation.specs.declared.asked.SetFiles.TheVariants.{Records, AsTheyCome}

pub excludes_more : (e : ArgFault) (P Q : Type 0) → (Q → P) → Excludes e P → Excludes e Q
excludes_more Memory P Q more h = tt
excludes_more (Clap error) P Q more h = absurd h
excludes_more BadOperand P Q more h = λ q. h (more q)

-- The fault of an operand is handed on, and excludes what has the operand.
pub handed_on : {X : Type 0} (r : Result X ArgFault) (e : ArgFault) (P Q : Type 0) → IsErrAnd r (λ y. y ≡ e)
    → (Q → P) → Excludes e P → IfErr r (λ y. Excludes y Q)
handed_on r e P Q told more h =
    let is = err_from_is_err_and r told in
    subst (λ q. IfErr q (λ y. Excludes y Q)) (sym (is.1 ∙ ap (λ y. Err y) is.2)) (excludes_more e P Q more h)

-- the first and the third byte of a word, in one number
abbrev pub mark : Text → ℕ
mark word = 256 * slice_index word 0 + slice_index word 2

-- words with two marks are two
pub two_words : {A : Type 0} (one two : Text) → (nat_lt (mark one) (mark two) || nat_lt (mark two) (mark one)) ≡ true
    → one ≡ two → A
two_words one two apart same = absurd (let marks = ap mark same in grind (arith, nat_tests, apart, marks))

-- the values of the invocation that a subcommand asks for
module _ (rows : List Row) where
  pub zone_in : (i : Invocation) × HasValues (codes "zone", rows) i
      → (db : _) × (definition : _) × HasOptions rows (asked.Zone db definition)
  zone_in (asked.Zone db definition, h) = (db, definition, h.1)
  zone_in (asked.Run db options, h) = two_words (codes "zone") (codes "run") refl h.0
  zone_in (asked.List db zone, h) = two_words (codes "zone") (codes "list") refl h.0
  zone_in (asked.Why db options, h) = two_words (codes "zone") (codes "why") refl h.0
  zone_in (asked.Check system set answer, h) = two_words (codes "zone") (codes "check") refl h.0
  zone_in (asked.Mend system options, h) = two_words (codes "zone") (codes "mend") refl h.0
  zone_in (asked.Lint options, h) = two_words (codes "zone") (codes "lint") refl h.0
  zone_in (asked.Migrate db, h) = two_words (codes "zone") (codes "migrate") refl h.0
  zone_in (asked.Verify db, h) = two_words (codes "zone") (codes "verify") refl h.0

  pub run_in : (i : Invocation) × HasValues (codes "run", rows) i
      → (db : _) × (options : _) × HasOptions rows (asked.Run db options)
  run_in (asked.Zone db definition, h) = two_words (codes "run") (codes "zone") refl h.0
  run_in (asked.Run db options, h) = (db, options, h.1)
  run_in (asked.List db zone, h) = two_words (codes "run") (codes "list") refl h.0
  run_in (asked.Why db options, h) = two_words (codes "run") (codes "why") refl h.0
  run_in (asked.Check system set answer, h) = two_words (codes "run") (codes "check") refl h.0
  run_in (asked.Mend system options, h) = two_words (codes "run") (codes "mend") refl h.0
  run_in (asked.Lint options, h) = two_words (codes "run") (codes "lint") refl h.0
  run_in (asked.Migrate db, h) = two_words (codes "run") (codes "migrate") refl h.0
  run_in (asked.Verify db, h) = two_words (codes "run") (codes "verify") refl h.0

  pub list_in : (i : Invocation) × HasValues (codes "list", rows) i
      → (db : _) × (zone : _) × HasOptions rows (asked.List db zone)
  list_in (asked.Zone db definition, h) = two_words (codes "list") (codes "zone") refl h.0
  list_in (asked.Run db options, h) = two_words (codes "list") (codes "run") refl h.0
  list_in (asked.List db zone, h) = (db, zone, h.1)
  list_in (asked.Why db options, h) = two_words (codes "list") (codes "why") refl h.0
  list_in (asked.Check system set answer, h) = two_words (codes "list") (codes "check") refl h.0
  list_in (asked.Mend system options, h) = two_words (codes "list") (codes "mend") refl h.0
  list_in (asked.Lint options, h) = two_words (codes "list") (codes "lint") refl h.0
  list_in (asked.Migrate db, h) = two_words (codes "list") (codes "migrate") refl h.0
  list_in (asked.Verify db, h) = two_words (codes "list") (codes "verify") refl h.0

  pub why_in : (i : Invocation) × HasValues (codes "why", rows) i
      → (db : _) × (options : _) × HasOptions rows (asked.Why db options)
  why_in (asked.Zone db definition, h) = two_words (codes "why") (codes "zone") refl h.0
  why_in (asked.Run db options, h) = two_words (codes "why") (codes "run") refl h.0
  why_in (asked.List db zone, h) = two_words (codes "why") (codes "list") refl h.0
  why_in (asked.Why db options, h) = (db, options, h.1)
  why_in (asked.Check system set answer, h) = two_words (codes "why") (codes "check") refl h.0
  why_in (asked.Mend system options, h) = two_words (codes "why") (codes "mend") refl h.0
  why_in (asked.Lint options, h) = two_words (codes "why") (codes "lint") refl h.0
  why_in (asked.Migrate db, h) = two_words (codes "why") (codes "migrate") refl h.0
  why_in (asked.Verify db, h) = two_words (codes "why") (codes "verify") refl h.0

  pub check_in : (i : Invocation) × HasValues (codes "check", rows) i
      → (system : _) × (set : _) × (answer : _) × HasOptions rows (asked.Check system set answer)
  check_in (asked.Zone db definition, h) = two_words (codes "check") (codes "zone") refl h.0
  check_in (asked.Run db options, h) = two_words (codes "check") (codes "run") refl h.0
  check_in (asked.List db zone, h) = two_words (codes "check") (codes "list") refl h.0
  check_in (asked.Why db options, h) = two_words (codes "check") (codes "why") refl h.0
  check_in (asked.Check system set answer, h) = (system, set, answer, h.1)
  check_in (asked.Mend system options, h) = two_words (codes "check") (codes "mend") refl h.0
  check_in (asked.Lint options, h) = two_words (codes "check") (codes "lint") refl h.0
  check_in (asked.Migrate db, h) = two_words (codes "check") (codes "migrate") refl h.0
  check_in (asked.Verify db, h) = two_words (codes "check") (codes "verify") refl h.0

  pub mend_in : (i : Invocation) × HasValues (codes "mend", rows) i
      → (system : _) × (options : _) × HasOptions rows (asked.Mend system options)
  mend_in (asked.Zone db definition, h) = two_words (codes "mend") (codes "zone") refl h.0
  mend_in (asked.Run db options, h) = two_words (codes "mend") (codes "run") refl h.0
  mend_in (asked.List db zone, h) = two_words (codes "mend") (codes "list") refl h.0
  mend_in (asked.Why db options, h) = two_words (codes "mend") (codes "why") refl h.0
  mend_in (asked.Check system set answer, h) = two_words (codes "mend") (codes "check") refl h.0
  mend_in (asked.Mend system options, h) = (system, options, h.1)
  mend_in (asked.Lint options, h) = two_words (codes "mend") (codes "lint") refl h.0
  mend_in (asked.Migrate db, h) = two_words (codes "mend") (codes "migrate") refl h.0
  mend_in (asked.Verify db, h) = two_words (codes "mend") (codes "verify") refl h.0

  pub lint_in : (i : Invocation) × HasValues (codes "lint", rows) i
      → (options : _) × HasOptions rows (asked.Lint options)
  lint_in (asked.Zone db definition, h) = two_words (codes "lint") (codes "zone") refl h.0
  lint_in (asked.Run db options, h) = two_words (codes "lint") (codes "run") refl h.0
  lint_in (asked.List db zone, h) = two_words (codes "lint") (codes "list") refl h.0
  lint_in (asked.Why db options, h) = two_words (codes "lint") (codes "why") refl h.0
  lint_in (asked.Check system set answer, h) = two_words (codes "lint") (codes "check") refl h.0
  lint_in (asked.Mend system options, h) = two_words (codes "lint") (codes "mend") refl h.0
  lint_in (asked.Lint options, h) = (options, h.1)
  lint_in (asked.Migrate db, h) = two_words (codes "lint") (codes "migrate") refl h.0
  lint_in (asked.Verify db, h) = two_words (codes "lint") (codes "verify") refl h.0

  pub migrate_in : (i : Invocation) × HasValues (codes "migrate", rows) i
      → (db : _) × HasOptions rows (asked.Migrate db)
  migrate_in (asked.Zone db definition, h) = two_words (codes "migrate") (codes "zone") refl h.0
  migrate_in (asked.Run db options, h) = two_words (codes "migrate") (codes "run") refl h.0
  migrate_in (asked.List db zone, h) = two_words (codes "migrate") (codes "list") refl h.0
  migrate_in (asked.Why db options, h) = two_words (codes "migrate") (codes "why") refl h.0
  migrate_in (asked.Check system set answer, h) = two_words (codes "migrate") (codes "check") refl h.0
  migrate_in (asked.Mend system options, h) = two_words (codes "migrate") (codes "mend") refl h.0
  migrate_in (asked.Lint options, h) = two_words (codes "migrate") (codes "lint") refl h.0
  migrate_in (asked.Migrate db, h) = (db, h.1)
  migrate_in (asked.Verify db, h) = two_words (codes "migrate") (codes "verify") refl h.0

  pub verify_in : (i : Invocation) × HasValues (codes "verify", rows) i
      → (db : _) × HasOptions rows (asked.Verify db)
  verify_in (asked.Zone db definition, h) = two_words (codes "verify") (codes "zone") refl h.0
  verify_in (asked.Run db options, h) = two_words (codes "verify") (codes "run") refl h.0
  verify_in (asked.List db zone, h) = two_words (codes "verify") (codes "list") refl h.0
  verify_in (asked.Why db options, h) = two_words (codes "verify") (codes "why") refl h.0
  verify_in (asked.Check system set answer, h) = two_words (codes "verify") (codes "check") refl h.0
  verify_in (asked.Mend system options, h) = two_words (codes "verify") (codes "mend") refl h.0
  verify_in (asked.Lint options, h) = two_words (codes "verify") (codes "lint") refl h.0
  verify_in (asked.Migrate db, h) = two_words (codes "verify") (codes "migrate") refl h.0
  verify_in (asked.Verify db, h) = (db, h.1)

  -- where there is a related zone, it has a name
  pub related_in : ¬ Lacks (codes "related") rows → (related : Option Text) × HasRelated rows related
      → (name : Text) × HasZoneName (codes "related") rows name
  related_in named (None, h) = absurd (named h.0)
  related_in named (Some name, h) = (name, h)

  -- where there is a file of commands, it has a name, and they have a date
  pub named_in : ¬ Lacks (codes "cntl") rows → (commands : Option CommandJob) × HasCommands rows commands
      → (text : Text) × HasText (codes "cntl") rows text
  named_in named (None, h) = absurd (named h)
  named_in named (Some commands, h) = (string_bytes commands.cntl, h.0)

  pub dated_in : ¬ Lacks (codes "cntl") rows → (commands : Option CommandJob) × HasCommands rows commands
      → (date : Text) × HasDate rows date
  dated_in named (None, h) = absurd (named h)
  dated_in named (Some commands, h) = (commands.date, h.1)

  -- if the words have PTFIN, the files of the set are records, and otherwise they come as they are
  pub records_in : ¬ Lacks (codes "ptfin") rows → (files : SetFiles) × HasSetFiles rows files
      → (ptfin : _) × (hold : _) × HasSetFiles rows (Records ptfin hold)
  records_in some (Records ptfin hold, h) = (ptfin, hold, h)
  records_in some (AsTheyCome files, h) = absurd (some h.1)

  pub as_they_come_in : Lacks (codes "ptfin") rows → (files : SetFiles) × HasSetFiles rows files
      → (files : _) × HasSetFiles rows (AsTheyCome files)
  as_they_come_in none (Records ptfin hold, h) = absurd (none-some (string_bytes ptfin) (sym none ∙ h.0))
  as_they_come_in none (AsTheyCome files, h) = (files, h)

  -- if the words have a file for the certificate, it has a name
  pub certified_in : ¬ Lacks (codes "certificate") rows → (name : Option Text) × HasCertificate rows name
      → (text : Text) × HasText (codes "certificate") rows text
  certified_in some (None, h) = absurd (some h)
  certified_in some (Some name, h) = (name, h.0)

  -- what is checked in a copy of a database is not checked in an empty system, and the other way round
  pub empty_in : Lacks (codes "db") rows → (system : CheckedSystem) × HasSystem rows system
      → (srel : Text) × HasSystem rows (Empty srel)
  empty_in none (Empty srel, h) = (srel, h)
  empty_in none (Copied copy, h) = absurd (none-some (string_bytes copy.db.name) (sym none ∙ h.0.0.0))

  pub copied_in : ¬ Lacks (codes "db") rows → (system : CheckedSystem) × HasSystem rows system
      → (copy : SystemCopy) × HasSystem rows (Copied copy)
  copied_in some (Empty srel, h) = absurd (some h.0.1)
  copied_in some (Copied copy, h) = (copy, h)

  pub mended_empty_in : Lacks (codes "db") rows → (system : CheckedSystem) × HasMendedSystem rows system
      → (srel : Text) × IsEmptySystem rows srel
  mended_empty_in none (Empty srel, h) = (srel, h)
  mended_empty_in none (Copied copy, h) = absurd (none-some (string_bytes copy.db.name) (sym none ∙ h.0.0.0))

  pub mended_copy_in : ¬ Lacks (codes "db") rows → (system : CheckedSystem) × HasMendedSystem rows system
      → (copy : SystemCopy) × HasCopy rows copy
  mended_copy_in some (Empty srel, h) = absurd (some h.1)
  mended_copy_in some (Copied copy, h) = (copy, h.0)

  -- there is one form of the answer
  pub json_in : IsGiven (codes "json") rows → (form : CheckForm) × HasCheckForm rows form
      → HasCheckForm rows check_form.Json
  json_in given (check_form.Summary, h) = absurd (h.2 given)
  json_in given (check_form.Report, h) = absurd (h.1 given)
  json_in given (check_form.Json, h) = h
