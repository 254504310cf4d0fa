-- The subcommand that a parse met, and what is made of a refusal.
use Rattle.std.proofs.Common.{◌≡◌, List, [], ap, ap₂, refl, inl, inr, sym, subst, option_map, Option, Some, None}
use Rattle.std.proofs.Common.{unwrap_or}
use Rattle.std.specs.Prelude.{Result, IfOk, IfErr}
use Rattle.terms.specs.Types.{Text}
use Rattle.std.specs.Borrow.{Bor}
use Rattle.std.specs.Box.{box_value}
use Rattle.clap.specs.Words.{App, HasKind, Row, fault_of, found_of, rows_of, subcommand_name_of, subcommand_of}
use Rattle.clap.specs.Words.{subcommand_rows, subcommand_rows_of}
use Rattle.clap.specs.declared.parser.matches.ArgMatches.{ArgMatches}
use Rattle.clap.specs.declared.parser.matches.ArgMatches.TheViews.{out-ArgMatches, out-SubCommand}
use Rattle.clap.specs.declared.error.Error.{Error}
use Rattle.smpe_invocation.specs.Answers.{Excludes, IsMet, IsOfClap, IsRefused}
use Rattle.smpe_invocation.specs.CommandLine.{IsCommandLine}
use Rattle.smpe_invocation.specs.Values.{HasValues}
use Rattle.smpe_invocation.specs.declared.fault.ArgFault.{ArgFault}
use Rattle.smpe_invocation.specs.declared.fault.ArgFault.TheVariants.{Memory, Clap, BadOperand}
use Rattle.smpe_invocation.specs.declared.asked.Invocation.{Invocation}

-- two halves that agree make pairs that agree
pub paired : {X Y A B : Type 0} (r : Option X) (f : X → A) (g : X → B) (o : Option Y) (h : Y → A) (k : Y → B)
    → option_map f r ≡ option_map h o → option_map g r ≡ option_map (λ p. p.1)
    (option_map {U = A × B} (λ y. (h y, k y)) o)
    → option_map {U = A × B} (λ x. (f x, g x)) r ≡ option_map (λ y. (h y, k y)) o
paired None f g None h k a b = refl
paired None f g (Some y) h k a b = cc
paired (Some x) f g None h k a b = cc
paired (Some x) f g (Some y) h k a b = ap₂ (λ u v. Some (u, v)) (ap (λ o. unwrap_or o (f x)) a)
    (ap (λ o. unwrap_or o (g x)) b)

pub met_pairs : (m : ArgMatches) (r : Option (Bor Text × Bor ArgMatches))
    → option_map (λ p. p.0.now) r ≡ subcommand_name_of m
    → option_map (λ p. rows_of (found_of p.1.now)) r ≡ option_map (λ p. p.1)
    (subcommand_rows (out-ArgMatches m).subcommand)
    → option_map {U = Text × List Row} (λ p. (p.0.now, rows_of (found_of p.1.now))) r ≡ subcommand_rows_of m
met_pairs m r = paired r (λ p. p.0.now) (λ p. rows_of (found_of p.1.now)) (out-ArgMatches m).subcommand
    (λ b. (out-SubCommand (box_value b)).name.now) (λ b. rows_of (found_of (out-SubCommand (box_value b)).matches))

pub refused_by_clap : (words : List Text) (app : App) → IsCommandLine app → (error : Error) (fault : ArgFault)
    → HasKind (fault_of app words) error → IsOfClap error fault → IsRefused words fault
refused_by_clap words app line error Memory kinds of = tt
refused_by_clap words app line error BadOperand kinds of = absurd of
refused_by_clap words app line error (Clap own) (inl memory) of = absurd (of.1 memory)
refused_by_clap words app line error (Clap own) (inr among) of = (app, line, rw of.0 among)

pub refused_by_value : (words : List Text) (app : App) → IsCommandLine app → fault_of app words ≡ []
    → (fault : ArgFault)
    → Excludes fault ((i : Invocation) × IsMet (subcommand_of app words) i) → IsRefused words fault
refused_by_value words app line none Memory h = tt
refused_by_value words app line none (Clap error) h = absurd h
refused_by_value words app line none BadOperand h = (app, line, none, λ i met. h (i, met))

-- what holds of a word holds of a name that is this word
module _ (name word : Text) (rows : List Row) (is : name ≡ word) (r : Result Invocation ArgFault) where
  pub met_by : IfOk r (HasValues (word, rows)) → IfOk r (HasValues (name, rows))
  met_by = subst (λ w. IfOk r (HasValues (w, rows))) (sym is)

  pub unmet_by : IfErr r (λ e. Excludes e ((i : Invocation) × HasValues (word, rows) i))
      → IfErr r (λ e. Excludes e ((i : Invocation) × HasValues (name, rows) i))
  unmet_by = subst (λ w. IfErr r (λ e. Excludes e ((i : Invocation) × HasValues (w, rows) i))) (sym is)
