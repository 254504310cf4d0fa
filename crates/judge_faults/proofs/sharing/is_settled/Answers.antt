use Rattle.std.proofs.Common.{inr, sym, ◌∙◌}
use Rattle.std.specs.Prelude.{nat_eq}
use Rattle.std.proofs.lemmas.Bool.{eqb-true}
use Rattle.indexmap.proofs.CallerLemmas.{Contains-list_any}
use Rattle.judge_faults.proofs.sharing.is_settled.Goals as goal

pub returns-then-contains-clause-settled : goal.returns-then-contains-clause-settled
returns-then-contains-clause-settled c on =
    let keys = c.args.marked.now.keys in
    inr (
      Contains-list_any nat_eq eqb-true keys c.args.one.now.place (sym c.contains.ensures ∙ c.if-contains.true),
      Contains-list_any nat_eq eqb-true keys c.args.other.now.place (sym c.contains-then-contains.ensures ∙ on),
    )
