use Rattle.std.proofs.Common.{◌≢◌, ◌∷◌, [], subst}
use Rattle.std.specs.Prelude.{codes}
use Rattle.std.specs.List.{All}
use Rattle.terms.specs.Types.{Selection}
use Rattle.intake_asked.specs.Said.{AreThese, SaysLists, known_in}
use Rattle.intake_asked.specs.Words.{listed, sources, sources_of}
use Rattle.intake_asked.proofs.selections.says_selection.Goals as goal

pub returns : goal.returns
returns c = λ t.
    let types = c.says_types.ensures in
    let seen = c.selection.view_is in
    let ops = c.args.operands.now in
    let list = c.known_sysmods-list.ensures in
    let given = known_in c.args.known.now in
    record {
      functions = types.functions t;
      ptfs = types.ptfs t;
      apars = types.apars t;
      usermods = types.usermods t;
      lists = subst (λ k. SaysLists k ops c.args.selection.now) list (c.in_ok-says_lists.ensures c.if-not-branch.false);
      sourceid = subst (λ (s : Selection). AreThese s.sourceid (sources given ops)) seen
          (subst (λ l. AreThese l (sources given ops)) c.as_slice.ensures.items
          (subst (λ k. AreThese c.as_slice.result.now (sources k ops)) list
          (c.in_ok-says_sources.ensures.same c.if-not-branch-2.false)));
      groupextend = types.groupextend t;
      known_given = c.in_ok-knows_kept_out_ids.ensures c.if-not-branch-3.false;
      sources_known = subst (λ k. All (λ m. sources_of k m ≢ []) (listed (codes "SOURCEID" ∷ []) ops)) list
          (c.in_ok-says_sources.ensures.known c.if-not-branch-2.false);
    }
