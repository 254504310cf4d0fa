use Rattle.std.proofs.Common.{◌≡◌, ◌++◌, ◌∷◌, [], List, IsErrOf, append-nil, append_assoc, arith, rules, sym, ap, subst}
use Rattle.std.proofs.Common.{◌∙◌}
use Rattle.std.proofs.lemmas.Grind.{common_steps}
use Rattle.store_rows.specs.declared.error.ReadError.TheVariants.{BadRow}
use Rattle.terms.specs.Types.{Sysmod}
use Rattle.store_sysmods.specs.declared.head.HeadRow.{HeadRow}
use Rattle.store_sysmods.specs.declared.ver.VerRow.{VerRow}
use Rattle.store_sysmods.specs.declared.ifreq.IfRow.{IfRow}
use Rattle.store_sysmods.specs.declared.elem.ElemRow.{ElemRow}
use Rattle.store_sysmod_loads.specs.Built.{AreTaken}
use Rattle.std.proofs.lemmas.List.{nil_from_length}
use Rattle.store_sysmod_loads.proofs.RunLemmas.{next_left}
use Rattle.store_sysmod_loads.proofs.FlatLemmas.{taken_step}
use Rattle.store_sysmod_loads.proofs.building.take_all_sysmods.Goals as goal

pub returns-in_err-sysmod-clause-none : goal.returns-in_err-sysmod-clause-none
returns-in_err-sysmod-clause-none c bad others h =
    let failed : IsErrOf c.take_sysmod.result BadRow = search rules in
    let vers = c.loop-head.vers.items in
    let ifs = c.loop-head.ifs.items in
    let elems = c.loop-head.elems.items in
    let it = c.loop-head.invariant.only others h in
    let there = subst (λ (heads : List HeadRow). AreTaken heads it.0 vers ifs elems) c.in-Some.ensures.some it.2 in
    let step = taken_step c.in-Some.head c.pop_row.new.rows.items it.0 vers ifs elems there in
    c.take_sysmod.ensures.none failed step.0 step.2 step.3 step.4 step.6

pub loop-head-preserved : goal.loop-head-preserved
loop-head-preserved c =
    let sysmods = c.loop-head.sysmods.items in
    let s = c.in_ok-sysmod.sysmod in
    let new = c.pop_row.new.rows.items in
    let vers = c.loop-head.vers.items in
    let ifs = c.loop-head.ifs.items in
    let elems = c.loop-head.elems.items in
    let next_vers = c.take_sysmod.new.vers.items in
    let next_ifs = c.take_sysmod.new.ifs.items in
    let next_elems = c.take_sysmod.new.elems.items in
    let pushed : c.push.new.self.items ≡ c.loop-head.sysmods.items ++ c.in_ok-sysmod.sysmod ∷ [] =
    grind (arith, common_steps) in
    record {
      bare = c.in_ok-sysmod.ensures.bare;
      told = λ more h.
          subst (λ (ss : List Sysmod). AreTaken c.args.heads.now.items ss c.args.vers.now.items c.args.ifs.now.items
          c.args.elems.now.items) (sym (ap (λ (ss : List Sysmod). ss ++ more) pushed
          ∙ append_assoc sysmods (s ∷ []) more))
          (c.loop-head.invariant.told (s ∷ more) (subst (λ (heads : List HeadRow).
          AreTaken heads (s ∷ more) vers ifs elems) (sym c.in-Some.ensures.some)
          (next_vers, next_ifs, next_elems, c.in_ok-sysmod.ensures.taken, h)));
      only = λ others h.
          let it = c.loop-head.invariant.only others h in
          let there = subst (λ (heads : List HeadRow). AreTaken heads it.0 vers ifs elems) c.in-Some.ensures.some it.2
          in
          let step = taken_step c.in-Some.head new it.0 vers ifs elems there in
          let left = step.1 in
          let one = c.in_ok-sysmod.ensures.only step.0 step.2 step.3 step.4 step.6 in (
            left,
            next_left others sysmods s it.0 left it.1 (step.5 ∙ ap (λ (t : Sysmod). t ∷ left) one.0)
                ∙ ap (λ (ss : List Sysmod). ss ++ left) (sym pushed),
            subst (λ (v : List VerRow). AreTaken new left v next_ifs next_elems) one.1
                (subst (λ (i : List IfRow). AreTaken new left step.2 i next_elems) one.2
                (subst (λ (e : List ElemRow). AreTaken new left step.2 step.3 e) one.3 step.7)),
          );
    }

pub returns-clause-taken : goal.returns-clause-taken
returns-clause-taken c =
    let vers : c.loop-head.vers.items ≡ [] = nil_from_length c.loop-head.vers.items (grind (arith, common_steps)) in
    let ifs : c.loop-head.ifs.items ≡ [] = nil_from_length c.loop-head.ifs.items (grind (arith, common_steps)) in
    let elems : c.loop-head.elems.items ≡ [] = nil_from_length c.loop-head.elems.items (grind (arith, common_steps)) in
    let there = subst (λ (heads : List HeadRow). AreTaken heads [] c.loop-head.vers.items c.loop-head.ifs.items
    c.loop-head.elems.items) (sym c.in_default.ensures.none) (vers, ifs, elems) in
    subst (λ (ss : List Sysmod). AreTaken c.args.heads.now.items ss c.args.vers.now.items c.args.ifs.now.items
    c.args.elems.now.items)
    (append-nil c.loop-head.sysmods.items) (c.loop-head.invariant.told [] there)
