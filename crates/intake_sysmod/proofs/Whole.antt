-- A SYSMOD that is put together.
use Rattle.std.proofs.Common.{◌≡◌, Bool, List, [], subst, sym, ap, ◌∙◌}
use Rattle.std.specs.List.{All}
use Rattle.std.proofs.lemmas.List.Elements.{All-nil}
use Rattle.terms.specs.Types.{Text, Ver, Sysmod}
use Rattle.terms.specs.Ptfin.{begun}
use Rattle.intake_read.specs.declared.items.WideSysmod.{WideSysmod}
use Rattle.intake_sysmod.specs.Changed.{IsSaid}
use Rattle.intake_sysmod.specs.NoLooser.{AreVers, IsElementDone, IsHarmlessOther, IsNoLooser}

pub whole : (decide : Bool) (run : List WideSysmod) (stated : WideSysmod) (id : Text) (new put after : Sysmod)
    (vers : List Ver)
    → new ≡ (begun stated.kind id).sysmod → put ≡ record new { changes = put.changes }
    → after ≡ record put { vers = vers } → id ≡ stated.id.items → AreVers stated.vers.items vers
    → All (IsElementDone decide run stated put.changes) stated.elements.items
    → (All (IsSaid decide stated.kind stated.elements.items) new.changes
    → All (IsSaid decide stated.kind stated.elements.items) put.changes)
    → stated.faulty.items ≡ [] → All (IsHarmlessOther decide) stated.others.items
    → IsNoLooser decide run stated after × (after.holds ≡ [])
whole decide run stated id new put after vers new_is put_is after_is id_is are changed said read others =
    let p = put_is ∙ ap (λ (s : Sysmod). record s { changes = put.changes }) new_is in
    let Said = IsSaid decide stated.kind stated.elements.items in
    subst (λ (s : Sysmod). IsNoLooser decide run stated s × (s.holds ≡ [])) (sym after_is) (
      record {
        id_is = ap (λ (s : Sysmod). s.id) p ∙ id_is;
        kind_is = ap (λ (s : Sysmod). s.kind) p;
        header_read = read;
        others_are = others;
        vers_are = are;
        changed = changed;
        said = said (subst (λ (s : Sysmod). All Said s.changes) (sym new_is) (All-nil Said));
      },
      ap (λ (s : Sysmod). s.holds) p,
    )
