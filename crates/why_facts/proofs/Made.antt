-- Who made an element, as it is found.
use Rattle.std.proofs.Common.{◌≡◌, map}
use Rattle.std.specs.Str.{bytes_eq}
use Rattle.terms.specs.Beside.{Beside}
use Rattle.terms.specs.Types.{Id, Element}
use Rattle.terms.specs.Tests.{Setting, owner_of}
use Rattle.report.specs.Facts.{IsRelation, IsElementLevel}
use Rattle.report.specs.declared.fact.ElementLevel.{ElementLevel}
use Rattle.report.specs.FactViews.{maker_view, level_view}
use Rattle.why_facts.specs.Makers.{IsMaker}
use Rattle.why_facts.proofs.Besides.{beside_cons, beside_map}

pub is_found : (s : Setting) (x : Id) (e : Element) (f : ElementLevel) → f.fmid ≡ e.fmid
    → f.owned ≡ bytes_eq e.fmid (owner_of s x) → IsMaker s.choice x e.rmid f.rmid
    → Beside (λ n z m. IsMaker s.choice x z m) e.umids f.umids.items → IsElementLevel s x e (level_view f)
is_found s x e f fmid owned rmid umids = record {
  fmid = fmid;
  owned = owned;
  makers = beside_cons (λ z m. (m.id ≡ z) × IsRelation s.choice x z m.relation) e.rmid e.umids (maker_view f.rmid)
      (map maker_view f.umids.items) rmid
      (beside_map (λ z m. (m.id ≡ z) × IsRelation s.choice x z m.relation) maker_view e.umids f.umids.items umids);
}
