use Rattle.std.proofs.Common.{IsTrue, IfSome}
use Rattle.std.specs.Ordering.{nat_cmp}
use Rattle.std.specs.Cmp.Lexicographic.{slice_cmp}
use Rattle.sorted.specs.declared.edits.Edit.{Edit}
use Rattle.sorted.specs.declared.edits.Edit.TheVariants.{Remove}
use Rattle.terms.specs.Types.{Id, Entry}
use Rattle.terms.specs.Lookups.{has_content, waives_applied}
use Rattle.sorted.specs.Edits.{edit_key, edit_put}
use Rattle.std.proofs.lemmas.Cmp.{nat_list_cmp_total}
use Rattle.terms.proofs.Placing.{All_with_item, Rises_with_item}
use Rattle.zones_maps.proofs.edits.ZoneEdits.remove_entry.Goals as goal

pub invariant_of-self-2 : goal.invariant_of-self-2
invariant_of-self-2 c =
    let held : Edit Entry Id → Type 0 = λ d. IfSome (edit_put d) (λ e. IsTrue (has_content e)) in
    let waived : Edit Entry Id → Type 0 = λ d. IfSome (edit_put d) (λ e. IsTrue (waives_applied e)) in
    rw c.in_ok-put.ensures.ok (
    record {
      entries = Rises_with_item nat_list_cmp_total (edit_key (λ e. e.id)) c.self.inside.entries (Remove c.args.id)
          c.self.invariant.entries;
      held = All_with_item (slice_cmp nat_cmp) (edit_key (λ e. e.id)) held c.self.inside.entries (Remove c.args.id)
          c.self.invariant.held tt;
      waived = All_with_item (slice_cmp nat_cmp) (edit_key (λ e. e.id)) waived c.self.inside.entries
          (Remove c.args.id) c.self.invariant.waived tt;
      elements = c.self.invariant.elements;
    }
    )
