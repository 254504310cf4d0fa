use Rattle.std.proofs.lemmas.Result.{IfOk-weaker}
use Rattle.intake_holds.proofs.placed.items_in_order.Goals as goal

pub returns : goal.returns
returns c =
    IfOk-weaker c.without_places.result _ _ (λ items are. record {
      ordered = c.sort_by_place.result.items;
      same = c.sort_by_place.ensures.same;
      rising = c.sort_by_place.ensures.rising;
      items_are = are;
    }) c.without_places.ensures
