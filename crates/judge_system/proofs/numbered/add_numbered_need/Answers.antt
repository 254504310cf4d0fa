use Rattle.std.proofs.lemmas.Option.{slice_get_within}
use Rattle.judge_system.proofs.numbered.add_numbered_need.Goals as goal

pub returns : goal.returns
returns c =
    let of = c.own_place-of.result in
    let any = c.in_ok-any.ensures in
    record {
      numbered = record { of = of; any = c.in_ok-any.any.items };
      for = record {
        of = c.own_place-of.ensures;
        any = any.places;
        admitted = record {
          of = slice_get_within c.args.ids.now.keys of c.args.need.of c.own_place-of.ensures;
          any = any.below;
          rising = any.rising;
        };
      };
      system = c.in_ok-add_need.ensures.ok;
    }
