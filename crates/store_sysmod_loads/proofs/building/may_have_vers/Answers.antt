use Rattle.store_sysmod_loads.proofs.building.may_have_vers.Goals as goal

pub returns-then-all_suit_kind : goal.returns-then-all_suit_kind
returns-then-all_suit_kind c = (
  λ apart. (c.all_suit_kind.ensures.0 c.if-all_suit_kind.true, c.each_may_follow_earlier.ensures.0 apart),
  λ h. c.each_may_follow_earlier.ensures.1 h.1,
)
