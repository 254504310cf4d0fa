use Rattle.stream.proofs.keeping.has_requisites_of.Goals as goal

pub returns : goal.returns
returns c on = record {
  fmid = c.have_one_fmid.ensures.0 c.if-not-have_one_fmid.false;
  pre = c.has_pres_of.ensures c.if-not-has_pres_of.false;
  sup = c.has_sups_of.ensures on;
}
