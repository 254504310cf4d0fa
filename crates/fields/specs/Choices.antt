-- What commands choose, as the definitions see it.
use Rattle.std.specs.Prelude.{false, []}
use Rattle.terms.specs.Types as terms
use Rattle.fields.specs.declared.bypass.Reasons.{Reasons}
use Rattle.fields.specs.declared.bypass.Reasons.TheVariants.{None, Any, These}
use Rattle.fields.specs.declared.selections.RestoreList.{RestoreList}
use Rattle.fields.specs.declared.selections.RestoreList.TheVariants.{Select, Group}

abbrev pub reasons_in : Reasons → terms.Reasons
reasons_in None = terms.NoReason
reasons_in Any = terms.AnyReason
reasons_in (These reasons) = terms.TheseReasons reasons

abbrev pub restore_list_of : RestoreList → terms.RestoreList
restore_list_of (Select ids) = terms.RestoreSelect ids
restore_list_of (Group ids) = terms.RestoreGroup ids

-- no operand
abbrev pub no_selection : terms.Selection
no_selection = record {
  functions = false;
  ptfs = false;
  apars = false;
  usermods = false;
  select = [];
  exclude = [];
  sourceid = [];
  forfmid = [];
  group = [];
  groupextend = false;
}
