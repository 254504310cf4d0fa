-- The texts of elements by their types.
use Rattle.std.proofs.Common.{◌≡◌, subst, sym}
use Rattle.terms.specs.declared.kinds.ElemType.{ElemType}
use Rattle.terms.specs.declared.kinds.ElemType.TheVariants.{Mac, Src, Clist, Data, Exec, Parm, Proc}
use Rattle.terms.specs.declared.text_faults.TextFault.{TextFault}
use Rattle.terms.specs.Types.{Lines}
use Rattle.terms.specs.Texts.{IsNumbered, IsNumberedFault}
use Rattle.terms.proofs.Updates.{numbered_no_fault}
use Rattle.store_schema.specs.Forms.{AreRecords, IsTextOf, TakesUpdates}
use Rattle.store_schema.specs.Rows.{records}
use Rattle.store_schema.proofs.OneState.{are_records}
use Rattle.store_schema.proofs.Spelled.{text_same}

pub numbered_text : (type : ElemType) (lines : Lines) → AreRecords lines → IsNumbered lines → IsTextOf type lines
numbered_text Mac lines h n = (h, n)
numbered_text Src lines h n = (h, n)
numbered_text Clist lines h n = h
numbered_text Data lines h n = h
numbered_text Exec lines h n = h
numbered_text Parm lines h n = h
numbered_text Proc lines h n = h

pub free_text : (type : ElemType) (lines : Lines) → ¬ TakesUpdates type → AreRecords lines → IsTextOf type lines
free_text Mac lines free h = absurd (free tt)
free_text Src lines free h = absurd (free tt)
free_text Clist lines free h = h
free_text Data lines free h = h
free_text Exec lines free h = h
free_text Parm lines free h = h
free_text Proc lines free h = h

text_numbered : (type : ElemType) (lines : Lines) → TakesUpdates type → IsTextOf type lines → IsNumbered lines
text_numbered Mac lines numbered h = h.1
text_numbered Src lines numbered h = h.1
text_numbered Clist lines numbered h = absurd numbered
text_numbered Data lines numbered h = absurd numbered
text_numbered Exec lines numbered h = absurd numbered
text_numbered Parm lines numbered h = absurd numbered
text_numbered Proc lines numbered h = absurd numbered

-- records with a fault are no text of a type whose texts are numbered
pub no_text : (type : ElemType) (lines other : Lines) (fault : TextFault) → TakesUpdates type → AreRecords lines
    → IsNumberedFault lines fault → IsTextOf type other → ¬ (records lines ≡ records other)
no_text type lines other fault numbered own at_fault text same =
    let is : lines ≡ other = text_same lines other own (are_records type other text) same in
    numbered_no_fault lines fault (subst IsNumbered (sym is) (text_numbered type other numbered text)) at_fault
