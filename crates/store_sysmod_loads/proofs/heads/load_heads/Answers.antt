use Rattle.std.proofs.Common.{◌≡◌, ◌≢◌, ◌⊎◌, inl, inr, List, map}
use Rattle.std.specs.List.{AllByRecursion}
use Rattle.store_rows.proofs.InsideLemmas.{if_ok}
use Rattle.store_schema.specs.declared.schema.Schema.{Schema}
use Rattle.store_schema.specs.declared.schema.Schema.TheVariants.{First, Second, Third}
use Rattle.store_sysmods.specs.declared.head.HeadRow.{HeadRow}
use Rattle.store_sysmods.specs.Heads.{HasHeadForms, HasFormsUnder}
use Rattle.store_sysmod_loads.specs.Flats.{head_of}
use Rattle.store_sysmod_loads.specs.Gathered.{HoldHeads}
use Rattle.store_sysmod_loads.specs.Parts.{LoadsPart}
use Rattle.store_sysmod_loads.proofs.FlatLemmas.{rows_of_heads}
use Rattle.store_sysmod_loads.proofs.RiseLemmas.{heads_rise}
use Rattle.store_sysmod_loads.proofs.heads.load_heads.Given.{Over}
use Rattle.store_sysmod_loads.proofs.heads.load_heads.Goals.{After-load_sorted}
use Rattle.store_sysmod_loads.proofs.heads.load_heads.Goals as goal

-- the rows of heads under schema 1
first_heads : (g : Over) (c : After-load_sorted g) → LoadsPart g.S.Store First
    (λ heads contents. HoldHeads First heads.items contents) (λ heads sysmods. heads.items ≡ map head_of sysmods)
    c.args.conn.now c.load_sorted.new.conn c.load_sorted.result
first_heads g c = record {
  found = λ clean contents was. c.load_sorted.ensures.found clean First tt contents was;
  only = λ clean contents was ss formed rows.
      if_ok c.load_sorted.result _ _ (λ heads only.
      only (map head_of ss) formed.heads (heads_rise ss formed.whole) (rw (rows_of_heads ss) rows.heads))
      (c.load_sorted.ensures.only clean First tt contents was);
  none = λ clean bad contents was ss formed rows.
      c.load_sorted.ensures.none clean bad First tt contents was (map head_of ss) formed.heads
      (rw (rows_of_heads ss) rows.heads);
  reads = c.load_sorted.ensures.reads First tt;
}

pub returns-in-First-clause-part : goal.returns-in-First-clause-part
returns-in-First-clause-part g c =
    rw c.in-First.is (first_heads g (goal.at.returns-in-First-clause-part g c).After-load_sorted)

pub returns-in-First-clause-forms : goal.returns-in-First-clause-forms
returns-in-First-clause-forms g c = rw c.in-First.is c.load_sorted.ensures.forms

later : (r : Schema) → (r ≡ Second) ⊎ (r ≡ Third) → r ≢ First
later First (inl is) e = absurd cc
later First (inr is) e = absurd cc
later Second is e = absurd cc
later Third is e = absurd cc

formed : (r : Schema) → (r ≡ Second) ⊎ (r ≡ Third) → (heads : List HeadRow) → AllByRecursion HasHeadForms heads
    → AllByRecursion (HasFormsUnder r) heads
formed First (inl is) heads forms = absurd cc
formed First (inr is) heads forms = absurd cc
formed Second is heads forms = forms
formed Third is heads forms = forms

pub returns-in-Second-clause-part : goal.returns-in-Second-clause-part
returns-in-Second-clause-part g c =
    let r = c.args.schema in
    c.load_and_join_heads.ensures.part r (later r c.in-Second.is)

pub returns-in-Second-clause-forms : goal.returns-in-Second-clause-forms
returns-in-Second-clause-forms g c =
    if_ok c.load_and_join_heads.result _ _ (λ heads forms. formed c.args.schema c.in-Second.is heads.items forms)
    c.load_and_join_heads.ensures.forms
