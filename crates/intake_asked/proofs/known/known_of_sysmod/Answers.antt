use Rattle.std.proofs.Common.{◌∙◌, ◌++◌, ◌∷◌, [], ap, sym, subst, refl, inl, inr}
use Rattle.terms.specs.Forms.{IsId}
use Rattle.intake_asked.specs.declared.known.KnownSysmod.{KnownSysmod}
use Rattle.intake_asked.proofs.known.known_of_sysmod.Goals as goal

pub returns-in_default : goal.returns-in_default
returns-in_default c =
    inl (
      c.new-known.ensures.items,
      λ id. let wrong = c.in_default.ensures.form.1 (subst IsId (sym c.as_slice.ensures.value) id) in cc,
    )

pub returns : goal.returns
returns c =
    let one : KnownSysmod = record {
      id = c.in-Some.id;
      kind = c.args.stated.now.kind;
      sources = c.in_ok-sources.sources;
    } in
    inr (
      one,
      c.in_ok-push.ensures.items ∙ ap (λ l. l ++ one ∷ []) c.new-known.ensures.items,
      c.in-Some.ensures.same ∙ c.as_slice.ensures.value,
      refl,
    )
