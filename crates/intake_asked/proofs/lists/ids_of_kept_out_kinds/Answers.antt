use Rattle.std.proofs.Common.{◌∙◌, ◌∷◌, [], Bool, sym, ap, map, filter, take, arith}
use Rattle.std.proofs.lemmas.List.{take_all, map-append}
use Rattle.intake_asked.specs.declared.known.KnownSysmod.{KnownSysmod}
use Rattle.intake_asked.specs.Words.{is_kept_out}
use Rattle.intake_asked.proofs.Passing.{keeps_next, skips_next, more_found}
use Rattle.intake_asked.proofs.lists.ids_of_kept_out_kinds.Goals as goal

pub loop-sysmod-preserved-then-not-is_kind_kept_out : goal.loop-sysmod-preserved-then-not-is_kind_kept_out
loop-sysmod-preserved-then-not-is_kind_kept_out c =
    let l = c.loop-sysmod in
    let p : KnownSysmod → Bool = λ k. is_kept_out (map (λ m. m.now) c.args.members.now) k.kind in
    l.invariant ∙ ap (map (λ (k : KnownSysmod). k.id)) (sym (skips_next p c.args.known.now l.sysmod-index
    c.sysmod-item.result (omega arith) c.sysmod-item.is
    (sym c.is_kind_kept_out.ensures ∙ c.if-not-is_kind_kept_out.true)))

pub loop-sysmod-preserved : goal.loop-sysmod-preserved
loop-sysmod-preserved c =
    let l = c.loop-sysmod in
    let p : KnownSysmod → Bool = λ k. is_kept_out (map (λ m. m.now) c.args.members.now) k.kind in
    let k = c.sysmod-item.result in
    more_found (λ q. q.now) c.push.new.self.items l.ids.items (c.as_bytes.result ∷ []) _ _ (k.id ∷ [])
    c.in_ok-push.ensures.items l.invariant (ap (λ t. t ∷ []) c.as_bytes.ensures.same)
    (ap (map (λ (k : KnownSysmod). k.id)) (keeps_next p c.args.known.now l.sysmod-index k (omega arith)
    c.sysmod-item.is (sym c.is_kind_kept_out.ensures ∙ c.if-not-is_kind_kept_out.false))
    ∙ map-append (λ (k : KnownSysmod). k.id) (filter p (take l.sysmod-index c.args.known.now)) (k ∷ []))

pub returns : goal.returns
returns c =
    let p : KnownSysmod → Bool = λ k. is_kept_out (map (λ m. m.now) c.args.members.now) k.kind in
    c.loop-sysmod.invariant ∙ ap (λ ks. map (λ (k : KnownSysmod). k.id) (filter p ks))
    (take_all c.loop-sysmod.sysmod-index c.args.known.now (omega arith))
