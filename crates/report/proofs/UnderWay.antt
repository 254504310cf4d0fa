-- Texts of which a front was print on a page, as a loop over an iterator puts them.
use Rattle.std.proofs.Common.{◌≡◌, ℕ, List, [], ◌++◌, Bool, sym, ◌∙◌, ap, append_assoc, append-nil}
use Rattle.report.specs.declared.sink.Sink.{Ghosts}
use Rattle.report.specs.declared.page.Page.{Page}
use Rattle.report.specs.Paged.{Held, OnPage, held}
use Rattle.report.proofs.Paging.{paged_then, paged_as, paged_nothing}

-- what stands before the rest was print
pub record IsUnderWay (a : Held) (f : Bool) (b : Held) (g : Bool) (text rest : List ℕ) : Type 0 where
  pub front : List ℕ
  pub text_is : text ≡ front ++ rest
  pub paged : OnPage a f b g front

-- the same of a page, before and after
abbrev pub UnderWay : {W : Type 0} → Ghosts W → Page W → Page W → List ℕ → List ℕ → Type 0
UnderWay g old new text rest =
    IsUnderWay (held g old) (g.has_failed old.sink.now) (held g new) (g.has_failed new.sink.now) text rest

pub under_way_first : (a : Held) (f : Bool) (text rest : List ℕ) → text ≡ rest → IsUnderWay a f a f text rest
under_way_first a f text rest is = record { front = []; text_is = is; paged = paged_nothing a f }

pub under_way_more : (a : Held) (f : Bool) (b : Held) (g : Bool) (c : Held) (h : Bool) (text rest next back : List ℕ)
    → IsUnderWay a f b g text rest → rest ≡ next ++ back → OnPage b g c h next → IsUnderWay a f c h text back
under_way_more a f b g c h text rest next back u rest_is print = record {
  front = u.front ++ next;
  text_is = u.text_is ∙ ap (λ r. u.front ++ r) rest_is ∙ sym (append_assoc u.front next back);
  paged = paged_then a f b g c h u.front next u.paged print;
}

pub under_way_last : (a : Held) (f : Bool) (b : Held) (g : Bool) (text rest : List ℕ)
    → IsUnderWay a f b g text rest → rest ≡ [] → OnPage a f b g text
under_way_last a f b g text rest u rest_is =
    paged_as a f b g u.front text (sym (u.text_is ∙ ap (λ r. u.front ++ r) rest_is ∙ append-nil u.front)) u.paged
