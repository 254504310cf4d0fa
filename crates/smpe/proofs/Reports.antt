-- What a sink took of a report, by whether it has failed.
use Rattle.std.proofs.Common.{◌≡◌, ℕ, Bool, true, false, List, [], Option, None, Some, refl, sym, ◌∙◌, append-nil}
use Rattle.std.specs.Io.KnownBytes.{Appends, Keeps}
use Rattle.report.specs.Sent.{Sends, WrotePart}

appends_none : (a b : Option (List ℕ)) → Keeps a b → Appends a b []
appends_none None b keeps = tt
appends_none (Some xs) None keeps = absurd keeps
appends_none (Some xs) (Some ys) keeps = keeps ∙ sym (append-nil xs)

-- all of it, where the sink has not failed
pub sent_all : (a b : Option (List ℕ)) (failed failed' : Bool) (text : List ℕ) → Sends a failed b failed' text
    → failed' ≡ false → Appends a b text
sent_all a b false false text sends is = sends
sent_all a b false true text sends is = cc
sent_all a b true failed' text sends is = let e = sends.0 in cc

-- a beginning, where it has
pub sent_part : (a b : Option (List ℕ)) (failed failed' : Bool) (text : List ℕ) → Sends a failed b failed' text
    → failed' ≡ true → WrotePart a b text
sent_part a b false false text sends is = cc
sent_part a b false true text sends is = sends
sent_part a b true failed' text sends is = record {
  piece = [];
  lost = text;
  text_is = refl;
  bytes = appends_none a b sends.1;
}
