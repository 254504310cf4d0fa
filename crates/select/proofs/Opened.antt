-- What is known of a SYSMOD that is open.
use Rattle.std.proofs.Common.{◌≡◌, Bool, true, not, ◌&&◌, is_some}
use Rattle.std.proofs.lemmas.Bool.{and_parts}
use Rattle.terms.specs.Types.{Id}
use Rattle.terms.specs.Lookups.{is_in, is_supplied, delby_of}
use Rattle.sysmods.specs.Choices.{has_ver}
use Rattle.select.specs.Scopes.{Selecting, is_installable_in, is_open_in}

-- it has a ++VER, and is installable
pub record OpenParts (scope : Selecting) (x : Id) : Type 0 where
  pub ver : has_ver scope.global scope.zone.srel x ≡ true
  pub installable : is_installable_in scope x ≡ true

pub open_parts : (scope : Selecting) (x : Id) → is_open_in scope x ≡ true → OpenParts scope x
open_parts scope x opened =
    let has : Bool = has_ver scope.global scope.zone.srel x in
    let whole = and_parts (is_installable_in scope x) (not (is_in scope.selection.exclude x)) opened in
    let kept = and_parts (has && not (is_supplied scope.zone x)) (not (is_some (delby_of scope.zone x))) whole.0 in
    record {
      ver = (and_parts has (not (is_supplied scope.zone x)) kept.0).0;
      installable = whole.0;
    }
