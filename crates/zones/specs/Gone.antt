-- A zone less deletions: what they take out and what is left, by the values of the code.
use Rattle.std.specs.Prelude.{◌&&◌, ◌||◌, Bool, not, List, filter, is_some, if◌then◌else◌, []}
use Rattle.std.specs.List.{flat_map, list_any}
use Rattle.terms.specs.Types.{Id, IfReq, Entry, Zone}
use Rattle.terms.specs.Lookups.{is_applied, supby_of}
use Rattle.terms.specs.Deleted.{is_deleted, is_taken_out, zone_less}
use Rattle.terms.specs.Needs.{unwaived, binding_ids}
use Rattle.sysmods.specs.Choices.{choice}
use Rattle.zones.specs.declared.zone_less.ZoneLess.{ZoneLess}

-- the zone that is left
abbrev pub left_of : ZoneLess → Zone
left_of t = zone_less t.vers.now.global.now (choice t.vers.now) t.dels.now t.zone.now

-- whether its chain contains one of the deletions
abbrev pub is_cut : ZoneLess → Id → Bool
is_cut t = is_deleted t.vers.now.global.now (choice t.vers.now) t.dels.now

-- whether the deletions take it out
abbrev pub is_gone : ZoneLess → Id → Bool
is_gone t = is_taken_out t.vers.now.global.now (choice t.vers.now) t.dels.now t.zone.now

-- whether it is applied in what is left
abbrev pub stays : ZoneLess → Id → Bool
stays t = is_applied (left_of t)

-- whether the deletions take out the id or an applied SYSMOD that supersedes it
abbrev pub loses : ZoneLess → Id → Bool
loses t z = is_gone t z || list_any (is_gone t) (supby_of t.zone.now z)

-- the ids of the ++IFs whose function stays, less what the function waives
abbrev pub by_ifs : ZoneLess → List IfReq → List Id
by_ifs t ifs = flat_map (λ i. if stays t i.function then unwaived t.zone.now i.function i.req else []) ifs

-- the requisites that bind the SYSMOD
abbrev pub binding_of : ZoneLess → Id → List Id
binding_of t = binding_ids (choice t.vers.now) t.zone.now (stays t)

-- what these entries' SYSMODs lose, if they stay applied
abbrev pub lost_by : ZoneLess → List Entry → List Id
lost_by t es = flat_map
    (λ e. if is_some e.applied && not (is_gone t e.id) then filter (loses t) (binding_of t e.id) else []) es
