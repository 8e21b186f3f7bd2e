-- What the readers of a SID answer.
use Rattle.std.specs.Prelude.{List, ℕ, Result, Ok, Err}
use Rattle.std.specs.Prelude as std
use Rattle.std.proofs.Math.Option.{Option, none, some}
use Rattle.grammar.specs.Refusals.{not_sid, no_forwarding}
use Rattle.features.specs.declared.FeatureSet.{FeatureSet}
use Rattle.sid.specs.declared.NoPartner.{NoPartner}

-- The features that a line says as a SID, or that it is none.
abbrev pub features_said : std.Option FeatureSet → Option (List ℕ)
features_said (std.Some f) = some f.levels
features_said std.None = none

-- "first line isn't a valid SID": 3; "partner's SID has no F": 4
abbrev pub no_partner_number : NoPartner → ℕ
no_partner_number NoPartner.NotASid = not_sid
no_partner_number (NoPartner.NoForwarding f) = no_forwarding

-- 01's number, 0 where the session goes on.
abbrev pub number_said : Result FeatureSet NoPartner → ℕ
number_said (Ok f) = 0
number_said (Err e) = no_partner_number e

-- The features that the line says: those of a SID without F too.
abbrev pub features_answered : Result FeatureSet NoPartner → Option (List ℕ)
features_answered (Ok f) = some f.levels
features_answered (Err NoPartner.NotASid) = none
features_answered (Err (NoPartner.NoForwarding f)) = some f.levels
