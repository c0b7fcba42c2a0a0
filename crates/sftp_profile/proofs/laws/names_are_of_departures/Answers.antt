use Rattle.std.proofs.Common.{◌≡◌, Some, refl}
use Rattle.sftp_profile.specs.declared.names.Departure.{Departure}
use Rattle.sftp_profile.specs.declared.names.Departure.TheVariants.{Codes}
use Rattle.sftp_profile.specs.Profiles.{name_of, departure_of}
use Rattle.sftp_profile.proofs.laws.names_are_of_departures.Goals as goal

found : (departure : Departure) → departure_of (name_of departure) ≡ Some departure
unfolding departure_of
found Codes = refl
found _ = refl

pub returns-clause-found : goal.returns-clause-found
returns-clause-found c departure = found departure
