use Rattle.theory.proofs.Values.{groups_round_trip}
use Rattle.theory.proofs.groups_round_trip.Goals as goal

pub returns : goal.returns
returns c = groups_round_trip
