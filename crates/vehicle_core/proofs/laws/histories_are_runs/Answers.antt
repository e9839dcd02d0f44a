-- Histories are runs.
use Rattle.vehicle_core.proofs.Histories.{history_leads}
use Rattle.vehicle_core.proofs.laws.histories_are_runs.Goals as goal

pub returns : goal.returns
returns g c rules s new ls history t tells run = history_leads rules s ls history new t tells run
