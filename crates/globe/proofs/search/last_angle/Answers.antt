-- `globe::search::last_angle` meets its contract: from the last half tick. Assumes nothing.
use Rattle.sines.proofs.BackLaws.{whole_ticks}
use Rattle.globe.proofs.search.last_angle.Goals as goal

pub returns : goal.returns
returns c = whole_ticks c.last_half.ensures
