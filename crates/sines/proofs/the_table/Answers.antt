-- `sines::the_table` meets its contract: the static in the source is the table that the document describes. Assumes nothing.
use Rattle.std.proofs.Common.{refl}
use Rattle.sines.specs.Table.{sines, sines_from, rounded, sine_of_step, twice_cosine}
use Rattle.sines.proofs.the_table.Goals as goal

pub returns : goal.returns
unfolding sines sines_from rounded sine_of_step twice_cosine
returns c = refl
