-- Two results that one contract allows are equal: an entry for each function of this crate that others can call.
-- Assumes nothing.
use mathlib.Core.Path.{refl}
use Rattle.refusals.specs.One.{One, answers}
use Rattle.globe.specs.contracts as contracts
use Rattle.globe.proofs as globe

pub long_sine : One contracts.long_sine.ended globe.long_sine.Reads.Asked globe.long_sine.Reads.Learnt
long_sine = answers (λ κs a v w. refl)

pub long_sine_half : One contracts.long_sine_half.ended globe.long_sine_half.Reads.Asked globe.long_sine_half.Reads.Learnt
long_sine_half = answers (λ κs a v w. refl)

pub short_sine : One contracts.short_sine.ended globe.short_sine.Reads.Asked globe.short_sine.Reads.Learnt
short_sine = answers (λ κs a v w. refl)

pub cylindrical : One contracts.cylindrical.ended globe.cylindrical.Reads.Asked globe.cylindrical.Reads.Learnt
cylindrical = answers (λ κs a v w. refl)

pub sinusoidal : One contracts.sinusoidal.ended globe.sinusoidal.Reads.Asked globe.sinusoidal.Reads.Learnt
sinusoidal = answers (λ κs a v w. refl)

pub cylindrical_back : One contracts.cylindrical_back.ended globe.cylindrical_back.Reads.Asked globe.cylindrical_back.Reads.Learnt
cylindrical_back = answers (λ κs a v w. refl)

pub sinusoidal_back : One contracts.sinusoidal_back.ended globe.sinusoidal_back.Reads.Asked globe.sinusoidal_back.Reads.Learnt
sinusoidal_back = answers (λ κs a v w. refl)

pub leg : One contracts.leg.ended globe.leg.Reads.Asked globe.leg.Reads.Learnt
leg = answers (λ κs a v w. refl)

pub course : One contracts.course.ended globe.course.Reads.Asked globe.course.Reads.Learnt
course = answers (λ κs a v w. refl)

pub measure : One contracts.measure.ended globe.measure.Reads.Asked globe.measure.Reads.Learnt
measure = answers (λ κs a v w. refl)

pub target_met : One contracts.target_met.ended globe.target_met.Reads.Asked globe.target_met.Reads.Learnt
target_met = answers (λ κs a v w. refl)
