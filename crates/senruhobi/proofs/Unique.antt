-- Two results that one contract allows are equal: an entry for each door.
-- Assumes nothing.
use mathlib.Core.Path.{refl, ap}
use mathlib.Core.List.{List}
use Prim.Native.Nat.{ℕ}
use lib.IntN.{ℤ}
use Rattle.refusals.specs.One.{One, answers, leaves}
use Rattle.senruhobi.specs.contracts as contracts
use Rattle.senruhobi.proofs as senruhobi

pub senruhobi_long_sine : One contracts.senruhobi_long_sine.ended senruhobi.senruhobi_long_sine.Reads.Asked senruhobi.senruhobi_long_sine.Reads.Learnt
senruhobi_long_sine = answers (λ κs a v w. refl)

pub senruhobi_long_sine_half : One contracts.senruhobi_long_sine_half.ended senruhobi.senruhobi_long_sine_half.Reads.Asked senruhobi.senruhobi_long_sine_half.Reads.Learnt
senruhobi_long_sine_half = answers (λ κs a v w. refl)

pub senruhobi_short_sine : One contracts.senruhobi_short_sine.ended senruhobi.senruhobi_short_sine.Reads.Asked senruhobi.senruhobi_short_sine.Reads.Learnt
senruhobi_short_sine = answers (λ κs a v w. refl)

pub senruhobi_cylindrical : One contracts.senruhobi_cylindrical.ended senruhobi.senruhobi_cylindrical.Reads.Asked senruhobi.senruhobi_cylindrical.Reads.Learnt
senruhobi_cylindrical = answers (λ κs a v w. refl)

pub senruhobi_sinusoidal : One contracts.senruhobi_sinusoidal.ended senruhobi.senruhobi_sinusoidal.Reads.Asked senruhobi.senruhobi_sinusoidal.Reads.Learnt
senruhobi_sinusoidal = answers (λ κs a v w. refl)

pub senruhobi_cylindrical_back : One contracts.senruhobi_cylindrical_back.ended senruhobi.senruhobi_cylindrical_back.Reads.Asked senruhobi.senruhobi_cylindrical_back.Reads.Learnt
senruhobi_cylindrical_back = answers (λ κs a v w. refl)

pub senruhobi_sinusoidal_back : One contracts.senruhobi_sinusoidal_back.ended senruhobi.senruhobi_sinusoidal_back.Reads.Asked senruhobi.senruhobi_sinusoidal_back.Reads.Learnt
senruhobi_sinusoidal_back = answers (λ κs a v w. refl)

pub senruhobi_leg : One contracts.senruhobi_leg.ended senruhobi.senruhobi_leg.Reads.Asked senruhobi.senruhobi_leg.Reads.Learnt
senruhobi_leg = answers (λ κs a v w. refl)

pub senruhobi_course : One contracts.senruhobi_course.ended senruhobi.senruhobi_course.Reads.Asked senruhobi.senruhobi_course.Reads.Learnt
senruhobi_course = answers (λ κs a v w. refl)

pub senruhobi_root_steps : One contracts.senruhobi_root_steps.ended senruhobi.senruhobi_root_steps.Reads.Asked senruhobi.senruhobi_root_steps.Reads.Learnt
senruhobi_root_steps = answers (λ κs a v w. refl)

pub senruhobi_measure : One contracts.senruhobi_measure.ended senruhobi.senruhobi_measure.Reads.Asked senruhobi.senruhobi_measure.Reads.Learnt
senruhobi_measure = answers (λ κs a v w. refl)

pub senruhobi_target_met : One contracts.senruhobi_target_met.ended senruhobi.senruhobi_target_met.Reads.Asked senruhobi.senruhobi_target_met.Reads.Learnt
senruhobi_target_met = answers (λ κs a v w. refl)

pub senruhobi_read_route : One contracts.senruhobi_read_route.ended senruhobi.senruhobi_read_route.Reads.Asked senruhobi.senruhobi_read_route.Reads.Learnt
senruhobi_read_route = leaves (λ κs a v w p. ap (λ (l : List ℤ). (tt, (l, tt))) p)

pub senruhobi_route_size : One contracts.senruhobi_route_size.ended senruhobi.senruhobi_route_size.Reads.Asked senruhobi.senruhobi_route_size.Reads.Learnt
senruhobi_route_size = answers (λ κs a v w. refl)

pub senruhobi_write_route : One contracts.senruhobi_write_route.ended senruhobi.senruhobi_write_route.Reads.Asked senruhobi.senruhobi_write_route.Reads.Learnt
senruhobi_write_route = leaves (λ κs a v w p. ap (λ (l : List ℕ). (tt, (tt, (tt, (tt, (l, (tt, tt))))))) p)

pub senruhobi_pen_step : One contracts.senruhobi_pen_step.ended senruhobi.senruhobi_pen_step.Reads.Asked senruhobi.senruhobi_pen_step.Reads.Learnt
senruhobi_pen_step = answers (λ κs a v w. refl)
