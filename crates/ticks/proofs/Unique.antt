-- Two results that one contract allows are equal: an entry for each function of this crate that others can call.
-- Assumes nothing.
use mathlib.Core.Path.{refl}
use Rattle.refusals.specs.One.{One, answers}
use Rattle.ticks.specs.contracts as contracts
use Rattle.ticks.proofs as ticks

pub is_latitude : One contracts.is_latitude.ended ticks.is_latitude.Reads.Asked ticks.is_latitude.Reads.Learnt
is_latitude = answers (λ κs a v w. refl)

pub is_longitude : One contracts.is_longitude.ended ticks.is_longitude.Reads.Asked ticks.is_longitude.Reads.Learnt
is_longitude = answers (λ κs a v w. refl)

pub is_angle : One contracts.is_angle.ended ticks.is_angle.Reads.Asked ticks.is_angle.Reads.Learnt
is_angle = answers (λ κs a v w. refl)

pub into_turn : One contracts.into_turn.ended ticks.into_turn.Reads.Asked ticks.into_turn.Reads.Learnt
into_turn = answers (λ κs a v w. refl)

pub offset : One contracts.offset.ended ticks.offset.Reads.Asked ticks.offset.Reads.Learnt
offset = answers (λ κs a v w. refl)

pub fold : One contracts.fold.ended ticks.fold.Reads.Asked ticks.fold.Reads.Learnt
fold = answers (λ κs a v w. refl)

pub check_point : One contracts.check_point.ended ticks.check_point.Reads.Asked ticks.check_point.Reads.Learnt
check_point = answers (λ κs a v w. refl)

pub check_sheet : One contracts.check_sheet.ended ticks.check_sheet.Reads.Asked ticks.check_sheet.Reads.Learnt
check_sheet = answers (λ κs a v w. refl)
