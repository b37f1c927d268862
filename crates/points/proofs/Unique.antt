-- Two results that one contract allows are equal: an entry for each function of this crate that others can call.
-- Assumes nothing.
use mathlib.Core.Path.{refl, sym, ap, ◌∙◌}
use mathlib.Core.List.{List}
use lib.IntN.{ℤ}
use Rattle.refusals.specs.One.{One, answers}
use Rattle.points.specs.contracts as contracts
use Rattle.points.proofs as points

pub count : One contracts.count.ended points.count.Reads.Asked points.count.Reads.Learnt
count = answers (λ κs a v w. refl)

pub latitude : One contracts.latitude.ended points.latitude.Reads.Asked points.latitude.Reads.Learnt
latitude = answers (λ κs a v w. refl)

pub longitude : One contracts.longitude.ended points.longitude.Reads.Asked points.longitude.Reads.Learnt
longitude = answers (λ κs a v w. refl)

pub third : One contracts.third.ended points.third.Reads.Asked points.third.Reads.Learnt
third = answers (λ κs a v w. refl)

-- it answers nothing, and its one clause is about the buffer
pub put : One contracts.put.ended points.put.Reads.Asked points.put.Reads.Learnt
put = record { always = λ κs a. tt; one = λ κs a x y v w p q. (refl, ap (λ (l : List ℤ). (l, (tt, (tt, (tt, (tt, tt)))))) (p ∙ sym q)) }

pub check_buffer : One contracts.check_buffer.ended points.check_buffer.Reads.Asked points.check_buffer.Reads.Learnt
check_buffer = answers (λ κs a v w. refl)

pub new : One contracts.Points.new.ended points.Points.new.Reads.Asked points.Points.new.Reads.Learnt
new = answers (λ κs a v w. refl)

-- beside the number each contract tells what holds of every accepted buffer
pub points_count : One contracts.Points.count.ended points.Points.count.Reads.Asked points.Points.count.Reads.Learnt
points_count = record { always = λ κs a. tt; one = λ κs a x y v w p q. (p.0 ∙ sym q.0, refl) }

pub points_latitude : One contracts.Points.latitude.ended points.Points.latitude.Reads.Asked points.Points.latitude.Reads.Learnt
points_latitude = record { always = λ κs a. tt; one = λ κs a x y v w p q. (p.0 ∙ sym q.0, refl) }

pub points_longitude : One contracts.Points.longitude.ended points.Points.longitude.Reads.Asked points.Points.longitude.Reads.Learnt
points_longitude = record { always = λ κs a. tt; one = λ κs a x y v w p q. (p.0 ∙ sym q.0, refl) }

pub points_third : One contracts.Points.third.ended points.Points.third.Reads.Asked points.Points.third.Reads.Learnt
points_third = record { always = λ κs a. tt; one = λ κs a x y v w p q. (p.0 ∙ sym q.0, refl) }
