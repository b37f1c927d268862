use Rattle.std.proofs.Common.{◌≡◌, ap, ◌∙◌, pos, ◌*ℤ◌, w64, to_z, of_z}
use mir.Facts.{to_z-of_z}
use Rattle.signed.specs.Machine.{kept}
use Rattle.ticks.specs.Ticks.{offset_of}
use Rattle.globe.specs.Angle.{short_cosine, short_around}
use Rattle.globe.specs.Course.{over, offset_cosine, northward}
use Rattle.globe.proofs.CourseLaws.{offset_angle, offset_cosine_top, back_top, north_fits}
use Rattle.globe.proofs.accepted.Leg.northward.Goals as goal
use Rattle.globe.proofs.accepted.Leg.northward.Goals.{After-scaled-rise, After-scaled-back, After-cosine-3, After-scaled, Start}

-- what each callee answers, of what came in
rise_at : (c : After-scaled-rise)
    → to_z w64 (of_z w64 c.scaled-rise.result) ≡ over (pos (short_cosine c.args.self.start.latitude.ticks) *ℤ short_around c.args.self.end.latitude.ticks)
rise_at c =
    let cosine_at = kept w64 c.cosine.result c.cosine.type_inv ∙ c.cosine.ensures in
    let sine_at = kept w64 c.sine.result c.sine.type_inv ∙ c.sine.ensures in
    kept w64 c.scaled-rise.result c.scaled-rise.type_inv ∙ c.scaled-rise.ensures ∙ rw (cosine_at, sine_at)

back_at : (c : After-scaled-back)
    → to_z w64 (of_z w64 c.scaled-back.result) ≡ over (short_around c.args.self.start.latitude.ticks *ℤ pos (short_cosine c.args.self.end.latitude.ticks))
back_at c =
    let sine_at = kept w64 c.sine-2.result c.sine-2.type_inv ∙ c.sine-2.ensures in
    let cosine_at = kept w64 c.cosine-2.result c.cosine-2.type_inv ∙ c.cosine-2.ensures in
    kept w64 c.scaled-back.result c.scaled-back.type_inv ∙ c.scaled-back.ensures ∙ rw (sine_at, cosine_at)

around_at : (c : After-cosine-3)
    → to_z w64 (of_z w64 c.cosine-3.result) ≡ offset_cosine (offset_of c.args.self.end.longitude c.args.self.start.longitude)
around_at c =
    kept w64 c.cosine-3.result c.cosine-3.type_inv ∙ c.cosine-3.ensures ∙ ap offset_cosine c.offset.ensures

less_at : (c : After-scaled)
    → let start = c.args.self.start in
    let end = c.args.self.end in
    let back = over (short_around start.latitude.ticks *ℤ pos (short_cosine end.latitude.ticks)) in
    let around = offset_cosine (offset_of end.longitude start.longitude) in
    to_z w64 (of_z w64 c.scaled-back.result) ≡ back → to_z w64 (of_z w64 c.cosine-3.result) ≡ around
    → to_z w64 (of_z w64 c.scaled.result) ≡ over (back *ℤ around)
less_at c back around = kept w64 c.scaled.result c.scaled.type_inv ∙ c.scaled.ensures ∙ rw (back, around)

pub scaled-requires-clause-a_bound : goal.scaled-requires-clause-a_bound
scaled-requires-clause-a_bound c =
    let start = c.args.self.start in
    let end = c.args.self.end in
    let offset = offset_of end.longitude start.longitude in
    rw (back_at (goal.at.scaled-requires-clause-a_bound c).After-scaled-back)
    (back_top start.latitude.ticks end.latitude.ticks offset start.latitude.in_range end.latitude.in_range (offset_angle start.longitude end.longitude start.in_range end.in_range))

pub scaled-requires-clause-b_bound : goal.scaled-requires-clause-b_bound
scaled-requires-clause-b_bound c =
    let start = c.args.self.start in
    let end = c.args.self.end in
    let offset = offset_of end.longitude start.longitude in
    rw (around_at c) (offset_cosine_top offset (offset_angle start.longitude end.longitude start.in_range end.in_range))

pub overflow_sub-result : goal.overflow_sub-result
unfolding northward
overflow_sub-result c =
    let at = goal.at.overflow_sub-result c in
    let start = c.args.self.start in
    let end = c.args.self.end in
    let offset = offset_of end.longitude start.longitude in
    rw (rise_at at.After-scaled-rise, less_at c (back_at at.After-scaled-back) (around_at at.After-cosine-3))
    (north_fits start.latitude.ticks end.latitude.ticks offset start.latitude.in_range end.latitude.in_range (offset_angle start.longitude end.longitude start.in_range end.in_range))

pub returns : goal.returns
unfolding northward
returns c =
    let at = goal.at.returns c in
    let start = c.args.self.start in
    let end = c.args.self.end in
    let offset = offset_of end.longitude start.longitude in
    rw (rise_at at.After-scaled-rise, less_at c (back_at at.After-scaled-back) (around_at at.After-cosine-3))
    (to_z-of_z (north_fits start.latitude.ticks end.latitude.ticks offset start.latitude.in_range end.latitude.in_range (offset_angle start.longitude end.longitude start.in_range end.in_range)))
