-- A sum with c is b exactly if b's difference from a is c.
use mathlib.Core.Path.{◌≡◌}
use mir.Syntax.{w32}
use mir.ValLaws.{to_z-of_z}
use Rattle.model.specs.Network.{secs, after, same_time}
use Rattle.memory.specs.Numbers.{time_in}
use Rattle.powers.proofs.Times.{seconds_in, apart_fits, same_sum}
use Rattle.powers.proofs.moved.Goals as goal

pub sub-requires : goal.sub-requires
sub-requires c = apart_fits c.time.ensures c.in-Some-Some.is-0 c.time-2.ensures c.in-Some-Some.is-1

pub returns-in-Some-Some : goal.returns-in-Some-Some
unfolding after same_time
returns-in-Some-Some c =
    let a : time_in c.args.a ≡ secs c.in-Some-Some.a.0 = rw (to_z-of_z w32 c.args.a c.ranges.a) at (seconds_in c.time.ensures c.in-Some-Some.is-0) in
    let b : time_in c.args.b ≡ secs c.in-Some-Some.b.0 = rw (to_z-of_z w32 c.args.b c.ranges.b) at (seconds_in c.time-2.ensures c.in-Some-Some.is-1) in
    rw (a, b, c.eq.ensures, c.sub.ensures) (same_sum c.in-Some-Some.a.0 c.in-Some-Some.b.0 c.args.c.0)
