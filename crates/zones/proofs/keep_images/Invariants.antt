-- What is left to be taken in.
use mathlib.Core.List.{flatten}
use Rattle.model.proofs.Tabulated.{from}
use Rattle.memory.proofs.Toward.{Toward}
use Rattle.zones.specs.Inner.{image_pairs, images}
use Rattle.zones.proofs.keep_images.Given as goal

abbrev pub invariant-loop-l : goal.invariant-loop-l
invariant-loop-l g l =
    let d = g.T.Stored.bounds_in in
    let t = l.target in
    let pairs = image_pairs t.n (g.T.Stored.times_in t.times.now) (d t.zone.now) l.cols l.c.row l.c.column in
    Toward t.n g.T.Stored.limit (d l.fn.part) (images t.n (g.T.Stored.times_in t.times.now) (d t.zone.now) l.cols l.c.row l.c.column) (d l.part)
    (flatten (from pairs l.c.row l.l))
