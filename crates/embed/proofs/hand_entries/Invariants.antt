-- The first entries are handed back.
use Rattle.embed.specs.Numbers.{entries_of}
use Rattle.embed.proofs.Placed.{Handing}
use Rattle.embed.proofs.hand_entries.Given as goal

abbrev pub invariant-loop-k : goal.invariant-loop-k
invariant-loop-k l = Handing (entries_of l.times l.start l.target) l.present l.strict l.values l.k

abbrev pub invariant-loop-i : goal.invariant-loop-i
invariant-loop-i l = Handing (entries_of l.times l.start l.target) l.present l.strict l.values l.i

abbrev pub invariant-loop-j : goal.invariant-loop-j
invariant-loop-j l = Handing (entries_of l.times l.start l.target) l.present l.strict l.values l.j
