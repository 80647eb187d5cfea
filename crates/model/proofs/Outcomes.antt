-- What a judgement says of the fault that it was made of, and how two judgements follow one another.
use mathlib.Core.Path.{◌≡◌, refl}
use mathlib.Core.Option.{Option, none, some}
use Rattle.std.specs.Prelude.{Ok, Err}
use Rattle.ints.proofs.Integers.{impossible}
use Rattle.model.specs.declared.Fault.{Fault}
use Rattle.model.specs.Lists.{or_else}
use Rattle.model.specs.Answers.{judged}

pub judged_err : (o : Option Fault) (f : Fault) → judged o ≡ Err f → o ≡ some f
judged_err none f e = impossible cc
judged_err (some g) f e = cc

pub judged_ok : (o : Option Fault) (u : Unit {0}) → judged o ≡ Ok u → o ≡ none
judged_ok none u e = refl
judged_ok (some g) u e = impossible cc

-- of two, the first is judged before the second
pub judged_first : (o p : Option Fault) (f : Fault) → judged o ≡ Err f → judged (or_else o p) ≡ Err f
judged_first none p f e = impossible cc
judged_first (some g) p f e = e

pub judged_then : (o p : Option Fault) (u : Unit {0}) → judged o ≡ Ok u → judged (or_else o p) ≡ judged p
judged_then none p u e = refl
judged_then (some g) p u e = impossible cc

pub ruleset judgements = (judged_err, judged_ok, judged_first, judged_then)
