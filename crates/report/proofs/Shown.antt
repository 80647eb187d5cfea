-- What the lines of a reached verdict show: the times of each cycle in parts of a second, from the start that is handed back.
use Prim.Native.Nat.{ℕ, ◌≤◌}
use native.Mathlib.Omega.{arith}
use mathlib.Core.Path.{◌≡◌, refl, ap, ◌∙◌}
use mathlib.Core.List.{List, map}
use lib.ListN.{take, length-map}
use lib.Seq.{take_at}
use Rattle.std.specs.Prelude.{Ok}
use Rattle.model.specs.declared.Case.{Case}
use Rattle.model.specs.declared.StartTimes.{StartTimes}
use Rattle.model.specs.declared.Verdict.TheVariants as verdict
use Rattle.model.specs.Network.{in_parts, cycles}
use Rattle.model.specs.Faults.{network}
use Rattle.model.specs.Packed.{got, parse}
use Rattle.model.specs.Answers.{seconds, cycle_number, answer, answer_packed}
use Rattle.model.proofs.Cycles.{length_cycles}
use Rattle.model.proofs.DemandsHold.{demand2}
use Rattle.model.proofs.Runs.{start_runs}
use Rattle.report.specs.Text.{line, line_of}
use Rattle.report.proofs.Few.{few, reached_in}

-- the answer to bytes that hold a case
answer_read : (s : List ℕ) (c : Case) (q capacity size : ℕ) → parse s ≡ got c q → answer_packed s capacity size ≡ answer c capacity size
unfolding answer_packed
answer_read s c q capacity size p = rw (p, answer_packed) refl

-- the line of cycle j
pub line_shows : (s : List ℕ) (c : Case) (q capacity size k j : ℕ) (start : StartTimes) → parse s ≡ got c q
    → let ts = cycles c.n (in_parts start.parts (network c)).times j (map (λ x. x.0) (take c.n start.times)) in
    answer_packed s capacity size ≡ Ok (verdict.Reached (cycle_number k) start) → j ≤ k → line_of start.parts c start.times j ≡ line j (map seconds ts)
unfolding network in_parts
line_shows s c q capacity size k j start p e h =
    let reached = rw (answer_read s c q capacity size p) at e in
    let limits = reached_in c capacity size k start reached in
    let within = few c capacity size k start reached in
    let xs = map (λ x. x.0) (take c.n start.times) in
    let table = (in_parts start.parts (network c)).times in
    let long = length_cycles c.n table j xs ((demand2 c capacity size limits).start k start reached).1.size in
    rw (start_runs c capacity size limits k j start reached (omega (arith, within)))
    (ap (line j) (take_at (map seconds (cycles c.n table j xs)) _ c.n (length-map (cycles c.n table j xs) seconds ∙ long)))
