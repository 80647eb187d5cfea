-- An input of any length has the text of its first bytes, one more than the longest case has, so a program may stop reading there.
use Prim.Native.Nat.{ℕ, ◌<◌}
use mathlib.Core.Path.{◌≡◌, refl}
use mathlib.Core.List.{List}
use lib.ListN.{take}
use Rattle.model.specs.Sizes.{most_bytes}
use Rattle.model.proofs.Prefix.{prefix_decides}
use Rattle.report.specs.Text.{text}

pub long_input : (m : ℕ) (s : List ℕ) → most_bytes < m → text (take m s) ≡ text s
unfolding text
long_input m s h = rw (prefix_decides m s h, text) refl
