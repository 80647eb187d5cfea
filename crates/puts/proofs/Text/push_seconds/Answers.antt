-- The sign, then the digits.
use Rattle.std.proofs.Common.{rules, ◌≡◌, [], ◌∷◌, append_assoc, arith, length-append, nat_abs, refl, sym, ◌∙◌, to_z, of_z, to_z-of_z, SFits, ℤ}
use Rattle.std.specs.Int.{w64}
use Rattle.puts.specs.Decimal.{number}
use Rattle.puts.proofs.Digits.{below_zero, from_zero}
use Rattle.puts.proofs.Text.push_seconds.Goals as goal
use Rattle.puts.proofs.Text.push_seconds.Goals.{then-is_negative, else-is_negative}

-- a machine number is read back from its bits
read_back : (z : ℤ) → SFits w64 z → nat_abs (to_z w64 (of_z w64 z)) ≡ nat_abs z
read_back z h = rw (to_z-of_z h) refl

pub push_number-requires : goal.push_number-requires
push_number-requires g c =
    let z = c.args.x.0 in
    let digits = c.unsigned_abs.ensures.value ∙ read_back z (search rules) in
    let room = c.requires (omega (arith, digits)) in
    rw digits (elim c.if-is_negative.branch [
      | then-is_negative w ↦
          let r = rw (below_zero z (sym c.is_negative.ensures ∙ w.if-is_negative.true)) at room in
          rw (w.self-is, w.push.ensures) (simp length-append (omega (arith, r)))
      | else-is_negative w ↦
          let r = rw (from_zero z (sym c.is_negative.ensures ∙ w.if-is_negative.false)) at room in rw w.self-is (omega (arith, r))
    ])

pub returns-clause-text : goal.returns-clause-text
returns-clause-text g c =
    let z = c.args.x.0 in
    rw (c.push_number.ensures.text, c.unsigned_abs.ensures.value, read_back z (search rules)) (elim c.if-is_negative.branch [
      | then-is_negative w ↦
          let signed = below_zero z (sym c.is_negative.ensures ∙ w.if-is_negative.true) in
          rw (w.self-is, w.push.ensures, signed) (append_assoc c.args.self.now (45 ∷ []) (number (nat_abs z)))
      | else-is_negative w ↦ rw (w.self-is, from_zero z (sym c.is_negative.ensures ∙ w.if-is_negative.false)) refl
    ])
