-- A blank and a time after the fields so far.
use Rattle.std.proofs.Common.{append_assoc, append-nil, refl, sym, get_or, pos, arith, length-append}
use Rattle.model.specs.Answers.{seconds}
use Rattle.puts.proofs.Digits.{signed_short}
use Rattle.report.proofs.Parts.{fields_none, fields_next}
use Rattle.report.proofs.push_fields.Goals as goal

pub loop-time-init : goal.loop-time-init
loop-time-init c = rw fields_none (record { text = sym (append-nil c.args.text.now); short = omega arith })

pub push_seconds-requires : goal.push_seconds-requires
push_seconds-requires c =
    let before = c.loop-time.invariant in
    let time = get_or c.args.times.now c.loop-time.time-index (seconds (pos 0)) in (
      omega arith,
      λ h.
          rw (c.push.ensures, before.text) (simp length-append (omega (arith, c.requires, before.short, c.loop-time-test.true, signed_short time.0 h))),
    )

pub loop-time-preserved : goal.loop-time-preserved
loop-time-preserved c =
    let before = c.loop-time.invariant in
    rw (fields_next c.args.times.now c.loop-time.time-index (omega arith)) (record {
      text = rw (c.push_seconds.ensures.text, c.push.ensures, before.text, append_assoc, append_assoc) refl;
      short = simp length-append (omega (arith, before.short, c.push_seconds.ensures.short));
    })
