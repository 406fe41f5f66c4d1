-- The two numbers take two bytes, and there is room. Assumes nothing.
use native.Mathlib.Omega.{arith}
use Rattle.engine.specs.rules.Answers.{refusal_number}
use Rattle.engine.proofs.refinement.AnswerLaws.{refusal_range}
use Rattle.days.proofs.DayLaws.{refusal_size}
use Rattle.days.proofs.play.write_refusal.Goals as goal

pub put_numbers-requires : goal.put_numbers-requires
put_numbers-requires c =
    rw (c.from.ensures, c.from-number.ensures) (omega (arith, refusal_size (refusal_number c.args.refusal) (refusal_range c.args.refusal).1, c.requires))

pub returns : goal.returns
returns c =
    let p = rw (c.from.ensures, c.from-number.ensures) at c.put_numbers.ensures in
    (p, omega (arith, p.ends, refusal_size (refusal_number c.args.refusal) (refusal_range c.args.refusal).1, c.requires))
