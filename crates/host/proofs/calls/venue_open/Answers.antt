-- A run that is too short, a step or a close that is refused, and the copy of a fresh venue. Assumes nothing.
use Prim.Native.Nat.{ℕ}
use native.Mathlib.Omega.{arith}
use mathlib.Core.Path.{ap, ◌∙◌}
use Rattle.engine.proofs.refinement.AnswerLaws.{refusal_range}
use lib.Seq.{length-take-le}
use borrow.Author.Rules.{rules}
use Rattle.numbers.specs.Answers.{refuses}
use Rattle.host.specs.rules.Host.{host_answer}
use Rattle.host.proofs.refinement.HostLaws.{opens_length, open_short, open_refused, open_fresh}
use Rattle.host.proofs.calls.venue_open.Goals as goal

pub returns-then-words-lt-VENUE : goal.returns-then-words-lt-VENUE
returns-then-words-lt-VENUE c =
    open_short _ _ _ (search rules) (c.refused.ensures ∙ ap (λ (n : ℕ). host_answer (refuses n)) c.from.ensures)

pub copy_from_slice-requires : goal.copy_from_slice-requires
copy_from_slice-requires c = omega (arith, length-take-le 4880 c.args.words.now c.if-words-lt-VENUE.false, opens_length c.open-opened.ensures)

pub returns-in-Ok : goal.returns-in-Ok
returns-in-Ok c = open_fresh _ (search rules) c.open-opened.ensures c.in-Ok.is (rw (c.copy_from_slice.ensures.after, opens_length c.open-opened.ensures))

pub refused-requires-in-Err : goal.refused-requires-in-Err
refused-requires-in-Err c = omega (arith, c.from-in-Err.ensures, refusal_range c.in-Err.not_opened)

pub returns-in-Err : goal.returns-in-Err
returns-in-Err c =
    open_refused _ (search rules) c.open-opened.ensures c.in-Err.is (c.refused-in-Err.ensures ∙ ap (λ (n : ℕ). host_answer (refuses n)) c.from-in-Err.ensures)
