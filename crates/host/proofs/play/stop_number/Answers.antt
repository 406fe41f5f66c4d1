-- Each reason has its number. Assumes nothing.
use Prim.Native.Nat.{ℕ}
use native.Mathlib.Omega.{arith}
use mathlib.Core.Path.{ap, ◌∙◌}
use Rattle.numbers.specs.Answers.{refuses}
use Rattle.host.specs.rules.Host.{host_answer}
use Rattle.host.proofs.refinement.HostLaws.{read_refusal_range}
use Rattle.host.proofs.play.stop_number.Goals as goal

pub refused-requires : goal.refused-requires
refused-requires c = omega (arith, c.from.ensures, read_refusal_range c.in-Unreadable.refusal)

pub returns-in-Unreadable : goal.returns-in-Unreadable
returns-in-Unreadable c = rw c.in-Unreadable.is (c.refused.ensures ∙ ap (λ (n : ℕ). host_answer (refuses n)) c.from.ensures)
