-- The answer of would_fill as a number. Assumes nothing.
use native.Mathlib.Omega.{arith}
use mathlib.Core.Path.{◌∙◌, ap, sym, subst}
use Rattle.numbers.specs.Answers.{Outcome}
use Rattle.book.specs.declared.FrontRead.{FrontRead}
use Rattle.engine.specs.claims.Fill.{FillFits}
use Rattle.engine.proofs.refinement.AnswerLaws.{refusal_range}
use Rattle.engine.proofs.refinement.QuestionLaws.{fills_fit}
use Rattle.host.specs.rules.Host.{host_answer}
use Rattle.host.specs.rules.Fill.{fill_count}
use Rattle.host.proofs.fill.venue_would_fill.Goals as goal

pub front_number-requires : goal.front_number-requires
front_number-requires c = subst FillFits (sym c.in-Ok.ensures) (fills_fit _ _ _ _)

pub returns-in-Ok : goal.returns-in-Ok
returns-in-Ok c = c.front_number.ensures ∙ ap (λ (o : Outcome FrontRead). host_answer (fill_count o)) c.in-Ok.ensures

pub refused-requires : goal.refused-requires
refused-requires c = omega (arith, c.from.ensures, refusal_range c.in-Err.refusal)

pub returns-in-Err : goal.returns-in-Err
returns-in-Err c =
    omega (arith, c.refused.ensures, c.from.ensures, ap (λ (o : Outcome FrontRead). host_answer (fill_count o)) c.in-Err.ensures)
