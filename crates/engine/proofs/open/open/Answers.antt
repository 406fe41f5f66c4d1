-- `open` by whether the close is taken as a price. Assumes nothing.
use mathlib.Core.Path.{sym, ap, ◌∙◌}
use Rattle.std.specs.Prelude.{Err}
use Rattle.prices.specs.Prices.{outcome_of_price}
use Rattle.engine.specs.declared.Refusal.TheVariants.{PriceNotLegal, NotStep}
use Rattle.engine.proofs.refinement.OpeningLaws.{opens_yes, opens_no}
use Rattle.engine.proofs.open.open.Goals as goal

pub returns-in-Ok : goal.returns-in-Ok
returns-in-Ok c = opens_yes _ _ _ _ c.in-Ok.ensures

pub returns-in-Err-NotLegal : goal.returns-in-Err-NotLegal
returns-in-Err-NotLegal c = let e = c.in-Err-NotLegal in opens_no _ _ PriceNotLegal (sym (ap outcome_of_price (e.is ∙ ap Err e.field-0-is)) ∙ c.new.ensures)

pub returns-in-Err-NotStep : goal.returns-in-Err-NotStep
returns-in-Err-NotStep c = let e = c.in-Err-NotStep in opens_no _ _ NotStep (sym (ap outcome_of_price (e.is ∙ ap Err e.field-0-is)) ∙ c.new.ensures)
