-- The value of each step is one that a venue may have. Assumes nothing.
use lib.Dec.{T}
use Rattle.prices.specs.declared.Step.{Step}
use Rattle.prices.specs.declared.Step.TheVariants.{HalfCent, Cent}
use Rattle.prices.specs.Prices.{is_step}
use Rattle.prices.specs.Steps.{step_value}

pub step_is : (s : Step) → T (is_step (step_value s))
unfolding is_step
step_is HalfCent = tt
step_is Cent = tt
