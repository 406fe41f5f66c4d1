-- The steps of prices as numbers (document 02, No. 2): 50 is half a cent, 100 a cent. Assumes nothing.
use Rattle.std.specs.Prelude.{ℕ, ◌≡◌, not, T, Result, MatchResult}
use Rattle.prices.specs.declared.Step.{Step}
use Rattle.prices.specs.declared.Step.TheVariants.{HalfCent, Cent}
use Rattle.prices.specs.declared.PriceError.{PriceError}
use Rattle.prices.specs.declared.PriceError.TheVariants.{NotStep}
use Rattle.prices.specs.Prices.{is_step}

abbrev pub step_value : Step → ℕ
step_value HalfCent = 50
step_value Cent = 100

-- a number taken as a step: the step that it is, or the refusal of a number that is none
abbrev pub StepOf : ℕ → Result Step PriceError → Type 0
StepOf n r = MatchResult r (λ s. step_value s ≡ n) (λ e. (e ≡ NotStep) × T (not (is_step n)))
