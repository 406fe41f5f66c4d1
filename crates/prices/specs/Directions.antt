-- The numbers of directions in report 7: 1 a fall, 2 a rise; 0 stands for none. Assumes nothing.
use Rattle.std.specs.Prelude.{ℕ, Option, Some, None}
use Rattle.prices.specs.declared.Direction.{Direction}
use Rattle.prices.specs.declared.Direction.TheVariants.{Fall, Rise}

abbrev pub direction_code : Direction → ℕ
direction_code Fall = 1
direction_code Rise = 2

abbrev pub direction_number : Option Direction → ℕ
direction_number (Some d) = direction_code d
direction_number None = 0
