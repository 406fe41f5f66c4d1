-- The last price is the one behind which none stands. Assumes nothing.
use Prim.Native.Nat.{◌-◌}
use native.Mathlib.Omega.{arith}
use mathlib.Core.Path.{sym}
use Rattle.prices.proofs.PauseLaws.{last_at}
use Rattle.prices.proofs.pause.Kept.last_time.Goals as goal

pub returns-else-n-eq0 : goal.returns-else-n-eq0
returns-else-n-eq0 c = sym (last_at (c.len-n.result - 1) _ _ _ c.price.ensures (omega arith))
