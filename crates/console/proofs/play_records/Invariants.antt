-- Each turn goes on in the input.
use Rattle.std.proofs.Common.{◌-◌, length}
use Rattle.console.proofs.play_records.Given as goal

abbrev pub decreases-loop-next : goal.decreases-loop-next
decreases-loop-next g l = length l.input - l.next
