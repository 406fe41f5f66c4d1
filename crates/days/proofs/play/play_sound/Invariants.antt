-- The loop plays one record after another, and stops for one of four reasons. Assumes nothing.
use Prim.Native.Nat.{◌-◌}
use mathlib.Core.Path.{◌≡◌}
use lib.ListN.{length}
use Rattle.days.specs.declared.Stop.TheVariants.{AllPlayed}
use Rattle.days.proofs.DayLaws.{Playing}
use Rattle.days.proofs.play.play_sound.Given as goal

abbrev pub invariant-loop-played : goal.invariant-loop-played
invariant-loop-played l =
    Playing l.initial.words l.records l.from l.initial.reports l.initial.ends l.words l.reports l.ends l.played.at l.played.end l.played.events
    × (l.played.stop ≡ AllPlayed)

abbrev pub decreases-loop-played : goal.decreases-loop-played
decreases-loop-played l = length l.initial.ends - l.played.events
