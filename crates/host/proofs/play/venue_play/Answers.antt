-- What playing answers and leaves; with 16 the three numbers stay. Assumes nothing.
use Rattle.std.proofs.Common.{rules}
use Rattle.host.proofs.refinement.PlayLaws.{play_refused, play_answered}
use Rattle.host.proofs.play.venue_play.Goals as goal
use Rattle.host.proofs.play.venue_play.Goals.{then-ne, else-ne}

pub returns : goal.returns
returns c =
    elim c.if-ne.branch [
      | then-ne w ↦ play_answered c.play-played.ensures c.stop_number.ensures (λ e. search rules) w.progress-is
      | else-ne w ↦ play_refused c.play-played.ensures c.stop_number.ensures (search rules) w.progress-is
    ]
