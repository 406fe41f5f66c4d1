-- 16 and nothing is played, or the day of sound words. Assumes nothing.
use mathlib.Core.Path.{ap}
use mathlib.Core.Bool.{not}
use mathlib.Core.Path.{refl, sym, ◌∙◌}
use Rattle.numbers.proofs.TestLaws.{answered_T, not_yes, not_no}
use Rattle.days.proofs.DayLaws.{not_played}
use Rattle.days.proofs.play.play.Goals as goal

pub returns-then-not-venue_sound : goal.returns-then-not-venue_sound
returns-then-not-venue_sound c = not_played _ _ _ _ _ (sym c.venue_sound.ensures ∙ not_yes c.venue_sound.result (ap not c.if-not-venue_sound.true)) refl

pub play_sound-requires : goal.play_sound-requires
play_sound-requires c =
    answered_T c.venue_sound.ensures (not_no c.venue_sound.result (ap not c.if-not-venue_sound.false))
