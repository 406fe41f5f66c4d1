-- 16 and 1, then the event of sound words. Assumes nothing.
use mathlib.Core.Path.{sym, ◌∙◌}
use Rattle.numbers.proofs.TestLaws.{answered_T}
use Rattle.engine.proofs.refinement.ApplyLaws.{venue_broken, buffer_short}
use Rattle.engine.proofs.apply.apply.Goals as goal

pub returns-then-not-venue_sound : goal.returns-then-not-venue_sound
returns-then-not-venue_sound c = venue_broken (sym c.venue_sound.ensures ∙ c.if-not-venue_sound.true)

pub returns-then-reports-lt-LEAST_BUFFER : goal.returns-then-reports-lt-LEAST_BUFFER
returns-then-reports-lt-LEAST_BUFFER c =
    buffer_short (answered_T c.venue_sound.ensures c.if-not-venue_sound.false) c.if-reports-lt-LEAST_BUFFER.true

pub apply_sound-requires : goal.apply_sound-requires
apply_sound-requires c =
    (answered_T c.venue_sound.ensures c.if-not-venue_sound.false, c.if-reports-lt-LEAST_BUFFER.false)
