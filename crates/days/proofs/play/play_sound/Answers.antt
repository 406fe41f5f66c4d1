use native.Mathlib.Omega.{arith}
use mathlib.Core.Path.{refl, sym, ap}
use Rattle.records.proofs.ReadingLaws.{read_words}
use Rattle.days.specs.declared.Stop.{Stop}
use Rattle.days.proofs.DayLaws.{playing_starts, playing_more, stops_end, stops_full, stops_short, stops_unread}
use Rattle.days.proofs.play.play_sound.Goals as goal

pub loop-played-init : goal.loop-played-init
loop-played-init c = (playing_starts _ _ _ _ _ c.requires, refl)

pub returns-then-played-ends : goal.returns-then-played-ends
returns-then-played-ends c = stops_full c.loop-played.invariant.0 c.loop-played-test.true c.if-played-ends.true refl

pub returns-then-reports-played-lt-LEAST_BUFFER : goal.returns-then-reports-played-lt-LEAST_BUFFER
returns-then-reports-played-lt-LEAST_BUFFER c =
    stops_short c.loop-played.invariant.0 c.loop-played-test.true c.if-played-ends.false c.if-reports-played-lt-LEAST_BUFFER.true refl

pub returns-in-Err : goal.returns-in-Err
returns-in-Err c =
    stops_unread c.loop-played.invariant.0 c.loop-played-test.true c.if-played-ends.false c.if-reports-played-lt-LEAST_BUFFER.false (sym c.in-Err.ensures) refl

pub play_event-requires : goal.play_event-requires
play_event-requires c =
    (c.loop-played.invariant.0.sound, omega (arith, c.if-reports-played-lt-LEAST_BUFFER.false, c.loop-played.invariant.0.inside), read_words c.args.records.now _ (λ i. omega (arith, c.shared_slice_known-1.given i)) (sym c.in-Ok.ensures))

pub loop-played-preserved : goal.loop-played-preserved
loop-played-preserved c =
    (playing_more c.loop-played.invariant.0 c.loop-played-test.true c.if-played-ends.false c.if-reports-played-lt-LEAST_BUFFER.false (sym c.in-Ok.ensures) c.play_event.ensures, c.loop-played.invariant.1)

pub returns : goal.returns
returns c = stops_end c.loop-played.invariant.0 c.loop-played-test.false (ap (λ (s : Stop). record { events = c.loop-played.played.events; at = c.loop-played.played.at; end = c.loop-played.played.end; stop = s }) c.loop-played.invariant.1)
