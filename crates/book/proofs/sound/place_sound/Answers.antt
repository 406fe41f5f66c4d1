-- A place that fails a test isn't sound. Assumes nothing.
use mathlib.Core.Path.{sym, ◌∙◌}
use Rattle.prices.specs.Steps.{step_value}
use Rattle.book.proofs.refinement.SoundOrderLaws.{unsound_market, unsound_bits, unsound_id}
use Rattle.book.proofs.sound.place_sound.Goals as goal
use Rattle.book.proofs.sound.place_sound.Goals.{then-before-place, else-before-place, then-bits_sound, else-bits_sound}

pub returns-else-market_sound : goal.returns-else-market_sound
returns-else-market_sound c =
    let a = c.args.limits in
    let p = c.args.place.now in
    c.if-market_sound.false ∙ sym (elim c.if-before-place.branch [ then-before-place w ↦ unsound_market (step_value a.step) a.last_id a.last_stamp c.args.before p (sym w.market_sound.ensures ∙ sym w.value-is ∙ c.if-market_sound.false) | else-before-place w ↦ elim c.if-bits_sound.branch [ then-bits_sound v ↦ unsound_id (step_value a.step) a.last_id a.last_stamp c.args.before p (sym v.value-is ∙ w.if-before-place.false) | else-bits_sound v ↦ unsound_bits (step_value a.step) a.last_id a.last_stamp c.args.before p (sym c.bits_sound.ensures ∙ v.if-bits_sound.false) ] ])
