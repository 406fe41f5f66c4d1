-- `order_sound` by its groups of tests. Assumes nothing.
use native.Mathlib.Omega.{arith}
use mathlib.Core.Path.{sym, ◌∙◌}
use Rattle.std.proofs.lemmas.Grind.{common_steps}
use Rattle.prices.specs.Steps.{step_value}
use Rattle.book.proofs.refinement.SoundOrderLaws.{place_groups, unsound_last_id, unsound_shares, unsound_stamp, unsound_codes}
use Rattle.book.proofs.sound.order_sound.Goals as goal
use Rattle.book.proofs.sound.order_sound.Goals.{then-from_one-2, else-from_one-2, then-from_one, else-from_one, then-place-limits, else-place-limits}

pub returns-then-codes_sound : goal.returns-then-codes_sound
returns-then-codes_sound c =
    let a = c.args.limits in
    let r = c.requires in
    grind (arith, common_steps, place_groups (step_value a.step) a.last_id a.last_stamp c.args.place.now r.0 r.1 r.2, c.prices_sound.ensures)

pub returns-else-codes_sound : goal.returns-else-codes_sound
returns-else-codes_sound c =
    let a = c.args.limits in
    let p = c.args.place.now in
    let r = c.requires in
    c.if-codes_sound.false ∙ sym (elim c.if-from_one-2.branch [ then-from_one-2 w ↦ unsound_codes (step_value a.step) a.last_id a.last_stamp p r.0 r.1 r.2 (sym w.codes_sound.ensures ∙ sym w.value-is ∙ c.if-codes_sound.false) | else-from_one-2 w ↦ elim c.if-from_one.branch [ then-from_one v ↦ unsound_stamp (step_value a.step) a.last_id a.last_stamp p r.0 r.1 r.2 (sym v.from_one-then-from_one.ensures ∙ sym v.value-is ∙ w.if-from_one-2.false) | else-from_one v ↦ elim c.if-place-limits.branch [ then-place-limits u ↦ unsound_shares (step_value a.step) a.last_id a.last_stamp p r.0 r.1 r.2 (sym u.from_one.ensures ∙ sym u.value-is ∙ v.if-from_one.false) | else-place-limits u ↦ unsound_last_id (step_value a.step) a.last_id a.last_stamp p r.0 r.1 r.2 (sym u.value-is ∙ v.if-from_one.false) ] ] ])
