use mathlib.Core.Bool.{not}
use mathlib.Core.List.{[]}
use borrow.Author.Rules.{rules}
use Prim.Native.Nat.{◌<◌}
use lib.ListN.{get_or}
use mathlib.Core.Path.{◌≡◌, refl, sym, ap, ap₂, ◌∙◌}
use native.Mathlib.Omega.{arith}
use Rattle.numbers.proofs.TestLaws.{answered_T, not_yes, not_no}
use Rattle.prices.specs.Steps.{step_value}
use Rattle.book.specs.steps.RecordWalk.{stamp_at, sound_in, sound_at}
use Rattle.book.proofs.refinement.WordLaws.{header_laid_out_facts}
use Rattle.book.proofs.refinement.PlaceLaws.{place_at, word_in_place}
use Rattle.book.proofs.refinement.StampLaws.{id_before_next}
use Rattle.book.proofs.refinement.WalkLaws.{walked_start, walked_more, walked_all, not_laid_out, unsound_place, seen_stamp}
use Rattle.book.proofs.sound.is_sound.Goals as goal
use Rattle.book.proofs.sound.is_sound.Goals.{After-place_sound}

pub returns-then-not-header_laid_out : goal.returns-then-not-header_laid_out
returns-then-not-header_laid_out c = let h = c.header_laid_out in not_laid_out (step_value c.args.step) c.args.last_id c.args.last_stamp c.args.w.now (sym h.ensures ∙ not_yes h.result (ap not c.if-not-header_laid_out.true))

pub bounds-w-0 : goal.bounds-w-0
bounds-w-0 c = let h = c.header_laid_out in let k = header_laid_out_facts c.args.w.now (answered_T h.ensures (not_no h.result (ap not c.if-not-header_laid_out.false))) in search (rules, k.long)

pub loop-i-init : goal.loop-i-init
loop-i-init c = let h = c.header_laid_out in (walked_start (step_value c.args.step) c.args.last_id c.args.last_stamp c.args.w.now (sym h.ensures ∙ not_no h.result (ap not c.if-not-header_laid_out.false)), refl)

-- the place of a turn

in_book : (c : After-place_sound) → c.loop-i.i < 256
in_book c = let k = c.loop-i.invariant.0 in omega (arith, c.loop-i-test.true, k.header.few)

place_answer : (c : After-place_sound) → let a = c.args in c.place_sound.result ≡ sound_at (step_value a.step) a.last_id a.last_stamp a.w.now c.loop-i.i
place_answer c =
    let a = c.args in
    c.place_sound.ensures ∙ ap₂ (sound_in (step_value a.step) a.last_id a.last_stamp) c.loop-i.invariant.1 (place_at a.w.now _ c.loop-i.i c.places.ensures.places (in_book c))

pub returns-then-not-place_sound : goal.returns-then-not-place_sound
returns-then-not-place_sound c =
    unsound_place (step_value c.args.step) c.args.last_id c.args.last_stamp c.args.w.now c.loop-i.i (omega (arith, c.loop-i-test.true)) (sym (place_answer (goal.at.returns-then-not-place_sound c).After-place_sound) ∙ not_yes c.place_sound.result (ap not c.if-not-place_sound.true))

stamp_is : (c : After-place_sound) → get_or (get_or c.places.result.now c.loop-i.i []) 7 0 ≡ stamp_at c.args.w.now c.loop-i.i
stamp_is c = word_in_place c.args.w.now [] c.loop-i.i 7 c.places.ensures.places (in_book c) (omega arith)

pub returns-then-stamp_seen : goal.returns-then-stamp_seen
returns-then-stamp_seen c =
    seen_stamp (step_value c.args.step) c.args.last_id c.args.last_stamp c.args.w.now c.loop-i.i _ (omega (arith, c.loop-i-test.true)) (stamp_is (goal.at.returns-then-stamp_seen c).After-place_sound) (sym c.stamp_seen.ensures ∙ c.if-stamp_seen.true)

pub loop-i-preserved : goal.loop-i-preserved
loop-i-preserved c =
    let w = c.args.w.now in
    let turn = (goal.at.loop-i-preserved c).After-place_sound in
    (walked_more (step_value c.args.step) c.args.last_id c.args.last_stamp w _ _ _ c.loop-i.invariant.0 (omega (arith, c.loop-i-test.true)) (stamp_is turn) refl refl (sym (place_answer turn) ∙ c.if-not-place_sound.false) (sym c.stamp_seen.ensures ∙ c.if-stamp_seen.false), word_in_place w [] c.loop-i.i 0 c.places.ensures.places (in_book turn) (omega arith) ∙ id_before_next w c.loop-i.i)

pub returns : goal.returns
returns c = let w = c.args.w.now in walked_all (step_value c.args.step) c.args.last_id c.args.last_stamp w c.loop-i.invariant.0 (omega (arith, c.loop-i-test.false))
