-- `bits_sound`: six numbers of one bit, the owner divided by 32,768 among them. Assumes nothing.
use mathlib.Core.Path.{sym, ap, ◌∙◌}
use mathlib.Core.Bool.{Bool, ◌&&◌}
use lib.Dec.{leb}
use lib.ListN.{get_or}
use Rattle.numbers.proofs.TestLaws.{and_last}
use Rattle.book.specs.rules.Sound.{most_owner}
use Rattle.book.specs.steps.RecordWalk.{bits_in, flags_in}
use Rattle.book.proofs.refinement.SoundOrderLaws.{six_bits}
use Rattle.book.proofs.sound.bits_sound.Goals as goal

pub returns : goal.returns
unfolding bits_in flags_in
returns c =
    let p = c.args.place.now in
    let show = get_or p 4 0 in
    let adjusted = get_or p 10 0 in
    let used = get_or p 11 0 in
    let clear = get_or p 12 0 in
    let market = get_or p 13 0 in
    let owner = get_or p 14 0 in
    six_bits show owner adjusted used clear market ∙ ap (λ (b : Bool). leb show 1 && (leb owner most_owner && (leb adjusted 1 && (leb used 1 && (leb clear 1 && b))))) (sym (and_last (leb market 1)))
