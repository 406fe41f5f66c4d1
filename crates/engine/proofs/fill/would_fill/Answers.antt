-- A refused question gives its refusal; any other reads the front of the book for the order that is asked about. Assumes nothing.
use Prim.Native.Nat.{ℕ}
use native.Mathlib.Omega.{arith}
use mathlib.Core.Path.{◌≡◌, sym, ap, ◌∙◌, subst}
use lib.Dec.{T}
use Rattle.book.specs.declared.Order.{Order}
use Rattle.book.specs.rules.Fill.{front_read}
use Rattle.book.specs.rules.Words.{resting}
use Rattle.engine.specs.declared.Market.{Market}
use Rattle.engine.specs.rules.Working.{order_of}
use Rattle.engine.specs.rules.Layout.{sound_words}
use Rattle.engine.specs.rules.Fill.{asked_order}
use Rattle.std.proofs.lemmas.Result.{err_from_is_err_and}
use Rattle.engine.proofs.refinement.RefuseLaws.{words_ordered, words_stepped}
use Rattle.engine.proofs.refinement.QuestionLaws.{question_broken, asked_shares, question_refused, question_told}
use Rattle.engine.proofs.fill.would_fill.Goals as goal
use Rattle.engine.proofs.fill.would_fill.Goals.{Else-not-venue_sound}

pub returns-then-not-venue_sound : goal.returns-then-not-venue_sound
returns-then-not-venue_sound c = question_broken _ _ _ _ (sym c.venue_sound.ensures ∙ c.if-not-venue_sound.true)

-- what holds where the next refusals are asked

sound : (c : Else-not-venue_sound) → T (sound_words c.args.words.now)
sound c =
    let v = c.venue_sound in
    subst T (sym (c.if-not-venue_sound.false) ∙ v.ensures) tt

asked-has : (m : Market) (mark price shares : ℕ) {o : Order} → o ≡ asked_order m mark price shares → o.shares ≡ shares
unfolding asked_order order_of
asked-has m mark price shares e = ap (λ (x : Order). x.shares) e

pub new-book-requires : goal.new-book-requires
new-book-requires c = (words_ordered _ (sound (goal.at.new-book-requires c).Else-not-venue_sound)).book

pub check_question-requires : goal.check_question-requires
check_question-requires c = rw c.new-book.ensures (words_stepped _ (sound (goal.at.check_question-requires c).Else-not-venue_sound))

pub asked_order-requires : goal.asked_order-requires
asked_order-requires c = rw c.new-book.ensures (sound (goal.at.asked_order-requires c).Else-not-venue_sound)

pub read_front-requires : goal.read_front-requires
read_front-requires c = omega (arith, asked-has _ _ _ _ c.asked_order.ensures, asked_shares _ _ _ _ (sym c.in_ok-check_question.ensures))

pub returns-in_err-check_question : goal.returns-in_err-check_question
returns-in_err-check_question c =
    let p = err_from_is_err_and c.from_residual.result c.from_residual.ensures.1 in
    rw (p.1, p.2) (question_refused _ _ _ _ (sound (goal.at.returns-in_err-check_question c).Else-not-venue_sound) (sym (rw c.new-book.ensures at c.in_err-check_question.ensures)))

pub returns : goal.returns
returns c =
    let front : c.read_front.result ≡ front_read c.asked_order.result (resting c.args.words.now) = rw c.new-book.ensures at c.read_front.ensures in
    question_told _ _ _ _ (sound (goal.at.returns c).Else-not-venue_sound) (sym (rw c.new-book.ensures at c.in_ok-check_question.ensures)) (front ∙ ap (λ (x : Order). front_read x (resting c.args.words.now)) (rw c.new-book.ensures at c.asked_order.ensures))
