-- A spent venue refuses; any other event is judged by its kind. Sound words stay sound. Assumes nothing.
use Prim.Native.Nat.{ℕ}
use native.Mathlib.Omega.{arith}
use mathlib.Core.Path.{◌≡◌, refl, sym}
use mathlib.Core.List.{List}
use lib.Dec.{T}
use borrow.Author.Rules.{rules}
use Rattle.numbers.specs.Answers.{Outcome, refuses}
use Rattle.engine.specs.declared.Event.{Event}
use Rattle.engine.specs.claims.Calls.{Applied}
use Rattle.engine.specs.rules.Layout.{venue_of, sound_words}
use Rattle.engine.proofs.refinement.RefuseLaws.{words_ordered}
use Rattle.engine.proofs.refinement.ApplyLaws.{events_spent, applied_sound}
use Rattle.engine.proofs.apply.apply_sound.Goals as goal

-- what was done to the words and the buffer of the venue was done to the lent ones
lent_back : {w w₁ w₂ w' b b₁ b₂ b' : List ℕ} {e : Event} {o : Outcome ℕ} → T (sound_words w) → w₁ ≡ w → b₁ ≡ b → w₂ ≡ w' → b₂ ≡ b' → Applied w₁ e b₁ o w₂ b₂ → Applied w e b o w' b' × T (sound_words w')
lent_back {w} {w₁} {w₂} {w'} {b} {b₁} {b₂} {b'} {e} {o} t p q p' q' a =
    let x : Applied w e b o w' b' = rw (sym p, sym q, sym p', sym q') a in
    (x, applied_sound t x)

pub new-venue-requires : goal.new-venue-requires
new-venue-requires c = words_ordered c.args.w.now c.requires.0

pub returns-then-header_word-ge-MOST_EVENTS : goal.returns-then-header_word-ge-MOST_EVENTS
unfolding venue_of
returns-then-header_word-ge-MOST_EVENTS c =
    let n = c.new-venue.ensures in
    let counted = rw (c.view.ensures, n.words) at c.header_word.ensures in
    let spent : Applied c.args.w.now c.args.event c.args.reports.now (refuses 2) c.args.w.now c.args.reports.now = events_spent c.requires.0 c.requires.1 (omega (arith, counted, c.if-header_word-ge-MOST_EVENTS.true)) in
    lent_back c.requires.0 refl refl (search rules) (search rules) spent

pub apply_kind-requires : goal.apply_kind-requires
unfolding venue_of
apply_kind-requires c =
    let n = c.new-venue.ensures in
    let counted = rw (c.view.ensures, n.words) at c.header_word.ensures in
    (record { sound = rw n.words c.requires.0; buffer = rw n.buffer c.requires.1; events = rw n.words (omega (arith, counted, c.if-header_word-ge-MOST_EVENTS.false)); last_id = rw n.words (search rules) }, n.none)

pub returns : goal.returns
returns c = lent_back c.requires.0 c.new-venue.ensures.words c.new-venue.ensures.buffer (search rules) (search rules) c.apply_kind.ensures.applied
