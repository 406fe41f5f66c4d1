-- What holds of two steps of a venue, and of a refused layout twice, holds of the steps of words; what the answers of steps and calls say. Assumes nothing.
use Prim.Native.Nat.{ℕ}
use native.Mathlib.Omega.{arith}
use mathlib.Core.Path.{◌≡◌, refl, sym, ap, ◌∙◌}
use mathlib.Core.Bool.{Bool, true, false}
use mathlib.Core.List.{List}
use mathlib.Core.Option.{Option, none, some}
use lib.ListN.{length}
use Rattle.numbers.specs.Tests.{pick}
use Rattle.numbers.specs.Answers.{Outcome, gives, refuses}
use Rattle.book.specs.rules.Words.{is_book}
use Rattle.engine.specs.declared.Event.{Event}
use Rattle.engine.specs.rules.Reports.{Report}
use Rattle.engine.specs.rules.Venue.{Venue}
use Rattle.engine.specs.rules.Run.{Step, step_unless, step}
use Rattle.engine.specs.rules.Answers.{count_of, buffer_after}
use Rattle.engine.specs.rules.Layout.{venue_of, refused_layout, step_in}
use Rattle.engine.specs.claims.Calls.{refusal_given, Applied, CallDoes}

-- what was answered says what was refused

pub step_given : (x : Option ℕ) (v : Venue) (e : Event) → refusal_given (step_unless x v e).answer ≡ x
unfolding step_unless
step_given none v e = refl
step_given (some n) v e = refl

pub count_given : (x : Outcome (List Report)) → refusal_given (count_of x) ≡ refusal_given x
count_given (gives rs) = refl
count_given (refuses n) = refl

-- reports are no refusal
pub gives_refuses : {A B : Type 0} {x : A} {n : ℕ} → ◌≡◌ {A = Outcome A} (gives x) (refuses n) → B
gives_refuses h = let y : ◌≡◌ {A = ℕ} 0 1 = cc in absurd (omega arith)

-- a count stands for reports, and a refusal for itself
pub count_gives : (y : Outcome (List Report)) (n : ℕ) → gives n ≡ count_of y → (rs : List Report) × (y ≡ gives rs)
count_gives (gives rs) n h = (rs, refl)
count_gives (refuses k) n h = gives_refuses h

pub count_refuses : (y : Outcome (List Report)) (n : ℕ) → refuses n ≡ count_of y → y ≡ refuses n
count_refuses (gives rs) n h = gives_refuses (sym h)
count_refuses (refuses k) n h = let e : k ≡ n = cc in ap refuses e

module _ (P : Step → Step → Type 0) (w : List ℕ) (x : Event) (n : ℕ) (other : Step) where
  chosen : (laid : Bool) → P (step (venue_of w) x n) other → P (refused_layout w) (refused_layout w) → P (pick laid (step (venue_of w) x n) (refused_layout w)) (pick laid other (refused_layout w))
  unfolding pick
  chosen true v r = v
  chosen false v r = r

  pub in_words : P (step (venue_of w) x n) other → P (refused_layout w) (refused_layout w) → P (step_in w x n) (pick (is_book w) other (refused_layout w))
  unfolding step_in
  in_words v r = chosen (is_book w) v r

-- a call does what any step does that equals the step of its words
pub call_does : {w : List ℕ} {x : Event} {b : List ℕ} {answer : Outcome ℕ} {w' b' : List ℕ} {s : Step} → Applied w x b answer w' b' → step_in w x (length b) ≡ s → CallDoes s b answer w' b'
call_does {b = b} a e =
    record {
      answers = a.answers ∙ ap (λ (t : Step). count_of t.answer) e;
      buffer = a.buffer ∙ ap (λ (t : Step). buffer_after b t.answer) e;
      venue = a.venue ∙ ap (λ (t : Step). t.venue) e;
    }
