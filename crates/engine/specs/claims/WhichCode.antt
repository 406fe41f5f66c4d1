-- Document 02, No. 3, which code was bad, as claims: with 18, 19 and 20 read as 5, every event is answered as before. The order in which the codes are
-- looked for is checked in `Examples`. Assumes nothing.
use Rattle.std.specs.Prelude.{ℕ, ◌≡◌, ◌||◌, List, [], ◌∷◌, leb, eqb, length}
use Rattle.std.proofs.Math.Option.{Option, none, some}
use Rattle.numbers.specs.Tests.{pick, conj}
use Rattle.numbers.specs.Answers.{Outcome, gives, refuses}
use Rattle.book.specs.rules.Sound.{slide_allowed}
use Rattle.engine.specs.declared.Entry.{Entry}
use Rattle.engine.specs.declared.Event.{Event}
use Rattle.engine.specs.rules.Venue.{Venue}
use Rattle.engine.specs.rules.Refusals.{refuse_unless, first_of, refusal_of_terms, refusal_of_place, refusal}
use Rattle.engine.specs.rules.Run.{step}
use Rattle.engine.specs.claims.Calls.{Applied, CallDoes}
use Rattle.engine.specs.claims.OtherRefusals.{EntryRefusals, refusal_with, step_with, step_in_with}

-- Before No. 3: "5 mark, show, life or slide"
abbrev pub codes_before : Entry → Option ℕ
codes_before e = refuse_unless (conj (leb e.mark 3 ∷ leb e.show 1 ∷ leb e.life 1 ∷ slide_allowed e.mark e.slide ∷ [])) 5 none

-- the refusals of an entry with those in the place of the codes; beside them terms, owner and place are those of now
abbrev pub before_no3 : EntryRefusals
before_no3 v e of_owner =
    first_of (refusal_of_terms (v.market.step) e.price e.shares) (first_of (codes_before e) (first_of of_owner (refusal_of_place v e)))

-- 18, 19 and 20 read as 5
abbrev pub read_as5 : ℕ → ℕ
read_as5 n = pick (eqb n 18 || (eqb n 19 || eqb n 20)) 5 n

abbrev pub refusal_read : Option ℕ → Option ℕ
refusal_read none = none
refusal_read (some n) = some (read_as5 n)

abbrev pub answer_read : {A : Type 0} → Outcome A → Outcome A
answer_read (gives x) = gives x
answer_read (refuses n) = refuses (read_as5 n)

-- read so, every event is refused as with the one test of before: by it nothing is accepted or refused that wasn't; the reports and the venue are those of before
pub record ReadAsBefore (v : Venue) (x : Event) (n : ℕ) : Type 0 where
  pub refusal : refusal_read (refusal v x n) ≡ refusal_with before_no3 v x n
  pub answer : answer_read (step v x n).answer ≡ (step_with before_no3 v x n).answer
  pub venue : (step v x n).venue ≡ (step_with before_no3 v x n).venue

abbrev pub CodesAsBefore : Type 0
CodesAsBefore = (v : Venue) (x : Event) (n : ℕ) → ReadAsBefore v x n

-- the same of every call of apply, on any words and any buffer
abbrev pub CallAsBefore : List ℕ → Event → List ℕ → Outcome ℕ → List ℕ → List ℕ → Type 0
CallAsBefore w x b answer w' b' = CallDoes (step_in_with before_no3 w x (length b)) b (answer_read answer) w' b'

abbrev pub CallsAsBefore : Type 0
CallsAsBefore =
    (w : List ℕ) (x : Event) (b : List ℕ) (answer : Outcome ℕ) (w' b' : List ℕ) → Applied w x b answer w' b' → CallAsBefore w x b answer w' b'
