-- One event, and a list of events: document 01, "The account of demand 3". Assumes nothing.
use Rattle.std.specs.Prelude.{ℕ, List, [], ◌∷◌}
use Rattle.std.proofs.Math.Option.{Option, none, some}
use Rattle.numbers.specs.Answers.{Outcome, gives, refuses}
use Rattle.engine.specs.declared.Event.{Event}
use Rattle.engine.specs.rules.Market.{market_after}
use Rattle.engine.specs.rules.Reports.{Report}
use Rattle.engine.specs.rules.Pass.{Effect}
use Rattle.engine.specs.rules.Venue.{Venue, effect_of, venue_after}
use Rattle.engine.specs.rules.Refusals.{refusal}

-- what an event answers, its reports or a refusal, and the venue after it
pub record Step : Type 0 where
  pub answer : Outcome (List Report)
  pub venue : Venue

-- a refused event changes nothing
unfoldable pub step_unless : Option ℕ → Venue → Event → Step
step_unless (some n) v e = record { answer = refuses n; venue = v }
step_unless none v e =
    let x : Effect = effect_of (market_after e v.market) v e in
    record { answer = gives x.reports; venue = venue_after v e x }

-- n is the length of the lent report buffer
unfoldable pub step : Venue → Event → ℕ → Step
step v e n = step_unless (refusal v e n) v e

-- an event with the length of the report buffer lent to it
pub record Call : Type 0 where
  pub event : Event
  pub buffer : ℕ

-- an event with its answer
pub record Answered : Type 0 where
  pub event : Event
  pub answer : Outcome (List Report)

pub record Run : Type 0 where
  pub answered : List Answered
  pub venue : Venue

-- "The first event gets the venue .., each later one the venue that the event before it returned or, refused, left"
unfoldable pub run : Venue → List Call → Run
run v [] = record { answered = []; venue = v }
run v (c ∷ cs) =
    let s : Step = step v c.event c.buffer in
    let r : Run = run s.venue cs in
    record { answered = record { event = c.event; answer = s.answer } ∷ r.answered; venue = r.venue }
