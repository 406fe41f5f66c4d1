-- The account of demand 3: document 01, "The account is fed the close given to open, then each event, its answer and its reports."
-- No definition here names the venue. Assumes nothing.
use Rattle.std.specs.Prelude.{ℕ, ◌+◌, Bool, not, eqb}
use mathlib.Core.List.{List, [], ◌∷◌, foldl}
use Rattle.numbers.specs.Tests.{pick}
use Rattle.numbers.specs.Answers.{Outcome, gives, refuses}
use Rattle.book.specs.rules.Orders.{if_same}
use Rattle.book.specs.rules.Matching.{Execution}
use Rattle.engine.specs.declared.Market.{Market}
use Rattle.engine.specs.declared.Entry.{Entry}
use Rattle.engine.specs.declared.Event.{Event}
use Rattle.engine.specs.declared.Event.TheVariants.{Entry as entry, Cancel as cancel, Bid as bid, Tape as tape, DayEnd as day_end, OwnedEntry as owned_entry, TimedTape as timed_tape}
use Rattle.engine.specs.rules.Market.{opening_market, market_after}
use Rattle.engine.specs.rules.Reports.{Report, accepted, executed, cancelled, repriced, restriction_starts, day_ended, pause_triggered}
use Rattle.engine.specs.rules.Run.{Answered}

-- one side of an execution, as the account has it at that moment: the market then, the price, the order's mark and show, whether it was
-- resting, its price last given and the bid then in force
pub record Fill : Type 0 where
  pub market : Market
  pub price : ℕ
  pub mark : ℕ
  pub show : ℕ
  pub resting : Bool
  pub last_given : ℕ
  pub bid_then : ℕ

-- The tallies, a column for each item of a tally: what a column has at k is said of the order with id k, 0 where there is no tally.
-- last_given is the price last given, bid_then the bid then in force, working the id of the working order
pub record Tallies : Type 0 where
  pub mark : ℕ → ℕ
  pub show : ℕ → ℕ
  pub entered : ℕ → ℕ
  pub executed : ℕ → ℕ
  pub cancelled : ℕ → ℕ
  pub last_given : ℕ → ℕ
  pub bid_then : ℕ → ℕ
  pub working : ℕ
  pub fills : List Fill

pub record Account : Type 0 where
  pub market : Market
  pub tallies : Tallies

-- the column with x at k; the column with q more at k
unfoldable pub set_at : {A : Type 0} → ℕ → A → (ℕ → A) → ℕ → A
set_at k x f j = pick (eqb j k) x (f j)

abbrev pub add_at : ℕ → ℕ → (ℕ → ℕ) → ℕ → ℕ
add_at k q f j = f j + if_same j k q

-- no tallies, no working order, no executions
abbrev pub no_tallies : Tallies
no_tallies =
    record {
      mark = λ k. 0;
      show = λ k. 0;
      entered = λ k. 0;
      executed = λ k. 0;
      cancelled = λ k. 0;
      last_given = λ k. 0;
      bid_then = λ k. 0;
      working = 0;
      fills = [];
    }

-- "It starts with phase 0, bid 0 and no tallies"; the market carries the step given to open, s, which is never read
abbrev pub fresh_account : ℕ → ℕ → Account
fresh_account s close = record { market = opening_market s close; tallies = no_tallies }

-- "An accepted entry starts a tally for its id: mark, show, shares entered, executed 0, cancelled 0"
abbrev pub start_tally : Entry → Tallies → Tallies
start_tally e c =
    record {
      mark = set_at e.id e.mark c.mark;
      show = set_at e.id e.show c.show;
      entered = set_at e.id e.shares c.entered;
      executed = set_at e.id 0 c.executed;
      cancelled = set_at e.id 0 c.cancelled;
      last_given = c.last_given;
      bid_then = c.bid_then;
      working = c.working;
      fills = c.fills;
    }

-- No. 7: kind 6 "is an entry" too
abbrev pub tallies_after : Event → Tallies → Tallies
tallies_after (entry e) c = start_tally e c
tallies_after (cancel i) c = c
tallies_after (bid b) c = c
tallies_after (tape p) c = c
tallies_after (day_end x) c = c
tallies_after (owned_entry e k) c = start_tally e c
tallies_after (timed_tape x) c = c

-- "Report 1 or 4 notes its price and that bid in the tally of its id, as last given; that order is now the working one"
abbrev pub give_price : ℕ → ℕ → ℕ → Tallies → Tallies
give_price b k p c =
    record {
      mark = c.mark;
      show = c.show;
      entered = c.entered;
      executed = c.executed;
      cancelled = c.cancelled;
      last_given = set_at k p c.last_given;
      bid_then = set_at k b c.bid_then;
      working = k;
      fills = c.fills;
    }

-- "the one that isn't working was resting, and its own price is the one last given"
abbrev pub fill_of : Market → Tallies → ℕ → ℕ → Fill
fill_of m c k p =
    record {
      market = m;
      price = p;
      mark = c.mark k;
      show = c.show k;
      resting = not (eqb k c.working);
      last_given = c.last_given k;
      bid_then = c.bid_then k;
    }

-- "Report 2 adds its shares to executed for buyer and seller"
abbrev pub read_execution : Market → Tallies → Execution → Tallies
read_execution m c x =
    record {
      mark = c.mark;
      show = c.show;
      entered = c.entered;
      executed = add_at x.buyer x.shares (add_at x.seller x.shares c.executed);
      cancelled = c.cancelled;
      last_given = c.last_given;
      bid_then = c.bid_then;
      working = c.working;
      fills = fill_of m c x.buyer x.price ∷ fill_of m c x.seller x.price ∷ c.fills;
    }

-- "Report 3 adds its shares to cancelled", whatever its cause; No. 7: "Shares cancelled so count as cancelled"
abbrev pub read_cancelled : ℕ → ℕ → Tallies → Tallies
read_cancelled k q c =
    record {
      mark = c.mark;
      show = c.show;
      entered = c.entered;
      executed = c.executed;
      cancelled = add_at k q c.cancelled;
      last_given = c.last_given;
      bid_then = c.bid_then;
      working = c.working;
      fills = c.fills;
    }

-- one report; m is the market after its event: "the bid and phase of their moment are those after the event"
abbrev pub read_report : Market → Tallies → Report → Tallies
read_report m c (accepted k s p) = give_price m.bid k p c
read_report m c (repriced k p s) = give_price m.bid k p c
read_report m c (executed x) = read_execution m c x
read_report m c (cancelled k q z) = read_cancelled k q c
read_report m c restriction_starts = c
read_report m c (day_ended p) = c
read_report m c (pause_triggered d p) = c

-- one event with its answer: "A refused event changes nothing"
abbrev pub account_after : Account → Event → Outcome (List Report) → Account
account_after a e (refuses n) = a
account_after a e (gives rs) =
    let m : Market = market_after e a.market in
    record { market = m; tallies = foldl (read_report m) (tallies_after e a.tallies) rs }

abbrev pub account_from : Account → List Answered → Account
account_from a xs = foldl (λ (b : Account) (x : Answered). account_after b x.event x.answer) a xs

-- the account of a step and a close, and of events with their answers
abbrev pub account_of : ℕ → ℕ → List Answered → Account
account_of s close xs = account_from (fresh_account s close) xs
