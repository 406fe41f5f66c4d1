-- Document 01, "Twelve sums, and one day", a day of market orders, one at a step of 50, days of falls, entries with bad codes, questions whether an entry would fill, days of firms, full books, slid prices and timed prices, as statements about the definitions. Assumes nothing.
use Rattle.std.specs.Prelude.{ℕ, zero, suc, ◌+◌, ◌≤◌, ◌<◌, ◌≡◌, Bool, true, false, not, T, eqb, length, replicate}
use mathlib.Core.List.{List, [], ◌∷◌, map, foldl}
use Rattle.numbers.specs.Tests.{conj, All}
use Rattle.numbers.specs.Answers.{Outcome, gives, refuses}
use Rattle.numbers.specs.SevenBit.{byte_count}
use Rattle.prices.specs.declared.TimedPrice.{TimedPrice}
use Rattle.prices.specs.Prices.{is_bid, permitted, permitted_of}
use Rattle.prices.specs.Restriction.{triggers}
use Rattle.prices.specs.Watch.{watch_outcome}
use Rattle.book.specs.declared.Order.{Order}
use Rattle.book.specs.declared.FrontRead.{FrontRead}
use Rattle.engine.specs.declared.Event.{Event}
use Rattle.engine.specs.declared.Event.TheVariants.{Entry as entry, Cancel as cancel, Bid as bid, Tape as tape, DayEnd as day_end, OwnedEntry as owned_entry, TimedTape as timed_tape}
use Rattle.engine.specs.rules.Reports.{Report, accepted, executed, cancelled, repriced, restriction_starts, day_ended, pause_triggered}
use Rattle.engine.specs.rules.Venue.{Venue, opened, opening}
use Rattle.engine.specs.rules.Refusals.{least_buffer}
use Rattle.engine.specs.rules.Run.{Call, Answered, step, run}
use Rattle.engine.specs.rules.Fill.{would_fill}
use Rattle.engine.specs.claims.Owners.{Owners, owners_of}
use Rattle.engine.specs.claims.Stamps.{StampedTrade, stamps_of}
use Rattle.engine.specs.claims.SlidPrices.{PricesGiven, prices_of, OnlyFallFor}

-- "Shown together by one check of the definitions"
abbrev pub twelve_sums : List Bool
twelve_sums =
    eqb (permitted 100 9_998) 9_999 ∷ eqb (permitted 100 9_999) 10_000 ∷ eqb (permitted 100 10_000) 10_100 ∷ eqb (permitted 100 99_999_900) 100_000_000
    ∷ triggers 100_000 90_000 ∷ not (triggers 100_000 90_100) ∷ triggers 9_999 8_999 ∷ not (triggers 9_999 9_000)
    ∷ eqb (byte_count 0) 1 ∷ eqb (byte_count 127) 1 ∷ eqb (byte_count 128) 2 ∷ eqb (byte_count 16_384) 3 ∷ []

abbrev pub TwelveSums : Type 0
TwelveSums = T (conj twelve_sums)

-- three of their kind at a step of 50, and that the highest price is no bid (No. 2)
abbrev pub half_cent_sums : List Bool
half_cent_sums =
    eqb (permitted 50 9_999) 10_000 ∷ eqb (permitted 50 10_000) 10_050 ∷ eqb (permitted 50 99_999_950) 100_000_000 ∷ not (is_bid 50 100_000_000) ∷ []

abbrev pub HalfCentSums : Type 0
HalfCentSums = T (conj half_cent_sums)

-- the events of the day that opens at 100,000
abbrev pub entry_of : ℕ → ℕ → ℕ → ℕ → ℕ → ℕ → ℕ → Event
entry_of id mark price shares show life slide =
    entry (record { id = id; mark = mark; price = price; shares = shares; show = show; life = life; slide = slide })

abbrev pub day_events : List Event
day_events =
    bid 91_000 ∷ tape 90_000 ∷ entry_of 1 2 90_500 500 1 0 0 ∷ entry_of 2 0 91_100 200 1 0 0 ∷ bid 90_700 ∷ bid 90_200 ∷ cancel 1 ∷ day_end 90_000 ∷ []

-- the reports of each of them
abbrev pub day_reports : List (List Report)
day_reports =
    []
    ∷ (restriction_starts ∷ [])
    ∷ (accepted 1 1 91_100 ∷ [])
    ∷ (accepted 2 2 91_100 ∷ executed (record { buyer = 2; seller = 1; price = 91_100; shares = 200 }) ∷ [])
    ∷ (repriced 1 90_800 3 ∷ [])
    ∷ (repriced 1 90_500 4 ∷ [])
    ∷ (cancelled 1 300 1 ∷ [])
    ∷ (day_ended 2 ∷ [])
    ∷ []

abbrev pub call_of : Event → Call
call_of e = record { event = e; buffer = least_buffer }

-- the answers to events from a venue, and from one opened with the step s and the close 100,000; those at a step of 100, and the last of them
abbrev pub answers_from : Venue → List Event → List (Outcome (List Report))
answers_from v es = map (λ (x : Answered). x.answer) (run v (map call_of es)).answered

abbrev pub answers_at : ℕ → List Event → List (Outcome (List Report))
answers_at s es = answers_from (opened s 100_000) es

abbrev pub answers_to : List Event → List (Outcome (List Report))
answers_to es = answers_at 100 es

abbrev pub last_answer_at : ℕ → List Event → Outcome (List Report)
last_answer_at s es = foldl (λ (before : Outcome (List Report)) (x : Outcome (List Report)). x) (refuses 0) (answers_at s es)

abbrev pub last_answer_to : List Event → Outcome (List Report)
last_answer_to es = last_answer_at 100 es

-- events after two that turn the restriction on, with a bid of 91,000
abbrev pub restricted_day : List Event → List Event
restricted_day es = bid 91_000 ∷ tape 90_000 ∷ es

abbrev pub trade_of : ℕ → ℕ → ℕ → ℕ → Report
trade_of buyer seller price shares = executed (record { buyer = buyer; seller = seller; price = price; shares = shares })

-- a day of market orders (No. 1), and the reports of each event: a market short follows the bid, stays while there is none, and trades where it
-- stands; the other market orders are immediate
abbrev pub market_day_events : List Event
market_day_events =
    restricted_day (entry_of 1 2 0 500 1 0 0 ∷ bid 90_000 ∷ bid 0 ∷ entry_of 2 0 0 200 1 0 0 ∷ bid 90_500 ∷ entry_of 3 0 0 400 1 0 0 ∷ entry_of 4 2 0 100 1 1 0
    ∷ entry_of 5 1 0 50 1 0 0 ∷ bid 0 ∷ entry_of 6 2 0 30 0 0 3 ∷ entry_of 7 0 90_000 10 1 0 0 ∷ entry_of 8 2 0 30 0 0 3 ∷ [])

abbrev pub market_day_reports : List (List Report)
market_day_reports =
    []
    ∷ (restriction_starts ∷ [])
    ∷ (accepted 1 1 91_100 ∷ [])
    ∷ (repriced 1 90_100 2 ∷ [])
    ∷ []
    ∷ (accepted 2 3 100_000_000 ∷ trade_of 2 1 90_100 200 ∷ [])
    ∷ []
    ∷ (accepted 3 4 100_000_000 ∷ trade_of 3 1 90_100 300 ∷ cancelled 3 100 2 ∷ [])
    ∷ (accepted 4 5 90_600 ∷ cancelled 4 100 2 ∷ [])
    ∷ (accepted 5 6 1 ∷ cancelled 5 50 2 ∷ [])
    ∷ []
    ∷ (accepted 6 7 1 ∷ cancelled 6 30 2 ∷ [])
    ∷ (accepted 7 8 90_000 ∷ [])
    ∷ (accepted 8 9 1 ∷ trade_of 7 8 90_000 10 ∷ cancelled 8 20 2 ∷ [])
    ∷ []

-- a day at a step of 50 (No. 2), and the answer to each event: prices and bids of half a cent, the border, and the highest bid
abbrev pub half_cent_events : List Event
half_cent_events =
    restricted_day (entry_of 1 2 90_550 500 1 0 0 ∷ bid 90_750 ∷ bid 90_250 ∷ entry_of 2 0 90_555 100 1 0 0 ∷ bid 9_999 ∷ bid 10_000 ∷ bid 99_999_950
    ∷ bid 100_000_000 ∷ tape 10_050 ∷ tape 10_025 ∷ [])

abbrev pub half_cent_answers : List (Outcome (List Report))
half_cent_answers =
    gives []
    ∷ gives (restriction_starts ∷ [])
    ∷ gives (accepted 1 1 91_050 ∷ [])
    ∷ gives (repriced 1 90_800 2 ∷ [])
    ∷ gives (repriced 1 90_550 3 ∷ [])
    ∷ refuses 3
    ∷ gives []
    ∷ gives []
    ∷ gives []
    ∷ refuses 3
    ∷ gives []
    ∷ refuses 3
    ∷ []

-- days of falls (No. 6), and the reports of each event: a fall on the carried day starts a new period, one on the same day doesn't, and a day without one ends it
abbrev pub falling_events : List Event
falling_events =
    tape 90_000 ∷ tape 80_000 ∷ day_end 100_000 ∷ tape 90_100 ∷ tape 90_000 ∷ tape 90_000 ∷ day_end 90_000 ∷ day_end 90_000 ∷ tape 81_000 ∷ []

abbrev pub falling_reports : List (List Report)
falling_reports =
    (restriction_starts ∷ []) ∷ [] ∷ (day_ended 2 ∷ []) ∷ [] ∷ (restriction_starts ∷ []) ∷ [] ∷ (day_ended 2 ∷ []) ∷ (day_ended 0 ∷ []) ∷ (restriction_starts ∷ []) ∷ []

-- a short that rests while the price falls again
abbrev pub second_fall_events : List Event
second_fall_events =
    tape 90_000 ∷ day_end 90_000 ∷ bid 80_000 ∷ entry_of 1 2 80_000 5 1 0 0 ∷ tape 81_000 ∷ tape 70_000 ∷ day_end 81_000 ∷ []

abbrev pub second_fall_reports : List (List Report)
second_fall_reports =
    (restriction_starts ∷ []) ∷ (day_ended 2 ∷ []) ∷ [] ∷ (accepted 1 1 80_100 ∷ []) ∷ (restriction_starts ∷ []) ∷ [] ∷ (cancelled 1 5 4 ∷ day_ended 2 ∷ []) ∷ []

-- the one day, for each of "Slides gone wrong" events and what the last of them reports, market orders, half cents, days of falls at both steps, and a short that rests through a second fall
pub record Played : Type 0 where
  pub the_day : answers_to day_events ≡ map gives day_reports
  -- "Re-pricing a clear displayed order when the bid rises over it. It stays and may trade there."
  pub clear_stays : last_answer_to (restricted_day (entry_of 1 2 91_100 5 1 0 0 ∷ bid 91_200 ∷ entry_of 2 0 91_100 5 1 0 0 ∷ [])) ≡ gives (accepted 2 2 91_100 ∷ trade_of 2 1 91_100 5 ∷ [])
  -- "Leaving a hidden short at the bid."
  pub hidden_moves : last_answer_to (restricted_day (entry_of 1 2 91_100 5 0 0 0 ∷ bid 91_100 ∷ [])) ≡ gives (repriced 1 91_200 2 ∷ [])
  -- "Sliding down without matching, so the book locks."
  pub sliding_matches : last_answer_to (restricted_day (entry_of 1 2 90_000 5 1 0 0 ∷ entry_of 2 0 90_500 5 1 0 0 ∷ bid 90_200 ∷ [])) ≡ gives (repriced 1 90_300 3 ∷ trade_of 2 1 90_500 5 ∷ [])
  -- "Keeping the old stamp after a re-pricing.": the long sell, now the older one at 90,800, trades first
  pub new_stamp : last_answer_to (restricted_day (entry_of 1 2 90_500 5 1 0 0 ∷ entry_of 2 1 90_800 5 1 0 0 ∷ bid 90_700 ∷ entry_of 3 0 90_800 5 1 0 0 ∷ [])) ≡ gives (accepted 3 4 90_800 ∷ trade_of 3 2 90_800 5 ∷ [])
  -- "Trusting a short shown at the bid before the trigger. It isn't clear."
  pub not_clear : last_answer_to (bid 91_000 ∷ entry_of 1 2 91_000 5 1 0 0 ∷ tape 90_000 ∷ []) ≡ gives (restriction_starts ∷ repriced 1 91_100 2 ∷ [])
  -- a hidden order with slide once goes down to its entry bid, is pushed up again, and then stays
  pub once_only : last_answer_to (restricted_day (entry_of 1 2 90_000 5 0 0 1 ∷ bid 90_500 ∷ bid 91_000 ∷ bid 90_500 ∷ [])) ≡ gives []
  pub market_day : answers_to market_day_events ≡ map gives market_day_reports
  -- a short entered with limit 1 isn't a market short, and falls to 1
  pub limit_one : last_answer_to (restricted_day (entry_of 1 2 1 5 1 0 0 ∷ bid 0 ∷ [])) ≡ gives (repriced 1 1 2 ∷ [])
  -- a bid of 1 is a bid
  pub bid_of_one : last_answer_to (restricted_day (entry_of 1 2 0 5 1 0 0 ∷ bid 1 ∷ [])) ≡ gives (repriced 1 2 2 ∷ [])
  -- with no bid an order with slide once isn't used up: it goes to its entry bid when a bid comes back
  pub once_kept : last_answer_to (restricted_day (entry_of 1 2 0 5 1 0 1 ∷ bid 0 ∷ bid 90_500 ∷ [])) ≡ gives (repriced 1 91_000 2 ∷ [])
  pub half_cent_day : answers_at 50 half_cent_events ≡ half_cent_answers
  pub falling_days : All (λ (s : ℕ). answers_at s falling_events ≡ map gives falling_reports) (100 ∷ 50 ∷ [])
  pub second_fall : answers_to second_fall_events ≡ map gives second_fall_reports

-- entries with one or more bad fields (No. 3), and the refusal of the one that is looked for first: codes (mark, show, life, slide); an id alone and beside a
-- code; a price and shares beside one
abbrev pub codes_of : ℕ → ℕ → ℕ → ℕ → Event
codes_of mark show life slide = entry_of 1 mark 90_000 100 show life slide

abbrev pub bad_entries : List Event
bad_entries =
    codes_of 4 2 2 9 ∷ codes_of 0 2 2 9 ∷ codes_of 0 1 2 9 ∷ codes_of 0 1 1 9 ∷ codes_of 0 1 1 1 ∷ codes_of 3 1 1 3 ∷ codes_of 2 1 1 4
    ∷ entry_of 0 2 90_000 100 1 1 3 ∷ entry_of 0 9 90_000 100 1 1 3 ∷ entry_of 1 9 90_001 100 1 1 3 ∷ entry_of 1 9 90_000 0 1 1 3 ∷ []

abbrev pub first_bad : List ℕ
first_bad = 18 ∷ 5 ∷ 5 ∷ 19 ∷ 20 ∷ 20 ∷ 19 ∷ 6 ∷ 18 ∷ 3 ∷ 4 ∷ []

abbrev pub CodesInOrder : Type 0
CodesInOrder = All (λ (s : ℕ). answers_at s bad_entries ≡ map refuses first_bad) (100 ∷ 50 ∷ [])

-- would it fill (No. 4), a mark, a price and shares asked of books of a restricted day, and the answers worked out by hand
pub record Question : Type 0 where
  pub mark : ℕ
  pub price : ℕ
  pub shares : ℕ

abbrev pub ask : ℕ → ℕ → ℕ → Question
ask mark price shares = record { mark = mark; price = price; shares = shares }

abbrev pub told_to : Venue → List Question → List (Outcome FrontRead)
told_to v qs = map (λ (q : Question). would_fill v q.mark q.price q.shares) qs

abbrev pub yes : ℕ → Outcome FrontRead
yes n = gives (record { fills = true; read = n })

abbrev pub no : ℕ → Outcome FrontRead
no n = gives (record { fills = false; read = n })

-- a restricted short reaches the orders 3 and 4 alone, at 91,100
abbrev pub fill_events : List Event
fill_events = restricted_day (entry_of 1 0 90_900 100 1 0 0 ∷ entry_of 2 1 91_500 50 1 0 0 ∷ entry_of 3 0 91_200 300 1 0 0 ∷ entry_of 4 0 91_100 200 1 0 0 ∷ [])

abbrev pub fill_questions : List Question
fill_questions =
    ask 2 90_000 300 ∷ ask 2 90_000 400 ∷ ask 2 90_000 501 ∷ ask 2 0 500 ∷ ask 1 90_000 100 ∷ ask 0 91_500 50 ∷ ask 0 0 51
    ∷ ask 9 90_050 0 ∷ ask 9 0 0 ∷ ask 9 0 1 ∷ []

abbrev pub fill_answers : List (Outcome FrontRead)
fill_answers = yes 3 ∷ yes 4 ∷ no 4 ∷ yes 4 ∷ yes 1 ∷ yes 2 ∷ no 4 ∷ refuses 3 ∷ refuses 4 ∷ refuses 18 ∷ []

-- at a step of 50, where it reaches a hidden order at 91,050 too
abbrev pub half_cent_fill_events : List Event
half_cent_fill_events =
    restricted_day (entry_of 1 0 90_900 100 1 0 0 ∷ entry_of 2 1 91_500 50 1 0 0 ∷ entry_of 3 0 91_200 300 1 0 0 ∷ entry_of 4 0 91_050 200 0 0 0 ∷ [])

abbrev pub half_cent_questions : List Question
half_cent_questions =
    ask 2 90_000 500 ∷ ask 2 91_050 500 ∷ ask 2 91_100 301 ∷ ask 3 90_000 600 ∷ ask 3 90_000 601 ∷ ask 9 90_025 0 ∷ ask 9 90_050 0 ∷ []

abbrev pub half_cent_fill_answers : List (Outcome FrontRead)
half_cent_fill_answers = yes 4 ∷ yes 4 ∷ no 4 ∷ yes 4 ∷ no 4 ∷ refuses 3 ∷ refuses 4 ∷ []

-- no orders, in a phase, after so many accepted events
abbrev pub empty_venue : ℕ → ℕ → Venue
empty_venue phase events =
    record { market = record { close = 100_000; phase = phase; bid = 91_000; step = 100 }; orders = []; kept = []; last_id = 0; last_stamp = 0; accepted_events = events }

abbrev pub venue_after_at : ℕ → List Event → Venue
venue_after_at s es = (run (opened s 100_000) (map call_of es)).venue

pub record FillsTold : Type 0 where
  pub cents : told_to (venue_after_at 100 fill_events) fill_questions ≡ fill_answers
  pub half_cents : told_to (venue_after_at 50 half_cent_fill_events) half_cent_questions ≡ half_cent_fill_answers
  pub empty : would_fill (empty_venue 2 2) 0 0 1 ≡ no 0
  pub spent : would_fill (empty_venue 2 16_777_215) 0 0 1 ≡ no 0
  pub broken : would_fill (empty_venue 3 2) 9 90_050 0 ≡ refuses 16

-- firms (No. 7): entries with an owner
abbrev pub owned_of : ℕ → ℕ → ℕ → ℕ → ℕ → ℕ → ℕ → ℕ → Event
owned_of id mark price shares show life slide owner =
    owned_entry (record { id = id; mark = mark; price = price; shares = shares; show = show; life = life; slide = slide }) owner

-- a displayed one for the day
abbrev pub of_firm : ℕ → ℕ → ℕ → ℕ → ℕ → Event
of_firm owner id mark price shares = owned_of id mark price shares 1 0 0 owner

abbrev pub firm_events : List Event
firm_events = of_firm 7 1 0 90_000 100 ∷ of_firm 8 2 0 90_100 50 ∷ of_firm 7 3 0 90_200 30 ∷ of_firm 7 4 1 90_000 100 ∷ []

-- entries with an owner out of range, alone and beside another bad field, and what each is refused for
abbrev pub bad_owners : List Event
bad_owners =
    of_firm 0 1 0 90_000 100 ∷ of_firm 65_536 1 0 90_000 100 ∷ owned_of 1 0 90_000 100 1 0 1 0 ∷ of_firm 0 0 0 90_000 100 ∷ of_firm 7 0 0 90_000 100
    ∷ of_firm 0 1 0 90_000 0 ∷ []

abbrev pub owners_refused : List ℕ
owners_refused = 21 ∷ 21 ∷ 20 ∷ 21 ∷ 6 ∷ 4 ∷ []

-- the id, the shares and the owner of each resting order
abbrev pub resting_at : ℕ → List Event → List (List ℕ)
resting_at s es = map (λ (o : Order). o.id ∷ o.shares ∷ o.owner ∷ []) (venue_after_at s es).orders

pub record FirmsPlayed (s : ℕ) : Type 0 where
  -- the best reached order is looked at, each time anew: 3 and 1 are the firm's own, 2 isn't
  pub entry_meets : last_answer_at s firm_events ≡ gives (accepted 4 4 90_000 ∷ cancelled 3 30 5 ∷ trade_of 2 4 90_100 50 ∷ cancelled 1 100 5 ∷ [])
  pub left_resting : resting_at s firm_events ≡ (4 ∷ 50 ∷ 7 ∷ []) ∷ []
  -- "This holds in the pass as well"
  pub pass_meets : last_answer_at s (restricted_day (of_firm 7 1 2 90_000 100 ∷ of_firm 7 2 0 90_800 40 ∷ of_firm 8 3 0 90_900 40 ∷ bid 90_000 ∷ [])) ≡ gives (repriced 1 (permitted s 90_000) 4 ∷ trade_of 3 1 90_900 40 ∷ cancelled 2 40 5 ∷ [])
  pub bad_owners : answers_at s bad_owners ≡ map refuses owners_refused
  -- an own order behind the one that fills the working order stays
  pub behind_stays : last_answer_at s (of_firm 7 1 0 90_000 100 ∷ of_firm 8 2 0 90_100 50 ∷ of_firm 7 3 1 90_000 50 ∷ []) ≡ gives (accepted 3 3 90_000 ∷ trade_of 2 3 90_100 50 ∷ [])
  -- an immediate order that finds its owner's alone is still cancelled, an adjusted opt-out too, and so is a market order
  pub immediate : last_answer_at s (of_firm 7 1 0 90_000 100 ∷ owned_of 2 1 90_000 40 1 1 0 7 ∷ []) ≡ gives (accepted 2 2 90_000 ∷ cancelled 1 100 5 ∷ cancelled 2 40 2 ∷ [])
  pub opted_out : last_answer_at s (restricted_day (of_firm 7 1 0 91_200 100 ∷ owned_of 2 2 90_000 40 1 0 3 7 ∷ [])) ≡ gives (accepted 2 2 (permitted s 91_000) ∷ cancelled 1 100 5 ∷ cancelled 2 40 3 ∷ [])
  pub market : last_answer_at s (of_firm 65_535 1 1 90_000 10 ∷ of_firm 65_535 2 0 0 5 ∷ []) ≡ gives (accepted 2 2 100_000_000 ∷ cancelled 1 10 5 ∷ cancelled 2 5 2 ∷ [])
  -- owner 0 is no firm
  pub nobodys : last_answer_at s (entry_of 1 0 90_000 100 1 0 0 ∷ entry_of 2 1 90_000 100 1 0 0 ∷ []) ≡ gives (accepted 2 2 90_000 ∷ trade_of 1 2 90_000 100 ∷ [])
  -- the account of the first list: one execution, of firms 8 and 7, and two of 7's own withdrawn
  pub account_of_list :
      let c : Owners = owners_of (run (opened s 100_000) (map call_of firm_events)).answered in
      (c.trades ≡ record { buyer = 8; seller = 7 } ∷ [])
      × (c.withdrawals ≡ record { working = 4; withdrawn = 1; working_owner = 7; withdrawn_owner = 7 } ∷ record { working = 4; withdrawn = 3; working_owner = 7; withdrawn_owner = 7 } ∷ [])

abbrev pub FirmsPlayedAtBoth : Type 0
FirmsPlayedAtBoth = All FirmsPlayed (100 ∷ 50 ∷ [])

-- full books (No. 8): a resting buy of 1 share at 100, with its id and stamp; n of them from the id i on
abbrev pub buy_of : ℕ → ℕ → Order
buy_of owner i =
    record {
      id = i;
      mark = 0;
      limit = 100;
      shares = 1;
      show = 1;
      life = 0;
      slide = 0;
      stamp = i;
      price = 100;
      entry_bid = 0;
      adjusted = false;
      used = false;
      clear = true;
      market = false;
      owner = owner;
    }

abbrev pub buys_from : ℕ → ℕ → ℕ → List Order
buys_from owner i zero = []
buys_from owner i (suc n) = buy_of owner i ∷ buys_from owner (i + 1) n

-- n of them and no other order rest; b is the bid
abbrev pub venue_of_buys : ℕ → ℕ → ℕ → ℕ → ℕ → Venue
venue_of_buys n s phase b owner =
    record {
      market = record { close = 100_000; phase = phase; bid = b; step = s };
      orders = buys_from owner 1 n;
      kept = [];
      last_id = n;
      last_stamp = n;
      accepted_events = n;
    }

abbrev pub full_venue : ℕ → ℕ → ℕ → ℕ → Venue
full_venue = venue_of_buys 256

-- a displayed entry of 1 share without a slide
abbrev pub one_share : ℕ → ℕ → ℕ → ℕ → Event
one_share id mark price life = entry_of id mark price 1 1 life 0

-- the entries of the buys, of kind 1; where the restriction is off and there is no bid, they lead there from open
abbrev pub buy_entries_from : ℕ → ℕ → List Event
buy_entries_from i zero = []
buy_entries_from i (suc n) = one_share i 0 100 0 ∷ buy_entries_from (i + 1) n

abbrev pub FullBookReached : Type 0
FullBookReached = All (λ (s : ℕ). venue_after_at s (buy_entries_from 1 256) ≡ full_venue s 0 0 0) (100 ∷ 50 ∷ [])

pub record FullBookPlayed (s : ℕ) : Type 0 where
  -- "It is now handled as any other; only the remaining orders meet 7"
  pub handled :
      answers_from (full_venue s 0 0 0) (entry_of 257 0 100 5 1 1 0 ∷ entry_of 258 0 100 5 1 0 0 ∷ one_share 259 1 0 0 ∷ [])
      ≡ gives (accepted 257 257 100 ∷ cancelled 257 5 2 ∷ []) ∷ refuses 7 ∷ gives (accepted 259 258 1 ∷ trade_of 1 259 100 1 ∷ []) ∷ []
  -- by its terms and not by what would become of it: one that would fill in full meets 7; the same as immediate or cancel trades, and a buy takes the place that
  -- is left; 6 comes first
  pub by_terms :
      answers_from (full_venue s 0 0 0) (one_share 257 1 100 0 ∷ one_share 256 1 100 0 ∷ one_share 257 1 100 1 ∷ one_share 258 0 100 0 ∷ one_share 259 0 100 0 ∷ [])
      ≡ refuses 7 ∷ refuses 6 ∷ gives (accepted 257 257 100 ∷ trade_of 1 257 100 1 ∷ []) ∷ gives (accepted 258 258 100 ∷ []) ∷ refuses 7 ∷ []
  -- restricted, with a bid: an opt-out that would be adjusted and a market short meet 7, an immediate market short, a market buy and a market short exempt don't
  pub with_a_bid :
      answers_from (full_venue s 1 50 0) (entry_of 257 2 40 1 1 0 3 ∷ one_share 257 2 0 0 ∷ one_share 257 0 0 0 ∷ one_share 258 2 0 1 ∷ [])
      ≡ refuses 7 ∷ refuses 7 ∷ gives (accepted 257 257 100_000_000 ∷ cancelled 257 1 2 ∷ []) ∷ gives (accepted 258 258 51 ∷ trade_of 1 258 100 1 ∷ []) ∷ []
  pub exempt : answers_from (full_venue s 1 50 0) (one_share 257 3 0 0 ∷ []) ≡ gives (accepted 257 257 1 ∷ trade_of 1 257 100 1 ∷ []) ∷ []
  -- with no bid, or not restricted, a market short is taken as immediate or cancel
  pub without_a_bid : answers_from (full_venue s 2 0 0) (one_share 257 2 0 0 ∷ []) ≡ gives (accepted 257 257 1 ∷ trade_of 1 257 100 1 ∷ []) ∷ []
  pub not_restricted : answers_from (full_venue s 0 50 0) (one_share 257 2 0 0 ∷ []) ≡ gives (accepted 257 257 1 ∷ trade_of 1 257 100 1 ∷ []) ∷ []
  -- kind 6: 21 comes first, and 7 meets one whose owner's orders would go
  pub of_firms :
      answers_from (full_venue s 0 0 7) (owned_of 257 1 100 1 1 0 0 0 ∷ owned_of 257 1 100 1 1 0 0 7 ∷ owned_of 257 1 100 1 1 0 0 8 ∷ owned_of 257 1 100 1 1 1 0 8 ∷ [])
      ≡ refuses 21 ∷ refuses 7 ∷ refuses 7 ∷ gives (accepted 257 257 100 ∷ trade_of 1 257 100 1 ∷ []) ∷ []

abbrev pub FullBookPlayedAtBoth : Type 0
FullBookPlayedAtBoth = All FullBookPlayed (100 ∷ 50 ∷ [])

-- slid prices (No. 9): an event with its reports, and one with its refusal
abbrev pub gets : Event → List Report → Answered
gets e rs = record { event = e; answer = gives rs }

abbrev pub is_refused : Event → ℕ → Answered
is_refused e n = record { event = e; answer = refuses n }

-- from a venue opened with the step s and the close 100,000 the events get these answers, and this is said by them of the order 1
pub record Slides (s : ℕ) (xs : List Answered) (g : PricesGiven) : Type 0 where
  pub answered : (run (opened s 100_000) (map (λ (x : Answered). call_of x.event) xs)).answered ≡ xs
  pub prices : prices_of xs 1 ≡ g

-- a short: its show, slide and limit, the price that it was accepted at, and its re-pricings, the last one first
abbrev pub short_with : ℕ → ℕ → ℕ → ℕ → List ℕ → PricesGiven
short_with show slide limit first later =
    record { mark = 2; show = show; slide = slide; limit = limit; accepted_price = first; repricings = later }

-- events after two that turn the restriction on, with a bid of 91,000
abbrev pub on_restricted_day : List Answered → List Answered
on_restricted_day xs = gets (bid 91_000) [] ∷ gets (tape 90_000) (restriction_starts ∷ []) ∷ xs

-- the entry e under bids that fall, with these reports, and under one that rises over its price; refused events among them: the same entry again, and a bid that is none
abbrev pub under_bids : ℕ → Event → List Report → List Report → List Report → List Answered
under_bids s e first second third =
    on_restricted_day (gets e (accepted 1 1 (91_000 + s) ∷ []) ∷ is_refused e 6 ∷ gets (bid 90_500) first ∷ is_refused (bid 90_501) 3
    ∷ gets (bid 90_200) second ∷ gets (bid 89_000) third ∷ gets (bid 91_500) [] ∷ [])

-- lists with an order of which the law is false: a hidden one, and one that is displayed at the bid before the trigger
abbrev pub hidden_short : ℕ → List Answered
hidden_short s = on_restricted_day (gets (entry_of 1 2 90_500 5 0 0 0) (accepted 1 1 (91_000 + s) ∷ []) ∷ gets (bid 91_200) (repriced 1 (91_200 + s) 2 ∷ []) ∷ [])

abbrev pub displayed_before : ℕ → List Answered
displayed_before s =
    gets (bid 91_000) [] ∷ gets (entry_of 1 2 91_000 5 1 0 0) (accepted 1 1 91_000 ∷ []) ∷ gets (tape 90_000) (restriction_starts ∷ repriced 1 (91_000 + s) 2 ∷ []) ∷ []

-- wider notions of the orders that are meant: hidden ones too; those that were accepted at their limit too
abbrev pub HiddenToo : PricesGiven → Type 0
HiddenToo g = (g.mark ≡ 2) × (g.limit < g.accepted_price)

abbrev pub AtItsLimitToo : PricesGiven → Type 0
AtItsLimitToo g = (g.mark ≡ 2) × (g.show ≡ 1) × (g.limit ≤ g.accepted_price)

pub record SlidPricesPlayed (s : ℕ) : Type 0 where
  pub continuous :
      Slides s (under_bids s (entry_of 1 2 90_000 5 1 0 0) (repriced 1 (90_500 + s) 2 ∷ []) (repriced 1 (90_200 + s) 3 ∷ []) (repriced 1 90_000 4 ∷ []))
      (short_with 1 0 90_000 (91_000 + s) (90_000 ∷ (90_200 + s) ∷ (90_500 + s) ∷ []))
  pub once : Slides s (under_bids s (entry_of 1 2 90_000 5 1 0 1) (repriced 1 91_000 2 ∷ []) [] []) (short_with 1 1 90_000 (91_000 + s) (91_000 ∷ []))
  pub no_more : Slides s (under_bids s (entry_of 1 2 90_000 5 1 0 2) [] [] []) (short_with 1 2 90_000 (91_000 + s) [])
  pub opt_out :
      Slides s (on_restricted_day (gets (entry_of 1 2 90_000 5 1 0 3) (accepted 1 1 (91_000 + s) ∷ cancelled 1 5 3 ∷ []) ∷ gets (bid 90_500) [] ∷ []))
      (short_with 1 3 90_000 (91_000 + s) [])
  pub market :
      Slides s (under_bids s (entry_of 1 2 0 5 1 0 0) (repriced 1 (90_500 + s) 2 ∷ []) (repriced 1 (90_200 + s) 3 ∷ []) (repriced 1 (89_000 + s) 4 ∷ []))
      (short_with 1 0 1 (91_000 + s) ((89_000 + s) ∷ (90_200 + s) ∷ (90_500 + s) ∷ []))
  pub of_firm :
      Slides s (under_bids s (owned_of 1 2 90_400 5 1 0 0 7) (repriced 1 (90_500 + s) 2 ∷ []) (repriced 1 90_400 3 ∷ []) [])
      (short_with 1 0 90_400 (91_000 + s) (90_400 ∷ (90_500 + s) ∷ []))
  -- hidden orders' prices do rise, and so does that of a short displayed at the bid before the trigger
  pub hidden_rises : Slides s (hidden_short s) (short_with 0 0 90_500 (91_000 + s) ((91_200 + s) ∷ []))
  pub not_of_hidden : OnlyFallFor HiddenToo (hidden_short s) → ⊥
  pub displayed_before_rises : Slides s (displayed_before s) (short_with 1 0 91_000 91_000 ((91_000 + s) ∷ []))
  pub not_at_its_limit : OnlyFallFor AtItsLimitToo (displayed_before s) → ⊥

abbrev pub answered_to : List Event → List Answered
answered_to es = (run (opened 100 100_000) (map call_of es)).answered

abbrev pub stamped_trade : ℕ → ℕ → ℕ → ℕ → ℕ → ℕ → ℕ → StampedTrade
stamped_trade buyer seller price shares buyer_stamp seller_stamp working =
    record { execution = record { buyer = buyer; seller = seller; price = price; shares = shares }; buyer_stamp = buyer_stamp; seller_stamp = seller_stamp; working = working }

-- a re-priced short works against an older buy; a day ends, and stamps go on
abbrev pub over_day_end : List Answered
over_day_end =
    on_restricted_day (gets (entry_of 1 2 90_000 5 1 0 0) (accepted 1 1 91_100 ∷ []) ∷ gets (entry_of 2 0 90_500 5 1 0 0) (accepted 2 2 90_500 ∷ [])
    ∷ gets (bid 90_200) (repriced 1 90_300 3 ∷ trade_of 2 1 90_500 5 ∷ []) ∷ gets (day_end 90_000) (day_ended 2 ∷ [])
    ∷ gets (entry_of 3 1 90_000 5 1 0 0) (accepted 3 4 90_000 ∷ []) ∷ [])

pub record DaysComputed : Type 0 where
  -- document 01's day: 91,100, 90,800, 90,500, and stamps 1 to 4
  pub day_prices : prices_of (answered_to day_events) 1 ≡ short_with 1 0 90_500 91_100 (90_500 ∷ 90_800 ∷ [])
  pub day_stamps : (stamps_of (answered_to day_events)).given ≡ 4 ∷ 3 ∷ 2 ∷ 1 ∷ []
  pub day_trades : (stamps_of (answered_to day_events)).trades ≡ stamped_trade 2 1 91_100 200 2 1 2 ∷ []
  pub over_days : Slides 100 over_day_end (short_with 1 0 90_000 91_100 (90_300 ∷ []))
  pub stamps_go_on : (stamps_of over_day_end).given ≡ 4 ∷ 3 ∷ 2 ∷ 1 ∷ []
  pub repriced_takes : (stamps_of over_day_end).trades ≡ stamped_trade 2 1 90_500 5 2 3 1 ∷ []

pub record SlidPricesComputed : Type 0 where
  pub days : DaysComputed
  pub at_both : All SlidPricesPlayed (100 ∷ 50 ∷ [])

-- timed prices (No. 10): at a time, a price
abbrev pub timed_at : ℕ → ℕ → TimedPrice
timed_at t p = record { time = t; price = p }

abbrev pub timed : ℕ → ℕ → Event
timed t p = timed_tape (timed_at t p)

-- two days of them; a price 300 seconds before, or of the same second, is looked at, one 301 seconds before isn't; a refused one changes nothing
abbrev pub pause_days : List Answered
pause_days =
    gets (timed 0 100_000) []
    ∷ gets (timed 10 100_000) []
    ∷ gets (timed 310 90_000) (pause_triggered 1 90_000 ∷ restriction_starts ∷ [])
    ∷ gets (timed 311 99_000) (pause_triggered 2 99_000 ∷ [])
    ∷ gets (timed 311 90_000) []
    ∷ gets (timed 311 89_100) (pause_triggered 1 89_100 ∷ [])
    ∷ gets (timed 612 99_000) []
    ∷ is_refused (timed 611 99_000) 22
    ∷ gets (day_end 100_000) (day_ended 2 ∷ [])
    ∷ gets (timed 0 100) (restriction_starts ∷ [])
    ∷ is_refused (timed 301 0) 3
    ∷ gets (timed 300 90) (pause_triggered 1 90 ∷ [])
    ∷ gets (timed 300 99) (pause_triggered 2 99 ∷ [])
    ∷ []

-- a fall is looked for over all of them before a rise
abbrev pub fall_first : List Answered
fall_first =
    gets (timed 5 50_000) (restriction_starts ∷ []) ∷ gets (timed 5 100_000) (pause_triggered 2 100_000 ∷ []) ∷ gets (timed 5 75_000) (pause_triggered 1 75_000 ∷ []) ∷ []

-- report 7, then 5, then the pass, in which a short displayed at the bid is re-priced
abbrev pub before_the_pass : ℕ → List Answered
before_the_pass s =
    gets (bid 91_000) [] ∷ gets (entry_of 1 2 91_000 5 1 0 0) (accepted 1 1 91_000 ∷ []) ∷ gets (timed 0 100_000) []
    ∷ gets (timed 1 90_000) (pause_triggered 1 90_000 ∷ restriction_starts ∷ repriced 1 (91_000 + s) 2 ∷ []) ∷ []

-- a tape price of kind 4 is neither looked at nor kept
abbrev pub tape_beside : List Answered
tape_beside = gets (timed 0 100_000) [] ∷ gets (tape 50_000) (restriction_starts ∷ []) ∷ gets (timed 1 95_000) [] ∷ []

-- the highest times, 301 and 300 seconds apart
abbrev pub highest_times : List Answered
highest_times =
    gets (timed 4_294_966_994 100_000) [] ∷ gets (timed 4_294_967_295 90_000) (restriction_starts ∷ [])
    ∷ gets (timed 4_294_967_295 81_000) (pause_triggered 1 81_000 ∷ []) ∷ is_refused (timed 4_294_967_294 90_000) 22 ∷ is_refused (timed 0 90_000) 22
    ∷ gets (day_end 100_000) (day_ended 2 ∷ []) ∷ gets (timed 4_294_966_995 100_000) []
    ∷ gets (timed 4_294_967_295 90_000) (pause_triggered 1 90_000 ∷ restriction_starts ∷ []) ∷ []

-- made-up venues with these kept prices, as many accepted events and no order, and n prices of one second
abbrev pub kept_venue : ℕ → List TimedPrice → Venue
kept_venue s kept =
    record { market = record { close = 100_000; phase = 0; bid = 0; step = s }; orders = []; kept = kept; last_id = 0; last_stamp = 0; accepted_events = length kept }

abbrev pub in_one_second : ℕ → List TimedPrice
in_one_second n = replicate n (timed_at 1_000 100_000)

-- 512 prices of one second, of kind 7, lead there from open
abbrev pub FullWatchReached : Type 0
FullWatchReached = All (λ (s : ℕ). venue_after_at s (replicate 512 (timed 1_000 100_000)) ≡ kept_venue s (in_one_second 512)) (100 ∷ 50 ∷ [])

-- from 512 of them: 22 before 23, 3 before 22; 300 seconds later there is no place, 301 seconds later there is
abbrev pub full_watch : List Answered
full_watch =
    is_refused (timed 1_000 100_000) 23 ∷ is_refused (timed 999 100_000) 22 ∷ is_refused (timed 999 0) 3 ∷ is_refused (timed 1_300 100_000) 23
    ∷ gets (timed 1_301 100_000) [] ∷ gets (timed 1_301 90_000) (pause_triggered 1 90_000 ∷ restriction_starts ∷ []) ∷ []

-- from 511 there is one place
abbrev pub one_place : List Answered
one_place = gets (timed 1_000 100_000) [] ∷ is_refused (timed 1_000 100_000) 23 ∷ []

abbrev pub PlaysFrom : Venue → List Answered → Type 0
PlaysFrom v xs = (run v (map (λ (x : Answered). call_of x.event) xs)).answered ≡ xs

-- kept prices that break a venue record at both steps, and some that don't at the step s
abbrev pub broken_kept : List (List TimedPrice)
broken_kept =
    in_one_second 513 ∷ (timed_at 0 0 ∷ []) ∷ (timed_at 0 90_025 ∷ []) ∷ (timed_at 1_000 100 ∷ timed_at 999 100 ∷ [])
    ∷ (timed_at 1_000 100 ∷ timed_at 1_001 100 ∷ timed_at 1_000 100 ∷ []) ∷ (timed_at 1_000 100 ∷ timed_at 1_301 100 ∷ []) ∷ []

abbrev pub sound_kept_prices : ℕ → List (List TimedPrice)
sound_kept_prices s = in_one_second 512 ∷ (timed_at 1_000 (90_000 + s) ∷ timed_at 1_300 100 ∷ timed_at 1_300 100 ∷ []) ∷ []

abbrev pub no_bid_answers : ℕ → List (List TimedPrice) → List (Outcome (List Report))
no_bid_answers s ks = map (λ (kept : List TimedPrice). (step (kept_venue s kept) (bid 0) least_buffer).answer) ks

pub record PausesPlayed (s : ℕ) : Type 0 where
  pub days : PlaysFrom (opened s 100_000) pause_days
  pub fall_before_rise : PlaysFrom (opened s 100_000) fall_first
  pub as_a_tape : PlaysFrom (opened s 100_000) (before_the_pass s)
  pub tape_unseen : PlaysFrom (opened s 100_000) tape_beside
  pub highest : PlaysFrom (opened s 100_000) highest_times
  pub full : PlaysFrom (kept_venue s (in_one_second 512)) full_watch
  pub place : PlaysFrom (kept_venue s (in_one_second 511)) one_place
  -- "Over 512 kept prices, an illegal one, times that fall or span more than 300 seconds break the venue record"
  pub broken : no_bid_answers s broken_kept ≡ replicate 6 (refuses 16)
  pub unbroken : no_bid_answers s (sound_kept_prices s) ≡ replicate 2 (gives [])

pub record PausesComputed : Type 0 where
  pub at_both : All PausesPlayed (100 ∷ 50 ∷ [])
  -- a kept price is legal or not at the venue's step
  pub illegal_in_cents : no_bid_answers 100 ((timed_at 0 90_050 ∷ []) ∷ []) ≡ refuses 16 ∷ []
  pub legal_in_half_cents : no_bid_answers 50 ((timed_at 0 90_050 ∷ []) ∷ []) ≡ gives [] ∷ []

-- other steps than 50 and 100 (No. 2), beside a close, a bid and a price that are refused at every step: "refused with 17, before the close or price is looked
-- at"; in a venue record whose close is legal by itself "it is a broken condition"
abbrev pub other_steps : List ℕ
other_steps = 0 ∷ 1 ∷ 49 ∷ 75 ∷ 150 ∷ 200 ∷ 4_294_967_295 ∷ []

pub record OtherSteps : Type 0 where
  pub opening : All (λ (s : ℕ). opening s 0 ≡ refuses 17) other_steps
  pub permitted : All (λ (s : ℕ). permitted_of s 100_000_000 ≡ refuses 17) other_steps
  pub watch : All (λ (s : ℕ). watch_outcome s 0 ≡ refuses 17) other_steps
  pub event : All (λ (s : ℕ). (step (opened s 1) (bid 0) least_buffer).answer ≡ refuses 16) other_steps
