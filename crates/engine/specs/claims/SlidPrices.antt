-- Document 02, No. 9, prices of a slid order only fall, as claims: an account of prices, and with that of stamps the law over every list of events. No definition of the
-- account names the venue. Assumes nothing.
use Rattle.std.specs.Prelude.{ℕ, ◌≤◌, ◌<◌, ◌≡◌, List, [], ◌∷◌, ◌++◌, map, T, ltb, eqb, length}
use Rattle.std.proofs.Math.Option.{Option, none, some}
use Rattle.numbers.specs.Tests.{pick, All}
use Rattle.numbers.specs.Answers.{gives}
use Rattle.prices.specs.Prices.{is_step, legal}
use Rattle.book.specs.declared.Order.{Order}
use Rattle.book.specs.rules.Words.{resting}
use Rattle.engine.specs.declared.Market.{Market}
use Rattle.engine.specs.declared.Entry.{Entry}
use Rattle.engine.specs.rules.Reports.{Report, accepted, executed, cancelled, repriced, restriction_starts, day_ended, pause_triggered}
use Rattle.engine.specs.rules.Working.{order_of}
use Rattle.engine.specs.rules.Venue.{Venue, opening}
use Rattle.engine.specs.rules.Run.{Call, Answered, Run, run}
use Rattle.engine.specs.rules.Layout.{opened_words}
use Rattle.engine.specs.claims.Account.{set_at}
use Rattle.engine.specs.claims.Calls.{AppliedCall, Chain, answered_of}
use Rattle.engine.specs.claims.Reading.{Entered, Reading, read_from}
use Rattle.engine.specs.claims.Stamps.{stamps_of, last_of, Rising, WorkingIsLater}

-- The account of prices

-- of one order: the mark, show and slide of its entry and its limit, the price of its report 1, and those of its reports 4, the last one first
pub record PricesGiven : Type 0 where
  pub mark : ℕ
  pub show : ℕ
  pub slide : ℕ
  pub limit : ℕ
  pub accepted_price : ℕ
  pub repricings : List ℕ

-- "A market short has limit 1 here": a price of 0 "means market" (No. 1). Of other marks than 2 it is never asked
abbrev pub limit_of_short : Entry → ℕ
limit_of_short e = pick (eqb e.price 0) 1 e.price

-- where there is no entry; an accepted entry, before its reports
abbrev pub no_prices : PricesGiven
no_prices = record { mark = 0; show = 0; slide = 0; limit = 0; accepted_price = 0; repricings = [] }

abbrev pub before_reports : Entry → PricesGiven
before_reports e = record { mark = e.mark; show = e.show; slide = e.slide; limit = limit_of_short e; accepted_price = 0; repricings = [] }

-- report 1, and report 4, with the price p
abbrev pub accepted_at : ℕ → PricesGiven → PricesGiven
accepted_at p g = record { mark = g.mark; show = g.show; slide = g.slide; limit = g.limit; accepted_price = p; repricings = g.repricings }

abbrev pub repriced_to : ℕ → PricesGiven → PricesGiven
repriced_to p g = record { mark = g.mark; show = g.show; slide = g.slide; limit = g.limit; accepted_price = g.accepted_price; repricings = p ∷ g.repricings }

-- a column as those of the tallies: what it has at k is said of the order with id k
abbrev pub Prices : Type 0
Prices = ℕ → PricesGiven

abbrev pub start_prices : Option Entered → Prices → Prices
start_prices none c = c
start_prices (some x) c = set_at (x.entry.id) (before_reports x.entry) c

abbrev pub read_price : Prices → Report → Prices
read_price c (accepted k s p) = set_at k (accepted_at p (c k)) c
read_price c (executed x) = c
read_price c (cancelled k q z) = c
read_price c (repriced k p s) = set_at k (repriced_to p (c k)) c
read_price c restriction_starts = c
read_price c (day_ended p) = c
read_price c (pause_triggered d p) = c

abbrev pub reading_prices : Reading Prices
reading_prices = record { begin = start_prices; read = read_price }

abbrev pub prices_of : List Answered → Prices
prices_of xs = read_from reading_prices (λ k. no_prices) xs

-- The law

-- each is below the one given before it, and the one given first below p
abbrev pub Falling : ℕ → List ℕ → Type 0
Falling p [] = Unit {0}
Falling p (q ∷ qs) = (q < last_of p qs) × Falling p qs

-- "a displayed short order adjusted at its entry", read from the reports (F9.1): it was accepted at a price above its limit
abbrev pub SlidAtEntry : PricesGiven → Type 0
SlidAtEntry g = (g.mark ≡ 2) × (g.show ≡ 1) × (g.limit < g.accepted_price)

-- its price: the one last given
abbrev pub last_price : PricesGiven → ℕ
last_price g = last_of g.accepted_price g.repricings

pub record OnlyFall (g : PricesGiven) : Type 0 where
  -- "Its re-pricings are strictly lower one after another", the first below the price that it was accepted at
  pub falling : Falling g.accepted_price g.repricings
  -- "never one under its limit"; the price that it was accepted at is above it
  pub least : All (λ (p : ℕ). g.limit ≤ p) g.repricings
  -- "With slide once there is at most one, with slide no more there is none"
  pub once : g.slide ≡ 1 → length g.repricings ≤ 1
  pub no_more : g.slide ≡ 2 → g.repricings ≡ []
  -- beyond the sentence: what is left of an adjusted opt-out is cancelled at its entry
  pub opt_out : g.slide ≡ 3 → g.repricings ≡ []

-- of every id of whose prices this holds
abbrev pub OnlyFallFor : (PricesGiven → Type 0) → List Answered → Type 0
OnlyFallFor These xs = (k : ℕ) → These (prices_of xs k) → OnlyFall (prices_of xs k)

-- it "never has a rising price": after a front ys of the list it is such an order; then it is one after the list, at a price that isn't above that after the front
abbrev pub NeverRises : List Answered → Type 0
NeverRises xs =
    (ys zs : List Answered) → xs ≡ ys ++ zs → (k : ℕ) → SlidAtEntry (prices_of ys k) →
    SlidAtEntry (prices_of xs k) × (last_price (prices_of xs k) ≤ last_price (prices_of ys k))

-- a resting order and what the accounts say of it: it has the price and the stamp last given, and is the order of its entry
pub record Recorded (g : PricesGiven) (s : ℕ) (o : Order) : Type 0 where
  pub price : o.price ≡ last_price g
  pub stamp : o.stamp ≡ s
  pub mark : o.mark ≡ g.mark
  pub show : o.show ≡ g.show
  pub slide : o.slide ≡ g.slide
  pub limit : o.mark ≡ 2 → o.limit ≡ g.limit

-- xs are the events with their answers, os the orders that rest after them
pub record PricesFall (xs : List Answered) (os : List Order) : Type 0 where
  pub prices : OnlyFallFor SlidAtEntry xs
  pub never_rises : NeverRises xs
  -- "Stamps in the reports rise strictly through the whole list"
  pub stamps : Rising 0 (stamps_of xs).given
  -- for No. 12: "The later stamp in an execution is the taker"
  pub later : All WorkingIsLater (stamps_of xs).trades
  -- what rests has what the reports gave it; document 01: "each equal to the one last given"
  pub recorded : All (λ (o : Order). Recorded (prices_of xs o.id) ((stamps_of xs).stamp o.id) o) os

-- for every step and close that open takes and every list of events, each lent a report buffer of any length
abbrev pub PricesOnlyFall : Type 0
PricesOnlyFall =
    (s close : ℕ) (v : Venue) → opening s close ≡ gives v → (cs : List Call) →
    let r : Run = run v cs in
    PricesFall r.answered r.venue.orders

-- the same of calls, read from the events, the answers and the report bytes, and of the words after them
pub record PricesFallInCalls (cs : List AppliedCall) (w' : List ℕ) : Type 0 where
  pub read : List Answered
  pub readable : map answered_of cs ≡ map some read
  pub fall : PricesFall read (resting w')

abbrev pub PricesOnlyFallInCalls : Type 0
PricesOnlyFallInCalls =
    (s close : ℕ) → T (is_step s) → T (legal s close) → (cs : List AppliedCall) (w' : List ℕ) → Chain (opened_words s close) cs w' → PricesFallInCalls cs w'

-- what the reports tell is what the rules say: a short is "adjusted if that is above the limit", its working price
abbrev pub AdjustedIsAboveLimit : Type 0
AdjustedIsAboveLimit =
    (m : Market) (stamp owner : ℕ) (e : Entry) → e.mark ≡ 2 →
    let o : Order = order_of m stamp owner e in
    o.adjusted ≡ ltb (limit_of_short e) o.price
