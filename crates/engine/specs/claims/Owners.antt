-- Document 02, No. 7, firms that don't trade with themselves, as claims: an account of owners over every list of events, and what stays as it was. No definition of the
-- account names the venue. Assumes nothing.
use Rattle.std.specs.Prelude.{ℕ, ◌+◌, ◌<◌, ◌≡◌, Bool, List, [], ◌∷◌, ◌++◌, map, T, eqb, length}
use Rattle.std.proofs.Math.Option.{Option, none, some}
use Rattle.numbers.specs.Tests.{pick, All}
use Rattle.numbers.specs.Answers.{Outcome, gives, refuses}
use Rattle.prices.specs.Prices.{is_step, legal}
use Rattle.prices.specs.Pause.{within}
use Rattle.book.specs.declared.Order.{Order}
use Rattle.book.specs.rules.Orders.{find, without}
use Rattle.book.specs.rules.Matching.{Execution, Matched}
use Rattle.book.specs.rules.Sound.{ids_rise, stamps_differ}
use Rattle.book.specs.rules.Words.{resting, is_book}
use Rattle.book.specs.claims.OnlyTrading.{only_trading}
use Rattle.book.specs.claims.OwnOrders.{others, executions_of}
use Rattle.engine.specs.declared.Market.{Market}
use Rattle.engine.specs.declared.Entry.{Entry}
use Rattle.engine.specs.declared.Event.{Event}
use Rattle.engine.specs.declared.Event.TheVariants.{Entry as entry, Cancel as cancel, Bid as bid, Tape as tape, DayEnd as day_end, OwnedEntry as owned_entry, TimedTape as timed_tape}
use Rattle.engine.specs.declared.Move.{Move}
use Rattle.engine.specs.declared.Move.TheVariants.{Stay, Cancel, Reprice}
use Rattle.engine.specs.rules.Market.{market_after, restricted}
use Rattle.engine.specs.rules.Reports.{Report, accepted, executed, cancelled, repriced, restriction_starts, day_ended, pause_triggered}
use Rattle.engine.specs.rules.Working.{Worked, order_of, remainder, after_remainder, happened}
use Rattle.engine.specs.rules.Pass.{move_of, at_new_price, Effect, after_move}
use Rattle.engine.specs.rules.Venue.{Venue, opening, effect_of_cancel, restriction_report, pause_report, effect_of_day_end, effect_of, venue_after}
use Rattle.engine.specs.rules.Refusals.{refusal}
use Rattle.engine.specs.rules.Run.{Step, step, Call, Answered, Run, run}
use Rattle.engine.specs.rules.Records.{reports_up_to}
use Rattle.engine.specs.rules.Layout.{venue_of, refused_layout, opened_words}
use Rattle.engine.specs.claims.RoundTrips.{Word}
use Rattle.engine.specs.claims.Account.{set_at}
use Rattle.engine.specs.claims.Reading.{Entered, Reading, read_from}
use Rattle.engine.specs.claims.Calls.{Applied, CallDoes, AppliedCall, Chain, answered_of}

-- The account of owners

-- the owners of both orders of a report 2
pub record Sides : Type 0 where
  pub buyer : ℕ
  pub seller : ℕ

-- a report 3 with cause 5: the ids of the working order and of the one cancelled, and their owners
pub record Withdrawal : Type 0 where
  pub working : ℕ
  pub withdrawn : ℕ
  pub working_owner : ℕ
  pub withdrawn_owner : ℕ

-- owner is a column as those of the tallies: at k the owner that the accepted entry with id k named, 0 where there is none. working is the id of the working order,
-- 0 where no order of the event has worked yet;
-- trades and withdrawals have the last one first
pub record Owners : Type 0 where
  pub owner : ℕ → ℕ
  pub working : ℕ
  pub trades : List Sides
  pub withdrawals : List Withdrawal

abbrev pub no_owners : Owners
no_owners = record { owner = λ k. 0; working = 0; trades = []; withdrawals = [] }

-- an accepted entry names its owner
abbrev pub named_by : Option Entered → (ℕ → ℕ) → ℕ → ℕ
named_by none f = f
named_by (some x) f = set_at (x.entry.id) x.owner f

-- an accepted event begins: no order works yet
abbrev pub owners_after : Option Entered → Owners → Owners
owners_after x c = record { owner = named_by x c.owner; working = 0; trades = c.trades; withdrawals = c.withdrawals }

-- "Report 1 or 4 .. that order is now the working one"
abbrev pub works_now : ℕ → Owners → Owners
works_now k c = record { owner = c.owner; working = k; trades = c.trades; withdrawals = c.withdrawals }

abbrev pub read_owners : Owners → Report → Owners
read_owners c (accepted k s p) = works_now k c
read_owners c (executed x) =
    record {
      owner = c.owner;
      working = c.working;
      trades = record { buyer = c.owner x.buyer; seller = c.owner x.seller } ∷ c.trades;
      withdrawals = c.withdrawals;
    }
read_owners c (cancelled k q cause) =
    pick (eqb cause 5)
    (record {
      owner = c.owner;
      working = c.working;
      trades = c.trades;
      withdrawals = record { working = c.working; withdrawn = k; working_owner = c.owner c.working; withdrawn_owner = c.owner k } ∷ c.withdrawals;
    })
    c
read_owners c (repriced k p s) = works_now k c
read_owners c restriction_starts = c
read_owners c (day_ended p) = c
read_owners c (pause_triggered d p) = c

-- the account of events with their answers
abbrev pub reading_owners : Reading Owners
reading_owners = record { begin = owners_after; read = read_owners }

abbrev pub owners_of : List Answered → Owners
owners_of xs = read_from reading_owners no_owners xs

-- The law

-- not two orders of the same owner above 0
abbrev pub Apart : Sides → Type 0
Apart t = 0 < t.buyer → t.buyer ≡ t.seller → ⊥

-- of two orders of the same owner above 0, "the resting one is cancelled": not the one that works
abbrev pub OtherOrderOfFirm : Withdrawal → Type 0
OtherOrderOfFirm t = (t.withdrawn ≡ t.working → ⊥) × (0 < t.working_owner) × (t.working_owner ≡ t.withdrawn_owner)

-- no firm trades with itself, and cause 5 meets none but other orders of the working order's own firm. An id that was never entered has owner 0 here; that no
-- report 2 or 3 with shares has one is demand 3's, whose shares entered would not add up
pub record FirmsApart (c : Owners) : Type 0 where
  pub trades : All Apart c.trades
  pub withdrawals : All OtherOrderOfFirm c.withdrawals

-- for every step and close that open takes and every list of events, each lent a report buffer of any length
abbrev pub NoFirmTradesWithItself : Type 0
NoFirmTradesWithItself =
    (s close : ℕ) (v : Venue) → opening s close ≡ gives v → (cs : List Call) → FirmsApart (owners_of (run v cs).answered)

-- the column says what the record of each resting order says
abbrev pub OwnersShown : Owners → List Order → Type 0
OwnersShown c os = All (λ (o : Order). o.owner ≡ c.owner o.id) os

abbrev pub OwnersAreShown : Type 0
OwnersAreShown =
    (s close : ℕ) (v : Venue) → opening s close ≡ gives v → (cs : List Call) →
    let r : Run = run v cs in
    OwnersShown (owners_of r.answered) r.venue.orders

-- the same of calls, read from the events, the answers and the report bytes, and of the words after them
pub record FirmsApartInCalls (cs : List AppliedCall) (w' : List ℕ) : Type 0 where
  pub read : List Answered
  pub readable : map answered_of cs ≡ map some read
  pub apart : FirmsApart (owners_of read)
  pub shown : OwnersShown (owners_of read) (resting w')

abbrev pub NoFirmTradesWithItselfInCalls : Type 0
NoFirmTradesWithItselfInCalls =
    (s close : ℕ) → T (is_step s) → T (legal s close) → (cs : List AppliedCall) (w' : List ℕ) → Chain (opened_words s close) cs w' → FirmsApartInCalls cs w'

-- As before, with owner 0 everywhere: every meeting was a trade (`only_trading`)

-- an order works, in an entry and in a turn of the pass; each with the matching of before and no other change
unfoldable pub unowned_work : Order → List Order → Worked
unowned_work w os =
    let m : Matched = only_trading w os in
    let r : Worked = after_remainder (remainder m.left) m.left m.orders in
    record { reports = map happened m.happenings ++ r.reports; orders = r.orders }

unfoldable pub unowned_entering : Order → List Order → Effect
unowned_entering o os =
    let w : Worked = unowned_work o os in
    record { reports = accepted o.id o.stamp o.price ∷ w.reports; orders = w.orders; stamp = o.stamp }

unfoldable pub unowned_move : Move → Order → List Order → ℕ → Effect
unowned_move Stay o os s = after_move Stay o os s
unowned_move Cancel o os s = after_move Cancel o os s
unowned_move (Reprice p used) o os s =
    let w : Worked = unowned_work (at_new_price p (s + 1) used o) (without o.id os) in
    record { reports = repriced o.id p (s + 1) ∷ w.reports; orders = w.orders; stamp = s + 1 }

unfoldable pub unowned_turn : Market → Option Order → List Order → ℕ → Effect
unowned_turn m none os s = record { reports = []; orders = os; stamp = s }
unowned_turn m (some o) os s = unowned_move (pick (restricted m o.mark) (move_of m o) Stay) o os s

unfoldable pub unowned_pass : Market → List ℕ → List Order → ℕ → Effect
unowned_pass m [] os s = record { reports = []; orders = os; stamp = s }
unowned_pass m (i ∷ is) os s =
    let x : Effect = unowned_turn m (find i os) os s in
    let y : Effect = unowned_pass m is x.orders x.stamp in
    record { reports = x.reports ++ y.reports; orders = y.orders; stamp = y.stamp }

-- what an accepted event did; kind 6 wasn't there, and isn't asked about
abbrev pub unowned_pass_of_all : Market → Venue → Effect
unowned_pass_of_all m v = unowned_pass m (map (λ (o : Order). o.id) v.orders) v.orders v.last_stamp

abbrev pub unowned_tape : Market → Venue → Effect
unowned_tape m v =
    let x : Effect = unowned_pass_of_all m v in
    record { reports = restriction_report v.market m ++ x.reports; orders = x.orders; stamp = x.stamp }

abbrev pub unowned_effect : Market → Venue → Event → Effect
unowned_effect m v (entry e) = unowned_entering (order_of m (v.last_stamp + 1) 0 e) v.orders
unowned_effect m v (cancel i) = effect_of_cancel v i
unowned_effect m v (bid b) = unowned_pass_of_all m v
unowned_effect m v (tape p) = unowned_tape m v
unowned_effect m v (day_end c) = effect_of_day_end m v
unowned_effect m v (owned_entry e k) = effect_of m v (owned_entry e k)
unowned_effect m v (timed_tape t) =
    let x : Effect = unowned_tape m v in
    record { reports = pause_report t.price (within t.time v.kept) ++ x.reports; orders = x.orders; stamp = x.stamp }

unfoldable pub unowned_unless : Option ℕ → Venue → Event → Step
unowned_unless (some n) v e = record { answer = refuses n; venue = v }
unowned_unless none v e =
    let x : Effect = unowned_effect (market_after e v.market) v e in
    record { answer = gives x.reports; venue = venue_after v e x }

-- it is refused as now; that kind 1 has no refusal for an owner is No. 3's claim and No. 8's too (`kind_with`)
abbrev pub unowned_step : Venue → Event → ℕ → Step
unowned_step v e n = unowned_unless (refusal v e n) v e

-- an order without an owner, and an event that names none
abbrev pub Unowned : Order → Type 0
Unowned o = o.owner ≡ 0

abbrev pub NamesNoOwner : Event → Type 0
NamesNoOwner (entry e) = Unit {0}
NamesNoOwner (cancel i) = Unit {0}
NamesNoOwner (bid b) = Unit {0}
NamesNoOwner (tape p) = Unit {0}
NamesNoOwner (day_end c) = Unit {0}
NamesNoOwner (owned_entry e k) = ⊥
NamesNoOwner (timed_tape x) = Unit {0}

-- its answer and its venue are those of before, and owner 0 stays everywhere
pub record EventAsBefore (v : Venue) (e : Event) (n : ℕ) : Type 0 where
  pub same : step v e n ≡ unowned_step v e n
  pub unowned : All Unowned (step v e n).venue.orders

abbrev pub UnownedAsBefore : Type 0
UnownedAsBefore = (v : Venue) (e : Event) (n : ℕ) → All Unowned v.orders → NamesNoOwner e → EventAsBefore v e n

-- an entry of kind 1 does so whoever's orders rest
abbrev pub KindOneAsBefore : Type 0
KindOneAsBefore = (v : Venue) (e : Entry) (n : ℕ) → step v (entry e) n ≡ unowned_step v (entry e) n

-- the same of every call of apply, on any words and any buffer
abbrev pub unowned_step_in : List ℕ → Event → ℕ → Step
unowned_step_in w e n = pick (is_book w) (unowned_step (venue_of w) e n) (refused_layout w)

pub record UnownedCallAsBefore (w : List ℕ) (e : Event) (b : List ℕ) (answer : Outcome ℕ) (w' b' : List ℕ) : Type 0 where
  pub does : CallDoes (unowned_step_in w e (length b)) b answer w' b'
  pub unowned : All Unowned (resting w')

abbrev pub UnownedCallsAsBefore : Type 0
UnownedCallsAsBefore =
    (w : List ℕ) (e : Event) (b : List ℕ) (answer : Outcome ℕ) (w' b' : List ℕ) → Applied w e b answer w' b' →
    All Unowned (resting w) → NamesNoOwner e → UnownedCallAsBefore w e b answer w' b'

-- As without its owner's orders

-- the executions among reports
abbrev pub executions_in : List Report → List Execution
executions_in [] = []
executions_in (accepted i s p ∷ rs) = executions_in rs
executions_in (executed x ∷ rs) = x ∷ executions_in rs
executions_in (cancelled i q cause ∷ rs) = executions_in rs
executions_in (repriced i p s ∷ rs) = executions_in rs
executions_in (restriction_starts ∷ rs) = executions_in rs
executions_in (day_ended p ∷ rs) = executions_in rs
executions_in (pause_triggered d p ∷ rs) = executions_in rs

-- those of an order that works and only trades, in a book without the orders of its owner
abbrev pub executions_without_own : Order → List Order → List Execution
executions_without_own w os = executions_of (only_trading w (others w os)).happenings

-- what an accepted entry of kind 6 executes with others, and in which order, is what it would execute if its owner's orders weren't there
abbrev pub EntriesTradeAsWithoutOwn : Type 0
EntriesTradeAsWithoutOwn =
    (v : Venue) (e : Entry) (k n : ℕ) (rs : List Report) → (step v (owned_entry e k) n).answer ≡ gives rs →
    executions_in rs ≡ executions_without_own (order_of v.market (v.last_stamp + 1) k e) v.orders

-- an order that is re-priced does so too, in every book whose ids rise and whose stamps differ
abbrev pub RepricedTradeAsWithoutOwn : Type 0
RepricedTradeAsWithoutOwn =
    (o : Order) (os : List Order) (s p : ℕ) (used : Bool) → T (ids_rise 0 os) → T (stamps_differ os) →
    executions_in (after_move (Reprice p used) o os s).reports ≡ executions_without_own (at_new_price p (s + 1) used o) (without o.id os)

-- the same of calls, by the report bytes: of an entry with a 32-bit id that apply accepts on any words
pub record WithoutOwnInBytes (w : List ℕ) (e : Entry) (k : ℕ) (after : List ℕ) (count : ℕ) : Type 0 where
  pub read : List Report
  pub readable : reports_up_to after count ≡ some read
  pub is : executions_in read ≡ executions_without_own (order_of (venue_of w).market ((venue_of w).last_stamp + 1) k e) (resting w)

abbrev pub EntriesTradeAsWithoutOwnInCalls : Type 0
EntriesTradeAsWithoutOwnInCalls =
    (w : List ℕ) (e : Entry) (k : ℕ) → Word e.id → (b : List ℕ) (count : ℕ) (w' b' : List ℕ) → Applied w (owned_entry e k) b (gives count) w' b' →
    WithoutOwnInBytes w e k b' count
