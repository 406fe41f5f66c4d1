-- What an event does to close, phase and bid, and who is restricted: document 01, "Restriction" and "Orders", and document 02, No. 2 and No. 10.
-- Assumes nothing.
use Rattle.std.specs.Prelude.{ℕ, Bool, ◌&&◌, eqb}
use Rattle.prices.specs.Prices.{permitted}
use Rattle.prices.specs.Restriction.{phase_after_tape, phase_after_day_end, restriction_on}
use Rattle.engine.specs.declared.Market.{Market}
use Rattle.engine.specs.declared.Event.{Event}
use Rattle.engine.specs.declared.Event.TheVariants.{Entry as entry, Cancel as cancel, Bid as bid, Tape as tape, DayEnd as day_end, OwnedEntry as owned_entry, TimedTape as timed_tape}

-- "Fresh: phase 0, bid 0"; No. 2: "Opening takes a step"
abbrev pub opening_market : ℕ → ℕ → Market
opening_market step close = record { close = close; phase = 0; bid = 0; step = step }

-- a tape price and the phase
abbrev pub after_tape : ℕ → Market → Market
after_tape p m = record { close = m.close; phase = phase_after_tape m.close m.phase p; bid = m.bid; step = m.step }

-- what an accepted event does to the market: "A day end sets the close, sets bid 0"; none changes the step; No. 10: kind 7 "does all that a tape event
-- does"
abbrev pub market_after : Event → Market → Market
market_after (entry e) m = m
market_after (cancel i) m = m
market_after (bid b) m = record { close = m.close; phase = m.phase; bid = b; step = m.step }
market_after (tape p) m = after_tape p m
market_after (day_end c) m = record { close = c; phase = phase_after_day_end m.phase; bid = 0; step = m.step }
market_after (owned_entry e k) m = m
market_after (timed_tape x) m = after_tape x.price m

-- ""Restricted" means mark 2 while the phase is 1 or 2"
unfoldable pub restricted : Market → ℕ → Bool
restricted m mark = restriction_on m.phase && eqb mark 2

-- the permitted price of the bid in force, at the venue's step (No. 2)
unfoldable pub permitted_now : Market → ℕ
permitted_now m = permitted m.step m.bid
