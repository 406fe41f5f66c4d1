-- An entry and what becomes of it: document 01, "Orders", and document 02, No. 1 and No. 7. Assumes nothing.
use Rattle.std.specs.Prelude.{ℕ, max, Bool, false, not, ◌&&◌, List, [], ◌∷◌, ◌++◌, map, ltb, eqb}
use Rattle.numbers.specs.Tests.{pick}
use Rattle.prices.specs.Prices.{highest}
use Rattle.book.specs.declared.Order.{Order}
use Rattle.book.specs.rules.Orders.{insert}
use Rattle.book.specs.rules.Matching.{Happening, traded, withdrawn, Matched, matching}
use Rattle.engine.specs.declared.Market.{Market}
use Rattle.engine.specs.declared.Entry.{Entry}
use Rattle.engine.specs.declared.Remainder.{Remainder}
use Rattle.engine.specs.declared.Remainder.TheVariants.{Filled, Cancelled, Rests}
use Rattle.engine.specs.rules.Market.{restricted, permitted_now}
use Rattle.engine.specs.rules.Reports.{Report, executed, cancelled, same_firm, cause_number}
use Rattle.engine.specs.declared.Cause.TheVariants.{ImmediateOrCancel, OptOut}

-- No. 1: "A price of 0 in an entry means market"
abbrev pub is_market : ℕ → Bool
is_market price = eqb price 0

-- what counts as the limit; No. 1: "A buy works at 100,000,000 and any sell at 1"
unfoldable pub limit_of : ℕ → ℕ → ℕ
limit_of mark price = pick (is_market price) (pick (eqb mark 0) highest 1) price

-- No. 1: "A restricted short with a bid present instead .. slides, rests or is cancelled by 01's rules", a market short
unfoldable pub follows_bid : Market → ℕ → ℕ → Bool
follows_bid m mark price = is_market price && (restricted m mark && ltb 0 m.bid)

-- what counts as the life; No. 1: any other market order works "as immediate or cancel"
unfoldable pub life_of : Market → ℕ → ℕ → ℕ → ℕ
life_of m mark price life = pick (is_market price && not (follows_bid m mark price)) 1 life

-- "works at its limit; a restricted one at the larger of limit and permitted price"
unfoldable pub working_price : Market → ℕ → ℕ → ℕ
working_price m mark price = pick (restricted m mark) (max (limit_of mark price) (permitted_now m)) (limit_of mark price)

-- the order of an entry, with its stamp and its owner (No. 7): "adjusted if that is above the limit"; ""Clear" says that the bid was 0 or below the
-- present price when that price was given" (a price is above 0)
unfoldable pub order_of : Market → ℕ → ℕ → Entry → Order
order_of m stamp owner e =
    let limit : ℕ = limit_of e.mark e.price in
    let p : ℕ = working_price m e.mark e.price in
    record {
      id = e.id;
      mark = e.mark;
      limit = limit;
      shares = e.shares;
      show = e.show;
      life = life_of m e.mark e.price e.life;
      slide = e.slide;
      stamp = stamp;
      price = p;
      entry_bid = m.bid;
      adjusted = ltb limit p;
      used = false;
      clear = ltb m.bid p;
      market = follows_bid m e.mark e.price;
      owner = owner;
    }

-- "A remainder is cancelled if immediate or cancel (cause 2), else if adjusted and opt-out (cause 3); otherwise it rests"
unfoldable pub remainder : Order → Remainder
remainder o =
    pick (eqb o.shares 0) Filled
    (pick (eqb o.life 1) (Cancelled ImmediateOrCancel)
    (pick (o.adjusted && eqb o.slide 3) (Cancelled OptOut)
    Rests))

-- what a working order has reported, and the book after it
pub record Worked : Type 0 where
  pub reports : List Report
  pub orders : List Order

unfoldable pub after_remainder : Remainder → Order → List Order → Worked
after_remainder Filled w os = record { reports = []; orders = os }
after_remainder (Cancelled cause) w os = record { reports = cancelled w.id w.shares (cause_number cause) ∷ []; orders = os }
after_remainder Rests w os = record { reports = []; orders = insert w os }

-- the report of what happens in a meeting: an execution; No. 7: "the resting one is cancelled (cause 5)"
abbrev pub happened : Happening → Report
happened (traded x) = executed x
happened (withdrawn i q) = cancelled i q same_firm

-- an order works: "It then matches", and its remainder is cancelled or rests
unfoldable pub work : Order → List Order → Worked
work w os =
    let m : Matched = matching w os in
    let r : Worked = after_remainder (remainder m.left) m.left m.orders in
    record { reports = map happened m.happenings ++ r.reports; orders = r.orders }
