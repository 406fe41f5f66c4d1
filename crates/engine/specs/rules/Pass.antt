-- The pass: document 01, "The pass runs after each accepted bid or tape event, over the orders then resting, lowest id first.", and document 02,
-- No. 1 and No. 7. Assumes nothing.
use Rattle.std.specs.Prelude.{ℕ, ◌+◌, max, Bool, true, not, ◌&&◌, List, [], ◌∷◌, ◌++◌, leb, ltb, eqb}
use Rattle.std.proofs.Math.Option.{Option, none, some}
use Rattle.numbers.specs.Tests.{pick}
use Rattle.book.specs.declared.Order.{Order}
use Rattle.book.specs.rules.Orders.{find, without}
use Rattle.engine.specs.declared.Market.{Market}
use Rattle.engine.specs.declared.Move.{Move}
use Rattle.engine.specs.declared.Move.TheVariants.{Stay, Cancel, Reprice}
use Rattle.engine.specs.rules.Market.{restricted, permitted_now}
use Rattle.engine.specs.rules.Reports.{Report, cancelled, repriced, opt_out}
use Rattle.engine.specs.rules.Working.{Worked, work}

-- displayed and clear
unfoldable pub displayed_clear : Order → Bool
displayed_clear o = eqb o.show 1 && o.clear

-- to the price t, if that is lower
unfoldable pub move_down : ℕ → Bool → Order → Move
move_down t used o = pick (ltb t o.price) (Reprice t used) Stay

-- "Once, if not used, takes t = larger of limit and entry bid, moves if bid < t < price, and is then used"
unfoldable pub slide_once : Market → Order → Move
slide_once m o =
    let t : ℕ = max o.limit o.entry_bid in
    pick (not o.used && ltb m.bid t) (move_down t true o) Stay

-- "continuous takes t = larger of limit and permitted price, and moves if t < price. Once .."; no more and opt-out stay
unfoldable pub slide_down : Market → Order → Move
slide_down m o =
    pick (eqb o.slide 0) (move_down (max o.limit (permitted_now m)) o.used o)
    (pick (eqb o.slide 1) (slide_once m o)
    Stay)

-- "Otherwise, if adjusted"; No. 1: "With no bid a resting market short stays where it is"
unfoldable pub may_slide : Market → Order → Bool
may_slide m o = o.adjusted && not (o.market && eqb m.bid 0)

-- where a restricted order goes: "If price ≤ bid, and it is not displayed or not clear: opt-out is cancelled (cause 3), any other is
-- re-priced to the permitted price .. Otherwise, if adjusted: .."
unfoldable pub move_of : Market → Order → Move
move_of m o =
    pick (leb o.price m.bid && not (displayed_clear o))
    (pick (eqb o.slide 3) Cancel (Reprice (permitted_now m) o.used))
    (pick (may_slide m o) (slide_down m o) Stay)

-- "A re-priced order gets a new stamp, is clear"; it "becomes adjusted", or is already
abbrev pub at_new_price : ℕ → ℕ → Bool → Order → Order
at_new_price price stamp used o =
    record {
      id = o.id;
      mark = o.mark;
      limit = o.limit;
      shares = o.shares;
      show = o.show;
      life = o.life;
      slide = o.slide;
      stamp = stamp;
      price = price;
      entry_bid = o.entry_bid;
      adjusted = true;
      used = used;
      clear = true;
      market = o.market;
      owner = o.owner;
    }

-- what an event, or a part of it, has reported, and the book and the last stamp after it
pub record Effect : Type 0 where
  pub reports : List Report
  pub orders : List Order
  pub stamp : ℕ

-- an order is moved, "and matches as if it came in"; No. 7: "This holds in the pass as well"
unfoldable pub after_move : Move → Order → List Order → ℕ → Effect
after_move Stay o os s = record { reports = []; orders = os; stamp = s }
after_move Cancel o os s = record { reports = cancelled o.id o.shares opt_out ∷ []; orders = without o.id os; stamp = s }
after_move (Reprice p used) o os s =
    let w : Worked = work (at_new_price p (s + 1) used o) (without o.id os) in
    record { reports = repriced o.id p (s + 1) ∷ w.reports; orders = w.orders; stamp = s + 1 }

-- the turn of one order; one that no longer rests is skipped
unfoldable pub pass_one : Market → Option Order → List Order → ℕ → Effect
pass_one m none os s = record { reports = []; orders = os; stamp = s }
pass_one m (some o) os s = after_move (pick (restricted m o.mark) (move_of m o) Stay) o os s

-- the turns of the orders with these ids, one after the other
unfoldable pub pass_over : Market → List ℕ → List Order → ℕ → Effect
pass_over m [] os s = record { reports = []; orders = os; stamp = s }
pass_over m (i ∷ is) os s =
    let x : Effect = pass_one m (find i os) os s in
    let y : Effect = pass_over m is x.orders x.stamp in
    record { reports = x.reports ++ y.reports; orders = y.orders; stamp = y.stamp }
