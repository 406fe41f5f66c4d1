-- Priority and matching: document 01, "Matching: while shares remain, trade with the best opposite order that the working price
-- reaches (equal counts), for the smaller amount, at the resting order's price. Best is by price, then displayed before not, then
-- lower stamp." Document 02, No. 7, says where the resting order is cancelled instead. Assumes nothing.
use Rattle.std.specs.Prelude.{ℕ, zero, suc, min, Bool, not, ◌&&◌, ◌||◌, List, [], ◌∷◌, leb, ltb, eqb, length}
use Rattle.std.proofs.Math.Option.{Option, none, some}
use Rattle.numbers.specs.Tests.{pick}
use Rattle.book.specs.declared.Order.{Order}
use Rattle.book.specs.rules.Orders.{is_buy, reduced, without, insert}

-- the resting order o is opposite to the working order w, and w's price reaches it (equal counts)
unfoldable pub reaches : Order → Order → Bool
reaches w o = pick (is_buy w) (not (is_buy o) && leb o.price w.price) (is_buy o && leb w.price o.price)

-- a has a better price than b for the working order w: a lower one for a buy, a higher one for a sell
abbrev pub better_price : Order → Order → Order → Bool
better_price w a b = pick (is_buy w) (ltb a.price b.price) (ltb b.price a.price)

-- a is better than b for w: by price, then displayed (show 1) before not (show 0), then lower stamp
unfoldable pub better : Order → Order → Order → Bool
better w a b =
    better_price w a b
    || (eqb a.price b.price && (ltb b.show a.show
    || (eqb a.show b.show && ltb a.stamp b.stamp)))

-- the better of the best so far and o
unfoldable pub better_of : Order → Option Order → Order → Option Order
better_of w none o = some o
better_of w (some x) o = pick (better w o x) (some o) (some x)

-- the best of the best so far and those of the list that w reaches
unfoldable pub best_from : Order → Option Order → List Order → Option Order
best_from w x [] = x
best_from w x (o ∷ os) = best_from w (pick (reaches w o) (better_of w x o) x) os

-- the best order that w reaches
unfoldable pub best : Order → List Order → Option Order
best w os = best_from w none os

-- whom w meets next: nobody once no shares remain
unfoldable pub counterparty : Order → List Order → Option Order
counterparty w os = pick (eqb w.shares 0) none (best w os)

pub record Execution : Type 0 where
  pub buyer : ℕ
  pub seller : ℕ
  pub price : ℕ
  pub shares : ℕ

-- the working order w trades q shares with the resting order o, at o's price
unfoldable pub execution : Order → Order → ℕ → Execution
execution w o q =
    pick (is_buy w)
    (record { buyer = w.id; seller = o.id; price = o.price; shares = q })
    (record { buyer = o.id; seller = w.id; price = o.price; shares = q })

-- the book after q shares of its order o have traded
unfoldable pub after_trade : Order → ℕ → List Order → List Order
after_trade o q os = pick (leb o.shares q) (without o.id os) (insert (reduced q o) (without o.id os))

-- what a meeting brings about: an execution, or that the resting order is cancelled, with its id and its shares left
pub data Happening : Type 0 where
  traded : Execution → Happening
  withdrawn : ℕ → ℕ → Happening

-- one meeting of the working order w with the resting order o: what happens, and what is left of w and of the book
pub record Meeting : Type 0 where
  pub happening : Happening
  pub left : Order
  pub orders : List Order

-- they trade
unfoldable pub trading : Order → Order → List Order → Meeting
trading w o os =
    let q : ℕ = min w.shares o.shares in
    record { happening = traded (execution w o q); left = reduced q w; orders = after_trade o q os }

-- No. 7: "the resting one is cancelled .. and matching goes on"
unfoldable pub withdrawing : Order → Order → List Order → Meeting
withdrawing w o os = record { happening = withdrawn o.id o.shares; left = w; orders = without o.id os }

-- No. 7: "of the same owner above 0"
unfoldable pub same_owner : Order → Order → Bool
same_owner w o = ltb 0 w.owner && eqb w.owner o.owner

-- No. 7: "Where a working order would trade with a resting order of the same owner above 0"
unfoldable pub meeting : Order → Order → List Order → Meeting
meeting w o os = pick (same_owner w o) (withdrawing w o os) (trading w o os)

-- "in the order of happening"
pub record Matched : Type 0 where
  pub happenings : List Happening
  pub left : Order
  pub orders : List Order

-- further is matching with what a meeting leaves
unfoldable pub matching_with : (Order → List Order → Matched) → Option Order → Order → List Order → Matched
matching_with further none w os = record { happenings = []; left = w; orders = os }
matching_with further (some o) w os =
    let x : Meeting = meeting w o os in
    let m : Matched = further x.left x.orders in
    record { happenings = x.happening ∷ m.happenings; left = m.left; orders = m.orders }

-- at most n meetings
unfoldable pub matching_up_to : ℕ → Order → List Order → Matched
matching_up_to zero w os = record { happenings = []; left = w; orders = os }
matching_up_to (suc n) w os = matching_with (matching_up_to n) (counterparty w os) w os

-- each meeting takes an order out of the book or the last shares of w, so as many as there are orders are enough
unfoldable pub matching : Order → List Order → Matched
matching w os = matching_up_to (length os) w os
