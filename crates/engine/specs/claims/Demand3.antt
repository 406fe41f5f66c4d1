-- Demand 3, as one statement over every run from an opened venue. Assumes nothing.
use Rattle.std.specs.Prelude.{ℕ, ◌+◌, ◌<◌, max, min, ◌≡◌, ◌⊎◌, List, [], ◌∷◌, map, T, eqb}
use Rattle.std.proofs.Math.Option.{Option, none, some}
use Rattle.numbers.specs.Tests.{pick, All}
use Rattle.numbers.specs.Answers.{gives}
use Rattle.prices.specs.Restriction.{restriction_on}
use Rattle.book.specs.declared.Order.{Order}
use Rattle.book.specs.rules.Orders.{if_same}
use Rattle.engine.specs.rules.Venue.{Venue, opening}
use Rattle.engine.specs.rules.Run.{Call, Run, run}
use Rattle.engine.specs.claims.Account.{Fill, Account, account_of}

-- "The venue after the list gives only the resting ids, their present prices .. and the shares left"
pub record Resting : Type 0 where
  pub id : ℕ
  pub price : ℕ
  pub shares : ℕ

abbrev pub resting_of : Order → Resting
resting_of o = record { id = o.id; price = o.price; shares = o.shares }

-- the first part, of one resting order: a short not marked exempt is above the national bid, or displayed and above the bid in force
-- when it was last given its price
abbrev pub RestsLawfully : Account → Resting → Type 0
RestsLawfully a r =
    a.tallies.mark r.id ≡ 2 → (a.market.bid < r.price) ⊎ ((a.tallies.show r.id ≡ 1) × (a.tallies.bid_then r.id < r.price))

-- the second part, of one order in one execution: such a short executed with the restriction on was above the bid of its moment, or was
-- resting, displayed and traded at its own price, above the bid in force when it was last given
abbrev pub FilledLawfully : Fill → Type 0
FilledLawfully f =
    T (restriction_on (f.market.phase)) → f.mark ≡ 2 → (f.market.bid < f.price) ⊎ (T f.resting × (f.show ≡ 1) × (f.price ≡ f.last_given) × (f.bid_then < f.last_given))

-- "The best buy is the highest of these prices with mark 0 in the tally, the best sell the lowest with any other mark"
abbrev pub higher_of : ℕ → Option ℕ → Option ℕ
higher_of p none = some p
higher_of p (some q) = some (max p q)

abbrev pub lower_of : ℕ → Option ℕ → Option ℕ
lower_of p none = some p
lower_of p (some q) = some (min p q)

unfoldable pub best_buy : Account → List Resting → Option ℕ
best_buy a [] = none
best_buy a (r ∷ rs) = pick (eqb (a.tallies.mark r.id) 0) (higher_of r.price (best_buy a rs)) (best_buy a rs)

unfoldable pub best_sell : Account → List Resting → Option ℕ
best_sell a [] = none
best_sell a (r ∷ rs) = pick (eqb (a.tallies.mark r.id) 0) (best_sell a rs) (lower_of r.price (best_sell a rs))

-- "the shares left, 0 for an id that doesn't rest"
unfoldable pub shares_left : ℕ → List Resting → ℕ
shares_left k [] = 0
shares_left k (r ∷ rs) = if_same k r.id r.shares + shares_left k rs

-- the law, of what the account has and what rests
pub record Lawful (a : Account) (rs : List Resting) : Type 0 where
  pub resting : T (restriction_on (a.market.phase)) → All (RestsLawfully a) rs
  pub executions : All FilledLawfully (a.tallies.fills)
  pub uncrossed : (p q : ℕ) → best_buy a rs ≡ some p → best_sell a rs ≡ some q → p < q
  pub shares : (k : ℕ) → a.tallies.entered k ≡ a.tallies.executed k + a.tallies.cancelled k + shares_left k rs
  pub last_given : All (λ (r : Resting). r.price ≡ a.tallies.last_given r.id) rs

-- for every step and close that open takes and every list of events, each lent a report buffer of any length, the account being fed the close,
-- the events and their answers, and carrying the step, which neither it nor the law reads
abbrev pub Demand3 : Type 0
Demand3 =
    (s close : ℕ) (v : Venue) → opening s close ≡ gives v → (cs : List Call) →
    let r : Run = run v cs in
    Lawful (account_of s close r.answered) (map resting_of r.venue.orders)
