-- Orders and the book of resting orders, a list in rising id: document 01, "Orders". Assumes nothing.
use Rattle.std.specs.Prelude.{ℕ, ◌+◌, ◌-◌, Bool, List, [], ◌∷◌, ltb, eqb}
use Rattle.std.proofs.Math.Option.{Option, none, some}
use Rattle.numbers.specs.Tests.{pick}
use Rattle.book.specs.declared.Order.{Order}

-- "mark (0 buy, 1 long sell, 2 short, 3 short exempt)"
abbrev pub is_buy : Order → Bool
is_buy o = eqb o.mark 0

-- the order with q shares less: "A resting order's shares are those left"
abbrev pub reduced : ℕ → Order → Order
reduced q o =
    record {
      id = o.id;
      mark = o.mark;
      limit = o.limit;
      shares = o.shares - q;
      show = o.show;
      life = o.life;
      slide = o.slide;
      stamp = o.stamp;
      price = o.price;
      entry_bid = o.entry_bid;
      adjusted = o.adjusted;
      used = o.used;
      clear = o.clear;
      market = o.market;
      owner = o.owner;
    }

-- the order that rests under an id
unfoldable pub find : ℕ → List Order → Option Order
find i [] = none
find i (o ∷ os) = pick (eqb i o.id) (some o) (find i os)

-- the amount n where the two ids are the same, else 0
unfoldable pub if_same : ℕ → ℕ → ℕ → ℕ
if_same k j n = pick (eqb k j) n 0

-- the shares that rest under an id, "0 for an id that doesn't rest" ("The account of demand 3")
unfoldable pub resting_shares : ℕ → List Order → ℕ
resting_shares k [] = 0
resting_shares k (o ∷ os) = if_same k o.id o.shares + resting_shares k os

-- the book without the order of an id
unfoldable pub without : ℕ → List Order → List Order
without i [] = []
without i (o ∷ os) = pick (eqb i o.id) (without i os) (o ∷ without i os)

-- the book with an order in its place by id
unfoldable pub insert : Order → List Order → List Order
insert o [] = o ∷ []
insert o (x ∷ xs) = pick (ltb o.id x.id) (o ∷ x ∷ xs) (x ∷ insert o xs)
