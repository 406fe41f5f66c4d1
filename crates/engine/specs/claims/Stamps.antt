-- The account of stamps: document 02, No. 9, "Stamps in the reports rise strictly through the whole list", and No. 12, "The later stamp in an execution is the taker". No definition
-- here names the venue. Assumes nothing.
use Rattle.std.specs.Prelude.{ℕ, ◌<◌, ◌≡◌, List, [], ◌∷◌, ◌⊎◌}
use Rattle.book.specs.rules.Matching.{Execution}
use Rattle.engine.specs.rules.Reports.{Report, accepted, executed, cancelled, repriced, restriction_starts, day_ended, pause_triggered}
use Rattle.engine.specs.rules.Run.{Answered}
use Rattle.engine.specs.claims.Account.{set_at}
use Rattle.engine.specs.claims.Reading.{Reading, read_from}

-- a report 2, with the stamps that its buyer and its seller have at that moment, and the id of the working order
pub record StampedTrade : Type 0 where
  pub execution : Execution
  pub buyer_stamp : ℕ
  pub seller_stamp : ℕ
  pub working : ℕ

-- stamp is a column: at k the stamp last given to the order with id k, 0 where there is none. working is the id of the working order, 0 where no order of the event has
-- worked yet. given are the stamps of reports 1 and 4; they and the trades have the last one first
pub record Stamps : Type 0 where
  pub stamp : ℕ → ℕ
  pub working : ℕ
  pub given : List ℕ
  pub trades : List StampedTrade

abbrev pub no_stamps : Stamps
no_stamps = record { stamp = λ k. 0; working = 0; given = []; trades = [] }

-- an accepted event begins
abbrev pub none_works : Stamps → Stamps
none_works c = record { stamp = c.stamp; working = 0; given = c.given; trades = c.trades }

-- "Report 1 or 4 .. that order is now the working one"
abbrev pub give_stamp : ℕ → ℕ → Stamps → Stamps
give_stamp k s c = record { stamp = set_at k s c.stamp; working = k; given = s ∷ c.given; trades = c.trades }

abbrev pub trade_in : Stamps → Execution → StampedTrade
trade_in c x = record { execution = x; buyer_stamp = c.stamp x.buyer; seller_stamp = c.stamp x.seller; working = c.working }

abbrev pub read_stamp : Stamps → Report → Stamps
read_stamp c (accepted k s p) = give_stamp k s c
read_stamp c (executed x) = record { stamp = c.stamp; working = c.working; given = c.given; trades = trade_in c x ∷ c.trades }
read_stamp c (cancelled k q z) = c
read_stamp c (repriced k p s) = give_stamp k s c
read_stamp c restriction_starts = c
read_stamp c (day_ended p) = c
read_stamp c (pause_triggered d p) = c

abbrev pub reading_stamps : Reading Stamps
reading_stamps = record { begin = λ x c. none_works c; read = read_stamp }

abbrev pub stamps_of : List Answered → Stamps
stamps_of xs = read_from reading_stamps no_stamps xs

-- the number given last, of a list that has the last one first; p where there is none
abbrev pub last_of : ℕ → List ℕ → ℕ
last_of p [] = p
last_of p (q ∷ qs) = q

-- each is above the one given before it, and the one given first above p
abbrev pub Rising : ℕ → List ℕ → Type 0
Rising p [] = Unit {0}
Rising p (q ∷ qs) = (last_of p qs < q) × Rising p qs

-- for No. 12, whose taker has "The later stamp in an execution": one of the two orders is the working one, and its stamp is later than the other's
abbrev pub WorkingIsLater : StampedTrade → Type 0
WorkingIsLater t =
    ((t.execution.buyer ≡ t.working) × (t.seller_stamp < t.buyer_stamp)) ⊎ ((t.execution.seller ≡ t.working) × (t.buyer_stamp < t.seller_stamp))
