-- What the engine's inner steps need and leave: an order that may enter, a meeting, matching, the pass and its ids. Assumes nothing.
use Rattle.std.specs.Prelude.{ℕ, zero, suc, ◌<◌, ◌≡◌, List, [], ◌∷◌, map, length, get_or}
use Rattle.numbers.specs.SevenBit.{Put}
use Rattle.numbers.specs.Tests.{pick, All}
use Rattle.book.specs.declared.Order.{Order}
use Rattle.book.specs.rules.Orders.{find}
use Rattle.book.specs.rules.Matching.{Meeting, Matched, matching}
use Rattle.book.specs.rules.Words.{empty_order, resting}
use Rattle.engine.specs.declared.Market.{Market}
use Rattle.engine.specs.declared.Entry.{Entry}
use Rattle.engine.specs.declared.Event.{Event}
use Rattle.engine.specs.declared.Event.TheVariants.{Entry as entry, OwnedEntry as owned_entry}
use Rattle.engine.specs.declared.Move.{Move}
use Rattle.engine.specs.declared.Move.TheVariants.{Stay}
use Rattle.engine.specs.rules.Market.{restricted}
use Rattle.engine.specs.rules.Reports.{Report, repriced}
use Rattle.engine.specs.rules.Working.{life_of, Worked, remainder, after_remainder, happened, work}
use Rattle.engine.specs.rules.Pass.{Effect, move_of, after_move, pass_one}
use Rattle.engine.specs.rules.Venue.{Venue, the_pass}
use Rattle.engine.specs.rules.Sound.{most_orders}
use Rattle.engine.specs.rules.Records.{reports_bytes}
use Rattle.engine.specs.steps.Memory.{Ordered, Becomes, Does, with_orders, finished}
use Rattle.engine.specs.rules.Layout.{venue_of}

-- the event of an entry and its owner, 0 for kind 1
abbrev pub entry_by : Entry → ℕ → Event
entry_by e zero = entry e
entry_by e (suc k) = owned_entry e (suc k)

-- unless an order of this life is immediate or cancel, it has a place where so many rest (No. 8)
abbrev pub HasPlace : ℕ → ℕ → Type 0
HasPlace life count = (life ≡ 1 → ⊥) → count < most_orders

-- so has the order of the entry e in the venue v
abbrev pub EntryHasPlace : Venue → Entry → Type 0
EntryHasPlace v e = HasPlace (life_of v.market e.mark e.price e.life) (length v.orders)

-- the order o may enter the book of the words w: no order rests under its id, which is above 0, and it has a place or needs none
pub record MayEnter (o : Order) (w : List ℕ) : Type 0 where
  pub ordered : Ordered w
  pub apart : All (λ (x : Order). x.id ≡ o.id → ⊥) (resting w)
  pub positive : 0 < o.id
  pub place : HasPlace o.life (length (resting w))

-- one meeting, done, and what is left of the working order
pub record Meets (w w' b b' : List ℕ) (at : ℕ) (x : Meeting) (left : Order) (end : ℕ) : Type 0 where
  pub does : Does w w' b b' at x.orders (happened x.happening ∷ []) end
  pub rests : left ≡ x.left

-- the reports of what happens in matching
abbrev pub matching_reports : Matched → List Report
matching_reports m = map happened m.happenings

-- the working order o has matched; what is left of it may enter
pub record Matches (w w' b b' : List ℕ) (at : ℕ) (o left : Order) (end : ℕ) : Type 0 where
  pub does : Does w w' b b' at (matching o (resting w)).orders (matching_reports (matching o (resting w))) end
  pub rests : left ≡ (matching o (resting w)).left
  pub enters : MayEnter left w'

-- what becomes of the remainder o
abbrev pub rested_or_cancelled : Order → List Order → Worked
rested_or_cancelled o os = after_remainder (remainder o) o os

-- what the pass does with an order of any mark
abbrev pub move_in_pass : Market → Order → Move
move_in_pass m o = pick (restricted m o.mark) (move_of m o) Stay

-- the reports of an order that is at its new price
abbrev pub repriced_reports : Order → List Order → List Report
repriced_reports x os = repriced x.id x.price x.stamp ∷ (work x os).reports

-- the turn of the order at position i
abbrev pub turn_at : Market → ℕ → List Order → ℕ → Effect
turn_at m i os s = let o : Order = get_or os i empty_order in after_move (move_in_pass m o) o os s

-- the turn of the order with the id i
abbrev pub turn_of : Market → ℕ → List Order → ℕ → Effect
turn_of m i os s = pass_one m (find i os) os s

-- the ids of the orders
abbrev pub ids_of : List Order → List ℕ
ids_of os = map (λ (o : Order). o.id) os

-- a run of words starts with them
pub record StartsWithIds (ids : List ℕ) (os : List Order) : Type 0 where
  pub there : (k : ℕ) → k < length os → get_or ids k 0 ≡ (get_or os k empty_order).id

-- the pass over the orders of the words w, in their market
abbrev pub pass_in : List ℕ → Effect
pass_in w = let v : Venue = venue_of w in the_pass v.market v

-- that pass and the end of the event, done
pub record PassesAndFinishes (w w' b b' : List ℕ) (at end : ℕ) : Type 0 where
  pub becomes : Becomes w w' (finished (venue_of w).last_id (pass_in w).stamp (with_orders (pass_in w).orders (venue_of w)))
  pub wrote : Put (reports_bytes (pass_in w).reports) at b end b'
