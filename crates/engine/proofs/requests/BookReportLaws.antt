-- What is true of every execution, cancellation and re-pricing is true of each report of a working order and of the pass. Assumes nothing.
use Prim.Native.Nat.{ℕ}
use mathlib.Core.List.{List, [], ◌∷◌, map}
use mathlib.Core.Option.{Option, none, some}
use Rattle.numbers.specs.Tests.{All}
use Rattle.numbers.proofs.TestLaws.{all_append}
use Rattle.book.specs.declared.Order.{Order}
use Rattle.book.specs.rules.Orders.{find}
use Rattle.book.specs.rules.Matching.{Execution, Happening, traded, withdrawn, matching}
use Rattle.engine.specs.declared.Market.{Market}
use Rattle.engine.specs.declared.Remainder.{Remainder}
use Rattle.engine.specs.declared.Remainder.TheVariants.{Filled, Cancelled, Rests}
use Rattle.engine.specs.declared.Move.{Move}
use Rattle.engine.specs.declared.Move.TheVariants.{Stay, Cancel, Reprice}
use Rattle.engine.specs.rules.Reports.{Report, executed, cancelled, repriced, cause_number}
use Rattle.engine.specs.rules.Working.{remainder, after_remainder, happened, work}
use Rattle.engine.specs.rules.Pass.{after_move, pass_one, pass_over}
use Rattle.engine.specs.rules.Venue.{Venue, the_pass}

module _ (P : Report → Type 0) (a : (x : Execution) → P (executed x)) (b : (i q z : ℕ) → P (cancelled i q z)) (c : (i p s : ℕ) → P (repriced i p s)) where
  happenings_each : (xs : List Happening) → All P (map happened xs)
  happenings_each [] = tt
  happenings_each (traded x ∷ xs) = (a x, happenings_each xs)
  happenings_each (withdrawn i q ∷ xs) = (b i q _, happenings_each xs)

  remainder_each : (r : Remainder) (o : Order) (os : List Order) → All P (after_remainder r o os).reports
  unfolding after_remainder
  remainder_each Filled o os = tt
  remainder_each (Cancelled cause) o os = (b _ _ (cause_number cause), tt)
  remainder_each Rests o os = tt

  pub work_each : (o : Order) (os : List Order) → All P (work o os).reports
  unfolding work
  work_each o os =
      all_append P (map happened (matching o os).happenings) _ (happenings_each (matching o os).happenings) (remainder_each (remainder (matching o os).left) (matching o os).left (matching o os).orders)

  move_each : (y : Move) (o : Order) (os : List Order) (s : ℕ) → All P (after_move y o os s).reports
  unfolding after_move
  move_each Stay o os s = tt
  move_each Cancel o os s = (b _ _ _, tt)
  move_each (Reprice p used) o os s = (c _ p _, work_each _ _)

  turn_each : (m : Market) (x : Option Order) (os : List Order) (s : ℕ) → All P (pass_one m x os s).reports
  unfolding pass_one
  turn_each m none os s = tt
  turn_each m (some o) os s = move_each _ o os s

  over_each : (m : Market) (is : List ℕ) (os : List Order) (s : ℕ) → All P (pass_over m is os s).reports
  unfolding pass_over
  over_each m [] os s = tt
  over_each m (i ∷ is) os s = all_append P (pass_one m (find i os) os s).reports _ (turn_each m (find i os) os s) (over_each m is _ _)

  pub pass_each : (m : Market) (v : Venue) → All P (the_pass m v).reports
  unfolding the_pass
  pass_each m v = over_each m _ v.orders v.last_stamp
