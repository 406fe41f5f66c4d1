-- Laws of who is restricted, of the permitted price of the bid in force, and of report 7. Assumes nothing.
use Prim.Native.Nat.{ℕ, ◌≤◌, ◌<◌}
use mathlib.Core.Path.{◌≡◌}
use mathlib.Core.List.{List, [], ◌∷◌}
use lib.Dec.{T, eqb, eqb→eq}
use Rattle.numbers.proofs.TestLaws.{by_test, and_T, T_and, eq→T}
use Rattle.prices.specs.declared.TimedPrice.{TimedPrice}
use Rattle.prices.specs.Prices.{is_step, is_bid}
use Rattle.prices.specs.Pause.{direction}
use Rattle.prices.proofs.PauseLaws.{direction_few}
use Rattle.prices.specs.Restriction.{restriction_on}
use Rattle.prices.proofs.PriceLaws.{permitted_above}
use Rattle.engine.specs.declared.Market.{Market}
use Rattle.engine.specs.rules.Market.{restricted, permitted_now}
use Rattle.engine.specs.rules.Reports.{Report, pause_triggered}
use Rattle.engine.specs.rules.Venue.{direction_report, pause_report}

pub restricted_in : (m : Market) (mark : ℕ) → T (restriction_on m.phase) → mark ≡ 2 → T (restricted m mark)
unfolding restricted
restricted_in m mark t e = T_and (restriction_on m.phase) (eqb mark 2) t (eq→T e)

pub restricted_mark : (m : Market) (mark : ℕ) → T (restricted m mark) → mark ≡ 2
unfolding restricted
restricted_mark m mark t = eqb→eq mark 2 (and_T (restriction_on m.phase) (eqb mark 2) t).1

-- the step is 50 or 100, and the bid in force is a bid at it
abbrev pub HasPermitted : Market → Type 0
HasPermitted m = T (is_step m.step) × T (is_bid m.step m.bid)

pub permitted_now_above : (m : Market) → T (is_step m.step) → m.bid < permitted_now m
unfolding permitted_now
permitted_now_above m is = permitted_above m.step is m.bid

-- a new price has no report 7, or one with its direction
pub pause_by : (P : List Report → Type 0) (p : ℕ) (earlier : List TimedPrice) → P [] → ((d : ℕ) → d ≤ 2 → P (pause_triggered d p ∷ [])) → P (pause_report p earlier)
unfolding direction_report
pause_by P p earlier a b = by_test P _ (λ t. a) (λ t. b (direction p earlier) (direction_few p earlier))
