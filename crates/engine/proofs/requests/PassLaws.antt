-- What the pass reads of a market: the bid, whether the restriction is on, and the permitted price; and what it keeps. Assumes nothing.
use Prim.Native.Nat.{ℕ, ◌+◌}
use mathlib.Core.Path.{◌≡◌, refl}
use mathlib.Core.Bool.{Bool}
use mathlib.Core.List.{List, [], ◌∷◌, map, foldl, foldl-append, Memᴰ}
use mathlib.Core.Option.{Option, none, some}
use Rattle.numbers.specs.Tests.{All}
use Rattle.prices.specs.Restriction.{restriction_on}
use Rattle.book.specs.declared.Order.{Order}
use Rattle.book.specs.rules.Orders.{find, without}
use Rattle.book.proofs.definitions.OrderLaws.{id_of, Distinct, taken_all, mem_taken, without_all, without_differ, Found, find_found}
use Rattle.book.proofs.definitions.MatchingLaws.{KeptReduced}
use Rattle.engine.specs.declared.Market.{Market}
use Rattle.engine.specs.declared.Move.{Move}
use Rattle.engine.specs.declared.Move.TheVariants.{Stay, Cancel, Reprice}
use Rattle.engine.specs.rules.Market.{restricted, permitted_now}
use Rattle.engine.specs.rules.Reports.{Report}
use Rattle.engine.specs.rules.Pass.{slide_once, slide_down, may_slide, move_of, at_new_price, Effect, after_move, pass_one, pass_over}
use Rattle.engine.specs.rules.Venue.{Venue, the_pass}
use Rattle.engine.specs.steps.Steps.{move_in_pass}
use Rattle.engine.proofs.demand3.MarketLaws.{HasPermitted}
use Rattle.engine.proofs.demand3.SoundLaws.{SoundBook, book_distinct, pass_one_sound}
use Rattle.engine.proofs.demand3.WorkingKeeps.{work_all}

module _ (m n : Market) (bid : m.bid ≡ n.bid) (on : restriction_on m.phase ≡ restriction_on n.phase) (price : permitted_now m ≡ permitted_now n) where
  same_turn : (x : Option Order) (os : List Order) (s : ℕ) → pass_one m x os s ≡ pass_one n x os s
  unfolding pass_one move_of slide_down slide_once may_slide restricted
  same_turn none os s = refl
  same_turn (some o) os s = rw (price, on, bid)

  pub same_pass : (is : List ℕ) (os : List Order) (s : ℕ) → pass_over m is os s ≡ pass_over n is os s
  unfolding pass_over
  same_pass [] os s = refl
  same_pass (i ∷ is) os s = rw (same_turn (find i os) os s, same_pass is)

-- what each turn of the pass keeps, of the book, the last stamp and an account that reads its reports, the pass keeps

-- a claim of the last stamp, the book and an account, after an effect whose reports were read
abbrev pub AfterReading : {A : Type 0} → (A → Report → A) → (ℕ → List Order → A → Type 0) → Effect → A → Type 0
AfterReading read I x c = I x.stamp x.orders (foldl read c x.reports)

module _ {A : Type 0} (read : A → Report → A) (m : Market) (n : ℕ) (I : ℕ → List Order → A → Type 0) where
  abbrev pub ReadByTurn : Type 0
  ReadByTurn = (x : Order) (os : List Order) (s : ℕ) (c : A) → Memᴰ x os → SoundBook m.step n s os → I s os c → AfterReading read I (after_move (move_in_pass m x) x os s) c

  pass_over_reads : HasPermitted m → ReadByTurn → (is : List ℕ) (os : List Order) (s : ℕ) (c : A) → SoundBook m.step n s os → I s os c → AfterReading read I (pass_over m is os s) c
  unfolding pass_over pass_one
  pass_over_reads t k [] os s c b h = h
  pass_over_reads t k (i ∷ is) os s c b h =
      let x : Effect = pass_one m (find i os) os s in
      let f = find_found i os in
      rw foldl-append (pass_over_reads t k is x.orders x.stamp (foldl read c x.reports) (pass_one_sound m t n i (find i os) os s f b).0 (turn (find i os) f))
    where
      turn : (x : Option Order) → Found i os x → AfterReading read I (pass_one m x os s) c
      turn none f = h
      turn (some x) f = k x os s c f.0 b h

-- of the book alone
abbrev pub KeptByTurn : Market → ℕ → (List Order → Type 0) → Type 0
KeptByTurn m n I = (x : Order) (os : List Order) (s : ℕ) → Memᴰ x os → SoundBook m.step n s os → I os → I (after_move (move_in_pass m x) x os s).orders

module _ (m : Market) (v : Venue) (t : HasPermitted m) (b : SoundBook m.step v.last_id v.last_stamp v.orders) where
  pub the_pass_reads : {A : Type 0} (read : A → Report → A) (I : ℕ → List Order → A → Type 0) → ReadByTurn read m v.last_id I → (c : A) → I v.last_stamp v.orders c → AfterReading read I (the_pass m v) c
  unfolding the_pass
  the_pass_reads read I k c h = pass_over_reads read m v.last_id I t k (map id_of v.orders) v.orders v.last_stamp c b h

  pub the_pass_turns : (I : List Order → Type 0) → KeptByTurn m v.last_id I → I v.orders → I (the_pass m v).orders
  the_pass_turns I k h = the_pass_reads {A = Unit {0}} (λ c r. c) (λ s os c. I os) (λ x os s c. k x os s) tt h

-- what holds of an order whatever its shares, price and stamp holds of all orders after the pass where it did before

module _ (P : Order → Type 0) (shares : KeptReduced P) (price : (p s : ℕ) (used : Bool) (o : Order) → P o → P (at_new_price p s used o)) where
  pub after_move_all : {step n : ℕ} (x : Order) (os : List Order) (s : ℕ) (y : Move) → Memᴰ x os → SoundBook step n s os → All P os → All P (after_move y x os s).orders
  unfolding after_move
  after_move_all x os s Stay h b f = f
  after_move_all x os s Cancel h b f = without_all P x.id os f
  after_move_all x os s (Reprice p used) h b f =
      let d : Distinct os = book_distinct b in
      work_all P shares _ (without x.id os) (without_differ id_of x.id os d) (price p (s + 1) used x (taken_all P (mem_taken h d) f).0) (without_all P x.id os f)

  pub the_pass_all : (m : Market) (v : Venue) → HasPermitted m → SoundBook m.step v.last_id v.last_stamp v.orders → All P v.orders → All P (the_pass m v).orders
  the_pass_all m v t b f = the_pass_turns m v t b (All P) (λ x os s h c k. after_move_all x os s (move_in_pass m x) h c k) f
