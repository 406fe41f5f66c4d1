-- No. 9: the prices of a displayed short that was adjusted at its entry only fall, and stamps rise, over every list of events. Assumes nothing.
use Prim.Native.Nat.{ℕ, ◌+◌, ◌≤◌, ◌<◌, max}
use native.Mathlib.Omega.{arith}
use native.Mathlib.Decide.{ℕ_discrete}
use mathlib.Core.Path.{◌≡◌, refl, ap, sym, ◌∙◌, subst}
use mathlib.Core.Bool.{Bool, not}
use mathlib.Core.List.{List, [], map, foldl-append}
use mathlib.Core.Option.{some}
use lib.Dec.{T, leb, ltb, eqb, leb→le, le→leb, eqb→eq, T_not}
use Rattle.numbers.specs.Tests.{All}
use Rattle.numbers.proofs.TestLaws.{by_test, and_T, T_and, eq→T, ne→T, pick_no, tests, all_both}
use Rattle.prices.specs.Prices.{highest, is_step, legal}
use Rattle.book.specs.declared.Order.{Order}
use Rattle.book.specs.rules.Orders.{without}
use Rattle.book.specs.rules.Matching.{Happening, traded, withdrawn, meeting}
use Rattle.book.specs.rules.Words.{is_book}
use Rattle.book.proofs.definitions.OrderLaws.{Other, taken_all, all_taken, mem_taken, insert_taken, without_all, without_other}
use Rattle.book.proofs.definitions.MatchingLaws.{meeting_all}
use Rattle.engine.specs.declared.Market.{Market}
use Rattle.engine.specs.declared.Entry.{Entry}
use Rattle.engine.specs.declared.Move.{Move}
use Rattle.engine.specs.declared.Move.TheVariants.{Stay, Cancel, Reprice}
use Rattle.engine.specs.rules.Working.{limit_of, working_price, order_of, happened}
use Rattle.engine.specs.rules.Pass.{displayed_clear, move_down, slide_once, slide_down, move_of, at_new_price}
use Rattle.engine.specs.rules.Venue.{Venue, opened}
use Rattle.engine.specs.rules.Run.{Call, Answered, Run, run}
use Rattle.engine.specs.rules.Layout.{venue_of}
use Rattle.engine.specs.steps.Steps.{move_in_pass}
use Rattle.engine.specs.claims.Account.{set_at}
use Rattle.engine.specs.claims.Calls.{AppliedCall, Chain}
use Rattle.engine.specs.claims.Reading.{read_from}
use Rattle.engine.specs.claims.SlidPrices.{PricesGiven, limit_of_short, no_prices, before_reports, accepted_at, repriced_to, Prices, start_prices, read_price, reading_prices, prices_of, SlidAtEntry, last_price, OnlyFall, NeverRises, PricesFall, PricesOnlyFall, PricesFallInCalls, PricesOnlyFallInCalls, AdjustedIsAboveLimit}
use Rattle.engine.proofs.refinement.OpeningLaws.{opening_known, opened_book, opened_venue}
use Rattle.engine.proofs.demand3.MarketLaws.{permitted_now_above}
use Rattle.engine.proofs.demand3.TallyLaws.{set_at_same, set_at_other}
use Rattle.engine.proofs.demand3.SoundLaws.{book_distinct, book_others, book_order}
use Rattle.engine.proofs.demand3.CallLaws.{call_of, fresh_run}
use Rattle.engine.proofs.requests.AccountLaws.{KeptByEntry, KeptByRepricing, KeptByMeeting, Kept, run_reads, opened_reads, run_front}
use Rattle.engine.proofs.requests.StampLaws.{opened_stamps}

-- where an order that is displayed and clear goes: down, not under its limit, and with slide once only if it wasn't used
record MovesDown (o : Order) (p : ℕ) (used : Bool) : Type 0 where
  lower : p < o.price
  least : o.limit ≤ p
  once : o.slide ≡ 1 → T (not o.used) × T used
  slides : o.slide ≤ 1

abbrev Goes : Order → Move → Type 0
Goes o Stay = Unit {0}
Goes o Cancel = Unit {0}
Goes o (Reprice p used) = MovesDown o p used

slide_once_goes : (m : Market) (o : Order) → o.slide ≡ 1 → Goes o (slide_once m o)
unfolding slide_once move_down
slide_once_goes m o e =
    let t : ℕ = max o.limit o.entry_bid in
    by_test (Goes o) _ (λ a. by_test (Goes o) _ (λ b. record { lower = leb→le _ _ b; least = omega arith; once = λ z. ((and_T (not o.used) (ltb m.bid t) a).0, tt); slides = omega (arith, e) }) (λ b. tt)) (λ a. tt)

slide_down_goes : (m : Market) (o : Order) → Goes o (slide_down m o)
unfolding slide_down move_down
slide_down_goes m o =
    by_test
    (Goes o)
    _
    (λ a. by_test (Goes o) _ (λ b. record { lower = leb→le _ _ b; least = omega arith; once = λ z. absurd (omega tests); slides = omega tests }) (λ b. tt))
    (λ a. by_test (Goes o) _ (λ b. slide_once_goes m o (eqb→eq o.slide 1 b)) (λ b. tt))

move_goes : (m : Market) (o : Order) → o.show ≡ 1 → T o.clear → Goes o (move_in_pass m o)
unfolding move_of displayed_clear
move_goes m o e h =
    let clear : T (displayed_clear o) = T_and (eqb o.show 1) o.clear (eq→T e) h in
    by_test
    (Goes o)
    _
    (λ r. by_test (Goes o) _ (λ a. absurd (T_not (displayed_clear o) (and_T (leb o.price m.bid) (not (displayed_clear o)) a).1 clear)) (λ a. by_test (Goes o) _ (λ b. slide_down_goes m o) (λ b. tt)))
    (λ r. tt)

-- an order and what is said of it; where it was adjusted at its entry and is displayed, it is clear and not under its limit, and with slide once and not used it has
-- no re-pricing
abbrev Slid : PricesGiven → Order → Type 0
Slid g o = record { clear : T o.clear; least : o.limit ≤ o.price; unused : o.slide ≡ 1 → T (not o.used) → g.repricings ≡ [] }

abbrev SaidOf : PricesGiven → Order → Type 0
SaidOf g o =
    record {
      mark : g.mark ≡ o.mark;
      show : g.show ≡ o.show;
      slide : g.slide ≡ o.slide;
      limit : o.mark ≡ 2 → g.limit ≡ o.limit;
      price : o.price ≡ last_price g;
      slid : SlidAtEntry g → Slid g o;
    }

abbrev Knows : Prices → Order → Type 0
Knows c o = SaidOf (c o.id) o

-- of each id: its prices now, and against those, g, that it had after a front of the list
abbrev FallsIfSlid : PricesGiven → Type 0
FallsIfSlid g = SlidAtEntry g → OnlyFall g

abbrev NotAbove : PricesGiven → PricesGiven → Type 0
NotAbove g now = SlidAtEntry g → SlidAtEntry now × (last_price now ≤ last_price g)

-- n is the last id; an id above it has no prices
abbrev NoneAbove : ℕ → Prices → Type 0
NoneAbove n c = (k : ℕ) → n < k → c k ≡ no_prices

-- `then` is the column after a front of the list
module _ (then : Prices) where
  record ColumnAgrees (n : ℕ) (c : Prices) : Type 0 where
    falls : (k : ℕ) → FallsIfSlid (c k)
    lower : (k : ℕ) → NotAbove (then k) (c k)
    none : NoneAbove n c
    none_then : NoneAbove n then

  record PricesAgree (n s : ℕ) (os : List Order) (c : Prices) : Type 0 where
    known : All (Knows c) os
    column : ColumnAgrees n c

  record PricesWork (n s : ℕ) (w : Order) (os : List Order) (c : Prices) : Type 0 where
    own : Knows c w
    others : All (Knows c) os
    column : ColumnAgrees n c

  -- the place k of the column changes; no order of the book has the id k
  module _ (k : ℕ) (g : PricesGiven) (c : Prices) where
    set_others : (os : List Order) → All (Other k) os → All (Knows c) os → All (Knows (set_at k g c)) os
    set_others = all_both (λ x z h. subst (λ (y : PricesGiven). SaidOf y x) (sym (set_at_other k g c x.id z)) h)

    -- what holds of g and of every other place
    set_each : (P : ℕ → PricesGiven → Type 0) → P k g → ((j : ℕ) → P j (c j)) → (j : ℕ) → P j (set_at k g c j)
    set_each P f h j = go (ℕ_discrete j k)
      where
        go : Dec (j ≡ k) → P j (set_at k g c j)
        go (yes z) = subst (λ (i : ℕ). P i (set_at k g c i)) (sym z) (subst (P k) (sym (set_at_same k g c)) f)
        go (no z) = subst (P j) (sym (set_at_other k g c j z)) (h j)

    set_column : (n m : ℕ) → n ≤ m → k ≤ m → FallsIfSlid g → NotAbove (then k) g → ColumnAgrees n c → ColumnAgrees m (set_at k g c)
    set_column n m l i f d h =
        record {
          falls = set_each (λ j y. FallsIfSlid y) f h.falls;
          lower = set_each (λ j y. NotAbove (then j) y) d h.lower;
          none = set_each (λ j y. m < j → y ≡ no_prices) (λ z. absurd (omega (arith, z, i))) (λ j z. h.none j (omega (arith, z, l)));
          none_then = λ j z. h.none_then j (omega (arith, z, l));
        }

  price_works : (n s : ℕ) (w : Order) (os : List Order) (g : PricesGiven) (c : Prices) → All (Other w.id) os → SaidOf g w → All (Knows c) os → ColumnAgrees n (set_at w.id g c) → PricesWork n s w os (set_at w.id g c)
  price_works n s w os g c new k h d =
      record { own = subst (λ (y : PricesGiven). SaidOf y w) (sym (set_at_same w.id g c)) k; others = set_others w.id g c os new h; column = d }

-- an entry

short_limit : (e : Entry) → e.mark ≡ 2 → limit_of_short e ≡ limit_of e.mark e.price
unfolding limit_of
short_limit e z = rw (pick_no (eqb e.mark 0) highest 1 (ne→T e.mark 0 (λ x. omega (arith, z)))) refl

pub adjusted_is_above_limit : AdjustedIsAboveLimit
unfolding order_of
adjusted_is_above_limit m stamp owner e z = rw (short_limit e z) refl

-- a working price above the limit is above the bid
working_above : (m : Market) → T (is_step m.step) → (mark price : ℕ) → limit_of mark price < working_price m mark price → m.bid < working_price m mark price
unfolding working_price
working_above m is mark price =
    by_test (λ (x : ℕ). limit_of mark price < x → m.bid < x) _ (λ r l. omega (arith, permitted_now_above m is)) (λ r l. absurd (omega arith))

module _ (m : Market) (is : T (is_step m.step)) (s owner : ℕ) (e : Entry) where
  abbrev entry_prices : PricesGiven
  entry_prices = accepted_at (working_price m e.mark e.price) (before_reports e)

  entry_said : SaidOf entry_prices (order_of m s owner e)
  unfolding order_of
  entry_said =
      record {
        mark = refl;
        show = refl;
        slide = refl;
        limit = short_limit e;
        price = refl;
        slid = λ f. let l = short_limit e f.0 in record { clear = le→leb _ _ (working_above m is e.mark e.price (omega (arith, l, f.2))); least = omega (arith, l, f.2); unused = λ a b. refl };
      }

  entry_falls : FallsIfSlid entry_prices
  entry_falls f = record { falling = tt; least = tt; once = λ z. omega arith; no_more = λ z. refl; opt_out = λ z. refl }

module _ (then : Prices) where
  -- nothing was said of a new id
  new_lower : {n : ℕ} {c : Prices} (i : ℕ) (g : PricesGiven) → n < i → ColumnAgrees then n c → NotAbove (then i) g
  new_lower i g l h f = absurd (omega (arith, ap (λ (y : PricesGiven). y.accepted_price) (h.none_then i l), f.2))

  prices_enter : KeptByEntry reading_prices (PricesAgree then) (PricesWork then)
  unfolding order_of
  prices_enter v x c a g h =
      let e : Entry = x.entry in
      let i : ℕ = e.id in
      let d : Prices = start_prices (some x) c in
      let l : v.last_id < i = a.place.new_id in
      let new : All (Other i) v.orders = book_others g.book l in
      let same : before_reports e ≡ d i = sym (set_at_same i (before_reports e) c) in
      let p : ℕ = working_price v.market e.mark e.price in
      let m : Market = v.market in
      let t : ℕ = v.last_stamp + 1 in
      let begun : ColumnAgrees then i d = set_column then i (before_reports e) c v.last_id i (omega (arith, l)) (omega arith) (λ f. absurd (omega (arith, f.2))) (new_lower i (before_reports e) l h.column) h.column in
      price_works then i t _ v.orders (accepted_at p (d i)) d new
      (subst (λ (y : PricesGiven). SaidOf (accepted_at p y) (order_of m t x.owner e)) same (entry_said m g.market.step t x.owner e))
      (set_others then i (before_reports e) c v.orders new h.known)
      (set_column then i (accepted_at p (d i)) d i i (omega arith) (omega arith) (subst (λ (y : PricesGiven). FallsIfSlid (accepted_at p y)) same (entry_falls m g.market.step t x.owner e)) (new_lower i (accepted_at p (d i)) l h.column) begun)

-- a re-pricing

module _ (o : Order) (p s : ℕ) (used : Bool) (g : PricesGiven) (k : SaidOf g o) (y : SlidAtEntry g → MovesDown o p used) where
  repriced_said : SaidOf (repriced_to p g) (at_new_price p s used o)
  repriced_said =
      record {
        mark = k.mark;
        show = k.show;
        slide = k.slide;
        limit = k.limit;
        price = refl;
        slid = λ f. record { clear = tt; least = (y f).least; unused = λ a b. absurd (T_not used b ((y f).once a).1) };
      }

  repriced_falls : FallsIfSlid g → FallsIfSlid (repriced_to p g)
  repriced_falls h f =
      let z = y f in
      let slides : g.slide ≤ 1 = omega (arith, z.slides, k.slide) in
      record {
        falling = (omega (arith, z.lower, k.price), (h f).falling);
        least = (omega (arith, z.least, k.limit (sym k.mark ∙ f.0)), (h f).least);
        once = λ e. let q = sym k.slide ∙ e in rw ((k.slid f).unused q (z.once q).0) (omega arith);
        no_more = λ e. absurd (omega (arith, slides, e));
        opt_out = λ e. absurd (omega (arith, slides, e));
      }

  repriced_lower : (before : PricesGiven) → NotAbove before g → NotAbove before (repriced_to p g)
  repriced_lower before h f = let r = h f in (r.0, omega (arith, (y r.0).lower, k.price, r.1))

prices_reprice : (then : Prices) → KeptByRepricing reading_prices (PricesAgree then) (PricesWork then)
prices_reprice then g n m o os s p used c e i b h =
    let k : Knows c o = (taken_all (Knows c) (mem_taken i (book_distinct b)) h.known).0 in
    let y : SlidAtEntry (c o.id) → MovesDown o p used = λ f. subst (Goes o) e (move_goes m o (sym k.show ∙ f.1) (k.slid f).clear) in
    let given : PricesGiven = repriced_to p (c o.id) in
    price_works then n (s + 1) (at_new_price p (s + 1) used o) (without o.id os) given c (without_other o.id os)
    (repriced_said o p (s + 1) used (c o.id) k y)
    (without_all (Knows c) o.id os h.known)
    (set_column then o.id given c n n (omega arith) (book_order b i).works.id (repriced_falls o p (s + 1) used (c o.id) k y (h.column.falls o.id)) (repriced_lower o p (s + 1) used (c o.id) k y (then o.id) (h.column.lower o.id)) h.column)

-- a meeting changes nothing in it

happened_unread : (c : Prices) (x : Happening) → read_price c (happened x) ≡ c
happened_unread c (traded x) = refl
happened_unread c (withdrawn i q) = refl

prices_meet : (then : Prices) → KeptByMeeting reading_prices (PricesAgree then) (PricesWork then)
prices_meet then g n s w o os c b r i =
    let z = meeting_all (Knows c) (λ x q h. h) w o os r.0 (book_distinct b.book) i.own i.others in
    rw (happened_unread c (meeting w o os).happening) (record { own = z.0; others = z.1; column = i.column })

prices_kept : (then : Prices) → Kept reading_prices (PricesAgree then) (PricesWork then)
prices_kept then =
    record {
      begins = λ n s os c h. h;
      enters = prices_enter then;
      reprices = prices_reprice then;
      meets = prices_meet then;
      gone = λ n s w os c i. record { known = i.others; column = i.column };
      rests = λ n s w os c i. record { known = all_taken (Knows c) (insert_taken w os) i.own i.others; column = i.column };
      leaves = λ n s i os c h. record { known = without_all (Knows c) i os h.known; column = h.column };
      empties = λ n s os c h. record { known = tt; column = h.column };
      cancelled_unread = λ c i q cause l. refl;
      start_unread = λ c. refl;
      end_unread = λ c p. refl;
      pause_unread = λ c d p. refl;
    }

-- Every list

abbrev at_open : Prices
at_open k = no_prices

opened_prices : (s close : ℕ) (cs : List Call) → let r : Run = run (opened s close) cs in PricesAgree at_open r.venue.last_id r.venue.last_stamp r.venue.orders (prices_of r.answered)
opened_prices s close cs =
    opened_reads reading_prices (PricesAgree at_open) (PricesWork at_open) (prices_kept at_open) s close at_open (record { known = tt; column = record { falls = λ k f. absurd (omega (arith, f.2)); lower = λ k f. absurd (omega (arith, f.2)); none = λ k l. refl; none_then = λ k l. refl } }) cs

-- after further calls no price is above what it was
further_lower : (s close : ℕ) (cs ds : List Call) → let r : Run = run (opened s close) cs in (k : ℕ) → NotAbove (prices_of r.answered k) (read_from reading_prices (prices_of r.answered) (run r.venue ds).answered k)
further_lower s close cs ds =
    let r : Run = run (opened s close) cs in
    let c : Prices = prices_of r.answered in
    let h = opened_prices s close cs in
    (run_reads reading_prices (PricesAgree c) (PricesWork c) (prices_kept c) ds r.venue c (record { known = h.known; column = record { falls = h.column.falls; lower = λ k f. (f, omega arith); none = h.column.none; none_then = h.column.none } })).column.lower

never_rises_lem : (s close : ℕ) (cs : List Call) → NeverRises (run (opened s close) cs).answered
never_rises_lem s close cs ys zs e k f =
    let g = run_front cs (opened s close) ys zs e in
    let rest : List Answered = (run (run (opened s close) g.first).venue g.then).answered in
    let h = subst (λ (l : List Answered). NotAbove (prices_of l k) (read_from reading_prices (prices_of l) rest k)) (sym g.front) (further_lower s close g.first g.then k) in
    rw (e, foldl-append) (subst (λ (l : List Answered). NotAbove (prices_of ys k) (read_from reading_prices (prices_of ys) l k)) (sym g.behind) h f)

opened_fall : (s close : ℕ) (cs : List Call) → let r : Run = run (opened s close) cs in PricesFall r.answered r.venue.orders
opened_fall s close cs =
    let p = opened_prices s close cs in
    let t = opened_stamps s close cs in
    record {
      prices = p.column.falls;
      never_rises = never_rises_lem s close cs;
      stamps = t.rises.rising;
      later = t.rises.later;
      recorded = all_both (λ o k h. record { price = k.price; stamp = h; mark = sym k.mark; show = sym k.show; slide = sym k.slide; limit = λ z. sym (k.limit z) }) (run (opened s close) cs).venue.orders p.known t.known;
    }

pub prices_only_fall : PricesOnlyFall
prices_only_fall s close v o cs = rw (opening_known s close v o).fresh (opened_fall s close cs)

-- of calls, from words that mean a fresh venue
pub fall_from : (s close : ℕ) → T (is_step s) → T (legal s close) → {w₀ : List ℕ} → T (is_book w₀) → venue_of w₀ ≡ opened s close → (cs : List AppliedCall) (w' : List ℕ) → Chain w₀ cs w' → PricesFallInCalls cs w'
unfolding venue_of
fall_from s close i t u f cs w' c =
    let r = fresh_run s close i t u f c in
    let n : Run = run (opened s close) (map call_of cs) in
    record { read = n.answered; readable = r.readable; fall = subst (PricesFall n.answered) (sym (ap (λ (v : Venue). v.orders) r.venue)) (opened_fall s close (map call_of cs)) }

pub prices_only_fall_in_calls : PricesOnlyFallInCalls
prices_only_fall_in_calls s close i t = fall_from s close i t (opened_book s close i t) (opened_venue s close i t)
