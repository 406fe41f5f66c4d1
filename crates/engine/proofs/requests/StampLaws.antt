-- Stamps rise through every list of events, and the later stamp in an execution is the working order's: No. 9, and for No. 12. Assumes nothing.
use Prim.Native.Nat.{ℕ, ◌+◌, ◌<◌, min}
use native.Mathlib.Omega.{arith}
use mathlib.Core.Path.{◌≡◌, refl, sym, ◌∙◌}
use mathlib.Core.List.{List}
use mathlib.Core.Logic.{inl, inr}
use mathlib.Core.Option.{some}
use Rattle.numbers.specs.Tests.{All}
use Rattle.numbers.proofs.TestLaws.{all_map, all_both}
use Rattle.book.specs.declared.Order.{Order}
use Rattle.book.specs.rules.Orders.{without}
use Rattle.book.specs.rules.Matching.{Execution, execution, Meeting, trading, withdrawing, meeting}
use Rattle.book.proofs.definitions.OrderLaws.{Other, taken_all, all_taken, mem_taken, insert_taken, without_all, without_other}
use Rattle.book.proofs.definitions.CounterpartyLaws.{Reached}
use Rattle.book.proofs.definitions.MeetingLaws.{execution_by, trading_known, withdrawing_known, meeting_by}
use Rattle.book.proofs.definitions.MatchingLaws.{after_trade_all}
use Rattle.engine.specs.rules.Working.{order_of, happened}
use Rattle.engine.specs.rules.Pass.{at_new_price}
use Rattle.engine.specs.rules.Venue.{opened}
use Rattle.engine.specs.rules.Run.{Call, Run, run}
use Rattle.engine.specs.claims.Stamps.{Stamps, no_stamps, none_works, give_stamp, trade_in, read_stamp, reading_stamps, stamps_of, last_of, Rising, WorkingIsLater}
use Rattle.engine.proofs.demand3.TallyLaws.{set_at_same, set_at_other}
use Rattle.engine.proofs.demand3.SoundLaws.{SoundBook, SoundWork, book_distinct, book_others, book_without}
use Rattle.engine.proofs.requests.AccountLaws.{Kept, opened_reads}

-- the column says what the record of an order says
abbrev pub HasStamp : Stamps → Order → Type 0
HasStamp c o = o.stamp ≡ c.stamp o.id

-- what is given so far, s last
abbrev pub RisesTo : ℕ → Stamps → Type 0
RisesTo s c = record { last : last_of 0 c.given ≡ s; rising : Rising 0 c.given; later : All WorkingIsLater c.trades }

-- wherever no order works
pub record StampsAgree (n s : ℕ) (os : List Order) (c : Stamps) : Type 0 where
  pub known : All (HasStamp c) os
  pub rises : RisesTo s c

-- while w works: it has the last stamp, and all others have older ones
abbrev Older : ℕ → Stamps → Order → Type 0
Older s c o = HasStamp c o × (o.stamp < s)

record StampsWork (n s : ℕ) (w : Order) (os : List Order) (c : Stamps) : Type 0 where
  own : HasStamp c w
  newest : w.stamp ≡ s
  others : All (Older s c) os
  working : c.working ≡ w.id
  rises : RisesTo s c

given_rises : (k s : ℕ) (c : Stamps) → RisesTo s c → RisesTo (s + 1) (give_stamp k (s + 1) c)
given_rises k s c h = record { last = refl; rising = (omega (arith, h.last), h.rising); later = h.later }

-- an order w of any kind with the stamp s + 1, in a book without its id
module _ {g n s : ℕ} (w : Order) (os : List Order) (c : Stamps) (e : w.stamp ≡ s + 1) (b : SoundBook g n s os) (new : All (Other w.id) os) (known : All (HasStamp c) os) (rises : RisesTo s c) where
  stamp_works : (k : ℕ) → StampsWork k (s + 1) w os (give_stamp w.id (s + 1) c)
  stamp_works k =
      record {
        own = e ∙ sym (set_at_same w.id (s + 1) c.stamp);
        newest = e;
        others = all_both (λ x k z. (k.0 ∙ sym (set_at_other w.id (s + 1) c.stamp x.id z), k.1)) os older new;
        working = refl;
        rises = given_rises w.id s c rises;
      }
    where
      older : All (Older (s + 1) c) os
      older = all_both (λ x k z. (k, omega (arith, z.works.last))) os known b.orders

module _ (g n s : ℕ) (w o : Order) (os : List Order) (c : Stamps) (b : SoundWork g n s w os) (r : Reached w os (some o)) (i : StampsWork n s w os c) where
  met : Older s c o
  met = (taken_all (Older s c) (mem_taken r.0 (book_distinct b.book)) i.others).0

  -- the one that works has the later stamp
  trade_later : (q : ℕ) → WorkingIsLater (trade_in c (execution w o q))
  trade_later q =
      let l : c.stamp o.id < c.stamp w.id = omega (arith, met.0, met.1, i.own, i.newest) in
      execution_by (λ (x : Execution). WorkingIsLater (trade_in c x)) w o q (λ b. inl (sym i.working, l)) (λ b. inr (sym i.working, l))

  trading_works : let x : Meeting = trading w o os in StampsWork n s x.left x.orders (read_stamp c (happened x.happening))
  trading_works =
      let q : ℕ = min w.shares o.shares in
      rw (trading_known w o os) record {
        own = i.own;
        newest = i.newest;
        others = after_trade_all q r.0 (book_distinct b.book) (Older s c) (λ z p l h. h) i.others;
        working = i.working;
        rises = record { last = i.rises.last; rising = i.rises.rising; later = (trade_later q, i.rises.later) };
      }

  withdrawing_works : let x : Meeting = withdrawing w o os in StampsWork n s x.left x.orders (read_stamp c (happened x.happening))
  withdrawing_works =
      rw (withdrawing_known w o os) record {
        own = i.own;
        newest = i.newest;
        others = without_all (Older s c) o.id os i.others;
        working = i.working;
        rises = i.rises;
      }

  meeting_works : let x : Meeting = meeting w o os in StampsWork n s x.left x.orders (read_stamp c (happened x.happening))
  meeting_works =
      meeting_by (λ (x : Meeting). StampsWork n s x.left x.orders (read_stamp c (happened x.happening))) w o os withdrawing_works trading_works

stamps_kept : Kept reading_stamps StampsAgree StampsWork
unfolding order_of
stamps_kept =
    record {
      begins = λ n s os c h. record { known = h.known; rises = h.rises };
      enters = λ v x c a g h. stamp_works _ v.orders (none_works c) refl g.book (book_others g.book a.place.new_id) h.known h.rises (x.entry.id);
      reprices = λ g n m o os s p used c e i b h. stamp_works (at_new_price p (s + 1) used o) (without o.id os) c refl (book_without b o.id) (without_other o.id os) (without_all (HasStamp c) o.id os h.known) h.rises n;
      meets = meeting_works;
      gone = λ n s w os c i. record { known = all_map (λ x k. k.0) os i.others; rises = i.rises };
      rests = λ n s w os c i. record { known = all_taken (HasStamp c) (insert_taken w os) i.own (all_map (λ x k. k.0) os i.others); rises = i.rises };
      leaves = λ n s i os c h. record { known = without_all (HasStamp c) i os h.known; rises = h.rises };
      empties = λ n s os c h. record { known = tt; rises = h.rises };
      cancelled_unread = λ c i q cause l. refl;
      start_unread = λ c. refl;
      end_unread = λ c p. refl;
      pause_unread = λ c d p. refl;
    }

pub opened_stamps : (s close : ℕ) (cs : List Call) → let r : Run = run (opened s close) cs in StampsAgree r.venue.last_id r.venue.last_stamp r.venue.orders (stamps_of r.answered)
opened_stamps s close cs =
    opened_reads reading_stamps StampsAgree StampsWork stamps_kept s close no_stamps (record { known = tt; rises = record { last = refl; rising = tt; later = tt } }) cs
