-- What writing header words, taking orders out and keeping a price does to the venue of the words. Assumes nothing.
use Prim.Native.Nat.{ℕ, ◌+◌, ◌≤◌, ◌<◌}
use native.Mathlib.Omega.{arith}
use mathlib.Core.Path.{◌≡◌, refl, ap, ◌∙◌, subst}
use mathlib.Core.List.{List}
use lib.Dec.{T, eqb, eqb→eq}
use lib.ListN.{length, get_or, length-set}
use lib.Seq.{get_or-set_same, get_or-set_other}
use Rattle.numbers.specs.Tests.{pick}
use Rattle.numbers.proofs.TestLaws.{by_test, neqb}
use Rattle.prices.specs.declared.TimedPrice.{TimedPrice}
use Rattle.prices.specs.KeptWords.{kept_in, KeepsNew}
use Rattle.prices.proofs.KeptWordLaws.{kept_same}
use Rattle.book.specs.declared.Order.{Order}
use Rattle.book.specs.rules.Sound.{ids_rise}
use Rattle.book.specs.rules.Words.{header_words, book_words, resting}
use Rattle.book.specs.steps.BookSteps.{Holds, HeaderSet}
use Rattle.book.proofs.refinement.HoldsLaws.{book_same}
use Rattle.engine.specs.declared.Market.{Market}
use Rattle.engine.specs.rules.Venue.{Venue}
use Rattle.engine.specs.rules.Reports.{Report}
use Rattle.engine.specs.claims.Calls.{SameSpare}
use Rattle.engine.specs.steps.Memory.{Ordered, Becomes, Does, in_market, with_orders, finished}
use Rattle.engine.specs.rules.Venue.{with_kept}
use Rattle.engine.specs.rules.Layout.{venue_of}

-- a venue by its parts
venue_as : (w : List ℕ) (v : Venue) → get_or w 1 0 ≡ v.market.close → get_or w 2 0 ≡ v.market.phase → get_or w 3 0 ≡ v.market.bid → resting w ≡ v.orders → get_or w 4 0 ≡ v.last_id → get_or w 5 0 ≡ v.last_stamp → get_or w 6 0 ≡ v.accepted_events → get_or w 7 0 ≡ v.market.step → kept_in w book_words (get_or w 8 0) ≡ v.kept → venue_of w ≡ v
unfolding venue_of
venue_as w v a b c d e f g h k = λ i.
    record {
      market = record { close = a i; phase = b i; bid = c i; step = h i };
      orders = d i;
      kept = k i;
      last_id = e i;
      last_stamp = f i;
      accepted_events = g i;
    }

-- the kept prices, by the words that have them
kept_as : (w w' : List ℕ) → get_or w' 8 0 ≡ get_or w 8 0 → ((j : ℕ) → book_words ≤ j → get_or w' j 0 ≡ get_or w j 0) → kept_in w' book_words (get_or w' 8 0) ≡ kept_in w book_words (get_or w 8 0)
kept_as w w' e h = ap (kept_in w' book_words) e ∙ kept_same w w' book_words (get_or w 8 0) h

-- one step after another

pub spare_same : (w : List ℕ) → SameSpare w w
spare_same w = record { size = refl; step = refl; spare = λ j h k. refl; behind = λ j h. refl }

pub spare_then : {w w₁ w' : List ℕ} → SameSpare w w₁ → SameSpare w₁ w' → SameSpare w w'
spare_then a b =
    record { size = b.size ∙ a.size; step = b.step ∙ a.step; spare = λ j l h. b.spare j l h ∙ a.spare j l h; behind = λ j h. b.behind j h ∙ a.behind j h }

pub becomes_then : {w w₁ w' : List ℕ} {u v : Venue} → Becomes w w₁ u → Becomes w₁ w' v → Becomes w w' v
becomes_then a b = record { ordered = b.ordered; venue = b.venue; same = spare_then a.same b.same }

pub becomes_as : {w w' : List ℕ} {u v : Venue} → Becomes w w' u → u ≡ v → Becomes w w' v
becomes_as a e = record { ordered = a.ordered; venue = a.venue ∙ e; same = a.same }

-- orders under the same header

pub holds_becomes : {w w' : List ℕ} {os : List Order} → T (ids_rise 0 os) → Holds w w' os → Becomes w w' (with_orders os (venue_of w))
unfolding venue_of
holds_becomes {w} {w'} {os} t h =
    record {
      ordered = record { book = h.book; rises = rw h.rests t };
      venue = venue_as w' (with_orders os (venue_of w)) (k 1 (omega arith) (omega arith)) (k 2 (omega arith) (omega arith)) (k 3 (omega arith) (omega arith)) h.rests (k 4 (omega arith) (omega arith)) (k 5 (omega arith) (omega arith)) (k 6 (omega arith) (omega arith)) (k 7 (omega arith) (omega arith)) (kept_as w w' (k 8 (omega arith) (omega arith)) h.behind);
      same = record { size = h.size; step = k 7 (omega arith) (omega arith); spare = λ j l s. h.header j (omega arith) s; behind = λ j l. h.behind j (omega arith) };
    }
  where
    k : (j : ℕ) → 0 < j → j < header_words → get_or w' j 0 ≡ get_or w j 0
    k = h.header

-- a step of the engine, as what the words become
pub does_becomes : {w w' b b' : List ℕ} {at e : ℕ} {os : List Order} {rs : List Report} → Does w w' b b' at os rs e → Becomes w w' (with_orders os (venue_of w))
does_becomes {w} {w'} {os = os} d =
    holds_becomes
    (subst (λ (l : List Order). T (ids_rise 0 l)) d.orders d.ordered.rises)
    (record { book = d.ordered.book; rests = d.orders; size = d.same.size; header = d.same.header; behind = d.same.behind })

-- a header word

module _ {w w' : List ℕ} {k x : ℕ} (h : HeaderSet w w' k x) where
  word_at : Ordered w → k < header_words → get_or w' k 0 ≡ x
  word_at o l = ap (λ (v : List ℕ). get_or v k 0) h.is ∙ get_or-set_same w k x 0 (omega (arith, o.book.long))

  word_other : (j : ℕ) → (j ≡ k → ⊥) → get_or w' j 0 ≡ get_or w j 0
  word_other j n = ap (λ (v : List ℕ). get_or v j 0) h.is ∙ get_or-set_other w k j x 0 n

-- the venue with header word k set to x
abbrev with_word : ℕ → ℕ → Venue → Venue
with_word k x v =
    let at : ℕ → ℕ → ℕ = λ j y. pick (eqb j k) x y in
    record {
      market = record { close = at 1 (v.market.close); phase = at 2 (v.market.phase); bid = at 3 (v.market.bid); step = v.market.step };
      orders = v.orders;
      kept = v.kept;
      last_id = at 4 v.last_id;
      last_stamp = at 5 v.last_stamp;
      accepted_events = at 6 v.accepted_events;
    }

word_set : {w w' : List ℕ} {k x : ℕ} → k < 7 → Ordered w → HeaderSet w w' k x → Becomes w w' (with_word k x (venue_of w))
unfolding venue_of
word_set {w} {w'} {k} {x} l o h =
    record {
      ordered = record { book = h.book; rises = rw h.rests o.rises };
      venue = venue_as w' (with_word k x (venue_of w)) (at 1) (at 2) (at 3) h.rests (at 4) (at 5) (at 6) (word_other h 7 (λ e. omega arith)) (kept_as w w' (word_other h 8 (λ e. omega arith)) (λ j a. word_other h j (λ e. omega arith)));
      same =
          record {
            size = ap length h.is ∙ length-set w k x;
            step = word_other h 7 (λ e. omega arith);
            spare = λ j a b. word_other h j (λ e. omega arith);
            behind = λ j a. word_other h j (λ e. omega arith);
          };
    }
  where
    at : (j : ℕ) → get_or w' j 0 ≡ pick (eqb j k) x (get_or w j 0)
    at j =
        by_test (λ (y : ℕ). get_or w' j 0 ≡ y) (eqb j k) (λ t. ap (λ (i : ℕ). get_or w' i 0) (eqb→eq j k t) ∙ word_at h o (omega arith)) (λ t. word_other h j (neqb j k t))

-- the kept prices

-- another number of them is counted
pub kept_counted : {w w' : List ℕ} {n : ℕ} → Ordered w → HeaderSet w w' 8 n → Becomes w w' (with_kept (kept_in w book_words n) (venue_of w))
unfolding venue_of
kept_counted {w} {w'} {n} o h =
    let other : (j : ℕ) → (j ≡ 8 → ⊥) → get_or w' j 0 ≡ get_or w j 0 = word_other h in
    record {
      ordered = record { book = h.book; rises = rw h.rests o.rises };
      venue = venue_as w' (with_kept (kept_in w book_words n) (venue_of w)) (other 1 (λ e. omega arith)) (other 2 (λ e. omega arith)) (other 3 (λ e. omega arith)) h.rests (other 4 (λ e. omega arith)) (other 5 (λ e. omega arith)) (other 6 (λ e. omega arith)) (other 7 (λ e. omega arith)) (ap (kept_in w' book_words) (word_at h o (omega arith)) ∙ kept_same w w' book_words n (λ j l. other j (λ e. omega arith)));
      same =
          record {
            size = ap length h.is ∙ length-set w 8 n;
            step = other 7 (λ e. omega arith);
            spare = λ j a b. other j (λ e. omega arith);
            behind = λ j a. other j (λ e. omega arith);
          };
    }

-- a new one stands behind those from a position on, before it is counted
pub new_kept : {w w₁ : List ℕ} {from n : ℕ} {x : TimedPrice} → Ordered w → KeepsNew w w₁ book_words from n x → Becomes w w₁ (with_kept (kept_in w₁ book_words (get_or w 8 0)) (venue_of w))
unfolding venue_of
new_kept {w} {w₁} o k =
    let b = book_same w w₁ o.book k.size k.below in
    let at : (j : ℕ) → j < header_words → get_or w₁ j 0 ≡ get_or w j 0 = λ j l. k.below j (omega arith) in
    record {
      ordered = record { book = b.0; rises = rw b.1 o.rises };
      venue = venue_as w₁ (with_kept (kept_in w₁ book_words (get_or w 8 0)) (venue_of w)) (at 1 (omega arith)) (at 2 (omega arith)) (at 3 (omega arith)) b.1 (at 4 (omega arith)) (at 5 (omega arith)) (at 6 (omega arith)) (at 7 (omega arith)) (ap (kept_in w₁ book_words) (at 8 (omega arith)));
      same = record { size = k.size; step = at 7 (omega arith); spare = λ j l h. at j h; behind = k.behind };
    }

-- the header words of an event

pub market_set : {w w₁ w₂ w' : List ℕ} (m : Market) → Ordered w → m.step ≡ (venue_of w).market.step → HeaderSet w w₁ 1 m.close → HeaderSet w₁ w₂ 2 m.phase → HeaderSet w₂ w' 3 m.bid → Becomes w w' (in_market m (venue_of w))
unfolding pick
market_set m o e f g h =
    let a = word_set (omega arith) o f in
    let b = word_set (omega arith) a.ordered g in
    let c = word_set (omega arith) b.ordered h in
    becomes_as (becomes_then a (becomes_then b c)) (rw (b.venue, a.venue, e))

pub events_counted : {w w' : List ℕ} {n : ℕ} → Ordered w → n ≡ get_or w 6 0 → HeaderSet w w' 6 (n + 1) → let v = venue_of w in Becomes w w' (finished v.last_id v.last_stamp v)
unfolding venue_of pick
events_counted o e h = becomes_as (word_set (omega arith) o h) (rw e)

-- the venue with a last id and a last stamp
abbrev pub with_ids : ℕ → ℕ → Venue → Venue
with_ids id stamp v =
    record { market = v.market; orders = v.orders; kept = v.kept; last_id = id; last_stamp = stamp; accepted_events = v.accepted_events }

pub ids_set : {w w₁ w' : List ℕ} {id stamp : ℕ} → Ordered w → HeaderSet w w₁ 4 id → HeaderSet w₁ w' 5 stamp → Becomes w w' (with_ids id stamp (venue_of w))
unfolding pick
ids_set o f g =
    let a = word_set (omega arith) o f in
    let b = word_set (omega arith) a.ordered g in
    becomes_as (becomes_then a b) (rw a.venue)

pub event_finished : {w w₁ w' : List ℕ} {id stamp : ℕ} → Becomes w w₁ (with_ids id stamp (venue_of w)) → Becomes w₁ w' (finished (venue_of w₁).last_id (venue_of w₁).last_stamp (venue_of w₁)) → Becomes w w' (finished id stamp (venue_of w))
event_finished a b = becomes_as (becomes_then a b) (rw a.venue)
