-- The record walk, place by place: the conditions in groups, stamps seen before, and the buckets by which they are looked up.
-- Assumes nothing.
use Rattle.std.specs.Prelude.{ℕ, zero, suc, ◌+◌, ◌-◌, ◌%◌, ◌<◌, ◌≡◌, Bool, false, ◌&&◌, ◌||◌, List, leb, ltb, eqb, get_or}
use Rattle.numbers.specs.Tests.{pick, conj}
use Rattle.numbers.specs.Lists.{tabulate}
use Rattle.prices.specs.Prices.{legal, is_bid}
use Rattle.book.specs.rules.Sound.{most_owner, slide_allowed, market_allowed, sound_order}
use Rattle.book.specs.rules.Words.{first_flag, past_flags, word, order_of}
use Rattle.book.specs.steps.WordSteps.{place_in}

-- the conditions on one order, in groups

unfoldable pub from_one : ℕ → ℕ → Bool
from_one x highest = leb 1 x && leb x highest

unfoldable pub codes_sound : ℕ → ℕ → ℕ → Bool
codes_sound mark life slide = eqb life 0 && (leb mark 3 && slide_allowed mark slide)

unfoldable pub prices_sound : ℕ → ℕ → ℕ → ℕ → Bool
prices_sound step limit price bid = legal step limit && (legal step price && is_bid step bid)

-- the conditions on the words of one place

-- No. 1: a market flag stands on a short with limit 1
unfoldable pub market_in : List ℕ → Bool
market_in place = market_allowed (eqb (get_or place 13 0) 1) (get_or place 1 0) (get_or place 2 0)

unfoldable pub flags_in : List ℕ → Bool
flags_in place = conj (tabulate (past_flags - first_flag) (λ k. leb (get_or place (first_flag + k) 0) 1))

-- show and the flags are each 0 or 1, and the owner is in range
unfoldable pub bits_in : List ℕ → Bool
bits_in place = leb (get_or place 4 0) 1 && (leb (get_or place 14 0) most_owner && flags_in place)

-- a place by itself and beside the id of the place before it
unfoldable pub sound_in : ℕ → ℕ → ℕ → ℕ → List ℕ → Bool
sound_in step last_id last_stamp before place =
    flags_in place && (ltb before (get_or place 0 0) && sound_order step last_id last_stamp (order_of place))

-- stamps

abbrev pub stamp_at : List ℕ → ℕ → ℕ
stamp_at w i = word w i 7

-- the stamp s is that of one of the first n places
unfoldable pub stamp_seen : List ℕ → ℕ → ℕ → Bool
stamp_seen w s zero = false
stamp_seen w s (suc n) = eqb (stamp_at w n) s || stamp_seen w s n

abbrev pub bucket_of : ℕ → ℕ
bucket_of s = s % 512

-- the last of the first n places whose stamp is in bucket b, counted from 1; 0 where there is none
unfoldable pub last_in : List ℕ → ℕ → ℕ → ℕ
last_in w b zero = 0
last_in w b (suc n) = pick (eqb (bucket_of (stamp_at w n)) b) (suc n) (last_in w b n)

-- each of the first n places knows the place before it in its bucket
abbrev pub Linked : List ℕ → List ℕ → ℕ → Type 0
Linked w links n = (j : ℕ) → j < n → get_or links j 0 ≡ last_in w (bucket_of (stamp_at w j)) j

-- the id of the place before, 0 for the first
abbrev pub id_before : List ℕ → ℕ → ℕ
id_before w zero = 0
id_before w (suc i) = word w i 0

-- place i by itself and beside the place before it
abbrev pub sound_at : ℕ → ℕ → ℕ → List ℕ → ℕ → Bool
sound_at step last_id last_stamp w i = sound_in step last_id last_stamp (id_before w i) (place_in w i)
