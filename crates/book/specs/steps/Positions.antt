-- The book's steps by position, and where a search found an order. Assumes nothing.
use Rattle.std.specs.Prelude.{ℕ, zero, suc, ◌<◌, ◌≡◌, true, List, [], ◌∷◌, ltb, length, get_or, drop, Option, Some, None}
use Rattle.std.proofs.Math.Option.{Option as Maybe, none, some}
use Rattle.numbers.specs.Tests.{pick}
use Rattle.book.specs.declared.Order.{Order}
use Rattle.book.specs.rules.Orders.{find}
use Rattle.book.specs.rules.Matching.{reaches, better_of, best_from, best}
use Rattle.book.specs.rules.Words.{empty_order}

abbrev pub remove_at {ℓ} : {A : Type ℓ} → ℕ → List A → List A
remove_at i [] = []
remove_at zero (x ∷ xs) = xs
remove_at (suc i) (x ∷ xs) = x ∷ remove_at i xs

abbrev pub insert_at {ℓ} : {A : Type ℓ} → ℕ → A → List A → List A
insert_at zero a l = a ∷ l
insert_at (suc i) a [] = a ∷ []
insert_at (suc i) a (x ∷ xs) = x ∷ insert_at i a xs

-- how many orders stand before the first with a greater id
unfoldable pub rank_of : ℕ → List Order → ℕ
rank_of id [] = 0
rank_of id (x ∷ xs) = pick (ltb id x.id) 0 (suc (rank_of id xs))

-- the order at position i has the id
abbrev pub IsIdAt : ℕ → List Order → ℕ → Type 0
IsIdAt id l i = (i < length l) × ((get_or l i empty_order).id ≡ id)

-- no order has the id, and one that has it would go to position i
abbrev pub IsGapFor : ℕ → List Order → ℕ → Type 0
IsGapFor id l i = (i ≡ rank_of id l) × (find id l ≡ none)

-- the order at a position
abbrev pub order_in : List Order → Option ℕ → Maybe Order
order_in l None = none
order_in l (Some i) = some (get_or l i empty_order)

abbrev pub Below : Option ℕ → ℕ → Type 0
Below None n = Unit {0}
Below (Some i) n = i < n

-- the position r, below n, is that of o, or absent where o is none
pub record IsAt (l : List Order) (r : Option ℕ) (n : ℕ) (o : Maybe Order) : Type 0 where
  pub is : order_in l r ≡ o
  pub below : Below r n

-- the same, of all orders
abbrev pub Found : List Order → Option ℕ → Maybe Order → Type 0
Found l r o = IsAt l r (length l) o

-- the better of the best so far and the order at i, for the working order w
abbrev pub considered : Order → List Order → Option ℕ → ℕ → Maybe Order
considered w l r i = pick (reaches w (get_or l i empty_order)) (better_of w (order_in l r) (get_or l i empty_order)) (order_in l r)

-- the best order that w reaches is the best of those from position r on, and the one at r is reached; there is none where r is absent
abbrev pub FirstReached : Order → List Order → Option ℕ → Type 0
FirstReached w l None = best w l ≡ none
FirstReached w l (Some r) = (r < length l) × (best w l ≡ best_from w none (drop r l)) × (reaches w (get_or l r empty_order) ≡ true)
